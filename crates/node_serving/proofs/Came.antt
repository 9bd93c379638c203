-- What a packet says that a connection is given.
use Rattle.std.proofs.Common.{◌≡◌, ℕ, zero, suc, ◌+◌, ◌-◌, ◌<◌, ◌≤◌, ◌^◌, ◌==◌, ◌&&◌, ap, subst, Ok, None, Some, List, [], ◌∷◌, length, take, drop, slice_index, arith, length-drop}
use Rattle.seq_arith.specs.Bytes.{word_at, long_at}
use Rattle.seq_arith.specs.Packet.{Segment}
use Rattle.seq_arith.specs.PacketGrammar.{reading, payload_at, head_in, segment_in, options_in, timestamps_in}
use Rattle.segment_codec.proofs.Accepting.{packet_is_short, start_is_there}
use Rattle.ft_model.specs.Offset.{IsNear}
use Rattle.ft_model.specs.Point.{Point}
use Rattle.connection_laws.specs.Turn.{SegmentFits}
use Rattle.node_serving.proofs.Turned.{packet_is}
use Rattle.ft_io.proofs.Choices.{holds_if}
use Rattle.wrapped_conn.proofs.SoundAgain.{AreShort}
use Rattle.wrapped_conn.proofs.Stamping.{is_accepted}

long_low : (bytes : List ℕ) (at : ℕ) → ((i : ℕ) → slice_index bytes i < 256) → long_at bytes at < 2 ^ 32
unfolding long_at
long_low bytes at small = omega (arith, small at, small (at + 1), small (at + 2), small (at + 3))

word_low : (bytes : List ℕ) (at : ℕ) → ((i : ℕ) → slice_index bytes i < 256) → word_at bytes at ≤ 65535
unfolding word_at
word_low bytes at small = omega (arith, small at, small (at + 1))

pub packet_fits : (bytes : List ℕ) (segment : Segment) → reading bytes ≡ Ok segment → length bytes ≤ 1500
packet_fits bytes segment reads = packet_is_short bytes (is_accepted bytes segment reads)

pub text_fits : (bytes : List ℕ) (segment : Segment) → reading bytes ≡ Ok segment → length segment.payload ≤ 1460
unfolding segment_in
text_fits bytes segment reads =
    let ok = is_accepted bytes segment reads in
    let size = length-drop (payload_at bytes) bytes in
    let long = packet_is_short bytes ok in
    let start = start_is_there bytes ok in
    let short : length (drop (payload_at bytes) bytes) ≤ 1460 = omega (arith, size, long, start.0) in
    subst (λ xs. length xs ≤ 1460) (ap (λ (s : Segment). s.payload) (packet_is bytes segment reads)) short

-- the timestamps of a packet are numbers of 32 bits
none_small : (i : ℕ) → slice_index [] i < 256
none_small zero = omega arith
none_small (suc i) = omega arith

drop_small : (n : ℕ) (bytes : List ℕ) → ((i : ℕ) → slice_index bytes i < 256) → (i : ℕ) → slice_index (drop n bytes) i < 256
drop_small zero bytes small = small
drop_small (suc n) [] small = none_small
drop_small (suc n) (byte ∷ bytes) small = drop_small n bytes (λ i. small (suc i))

take_small : (n : ℕ) (bytes : List ℕ) → ((i : ℕ) → slice_index bytes i < 256) → (i : ℕ) → slice_index (take n bytes) i < 256
take_small zero bytes small i = none_small i
take_small (suc n) [] small i = none_small i
take_small (suc n) (byte ∷ bytes) small zero = small zero
take_small (suc n) (byte ∷ bytes) small (suc i) = take_small n bytes (λ j. small (suc j)) i

in_short : (before : ℕ) (bytes : List ℕ) → ((i : ℕ) → slice_index bytes i < 256) → AreShort (timestamps_in before bytes)
in_short zero [] small = tt
in_short (suc before) [] small = tt
in_short (suc before) (byte ∷ bytes) small = in_short before bytes (λ i. small (suc i))
in_short zero (kind ∷ bytes) small =
    let rest : (i : ℕ) → slice_index bytes i < 256 = λ i. small (suc i) in
    holds_if AreShort (kind == 0) None _ (λ t. tt)
    (λ t. holds_if AreShort (kind == 1) (timestamps_in 0 bytes) _ (λ u. in_short 0 bytes rest)
    (λ u. holds_if AreShort ((kind == 8) && (slice_index bytes 0 == 10)) (Some (record { value = long_at bytes 1; echo = long_at bytes 5 })) _
    (λ v. (long_low bytes 1 rest, long_low bytes 5 rest)) (λ v. in_short (slice_index bytes 0 - 1) bytes rest)))

pub stamps_short : (bytes : List ℕ) (segment : Segment) → ((i : ℕ) → slice_index bytes i < 256) → reading bytes ≡ Ok segment → AreShort segment.head.timestamps
unfolding segment_in head_in options_in
stamps_short bytes segment small reads =
    subst AreShort (ap (λ (s : Segment). s.head.timestamps) (packet_is bytes segment reads))
    (in_short 0 (take (payload_at bytes - 40) (drop 40 bytes)) (take_small (payload_at bytes - 40) (drop 40 bytes) (drop_small 40 bytes small)))

pub fits : (p : Point) (bytes : List ℕ) (segment : Segment) → ((i : ℕ) → slice_index bytes i < 256) → reading bytes ≡ Ok segment → IsNear p.cisn p.sisn segment → SegmentFits p segment
unfolding segment_in head_in
fits p bytes segment small reads near =
    let is = packet_is bytes segment reads in
    let few = text_fits bytes segment reads in record {
      ack = subst (λ n. n < 2 ^ 32) (ap (λ (s : Segment). s.head.ack) is) (long_low bytes 28 small);
      seq = subst (λ n. n < 2 ^ 32) (ap (λ (s : Segment). s.head.seq) is) (long_low bytes 24 small);
      window = subst (λ n. n ≤ 65535) (ap (λ (s : Segment). s.head.window) is) (word_low bytes 34 small);
      text = omega (arith, few);
      near = λ has. (near.ack has).0;
    }
