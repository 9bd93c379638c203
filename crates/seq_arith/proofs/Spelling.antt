-- A spelling says its segment: each test of the grammar fails at it, and each field is read where it was put.
use Rattle.std.proofs.Common.{◌≡◌, ℕ, ◌<◌, ◌+◌, ◌*◌, ◌/◌, ◌%◌, ◌^◌, false, not, List, ◌++◌, length, length-append, take, drop, ap, refl, sym, arith, ◌∙◌}
use Rattle.std.specs.Prelude.{Option, None, Some, Ok, IfSome, slice_index, nat_eq}
use Rattle.std.proofs.lemmas.Bool.{le-ltb, or_from}
use Rattle.seq_arith.specs.Bytes.{two, four, word_at, long_at}
use Rattle.seq_arith.specs.Checksum.{checksum}
use Rattle.seq_arith.specs.declared.options.Timestamps.{Timestamps}
use Rattle.seq_arith.specs.Packet.{Segment}
use Rattle.seq_arith.specs.PacketGrammar.{payload_at, options_in, has_bad_option, mss_in, timestamps_in, tcp_text, ip_tests, tcp_tests, head_in, segment_in, reading, mss_option, timestamps_option, options_of, packet_length, spelled, spelling, IsSpellable}
use Rattle.seq_arith.proofs.Sums.{checked_in_place}
use Rattle.seq_arith.proofs.Passing.{AllFail, passes, no_difference}

-- the fields of a spelling, whatever its checksums
pub word_back : (n : ℕ) → n < 2 ^ 16 → 256 * (n / 256 % 256) + n % 256 ≡ n
word_back n h = omega arith

pub long_back : (n : ℕ) → n < 2 ^ 32 → 16777216 * (n / 16777216 % 256) + 65536 * (n / 65536 % 256) + 256 * (n / 256 % 256) + n % 256 ≡ n
long_back n h = omega arith

-- a segment with these options, to go by cases on them
abbrev with_options : Option ℕ → Option Timestamps → Segment → Segment
with_options mss timestamps segment = record segment { head = record segment.head { mss = mss; timestamps = timestamps } }

pub size_of : (segment : Segment) (ip tcp : ℕ) → length (spelled segment ip tcp) ≡ packet_length segment
unfolding spelled two four
size_of segment ip tcp = omega (arith, length-append (options_of segment.head) segment.payload)

payload_at_of : (mss : Option ℕ) (timestamps : Option Timestamps) (segment : Segment) (ip tcp : ℕ)
    → payload_at (spelled (with_options mss timestamps segment) ip tcp) ≡ 40 + length (mss_option mss ++ timestamps_option timestamps)
unfolding spelled two four payload_at
payload_at_of None None segment ip tcp = refl
payload_at_of (Some mss) None segment ip tcp = refl
payload_at_of None (Some timestamps) segment ip tcp = refl
payload_at_of (Some mss) (Some timestamps) segment ip tcp = refl

payload_of : (mss : Option ℕ) (timestamps : Option Timestamps) (segment : Segment) (ip tcp : ℕ)
    → drop (payload_at (spelled (with_options mss timestamps segment) ip tcp)) (spelled (with_options mss timestamps segment) ip tcp) ≡ segment.payload
unfolding spelled two four payload_at
payload_of None None segment ip tcp = refl
payload_of (Some mss) None segment ip tcp = refl
payload_of None (Some timestamps) segment ip tcp = refl
payload_of (Some mss) (Some timestamps) segment ip tcp = refl

options_spelled : (mss : Option ℕ) (timestamps : Option Timestamps) (segment : Segment) (ip tcp : ℕ)
    → options_in (spelled (with_options mss timestamps segment) ip tcp) ≡ mss_option mss ++ timestamps_option timestamps
unfolding spelled two four payload_at options_in
options_spelled None None segment ip tcp = refl
options_spelled (Some mss) None segment ip tcp = refl
options_spelled None (Some timestamps) segment ip tcp = refl
options_spelled (Some mss) (Some timestamps) segment ip tcp = refl

options_good : (mss : Option ℕ) (timestamps : Option Timestamps) → has_bad_option 0 (mss_option mss ++ timestamps_option timestamps) ≡ false
unfolding two four
options_good None None = refl
options_good (Some mss) None = refl
options_good None (Some timestamps) = refl
options_good (Some mss) (Some timestamps) = refl

mss_read : (mss : Option ℕ) (timestamps : Option Timestamps) → IfSome mss (λ n. n < 2 ^ 16) → mss_in 0 (mss_option mss ++ timestamps_option timestamps) ≡ mss
unfolding two four word_at
mss_read None None h = refl
mss_read (Some mss) None h = ap Some (word_back mss h)
mss_read None (Some timestamps) h = refl
mss_read (Some mss) (Some timestamps) h = ap Some (word_back mss h)

both_back : (t : Timestamps) → t.value < 2 ^ 32 → t.echo < 2 ^ 32 → timestamps_in 0 (timestamps_option (Some t)) ≡ Some t
unfolding four long_at
both_back t value echo =
    let first : 16777216 * (t.value / 16777216 % 256) + 65536 * (t.value / 65536 % 256) + 256 * (t.value / 256 % 256) + t.value % 256 ≡ t.value = long_back t.value value
    in let second : 16777216 * (t.echo / 16777216 % 256) + 65536 * (t.echo / 65536 % 256) + 256 * (t.echo / 256 % 256) + t.echo % 256 ≡ t.echo = long_back t.echo echo
    in λ j. Some (record { value = first j; echo = second j })

timestamps_read : (mss : Option ℕ) (timestamps : Option Timestamps) → IfSome timestamps (λ t. (t.value < 2 ^ 32) × (t.echo < 2 ^ 32))
    → timestamps_in 0 (mss_option mss ++ timestamps_option timestamps) ≡ timestamps
unfolding two four long_at
timestamps_read None None h = refl
timestamps_read (Some mss) None h = refl
timestamps_read None (Some timestamps) h = both_back timestamps h.0 h.1
timestamps_read (Some mss) (Some timestamps) h = both_back timestamps h.0 h.1

ip_sums : (segment : Segment) (ip tcp : ℕ) → ip ≡ checksum (take 20 (spelled segment 0 0)) → checksum (take 20 (spelled segment ip tcp)) ≡ 0
unfolding spelled two four
ip_sums segment ip tcp is = checked_in_place (take 10 (spelled segment 0 0)) (take 8 (drop 12 (spelled segment 0 0))) ip refl is

tcp_sums : (segment : Segment) (ip tcp : ℕ) → tcp ≡ checksum (tcp_text (spelled segment 0 0)) → checksum (tcp_text (spelled segment ip tcp)) ≡ 0
unfolding spelled two four tcp_text
tcp_sums segment ip tcp is = checked_in_place (take 28 (tcp_text (spelled segment 0 0))) (drop 30 (tcp_text (spelled segment 0 0))) tcp refl is

pub size : (segment : Segment) → length (spelling segment) ≡ packet_length segment
unfolding spelling
size segment = size_of segment (checksum (take 20 (spelled segment 0 0))) (checksum (tcp_text (spelled segment 0 0)))

payload_place : (segment : Segment) → payload_at (spelling segment) ≡ 40 + length (options_of segment.head)
unfolding spelling
payload_place segment = payload_at_of segment.head.mss segment.head.timestamps segment (checksum (take 20 (spelled segment 0 0))) (checksum (tcp_text (spelled segment 0 0)))

options : (segment : Segment) → options_in (spelling segment) ≡ options_of segment.head
unfolding spelling
options segment = options_spelled segment.head.mss segment.head.timestamps segment (checksum (take 20 (spelled segment 0 0))) (checksum (tcp_text (spelled segment 0 0)))

payload : (segment : Segment) → drop (payload_at (spelling segment)) (spelling segment) ≡ segment.payload
unfolding spelling
payload segment = payload_of segment.head.mss segment.head.timestamps segment (checksum (take 20 (spelled segment 0 0))) (checksum (tcp_text (spelled segment 0 0)))

version : (segment : Segment) → not (nat_eq (slice_index (spelling segment) 0 / 16) 4) ≡ false
unfolding spelling spelled two
version segment = refl

header : (segment : Segment) → not (nat_eq (slice_index (spelling segment) 0 % 16) 5) ≡ false
unfolding spelling spelled two
header segment = refl

whole : (segment : Segment) → not (nat_eq (word_at (spelling segment) 6 % 16384) 0) ≡ false
unfolding spelling spelled two word_at
whole segment = refl

protocol : (segment : Segment) → not (nat_eq (slice_index (spelling segment) 9) 6) ≡ false
unfolding spelling spelled two
protocol segment = refl

total_length : (segment : Segment) → packet_length segment < 2 ^ 16 → word_at (spelling segment) 2 ≡ packet_length segment
unfolding spelling spelled two word_at
total_length segment h = word_back (packet_length segment) h

ip_sum : (segment : Segment) → checksum (take 20 (spelling segment)) ≡ 0
unfolding spelling
ip_sum segment = ip_sums segment (checksum (take 20 (spelled segment 0 0))) (checksum (tcp_text (spelled segment 0 0))) refl

tcp_sum : (segment : Segment) → checksum (tcp_text (spelling segment)) ≡ 0
unfolding spelling
tcp_sum segment = tcp_sums segment (checksum (take 20 (spelled segment 0 0))) (checksum (tcp_text (spelled segment 0 0))) refl

no_test_holds : (segment : Segment) → IsSpellable segment → AllFail (ip_tests (spelling segment) ++ tcp_tests (spelling segment))
unfolding ip_tests tcp_tests
no_test_holds segment fits = (
  le-ltb (length (spelling segment)) 40 (omega (arith, size segment)),
  (
    version segment,
    (
      header segment,
      (
        no_difference _ _ (total_length segment (omega (arith, fits.size)) ∙ sym (size segment)),
        (
          whole segment,
          (
            protocol segment,
            (
              no_difference _ _ (ip_sum segment),
              (
                or_from _ _ (le-ltb (payload_at (spelling segment)) 40 (omega (arith, payload_place segment)))
                    (le-ltb (length (spelling segment)) (payload_at (spelling segment)) (omega (arith, size segment, payload_place segment))),
                (
                  ap (has_bad_option 0) (options segment) ∙ options_good segment.head.mss segment.head.timestamps,
                  (
                    no_difference _ _ (tcp_sum segment),
                    (
                      le-ltb 1500 (length (spelling segment)) (omega (arith, size segment, fits.size)),
                      tt,
                    ),
                  ),
                ),
              ),
            ),
          ),
        ),
      ),
    ),
  ),
)

abbrev record_of : (src dst sport dport seq ack flags window : ℕ) (mss : Option ℕ) (timestamps : Option Timestamps) (payload : List ℕ) → Segment
record_of src dst sport dport seq ack flags window mss timestamps payload = record {
  head = record { src = src; dst = dst; sport = sport; dport = dport; seq = seq; ack = ack; flags = flags; window = window; mss = mss; timestamps = timestamps };
  payload = payload;
}

-- equal field by field
joined : {src dst sport dport seq ack window : ℕ} {mss : Option ℕ} {timestamps : Option Timestamps} {payload : List ℕ} {segment : Segment}
    → src ≡ segment.head.src → dst ≡ segment.head.dst → sport ≡ segment.head.sport → dport ≡ segment.head.dport → seq ≡ segment.head.seq
    → ack ≡ segment.head.ack → window ≡ segment.head.window → mss ≡ segment.head.mss → timestamps ≡ segment.head.timestamps → payload ≡ segment.payload
    → record_of src dst sport dport seq ack segment.head.flags window mss timestamps payload
    ≡ record_of segment.head.src segment.head.dst segment.head.sport segment.head.dport segment.head.seq segment.head.ack segment.head.flags segment.head.window segment.head.mss segment.head.timestamps segment.payload
joined a b c d e f g h i j = cc

segment_of_spelling : (segment : Segment) → IsSpellable segment → segment_in (spelling segment) ≡ segment
unfolding segment_in head_in spelling spelled two four word_at long_at
segment_of_spelling segment fits =
    let src : long_at (spelling segment) 12 ≡ segment.head.src = long_back segment.head.src fits.src
    in let dst : long_at (spelling segment) 16 ≡ segment.head.dst = long_back segment.head.dst fits.dst
    in let sport : word_at (spelling segment) 20 ≡ segment.head.sport = word_back segment.head.sport fits.sport
    in let dport : word_at (spelling segment) 22 ≡ segment.head.dport = word_back segment.head.dport fits.dport
    in let seq : long_at (spelling segment) 24 ≡ segment.head.seq = long_back segment.head.seq fits.seq
    in let ack : long_at (spelling segment) 28 ≡ segment.head.ack = long_back segment.head.ack fits.ack
    in let window : word_at (spelling segment) 34 ≡ segment.head.window = word_back segment.head.window fits.window
    in let mss : mss_in 0 (options_in (spelling segment)) ≡ segment.head.mss = ap (mss_in 0) (options segment) ∙ mss_read segment.head.mss segment.head.timestamps fits.mss
    in let timestamps : timestamps_in 0 (options_in (spelling segment)) ≡ segment.head.timestamps = ap (timestamps_in 0) (options segment) ∙ timestamps_read segment.head.mss segment.head.timestamps fits.timestamps
    in joined src dst sport dport seq ack window mss timestamps (payload segment)

pub spelling_is_read : (segment : Segment) → IsSpellable segment → reading (spelling segment) ≡ Ok segment
spelling_is_read segment fits = passes (spelling segment) (no_test_holds segment fits) ∙ ap Ok (segment_of_spelling segment fits)
