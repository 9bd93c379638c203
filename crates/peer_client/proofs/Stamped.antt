-- TCP's segments written anew with timestamps: of the first so many, and of all; and what the last of them acknowledges.
use Rattle.std.proofs.Common.{◌≡◌, ℕ, zero, suc, ◌≤◌, ◌+◌, ◌*◌, refl, sym, ap, subst, ◌∙◌, arith, Option, None, Some, List, [], ◌∷◌, ◌++◌, length, length-append, take, map}
use Rattle.std.specs.Prelude.{◌||◌, nat_lt, slice_get, option_map, Result, Ok, Err, IsOk}
use Rattle.std.proofs.lemmas.Option.{slice_get-map}
use Rattle.std.proofs.lemmas.List.{map-append}
use Rattle.std.proofs.Math.Seq.{take-length}
use Rattle.ft_model.proofs.Lists.{some_is, none_is_some, all_slice_get, all_append}
use Rattle.seq_arith.specs.Packet.{Segment, has_rst, with_timestamps}
use Rattle.seq_arith.specs.PacketGrammar.{mss_option, timestamps_option, packet_length, reading, spelling}
use Rattle.seq_arith.specs.declared.BadPacket.{BadPacket}
use Rattle.seq_arith.specs.declared.options.Timestamps.{Timestamps}
use Rattle.seq_arith.proofs.Spelling.{size}
use Rattle.seq_arith.proofs.Units.{timestamps_option_short}
use Rattle.tcp_endpoint.specs.Output.{packets}
use Rattle.tcp_endpoint.specs.Packets.{IsReadable, AreReadable, byte_count}
use Rattle.peer_client.specs.Stamping.{StampState, stamped, after_last, after_sending}
use Rattle.ft_io.proofs.Choices.{holds_if}

-- the packet at a place is that of a segment
pub record IsOf (own : List Segment) (i : ℕ) (bytes : List ℕ) : Type 0 where
  pub segment : Segment
  pub there : slice_get own i ≡ Some segment
  pub bytes_are : bytes ≡ spelling segment
  pub readable : IsReadable segment

pub found : (own : List Segment) (out : List (List ℕ)) (i : ℕ) (bytes : List ℕ) → out ≡ packets own → AreReadable own → slice_get out i ≡ Some bytes → IsOf own i bytes
unfolding packets
found own out i bytes is readable e =
    of_option (slice_get own i) refl (sym (slice_get-map spelling own i) ∙ ap (λ ps. slice_get ps i) (sym is) ∙ e)
  where
    of_option : (o : Option Segment) → slice_get own i ≡ o → option_map spelling o ≡ Some bytes → IsOf own i bytes
    of_option None at some = none_is_some bytes some
    of_option (Some segment) at some = record {
      segment = segment;
      there = at;
      bytes_are = sym (some_is (spelling segment) bytes some);
      readable = all_slice_get IsReadable own i segment readable at;
    }

pub is_accepted : (bytes : List ℕ) (segment : Segment) → bytes ≡ spelling segment → IsReadable segment → IsOk (reading bytes)
is_accepted bytes segment is readable = subst (λ (r : Result Segment BadPacket). IsOk r) (sym (ap reading is ∙ readable)) refl

-- which says nothing else
pub says_one : (bytes : List ℕ) (x y : Segment) → bytes ≡ spelling x → IsReadable x → reading bytes ≡ Ok y → y ≡ x
says_one bytes x y is readable e = ap said_or (sym e ∙ ap reading is ∙ readable)
  where
    said_or : Result Segment BadPacket → Segment
    said_or (Ok segment) = segment
    said_or (Err bad) = x

-- one more
one_more_of : {A : Type 0} (xs : List A) (i : ℕ) (x : A) → slice_get xs i ≡ Some x → take (suc i) xs ≡ take i xs ++ x ∷ []
one_more_of [] zero x e = none_is_some x e
one_more_of [] (suc i) x e = none_is_some x e
one_more_of (y ∷ ys) zero x e = ap (λ z. z ∷ []) (some_is y x e)
one_more_of (y ∷ ys) (suc i) x e = ap (λ zs. y ∷ zs) (one_more_of ys i x e)

-- the first so many are written
pub record AreWritten (t : Timestamps) (own : List Segment) (i : ℕ) (out : List (List ℕ)) : Type 0 where
  pub packets_are : out ≡ packets (map (stamped t) (take i own))
  pub readable : AreReadable (map (stamped t) (take i own))

pub none_written : (t : Timestamps) (own : List Segment) (out : List (List ℕ)) → out ≡ [] → AreWritten t own 0 out
unfolding packets
none_written t own out e = record { packets_are = e; readable = tt }

pub one_written : (t : Timestamps) (own : List Segment) (i : ℕ) (segment : Segment) (old new : List (List ℕ)) → slice_get own i ≡ Some segment
    → new ≡ old ++ spelling (stamped t segment) ∷ [] → IsReadable (stamped t segment) → AreWritten t own i old → AreWritten t own (suc i) new
unfolding packets
one_written t own i segment old new there is readable h =
    let more : map (stamped t) (take (suc i) own) ≡ map (stamped t) (take i own) ++ stamped t segment ∷ [] =
    ap (map (stamped t)) (one_more_of own i segment there) ∙ map-append (stamped t) (take i own) (segment ∷ []) in
    record {
      packets_are = is ∙ ap (λ ps. ps ++ spelling (stamped t segment) ∷ []) h.packets_are
          ∙ sym (map-append spelling (map (stamped t) (take i own)) (stamped t segment ∷ [])) ∙ ap (map spelling) (sym more);
      readable = subst AreReadable (sym more) (all_append IsReadable (map (stamped t) (take i own)) (stamped t segment ∷ []) h.readable (readable, tt));
    }

-- how many they are, and how long
pub count_written : (t : Timestamps) (own : List Segment) (i : ℕ) → length (packets (map (stamped t) (take i own))) ≤ length own
unfolding packets
count_written t [] zero = omega arith
count_written t [] (suc i) = omega arith
count_written t (x ∷ own) zero = omega arith
count_written t (x ∷ own) (suc i) = let more = count_written t own i in omega (arith, more)

longer : (t : Timestamps) (x : Segment) → packet_length (stamped t x) ≤ packet_length x + 12
longer t x =
    holds_if (λ (y : Segment). packet_length y ≤ packet_length x + 12) (has_rst x || nat_lt 1500 (packet_length (with_timestamps (Some t) x))) x (with_timestamps (Some t) x)
    (λ stays. omega arith)
    (λ carried. omega (arith, length-append (mss_option x.head.mss) (timestamps_option (Some t)), length-append (mss_option x.head.mss) (timestamps_option x.head.timestamps), timestamps_option_short (Some t)))

pub bytes_written : (t : Timestamps) (own : List Segment) (i : ℕ) → byte_count (packets (map (stamped t) (take i own))) ≤ byte_count (packets own) + 12 * length own
unfolding packets
bytes_written t [] zero = omega arith
bytes_written t [] (suc i) = omega arith
bytes_written t (x ∷ own) zero = omega arith
bytes_written t (x ∷ own) (suc i) = let more = bytes_written t own i in omega (arith, more, size (stamped t x), size x, longer t x)

pub packets_length : (own : List Segment) → length (packets own) ≡ length own
unfolding packets
packets_length [] = refl
packets_length (x ∷ own) = ap suc (packets_length own)

-- so there is room for one more
pub has_room : (t : Timestamps) (own : List Segment) (i : ℕ) (segments out : List (List ℕ)) → segments ≡ packets own → length segments ≤ 1030 → byte_count segments ≤ 110000
    → AreWritten t own i out → (length out ≤ 1030) × (byte_count out ≤ 122500)
has_room t own i segments out is few small h =
    let count = count_written t own i in let bytes = bytes_written t own i in let many : length segments ≡ length own = ap length is ∙ packets_length own in
    (omega (arith, ap length h.packets_are, count, many, few), omega (arith, ap byte_count h.packets_are, bytes, ap byte_count is, small, many, few))

-- what the last of them acknowledges
pub last_counts : (own : List Segment) (i : ℕ) (segment : Segment) (s : StampState) → suc i ≡ length own → slice_get own i ≡ Some segment → after_sending own s ≡ after_last segment s
last_counts [] zero segment s last e = none_is_some segment e
last_counts [] (suc i) segment s last e = none_is_some segment e
last_counts (x ∷ []) zero segment s last e = ap (λ y. after_last y s) (some_is x segment e)
last_counts (x ∷ []) (suc i) segment s last e = none_is_some segment e
last_counts (x ∷ y ∷ others) zero segment s last e = absurd (omega (arith, last))
last_counts (x ∷ y ∷ others) (suc i) segment s last e = last_counts (y ∷ others) i segment s (omega (arith, last)) e

pub none_counts : (own : List Segment) (out : List (List ℕ)) (s : StampState) → out ≡ packets own → length out ≡ 0 → after_sending own s ≡ s
none_counts [] out s is none = refl
none_counts (x ∷ own) out s is none = absurd (omega (arith, sym none ∙ ap length is ∙ packets_length (x ∷ own)))

-- all are written
pub whole_written : (t : Timestamps) (own : List Segment) (i : ℕ) (out : List (List ℕ)) → i ≡ length own → AreWritten t own i out
    → (out ≡ packets (map (stamped t) own)) × AreReadable (map (stamped t) own)
whole_written t own i out whole h =
    let same : take i own ≡ own = ap (λ n. take n own) whole ∙ take-length own in
    (h.packets_are ∙ ap (λ xs. packets (map (stamped t) xs)) same, subst (λ xs. AreReadable (map (stamped t) xs)) same h.readable)
