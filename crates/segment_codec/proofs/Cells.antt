-- A packet by its cells: with its first forty bytes written out, every field and every test computes, so a change of some fields leaves the
-- tests as they were, and the checksum summed anew makes up for the rest.
use Rattle.std.proofs.Common.{◌≡◌, ℕ, zero, suc, ◌<◌, ◌≤◌, ◌+◌, ◌-◌, ◌*◌, Bool, true, false, List, [], ◌∷◌, ◌++◌, length, take, drop, get_or, ap, refl, sym, arith, ◌∙◌}
use Rattle.std.specs.Prelude.{Ok, ◌||◌, nat_lt}
use Rattle.std.proofs.lemmas.List.{drop-drop}
use Rattle.std.proofs.lemmas.Bool.{ltb-false}
use Rattle.seq_arith.specs.Bytes.{two, word_at, long_at}
use Rattle.seq_arith.specs.Checksum.{word_sum, checksum}
use Rattle.seq_arith.specs.Packet.{Segment, with_seq, with_ack, with_window}
use Rattle.seq_arith.specs.PacketGrammar.{payload_at, options_in, tcp_text, ip_tests, tcp_tests, head_in, segment_in, reading}
use Rattle.seq_arith.proofs.Passing.{AllFail, passes, no_difference}

-- the first n bytes written out
abbrev pub front : ℕ → List ℕ → List ℕ
front zero bytes = bytes
front (suc n) bytes = get_or bytes 0 0 ∷ front n (drop 1 bytes)

pub front_is : (n : ℕ) (bytes : List ℕ) → n ≤ length bytes → front n bytes ≡ bytes
front_is zero bytes h = refl
front_is (suc n) [] h = absurd (omega arith)
front_is (suc n) (byte ∷ bytes) h = ap (λ xs. byte ∷ xs) (front_is n bytes (omega arith))

abbrev pub cells : List ℕ → List ℕ
cells bytes = front 40 bytes

-- with another sequence number, acknowledgement, window and checksum
abbrev pub edited : List ℕ → (s t u v a b c d w x y z : ℕ) → List ℕ
edited bytes s t u v a b c d w x y z =
    take 24 (cells bytes) ++ (s ∷ t ∷ u ∷ v ∷ a ∷ b ∷ c ∷ d ∷ []) ++ take 2 (drop 32 (cells bytes)) ++ (w ∷ x ∷ y ∷ z ∷ []) ++ drop 38 (cells bytes)

tests_fail : (bytes : List ℕ) (s t u v a b c d w x y z : ℕ) → AllFail (ip_tests (cells bytes) ++ tcp_tests (cells bytes))
    → checksum (tcp_text (edited bytes s t u v a b c d w x y z)) ≡ 0
    → AllFail (ip_tests (edited bytes s t u v a b c d w x y z) ++ tcp_tests (edited bytes s t u v a b c d w x y z))
unfolding ip_tests tcp_tests payload_at options_in word_at
tests_fail bytes s t u v a b c d w x y z fail sum = (
  fail.0,
  (
    fail.1.0,
    (
      fail.1.1.0,
      (
        fail.1.1.1.0,
        (
          fail.1.1.1.1.0,
          (
            fail.1.1.1.1.1.0,
            (
              fail.1.1.1.1.1.1.0,
              (
                fail.1.1.1.1.1.1.1.0,
                (
                  fail.1.1.1.1.1.1.1.1.0,
                  (
                    no_difference (checksum (tcp_text (edited bytes s t u v a b c d w x y z))) 0 sum,
                    (
                      fail.1.1.1.1.1.1.1.1.1.1.0,
                      tt,
                    ),
                  ),
                ),
              ),
            ),
          ),
        ),
      ),
    ),
  ),
)

-- a payload from after the forty bytes
payload_far : (bytes : List ℕ) → 40 ≤ payload_at bytes → drop (payload_at bytes) bytes ≡ drop (payload_at bytes - 40) (drop 40 bytes)
payload_far bytes far =
    let whole : 40 + (payload_at bytes - 40) ≡ payload_at bytes = omega arith
    in sym (drop-drop (payload_at bytes - 40) 40 bytes ∙ ap (λ n. drop n bytes) whole)

same_payload : (bytes : List ℕ) (s t u v a b c d w x y z : ℕ) → 40 ≤ payload_at (cells bytes)
    → drop (payload_at (edited bytes s t u v a b c d w x y z)) (edited bytes s t u v a b c d w x y z) ≡ drop (payload_at (cells bytes)) (cells bytes)
unfolding payload_at
same_payload bytes s t u v a b c d w x y z far =
    payload_far (edited bytes s t u v a b c d w x y z) far ∙ sym (payload_far (cells bytes) far)

edited_says : (bytes : List ℕ) (s t u v a b c d w x y z : ℕ) → 40 ≤ payload_at (cells bytes)
    → segment_in (edited bytes s t u v a b c d w x y z)
    ≡ with_seq (16777216 * s + 65536 * t + 256 * u + v) (with_ack (16777216 * a + 65536 * b + 256 * c + d) (with_window (256 * w + x) (segment_in (cells bytes))))
unfolding segment_in head_in payload_at options_in word_at long_at
edited_says bytes s t u v a b c d w x y z far =
    let said : List ℕ → Segment = λ payload. record { head = (segment_in (edited bytes s t u v a b c d w x y z)).head; payload = payload }
    in ap said (same_payload bytes s t u v a b c d w x y z far)

or_left : (a b : Bool) → (a || b) ≡ false → a ≡ false
or_left false b h = refl
or_left true b h = h

behind_header : (bytes : List ℕ) → AllFail (ip_tests bytes ++ tcp_tests bytes) → 40 ≤ payload_at bytes
unfolding ip_tests tcp_tests
behind_header bytes fail = ltb-false (payload_at bytes) 40 (or_left (nat_lt (payload_at bytes) 40) (nat_lt (length bytes) (payload_at bytes)) fail.1.1.1.1.1.1.1.0)

-- an accepted packet with some of its fields changed and a checksum to which it sums
pub edited_reads : (bytes : List ℕ) (s t u v a b c d w x y z : ℕ) → AllFail (ip_tests (cells bytes) ++ tcp_tests (cells bytes))
    → checksum (tcp_text (edited bytes s t u v a b c d w x y z)) ≡ 0
    → reading (edited bytes s t u v a b c d w x y z)
    ≡ Ok (with_seq (16777216 * s + 65536 * t + 256 * u + v) (with_ack (16777216 * a + 65536 * b + 256 * c + d) (with_window (256 * w + x) (segment_in (cells bytes)))))
edited_reads bytes s t u v a b c d w x y z fail sum =
    passes (edited bytes s t u v a b c d w x y z) (tests_fail bytes s t u v a b c d w x y z fail sum)
    ∙ ap Ok (edited_says bytes s t u v a b c d w x y z (behind_header (cells bytes) fail))

-- the sum of all words but the six that change
abbrev pub others : List ℕ → ℕ
others bytes = word_sum false (tcp_text (edited bytes 0 0 0 0 0 0 0 0 0 0 0 0))

pub others_some : (bytes : List ℕ) → 0 < others bytes
unfolding tcp_text two
others_some bytes = omega arith

pub sum_of : (bytes : List ℕ) (s t u v a b c d w x y z : ℕ)
    → word_sum false (tcp_text (edited bytes s t u v a b c d w x y z))
    ≡ others bytes + (256 * s + t) + (256 * u + v) + (256 * a + b) + (256 * c + d) + (256 * w + x) + (256 * y + z)
unfolding tcp_text two
sum_of bytes s t u v a b c d w x y z = omega arith
