-- Bytes are a packet exactly where every test of the grammar fails: what a proof of acceptance takes, and what acceptance gives.
use Rattle.std.proofs.Common.{◌≡◌, ℕ, Bool, true, false, not, List, [], ◌∷◌, ◌++◌, ap, refl, ◌∙◌}
use Rattle.std.specs.Prelude.{Option, None, Some, Ok, IsOk, nat_eq, if◌then◌else◌}
use Rattle.std.proofs.lemmas.Bool.{eq-eqb, eqb-true, not-false}
use Rattle.seq_arith.specs.declared.BadPacket.{BadPacket}
use Rattle.seq_arith.specs.Packet.{Segment}
use Rattle.seq_arith.specs.PacketGrammar.{ip_tests, tcp_tests, first_that_holds, refusal, segment_in, unless, reading}

-- no test of the list holds
abbrev pub AllFail : List (Bool × BadPacket) → Type 0
AllFail [] = Unit {0}
AllFail (test ∷ tests) = (test.0 ≡ false) × AllFail tests

none_from_fail : (tests : List (Bool × BadPacket)) → AllFail tests → first_that_holds tests ≡ None
none_from_fail [] fail = refl
none_from_fail (test ∷ tests) fail = ap (λ b. if b then Some test.1 else first_that_holds tests) fail.0 ∙ none_from_fail tests fail.1

first_fails : (b : Bool) (bad : BadPacket) (later : Option BadPacket) → (if b then Some bad else later) ≡ None → (b ≡ false) × (later ≡ None)
first_fails true bad later h = absurd (cc)
first_fails false bad later h = (refl, h)

fail_from_none : (tests : List (Bool × BadPacket)) → first_that_holds tests ≡ None → AllFail tests
fail_from_none [] none = tt
fail_from_none (test ∷ tests) none =
    let both : (test.0 ≡ false) × (first_that_holds tests ≡ None) = first_fails test.0 test.1 (first_that_holds tests) none
    in (both.0, fail_from_none tests both.1)

pub passes : (bytes : List ℕ) → AllFail (ip_tests bytes ++ tcp_tests bytes) → reading bytes ≡ Ok (segment_in bytes)
unfolding reading refusal
passes bytes fail = ap (λ bad. unless bad (segment_in bytes)) (none_from_fail (ip_tests bytes ++ tcp_tests bytes) fail)

no_refusal : (bad : Option BadPacket) (segment : Segment) → IsOk (unless bad segment) → bad ≡ None
no_refusal None segment ok = refl
no_refusal (Some bad) segment ok = absurd (cc)

pub passed : (bytes : List ℕ) → IsOk (reading bytes) → AllFail (ip_tests bytes ++ tcp_tests bytes)
unfolding reading refusal
passed bytes ok = fail_from_none (ip_tests bytes ++ tcp_tests bytes) (no_refusal (refusal bytes) (segment_in bytes) ok)

-- a test for a difference, and what its failure says
pub no_difference : (a b : ℕ) → a ≡ b → not (nat_eq a b) ≡ false
no_difference a b e = ap not (eq-eqb a b e)

pub same_from : (a b : ℕ) → not (nat_eq a b) ≡ false → a ≡ b
same_from a b h = eqb-true a b (not-false (nat_eq a b) h)
