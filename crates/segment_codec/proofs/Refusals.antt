-- The tests in two parts.
use Rattle.std.proofs.Common.{◌≡◌, ℕ, Bool, true, false, List, [], ◌∷◌, ◌++◌, ap, refl, ◌∙◌}
use Rattle.std.specs.Option.{option_or}
use Rattle.std.specs.Prelude.{Option, Some, if◌then◌else◌}
use Rattle.seq_arith.specs.declared.BadPacket.{BadPacket}
use Rattle.seq_arith.specs.PacketGrammar.{ip_tests, tcp_tests, first_that_holds, refusal, segment_in, unless, reading}

one_more : (b : Bool) (bad : BadPacket) (xs ys : Option BadPacket) → (if b then Some bad else option_or xs ys) ≡ option_or (if b then Some bad else xs) ys
one_more true bad xs ys = refl
one_more false bad xs ys = refl

first_append : (xs ys : List (Bool × BadPacket)) → first_that_holds (xs ++ ys) ≡ option_or (first_that_holds xs) (first_that_holds ys)
first_append [] ys = refl
first_append (test ∷ xs) ys =
    ap (λ later. if test.0 then Some test.1 else later) (first_append xs ys) ∙ one_more test.0 test.1 (first_that_holds xs) (first_that_holds ys)

pub by_parts : (bytes : List ℕ)
    → reading bytes ≡ unless (option_or (first_that_holds (ip_tests bytes)) (first_that_holds (tcp_tests bytes))) (segment_in bytes)
unfolding reading refusal
by_parts bytes = ap (λ bad. unless bad (segment_in bytes)) (first_append (ip_tests bytes) (tcp_tests bytes))
