-- Adding one number to both ends of a gap, or to a number and the start of its stream, changes nothing.
use Rattle.std.proofs.Common.{◌≡◌, ℕ, ◌<◌, ◌+◌, ◌-◌, ◌%◌, ◌^◌, ap, arith, ◌∙◌}
use Rattle.std.specs.Prelude.{ℤ, pos, negsuc, ◌-ℤ◌, ◌≤ℤ◌, nat_lt, if◌then◌else◌}
use Rattle.std.proofs.lemmas.Int.{ints}
use Rattle.seq_arith.specs.Number.{distance, gap, number_at, offset_of}
use Rattle.seq_arith.proofs.Gaps.{gap_leads}

-- the gap as a function of the distance
abbrev signed : ℕ → ℤ
signed n = if nat_lt n (2 ^ 31) then pos n else negsuc (2 ^ 32 - 1 - n)

pub gap_shift : (to from d : ℕ) → to < 2 ^ 32 → from < 2 ^ 32 → gap ((to + d) % 2 ^ 32) ((from + d) % 2 ^ 32) ≡ gap to from
gap_shift to from d p q =
    let same : distance ((to + d) % 2 ^ 32) ((from + d) % 2 ^ 32) ≡ distance to from = omega arith in ap signed same

pub gap_at : (from k : ℕ) → from < 2 ^ 32 → k < 2 ^ 31 → gap ((from + k) % 2 ^ 32) from ≡ pos k
gap_at from k p q = grind (arith, ints, gap_leads from ((from + k) % 2 ^ 32) p (omega arith))

-- a start that is k further on
pub gap_from : (to from k : ℕ) → to < 2 ^ 32 → from < 2 ^ 32 → k < 2 ^ 31 → (pos k -ℤ pos (2 ^ 31)) ≤ℤ gap to from
    → gap to ((from + k) % 2 ^ 32) ≡ gap to from -ℤ pos k
gap_from to from k p q r near = omega (arith, ints, gap_leads from to q p, gap_leads ((from + k) % 2 ^ 32) to (omega arith) p)

pub offset_of_number : (isn k : ℕ) → k < 2 ^ 31 → offset_of isn (number_at isn k) ≡ pos k
unfolding offset_of
offset_of_number isn k h =
    let same : number_at isn k ≡ ((isn + 1) % 2 ^ 32 + k) % 2 ^ 32 = omega arith
    in ap (λ n. gap n ((isn + 1) % 2 ^ 32)) same ∙ gap_at ((isn + 1) % 2 ^ 32) k (omega arith) h

-- a stream and a number that are both d further on
pub offset_shift : (isn number d : ℕ) → number < 2 ^ 32 → offset_of ((isn + d) % 2 ^ 32) ((number + d) % 2 ^ 32) ≡ offset_of isn number
unfolding offset_of
offset_shift isn number d h =
    let same : ((isn + d) % 2 ^ 32 + 1) % 2 ^ 32 ≡ ((isn + 1) % 2 ^ 32 + d) % 2 ^ 32 = omega arith
    in ap (λ n. gap ((number + d) % 2 ^ 32) n) same ∙ gap_shift number ((isn + 1) % 2 ^ 32) d h (omega arith)
