-- Sums of words: of strings one after the other, and of one word replaced.
use Rattle.std.proofs.Common.{◌≡◌, ℕ, suc, zero, ◌<◌, ◌+◌, ◌-◌, ◌*◌, ◌/◌, ◌%◌, Bool, true, false, not, List, [], ◌∷◌, ◌++◌, length, drop, get_or, ap, refl, sym, arith, ◌∙◌, length-append, zero-add}
use Rattle.std.specs.Prelude.{nat_eq}
use Rattle.std.proofs.Math.Bool.{beq}
use Rattle.seq_arith.specs.Checksum.{word_sum, odd_after, folded, check_of, checksum, Summed, nothing_summed, with_bytes}

pub word_sum_append : (odd : Bool) (xs ys : List ℕ) → word_sum odd (xs ++ ys) ≡ word_sum odd xs + word_sum (odd_after odd xs) ys
word_sum_append odd [] ys = omega arith
word_sum_append false (x ∷ xs) ys = omega (arith, word_sum_append true xs ys)
word_sum_append true (x ∷ xs) ys = omega (arith, word_sum_append false xs ys)

pub odd_after_append : (odd : Bool) (xs ys : List ℕ) → odd_after odd (xs ++ ys) ≡ odd_after (odd_after odd xs) ys
odd_after_append odd [] ys = refl
odd_after_append odd (x ∷ xs) ys = odd_after_append (not odd) xs ys

-- one more word of a string that begins with a word
pub word_sum_drop : (bytes : List ℕ) (at : ℕ) → suc at < length bytes
    → word_sum false (drop at bytes) ≡ 256 * get_or bytes at 0 + get_or bytes (suc at) 0 + word_sum false (drop (suc (suc at)) bytes)
word_sum_drop [] at h = absurd (omega arith)
word_sum_drop (x ∷ []) at h = absurd (omega arith)
word_sum_drop (x ∷ y ∷ bytes) zero h = omega arith
word_sum_drop (x ∷ bytes) (suc at) h = word_sum_drop bytes at (omega arith)

-- the parity of one more
parity_suc : (n : ℕ) → nat_eq (suc n % 2) 1 ≡ not (nat_eq (n % 2) 1)
parity_suc n = grind arith

from_true : (b : Bool) → not (beq true b) ≡ not (beq false (not b))
from_true true = refl
from_true false = refl

from_false : (b : Bool) → not (beq false b) ≡ not (beq true (not b))
from_false true = refl
from_false false = refl

pub odd_after_parity : (odd : Bool) (bytes : List ℕ) → odd_after odd bytes ≡ not (beq odd (nat_eq (length bytes % 2) 1))
odd_after_parity false [] = refl
odd_after_parity true [] = refl
odd_after_parity false (x ∷ bytes) = rw parity_suc (odd_after_parity true bytes ∙ from_true (nat_eq (length bytes % 2) 1))
odd_after_parity true (x ∷ bytes) = rw parity_suc (odd_after_parity false bytes ∙ from_false (nat_eq (length bytes % 2) 1))

pub even_ends : (n : ℕ) (odd : Bool) (bytes : List ℕ) → length bytes ≡ n + n → odd_after odd bytes ≡ odd
even_ends n true bytes h =
    let even : nat_eq (length bytes % 2) 1 ≡ false = grind arith in odd_after_parity true bytes ∙ ap (λ b. not (beq true b)) even
even_ends n false bytes h =
    let even : nat_eq (length bytes % 2) 1 ≡ false = grind arith in odd_after_parity false bytes ∙ ap (λ b. not (beq false b)) even

pub check_bound : (total : ℕ) → check_of total < 65536
unfolding check_of
check_bound total = omega arith

-- what sums to a total, with the checksum of that total
pub check_of_all : (total : ℕ) → check_of (total + check_of total) ≡ 0
unfolding check_of folded
check_of_all total = grind arith

pub pieces_join : (summed : Summed) (a b : List ℕ) → with_bytes (with_bytes summed a) b ≡ with_bytes summed (a ++ b)
pieces_join summed a b =
    let total : summed.total + word_sum summed.odd a + word_sum (odd_after summed.odd a) b ≡ summed.total + word_sum summed.odd (a ++ b) = omega (arith, word_sum_append summed.odd a b)
    in let odd : odd_after (odd_after summed.odd a) b ≡ odd_after summed.odd (a ++ b) = sym (odd_after_append summed.odd a b)
    in let count : summed.count + length a + length b ≡ summed.count + length (a ++ b) = omega (arith, length-append a b)
    in cc (total, odd, count)

-- a word between two parts, the first of which ends with a word
pub word_between : (front rest : List ℕ) (x y : ℕ) → odd_after false front ≡ false
    → word_sum false (front ++ x ∷ y ∷ rest) ≡ word_sum false front + (256 * x + y + word_sum false rest)
word_between front rest x y even =
    let ends : word_sum (odd_after false front) (x ∷ y ∷ rest) ≡ word_sum false (x ∷ y ∷ rest) = ap (λ b. word_sum b (x ∷ y ∷ rest)) even
    in omega (arith, word_sum_append false front (x ∷ y ∷ rest), ends)

pub checked_in_place : (front rest : List ℕ) (check : ℕ) → odd_after false front ≡ false → check ≡ check_of (word_sum false (front ++ 0 ∷ 0 ∷ rest))
    → check_of (word_sum false (front ++ check / 256 % 256 ∷ check % 256 ∷ rest)) ≡ 0
checked_in_place front rest check even is =
    let blank : word_sum false (front ++ 0 ∷ 0 ∷ rest) ≡ word_sum false front + word_sum false rest = omega (arith, word_between front rest 0 0 even)
    in let is_of : check ≡ check_of (word_sum false front + word_sum false rest) = is ∙ ap check_of blank
    in let small : check < 65536 = omega (arith, check_bound (word_sum false front + word_sum false rest))
    in let full : word_sum false (front ++ check / 256 % 256 ∷ check % 256 ∷ rest) ≡ word_sum false front + word_sum false rest + check = omega (arith, word_between front rest (check / 256 % 256) (check % 256) even)
    in ap check_of (full ∙ ap (λ n. word_sum false front + word_sum false rest + n) is_of) ∙ check_of_all (word_sum false front + word_sum false rest)

pub word_replaced : (front rest : List ℕ) (x y z w : ℕ) → odd_after false front ≡ false
    → word_sum false (front ++ z ∷ w ∷ rest) ≡ word_sum false (front ++ x ∷ y ∷ rest) - (256 * x + y) + (256 * z + w)
word_replaced front rest x y z w even = omega (arith, word_between front rest x y even, word_between front rest z w even)

-- the checksum of a string that was taken in three pieces
pub three_pieces : (one two three : Summed) (a b c : List ℕ) → one ≡ with_bytes nothing_summed a → two ≡ with_bytes one b → three ≡ with_bytes two c
    → check_of three.total ≡ checksum (a ++ b ++ c)
three_pieces one two three a b c first second third =
    let joined : three ≡ with_bytes nothing_summed (a ++ b ++ c) =
    third ∙ ap (λ s. with_bytes s c) (second ∙ ap (λ s. with_bytes s b) first ∙ pieces_join nothing_summed a b) ∙ pieces_join nothing_summed (a ++ b) c
    in ap (λ s. check_of s.total) joined ∙ ap check_of (zero-add (word_sum false (a ++ b ++ c)))
