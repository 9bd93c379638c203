-- Tests of numbers, and what they say.
use mir.Val.{bool_byte}
use Rattle.std.proofs.Common.{◌≡◌, ℕ, ◌==◌, arith, true, false, nat_lt, ◌≤◌, nat_le, ◌+◌, suc, Bool}

pub equal_itself : (n : ℕ) → (n == n) ≡ true
equal_itself n = grind (arith)

pub equal_of_test : (a b : ℕ) → (a == b) ≡ true → a ≡ b
equal_of_test a b h = grind (arith, h)

pub test_of_equal : (n m : ℕ) → n ≡ m → (n == m) ≡ true
test_of_equal n m h = grind (arith, h)

pub not_less_itself : (n : ℕ) → nat_lt n n ≡ false
not_less_itself n = grind (arith)

pub at_most_of_test : (m n : ℕ) → nat_le m n ≡ true → m ≤ n
at_most_of_test m n h = grind (arith, h)

pub plus_none : (n : ℕ) → n + 0 ≡ n
plus_none n = omega arith

pub plus_one : (n : ℕ) → n + 1 ≡ suc n
plus_one n = omega arith

pub bool_byte_low : (b : Bool) → bool_byte b ≤ 1
bool_byte_low true = omega arith
bool_byte_low false = omega arith
