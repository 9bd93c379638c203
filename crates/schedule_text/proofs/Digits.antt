-- The digits of a number, four at a time.
use Rattle.std.proofs.Common.{◌≡◌, ◌∙◌, ℕ, suc, ◌+◌, ◌/◌, ◌%◌, ◌^◌, ◌<◌, ◌≤◌, List, [], ◌∷◌, ◌++◌, length, take, refl, ap, arith, append_assoc}
use Rattle.std.proofs.lemmas.Fmt.{decimal_digit, decimal_step}
use Rattle.std.specs.Fmt.{decimal}

pub one : (n : ℕ) → n < 10 → (48 + n) ∷ [] ≡ decimal n
one n low = rw (decimal_digit n low) refl

two_digits : (n : ℕ) → 10 ≤ n → n < 100 → decimal n ≡ (48 + n / 10 % 10) ∷ (48 + n % 10) ∷ []
two_digits n least most =
    let first : n / 10 ≡ n / 10 % 10 = omega (arith, most) in
    rw (decimal_step n least (omega (arith, most)), decimal_digit (n / 10) (omega (arith, most)), ← first) refl

three_digits : (n : ℕ) → 100 ≤ n → n < 1000 → decimal n ≡ (48 + n / 100 % 10) ∷ (48 + n / 10 % 10) ∷ (48 + n % 10) ∷ []
three_digits n least most =
    let first : n / 10 / 10 ≡ n / 100 = omega arith in
    decimal_step n (omega (arith, least)) (omega (arith, most))
    ∙ rw (two_digits (n / 10) (omega (arith, least)) (omega (arith, most)), first) refl

digits_of_four : (n : ℕ) → 1000 ≤ n → n < 10000 → decimal n ≡ (48 + n / 1000 % 10) ∷ (48 + n / 100 % 10) ∷ (48 + n / 10 % 10) ∷ (48 + n % 10) ∷ []
digits_of_four n least most =
    let first : n / 10 / 100 ≡ n / 1000 = omega arith in
    let second : n / 10 / 10 ≡ n / 100 = omega arith in
    decimal_step n (omega (arith, least)) (omega (arith, most))
    ∙ rw (three_digits (n / 10) (omega (arith, least)) (omega (arith, most)), first, second) refl

pub two : (n : ℕ) → 10 ≤ n → n < 100 → (48 + n / 10 % 10) ∷ (48 + n % 10) ∷ [] ≡ decimal n
two n least most = rw (two_digits n least most) refl

pub three : (n : ℕ) → 100 ≤ n → n < 1000 → (48 + n / 100 % 10) ∷ (48 + n / 10 % 10) ∷ (48 + n % 10) ∷ [] ≡ decimal n
three n least most = rw (three_digits n least most) refl

pub four : (n : ℕ) → 1000 ≤ n → n < 10000 → (48 + n / 1000 % 10) ∷ (48 + n / 100 % 10) ∷ (48 + n / 10 % 10) ∷ (48 + n % 10) ∷ [] ≡ decimal n
four n least most = rw (digits_of_four n least most) refl

-- a longer number is one without its last four digits, and these
pub by_fours : (n : ℕ) → 10000 ≤ n → n < 2 ^ 64
    → decimal (n / 10000) ++ (48 + n % 10000 / 1000 % 10) ∷ (48 + n % 10000 / 100 % 10) ∷ (48 + n % 10000 / 10 % 10) ∷ (48 + n % 10000 % 10) ∷ [] ≡ decimal n
by_fours n least most =
    let e1 : n / 10 / 10 ≡ n / 100 = omega arith in
    let e2 : n / 100 / 10 ≡ n / 1000 = omega arith in
    let e3 : n / 1000 / 10 ≡ n / 10000 = omega arith in
    let d0 : n % 10000 % 10 ≡ n % 10 = omega arith in
    let d1 : n % 10000 / 10 % 10 ≡ n / 10 % 10 = omega arith in
    let d2 : n % 10000 / 100 % 10 ≡ n / 100 % 10 = omega arith in
    let d3 : n % 10000 / 1000 % 10 ≡ n / 1000 % 10 = omega arith in
    rw (
      d0,
      d1,
      d2,
      d3,
      decimal_step n (omega (arith, least)) most,
      decimal_step (n / 10) (omega (arith, least)) (omega (arith, most)),
      e1,
      decimal_step (n / 100) (omega (arith, least)) (omega (arith, most)),
      e2,
      decimal_step (n / 1000) (omega (arith, least)) (omega (arith, most)),
      e3,
      append_assoc,
      append_assoc,
      append_assoc,
    ) refl

cut : (count : ℕ) (items bytes : List ℕ) → take (length items + count) (items ++ bytes) ≡ items ++ take count bytes
cut count [] bytes = let none : 0 + count ≡ count = omega arith in ap (λ n. take n bytes) none
cut count (x ∷ items) bytes =
    let next : suc (length items) + count ≡ suc (length items + count) = omega arith in
    ap (λ n. take n (x ∷ (items ++ bytes))) next ∙ ap (λ rest. x ∷ rest) (cut count items bytes)

-- the first of some appended bytes stay
pub first_appended : (end count : ℕ) (items bytes : List ℕ) → end ≡ length items + count → take end (items ++ bytes) ≡ items ++ take count bytes
first_appended end count items bytes is = ap (λ n. take n (items ++ bytes)) is ∙ cut count items bytes
