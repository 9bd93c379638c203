-- A word of flags is letters in their order, each at most once.
use Rattle.std.proofs.Common.{◌≡◌, ℕ, ◌<◌, ◌≤◌, ◌+◌, ◌*◌, ◌/◌, ◌%◌, ◌==◌, Bool, true, false, if◌then◌else◌, List, [], ◌∷◌, ◌++◌, codes, length, refl, sym, ap, ◌∙◌, arith, true≢false, append-nil}
use Rattle.std.specs.Prelude.{nat_lt, ◌&&◌, ◌||◌}
use Rattle.std.specs.List.{list_any}
use Rattle.std.specs.Str.{bytes_eq}
use Rattle.ft_io.proofs.Booleans.{left_true, right_true, left_false, right_false}
use Rattle.ft_io.proofs.Choices.{by_cases}
use Rattle.ft_io.proofs.Numbers.{equal_of_test}
use Rattle.ft_model.specs.Texts.{or_dash, flag_letters, flags_text}
use Rattle.ft_model.proofs.ReportParts.{or_dash_cons}
use Rattle.seq_arith.specs.Packet.{has}
use Rattle.line_check.specs.Words.{without, without_all, are_letters, are_flags}
use Rattle.line_check.proofs.Spelled.{same_bytes}

abbrev first_is : ℕ → List ℕ → Bool
first_is letter [] = false
first_is letter (c ∷ more) = c == letter

abbrev letter_when : Bool → ℕ → List ℕ
letter_when b letter = if b then letter ∷ [] else []

stripped : (letter : ℕ) (word : List ℕ) → word ≡ letter_when (first_is letter word) letter ++ without letter word
stripped letter [] = refl
stripped letter (c ∷ more) = by_test (c == letter) refl
  where
    by_test : (b : Bool) → (c == letter) ≡ b → c ∷ more ≡ letter_when b letter ++ (if b then more else c ∷ more)
    by_test true e = ap (λ x. x ∷ more) (equal_of_test c letter e)
    by_test false e = refl

abbrev bit : Bool → ℕ
bit true = 1
bit false = 0

bit_small : (b : Bool) → bit b ≤ 1
bit_small true = omega arith
bit_small false = omega arith

one_is : (b : Bool) (r : ℕ) → r ≡ bit b → (r == 1) ≡ b
one_is true r e = grind (arith, e)
one_is false r e = grind (arith, e)

no_length : (word : List ℕ) → (length word == 0) ≡ true → word ≡ []
no_length [] e = refl
no_length (c ∷ word) e = let none : length (c ∷ word) ≡ 0 = equal_of_test (length (c ∷ word)) 0 e in absurd (omega (arith, none))

pub letters_reported : (word : List ℕ) → are_letters word ≡ true → (flags : ℕ) × (flags < 256) × (word ≡ flag_letters flags)
unfolding are_letters
letters_reported word e =
    let w1 : List ℕ = without 67 word in
    let w2 : List ℕ = without 69 w1 in
    let w3 : List ℕ = without 85 w2 in
    let w4 : List ℕ = without 65 w3 in
    let w5 : List ℕ = without 80 w4 in
    let w6 : List ℕ = without 82 w5 in
    let w7 : List ℕ = without 83 w6 in
    let w8 : List ℕ = without 70 w7 in
    let b7 : Bool = first_is 67 word in
    let b6 : Bool = first_is 69 w1 in
    let b5 : Bool = first_is 85 w2 in
    let b4 : Bool = first_is 65 w3 in
    let b3 : Bool = first_is 80 w4 in
    let b2 : Bool = first_is 82 w5 in
    let b1 : Bool = first_is 83 w6 in
    let b0 : Bool = first_is 70 w7 in
    let none : w8 ≡ [] = no_length w8 e in
    let last : w7 ≡ letter_when b0 70 = stripped 70 w7 ∙ (ap (λ t. letter_when b0 70 ++ t) none ∙ append-nil (letter_when b0 70)) in
    let whole : word ≡ letter_when b7 67 ++ (letter_when b6 69 ++ (letter_when b5 85 ++ (letter_when b4 65 ++ (letter_when b3 80 ++ (letter_when b2 82 ++ (letter_when b1 83 ++ letter_when b0 70)))))) =
    stripped 67 word ∙ ap (λ t. letter_when b7 67 ++ t)
    (stripped 69 w1 ∙ ap (λ t. letter_when b6 69 ++ t)
    (stripped 85 w2 ∙ ap (λ t. letter_when b5 85 ++ t)
    (stripped 65 w3 ∙ ap (λ t. letter_when b4 65 ++ t)
    (stripped 80 w4 ∙ ap (λ t. letter_when b3 80 ++ t)
    (stripped 82 w5 ∙ ap (λ t. letter_when b2 82 ++ t)
    (stripped 83 w6 ∙ ap (λ t. letter_when b1 83 ++ t) last)))))) in
    numbered b7 b6 b5 b4 b3 b2 b1 b0 whole
  where
    numbered : (b7 b6 b5 b4 b3 b2 b1 b0 : Bool)
        → word ≡ letter_when b7 67 ++ (letter_when b6 69 ++ (letter_when b5 85 ++ (letter_when b4 65 ++ (letter_when b3 80 ++ (letter_when b2 82 ++ (letter_when b1 83 ++ letter_when b0 70))))))
        → (flags : ℕ) × (flags < 256) × (word ≡ flag_letters flags)
    numbered b7 b6 b5 b4 b3 b2 b1 b0 whole =
        let n : ℕ = 128 * bit b7 + 64 * bit b6 + 32 * bit b5 + 16 * bit b4 + 8 * bit b3 + 4 * bit b2 + 2 * bit b1 + bit b0 in
        let s7 = bit_small b7 in
        let s6 = bit_small b6 in
        let s5 = bit_small b5 in
        let s4 = bit_small b4 in
        let s3 = bit_small b3 in
        let s2 = bit_small b2 in
        let s1 = bit_small b1 in
        let s0 = bit_small b0 in
        let small : n < 256 = omega (arith, s7, s6, s5, s4, s3, s2, s1, s0) in
        let r7 : (n / 128 % 2 == 1) ≡ b7 = one_is b7 (n / 128 % 2) (omega (arith, s7, s6, s5, s4, s3, s2, s1, s0)) in
        let r6 : (n / 64 % 2 == 1) ≡ b6 = one_is b6 (n / 64 % 2) (omega (arith, s7, s6, s5, s4, s3, s2, s1, s0)) in
        let r5 : (n / 32 % 2 == 1) ≡ b5 = one_is b5 (n / 32 % 2) (omega (arith, s7, s6, s5, s4, s3, s2, s1, s0)) in
        let r4 : (n / 16 % 2 == 1) ≡ b4 = one_is b4 (n / 16 % 2) (omega (arith, s7, s6, s5, s4, s3, s2, s1, s0)) in
        let r3 : (n / 8 % 2 == 1) ≡ b3 = one_is b3 (n / 8 % 2) (omega (arith, s7, s6, s5, s4, s3, s2, s1, s0)) in
        let r2 : (n / 4 % 2 == 1) ≡ b2 = one_is b2 (n / 4 % 2) (omega (arith, s7, s6, s5, s4, s3, s2, s1, s0)) in
        let r1 : (n / 2 % 2 == 1) ≡ b1 = one_is b1 (n / 2 % 2) (omega (arith, s7, s6, s5, s4, s3, s2, s1, s0)) in
        let r0 : (n / 1 % 2 == 1) ≡ b0 = one_is b0 (n / 1 % 2) (omega (arith, s7, s6, s5, s4, s3, s2, s1, s0)) in
        (n, small, whole ∙ sym (rw (r7, r6, r5, r4, r3, r2, r1, r0) refl))

-- letters, each present or not
abbrev letters_by : List Bool → List ℕ → List ℕ
letters_by [] letters = []
letters_by (b ∷ bits) [] = []
letters_by (b ∷ bits) (letter ∷ letters) = letter_when b letter ++ letters_by bits letters

abbrev Differ : List ℕ → Type 0
Differ [] = Unit {0}
Differ (letter ∷ letters) = (list_any (λ d. d == letter) letters ≡ false) × Differ letters

none_first : (c : ℕ) (bits : List Bool) (letters : List ℕ) → list_any (λ d. d == c) letters ≡ false → first_is c (letters_by bits letters) ≡ false
none_first c [] letters h = refl
none_first c (b ∷ bits) [] h = refl
none_first c (true ∷ bits) (d ∷ letters) h = left_false (d == c) _ h
none_first c (false ∷ bits) (d ∷ letters) h = none_first c bits letters (right_false (d == c) _ h)

strip : (letter : ℕ) (b : Bool) (rest : List ℕ) → first_is letter rest ≡ false → without letter (letter_when b letter ++ rest) ≡ rest
strip letter true rest h = ap (λ b. if b then rest else letter ∷ rest) (itself letter)
  where
    itself : (m : ℕ) → (m == m) ≡ true
    itself m = grind arith
strip letter false [] h = refl
strip letter false (c ∷ more) h = ap (λ b. if b then more else c ∷ more) h

all_stripped : (bits : List Bool) (letters : List ℕ) → Differ letters → without_all letters (letters_by bits letters) ≡ []
all_stripped [] [] h = refl
all_stripped [] (letter ∷ letters) h = nothing letters
  where
    nothing : (letters : List ℕ) → without_all letters [] ≡ []
    nothing [] = refl
    nothing (l ∷ letters) = nothing letters
all_stripped (b ∷ bits) [] h = refl
all_stripped (b ∷ bits) (letter ∷ letters) h =
    ap (without_all letters) (strip letter b (letters_by bits letters) (none_first letter bits letters h.0)) ∙ all_stripped bits letters h.1

letters_shown : (flags : ℕ) → are_letters (flag_letters flags) ≡ true
unfolding are_letters
letters_shown flags =
    let bits : List Bool =
    has flags 128 ∷ has flags 64 ∷ has flags 32 ∷ has flags 16 ∷ has flags 8 ∷ has flags 4 ∷ has flags 2 ∷ has flags 1 ∷ [] in
    let same : flag_letters flags ≡ letters_by bits (codes "CEUAPRSF") =
    ap (λ t. letter_when (has flags 128) 67 ++ (letter_when (has flags 64) 69 ++ (letter_when (has flags 32) 85 ++ (letter_when (has flags 16) 65
    ++ (letter_when (has flags 8) 80 ++ (letter_when (has flags 4) 82 ++ (letter_when (has flags 2) 83 ++ t)))))))
    (sym (append-nil (letter_when (has flags 1) 70))) in
    ap (λ w. length (without_all (codes "CEUAPRSF") w) == 0) same
    ∙ ap (λ w. length w == 0) (all_stripped bits (codes "CEUAPRSF") (refl, (refl, (refl, (refl, (refl, (refl, (refl, (refl, tt)))))))))

pub flags_reported : (word : List ℕ) → are_flags word ≡ true → (flags : ℕ) × (flags < 256) × (word ≡ flags_text flags)
unfolding are_flags flags_text
flags_reported word e = by_cases (bytes_eq word (codes "-"))
    (λ d. (0, omega arith, same_bytes word (codes "-") d))
    (λ d. let f : nat_lt 0 (length word) && are_letters word ≡ true = ap (λ b. b || (nat_lt 0 (length word) && are_letters word)) (sym d) ∙ e in
    let reported : (flags : ℕ) × (flags < 256) × (word ≡ flag_letters flags) = letters_reported word (right_true (nat_lt 0 (length word)) (are_letters word) f) in
    (reported.0, reported.1, not_dash word (left_true (nat_lt 0 (length word)) (are_letters word) f) ∙ ap or_dash reported.2))
  where
    not_dash : (w : List ℕ) → nat_lt 0 (length w) ≡ true → w ≡ or_dash w
    not_dash [] h = absurd (true≢false (sym h))
    not_dash (c ∷ w) h = sym (or_dash_cons c w)

pub flags_shown : (flags : ℕ) → are_flags (flags_text flags) ≡ true
unfolding are_flags flags_text
flags_shown flags = by_letters (flag_letters flags) (letters_shown flags)
  where
    by_letters : (w : List ℕ) → are_letters w ≡ true → (bytes_eq (or_dash w) (codes "-") || (nat_lt 0 (length (or_dash w)) && are_letters (or_dash w))) ≡ true
    by_letters [] h = refl
    by_letters (c ∷ w) h =
        let some : nat_lt 0 (length (c ∷ w)) ≡ true = grind arith in
        by_cases (bytes_eq (c ∷ w) (codes "-"))
        (λ d. rw (or_dash_cons c w, d) refl)
        (λ d. rw (or_dash_cons c w, d, some, h) refl)
