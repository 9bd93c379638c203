-- A line is read back into its words, since no word has a space or a line feed in it.
use Rattle.std.proofs.Common.{◌≡◌, ℕ, ◌<◌, ◌≤◌, ◌^◌, ◌%◌, ◌+◌, List, [], ◌∷◌, ◌++◌, decimal, refl, sym, ◌∙◌, subst, arith, append_assoc}
use Rattle.std.specs.List.{AllByRecursion}
use Rattle.std.proofs.lemmas.Fmt.{decimal_by_steps}
use Rattle.ft_model.specs.Texts.{spaced}
use Rattle.ft_model.specs.Readable.{IsWord}

-- the first element, if there is one, is a mark
abbrev pub Starts : (ℕ → Type 0) → List ℕ → Type 0
Starts Q [] = Unit {0}
Starts Q (x ∷ xs) = Q x

-- a list is cut in one way where no element of the front is a mark, and the rest starts with one
pub cut : (P Q : ℕ → Type 0) → ((c : ℕ) → P c → Q c → ⊥) → (a b r s : List ℕ) → AllByRecursion P a → AllByRecursion P b
    → Starts Q r → Starts Q s → a ++ r ≡ b ++ s → (a ≡ b) × (r ≡ s)
cut P Q apart [] [] r s pa pb qr qs e = (refl, e)
cut P Q apart [] (y ∷ b) r s pa pb qr qs e = absurd (apart y pb.0 (subst (Starts Q) e qr))
cut P Q apart (x ∷ a) [] r s pa pb qr qs e = absurd (apart x pa.0 (subst (Starts Q) (sym e) qs))
cut P Q apart (x ∷ a) (y ∷ b) r s pa pb qr qs e =
    let rest : (a ≡ b) × (r ≡ s) = cut P Q apart a b r s pa.1 pb.1 qr qs (cc) in
    let front : a ≡ b = rest.0 in (cc, rest.1)

pub all_append : (P : ℕ → Type 0) (xs ys : List ℕ) → AllByRecursion P xs → AllByRecursion P ys → AllByRecursion P (xs ++ ys)
all_append P [] ys p q = q
all_append P (x ∷ xs) ys p q = (p.0, all_append P xs ys p.1 q)

pub all_weaken : (P Q : ℕ → Type 0) → ((c : ℕ) → P c → Q c) → (xs : List ℕ) → AllByRecursion P xs → AllByRecursion Q xs
all_weaken P Q f [] p = tt
all_weaken P Q f (x ∷ xs) p = (f x p.0, all_weaken P Q f xs p.1)

abbrev pub IsDigit : ℕ → Type 0
IsDigit c = (48 ≤ c) × (c ≤ 57)

pub digits_decimal : (n : ℕ) → n < 2 ^ 64 → AllByRecursion IsDigit (decimal n)
digits_decimal n h =
    decimal_by_steps
    (λ m ds. AllByRecursion IsDigit ds)
    (λ m below. ((omega arith, omega arith), tt))
    (λ m ds above so_far. all_append IsDigit ds ((48 + m % 10) ∷ []) so_far ((omega arith, omega arith), tt))
    n h

pub word_decimal : (n : ℕ) → n < 2 ^ 64 → IsWord (decimal n)
word_decimal n h = all_weaken IsDigit (λ c. 32 < c) (λ c d. omega arith) (decimal n) (digits_decimal n h)

-- a space or a line feed
abbrev pub IsBreak : ℕ → Type 0
IsBreak c = c ≤ 32

pub starts_rest : (ws : List (List ℕ)) → Starts IsBreak (spaced ws ++ 10 ∷ [])
starts_rest [] = omega arith
starts_rest (w ∷ ws) = omega arith

pub rest_same : (ws vs : List (List ℕ)) → AllByRecursion IsWord ws → AllByRecursion IsWord vs → spaced ws ++ 10 ∷ [] ≡ spaced vs ++ 10 ∷ [] → ws ≡ vs
rest_same [] [] p q e = refl
rest_same [] (v ∷ vs) p q e = absurd (let f : ◌≡◌ {A = ℕ} 10 32 = cc in omega (arith, f))
rest_same (w ∷ ws) [] p q e = absurd (let f : ◌≡◌ {A = ℕ} 32 10 = cc in omega (arith, f))
rest_same (w ∷ ws) (v ∷ vs) p q e =
    let behind : (w ++ spaced ws) ++ 10 ∷ [] ≡ (v ++ spaced vs) ++ 10 ∷ [] = cc in
    let same : (w ≡ v) × (spaced ws ++ 10 ∷ [] ≡ spaced vs ++ 10 ∷ []) =
    cut (λ c. 32 < c) IsBreak (λ c p q. omega arith) w v _ _ p.0 q.0 (starts_rest ws) (starts_rest vs)
    (sym (append_assoc w (spaced ws) (10 ∷ [])) ∙ behind ∙ append_assoc v (spaced vs) (10 ∷ [])) in
    let first : w ≡ v = same.0 in
    let others : ws ≡ vs = rest_same ws vs p.1 q.1 same.1 in cc
