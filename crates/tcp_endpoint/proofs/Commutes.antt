-- The queue goes on with the held bytes that continue a text as soon as the text is in it, before the FIN is looked at. RFC 9293's order of checks
-- has the FIN last of all, and `comes` looks at it in between: both orders end alike.
use Rattle.std.proofs.Common.{◌≡◌, ℕ, zero, suc, ◌+◌, ◌-◌, ◌<◌, ◌≤◌, pos, negsuc, Bool, true, false, ◌&&◌, not, nat_lt, refl, sym, ap, ◌∙◌, Option, Some, None, List, [], ◌∷◌, ◌++◌, length, drop, length-append, arith, ltb-true, ltb-false, if◌then◌else◌}
use Rattle.std.specs.Prelude.{ℤ, nat_abs, int_lt, int_le}
use Rattle.std.proofs.lemmas.Int.{ints}
use Rattle.ft_io.proofs.Booleans.{and_false}
use Rattle.ft_io.proofs.Choices.{by_cases}
use Rattle.tcp_rules.specs.Early.{front_run, behind_front_run, holds_some}
use Rattle.tcp_rules.specs.Coming.{Came, is_none, holds_fin, with_fin, continued}

-- each place of the front run holds a byte, ..
front_holds : (k : ℕ) (places : List (Option ℕ)) → k < length (front_run places) → holds_some (drop k places) ≡ true
unfolding front_run holds_some
front_holds k [] h = absurd (omega (arith, h))
front_holds k (None ∷ places) h = absurd (omega (arith, h))
front_holds zero (Some x ∷ places) h = refl
front_holds (suc k) (Some x ∷ places) h = front_holds k places (omega (arith, h))

-- .. and from its end on the places are those that stay held
behind_holds : (k : ℕ) (places : List (Option ℕ)) → length (front_run places) ≤ k → drop k places ≡ drop (k - length (front_run places)) (behind_front_run places)
unfolding front_run behind_front_run
behind_holds k [] h = ap (λ n. drop n []) (no_less k)
  where
    no_less : (k : ℕ) → k ≡ k - 0
    no_less k = omega arith
behind_holds k (None ∷ places) h = ap (λ n. drop n (None ∷ places)) (no_less k)
  where
    no_less : (k : ℕ) → k ≡ k - 0
    no_less k = omega arith
behind_holds zero (Some x ∷ places) h = absurd (omega (arith, h))
behind_holds (suc k) (Some x ∷ places) h = behind_holds k places (omega (arith, h)) ∙ ap (λ n. drop n (behind_front_run places)) (one_less k (length (front_run places)))
  where
    one_less : (k m : ℕ) → k - m ≡ suc k - suc m
    one_less k m = omega arith

-- a FIN stands no lower than the bytes taken, which end at `end`, and nothing at or past it is held
abbrev is_free : (end : ℕ) → ℤ → List (Option ℕ) → Bool
is_free end place places = int_le (pos end) place && not (holds_some (drop (nat_abs place - end) places))

not_in_front : (end p : ℕ) (places : List (Option ℕ)) → p < end + length (front_run places) → is_free end (pos p) places ≡ false
not_in_front end p places h =
    by_cases (nat_lt p end)
    (λ t. let low : int_le (pos end) (pos p) ≡ false = grind (arith, ints, ltb-true _ _ t) in
    λ i. low i && not (holds_some (drop (p - end) places)))
    (λ t. let in_front : p - end < length (front_run places) = omega (arith, h, ltb-false _ _ t) in
    (λ i. int_le (pos end) (pos p) && not (front_holds (p - end) places in_front i)) ∙ and_false (int_le (pos end) (pos p)))

free_on : (end : ℕ) (place : ℤ) (places : List (Option ℕ)) → is_free (end + length (front_run places)) place (behind_front_run places) ≡ is_free end place places
free_on end (negsuc b) places =
    let below : int_le (pos (end + length (front_run places))) (negsuc b) ≡ false = grind (arith, ints) in
    let low : int_le (pos end) (negsuc b) ≡ false = grind (arith, ints) in
    (λ i. below i && not (holds_some (drop (suc b - (end + length (front_run places))) (behind_front_run places)))) ∙ sym (λ i. low i && not (holds_some (drop (suc b - end) places)))
free_on end (pos p) places =
    by_cases (nat_lt p (end + length (front_run places)))
    (λ t. let within : p < end + length (front_run places) = ltb-true _ _ t in
    let low : int_le (pos (end + length (front_run places))) (pos p) ≡ false = grind (arith, ints, within) in
    (λ i. low i && not (holds_some (drop (p - (end + length (front_run places))) (behind_front_run places)))) ∙ sym (not_in_front end p places within))
    (λ t. let past : end + length (front_run places) ≤ p = ltb-false _ _ t in
    let same : int_le (pos (end + length (front_run places))) (pos p) ≡ int_le (pos end) (pos p) = grind (arith, ints, past) in
    let place : p - (end + length (front_run places)) ≡ (p - end) - length (front_run places) = omega (arith, past) in
    λ i. same i && not (holds_some ((ap (λ k. drop k (behind_front_run places)) place ∙ sym (behind_holds (p - end) places (omega (arith, past)))) i)))

regrouped : (a b c d e : Bool) → (a && b && c && d && e) ≡ (a && (b && c) && d && e)
regrouped true b c d e = refl
regrouped false b c d e = refl

holds_as_before : (n edge : ℕ) (place : ℤ) (c : Came) → holds_fin n edge place (continued c) ≡ holds_fin n edge place c
unfolding holds_fin continued
holds_as_before n edge place c =
    let front : List ℕ = front_run c.early.text in
    let end : ℕ = n + length c.added in
    let size : n + length (c.added ++ front) ≡ end + length front = omega (arith, length-append c.added front) in
    regrouped (int_lt place (pos edge)) (int_le (pos (n + length (c.added ++ front))) place) (not (holds_some (drop (nat_abs place - (n + length (c.added ++ front))) (behind_front_run c.early.text)))) (is_none c.early.fin) (not c.fin)
    ∙ (λ i. int_lt place (pos edge) && (ap (λ k. is_free k place (behind_front_run c.early.text)) size ∙ free_on end place c.early.text) i && is_none c.early.fin && not c.fin)
    ∙ sym (regrouped (int_lt place (pos edge)) (int_le (pos end) place) (not (holds_some (drop (nat_abs place - end) c.early.text))) (is_none c.early.fin) (not c.fin))

-- so a FIN may be held once what continues is taken
pub fin_after_text : (n edge : ℕ) (place : ℤ) (has_fin : Bool) (c : Came) → with_fin n edge place has_fin (continued c) ≡ continued (with_fin n edge place has_fin c)
unfolding with_fin continued
fin_after_text n edge place has_fin c =
    ap (λ b. if has_fin && b then record (continued c) { early = record (continued c).early { fin = Some (nat_abs place) } } else continued c) (holds_as_before n edge place c)
    ∙ both has_fin (holds_fin n edge place c)
  where
    both : (f h : Bool)
        → (if f && h then record (continued c) { early = record (continued c).early { fin = Some (nat_abs place) } } else continued c)
        ≡ continued (if f && h then record c { early = record c.early { fin = Some (nat_abs place) } } else c)
    both true true = refl
    both true false = refl
    both false h = refl
