-- One run more among others: what it holds, how far the runs reach, and that they stay apart.
use Rattle.std.proofs.Common.{◌≡◌, ℕ, ◌+◌, ◌<◌, ◌≤◌, Bool, true, false, refl, sym, ap, arith, ◌∙◌, List, [], ◌∷◌, ◌++◌, length, length-append, min, max, nat_le, nat_lt, ltb-true, ltb-false, ◌&&◌, ◌||◌}
use Rattle.std.proofs.Math.Bool.{or-false}
use Rattle.ft_io.proofs.Choices.{holds_if}
use Rattle.tcp_buffers.specs.declared.early_runs.Run.{Run}
use Rattle.tcp_rules.specs.Early.{laid, run_count}
use Rattle.tcp_buffers.specs.Runs.{is_held, marked, AreApart, reach, run, covered, written}
use Rattle.tcp_buffers.proofs.Overwrites.{length_written, zero_plus}
use Rattle.tcp_buffers.proofs.Marked.{laid_marked, past_reach, reach_up, run_count_is, spans}

-- one run more
pub apart_from : (low place : ℕ) (runs : List Run) → low ≤ place → AreApart place runs → AreApart low runs
apart_from low place [] h a = tt
apart_from low place (r ∷ runs) h a = (omega (arith, h, a.0), a.1, a.2)

pub apart_covered : (place s e : ℕ) (runs : List Run) → AreApart place runs → place < s → s < e → AreApart place (covered runs s e)
unfolding covered
apart_covered place s e [] a h o = (h, o, tt)
apart_covered place s e (r ∷ runs) a h o =
    holds_if (AreApart place) (nat_lt r.end s) (r ∷ covered runs s e) _
    (λ t. (a.0, a.1, apart_covered r.end s e runs a.2 (ltb-true _ _ t) o))
    (λ t. holds_if (AreApart place) (nat_lt e r.start) (run s e ∷ r ∷ runs) _
    (λ u. (h, o, (ltb-true _ _ u, a.1, a.2)))
    (λ u. apart_covered place (min s r.start) (max e r.end) runs (apart_from place r.end runs (omega (arith, a.0, a.1)) a.2)
    (omega (arith, h, a.0)) (omega (arith, o, a.1))))

abbrev ranges : (s e j : ℕ) → Bool
ranges s e j = nat_le s j && nat_lt j e

turned_first : (a h b : Bool) → ((a || h) || b) ≡ (a || (h || b))
turned_first true h b = refl
turned_first false h b = refl

turned_last : (a h b : Bool) → (b || (a || h)) ≡ ((a || h) || b)
turned_last true true true = refl
turned_last true true false = refl
turned_last true false true = refl
turned_last true false false = refl
turned_last false true true = refl
turned_last false true false = refl
turned_last false false true = refl
turned_last false false false = refl

turned_both : (a h b : Bool) → (h || (a || b)) ≡ ((a || h) || b)
turned_both true true b = refl
turned_both true false b = refl
turned_both false true b = refl
turned_both false false b = refl

one_range : (s e p q j : ℕ) → s < e → p < q → nat_lt q s ≡ false → nat_lt e p ≡ false → ranges (min s p) (max e q) j ≡ (ranges p q j || ranges s e j)
one_range s e p q j o r left right = grind (arith, ltb-false _ _ left, ltb-false _ _ right)

pub held_covered : (place s e j : ℕ) (runs : List Run) → AreApart place runs → s < e → is_held j (covered runs s e) ≡ (is_held j runs || ranges s e j)
unfolding covered is_held
held_covered place s e j [] a o = or-false (ranges s e j)
held_covered place s e j (r ∷ runs) a o =
    let own : Bool = nat_le r.start j && nat_lt j r.end in
    holds_if (λ l. is_held j l ≡ ((own || is_held j runs) || ranges s e j)) (nat_lt r.end s) (r ∷ covered runs s e) _
    (λ t. ap (λ b. own || b) (held_covered r.end s e j runs a.2 o) ∙ sym (turned_first own (is_held j runs) (ranges s e j)))
    (λ t. holds_if (λ l. is_held j l ≡ ((own || is_held j runs) || ranges s e j)) (nat_lt e r.start) (run s e ∷ r ∷ runs) _
    (λ u. turned_last own (is_held j runs) (ranges s e j))
    (λ u. held_covered r.end (min s r.start) (max e r.end) j runs a.2 (omega (arith, o, a.1))
    ∙ ap (λ b. is_held j runs || b) (one_range s e r.start r.end j o a.1 t u)
    ∙ turned_both own (is_held j runs) (ranges s e j)))

reach_of : (place end : ℕ) (runs : List Run) → place ≤ end → AreApart end runs → max (reach place runs) end ≡ reach end runs
unfolding reach
reach_of place end [] h a = omega (arith, h)
reach_of place end (r ∷ runs) h a = omega (arith, reach_up r.end runs a.2, a.0, a.1)

pub reach_covered : (place s e : ℕ) (runs : List Run) → AreApart place runs → place < s → s < e → reach place (covered runs s e) ≡ max (reach place runs) e
unfolding covered reach
reach_covered place s e [] a h o = omega (arith, h, o)
reach_covered place s e (r ∷ runs) a h o =
    holds_if (λ l. reach place l ≡ max (reach r.end runs) e) (nat_lt r.end s) (r ∷ covered runs s e) _
    (λ t. reach_covered r.end s e runs a.2 (ltb-true _ _ t) o)
    (λ t. holds_if (λ l. reach place l ≡ max (reach r.end runs) e) (nat_lt e r.start) (run s e ∷ r ∷ runs) _
    (λ u. omega (arith, reach_up r.end runs a.2, ltb-true _ _ u, a.1))
    (λ u. reach_covered place (min s r.start) (max e r.end) runs (apart_from place r.end runs (omega (arith, a.0, a.1)) a.2) (omega (arith, h, a.0)) (omega (arith, o, a.1))
    ∙ omega (arith, reach_of place r.end runs (omega (arith, a.0, a.1)) a.2)))

-- what a hold makes of a queue's fields
pub hold_is : (at : ℕ) (bytes area : List ℕ) (runs : List Run) → 0 < length bytes → AreApart 0 runs → reach 0 runs ≤ length area
    → marked 0 (covered runs at (at + length bytes)) (written at bytes area) ≡ laid at bytes (marked 0 runs area)
hold_is at bytes area runs some a ends =
    laid_marked at bytes area 0 runs (covered runs at (at + length bytes))
    (λ j h. held_covered 0 at (at + length bytes) j runs a (omega (arith, some)) ∙ ap (λ k. is_held j runs || spans k (length bytes) j) (zero_plus at))
    (λ j h. past_reach 0 j runs a (omega (arith, h, ends)))

pub hold_count : (at : ℕ) (bytes area : List ℕ) (runs : List Run) → 0 < at → 0 < length bytes → AreApart 0 runs → reach 0 runs ≤ length area
    → length (covered runs at (at + length bytes)) ≡ run_count (laid at bytes (marked 0 runs area))
hold_count at bytes area runs ahead some a ends =
    let long = length_written at bytes area some in
    sym (run_count_is (covered runs at (at + length bytes)) (written at bytes area) (apart_covered 0 at (at + length bytes) runs a ahead (omega (arith, some)))
    (omega (arith, reach_covered 0 at (at + length bytes) runs a ahead (omega (arith, some)), long, ends)))
    ∙ ap run_count (hold_is at bytes area runs some a ends)

-- a list of sixteen with one more is too long
pub long_more : {A : Type 0} (xs : List A) (x : A) (rest : List A) → length xs ≡ 16 → nat_le (length (xs ++ x ∷ rest)) 16 ≡ false
long_more xs x rest h = rw (length-append xs (x ∷ rest), h) (grind arith)

pub few_are : {A : Type 0} (xs : List A) → length xs ≤ 16 → nat_le (length xs) 16 ≡ true
few_are xs h = grind (arith, h)
