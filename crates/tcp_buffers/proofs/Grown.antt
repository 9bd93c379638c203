-- Bytes that are put in order: up to where they then continue, and the runs that stay held.
use Rattle.std.proofs.Common.{◌≡◌, ℕ, suc, ◌+◌, ◌-◌, ◌<◌, ◌≤◌, Bool, true, false, refl, sym, ap, subst, arith, ◌∙◌, List, [], ◌∷◌, length, take, drop, Option, Some, None, max, nat_le, nat_lt, ltb-true, ltb-false, leb-true, ◌&&◌, ◌||◌, if◌then◌else◌}
use Rattle.std.proofs.Math.Seq.{drop-nil, take-nil}
use Rattle.std.proofs.Math.Nat.{sub_self}
use Rattle.ft_io.proofs.Choices.{by_cases}
use Rattle.tcp_buffers.specs.declared.early_runs.Run.{Run}
use Rattle.tcp_rules.specs.Early.{front_run, behind_front_run}
use Rattle.tcp_buffers.specs.Runs.{is_held, marked, AreApart, reach, grown_to, runs_past, shifted}
use Rattle.tcp_buffers.proofs.Overwrites.{suc_plus}
use Rattle.tcp_buffers.proofs.Marked.{before_apart, forget_run, in_first, reach_up, plus_suc}

-- up to where the bytes are in order then
pub record GoesTo (n g : ℕ) (past : List Run) (area : List ℕ) (places : List (Option ℕ)) : Type 0 where
  pub taken : front_run places ≡ take (g - n) area
  pub left : behind_front_run places ≡ marked g past (drop (g - n) area)

-- no further: the next place holds nothing
goes_nowhere : (n : ℕ) (runs : List Run) (area : List ℕ) → is_held n runs ≡ false → GoesTo n n runs area (marked n runs area)
unfolding marked front_run behind_front_run
goes_nowhere n runs [] free = record { taken = sym (take-nil (n - n)); left = ap (λ l. marked n runs l) (sym (drop-nil (n - n))) }
goes_nowhere n runs (x ∷ area) free = record {
  taken = ap (λ b. front_run ((if b then Some x else None) ∷ marked (suc n) runs area)) free ∙ ap (λ k. take k (x ∷ area)) (sym (sub_self n));
  left = ap (λ b. behind_front_run ((if b then Some x else None) ∷ marked (suc n) runs area)) free
      ∙ ap (λ b. (if b then Some x else None) ∷ marked (suc n) runs area) (sym free)
      ∙ ap (λ k. marked n runs (drop k (x ∷ area))) (sym (sub_self n));
}

-- to the end of the run in which the next place stands
goes_along : (area : List ℕ) (n : ℕ) (r : Run) (runs : List Run) → r.start ≤ n → n ≤ r.end → AreApart r.end runs → r.end ≤ n + length area
    → GoesTo n r.end runs area (marked n (r ∷ runs) area)
unfolding marked front_run behind_front_run
goes_along [] n r runs s e a long = record {
  taken = sym (take-nil (r.end - n));
  left = ap (λ l. marked r.end runs l) (sym (drop-nil (r.end - n)));
}
goes_along (x ∷ area) n r runs s e a long =
    by_cases (nat_lt n r.end)
    (λ t. let inside : n < r.end = ltb-true _ _ t in
    let next : GoesTo (suc n) r.end runs area (marked (suc n) (r ∷ runs) area) =
    goes_along area (suc n) r runs (omega (arith, s)) (omega (arith, inside)) a (omega (arith, long)) in
    let held : is_held n (r ∷ runs) ≡ true = in_first n r runs s inside in
    let less : r.end - n ≡ suc (r.end - suc n) = omega (arith, inside) in
    record {
      taken = ap (λ b. front_run ((if b then Some x else None) ∷ marked (suc n) (r ∷ runs) area)) held ∙ ap (λ l. x ∷ l) next.taken
          ∙ ap (λ k. take k (x ∷ area)) (sym less);
      left = ap (λ b. behind_front_run ((if b then Some x else None) ∷ marked (suc n) (r ∷ runs) area)) held ∙ next.left
          ∙ ap (λ k. marked r.end runs (drop k (x ∷ area))) (sym less);
    })
    (λ t. let done : n ≡ r.end = omega (arith, ltb-false _ _ t, e) in
    let free : is_held n runs ≡ false = before_apart r.end n runs a (omega (arith, done)) in
    subst (λ g. GoesTo n g runs (x ∷ area) (marked n (r ∷ runs) (x ∷ area))) done
    (subst (GoesTo n n runs (x ∷ area)) (sym (forget_run n r runs (x ∷ area) (omega (arith, done)))) (goes_nowhere n runs (x ∷ area) free)))

pub cases_of : (b : Bool) (P : Bool → Type 0) → (b ≡ true → P true) → (b ≡ false → P false) → P b
cases_of true P t f = t refl
cases_of false P t f = f refl

pub goes_to : (place n : ℕ) (runs : List Run) (area : List ℕ) → AreApart place runs → reach place runs ≤ n + length area
    → GoesTo n (grown_to n runs) (runs_past n runs) area (marked n runs area)
unfolding grown_to runs_past reach
goes_to place n [] area a long = goes_nowhere n [] area (before_apart n n [] tt (omega arith))
goes_to place n (r ∷ runs) area a long =
    cases_of (nat_le r.end n)
    (λ b. GoesTo n (if b then grown_to n runs else (if nat_le r.start n then r.end else n)) (if b then runs_past n runs else (if nat_le r.start n then runs else r ∷ runs)) area (marked n (r ∷ runs) area))
    (λ t. subst (GoesTo n (grown_to n runs) (runs_past n runs) area) (sym (forget_run n r runs area (leb-true _ _ t))) (goes_to r.end n runs area a.2 long))
    (λ t. cases_of (nat_le r.start n)
    (λ b. GoesTo n (if b then r.end else n) (if b then runs else r ∷ runs) area (marked n (r ∷ runs) area))
    (λ u. goes_along area n r runs (leb-true _ _ u) (grind (arith, t)) a.2 (omega (arith, reach_up r.end runs a.2, long)))
    (λ u. goes_nowhere n (r ∷ runs) area (before_apart n n (r ∷ runs) (grind (arith, u), a.1, a.2) (omega arith))))

-- what stays is apart, and reaches as far
pub record Stay (n far g : ℕ) (past : List Run) : Type 0 where
  pub more : n ≤ g
  pub apart : AreApart g past
  pub ends : reach g past ≡ max n far

pub stays : (place n : ℕ) (runs : List Run) → AreApart place runs → place ≤ n → Stay n (reach place runs) (grown_to n runs) (runs_past n runs)
unfolding grown_to runs_past reach
stays place n [] a h = record { more = omega arith; apart = tt; ends = omega (arith, h) }
stays place n (r ∷ runs) a h =
    cases_of (nat_le r.end n)
    (λ b. Stay n (reach r.end runs) (if b then grown_to n runs else (if nat_le r.start n then r.end else n)) (if b then runs_past n runs else (if nat_le r.start n then runs else r ∷ runs)))
    (λ t. stays r.end n runs a.2 (leb-true _ _ t))
    (λ t. let out : n < r.end = grind (arith, t) in
    cases_of (nat_le r.start n)
    (λ b. Stay n (reach r.end runs) (if b then r.end else n) (if b then runs else r ∷ runs))
    (λ u. record { more = omega (arith, out); apart = a.2; ends = omega (arith, out, reach_up r.end runs a.2) })
    (λ u. record { more = omega arith; apart = (grind (arith, u), a.1, a.2); ends = omega (arith, out, reach_up r.end runs a.2) }))

-- places that count from another end
pub held_shifted : (m k : ℕ) (runs : List Run) → is_held k (shifted m runs) ≡ is_held (m + k) runs
unfolding is_held shifted
held_shifted m k [] = refl
held_shifted m k (r ∷ runs) =
    let own : (nat_le (r.start - m) k && nat_lt k (r.end - m)) ≡ (nat_le r.start (m + k) && nat_lt (m + k) r.end) = grind arith in
    λ i. own i || held_shifted m k runs i

pub marked_shifted : (m k : ℕ) (runs : List Run) (area : List ℕ) → marked k (shifted m runs) area ≡ marked (m + k) runs area
unfolding marked
marked_shifted m k runs [] = refl
marked_shifted m k runs (x ∷ area) =
    λ i. (if held_shifted m k runs i then Some x else None) ∷ (marked_shifted m (suc k) runs area ∙ ap (λ j. marked j runs area) (plus_suc m k ∙ suc_plus m k)) i

pub apart_shifted : (m place : ℕ) (runs : List Run) → m ≤ place → AreApart place runs → AreApart (place - m) (shifted m runs)
unfolding shifted
apart_shifted m place [] h a = tt
apart_shifted m place (r ∷ runs) h a = (omega (arith, h, a.0), omega (arith, h, a.0, a.1), apart_shifted m r.end runs (omega (arith, h, a.0, a.1)) a.2)

pub reach_shifted : (m place : ℕ) (runs : List Run) → m ≤ place → AreApart place runs → reach (place - m) (shifted m runs) ≡ reach place runs - m
unfolding shifted reach
reach_shifted m place [] h a = refl
reach_shifted m place (r ∷ runs) h a = reach_shifted m r.end runs (omega (arith, h, a.0, a.1)) a.2

-- the first run, by where it lies
pub first_is_past : (n : ℕ) (r : Run) (runs : List Run) → r.end ≤ n → (grown_to n (r ∷ runs) ≡ grown_to n runs) × (runs_past n (r ∷ runs) ≡ runs_past n runs)
unfolding grown_to runs_past
first_is_past n r runs h =
    let t : nat_le r.end n ≡ true = grind (arith, h) in
    (ap (λ b. if b then grown_to n runs else (if nat_le r.start n then r.end else n)) t, ap (λ b. if b then runs_past n runs else (if nat_le r.start n then runs else r ∷ runs)) t)

pub first_waits : (n : ℕ) (r : Run) (runs : List Run) → n < r.end → n < r.start → (grown_to n (r ∷ runs) ≡ n) × (runs_past n (r ∷ runs) ≡ r ∷ runs)
unfolding grown_to runs_past
first_waits n r runs h s =
    let t : nat_le r.end n ≡ false = grind (arith, h) in
    let u : nat_le r.start n ≡ false = grind (arith, s) in
    ((λ i. if t i then grown_to n runs else (if u i then r.end else n)), (λ i. if t i then runs_past n runs else (if u i then runs else r ∷ runs)))

pub first_grows : (n : ℕ) (r : Run) (runs : List Run) → n < r.end → r.start ≤ n → (grown_to n (r ∷ runs) ≡ r.end) × (runs_past n (r ∷ runs) ≡ runs)
unfolding grown_to runs_past
first_grows n r runs h s =
    let t : nat_le r.end n ≡ false = grind (arith, h) in
    let u : nat_le r.start n ≡ true = grind (arith, s) in
    ((λ i. if t i then grown_to n runs else (if u i then r.end else n)), (λ i. if t i then runs_past n runs else (if u i then runs else r ∷ runs)))
