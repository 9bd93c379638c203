-- The places that runs hold, of bytes that begin at a place: text laid over them, and how many runs of places there are.
use Rattle.std.proofs.Common.{◌≡◌, ℕ, zero, suc, ◌+◌, ◌-◌, ◌<◌, ◌≤◌, Bool, true, false, refl, ap, arith, ◌∙◌, List, [], ◌∷◌, length, drop, Option, Some, None, nat_le, nat_lt, ltb-true, ltb-false, ◌&&◌, ◌||◌, if◌then◌else◌}
use Rattle.std.proofs.Math.Bool.{or-true, or-false}
use Rattle.ft_io.proofs.Choices.{by_cases}
use Rattle.tcp_buffers.specs.declared.early_runs.Run.{Run}
use Rattle.tcp_rules.specs.Early.{laid, runs_behind, run_count, front_run, holds_some}
use Rattle.tcp_buffers.specs.Runs.{is_held, marked, AreApart, reach, written}
use Rattle.tcp_buffers.proofs.Overwrites.{zero_plus}

-- the test on a run's range
abbrev pub spans : (from n j : ℕ) → Bool
spans from n j = nat_le from j && nat_lt j (from + n)

pub marked_same : (k : ℕ) (runs more : List Run) (area : List ℕ) → ((j : ℕ) → k ≤ j → is_held j more ≡ is_held j runs) → marked k more area ≡ marked k runs area
unfolding marked
marked_same k runs more [] same = refl
marked_same k runs more (x ∷ area) same =
    λ i. (if same k (omega arith) i then Some x else None) ∷ marked_same (suc k) runs more area (λ j h. same j (omega (arith, h))) i

abbrev Covers : (k from n : ℕ) (runs more : List Run) → Type 0
Covers k from n runs more = (j : ℕ) → k ≤ j → is_held j more ≡ (is_held j runs || spans from n j)

-- the first place of the new run is held, ..
held_first : (k z n : ℕ) (runs more : List Run) → Covers k (k + 0) (suc n) runs more → is_held k more ≡ true
held_first k z n runs more c =
    let s : spans (k + 0) (suc n) k ≡ true = grind arith in
    c k (omega arith) ∙ ap (λ b. is_held k runs || b) s ∙ or-true (is_held k runs)

-- .. those before it are held as before, ..
unheld_first : (k a n : ℕ) (runs more : List Run) → Covers k (k + suc a) n runs more → is_held k more ≡ is_held k runs
unheld_first k a n runs more c =
    let s : spans (k + suc a) n k ≡ false = grind arith in
    c k (omega arith) ∙ ap (λ b. is_held k runs || b) s ∙ or-false (is_held k runs)

-- .. and the same is true one place further on
later : (k n : ℕ) (runs more : List Run) → Covers k (k + 0) (suc n) runs more → Covers (suc k) (suc k + 0) n runs more
later k n runs more c j h =
    let s : spans (k + 0) (suc n) j ≡ spans (suc k + 0) n j = grind (arith, h) in
    c j (omega (arith, h)) ∙ ap (λ b. is_held j runs || b) s

pub moved : (k a n : ℕ) (runs more : List Run) → Covers k (k + suc a) n runs more → Covers (suc k) (suc k + a) n runs more
moved k a n runs more c j h =
    let s : spans (k + suc a) n j ≡ spans (suc k + a) n j = grind (arith, h) in
    c j (omega (arith, h)) ∙ ap (λ b. is_held j runs || b) s

-- text laid over places is written over the bytes, where the runs hold its places too
pub laid_marked : (at : ℕ) (new area : List ℕ) (k : ℕ) (runs more : List Run) → Covers k (k + at) (length new) runs more
    → ((j : ℕ) → k + length area ≤ j → is_held j runs ≡ false) → marked k more (written at new area) ≡ laid at new (marked k runs area)
unfolding marked laid written
laid_marked at [] area k runs more c e =
    marked_same k runs more area (λ j h. c j h ∙ nothing_spanned (is_held j runs) (k + at) j)
  where
    nothing_spanned : (b : Bool) (from j : ℕ) → (b || spans from 0 j) ≡ b
    nothing_spanned true from j = refl
    nothing_spanned false from j = grind arith
laid_marked zero (x ∷ new) [] k runs more c e =
    λ i. (if held_first k 0 (length new) runs more c i then Some x else None)
    ∷ laid_marked zero new [] (suc k) runs more (later k (length new) runs more c) (λ j h. e j (omega (arith, h))) i
laid_marked zero (x ∷ new) (y ∷ area) k runs more c e =
    λ i. (if held_first k 0 (length new) runs more c i then Some x else None)
    ∷ laid_marked zero new area (suc k) runs more (later k (length new) runs more c) (λ j h. e j (omega (arith, h))) i
laid_marked (suc a) (x ∷ new) [] k runs more c e =
    λ i. (if (unheld_first k a (suc (length new)) runs more c ∙ e k (omega arith)) i then Some 0 else None)
    ∷ laid_marked a (x ∷ new) [] (suc k) runs more (moved k a (suc (length new)) runs more c) (λ j h. e j (omega (arith, h))) i
laid_marked (suc a) (x ∷ new) (y ∷ area) k runs more c e =
    λ i. (if unheld_first k a (suc (length new)) runs more c i then Some y else None)
    ∷ laid_marked a (x ∷ new) area (suc k) runs more (moved k a (suc (length new)) runs more c) (λ j h. e j (omega (arith, h))) i

-- places between and past runs hold nothing
pub before_apart : (place k : ℕ) (runs : List Run) → AreApart place runs → k ≤ place → is_held k runs ≡ false
unfolding is_held
before_apart place k [] a h = refl
before_apart place k (r ∷ runs) a h =
    let s : (nat_le r.start k && nat_lt k r.end) ≡ false = grind (arith, h, a.0) in
    ap (λ b. b || is_held k runs) s ∙ before_apart r.end k runs a.2 (omega (arith, h, a.0, a.1))

pub reach_up : (place : ℕ) (runs : List Run) → AreApart place runs → place ≤ reach place runs
unfolding reach
reach_up place [] a = omega arith
reach_up place (r ∷ runs) a = omega (arith, reach_up r.end runs a.2, a.0, a.1)

pub past_reach : (place k : ℕ) (runs : List Run) → AreApart place runs → reach place runs ≤ k → is_held k runs ≡ false
unfolding is_held reach
past_reach place k [] a h = refl
past_reach place k (r ∷ runs) a h =
    let low : r.end ≤ k = omega (arith, reach_up r.end runs a.2, h) in
    let s : (nat_le r.start k && nat_lt k r.end) ≡ false = grind (arith, low) in
    ap (λ b. b || is_held k runs) s ∙ past_reach r.end k runs a.2 h

past_run : (k j : ℕ) (r : Run) (runs : List Run) → r.end ≤ k → k ≤ j → is_held j (r ∷ runs) ≡ is_held j runs
unfolding is_held
past_run k j r runs low h =
    let s : (nat_le r.start j && nat_lt j r.end) ≡ false = grind (arith, low, h) in
    ap (λ b. b || is_held j runs) s

-- a run that ends no later than the bytes begin marks none of them
pub forget_run : (k : ℕ) (r : Run) (runs : List Run) (area : List ℕ) → r.end ≤ k → marked k (r ∷ runs) area ≡ marked k runs area
forget_run k r runs area low = marked_same k runs (r ∷ runs) area (λ j h. past_run k j r runs low h)

pub plus_suc : (n k : ℕ) → n + suc k ≡ suc n + k
plus_suc n k = omega arith

pub drop_marked : (n k : ℕ) (runs : List Run) (area : List ℕ) → drop n (marked k runs area) ≡ marked (n + k) runs (drop n area)
unfolding marked
drop_marked zero k runs area = ap (λ m. marked m runs area) (zero_plus k)
drop_marked (suc n) k runs [] = refl
drop_marked (suc n) k runs (x ∷ area) = drop_marked n (suc k) runs area ∙ ap (λ m. marked m runs (drop n area)) (plus_suc n k)

-- the count of runs
record Counts (area : List ℕ) : Type 0 where
  outside : (k place : ℕ) (runs : List Run) → AreApart place runs → k ≤ suc place → reach place runs ≤ k + length area → place ≤ k + length area
      → runs_behind false (marked k runs area) ≡ length runs
  within : (k : ℕ) (r : Run) (runs : List Run) → r.start < k → k ≤ r.end → AreApart r.end runs → reach r.end runs ≤ k + length area
      → runs_behind true (marked k (r ∷ runs) area) ≡ length runs

impossible_run : (k place : ℕ) (r : Run) (runs : List Run) → AreApart place (r ∷ runs) → k ≤ suc place → reach r.end runs ≤ k + 0 → ⊥
impossible_run k place r runs a low ends = omega (arith, reach_up r.end runs a.2, a.0, a.1, low, ends)

no_runs : (k place : ℕ) (runs : List Run) → AreApart place runs → k ≤ suc place → reach place runs ≤ k + 0 → 0 ≡ length runs
unfolding reach
no_runs k place [] a low ends = refl
no_runs k place (r ∷ runs) a low ends = absurd (impossible_run k place r runs a low ends)

no_more : (k : ℕ) (r : Run) (runs : List Run) → r.start < k → k ≤ r.end → AreApart r.end runs → reach r.end runs ≤ k + 0 → 0 ≡ length runs
unfolding reach
no_more k r [] s e a ends = refl
no_more k r (q ∷ runs) s e a ends = absurd (impossible_run r.end r.end q runs a (omega arith) (omega (arith, ends, e)))

counts_none : Counts []
unfolding marked runs_behind reach
counts_none = record {
  outside = λ k place runs a low ends p. no_runs k place runs a low ends;
  within = λ k r runs s e a ends. no_more k r runs s e a ends;
}

-- one place further: before the next run, at its start, inside it, at its end
skip : (x k place : ℕ) (runs : List Run) (area : List ℕ) → is_held k runs ≡ false → runs_behind false (marked k runs (x ∷ area)) ≡ runs_behind false (marked (suc k) runs area)
unfolding marked runs_behind
skip x k place runs area free = ap (λ b. runs_behind false ((if b then Some x else None) ∷ marked (suc k) runs area)) free

enter : (x k : ℕ) (runs : List Run) (area : List ℕ) → is_held k runs ≡ true → runs_behind false (marked k runs (x ∷ area)) ≡ suc (runs_behind true (marked (suc k) runs area))
unfolding marked runs_behind
enter x k runs area taken = ap (λ b. runs_behind false ((if b then Some x else None) ∷ marked (suc k) runs area)) taken

pub stay : (x k : ℕ) (runs : List Run) (area : List ℕ) → is_held k runs ≡ true → runs_behind true (marked k runs (x ∷ area)) ≡ runs_behind true (marked (suc k) runs area)
unfolding marked runs_behind
stay x k runs area taken = ap (λ b. runs_behind true ((if b then Some x else None) ∷ marked (suc k) runs area)) taken

pub leave : (x k : ℕ) (runs : List Run) (area : List ℕ) → is_held k runs ≡ false → runs_behind true (marked k runs (x ∷ area)) ≡ runs_behind false (marked (suc k) runs area)
unfolding marked runs_behind
leave x k runs area free = ap (λ b. runs_behind true ((if b then Some x else None) ∷ marked (suc k) runs area)) free

pub in_first : (k : ℕ) (r : Run) (runs : List Run) → r.start ≤ k → k < r.end → is_held k (r ∷ runs) ≡ true
unfolding is_held
in_first k r runs s e =
    let t : (nat_le r.start k && nat_lt k r.end) ≡ true = grind (arith, s, e) in
    ap (λ b. b || is_held k runs) t

out_more : (x : ℕ) (area : List ℕ) → Counts area → (k place : ℕ) (runs : List Run) → AreApart place runs → k ≤ suc place
    → reach place runs ≤ k + suc (length area) → place ≤ k + suc (length area) → runs_behind false (marked k runs (x ∷ area)) ≡ length runs
unfolding reach
out_more x area c k place [] a low ends p =
    skip x k place [] area (before_apart k k [] tt (omega arith)) ∙ c.outside (suc k) k [] tt (omega arith) (omega arith) (omega arith)
out_more x area c k place (r ∷ runs) a low ends p =
    by_cases (nat_lt k r.start)
    (λ t. let far : k < r.start = ltb-true _ _ t in
    skip x k place (r ∷ runs) area (before_apart k k (r ∷ runs) (far, a.1, a.2) (omega arith))
    ∙ c.outside (suc k) k (r ∷ runs) (far, a.1, a.2) (omega arith) (omega (arith, ends)) (omega arith))
    (λ t. let near : r.start ≤ k = ltb-false _ _ t in
    let at : k ≡ r.start = omega (arith, near, a.0, low) in
    enter x k (r ∷ runs) area (in_first k r runs near (omega (arith, at, a.1)))
    ∙ ap suc (c.within (suc k) r runs (omega (arith, near)) (omega (arith, at, a.1)) a.2 (omega (arith, ends))))

in_more : (x : ℕ) (area : List ℕ) → Counts area → (k : ℕ) (r : Run) (runs : List Run) → r.start < k → k ≤ r.end → AreApart r.end runs
    → reach r.end runs ≤ k + suc (length area) → runs_behind true (marked k (r ∷ runs) (x ∷ area)) ≡ length runs
in_more x area c k r runs s e a ends =
    by_cases (nat_lt k r.end)
    (λ t. let inside : k < r.end = ltb-true _ _ t in
    stay x k (r ∷ runs) area (in_first k r runs (omega (arith, s)) inside)
    ∙ c.within (suc k) r runs (omega (arith, s)) (omega (arith, inside)) a (omega (arith, ends)))
    (λ t. let done : r.end ≤ k = ltb-false _ _ t in
    leave x k (r ∷ runs) area (past_run k k r runs done (omega arith) ∙ before_apart r.end k runs a (omega (arith, e)))
    ∙ ap (λ l. runs_behind false l) (forget_run (suc k) r runs area (omega (arith, done)))
    ∙ c.outside (suc k) r.end runs a (omega (arith, e)) (omega (arith, ends)) (omega (arith, e)))

counts_more : (x : ℕ) (area : List ℕ) → Counts area → Counts (x ∷ area)
counts_more x area c = record {
  outside = λ k place runs a low ends p. out_more x area c k place runs a low ends p;
  within = λ k r runs s e a ends. in_more x area c k r runs s e a ends;
}

counts_all : (area : List ℕ) → Counts area
counts_all [] = counts_none
counts_all (x ∷ area) = counts_more x area (counts_all area)

-- as many runs of places as runs
pub run_count_is : (runs : List Run) (area : List ℕ) → AreApart 0 runs → reach 0 runs ≤ length area → run_count (marked 0 runs area) ≡ length runs
run_count_is runs area a ends = (counts_all area).outside 0 0 runs a (omega arith) (omega (arith, ends)) (omega arith)

pub marked_length : (k : ℕ) (runs : List Run) (area : List ℕ) → length (marked k runs area) ≡ length area
unfolding marked
marked_length k runs [] = refl
marked_length k runs (x ∷ area) = ap suc (marked_length (suc k) runs area)

-- up to where something is held: the last run's end
pub last_held : (place : ℕ) (runs : List Run) → AreApart place runs → 0 < length runs → is_held (reach place runs - 1) runs ≡ true
unfolding is_held reach
last_held place [] a some = absurd (omega (arith, some))
last_held place (r ∷ []) a some = in_first (r.end - 1) r [] (omega (arith, a.1)) (omega (arith, a.1))
last_held place (r ∷ q ∷ runs) a some =
    ap (λ b. (nat_le r.start (reach q.end runs - 1) && nat_lt (reach q.end runs - 1) r.end) || b) (last_held r.end (q ∷ runs) a.2 (omega arith))
    ∙ or-true (nat_le r.start (reach q.end runs - 1) && nat_lt (reach q.end runs - 1) r.end)

pub holds_last : (area : List ℕ) (k : ℕ) (runs : List Run) → 0 < length area → is_held (k + length area - 1) runs ≡ true → holds_some (marked k runs area) ≡ true
unfolding marked holds_some
holds_last [] k runs some last = absurd (omega (arith, some))
holds_last (x ∷ []) k runs some last =
    ap (λ b. holds_some ((if b then Some x else None) ∷ [])) (ap (λ j. is_held j runs) (back k) ∙ last)
  where
    back : (k : ℕ) → k ≡ k + 1 - 1
    back k = omega arith
holds_last (x ∷ y ∷ area) k runs some last =
    let more : holds_some (marked (suc k) runs (y ∷ area)) ≡ true = holds_last (y ∷ area) (suc k) runs (omega arith) (ap (λ j. is_held j runs) (on k (length area)) ∙ last) in
    either (is_held k runs) (marked (suc k) runs (y ∷ area)) x more
  where
    on : (k n : ℕ) → suc k + suc n - 1 ≡ k + suc (suc n) - 1
    on k n = omega arith

    either : (b : Bool) (rest : List (Option ℕ)) (x : ℕ) → holds_some rest ≡ true → holds_some ((if b then Some x else None) ∷ rest) ≡ true
    either true rest x h = refl
    either false rest x h = h

pub some_run : (runs : List Run) → 0 < reach 0 runs → 0 < length runs
unfolding reach
some_run [] h = absurd (omega (arith, h))
some_run (r ∷ runs) h = omega arith

-- no byte continues what is in order: it would be there already
pub front_is_open : (runs : List Run) (area : List ℕ) → AreApart 0 runs → front_run (marked 0 runs area) ≡ []
unfolding marked front_run
front_is_open runs [] a = refl
front_is_open runs (x ∷ area) a = ap (λ b. front_run ((if b then Some x else None) ∷ marked 1 runs area)) (before_apart 0 0 runs a (omega arith))
