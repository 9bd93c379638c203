-- Runs of held bytes, counted from a place on.
use Rattle.std.proofs.Common.{◌≡◌, ◌∙◌, ℕ, zero, suc, ◌+◌, ◌-◌, ◌<◌, ◌≤◌, Bool, true, false, true≢false, refl, ap, ap₂, subst, sym, arith, Option, Some, None, is_some, List, [], ◌∷◌, length, get_or, take, drop}
use Rattle.std.specs.Prelude.{◌&&◌, not, min, nat_le, nat_lt, if◌then◌else◌, slice_get, unwrap_or}
use Rattle.std.proofs.lemmas.List.{drop_all}
use Rattle.std.proofs.lemmas.Bool.{leb-true, leb-false, le-leb}
use Rattle.ft_io.proofs.Choices.{by_cases}
use Rattle.tcp_rules.specs.Early.{laid, runs_behind, run_count, front_run, behind_front_run, holds_some, held_with, most_runs}
use Rattle.plain_packets.proofs.Laying.{nothing_laid}

pub no_runs : (text : List (Option ℕ)) → text ≡ [] → 0 ≡ run_count text
unfolding runs_behind
no_runs text none = sym (ap (runs_behind false) none)

pub runs_few : (within : Bool) (text : List (Option ℕ)) → runs_behind within text ≤ length text
unfolding runs_behind
runs_few within [] = omega arith
runs_few within (None ∷ text) = omega (arith, runs_few false text)
runs_few true (Some x ∷ text) = omega (arith, runs_few true text)
runs_few false (Some x ∷ text) = omega (arith, runs_few true text)

same_both : (b : Bool) (text : List (Option ℕ)) → (if b then text else text) ≡ text
same_both true text = refl
same_both false text = refl

-- no bytes are held where there are none
pub nothing_held : (at : ℕ) (bytes : List ℕ) (text : List (Option ℕ)) → length bytes ≡ 0 → text ≡ held_with at bytes text
unfolding held_with
nothing_held at bytes text none =
    sym (ap (λ t. if nat_le (run_count t) most_runs then t else text) (nothing_laid at bytes text none) ∙ same_both (nat_le (run_count text) most_runs) text)

-- whether this place holds a byte
abbrev pub holds_at : ℕ → List (Option ℕ) → Bool
holds_at k text = holds_some (take 1 (drop k text))

pub holds_here : (text : List (Option ℕ)) (k : ℕ) (place : Option ℕ) → k < length text → place ≡ get_or text k place → holds_at k text ≡ is_some place
unfolding holds_some
holds_here [] k place within is = absurd (omega (arith, within))
holds_here (None ∷ text) zero place within is = sym (ap is_some is)
holds_here (Some x ∷ text) zero place within is = sym (ap is_some is)
holds_here (first ∷ text) (suc k) place within is = holds_here text k place (omega (arith, within)) is

pub holds_nothing : (text : List (Option ℕ)) (k : ℕ) → length text ≤ k → holds_at k text ≡ false
unfolding holds_some
holds_nothing text k past = ap (λ rest. holds_some (take 1 rest)) (drop_all k text past)

-- whether the place before this one does; the flag says it of the place before the first one
unfoldable pub follows : Bool → ℕ → List (Option ℕ) → Bool
follows within zero text = within
follows within (suc k) text = holds_at k text

pub follows_is : (k : ℕ) (text : List (Option ℕ)) → follows false k text ≡ (nat_lt 0 k && holds_at (k - 1) text)
unfolding follows
follows_is zero text = refl
follows_is (suc k) text =
    let some : nat_lt 0 (suc k) ≡ true = le-leb 1 (suc k) (omega arith) in
    let before : suc k - 1 ≡ k = omega arith in
    sym (ap₂ (λ b n. b && holds_at n text) some before)

pub follows_next : (within : Bool) (k : ℕ) (text : List (Option ℕ)) → follows within (k + 1) text ≡ holds_at k text
unfolding follows
follows_next within k text = let next : suc k ≡ k + 1 = omega arith in subst (λ n. follows within n text ≡ holds_at k text) next refl

-- how many runs begin at this place or behind it
unfoldable pub runs_at : Bool → ℕ → List (Option ℕ) → ℕ
runs_at within k text = runs_behind (follows within k text) (drop k text)

-- one place further on
runs_step : (within : Bool) (k : ℕ) (text : List (Option ℕ))
    → runs_at within k text ≡ (if holds_at k text && not (follows within k text) then 1 else 0) + runs_at within (suc k) text
unfolding runs_at follows runs_behind holds_some
runs_step within zero [] = refl
runs_step within zero (None ∷ text) = omega arith
runs_step true zero (Some x ∷ text) = omega arith
runs_step false zero (Some x ∷ text) = omega arith
runs_step within (suc k) [] = refl
runs_step within (suc zero) (place ∷ text) = runs_step (holds_at zero (place ∷ text)) zero text
runs_step within (suc (suc k)) (place ∷ text) = runs_step within (suc k) text

pub runs_next : (within : Bool) (k : ℕ) (text : List (Option ℕ))
    → runs_at within k text ≡ (if holds_at k text && not (follows within k text) then 1 else 0) + runs_at within (k + 1) text
runs_next within k text =
    let next : suc k ≡ k + 1 = omega arith in
    subst (λ n. runs_at within k text ≡ (if holds_at k text && not (follows within k text) then 1 else 0) + runs_at within n text) next (runs_step within k text)

-- none begins behind all places
pub runs_past : (within : Bool) (k : ℕ) (text : List (Option ℕ)) → length text ≤ k → runs_at within k text ≡ 0
unfolding runs_at runs_behind
runs_past within k text past = ap (λ rest. runs_behind (follows within k text) rest) (drop_all k text past)

-- behind bytes that are laid, the run that they are in goes on
run_proceeds : (k : ℕ) (text : List (Option ℕ)) (within : Bool) → runs_behind true (drop k text) ≡ runs_at within (suc k) text
unfolding runs_at follows runs_behind holds_some
run_proceeds zero [] within = refl
run_proceeds zero (None ∷ text) within = refl
run_proceeds zero (Some x ∷ text) within = refl
run_proceeds (suc k) [] within = refl
run_proceeds (suc k) (place ∷ text) within = run_proceeds k text within

laid_on_none : (bytes : List ℕ) → runs_behind true (laid zero bytes []) ≡ 0
unfolding runs_behind laid
laid_on_none [] = refl
laid_on_none (x ∷ bytes) = laid_on_none bytes

one_laid_run : (at : ℕ) (x : ℕ) (bytes : List ℕ) → runs_behind false (laid at (x ∷ bytes) []) ≡ 1
unfolding runs_behind laid
one_laid_run zero x bytes = ap suc (laid_on_none bytes)
one_laid_run (suc k) x bytes = one_laid_run k x bytes

laid_at_front : (bytes : List ℕ) (text : List (Option ℕ)) → runs_behind true (laid zero bytes text) ≡ runs_behind true (drop (length bytes) text)
unfolding runs_behind laid
laid_at_front [] text = refl
laid_at_front (x ∷ bytes) [] = laid_on_none bytes
laid_at_front (x ∷ bytes) (place ∷ text) = laid_at_front bytes text

laid_first : (within : Bool) (x : ℕ) (bytes : List ℕ) (text : List (Option ℕ))
    → runs_behind within (laid zero (x ∷ bytes) text) ≡ (if within then 0 else 1) + runs_behind true (drop (length (x ∷ bytes)) text)
unfolding runs_behind laid
laid_first true x bytes [] = laid_on_none bytes
laid_first false x bytes [] = ap suc (laid_on_none bytes)
laid_first true x bytes (place ∷ text) = omega (arith, laid_at_front bytes text)
laid_first false x bytes (place ∷ text) = omega (arith, laid_at_front bytes text)

-- where there are no places the bytes laid are one run
joined_none : (within : Bool) (k end x : ℕ) (bytes : List ℕ)
    → runs_behind within (laid (suc k) (x ∷ bytes) []) + runs_at within (suc k) []
    ≡ runs_behind within [] + (if follows within (suc k) [] then 0 else 1) + runs_at within (suc end) []
unfolding runs_at follows runs_behind holds_some laid
joined_none within zero end x bytes = omega (arith, one_laid_run zero x bytes)
joined_none within (suc k) end x bytes = omega (arith, one_laid_run (suc k) x bytes)

-- the bytes laid from `at` up to `end` are in one run, which joins those that begin there and the one that begins directly behind them
joined : (within : Bool) (at end x : ℕ) (bytes : List ℕ) (text : List (Option ℕ)) → end ≡ at + length (x ∷ bytes)
    → runs_behind within (laid at (x ∷ bytes) text) + runs_at within at text
    ≡ runs_behind within text + (if follows within at text then 0 else 1) + runs_at within (suc end) text
unfolding runs_at follows runs_behind holds_some laid
joined within zero end x bytes text is =
    let same : end ≡ length (x ∷ bytes) = omega (arith, is) in
    let behind : runs_behind true (drop (length (x ∷ bytes)) text) ≡ runs_at within (suc end) text =
    subst (λ n. runs_behind true (drop n text) ≡ runs_at within (suc end) text) same (run_proceeds end text within) in
    omega (arith, laid_first within x bytes text, behind)
joined within (suc k) end x bytes [] is = joined_none within k end x bytes
joined within (suc k) zero x bytes (place ∷ text) is = absurd (omega (arith, is))
joined within (suc zero) (suc end) x bytes (None ∷ text) is = joined false zero end x bytes text (omega (arith, is))
joined within (suc (suc k)) (suc end) x bytes (None ∷ text) is = joined false (suc k) end x bytes text (omega (arith, is))
joined true (suc zero) (suc end) x bytes (Some y ∷ text) is = joined true zero end x bytes text (omega (arith, is))
joined true (suc (suc k)) (suc end) x bytes (Some y ∷ text) is = joined true (suc k) end x bytes text (omega (arith, is))
joined false (suc zero) (suc end) x bytes (Some y ∷ text) is = omega (arith, joined true zero end x bytes text (omega (arith, is)))
joined false (suc (suc k)) (suc end) x bytes (Some y ∷ text) is = omega (arith, joined true (suc k) end x bytes text (omega (arith, is)))

laid_runs : (at : ℕ) (bytes : List ℕ) (text : List (Option ℕ)) → 0 < length bytes
    → run_count (laid at bytes text) + runs_at false at text
    ≡ run_count text + (if follows false at text then 0 else 1) + runs_at false (suc (at + length bytes)) text
laid_runs at [] text some = absurd (omega (arith, some))
laid_runs at (x ∷ bytes) text some = joined false at (at + length (x ∷ bytes)) x bytes text refl

-- so the runs are counted by the places from `at` up to the one behind the bytes
pub runs_counted : (at end place met : ℕ) (bytes : List ℕ) (text : List (Option ℕ)) → 0 < length bytes
    → end ≡ min (at + (length bytes + 1)) (length text) → end ≤ place → (at ≤ end → place ≤ end)
    → met + runs_at false place text ≡ runs_at false at text
    → run_count (laid at bytes text) + met ≡ run_count text + (if follows false at text then 0 else 1)
runs_counted at end place met bytes text some is reached most left =
    by_cases (nat_le (at + (length bytes + 1)) (length text))
    (λ within.
    let fits : at + (length bytes + 1) ≤ length text = leb-true _ _ within in
    let there : place ≡ suc (at + length bytes) = omega (arith, fits, is, reached, most (omega (arith, fits, is))) in
    let same : runs_at false place text ≡ runs_at false (suc (at + length bytes)) text = ap (λ k. runs_at false k text) there in
    omega (arith, same, left, laid_runs at bytes text some))
    (λ beyond.
    let short : length text < at + (length bytes + 1) = leb-false _ _ beyond in
    let none : runs_at false place text ≡ 0 = runs_past false place text (omega (arith, short, is, reached)) in
    let behind : runs_at false (suc (at + length bytes)) text ≡ 0 = runs_past false (suc (at + length bytes)) text (omega (arith, short)) in
    omega (arith, none, behind, left, laid_runs at bytes text some))

-- .. in a run that goes on from the place before them, or not
pub runs_joined : (at end place met : ℕ) (continues : Bool) (bytes : List ℕ) (text : List (Option ℕ)) → 0 < length bytes
    → end ≡ min (at + (length bytes + 1)) (length text) → end ≤ place → (at ≤ end → place ≤ end)
    → met + runs_at false place text ≡ runs_at false at text → continues ≡ (nat_lt 0 at && holds_at (at - 1) text)
    → run_count (laid at bytes text) + met ≡ run_count text + (if continues then 0 else 1)
runs_joined at end place met continues bytes text some is reached most left before =
    subst (λ b. run_count (laid at bytes text) + met ≡ run_count text + (if b then 0 else 1)) (follows_is at text ∙ sym before)
    (runs_counted at end place met bytes text some is reached most left)

-- a run ends at the front if its last byte is removed
pub front_runs : (text : List (Option ℕ)) → run_count text ≡ (if holds_at 0 text && not (holds_at 1 text) then 1 else 0) + run_count (drop 1 text)
unfolding runs_behind holds_some
front_runs [] = refl
front_runs (None ∷ text) = omega arith
front_runs (Some x ∷ []) = refl
front_runs (Some x ∷ None ∷ text) = omega arith
front_runs (Some x ∷ Some y ∷ text) = omega arith

-- the first of the held bytes that continue what is taken
pub front_is : (text : List (Option ℕ)) (place : Option ℕ) → 0 < length text → place ≡ get_or text 0 place → place ≡ slice_get (front_run text) 0
unfolding front_run
front_is [] place some is = absurd (omega (arith, some))
front_is (None ∷ text) place some is = is
front_is (Some x ∷ text) place some is = is

pub front_none : (text : List (Option ℕ)) → length text ≡ 0 → None ≡ slice_get (front_run text) 0
unfolding front_run
front_none [] none = refl
front_none (place ∷ text) none = absurd (omega (arith, none))

-- the places once that byte is taken, ..
pub front_more : (text : List (Option ℕ)) (x : ℕ) → slice_get (front_run text) 0 ≡ Some x
    → (front_run text ≡ x ∷ front_run (drop 1 text)) × (behind_front_run text ≡ behind_front_run (drop 1 text)) × (0 < length text)
unfolding front_run behind_front_run
front_more [] x is = absurd (true≢false (sym (ap is_some is)))
front_more (None ∷ text) x is = absurd (true≢false (sym (ap is_some is)))
front_more (Some y ∷ text) x is = (ap (λ place. unwrap_or place 0 ∷ front_run text) is, refl, omega arith)

-- .. and where there is none
pub front_done : (text : List (Option ℕ)) → slice_get (front_run text) 0 ≡ None → (front_run text ≡ []) × (behind_front_run text ≡ text)
unfolding front_run behind_front_run
front_done [] is = (refl, refl)
front_done (None ∷ text) is = (refl, refl)
front_done (Some y ∷ text) is = absurd (true≢false (ap is_some is))

-- a place that holds a byte is one from each earlier place on, ..
pub held_behind : (first k : ℕ) (text : List (Option ℕ)) → first ≤ k → holds_at k text ≡ true → holds_some (drop first text) ≡ true
unfolding holds_some
held_behind zero zero [] early holds = holds
held_behind zero (suc k) [] early holds = holds
held_behind (suc first) zero [] early holds = absurd (omega (arith, early))
held_behind (suc first) (suc k) [] early holds = holds
held_behind zero zero (None ∷ text) early holds = absurd (true≢false (sym holds))
held_behind zero (suc k) (None ∷ text) early holds = held_behind zero k text (omega arith) holds
held_behind zero k (Some x ∷ text) early holds = refl
held_behind (suc first) zero (place ∷ text) early holds = absurd (omega (arith, early))
held_behind (suc first) (suc k) (place ∷ text) early holds = held_behind first k text (omega (arith, early)) holds

-- .. and where neither a place nor one behind it holds one, none from it on does
none_from : (k : ℕ) (text : List (Option ℕ)) → holds_at k text ≡ false → holds_some (drop (suc k) text) ≡ false → holds_some (drop k text) ≡ false
unfolding holds_some
none_from zero [] here behind = refl
none_from zero (None ∷ text) here behind = behind
none_from zero (Some x ∷ text) here behind = here
none_from (suc k) [] here behind = refl
none_from (suc k) (place ∷ text) here behind = none_from k text here behind

pub none_behind : (k end : ℕ) (text : List (Option ℕ)) → k + 1 ≡ end → holds_at k text ≡ false → holds_some (drop end text) ≡ false → holds_some (drop k text) ≡ false
none_behind k end text is here behind =
    let next : end ≡ suc k = omega (arith, is) in
    none_from k text here (subst (λ n. holds_some (drop n text) ≡ false) next behind)

pub none_further : (k m : ℕ) (text : List (Option ℕ)) → k ≤ m → holds_some (drop k text) ≡ false → holds_some (drop m text) ≡ false
unfolding holds_some
none_further zero zero text before none = none
none_further (suc k) zero text before none = absurd (omega (arith, before))
none_further k (suc m) [] before none = refl
none_further zero (suc m) (None ∷ text) before none = none_further zero m text (omega arith) none
none_further zero (suc m) (Some x ∷ text) before none = absurd (true≢false none)
none_further (suc k) (suc m) (place ∷ text) before none = none_further k m text (omega (arith, before)) none

pub none_at_end : (text : List (Option ℕ)) → holds_some (drop (length text) text) ≡ false
unfolding holds_some
none_at_end text = ap holds_some (drop_all (length text) text (omega arith))
