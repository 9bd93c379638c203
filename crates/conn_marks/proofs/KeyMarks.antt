-- One connection's marking among those of all.
use Rattle.std.proofs.Common.{◌≡◌, ◌∙◌, ℕ, Bool, true, false, true≢false, refl, sym, ap, subst, Option, Some, None, List, [], ◌∷◌, cond, if◌then◌else◌}
use Rattle.std.specs.Prelude.{unwrap_or}
use Rattle.std.specs.Option.{is_some}
use Rattle.std.specs.Map.{lookup, set_value}
use Rattle.indexmap.specs.IndexMap.{insert_entry}
use Rattle.ft_io.specs.declared.Key.{Key}
use Rattle.ft_io.specs.Key.{key_eq}
use Rattle.ft_io.proofs.Choices.{by_cases}
use Rattle.ft_model.proofs.Keys.{key_eq_turns}
use Rattle.ft_model.proofs.Lists.{same_key}
use Rattle.mark_laws.specs.Marking.{Marking}
use Rattle.conn_marks.specs.KeyMarks.{KeyMarks, marking_in, no_marking, KeepsOthers, Changes}

chosen : {A : Type 0} (b : Bool) (x y : A) (o : Option A) → cond b (Some x) o ≡ (if b then Some x else cond b (Some y) o)
chosen true x y o = refl
chosen false x y o = refl

found : (es : List (Key × Marking)) (key : Key) (m : Marking) (k : Key) → lookup (key_eq k) (insert_entry key_eq es key m) ≡ (if key_eq k key then Some m else lookup (key_eq k) es)
found [] key m k = refl
found (e ∷ es) key m k =
    by_cases (key_eq key e.0)
    (λ same.
    ap (λ b. lookup (key_eq k) (if b then (e.0, m) ∷ es else e ∷ insert_entry key_eq es key m)) same
    ∙ (chosen (key_eq k e.0) m e.1 (lookup (key_eq k) es) ∙ ap (λ x. if key_eq k x then Some m else lookup (key_eq k) (e ∷ es)) (sym (same_key key e.0 same))))
    (λ other.
    ap (λ b. lookup (key_eq k) (if b then (e.0, m) ∷ es else e ∷ insert_entry key_eq es key m)) other
    ∙ (ap (λ o. cond (key_eq k e.0) (Some e.1) o) (found es key m k) ∙ apart (key_eq k e.0) refl other))
  where
    apart : (b : Bool) → key_eq k e.0 ≡ b → key_eq key e.0 ≡ false
        → cond b (Some e.1) (if key_eq k key then Some m else lookup (key_eq k) es) ≡ (if key_eq k key then Some m else cond b (Some e.1) (lookup (key_eq k) es))
    apart false at other = refl
    apart true at other =
        let off : key_eq k key ≡ false = ap (λ x. key_eq x key) (same_key k e.0 at) ∙ key_eq_turns key e.0 other in
        ap (λ b. if b then Some m else Some e.1) (sym off)

taken : {A : Type 0} (b : Bool) (x d : A) (o : Option A) → unwrap_or (if b then Some x else o) d ≡ (if b then x else unwrap_or o d)
taken true x d o = refl
taken false x d o = refl

pub changes_put : (every : ℕ) (es : List (Key × Marking)) (key : Key) (m : Marking) → Changes key m (record { every = every; of = es }) (record { every = every; of = insert_entry key_eq es key m })
changes_put every es key m =
    record { every = refl; marking = λ k. ap (λ o. unwrap_or o no_marking) (found es key m k) ∙ taken (key_eq k key) m no_marking (lookup (key_eq k) es) }

set_is_put : (es : List (Key × Marking)) (key : Key) (old m : Marking) → lookup (key_eq key) es ≡ Some old → set_value (key_eq key) es m ≡ insert_entry key_eq es key m
set_is_put [] key old m there = absurd (true≢false (sym (ap is_some there)))
set_is_put (e ∷ es) key old m there = go (key_eq key e.0) refl (λ at. set_is_put es key old m (sym (ap (λ b. cond b (Some e.1) (lookup (key_eq key) es)) at) ∙ there))
  where
    go : (b : Bool) → key_eq key e.0 ≡ b → (key_eq key e.0 ≡ false → set_value (key_eq key) es m ≡ insert_entry key_eq es key m)
        → cond b ((e.0, m) ∷ es) (e ∷ set_value (key_eq key) es m) ≡ (if b then (e.0, m) ∷ es else e ∷ insert_entry key_eq es key m)
    go true at rest = refl
    go false at rest = ap (λ l. e ∷ l) (rest at)

pub changes_set : (every : ℕ) (es : List (Key × Marking)) (key : Key) (old m : Marking) → lookup (key_eq key) es ≡ Some old
    → Changes key m (record { every = every; of = es }) (record { every = every; of = set_value (key_eq key) es m })
changes_set every es key old m there =
    subst (λ l. Changes key m (record { every = every; of = es }) (record { every = every; of = l })) (sym (set_is_put es key old m there)) (changes_put every es key m)

kept : {A : Type 0} (b : Bool) (x y : A) → (b ≡ true → y ≡ x) → y ≡ (if b then x else y)
kept true x y h = h refl
kept false x y h = refl

-- nothing has changed where its marking was this
pub changes_none : (was : KeyMarks) (key : Key) (m : Marking) → marking_in was key ≡ m → Changes key m was was
changes_none was key m is = record { every = refl; marking = λ k. kept (key_eq k key) m (marking_in was k) (λ on. ap (marking_in was) (same_key k key on) ∙ is) }

-- what is found of a key is its marking
pub marking_is : (every : ℕ) (es : List (Key × Marking)) (key : Key) (old : Marking) → lookup (key_eq key) es ≡ Some old → marking_in (record { every = every; of = es }) key ≡ old
marking_is every es key old there = ap (λ o. unwrap_or o no_marking) there

pub marking_none : (every : ℕ) (es : List (Key × Marking)) (key : Key) → lookup (key_eq key) es ≡ None → marking_in (record { every = every; of = es }) key ≡ no_marking
marking_none every es key there = ap (λ o. unwrap_or o no_marking) there

-- the marking of a key is changed by a function of it, where it is found ..
pub changes_by : (f : Marking → Marking) (was now : KeyMarks) (every : ℕ) (es after : List (Key × Marking)) (key : Key) (old next : Marking) → record { every = every; of = es } ≡ was
    → lookup (key_eq key) es ≡ Some old → next ≡ f old → after ≡ set_value (key_eq key) es next → now ≡ record { every = every; of = after } → Changes key (f (marking_in was key)) was now
changes_by f was now every es after key old next view there is put now_is =
    subst (λ w. Changes key (f (marking_in w key)) w now) view
    (subst (λ x. Changes key (f x) (record { every = every; of = es }) now) (sym (marking_is every es key old there))
    (subst (λ x. Changes key x (record { every = every; of = es }) now) is
    (subst (λ n. Changes key next (record { every = every; of = es }) n) (sym (now_is ∙ ap (λ l. record { every = every; of = l }) put)) (changes_set every es key old next there))))

-- .. and where nothing is stored yet
pub changes_new : (f : Marking → Marking) (was now : KeyMarks) (every : ℕ) (es after : List (Key × Marking)) (key : Key) (next : Marking) → record { every = every; of = es } ≡ was
    → lookup (key_eq key) es ≡ None → next ≡ f no_marking → after ≡ insert_entry key_eq es key next → now ≡ record { every = every; of = after } → Changes key (f (marking_in was key)) was now
changes_new f was now every es after key next view there is put now_is =
    subst (λ w. Changes key (f (marking_in w key)) w now) view
    (subst (λ x. Changes key (f x) (record { every = every; of = es }) now) (sym (marking_none every es key there))
    (subst (λ x. Changes key x (record { every = every; of = es }) now) is
    (subst (λ n. Changes key next (record { every = every; of = es }) n) (sym (now_is ∙ ap (λ l. record { every = every; of = l }) put)) (changes_put every es key next))))

pub others_kept : (key : Key) (m : Marking) (was now : KeyMarks) → Changes key m was now → KeepsOthers key was now
others_kept key m was now changes = λ k other. changes.marking k ∙ ap (λ b. if b then m else marking_in was k) other
