-- A key's entry is removed, in the map and in the log. No other entry has the key.
use Rattle.std.proofs.Common.{◌≡◌, ◌∙◌, ◌≤◌, Bool, true, false, not, ◌||◌, refl, sym, ap, ap₂, subst, arith, List, [], ◌∷◌, length, map, filter, cond}
use Rattle.std.specs.List.{AllByRecursion, IsDistinct}
use Rattle.std.specs.Map.{keys_of, values_of, remove_entry}
use Rattle.ft_io.specs.declared.Key.{Key}
use Rattle.ft_io.specs.Key.{key_eq}
use Rattle.ft_model.specs.Keys.{has_key, AreDistinct}
use Rattle.ft_model.specs.Log.{Entry}
use Rattle.ft_model.proofs.Lists.{same_key}
use Rattle.ft_model.proofs.PlayableLemmas.{same_either_way}
use Rattle.logger_store.proofs.Entries.{AreKept, first_kept, rest_kept}

none_equal : (key : Key) (keys : List Key) → AllByRecursion (λ k. key_eq key k ≡ false) keys → has_key key keys ≡ false
none_equal key [] all = refl
none_equal key (k ∷ keys) all = ap₂ ◌||◌ (same_either_way k key ∙ all.0) (none_equal key keys all.1)

distinct : (keys : List Key) → IsDistinct key_eq keys → AreDistinct keys
unfolding IsDistinct
distinct [] unique = tt
distinct (key ∷ keys) unique = (none_equal key keys unique.0, distinct keys unique.1)

pub apart : (es : List (Key × Entry)) → AreKept es → IsDistinct key_eq (keys_of es) → AreDistinct (map (λ e. e.key) (values_of es))
apart es kept unique = subst AreDistinct kept (distinct (keys_of es) unique)

-- the entries of other keys
abbrev pub without_key : Key → List Entry → List Entry
without_key key es = filter (λ e. not (key_eq e.key key)) es

its_key : (key : Key) (e : Key × Entry) (es : List (Key × Entry)) → AreKept (e ∷ es) → key_eq e.1.key key ≡ key_eq key e.0
its_key key e es kept = ap (λ k. key_eq k key) (sym (first_kept e es kept)) ∙ same_either_way e.0 key

-- one entry of a key, or of another one
goes : (key : Key) (e : Entry) (es : List Entry) → key_eq e.key key ≡ true → without_key key (e ∷ es) ≡ without_key key es
goes key e es is = ap (λ b. cond (not b) (e ∷ without_key key es) (without_key key es)) is

stays : (key : Key) (e : Entry) (es : List Entry) → key_eq e.key key ≡ false → without_key key (e ∷ es) ≡ e ∷ without_key key es
stays key e es other = ap (λ b. cond (not b) (e ∷ without_key key es) (without_key key es)) other

pub all_stay : (key : Key) (es : List (Key × Entry)) → AreKept es → AllByRecursion (λ k. key_eq key k ≡ false) (keys_of es) → without_key key (values_of es) ≡ values_of es
all_stay key [] kept none = refl
all_stay key (e ∷ es) kept none =
    stays key e.1 (values_of es) (its_key key e es kept ∙ none.0) ∙ ap (λ xs. e.1 ∷ xs) (all_stay key es (rest_kept e es kept) none.1)

pub taken_out : (key : Key) (es : List (Key × Entry)) → AreKept es → IsDistinct key_eq (keys_of es) → values_of (remove_entry (key_eq key) es) ≡ without_key key (values_of es)
unfolding IsDistinct
taken_out key [] kept unique = refl
taken_out key (e ∷ es) kept unique = go (key_eq key e.0) refl (taken_out key es (rest_kept e es kept) unique.1)
  where
    go : (b : Bool) → key_eq key e.0 ≡ b → values_of (remove_entry (key_eq key) es) ≡ without_key key (values_of es)
        → values_of (remove_entry (key_eq key) (e ∷ es)) ≡ without_key key (values_of (e ∷ es))
    go true t rest =
        let others = subst (λ k. AllByRecursion (λ y. key_eq k y ≡ false) (keys_of es)) (sym (same_key key e.0 t)) unique.0 in
        ap (λ b. values_of (cond b es (e ∷ remove_entry (key_eq key) es))) t
        ∙ (sym (all_stay key es (rest_kept e es kept) others) ∙ sym (goes key e.1 (values_of es) (its_key key e es kept ∙ t)))
    go false t rest =
        ap (λ b. values_of (cond b es (e ∷ remove_entry (key_eq key) es))) t
        ∙ (ap (λ xs. e.1 ∷ xs) rest ∙ sym (stays key e.1 (values_of es) (its_key key e es kept ∙ t)))

pub left_kept : (test : Key → Bool) (es : List (Key × Entry)) → AreKept es → AreKept (remove_entry test es)
left_kept test [] kept = refl
left_kept test (e ∷ es) kept = go (test e.0) refl (left_kept test es (rest_kept e es kept))
  where
    go : (b : Bool) → test e.0 ≡ b → AreKept (remove_entry test es) → AreKept (remove_entry test (e ∷ es))
    go true t rest = subst AreKept (sym (ap (λ b. cond b es (e ∷ remove_entry test es)) t)) (rest_kept e es kept)
    go false t rest = subst AreKept (sym (ap (λ b. cond b es (e ∷ remove_entry test es)) t)) (ap₂ ◌∷◌ (first_kept e es kept) rest)

pub no_more : (test : Key → Bool) (es : List (Key × Entry)) → length (values_of (remove_entry test es)) ≤ length (values_of es)
no_more test [] = omega arith
no_more test (e ∷ es) = go (test e.0) refl (no_more test es)
  where
    go : (b : Bool) → test e.0 ≡ b → length (values_of (remove_entry test es)) ≤ length (values_of es)
        → length (values_of (remove_entry test (e ∷ es))) ≤ length (values_of (e ∷ es))
    go true t rest = let is = ap (λ b. length (values_of (cond b es (e ∷ remove_entry test es)))) t in omega (arith, is)
    go false t rest = let is = ap (λ b. length (values_of (cond b es (e ∷ remove_entry test es)))) t in omega (arith, is, rest)
