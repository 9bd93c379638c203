-- What a key finds after a change at another key, and at its own.
use Rattle.std.proofs.Common.{◌≡◌, ◌∙◌, Bool, true, false, refl, sym, ap, subst, true≢false, List, [], ◌∷◌, ◌++◌, Some, None, cond}
use Rattle.std.specs.List.{AllByRecursion, IsDistinct}
use Rattle.std.specs.Map.{lookup, set_value, remove_entry, keys_of}
use Rattle.ft_io.specs.declared.Key.{Key}
use Rattle.ft_io.specs.Key.{key_eq}
use Rattle.ft_model.proofs.Keys.{key_eq_turns}
use Rattle.ft_model.proofs.Lists.{same_key, none_is_some, key_is}

-- a key that all these keys differ from finds nothing
pub not_found : {X : Type 0} (key : Key) (es : List (Key × X)) → AllByRecursion (λ k. key_eq key k ≡ false) (keys_of es) → lookup (key_eq key) es ≡ None
not_found key [] none = refl
not_found key (e ∷ es) none = ap (λ b. cond b (Some e.1) (lookup (key_eq key) es)) none.0 ∙ not_found key es none.1

unlike : (key k e : Key) → key_eq key k ≡ false → key_eq key e ≡ true → key_eq k e ≡ false
unlike key k e other t = subst (λ x. key_eq k x ≡ false) (same_key key e t) (key_eq_turns key k other)

module _ {X : Type 0} (key : Key) where
  -- at its own key, ..
  pub found_set : (es : List (Key × X)) (was now : X) → lookup (key_eq key) es ≡ Some was → lookup (key_eq key) (set_value (key_eq key) es now) ≡ Some now
  found_set [] was now found = absurd (true≢false (sym (ap Rattle.std.specs.Option.is_some found)))
  found_set (e ∷ es) was now found = go (key_eq key e.0) refl (found_set es was now)
    where
      go : (b : Bool) → key_eq key e.0 ≡ b → (lookup (key_eq key) es ≡ Some was → lookup (key_eq key) (set_value (key_eq key) es now) ≡ Some now)
          → lookup (key_eq key) (set_value (key_eq key) (e ∷ es) now) ≡ Some now
      go true t rest =
          subst (λ b. lookup (key_eq key) (cond b ((e.0, now) ∷ es) (e ∷ set_value (key_eq key) es now)) ≡ Some now) (sym t)
          (ap (λ b. cond b (Some now) (lookup (key_eq key) es)) t)
      go false t rest =
          subst (λ b. lookup (key_eq key) (cond b ((e.0, now) ∷ es) (e ∷ set_value (key_eq key) es now)) ≡ Some now) (sym t)
          (ap (λ b. cond b (Some e.1) (lookup (key_eq key) (set_value (key_eq key) es now))) t
          ∙ rest (sym (ap (λ b. cond b (Some e.1) (lookup (key_eq key) es)) t) ∙ found))

  pub none_dropped : (es : List (Key × X)) → IsDistinct key_eq (keys_of es) → lookup (key_eq key) (remove_entry (key_eq key) es) ≡ None
  unfolding IsDistinct
  none_dropped [] distinct = refl
  none_dropped (e ∷ es) distinct = go (key_eq key e.0) refl (none_dropped es distinct.1)
    where
      go : (b : Bool) → key_eq key e.0 ≡ b → lookup (key_eq key) (remove_entry (key_eq key) es) ≡ None → lookup (key_eq key) (remove_entry (key_eq key) (e ∷ es)) ≡ None
      go true t rest =
          subst (λ b. lookup (key_eq key) (cond b es (e ∷ remove_entry (key_eq key) es)) ≡ None) (sym t)
          (not_found key es (subst (λ k. AllByRecursion (λ y. key_eq k y ≡ false) (keys_of es)) (sym (same_key key e.0 t)) distinct.0))
      go false t rest =
          subst (λ b. lookup (key_eq key) (cond b es (e ∷ remove_entry (key_eq key) es)) ≡ None) (sym t)
          (ap (λ b. cond b (Some e.1) (lookup (key_eq key) (remove_entry (key_eq key) es))) t ∙ rest)

  -- .. and at another
  module _ (k : Key) (other : key_eq key k ≡ false) where
    pub other_set : (es : List (Key × X)) (now : X) → lookup (key_eq k) (set_value (key_eq key) es now) ≡ lookup (key_eq k) es
    other_set [] now = refl
    other_set (e ∷ es) now = go (key_eq key e.0) refl (other_set es now)
      where
        go : (b : Bool) → key_eq key e.0 ≡ b → lookup (key_eq k) (set_value (key_eq key) es now) ≡ lookup (key_eq k) es
            → lookup (key_eq k) (set_value (key_eq key) (e ∷ es) now) ≡ lookup (key_eq k) (e ∷ es)
        go true t rest =
            subst (λ b. lookup (key_eq k) (cond b ((e.0, now) ∷ es) (e ∷ set_value (key_eq key) es now)) ≡ lookup (key_eq k) (e ∷ es)) (sym t)
            (ap (λ b. cond b (Some now) (lookup (key_eq k) es)) (unlike key k e.0 other t) ∙ sym (ap (λ b. cond b (Some e.1) (lookup (key_eq k) es)) (unlike key k e.0 other t)))
        go false t rest =
            subst (λ b. lookup (key_eq k) (cond b ((e.0, now) ∷ es) (e ∷ set_value (key_eq key) es now)) ≡ lookup (key_eq k) (e ∷ es)) (sym t)
            (ap (cond (key_eq k e.0) (Some e.1)) rest)

    pub other_dropped : (es : List (Key × X)) → lookup (key_eq k) (remove_entry (key_eq key) es) ≡ lookup (key_eq k) es
    other_dropped [] = refl
    other_dropped (e ∷ es) = go (key_eq key e.0) refl (other_dropped es)
      where
        go : (b : Bool) → key_eq key e.0 ≡ b → lookup (key_eq k) (remove_entry (key_eq key) es) ≡ lookup (key_eq k) es
            → lookup (key_eq k) (remove_entry (key_eq key) (e ∷ es)) ≡ lookup (key_eq k) (e ∷ es)
        go true t rest =
            subst (λ b. lookup (key_eq k) (cond b es (e ∷ remove_entry (key_eq key) es)) ≡ lookup (key_eq k) (e ∷ es)) (sym t)
            (sym (ap (λ b. cond b (Some e.1) (lookup (key_eq k) es)) (unlike key k e.0 other t)))
        go false t rest =
            subst (λ b. lookup (key_eq k) (cond b es (e ∷ remove_entry (key_eq key) es)) ≡ lookup (key_eq k) (e ∷ es)) (sym t)
            (ap (cond (key_eq k e.0) (Some e.1)) rest)

    pub other_last : (es : List (Key × X)) (now : X) → lookup (key_eq k) (es ++ (key, now) ∷ []) ≡ lookup (key_eq k) es
    other_last [] now = ap (λ b. cond b (Some now) None) (key_eq_turns key k other)
    other_last (e ∷ es) now = ap (cond (key_eq k e.0) (Some e.1)) (other_last es now)

-- one that isn't there yet is found at the end
pub found_last : {X : Type 0} (key : Key) (es : List (Key × X)) (x : X) → lookup (key_eq key) es ≡ None → lookup (key_eq key) (es ++ (key, x) ∷ []) ≡ Some x
found_last key [] x none = ap (λ b. cond b (Some x) None) (key_is key)
found_last key (e ∷ es) x none = go (key_eq key e.0) refl (found_last key es x)
  where
    go : (b : Bool) → key_eq key e.0 ≡ b → (lookup (key_eq key) es ≡ None → lookup (key_eq key) (es ++ (key, x) ∷ []) ≡ Some x) → lookup (key_eq key) ((e ∷ es) ++ (key, x) ∷ []) ≡ Some x
    go true t rest = none_is_some e.1 (sym none ∙ ap (λ b. cond b (Some e.1) (lookup (key_eq key) es)) t)
    go false t rest =
        ap (λ b. cond b (Some e.1) (lookup (key_eq key) (es ++ (key, x) ∷ []))) t
        ∙ rest (sym (ap (λ b. cond b (Some e.1) (lookup (key_eq key) es)) t) ∙ none)
