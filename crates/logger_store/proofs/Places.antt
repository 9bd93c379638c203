-- The entry at a place of the store's map.
use Rattle.std.proofs.Common.{◌≡◌, ◌∙◌, ℕ, zero, suc, ◌≤◌, refl, sym, ap, ap₂, subst, List, [], ◌∷◌, length, map, Some, None, is_some, true≢false, slice_get}
use Rattle.std.specs.Map.{values_of}
use Rattle.std.proofs.lemmas.Map.Entries.{length-values_of}
use Rattle.indexmap.specs.IndexMap.{set_value_at}
use Rattle.indexmap.specs.Layout.{length-set_value_at}
use Rattle.ft_io.specs.declared.Key.{Key}
use Rattle.ft_io.proofs.Choices.{same_some}
use Rattle.ft_model.specs.Log.{Entry}
use Rattle.log_pages.specs.Pages.{changed_at}
use Rattle.logger_store.proofs.Entries.{AreKept}

-- where there is none nothing is changed
pub none_there : (i : ℕ) (change : Entry → Entry) (es : List Entry) → slice_get es i ≡ None → es ≡ changed_at i change es
none_there i change [] none = refl
none_there zero change (e ∷ es) none = absurd (true≢false (ap is_some none))
none_there (suc i) change (e ∷ es) none = ap (λ xs. e ∷ xs) (none_there i change es none)

-- the one there is changed where it stands
pub changed_there : (i : ℕ) (change : Entry → Entry) (es : List (Key × Entry)) (was now : Entry) → slice_get (values_of es) i ≡ Some was → now ≡ change was
    → values_of (set_value_at es i now) ≡ changed_at i change (values_of es)
changed_there i change [] was now there is = refl
changed_there zero change (e ∷ es) was now there is = ap (λ x. x ∷ values_of es) (is ∙ ap change (sym (same_some there)))
changed_there (suc i) change (e ∷ es) was now there is = ap (λ xs. e.1 ∷ xs) (changed_there i change es was now there is)

-- .. and the keys stay where it keeps its own
keys_there : (i : ℕ) (es : List (Key × Entry)) (was now : Entry) → slice_get (values_of es) i ≡ Some was → now.key ≡ was.key → AreKept es
    → AreKept (set_value_at es i now)
keys_there i [] was now there is kept = kept
keys_there zero (e ∷ es) was now there is kept = kept ∙ ap (λ k. k ∷ map (λ x. x.key) (values_of es)) (ap (λ x. x.key) (same_some there) ∙ sym is)
keys_there (suc i) (e ∷ es) was now there is kept =
    let parts = first_and_rest e es kept in ap₂ ◌∷◌ parts.0 (keys_there i es was now there is parts.1)
  where
    first_and_rest : (e : Key × Entry) (es : List (Key × Entry)) → AreKept (e ∷ es) → (e.0 ≡ e.1.key) × AreKept es
    first_and_rest e es kept = (cc, cc)

pub place_kept : (i : ℕ) (es : List (Key × Entry)) (was now : Entry) → slice_get (values_of es) i ≡ Some was → now.key ≡ was.key → AreKept es
    → length (values_of es) ≤ 64 → AreKept (set_value_at es i now) × (length (values_of (set_value_at es i now)) ≤ 64)
place_kept i es was now there is kept few = (
  keys_there i es was now there is kept,
  subst (λ n. n ≤ 64) (sym (length-values_of (set_value_at es i now) ∙ (length-set_value_at es i now ∙ sym (length-values_of es)))) few,
)
