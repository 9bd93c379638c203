-- What is done at the place of a key's slot is done to the key's slot.
use Rattle.std.proofs.Common.{◌≡◌, ◌∙◌, ℕ, zero, suc, ◌+◌, Bool, not, cond, refl, sym, ap, subst, List, [], ◌∷◌, Option, Some, None, arith}
use Rattle.std.specs.Prelude.{IfSome, option_map, position, remove}
use Rattle.std.specs.List.{position_or_len}
use Rattle.std.specs.Map.{set_value, remove_entry, keys_of}
use Rattle.ft_io.proofs.Choices.{by_cases}
use Rattle.indexmap.specs.IndexMap.{set_value_at}
use Rattle.indexmap.proofs.MapLemmas.{Found-position, remove_entry-first}
use Rattle.node_serving.specs.declared.arrivals.PendingAt.{PendingAt}
use Rattle.node_serving.specs.declared.slot.Opening.{Opening}

pub removed_at : {K X : Type 0} (t : K → Bool) (es : List (K × X)) (i : ℕ) → position t (keys_of es) ≡ Some i → remove es i ≡ remove_entry t es
removed_at t es i p = sym (remove_entry-first t es i (Found-position t es i p).first)

put_from : {K X : Type 0} (t : K → Bool) (es : List (K × X)) (i : ℕ) (w : X) → position_or_len t (keys_of es) ≡ i → set_value_at es i w ≡ set_value t es w
put_from t [] i w p = refl
put_from t (e ∷ es) zero w p =
    by_cases (t e.0)
    (λ on. sym (ap (λ b. cond b ((e.0, w) ∷ es) (e ∷ set_value t es w)) on))
    (λ off. absurd (omega (arith, sym (ap (λ b. cond (not b) (1 + position_or_len t (keys_of es)) 0) off) ∙ p)))
put_from t (e ∷ es) (suc i) w p =
    by_cases (t e.0)
    (λ on. absurd (omega (arith, sym (ap (λ b. cond (not b) (1 + position_or_len t (keys_of es)) 0) on) ∙ p)))
    (λ off. ap (λ xs. e ∷ xs) (put_from t es i w (omega (arith, sym (ap (λ b. cond (not b) (1 + position_or_len t (keys_of es)) 0) off) ∙ p)))
    ∙ sym (ap (λ b. cond b ((e.0, w) ∷ es) (e ∷ set_value t es w)) off))

pub put_at : {K X : Type 0} (t : K → Bool) (es : List (K × X)) (i : ℕ) (w : X) → position t (keys_of es) ≡ Some i → set_value_at es i w ≡ set_value t es w
put_at t es i w p = put_from t es i w (Found-position t es i p).or_len

-- the opening of what was found, and that nothing was found
pub opening_there : (r : Option PendingAt) (o : Option Opening) (at : PendingAt) → option_map (λ (x : PendingAt). x.opening) r ≡ o → r ≡ Some at → o ≡ Some at.opening
opening_there r o at found is = sym found ∙ ap (option_map (λ (x : PendingAt). x.opening)) is

pub no_opening : (r : Option PendingAt) (o : Option Opening) → option_map (λ (x : PendingAt). x.opening) r ≡ o → r ≡ None → o ≡ None
no_opening r o found is = sym found ∙ ap (option_map (λ (x : PendingAt). x.opening)) is

pub place_there : (P : PendingAt → Type 0) (r : Option PendingAt) (at : PendingAt) → IfSome r P → r ≡ Some at → P at
place_there P r at holds is = subst (λ x. IfSome x P) is holds
