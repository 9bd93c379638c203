-- What a node that doesn't serve shows of its places.
use Rattle.std.proofs.Common.{◌≡◌, ℕ, false, refl, sym, ap, subst, option_map, slice_get, None, List, []}
use Rattle.std.specs.List.{IsDistinct}
use Rattle.std.specs.Map.{keys_of}
use Rattle.ft_io.specs.declared.Key.{Key}
use Rattle.ft_io.specs.Key.{key_eq}
use Rattle.server_trait.specs.declared.Service.{Ghosts}
use Rattle.ft_model.specs.Restart.{Fetched}
use Rattle.node_serving.specs.declared.serving.Serving.{Serving}
use Rattle.reincarnate.specs.Questions.{FetchingState}
use Rattle.server_node.specs.Places.{slots_at, is_serving, HasFetched, Forgets}
use Rattle.server_node.specs.declared.stage.Stage.{Stage}
use Rattle.server_node.specs.declared.stage.Stage.TheVariants as stage

pub unserved : {S : Type 0} (at : Stage S) → ((s : Serving S) → at ≡ stage.Serving s → ⊥) → is_serving at ≡ false
unserved (stage.Serving s) other = absurd (other s refl)
unserved at other = refl

pub no_slots : {S : Type 0} (at : Stage S) → ((s : Serving S) → at ≡ stage.Serving s → ⊥) → slots_at at ≡ []
no_slots (stage.Serving s) other = absurd (other s refl)
no_slots at other = refl

pub nothing_at : {S : Type 0} (at : Stage S) (i : ℕ) → ((s : Serving S) → at ≡ stage.Serving s → ⊥) → option_map (λ e. e.0) (slice_get (slots_at at) i) ≡ None
nothing_at at i other = ap (λ es. option_map (λ e. e.0) (slice_get es i)) (no_slots at other)

pub none_apart : {S : Type 0} (at : Stage S) → ((s : Serving S) → at ≡ stage.Serving s → ⊥) → IsDistinct key_eq (keys_of (slots_at at))
unfolding IsDistinct
none_apart at other = subst (λ es. IsDistinct key_eq (keys_of es)) (sym (no_slots at other)) tt

pub nothing_forgotten : {S : Type 0} (key : Key) (at : Stage S) → ((s : Serving S) → at ≡ stage.Serving s → ⊥) → Forgets key at at
nothing_forgotten key (stage.Serving s) other = absurd (other s refl)
nothing_forgotten key at other = refl

pub nothing_fetched : {S : Type 0} (s : Ghosts S) (kind : ℕ) (fetched : List Fetched) (at : Stage S) (key : Key) → ((f : FetchingState S) → at ≡ stage.Fetching f → ⊥) → HasFetched s kind fetched at key None
nothing_fetched s kind fetched (stage.Fetching f) key other = absurd (other f refl)
nothing_fetched s kind fetched at key other = refl
