-- A key's run, turn by turn, and where it begins.
use Rattle.std.proofs.Common.{◌≡◌, ◌∙◌, Bool, true, false, refl, sym, subst, List, [], ◌∷◌, Option, Some, None, cond, if◌then◌else◌}
use Rattle.std.specs.Map.{lookup}
use Rattle.ft_io.specs.declared.Key.{Key}
use Rattle.ft_io.specs.Key.{key_eq}
use Rattle.ft_model.proofs.Lists.{same_key}
use Rattle.server_trait.specs.Service.{Machine}
use Rattle.ft_model.specs.Node.{Node, Place, place_at}
use Rattle.node_serving.specs.declared.serving.Serving.{Serving}
use Rattle.node_serving.specs.declared.slot.Slot.{Slot}
use Rattle.server_node.specs.declared.stage.Stage.{Stage}
use Rattle.server_node.specs.declared.stage.Stage.TheVariants as stage
use Rattle.node_serving.specs.Alone.{slot_of, StandsFor}
use Rattle.server_node.specs.StageAlone.{slot_in}
use Rattle.node_serving.specs.Loan.{place_in}
use Rattle.server_node.specs.Runs.{Turned, AreTurns, AreNearFor, RunsAlone}
use Rattle.node_serving.specs.Slots.{AllStand}
use Rattle.server_node.specs.Stages.{StageStands}
use Rattle.node_serving.proofs.Admitted.{place_has}

module _ {S : Type 0} (service : Machine S) (node : Node) (key : Key) where
  -- a key finds its slot where it finds its place
  pub looked_up : (es : List (Key × Slot S)) (places : List Place) → AllStand service node es places → StandsFor service node key (lookup (key_eq key) es) (place_at key places)
  looked_up [] [] st = tt
  looked_up [] (q ∷ qs) st = absurd st
  looked_up (e ∷ es) [] st = absurd st
  looked_up (e ∷ es) (q ∷ qs) st = go (key_eq key e.0) refl (looked_up es qs st.1)
    where
      both : (b : Bool) → key_eq key e.0 ≡ b → StandsFor service node key (cond b (Some e.1) (lookup (key_eq key) es)) (if b then Some q else place_at key qs)
          → StandsFor service node key (lookup (key_eq key) (e ∷ es)) (place_at key (q ∷ qs))
      both b t h =
          subst (λ x. StandsFor service node key (lookup (key_eq key) (e ∷ es)) (if x then Some q else place_at key qs)) (sym (place_has service node key e q st.0 ∙ t))
          (subst (λ x. StandsFor service node key (cond x (Some e.1) (lookup (key_eq key) es)) (if b then Some q else place_at key qs)) (sym t) h)

      go : (b : Bool) → key_eq key e.0 ≡ b → StandsFor service node key (lookup (key_eq key) es) (place_at key qs)
          → StandsFor service node key (lookup (key_eq key) (e ∷ es)) (place_at key (q ∷ qs))
      go true t rest = both true t (subst (λ k. StandsFor service node k (Some e.1) (Some q)) (sym (same_key key e.0 t)) st.0)
      go false t rest = both false t rest

  pub stands_in : (at : Stage S) → StageStands service node at → StandsFor service node key (slot_in key at) (place_in key node.stage)
  stands_in (stage.Serving s) (opened, places, is, st) =
      subst (λ l. StandsFor service node key (slot_of key s) (place_in key l)) (sym is) (looked_up s.slots.entries places st.slots)
  stands_in (stage.Fetching f) (count, fetched, is, st) = subst (λ l. StandsFor service node key None (place_in key l)) (sym is) tt
  stands_in stage.Asking is = subst (λ l. StandsFor service node key None (place_in key l)) (sym is) tt
  stands_in (stage.Marked m) st = absurd st
  stands_in stage.Lost st = absurd st

  pub runs_alone : (first : Serving S) (turns : List (Turned S)) (start : Option Place) → AreTurns service node first turns → StandsFor service node key (slot_of key first) start
      → AreNearFor service node key first turns → RunsAlone service node key first turns start
  runs_alone first [] start turned st near = record { last = start; runs = refl; stands = st }
  runs_alone first (turn ∷ earlier) start turned st near =
      let r = runs_alone first earlier start turned.0 st near.0 in
      let g = turned.1 key r.last r.stands (near.1 r.last r.stands) in record { last = g.after; runs = (r.last, r.runs, g, refl); stands = g.stands }
