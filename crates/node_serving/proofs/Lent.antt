-- The connection that is lent of a key.
use Rattle.std.proofs.Common.{◌≡◌, ◌∙◌, Bool, true, false, refl, sym, subst, List, [], ◌∷◌, Some, cond, if◌then◌else◌}
use Rattle.std.specs.Map.{lookup}
use Rattle.ft_io.specs.declared.Key.{Key}
use Rattle.ft_io.specs.Key.{key_eq}
use Rattle.server_trait.specs.Service.{Machine}
use Rattle.ft_model.specs.Node.{Node, Place, place_at}
use Rattle.ft_model.specs.Node.Place.{Opens, Lives, Ended}
use Rattle.node_serving.specs.declared.slot.Slot.{Slot}
use Rattle.node_serving.specs.declared.slot.Slot.TheVariants as slot
use Rattle.node_serving.specs.Loan.{conn_in, IsConnAt}
use Rattle.node_serving.specs.Slots.{SlotStands, AllStand}
use Rattle.node_serving.proofs.Admitted.{place_has}

module _ {S : Type 0} (service : Machine S) (node : Node) where
  of_slot : (key : Key) (s : Slot S) (place : Place) → SlotStands service node key s place → IsConnAt service node (conn_in (Some s)) (Some place)
  of_slot key (slot.Pending o) (Opens n timestamping) st = tt
  of_slot key (slot.Live c) (Lives p) st = st.1
  of_slot key slot.Done (Ended k) st = tt
  of_slot key (slot.Pending o) (Lives p) st = absurd st
  of_slot key (slot.Pending o) (Ended k) st = absurd st
  of_slot key (slot.Live c) (Opens n timestamping) st = absurd st
  of_slot key (slot.Live c) (Ended k) st = absurd st
  of_slot key slot.Done (Opens n timestamping) st = absurd st
  of_slot key slot.Done (Lives p) st = absurd st

  pub conn_looked : (key : Key) (es : List (Key × Slot S)) (places : List Place) → AllStand service node es places
      → IsConnAt service node (conn_in (lookup (key_eq key) es)) (place_at key places)
  conn_looked key [] [] st = tt
  conn_looked key [] (q ∷ qs) st = absurd st
  conn_looked key (e ∷ es) [] st = absurd st
  conn_looked key (e ∷ es) (q ∷ qs) st = go (key_eq key e.0) refl (conn_looked key es qs st.1)
    where
      both : (b : Bool) → key_eq key e.0 ≡ b → IsConnAt service node (conn_in (cond b (Some e.1) (lookup (key_eq key) es))) (if b then Some q else place_at key qs)
          → IsConnAt service node (conn_in (lookup (key_eq key) (e ∷ es))) (place_at key (q ∷ qs))
      both b t h =
          subst (λ x. IsConnAt service node (conn_in (lookup (key_eq key) (e ∷ es))) (if x then Some q else place_at key qs)) (sym (place_has service node key e q st.0 ∙ t))
          (subst (λ x. IsConnAt service node (conn_in (cond x (Some e.1) (lookup (key_eq key) es))) (if b then Some q else place_at key qs)) (sym t) h)

      go : (b : Bool) → key_eq key e.0 ≡ b → IsConnAt service node (conn_in (lookup (key_eq key) es)) (place_at key qs)
          → IsConnAt service node (conn_in (lookup (key_eq key) (e ∷ es))) (place_at key (q ∷ qs))
      go true t rest = both true t (of_slot e.0 e.1 q st.0)
      go false t rest = both false t rest
