-- A message at the slot of the key that it names.
use Rattle.std.proofs.Common.{◌≡◌, ◌∙◌, true, false, ◌&&◌, ◌==◌, eq-eqb, ap₂, refl, sym, ap, subst, List, [], ◌∷◌, append-nil, Some, ◌⊎◌, inl, inr, ⊎_elim}
use Rattle.std.proofs.lemmas.Bool.{and_right}
use Rattle.ft_io.specs.declared.Key.{Key}
use Rattle.ft_io.specs.Key.{key_eq}
use Rattle.seq_arith.specs.Message.{Kept, Body, Message}
use Rattle.seq_arith.specs.Message.{Body as body}
use Rattle.server_trait.specs.Service.{Machine}
use Rattle.tcp_rules.specs.Profile.{grammar_of}
use Rattle.ft_model.specs.Point.{Point}
use Rattle.ft_model.specs.News.News.{Logged}
use Rattle.ft_model.specs.Node.{Node, Place, key_of}
use Rattle.ft_model.specs.Node.Place.{Opens, Lives, Ended}
use Rattle.ft_model.specs.Node.Input.{Message_comes}
use Rattle.ft_model.specs.ServingTurn.{concerns, names, OnReceipt, LivesOn}
use Rattle.ft_model.specs.Wire.{Wire}
use Rattle.wrapped_conn.specs.ConnState.{ConnState}
use Rattle.node_serving.specs.declared.slot.Slot.{Slot}
use Rattle.node_serving.specs.declared.slot.Slot.TheVariants as slot
use Rattle.node_serving.specs.declared.slot.Opening.{Opening}
use Rattle.node_serving.specs.Conn.{IsOursAt, ConnGoes}
use Rattle.node_serving.specs.LogMessages.{logged_in}
use Rattle.node_serving.specs.Slots.{SlotStands, SlotGoes}
use Rattle.node_serving.proofs.OneKey.{place_meets, place_key}
use Rattle.ft_io.proofs.Choices.{same_some}
use Rattle.ft_io.proofs.Outcomes.{none_is_not}
use Rattle.ft_model.proofs.Lists.{key_is}

-- a Stable or a Reads
two_ways : (said : Body) (kept : Kept) → logged_in said ≡ Some kept → (said ≡ body.StableMsg kept) ⊎ (said ≡ body.ReadsMsg kept)
two_ways (body.StableMsg k) kept e = inl (ap body.StableMsg (same_some e))
two_ways (body.ReadsMsg k) kept e = inr (ap body.ReadsMsg (same_some e))
two_ways body.HelloMsg kept e = none_is_not e
two_ways (body.SummaryMsg n) kept e = none_is_not e
two_ways (body.ListMsg n) kept e = none_is_not e
two_ways (body.EntryMsg n h) kept e = none_is_not e
two_ways (body.BytesMsg k n) kept e = none_is_not e
two_ways (body.PartMsg k n b) kept e = none_is_not e
two_ways (body.CutsMsg k n) kept e = none_is_not e
two_ways (body.LensMsg k n l) kept e = none_is_not e
two_ways (body.OpenMsg n) kept e = none_is_not e
two_ways (body.OpenedMsg n) kept e = none_is_not e
two_ways (body.DataMsg p) kept e = none_is_not e
two_ways (body.ReadMsg k i l) kept e = none_is_not e
two_ways (body.DoneMsg k) kept e = none_is_not e
two_ways (body.EndedMsg k) kept e = none_is_not e
two_ways (body.StaleMsg n) kept e = none_is_not e
two_ways (body.FullMsg k) kept e = none_is_not e

-- a message concerns the key that it names
pub only_its_key : (node : Node) (message : Message) (key : Key) → ((k : Key) → names message.body k ≡ key_eq key k) → (k : Key) → key_eq key k ≡ false
    → concerns node (Message_comes message) k ≡ false
only_its_key node message key named k other = and_right (message.boot == node.boot) (names message.body k) (named k ∙ other)

pub its_key : (node : Node) (message : Message) (key : Key) → message.boot ≡ node.boot → ((k : Key) → names message.body k ≡ key_eq key k) → (k : Key) → k ≡ key
    → concerns node (Message_comes message) k ≡ true
its_key node message key boot named k same = ap₂ ◌&&◌ (eq-eqb message.boot node.boot boot) (named k ∙ (ap (key_eq key) same ∙ key_is key))

pub logged_names : (said : Body) (kept : Kept) → logged_in said ≡ Some kept → (k : Key) → names said k ≡ key_eq kept.key k
logged_names said kept e k = ⊎_elim (λ s. ap (λ b. names b k) s) (λ r. ap (λ b. names b k) r) (two_ways said kept e)

module _ {S : Type 0} (service : Machine S) (node : Node) (message : Message) (boot : message.boot ≡ node.boot) where
  -- a live connection's turn is its slot's
  pub live_receives : (key : Key) (kept : Kept) → logged_in message.body ≡ Some kept → kept.key ≡ key → (place : Place) (c now : ConnState S) (old new : List Wire)
      → SlotStands service node key (slot.Live c) place
      → ((p : Point) → p.key ≡ key → IsOursAt service node.server node.boot c p → ConnGoes (grammar_of node.profile) service node.server node.boot (Logged kept) p now old new)
      → SlotGoes service node (Message_comes message) key place (slot.Live now) old new
  live_receives key kept says from (Lives p) c now old new st h =
      let g = h p st.0 st.1 in
      let lives : LivesOn service node (Logged kept) p (Lives g.after ∷ []) g.packets = (g.after, refl, g.turn) in record {
        after = Lives g.after;
        packets = g.packets;
        stands = (g.key ∙ st.0, g.stands);
        turn = place_meets service node (Message_comes message) (Lives p) (Lives g.after ∷ []) g.packets
            (its_key node message key boot (λ k. logged_names message.body kept says k ∙ ap (λ x. key_eq x k) from) p.key st.0)
            (⊎_elim (λ s. subst (λ b. OnReceipt service node b (Lives p) (Lives g.after ∷ []) g.packets) (sym s) lives)
            (λ r. subst (λ b. OnReceipt service node b (Lives p) (Lives g.after ∷ []) g.packets) (sym r) lives) (two_ways message.body kept says));
        wires = g.wires;
        spelled = g.spelled;
      }
  live_receives key kept says from (Opens n timestamping) c now old new st h = absurd st
  live_receives key kept says from (Ended k) c now old new st h = absurd st

  -- others don't care how much is logged
  stays_logged : (kept : Kept) → logged_in message.body ≡ Some kept → (place : Place)
      → (OnReceipt service node (body.StableMsg kept) place (place ∷ []) []) → (OnReceipt service node (body.ReadsMsg kept) place (place ∷ []) [])
      → OnReceipt service node message.body place (place ∷ []) []
  stays_logged kept says place stable reads =
      ⊎_elim (λ s. subst (λ b. OnReceipt service node b place (place ∷ []) []) (sym s) stable) (λ r. subst (λ b. OnReceipt service node b place (place ∷ []) []) (sym r) reads)
      (two_ways message.body kept says)

  pub others_stay : (key : Key) (kept : Kept) → logged_in message.body ≡ Some kept → kept.key ≡ key → (place : Place) (s : Slot S) (reported : List Wire)
      → SlotStands service node key s place → (OnReceipt service node (body.StableMsg kept) place (place ∷ []) []) → (OnReceipt service node (body.ReadsMsg kept) place (place ∷ []) [])
      → SlotGoes service node (Message_comes message) key place s reported reported
  others_stay key kept says from place s reported st stable reads = record {
    after = place;
    packets = [];
    stands = st;
    turn = place_meets service node (Message_comes message) place (place ∷ []) []
        (its_key node message key boot (λ k. logged_names message.body kept says k ∙ ap (λ x. key_eq x k) from) (key_of place) (place_key service node key s place st))
        (stays_logged kept says place stable reads);
    wires = sym (append-nil reported);
    spelled = tt;
  }

  pub pending_waits : (key : Key) (kept : Kept) → logged_in message.body ≡ Some kept → kept.key ≡ key → (place : Place) (o : Opening) (reported : List Wire)
      → SlotStands service node key (slot.Pending o) place → SlotGoes service node (Message_comes message) key place (slot.Pending o) reported reported
  pending_waits key kept says from (Opens n timestamping) o reported st = others_stay key kept says from (Opens n timestamping) (slot.Pending o) reported st (refl, refl) (refl, refl)
  pending_waits key kept says from (Lives p) o reported st = absurd st
  pending_waits key kept says from (Ended k) o reported st = absurd st

  pub done_waits : (key : Key) (kept : Kept) → logged_in message.body ≡ Some kept → kept.key ≡ key → (place : Place) (reported : List Wire)
      → SlotStands service node key slot.Done place → SlotGoes service node (Message_comes message) key place slot.Done reported reported
  done_waits key kept says from (Ended k) reported st = others_stay key kept says from (Ended k) slot.Done reported st (refl, refl) (refl, refl)
  done_waits key kept says from (Lives p) reported st = absurd st
  done_waits key kept says from (Opens n timestamping) reported st = absurd st
