-- A segment at the slot of its client.
use Rattle.std.proofs.Common.{◌≡◌, ◌∙◌, true, false, refl, sym, ap, List, [], ◌∷◌, map, append-nil}
use Rattle.std.proofs.lemmas.Bool.{and_right}
use Rattle.ft_io.specs.declared.Key.{Key}
use Rattle.ft_io.specs.Key.{key_eq}
use Rattle.seq_arith.specs.Packet.{Segment}
use Rattle.server_trait.specs.Service.{Machine}
use Rattle.tcp_rules.specs.Profile.{grammar_of}
use Rattle.ft_model.specs.Network.{source_of}
use Rattle.ft_model.specs.Network.Packet.{To_client}
use Rattle.ft_model.specs.Point.{Point}
use Rattle.ft_model.specs.Offset.{IsNear}
use Rattle.ft_model.specs.News.News.{Comes}
use Rattle.ft_model.specs.Node.{Node, Place, is_for}
use Rattle.ft_model.specs.Node.Place.{Opens, Lives, Ended}
use Rattle.ft_model.specs.Node.Input.{Packet_comes}
use Rattle.ft_model.specs.Refusal.{as_closed}
use Rattle.ft_model.specs.ServingTurn.{concerns}
use Rattle.ft_model.specs.Lawful.{IsNearTo}
use Rattle.ft_model.specs.Wire.{Wire}
use Rattle.wrapped_conn.specs.ConnState.{ConnState}
use Rattle.node_serving.specs.declared.slot.Slot.TheVariants as slot
use Rattle.node_serving.specs.declared.slot.Opening.{Opening}
use Rattle.node_serving.specs.Conn.{IsOursAt, ConnGoes}
use Rattle.node_serving.specs.RefusalPackets.{AreSent}
use Rattle.node_serving.specs.Slots.{SlotStands, SlotGoes}
use Rattle.node_serving.proofs.OneKey.{place_meets}
use Rattle.ft_model.proofs.Lists.{key_is}

-- a segment concerns its client alone
pub only_its_client : (node : Node) (segment : Segment) (k : Key) → key_eq (source_of segment) k ≡ false → concerns node (Packet_comes segment) k ≡ false
only_its_client node segment k other = and_right (is_for node.server segment) _ other

pub its_client : (node : Node) (segment : Segment) (key : Key) → is_for node.server segment ≡ true → source_of segment ≡ key → concerns node (Packet_comes segment) key ≡ true
its_client node segment key mine from = rw (mine) (ap (λ k. key_eq k key) from ∙ key_is key)

module _ {S : Type 0} (service : Machine S) (node : Node) (segment : Segment) (mine : is_for node.server segment ≡ true) where
  itself : (k : Key) → k ≡ source_of segment → key_eq (source_of segment) k ≡ true
  itself k same = ap (key_eq (source_of segment)) same ∙ key_is (source_of segment)

  concerned : (k : Key) → k ≡ source_of segment → concerns node (Packet_comes segment) k ≡ true
  concerned k same = rw (mine, itself k same) refl

  -- a live connection's turn is its slot's
  pub live_comes : (place : Place) (c now : ConnState S) (old new : List Wire) → IsNearTo node.server segment place → SlotStands service node (source_of segment) (slot.Live c) place
      → ((p : Point) → IsNear p.cisn p.sisn segment → p.key ≡ source_of segment → IsOursAt service node.server node.boot c p → ConnGoes (grammar_of node.profile) service node.server node.boot (Comes segment) p now old new)
      → SlotGoes service node (Packet_comes segment) (source_of segment) place (slot.Live now) old new
  live_comes (Lives p) c now old new near st h =
      let g = h p (near mine (itself p.key st.0)) st.0 st.1 in record {
        after = Lives g.after;
        packets = g.packets;
        stands = (g.key ∙ st.0, g.stands);
        turn = place_meets service node (Packet_comes segment) (Lives p) (Lives g.after ∷ []) g.packets (concerned p.key st.0) (g.after, refl, g.turn);
        wires = g.wires;
        spelled = g.spelled;
      }
  live_comes (Opens n timestamping) c now old new near st h = absurd st
  live_comes (Ended k) c now old new near st h = absurd st

  -- a key that is done gets the answer of CLOSED
  pub done_answers : (place : Place) (old new : List Wire) → SlotStands service node (source_of segment) slot.Done place → AreSent (as_closed node.server segment) old new
      → SlotGoes service node (Packet_comes segment) (source_of segment) place slot.Done old new
  done_answers (Ended k) old new st reported = record {
    after = Ended k;
    packets = map To_client (as_closed node.server segment);
    stands = st;
    turn = place_meets service node (Packet_comes segment) (Ended k) (Ended k ∷ []) (map To_client (as_closed node.server segment)) (concerned k st) (refl, refl);
    wires = (reported.each (grammar_of node.profile)).wires;
    spelled = (reported.each (grammar_of node.profile)).spelled;
  }
  done_answers (Opens n timestamping) old new st reported = absurd st
  done_answers (Lives p) old new st reported = absurd st

  -- a segment of a pending key is dropped here
  pub pending_drops : (place : Place) (o : Opening) (reported : List Wire) → SlotStands service node (source_of segment) (slot.Pending o) place
      → SlotGoes service node (Packet_comes segment) (source_of segment) place (slot.Pending o) reported reported
  pending_drops (Opens n timestamping) o reported st = record {
    after = Opens n timestamping;
    packets = [];
    stands = st;
    turn = place_meets service node (Packet_comes segment) (Opens n timestamping) (Opens n timestamping ∷ []) [] (concerned n.key (ap (λ x. x.key) st.0)) (refl, refl);
    wires = sym (append-nil reported);
    spelled = tt;
  }
  pending_drops (Lives p) o reported st = absurd st
  pending_drops (Ended k) o reported st = absurd st
