use Rattle.std.proofs.Common.{◌∙◌, refl, subst, sym, ap}
use Rattle.std.proofs.lemmas.Result.{on_ok_weaker}
use Rattle.server_trait.specs.Service.{machine}
use Rattle.segment_codec.specs.Value.{segment_of}
use Rattle.ft_model.specs.Network.{source_of}
use Rattle.ft_model.specs.Node.Input.{Packet_comes}
use Rattle.ft_model.specs.Refusal.{as_closed}
use Rattle.node_serving.specs.Conn.{Belongs}
use Rattle.node_serving.specs.Identity.{node_of, grammar_in}
use Rattle.node_serving.specs.Slots.{SlotStands, SlotGoes, IsSoundSlot}
use Rattle.node_serving.specs.Ownership.{IsOnlyFor}
use Rattle.node_serving.proofs.Came.{text_fits}
use Rattle.node_serving.proofs.SegmentArrival.{live_comes, done_answers}
use Rattle.node_serving.proofs.Keyed.{quiet_for, refused_for, closed_back}
use Rattle.node_serving.specs.Clients.{known_as}
use Rattle.node_serving.proofs.Turned.{at_ok}
use Rattle.node_serving.proofs.slot.serve_slot.Goals as goal

pub serve_live-requires-clause-sound : goal.serve_live-requires-clause-sound
serve_live-requires-clause-sound g c =
    subst (λ k. Belongs c.args.who k c.in-Live.conn) (sym c.sender.ensures)
    (subst (λ s. IsSoundSlot c.args.who (source_of (segment_of c.args.segment.now)) s) c.in-Live.is c.requires.sound)

pub refuse_closed-requires : goal.refuse_closed-requires
refuse_closed-requires g c = text_fits c.args.packet.now (segment_of c.args.segment.now) c.requires.read

pub returns-in-Live-clause-turn : goal.returns-in-Live-clause-turn
returns-in-Live-clause-turn g c = on_ok_weaker c.serve_live.result
    (λ h mine stage place near st.
    let segment = segment_of c.args.segment.now in
    live_comes (machine (g.S.Service.started c.args.who.kind) g.S.Service.after g.S.Service.greeting) (node_of c.args.who stage) segment mine place c.in-Live.conn c.serve_live.new.conn
    c.args.turn.now.sent.items c.serve_live.new.turn.sent.items near
    (subst (λ s. SlotStands (machine (g.S.Service.started c.args.who.kind) g.S.Service.after g.S.Service.greeting) (node_of c.args.who stage) (source_of segment) s place) c.in-Live.is st)
    (λ p close key stands. h segment c.requires.read p close (key ∙ sym c.sender.ensures) stands)) c.serve_live.ensures.turn

pub returns-in-Done-clause-turn : goal.returns-in-Done-clause-turn
returns-in-Done-clause-turn g c = on_ok_weaker c.refuse_closed.result
    (λ reported mine stage place near st.
    let service = machine (g.S.Service.started c.args.who.kind) g.S.Service.after g.S.Service.greeting in
    let segment = segment_of c.args.segment.now in
    subst (λ s. SlotGoes service (node_of c.args.who stage) (Packet_comes segment) (source_of segment) place s c.args.turn.now.sent.items c.refuse_closed.new.turn.sent.items) (sym c.in-Done.is)
    (done_answers service (node_of c.args.who stage) segment mine place c.args.turn.now.sent.items c.refuse_closed.new.turn.sent.items
    (subst (λ s. SlotStands service (node_of c.args.who stage) (source_of segment) s place) c.in-Done.is st) reported)) c.refuse_closed.ensures

pub returns-in-Live-clause-alone : goal.returns-in-Live-clause-alone
returns-in-Live-clause-alone g c = on_ok_weaker c.serve_live.result
    (λ h. subst (λ k. IsOnlyFor (grammar_in c.args.who) k c.args.turn.now.sent.items c.serve_live.new.turn.sent.items) c.sender.ensures h) c.serve_live.ensures.alone

pub returns-in-Pending-clause-alone : goal.returns-in-Pending-clause-alone
returns-in-Pending-clause-alone g c = quiet_for (grammar_in c.args.who) (source_of (segment_of c.args.segment.now)) c.args.turn.now.sent.items

pub returns-in-Done-clause-alone : goal.returns-in-Done-clause-alone
returns-in-Done-clause-alone g c = on_ok_weaker c.refuse_closed.result
    (λ reported.
    let segment = segment_of c.args.segment.now in
    refused_for (grammar_in c.args.who) (source_of segment) (as_closed c.args.who.local segment) c.args.turn.now.sent.items c.refuse_closed.new.turn.sent.items
    (closed_back c.args.who.local segment (source_of segment) refl) reported) c.refuse_closed.ensures

pub returns-in-Live-clause-known : goal.returns-in-Live-clause-known
returns-in-Live-clause-known g c = at_ok c.serve_live.result (sym (ap known_as c.in-Live.is))
