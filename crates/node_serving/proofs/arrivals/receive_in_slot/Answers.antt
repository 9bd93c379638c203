use Rattle.std.proofs.Common.{subst, sym, ap}
use Rattle.std.proofs.lemmas.Result.{on_ok_weaker}
use Rattle.server_trait.specs.Service.{machine}
use Rattle.logger_wire.specs.Value.{message_of}
use Rattle.node_serving.specs.Identity.{node_of, grammar_in}
use Rattle.node_serving.specs.Slots.{SlotStands}
use Rattle.node_serving.proofs.Receipt.{live_receives}
use Rattle.node_serving.proofs.Keyed.{quiet_for}
use Rattle.node_serving.specs.Clients.{known_as}
use Rattle.node_serving.proofs.Turned.{at_ok}
use Rattle.node_serving.proofs.arrivals.receive_in_slot.Goals as goal

pub returns-in-Live-clause-turn : goal.returns-in-Live-clause-turn
returns-in-Live-clause-turn g c = on_ok_weaker c.receive_live.result
    (λ h kept log stage place near st.
    let service = machine (g.S.Service.started c.args.who.kind) g.S.Service.after g.S.Service.greeting in
    live_receives service (node_of c.args.who stage) (message_of c.args.m.now) log.boot c.args.key kept log.says log.client place c.in-Live.conn c.receive_live.new.conn c.args.turn.now.sent.items c.receive_live.new.turn.sent.items
    (subst (λ s. SlotStands service (node_of c.args.who stage) c.args.key s place) c.in-Live.is st)
    (λ p key stands. h kept log p tt key stands)) c.receive_live.ensures.turn

pub returns-in-Pending-clause-alone : goal.returns-in-Pending-clause-alone
returns-in-Pending-clause-alone g c = quiet_for (grammar_in c.args.who) c.args.key c.args.turn.now.sent.items

pub returns-in-Live-clause-known : goal.returns-in-Live-clause-known
returns-in-Live-clause-known g c = at_ok c.receive_live.result (sym (ap known_as c.in-Live.is))
