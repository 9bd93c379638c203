use Rattle.std.proofs.Common.{subst, sym, ap}
use Rattle.std.proofs.lemmas.Result.{on_ok_weaker}
use Rattle.server_trait.specs.Service.{machine}
use Rattle.node_serving.specs.Identity.{node_of, grammar_in}
use Rattle.node_serving.specs.Slots.{SlotStands}
use Rattle.node_serving.proofs.AllSlots.{live_ticks}
use Rattle.node_serving.proofs.Keyed.{quiet_for}
use Rattle.node_serving.specs.Clients.{known_as}
use Rattle.node_serving.proofs.Turned.{at_ok}
use Rattle.node_serving.proofs.slot.tick_slot.Goals as goal

pub returns-in-Live-clause-turn : goal.returns-in-Live-clause-turn
returns-in-Live-clause-turn g c = on_ok_weaker c.tick_live.result
    (λ h stage place near st.
    let service = machine (g.S.Service.started c.args.who.kind) g.S.Service.after g.S.Service.greeting in
    live_ticks service (node_of c.args.who stage) c.args.key place _ _ _ _
    (subst (λ s. SlotStands service (node_of c.args.who stage) c.args.key s place) c.in-Live.is st) (λ p key s. h p tt key s)) c.tick_live.ensures.turn

pub returns-in-Pending-clause-alone : goal.returns-in-Pending-clause-alone
returns-in-Pending-clause-alone g c = quiet_for (grammar_in c.args.who) c.args.key c.args.turn.now.sent.items

pub returns-in-Live-clause-known : goal.returns-in-Live-clause-known
returns-in-Live-clause-known g c = at_ok c.tick_live.result (sym (ap known_as c.in-Live.is))
