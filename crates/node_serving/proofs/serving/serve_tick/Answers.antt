use Rattle.std.proofs.Common.{rules, refl, ◌∙◌}
use Rattle.std.proofs.lemmas.Result.{on_ok_weaker}
use Rattle.ft_model.specs.Node.Input.{Tick_comes}
use Rattle.server_trait.specs.Service.{machine}
use Rattle.node_serving.specs.Identity.{node_of}
use Rattle.node_serving.proofs.MarkedApart.{served_alone, opens_of_key}
use Rattle.node_serving.proofs.Knocking.{counted_by}
use Rattle.node_serving.proofs.Served.{tick_goes}
use Rattle.node_serving.proofs.Turned.{at_ok}
use Rattle.node_serving.proofs.serving.serve_tick.Goals as goal

pub returns-clause-turn : goal.returns-clause-turn
returns-clause-turn g c =
    let reported = rw c.in_ok-tick_all.was at c.tick_all.ensures.turn in
    on_ok_weaker c.ask_all.result
    (λ asked stage opened places near st. tick_goes (machine (g.S.Service.started c.args.who.kind) g.S.Service.after g.S.Service.greeting) (node_of c.args.who stage) opened places _
    c.args.turn.now.sent.items c.tick_all.new.turn.sent.items c.ask_all.new.turn.sent.items st.number (reported stage places tt st.slots) (asked stage)) c.ask_all.ensures.asked

pub returns-clause-alone : goal.returns-clause-alone
returns-clause-alone g c =
    let reported = rw c.in_ok-tick_all.was at c.tick_all.ensures.alone in
    let count = counted_by c.args.who.isn c.args.serving.now.next.0 (search rules) c.requires.counted in
    on_ok_weaker c.ask_all.result
    (λ asked stage. served_alone (machine (g.S.Service.started c.args.who.kind) g.S.Service.after g.S.Service.greeting) (node_of c.args.who stage) Tick_comes c.args.serving.now _
    c.args.turn.now.sent.items c.tick_all.new.turn.sent.items c.ask_all.new.turn.sent.items count.0 count.1 (λ key. opens_of_key (node_of c.args.who stage) Tick_comes key _ c.ask_all.ensures.unique (asked stage).spelled) (λ key place st about. (refl, refl)) (reported stage) (asked stage)) c.ask_all.ensures.asked

pub returns-clause-known : goal.returns-clause-known
returns-clause-known g c =
    let reported = rw c.in_ok-tick_all.was at c.tick_all.ensures.known in
    at_ok c.ask_all.result (λ standing clients k. record { number = k.number; known = reported ∙ k.known })
