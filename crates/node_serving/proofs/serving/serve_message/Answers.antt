use Rattle.std.proofs.Common.{rules, refl}
use Rattle.std.proofs.lemmas.Result.{on_ok_weaker}
use Rattle.server_trait.specs.Service.{machine}
use Rattle.logger_wire.specs.Value.{message_of}
use Rattle.node_serving.specs.Identity.{node_of}
use Rattle.node_serving.proofs.MarkedApart.{message_alone}
use Rattle.node_serving.proofs.Knocking.{counted_by}
use Rattle.node_serving.proofs.Served.{message_goes}
use Rattle.node_serving.proofs.Known.{message_knows}
use Rattle.node_serving.proofs.serving.serve_message.Goals as goal

pub returns-clause-turn : goal.returns-clause-turn
returns-clause-turn g c =
    on_ok_weaker c.receive.result
    (λ receipt boot stage opened places near st. message_goes (machine (g.S.Service.started c.args.who.kind) g.S.Service.after g.S.Service.greeting) (node_of c.args.who stage) (message_of c.args.m.now) opened places _
    c.args.turn.now.sent.items c.receive.new.turn.sent.items st.number (receipt boot stage places tt st.slots)) c.receive.ensures.turn

pub returns-clause-alone : goal.returns-clause-alone
returns-clause-alone g c =
    let count = counted_by c.args.who.isn c.args.serving.now.next.0 (search rules) c.requires.counted in
    on_ok_weaker c.receive.result
    (λ receipt boot stage. message_alone (machine (g.S.Service.started c.args.who.kind) g.S.Service.after g.S.Service.greeting) (node_of c.args.who stage) (message_of c.args.m.now) c.args.serving.now _
    c.args.turn.now.sent.items c.receive.new.turn.sent.items count.0 count.1 (receipt boot stage)) c.receive.ensures.alone

pub returns-clause-known : goal.returns-clause-known
returns-clause-known g c =
    on_ok_weaker c.receive.result
    (λ receipt boot standing. message_knows (node_of c.args.who standing) (message_of c.args.m.now) c.args.serving.now _ boot refl receipt) c.receive.ensures.known
