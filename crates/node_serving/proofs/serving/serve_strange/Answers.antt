use Rattle.std.proofs.Common.{rules, refl}
use Rattle.std.proofs.lemmas.Result.{on_ok_weaker}
use Rattle.server_trait.specs.Service.{machine}
use Rattle.segment_codec.specs.Value.{segment_of}
use Rattle.ft_model.specs.Network.{source_of}
use Rattle.node_serving.specs.Identity.{node_of}
use Rattle.node_serving.proofs.Knocking.{counted_by}
use Rattle.node_serving.proofs.Served.{strange_packet}
use Rattle.node_serving.proofs.Strange.{strange_alone}
use Rattle.node_serving.proofs.Known.{strange_knows}
use Rattle.node_serving.proofs.serving.serve_strange.Goals as goal

pub returns-clause-turn : goal.returns-clause-turn
returns-clause-turn g c =
    let segment = segment_of c.args.segment.now in
    let refused = rw c.in_ok-refuse_unknown.was at c.refuse_unknown.ensures in
    on_ok_weaker c.admit.result
    (λ admitted mine stage opened places near st.
    strange_packet (machine (g.S.Service.started c.args.who.kind) g.S.Service.after g.S.Service.greeting) (node_of c.args.who stage) segment (source_of segment) opened places c.args.serving.now _
    c.args.turn.now.sent.items c.refuse_unknown.new.turn.sent.items c.admit.new.turn.sent.items refl mine c.requires.strange st refused
    (admitted mine stage opened places st.number st.slots)) c.admit.ensures.turn

pub returns-clause-alone : goal.returns-clause-alone
returns-clause-alone g c =
    let segment = segment_of c.args.segment.now in
    let refused = rw c.in_ok-refuse_unknown.was at c.refuse_unknown.ensures in
    let count = counted_by c.args.who.isn c.args.serving.now.next.0 (search rules) c.requires.counted in
    on_ok_weaker c.admit.result
    (λ knocks mine stage.
    strange_alone (machine (g.S.Service.started c.args.who.kind) g.S.Service.after g.S.Service.greeting) (node_of c.args.who stage) segment (source_of segment) refl mine c.args.serving.now _
    c.args.turn.now.sent.items c.refuse_unknown.new.turn.sent.items c.admit.new.turn.sent.items count.0 count.1 c.requires.strange refused (knocks stage)) c.admit.ensures.alone

pub returns-clause-counted : goal.returns-clause-counted
returns-clause-counted g c = on_ok_weaker c.admit.result (λ counts. counts c.requires.counted) c.admit.ensures.counted

pub returns-clause-known : goal.returns-clause-known
returns-clause-known g c =
    on_ok_weaker c.admit.result
    (λ knocks mine standing. strange_knows (node_of c.args.who standing) (segment_of c.args.segment.now) mine c.args.serving.now _
    c.refuse_unknown.new.turn.sent.items c.admit.new.turn.sent.items c.requires.strange (knocks standing)) c.admit.ensures.alone
