use Rattle.std.proofs.Common.{rules, ◌≡◌, true, refl}
use Rattle.std.specs.Map.{lookup}
use Rattle.std.specs.Option.{is_some}
use Rattle.std.proofs.lemmas.Result.{on_ok_weaker}
use Rattle.ft_io.specs.Key.{key_eq}
use Rattle.server_trait.specs.Service.{machine}
use Rattle.segment_codec.specs.Value.{segment_of}
use Rattle.ft_model.specs.Network.{source_of}
use Rattle.node_serving.specs.Identity.{node_of}
use Rattle.node_serving.proofs.Knocking.{counted_by}
use Rattle.node_serving.proofs.Served.{known_packet}
use Rattle.node_serving.proofs.Strange.{known_alone}
use Rattle.node_serving.proofs.Known.{known_knows}
use Rattle.node_serving.proofs.Turned.{at_ok}
use Rattle.node_serving.proofs.serving.serve_known_client.Goals as goal

pub returns-clause-turn : goal.returns-clause-turn
returns-clause-turn g c =
    let segment = segment_of c.args.segment.now in
    let reported = rw c.in_ok-serve_known.was at c.serve_known.ensures.turn in
    let there : is_some (lookup (key_eq (source_of segment)) c.args.serving.now.slots.entries) ≡ true = search rules in
    on_ok_weaker c.ask_again.result
    (λ asked mine stage opened places near st.
    known_packet (machine (g.S.Service.started c.args.who.kind) g.S.Service.after g.S.Service.greeting) (node_of c.args.who stage) segment (source_of segment) opened places c.args.serving.now _
    c.args.turn.now.sent.items c.serve_known.new.turn.sent.items c.ask_again.new.turn.sent.items refl there st st.number (reported mine stage places near st.slots)
    (asked mine stage)) c.ask_again.ensures.asked

pub returns-clause-alone : goal.returns-clause-alone
returns-clause-alone g c =
    let segment = segment_of c.args.segment.now in
    let reported = rw c.in_ok-serve_known.was at c.serve_known.ensures.alone in
    let there : is_some (lookup (key_eq (source_of segment)) c.args.serving.now.slots.entries) ≡ true = search rules in
    let count = counted_by c.args.who.isn c.args.serving.now.next.0 (search rules) c.requires.counted in
    on_ok_weaker c.ask_again.result
    (λ asked mine stage.
    known_alone (machine (g.S.Service.started c.args.who.kind) g.S.Service.after g.S.Service.greeting) (node_of c.args.who stage) segment (source_of segment) c.args.serving.now _
    c.args.turn.now.sent.items c.serve_known.new.turn.sent.items c.ask_again.new.turn.sent.items count.0 count.1 refl there c.ask_again.ensures.unique (reported mine stage)
    (asked mine stage)) c.ask_again.ensures.asked

pub returns-clause-known : goal.returns-clause-known
returns-clause-known g c =
    let segment = segment_of c.args.segment.now in
    let reported = rw c.in_ok-serve_known.was at c.serve_known.ensures.known in
    let there : is_some (lookup (key_eq (source_of segment)) c.args.serving.now.slots.entries) ≡ true = search rules in
    at_ok c.ask_again.result (λ mine standing. known_knows (node_of c.args.who standing) segment mine c.args.serving.now _ there refl reported)
