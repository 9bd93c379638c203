use Rattle.std.proofs.Common.{rules, ◌==◌, false, ◌≡◌, refl, subst}
use Rattle.std.proofs.lemmas.Bool.{ne_eqb}
use Rattle.ft_io.proofs.Outcomes.{if_ok}
use Rattle.logger_wire.specs.MarkValue.{message_of as mark_message_of}
use Rattle.node_serving.specs.Markers.{saving, marker_of}
use Rattle.server_node.proofs.MarkedInputs.{noise_rests_marked, other_rests}
use Rattle.mark_laws.specs.MarkedNode.MarkedInput.{Plain_comes, Mark_comes}
use Rattle.ft_model.specs.Node.Input.{Noise_comes}
use Rattle.node_serving.specs.Identity.{service_of}
use Rattle.server_node.specs.MarkedApart.{MarkedTurnsApart}
use Rattle.server_node.specs.MarkedTurns.{BytesTurnMarked, received_of}
use Rattle.server_node.proofs.MarkedApart.{marked_still}
use Rattle.server_node.proofs.marked.receive_bytes.Goals as goal

pub returns-in_default-clause-turn : goal.returns-in_default-clause-turn
returns-in_default-clause-turn g c =
    let v = saving g.S.Saved.form g.S.Saved.state_of g.S.Saved.is_savable in
    subst (λ r. BytesTurnMarked g.S.Service v c.args.who r c.args.node c.args.node c.args.turn.now.sent.items) c.in_default.ensures.value
    (λ every standing awaits marking bytes lengths unfenced fair st.
    noise_rests_marked (marker_of g.S.Service v c.args.who every) c.args.who standing awaits marking c.args.node bytes lengths c.args.turn.now.sent.items c.requires.empty c.apart_in.ensures st)

pub returns-then-m-who-clause-turn : goal.returns-then-m-who-clause-turn
returns-then-m-who-clause-turn g c =
    let v = saving g.S.Saved.form g.S.Saved.state_of g.S.Saved.is_savable in
    let other : (c.in-Ok.m.boot == c.args.who.boot) ≡ false = ne_eqb c.in-Ok.m.boot c.args.who.boot c.if-m-who.true in
    subst (λ r. BytesTurnMarked g.S.Service v c.args.who r c.args.node c.args.node c.args.turn.now.sent.items) c.in-Ok.ensures.value
    (λ every standing awaits marking bytes lengths unfenced fair st.
    other_rests (marker_of g.S.Service v c.args.who every) c.args.who (mark_message_of c.in-Ok.m) standing awaits marking c.args.node bytes lengths c.args.turn.now.sent.items other c.requires.empty st)

pub returns-clause-turn : goal.returns-clause-turn
returns-clause-turn g c = if_ok c.receive_mark.result
    (λ after reported.
    subst (λ r. BytesTurnMarked g.S.Service (saving g.S.Saved.form g.S.Saved.state_of g.S.Saved.is_savable) c.args.who r c.args.node after c.receive_mark.new.turn.sent.items) c.in-Ok.ensures.value (reported c.if-m-who.false))
    c.receive_mark.ensures.turn

pub returns-in_default-clause-apart : goal.returns-in_default-clause-apart
returns-in_default-clause-apart g c =
    subst (λ r. MarkedTurnsApart g.S.Service c.args.who (received_of r) c.args.node c.args.node c.args.turn.now.sent.items) c.in_default.ensures.value
    (λ standing. marked_still (service_of g.S.Service c.args.who) c.args.who standing (Plain_comes Noise_comes) c.args.node c.args.turn.now.sent.items c.requires.empty (search rules) c.requires.sound (λ key. refl))

pub returns-then-m-who-clause-apart : goal.returns-then-m-who-clause-apart
returns-then-m-who-clause-apart g c =
    subst (λ r. MarkedTurnsApart g.S.Service c.args.who (received_of r) c.args.node c.args.node c.args.turn.now.sent.items) c.in-Ok.ensures.value
    (λ standing. marked_still (service_of g.S.Service c.args.who) c.args.who standing (Mark_comes (mark_message_of c.in-Ok.m)) c.args.node c.args.turn.now.sent.items c.requires.empty (search rules) c.requires.sound (λ key. refl))

pub returns-clause-apart : goal.returns-clause-apart
returns-clause-apart g c = if_ok c.receive_mark.result
    (λ after reported.
    subst (λ r. MarkedTurnsApart g.S.Service c.args.who (received_of r) c.args.node after c.receive_mark.new.turn.sent.items) c.in-Ok.ensures.value (reported c.if-m-who.false))
    c.receive_mark.ensures.apart
