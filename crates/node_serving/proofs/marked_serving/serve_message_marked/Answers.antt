use Rattle.std.proofs.Common.{◌≡◌, ◌∙◌, ◌&&◌, ◌==◌, true, eq-eqb, refl, sym, ap, subst, List}
use Rattle.std.proofs.lemmas.Result.{on_ok_weaker}
use Rattle.ft_io.proofs.Booleans.{and_false}
use Rattle.logger_wire.specs.Value.{message_of}
use Rattle.ft_model.specs.Node.Input.{Message_comes}
use Rattle.ft_model.specs.Wire.{Wire}
use Rattle.node_serving.specs.Identity.{node_of, service_of}
use Rattle.node_serving.specs.Markers.{saving, marker_of, node_at}
use Rattle.node_serving.specs.MarkedServing.{ServingGoesMarked}
use Rattle.node_serving.specs.ServingStage.{ServingGoes}
use Rattle.node_serving.proofs.Receipt.{only_its_key}
use Rattle.node_serving.proofs.MarkedServed.{served_marked, served_unmarked}
use Rattle.ft_model.proofs.Lists.{key_is}
use Rattle.ft_model.specs.ServingTurn.{names}
use Rattle.mark_laws.specs.MarkedNode.MarkedInput.{Plain_comes}
use Rattle.node_serving.proofs.Among.{goes_beside, goes_unmarked}
use Rattle.node_serving.proofs.marked_serving.serve_message_marked.Goals as goal

pub returns-in-Some-clause-turn : goal.returns-in-Some-clause-turn
returns-in-Some-clause-turn g c =
    let reported = rw c.in_ok-serve_message.was at c.serve_message.ensures.turn in
    let message = message_of c.args.m.now in
    on_ok_weaker c.mark_key.result
    (λ marked boot every standing awaits marking opened places near keeps settled st.
    let by = marker_of g.S.Service (saving g.S.Saved.form g.S.Saved.state_of g.S.Saved.is_savable) c.args.who every in
    let goes = subst (λ (l : List Wire). ServingGoes by.service (node_of c.args.who standing) (Message_comes message) opened places c.serve_message.new.serving l c.serve_message.new.turn.sent.items) c.requires.empty
    (reported boot standing opened places near st) in
    subst (λ (l : List Wire). ServingGoesMarked by (node_at c.args.who standing awaits marking) (Message_comes message) opened places c.serve_message.new.serving c.mark_key.new.marks l c.mark_key.new.turn.sent.items) (sym c.requires.empty)
    (served_marked by c.args.who standing awaits marking (Message_comes message) c.in-Some.key opened places c.args.serving.now.slots.entries c.serve_message.new.serving c.args.marks.now c.mark_key.new.marks
    c.serve_message.new.turn.sent.items c.mark_key.new.turn.sent.items (only_its_key (node_of c.args.who standing) message c.in-Some.key (λ k. c.in-Some.ensures k)) refl tt st.slots c.apart.ensures keeps settled goes
    (λ ps all. marked every standing ps keeps.every all))) c.mark_key.ensures.turn

pub returns-in-None-clause-turn : goal.returns-in-None-clause-turn
returns-in-None-clause-turn g c = λ boot every standing awaits marking opened places near keeps settled st.
    let reported = rw c.in_ok-serve_message.was at c.serve_message.ensures.turn in
    let message = message_of c.args.m.now in
    let by = marker_of g.S.Service (saving g.S.Saved.form g.S.Saved.state_of g.S.Saved.is_savable) c.args.who every in
    let goes = subst (λ (l : List Wire). ServingGoes by.service (node_of c.args.who standing) (Message_comes message) opened places c.serve_message.new.serving l c.serve_message.new.turn.sent.items) c.requires.empty
    (reported boot standing opened places near st) in
    subst (λ (l : List Wire). ServingGoesMarked by (node_at c.args.who standing awaits marking) (Message_comes message) opened places c.serve_message.new.serving c.args.marks.now l c.serve_message.new.turn.sent.items) (sym c.requires.empty)
    (served_unmarked by c.args.who standing awaits marking (Message_comes message) (record { ip = 0; port = 0 }) opened places c.args.serving.now.slots.entries c.serve_message.new.serving c.args.marks.now
    c.serve_message.new.turn.sent.items (λ k. ap (λ b. (message.boot == c.args.who.boot) && b) (c.in-None.ensures k) ∙ and_false (message.boot == c.args.who.boot)) refl refl tt st.slots c.apart.ensures keeps settled goes)

pub returns-in-Some-clause-alone : goal.returns-in-Some-clause-alone
returns-in-Some-clause-alone g c =
    let reported = rw c.in_ok-serve_message.was at c.serve_message.ensures.alone in
    let message = message_of c.args.m.now in
    on_ok_weaker c.mark_key.result
    (λ marks boot standing.
    let about : (message.boot == c.args.who.boot && names message.body c.in-Some.key) ≡ true =
    ap (λ b. b && names message.body c.in-Some.key) (eq-eqb message.boot c.args.who.boot boot) ∙ (c.in-Some.ensures c.in-Some.key ∙ key_is c.in-Some.key) in
    goes_beside (service_of g.S.Service c.args.who) (node_of c.args.who standing) (Plain_comes (Message_comes message)) c.in-Some.key c.args.serving.now c.serve_message.new.serving c.args.marks.now c.mark_key.new.marks
    c.args.turn.now.sent.items c.serve_message.new.turn.sent.items c.mark_key.new.turn.sent.items about (reported boot standing) marks) c.mark_key.ensures.alone

pub returns-in-None-clause-alone : goal.returns-in-None-clause-alone
returns-in-None-clause-alone g c = λ boot standing.
    let reported = rw c.in_ok-serve_message.was at c.serve_message.ensures.alone in
    goes_unmarked (service_of g.S.Service c.args.who) (node_of c.args.who standing) (Plain_comes (Message_comes (message_of c.args.m.now))) c.args.serving.now c.serve_message.new.serving c.args.marks.now
    c.args.turn.now.sent.items c.serve_message.new.turn.sent.items (reported boot standing)
