use Rattle.std.proofs.Common.{rules, ◌≡◌, ◌∙◌, ◌&&◌, ◌==◌, true, refl, sym, ap, subst, [], List, eq-eqb}
use Rattle.std.proofs.lemmas.Result.{on_ok_weaker}
use Rattle.seq_arith.specs.Mark.{MarkMessage}
use Rattle.seq_arith.specs.Mark.MarkBody.{MarkedMsg}
use Rattle.logger_wire.specs.MarkValue.{message_of, body_of}
use Rattle.ft_model.proofs.Lists.{key_is}
use Rattle.ft_model.specs.Node.Input.{Noise_comes}
use Rattle.ft_model.specs.Wire.{Wire}
use Rattle.mark_laws.specs.MarkedNode.{ReceivesOfMark}
use Rattle.mark_laws.specs.MarkedNode.MarkedInput.{Mark_comes}
use Rattle.node_serving.specs.Markers.{saving, marker_of, node_at}
use Rattle.node_serving.specs.MarkedServing.{ReceivedOfMark}
use Rattle.node_serving.proofs.MarkedServed.{not_received}
use Rattle.node_serving.specs.Identity.{node_of, service_of}
use Rattle.node_serving.specs.MarkedAlone.{GoesBesideMarks, MarksOnly, answers_for}
use Rattle.node_serving.proofs.Among.{goes_beside, idle_alone, rests_unmarked}
use Rattle.node_serving.proofs.Knocking.{counted_by}
use Rattle.node_serving.proofs.marked_serving.serve_mark.Goals as goal

pub returns-in-Marked-clause-turn : goal.returns-in-Marked-clause-turn
returns-in-Marked-clause-turn g c =
    on_ok_weaker c.receive_marked.result
    (λ receipt boot every standing awaits marking opened places keeps settled st.
    let by = marker_of g.S.Service (saving g.S.Saved.form g.S.Saved.state_of g.S.Saved.is_savable) c.args.who every in
    subst (λ (m : MarkMessage). ReceivedOfMark by (node_at c.args.who standing awaits marking) places m c.receive_marked.new.marks c.args.turn.now.sent.items c.receive_marked.new.turn.sent.items)
    (λ j. record { boot = c.args.m.now.boot; body = body_of (sym c.in-Marked.is j) })
    (receipt c.args.m.now.boot every standing awaits marking opened places keeps settled st)) c.receive_marked.ensures.turn

pub returns-in-Mark-clause-turn : goal.returns-in-Mark-clause-turn
returns-in-Mark-clause-turn g c = λ boot every standing awaits marking opened places keeps settled st.
    let by = marker_of g.S.Service (saving g.S.Saved.form g.S.Saved.state_of g.S.Saved.is_savable) c.args.who every in
    not_received by (node_at c.args.who standing awaits marking) places (message_of c.args.m.now) c.args.marks.now c.args.turn.now.sent.items
    (subst (λ b. ReceivesOfMark by (node_at c.args.who standing awaits marking) places (body_of b) [] (node_at c.args.who standing awaits marking)) (sym c.in-Mark.is) (refl, refl)) c.requires.empty keeps settled

pub returns-in-Ask-clause-turn : goal.returns-in-Ask-clause-turn
returns-in-Ask-clause-turn g c = λ boot every standing awaits marking opened places keeps settled st.
    let by = marker_of g.S.Service (saving g.S.Saved.form g.S.Saved.state_of g.S.Saved.is_savable) c.args.who every in
    not_received by (node_at c.args.who standing awaits marking) places (message_of c.args.m.now) c.args.marks.now c.args.turn.now.sent.items
    (subst (λ b. ReceivesOfMark by (node_at c.args.who standing awaits marking) places (body_of b) [] (node_at c.args.who standing awaits marking)) (sym c.in-Ask.is) (refl, refl)) c.requires.empty keeps settled

pub returns-in-Held-clause-turn : goal.returns-in-Held-clause-turn
returns-in-Held-clause-turn g c = λ boot every standing awaits marking opened places keeps settled st.
    let by = marker_of g.S.Service (saving g.S.Saved.form g.S.Saved.state_of g.S.Saved.is_savable) c.args.who every in
    not_received by (node_at c.args.who standing awaits marking) places (message_of c.args.m.now) c.args.marks.now c.args.turn.now.sent.items
    (subst (λ b. ReceivesOfMark by (node_at c.args.who standing awaits marking) places (body_of b) [] (node_at c.args.who standing awaits marking)) (sym c.in-Held.is) (refl, refl)) c.requires.empty keeps settled

pub returns-in-Marked-clause-alone : goal.returns-in-Marked-clause-alone
returns-in-Marked-clause-alone g c =
    on_ok_weaker c.receive_marked.result
    (λ sends boot standing.
    let service = service_of g.S.Service c.args.who in
    let node = node_of c.args.who standing in
    let count = counted_by c.args.who.isn c.args.serving.now.next.0 (search rules) c.requires.counted in
    let reported : (message_of c.args.m.now).body ≡ MarkedMsg c.in-Marked.key c.in-Marked.reads = ap body_of c.in-Marked.is in
    let about : (c.args.m.now.boot == c.args.who.boot && answers_for (message_of c.args.m.now).body c.in-Marked.key) ≡ true =
    ap (λ b. b && answers_for (message_of c.args.m.now).body c.in-Marked.key) (eq-eqb c.args.m.now.boot c.args.who.boot boot) ∙ (ap (λ b. answers_for b c.in-Marked.key) reported ∙ key_is c.in-Marked.key) in
    subst (λ (l : List Wire). GoesBesideMarks service node (Mark_comes (message_of c.args.m.now)) c.args.serving.now c.args.serving.now c.args.marks.now c.receive_marked.new.marks l c.receive_marked.new.turn.sent.items)
    (sym c.requires.empty)
    (goes_beside service node (Mark_comes (message_of c.args.m.now)) c.in-Marked.key c.args.serving.now c.args.serving.now c.args.marks.now c.receive_marked.new.marks [] [] c.receive_marked.new.turn.sent.items about
    (idle_alone service node Noise_comes c.args.serving.now count.0 count.1 (λ key. refl))
    (subst (λ (l : List Wire). MarksOnly c.args.who.boot c.in-Marked.key c.args.marks.now c.receive_marked.new.marks l c.receive_marked.new.turn.sent.items) c.requires.empty sends))) c.receive_marked.ensures.alone

pub returns-in-Mark-clause-alone : goal.returns-in-Mark-clause-alone
returns-in-Mark-clause-alone g c = λ boot standing.
    let count = counted_by c.args.who.isn c.args.serving.now.next.0 (search rules) c.requires.counted in
    rests_unmarked (service_of g.S.Service c.args.who) (node_of c.args.who standing) (message_of c.args.m.now) c.args.serving.now c.args.marks.now c.args.turn.now.sent.items c.requires.empty count.0 count.1

pub returns-in-Ask-clause-alone : goal.returns-in-Ask-clause-alone
returns-in-Ask-clause-alone g c = λ boot standing.
    let count = counted_by c.args.who.isn c.args.serving.now.next.0 (search rules) c.requires.counted in
    rests_unmarked (service_of g.S.Service c.args.who) (node_of c.args.who standing) (message_of c.args.m.now) c.args.serving.now c.args.marks.now c.args.turn.now.sent.items c.requires.empty count.0 count.1

pub returns-in-Held-clause-alone : goal.returns-in-Held-clause-alone
returns-in-Held-clause-alone g c = λ boot standing.
    let count = counted_by c.args.who.isn c.args.serving.now.next.0 (search rules) c.requires.counted in
    rests_unmarked (service_of g.S.Service c.args.who) (node_of c.args.who standing) (message_of c.args.m.now) c.args.serving.now c.args.marks.now c.args.turn.now.sent.items c.requires.empty count.0 count.1
