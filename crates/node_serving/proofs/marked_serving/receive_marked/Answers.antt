use Rattle.std.proofs.Common.{◌∙◌, refl, sym, subst, List}
use Rattle.std.proofs.lemmas.Result.{on_ok_weaker}
use Rattle.std.specs.Option.{option_copied}
use Rattle.seq_arith.specs.Mark.MarkBody.{MarkedMsg}
use Rattle.conn_marks.specs.Settled.{MarksNew}
use Rattle.ft_model.specs.Node.{place_at}
use Rattle.ft_model.specs.Wire.{Wire}
use Rattle.node_serving.specs.Identity.{node_of, grammar_in}
use Rattle.node_serving.specs.Loan.{IsConnAt}
use Rattle.node_serving.specs.Markers.{saving, marker_of, node_at}
use Rattle.node_serving.specs.MarkedServing.{ReceivedOfMark}
use Rattle.node_serving.proofs.MarkedServed.{not_received, none_live, received_at, places_apart}
use Rattle.mark_laws.specs.Marking.{marking_answered}
use Rattle.conn_marks.specs.KeyMarks.{marking_in}
use Rattle.conn_marks.proofs.KeyMarks.{others_kept}
use Rattle.node_serving.proofs.Among.{marks_nothing}
use Rattle.node_serving.proofs.marked_serving.receive_marked.Goals as goal

pub send_new-requires-clause-sound : goal.send_new-requires-clause-sound
send_new-requires-clause-sound g c = c.in-Some.ensures.sound c.args.who c.requires.sound

pub returns-in_default-clause-turn : goal.returns-in_default-clause-turn
returns-in_default-clause-turn g c = λ boot every standing awaits marking opened places keeps settled st.
    let by = marker_of g.S.Service (saving g.S.Saved.form g.S.Saved.state_of g.S.Saved.is_savable) c.args.who every in
    let node = node_at c.args.who standing awaits marking in
    let at = c.conn_at.ensures.stands by.service (node_of c.args.who standing) places st.slots in
    not_received by node places (record { boot = boot; body = MarkedMsg c.args.key c.args.reads }) c.args.marks.now c.args.turn.now.sent.items
    (none_live by node c.args.key c.args.reads places (place_at c.args.key places) refl
    (subst (λ o. IsConnAt by.service (node_of c.args.who standing) (option_copied o) (place_at c.args.key places)) c.in_default.is at)) c.requires.empty keeps settled

pub returns-clause-turn : goal.returns-clause-turn
returns-clause-turn g c =
    on_ok_weaker c.send_new.result
    (λ marked boot every standing awaits marking opened places keeps settled st.
    let by = marker_of g.S.Service (saving g.S.Saved.form g.S.Saved.state_of g.S.Saved.is_savable) c.args.who every in
    let node = node_at c.args.who standing awaits marking in
    let at = subst (λ o. IsConnAt by.service (node_of c.args.who standing) (option_copied o) (place_at c.args.key places)) c.in-Some.is (c.conn_at.ensures.stands by.service (node_of c.args.who standing) places st.slots) in
    subst (λ (l : List Wire). ReceivedOfMark by node places (record { boot = boot; body = MarkedMsg c.args.key c.args.reads }) c.send_new.new.marks l c.send_new.new.turn.sent.items) (sym c.requires.empty)
    (received_at by node c.args.key c.args.reads boot places c.in-Some.conn.now c.args.marks.now c.receive.new.self c.send_new.new.marks c.send_new.new.turn.sent.items
    (places_apart by.service (node_of c.args.who standing) c.args.serving.now.slots.entries places st.slots c.apart.ensures) (place_at c.args.key places) refl at keeps settled c.receive.ensures
    (λ p ours bytes. subst (λ (l : List Wire). MarksNew by (grammar_in c.args.who) c.args.who.boot c.args.key p c.receive.new.self c.send_new.new.marks 0 l c.send_new.new.turn.sent.items) c.requires.empty
    (marked every p (c.receive.ensures.every ∙ keeps.every) ours bytes)))) c.send_new.ensures.law

pub returns-in_default-clause-alone : goal.returns-in_default-clause-alone
returns-in_default-clause-alone g c = marks_nothing c.args.who.boot c.args.key c.args.marks.now c.args.turn.now.sent.items

pub returns-clause-alone : goal.returns-clause-alone
returns-clause-alone g c =
    on_ok_weaker c.send_new.result
    (λ sends. record {
      others = λ k other. sends.others k other
          ∙ others_kept c.args.key (marking_answered c.args.reads (marking_in c.args.marks.now c.args.key)) c.args.marks.now c.receive.new.self c.receive.ensures k other;
      among = sends.among;
    }) c.send_new.ensures.alone
