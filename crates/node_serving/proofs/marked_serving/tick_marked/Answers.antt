use Rattle.std.proofs.Common.{◌∙◌, sym, ap, subst, length}
use Rattle.std.specs.Option.{option_copied}
use Rattle.std.proofs.lemmas.Result.{on_ok_weaker}
use Rattle.server_trait.specs.Service.{machine}
use Rattle.mark_laws.specs.Marking.{outstanding_in}
use Rattle.conn_marks.specs.MarkSends.{SendsMarks}
use Rattle.conn_marks.proofs.Marked.{tick_sends_again}
use Rattle.node_serving.specs.Identity.{node_of, grammar_in}
use Rattle.node_serving.specs.Markers.{saving, marker_of}
use Rattle.node_serving.proofs.MarkedTicks.{slot_ticks, again_live, again_none, TickLaw}
use Rattle.conn_marks.specs.KeyMarks.{marking_in}
use Rattle.node_serving.specs.MarkedAlone.{IsMarkOf}
use Rattle.node_serving.proofs.Among.{among_none, marks_among}
use Rattle.node_serving.proofs.marked_serving.tick_marked.Goals as goal

pub returns-in-Some-clause-turn : goal.returns-in-Some-clause-turn
returns-in-Some-clause-turn g c =
    let reported = rw c.in_ok-tick_slot.was at c.tick_slot.ensures.turn in
    on_ok_weaker c.send_outstanding.result
    (λ sends every standing marking place keeps settled st.
    let by = marker_of g.S.Service (saving g.S.Saved.form g.S.Saved.state_of g.S.Saved.is_savable) c.args.who every in
    let law : TickLaw by (node_of c.args.who standing) =
    λ p q m packets calm t. (tick_sends_again (machine (g.S.Service.started c.args.who.kind) g.S.Service.after g.S.Service.greeting) by.writing by.every c.args.who.local c.args.who.boot p q m packets calm t).marking in
    let again = subst (λ n. SendsMarks (grammar_in c.args.who) c.args.who.boot c.args.key n (outstanding_in (marking c.args.key)) c.tick_slot.new.turn.sent.items c.send_outstanding.new.turn.sent.items) c.len-from.ensures
    (subst (λ m. SendsMarks (grammar_in c.args.who) c.args.who.boot c.args.key c.len-from.result (outstanding_in m) c.tick_slot.new.turn.sent.items c.send_outstanding.new.turn.sent.items) (keeps.each c.args.key) sends) in
    slot_ticks by (node_of c.args.who standing) marking c.args.key place c.tick_slot.new.slot c.args.turn.now.sent.items c.tick_slot.new.turn.sent.items c.send_outstanding.new.turn.sent.items law settled
    (reported standing place tt st)
    (again_live (grammar_in c.args.who) c.args.who.boot c.args.key (length c.args.turn.now.sent.items) c.tick_slot.new.slot _ (marking c.args.key) c.tick_slot.new.turn.sent.items c.send_outstanding.new.turn.sent.items
    (sym (ap option_copied c.in-Some.is) ∙ c.live_conn.ensures) again)) c.send_outstanding.ensures

pub returns-in-None-clause-turn : goal.returns-in-None-clause-turn
returns-in-None-clause-turn g c = λ every standing marking place keeps settled st.
    let reported = rw c.in_ok-tick_slot.was at c.tick_slot.ensures.turn in
    let by = marker_of g.S.Service (saving g.S.Saved.form g.S.Saved.state_of g.S.Saved.is_savable) c.args.who every in
    let law : TickLaw by (node_of c.args.who standing) =
    λ p q m packets calm t. (tick_sends_again (machine (g.S.Service.started c.args.who.kind) g.S.Service.after g.S.Service.greeting) by.writing by.every c.args.who.local c.args.who.boot p q m packets calm t).marking in
    slot_ticks by (node_of c.args.who standing) marking c.args.key place c.tick_slot.new.slot c.args.turn.now.sent.items c.tick_slot.new.turn.sent.items c.tick_slot.new.turn.sent.items law settled
    (reported standing place tt st)
    (again_none (grammar_in c.args.who) c.args.who.boot c.args.key (length c.args.turn.now.sent.items) c.tick_slot.new.slot (marking c.args.key) c.tick_slot.new.turn.sent.items
    (sym (ap option_copied c.in-None.is) ∙ c.live_conn.ensures))

pub returns-in-Some-clause-alone : goal.returns-in-Some-clause-alone
returns-in-Some-clause-alone g c =
    let reported = rw c.in_ok-tick_slot.was at c.tick_slot.ensures in
    on_ok_weaker c.send_outstanding.result
    (λ sends. record {
      mid = c.tick_slot.new.turn.sent.items;
      only = reported.alone;
      goes = λ standing place st. reported.turn standing place tt st;
      among = marks_among (grammar_in c.args.who) c.args.who.boot c.args.key c.len-from.result (outstanding_in (marking_in c.args.marks.now c.args.key)) c.tick_slot.new.turn.sent.items c.send_outstanding.new.turn.sent.items sends;
    }) c.send_outstanding.ensures

pub returns-in-None-clause-alone : goal.returns-in-None-clause-alone
returns-in-None-clause-alone g c =
    let reported = rw c.in_ok-tick_slot.was at c.tick_slot.ensures in
    record {
      mid = c.tick_slot.new.turn.sent.items;
      only = reported.alone;
      goes = λ standing place st. reported.turn standing place tt st;
      among = among_none (IsMarkOf c.args.who.boot c.args.key) c.tick_slot.new.turn.sent.items;
    }
