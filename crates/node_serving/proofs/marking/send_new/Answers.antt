use Rattle.std.proofs.Common.{◌∙◌, true, false, sym}
use Rattle.std.proofs.lemmas.Result.{on_ok_weaker}
use Rattle.conn_marks.specs.KeyMarks.{marking_in}
use Rattle.node_serving.specs.Identity.{grammar_in}
use Rattle.node_serving.specs.Markers.{saving, marker_of}
use Rattle.node_serving.proofs.MarkedKeys.{reported_is, savable_of, waits_new, waits_not, conn_stands, sound_of}
use Rattle.node_serving.specs.MarkedAlone.{IsMarkOf}
use Rattle.mark_laws.specs.Marking.{outstanding_in}
use Rattle.node_serving.proofs.Among.{among_none, marks_among}
use Rattle.node_serving.proofs.marking.send_new.Goals as goal

pub advance-requires : goal.advance-requires
advance-requires g c = sound_of c.args.conn.now c.requires.sound

pub returns-then-waits-clause-law : goal.returns-then-waits-clause-law
returns-then-waits-clause-law g c = λ every p number ours bytes.
    let by = marker_of g.S.Service (saving g.S.Saved.form g.S.Saved.state_of g.S.Saved.is_savable) c.args.who every in
    let changes = c.in_ok-advance.ensures.law (savable_of g.S.Saved.is_savable every c.args.marks.now.every number) c.args.who.kind p (conn_stands by.service c.args.who.local c.args.who.boot c.args.conn.now p ours) bytes in
    waits_not (grammar_in c.args.who) by c.args.who.boot c.args.key p c.args.marks.now c.advance.new.self c.args.from c.args.turn.now.sent.items number changes
    (reported_is c.args.who.boot c.args.key c.message.result (marking_in c.args.marks.now c.args.key) true c.message.ensures.value (sym c.is_some-waits.ensures ∙ c.if-waits.true))

pub returns-clause-law : goal.returns-clause-law
returns-clause-law g c =
    on_ok_weaker c.send_outstanding.result
    (λ sends every p number ours bytes.
    let by = marker_of g.S.Service (saving g.S.Saved.form g.S.Saved.state_of g.S.Saved.is_savable) c.args.who every in
    let changes = c.in_ok-advance.ensures.law (savable_of g.S.Saved.is_savable every c.args.marks.now.every number) c.args.who.kind p (conn_stands by.service c.args.who.local c.args.who.boot c.args.conn.now p ours) bytes in
    waits_new (grammar_in c.args.who) by c.args.who.boot c.args.key p c.args.marks.now c.advance.new.self c.args.from c.args.turn.now.sent.items c.send_outstanding.new.turn.sent.items number changes
    (reported_is c.args.who.boot c.args.key c.message.result (marking_in c.args.marks.now c.args.key) false c.message.ensures.value (sym c.is_some-waits.ensures ∙ c.if-waits.false)) sends) c.send_outstanding.ensures

pub returns-then-waits-clause-alone : goal.returns-then-waits-clause-alone
returns-then-waits-clause-alone g c = record { others = c.in_ok-advance.ensures.others; among = among_none (IsMarkOf c.args.who.boot c.args.key) c.args.turn.now.sent.items }

pub returns-clause-alone : goal.returns-clause-alone
returns-clause-alone g c =
    on_ok_weaker c.send_outstanding.result
    (λ sends. record {
      others = c.in_ok-advance.ensures.others;
      among = marks_among (grammar_in c.args.who) c.args.who.boot c.args.key c.args.from (outstanding_in (marking_in c.advance.new.self c.args.key)) c.args.turn.now.sent.items c.send_outstanding.new.turn.sent.items sends;
    }) c.send_outstanding.ensures
