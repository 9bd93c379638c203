use Rattle.std.proofs.Common.{◌+◌, ◌-◌, ◌++◌, ◌∙◌, ap, drop, length, length-drop, arith}
use Rattle.wrapped_conn.proofs.Datas.{reported_of, last_reported, none_left, some_text, some_fin, no_more}
use Rattle.wrapped_conn.proofs.conn.Conn.send_further.Goals as goal
use Rattle.wrapped_conn.proofs.conn.Conn.send_further.Goals.{then-reported-count-via-then-reported-count, then-reported-count-via-else-reported-count+then-fin}

pub returns-then-reported-count-clause-reported : goal.returns-then-reported-count-clause-reported
returns-then-reported-count-clause-reported g c =
    let here = c.args.self.now in
    let reported = c.send_full-reported.result in
    let from = c.saturating_sub-from.result in
    let unread = here.endpoint.receiving.unread in
    let rest = drop (from + reported) unread in
    let size = length-drop (from + reported) unread in
    let from_is = c.saturating_sub-from.ensures ∙ ap (λ n. c.args.start - n) c.fetched_or_read.ensures in
    last_reported here (c.args.start + reported) rest c.args.fin c.send_full-reported.new.out c.send_piece.new.out _
    (omega (arith, size, c.send_full-reported.ensures.rest, c.saturating_sub-count.ensures, c.unread.ensures.value))
    (elim c.then-reported-count.branch [
      | then-reported-count-via-then-reported-count w ↦ some_text (length rest) c.args.fin (omega (arith, size, w.if-reported-count.true, c.saturating_sub-count.ensures, c.unread.ensures.value))
      | then-reported-count-via-else-reported-count+then-fin w ↦ some_fin (length rest) c.args.fin w.if-fin.true
    ])
    c.send_piece.ensures.reported
    (c.send_full-reported.ensures.reported c.args.fin ∙ (λ j. c.args.out.now ++ reported_of here c.args.start (drop (from_is j) unread) c.args.fin))

pub returns-else-fin-clause-reported : goal.returns-else-fin-clause-reported
returns-else-fin-clause-reported g c =
    let here = c.args.self.now in
    let reported = c.send_full-reported.result in
    let from = c.saturating_sub-from.result in
    let unread = here.endpoint.receiving.unread in
    let rest = drop (from + reported) unread in
    let size = length-drop (from + reported) unread in
    let from_is = c.saturating_sub-from.ensures ∙ ap (λ n. c.args.start - n) c.fetched_or_read.ensures in
    none_left here (c.args.start + reported) rest c.args.fin c.send_full-reported.new.out _
    (omega (arith, size, c.send_full-reported.ensures.rest, c.saturating_sub-count.ensures, c.unread.ensures.value))
    (no_more (length rest) c.args.fin (omega (arith, size, c.if-reported-count.false, c.saturating_sub-count.ensures, c.unread.ensures.value)) c.if-fin.false)
    (c.send_full-reported.ensures.reported c.args.fin ∙ (λ j. c.args.out.now ++ reported_of here c.args.start (drop (from_is j) unread) c.args.fin))
