use Rattle.std.proofs.Common.{◌+◌, ◌∙◌, ◌++◌, ◌∷◌, [], ap, false, take, drop, arith, length-drop}
use Rattle.wrapped_conn.specs.ConnState.{ConnState}
use Rattle.wrapped_conn.specs.LoggerMessages.{spelled}
use Rattle.wrapped_conn.proofs.Datas.{a_data, piece_reported}
use Rattle.wrapped_conn.proofs.conn.Conn.send_full.Goals as goal

pub loop-reported-preserved : goal.loop-reported-preserved
loop-reported-preserved g c =
    let inv = c.loop-reported.invariant in
    let here = c.args.self.now in
    let unread = here.endpoint.receiving.unread in
    let batched = ap (λ (x : ConnState _). x.batches) c.self.view_is in
    let said = c.send_piece.ensures.reported ∙ (λ j. c.loop-reported.out ++ spelled here.batches here.boot
    (a_data here (c.args.start + c.loop-reported.reported) (take 1460 (drop (c.args.from + c.loop-reported.reported) unread)) false (batched j) ∷ [])) in
    record {
      within = omega (arith, c.loop-reported-test.true);
      count = omega (arith, c.send_piece.ensures.few, inv.count);
      short = omega (arith, c.send_piece.ensures.few, c.send_piece.ensures.short, inv.short);
      reported = λ fin. piece_reported c.args.self.now c.args.start c.args.from c.loop-reported.reported unread fin c.loop-reported.out c.send_piece.new.out _
          (omega (arith, c.loop-reported-test.true, c.requires.count, length-drop (c.args.from + c.loop-reported.reported) unread)) said (inv.reported fin);
    }
