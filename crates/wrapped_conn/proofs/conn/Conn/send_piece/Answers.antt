use Rattle.std.proofs.Common.{◌++◌, ◌∷◌, [], ap, ◌∙◌, arith}
use Rattle.seq_arith.specs.Message.Body.{DataMsg}
use Rattle.wrapped_conn.specs.ConnState.{ConnState}
use Rattle.wrapped_conn.specs.LoggerMessages.{spelled}
use Rattle.wrapped_conn.proofs.Datas.{peeked}
use Rattle.wrapped_conn.proofs.conn.Conn.send_piece.Goals as goal

pub returns-clause-reported : goal.returns-clause-reported
returns-clause-reported g c =
    let here = c.args.self.now in
    let seen = ap (λ (x : ConnState _). x.endpoint.receiving.unread) c.self.view_is in
    let bytes = peeked here.endpoint.receiving.unread _ _ c.peek-count.new.out c.args.from c.peek-count.result _ seen (omega arith) c.peek-count.ensures.count c.peek-count.ensures.bytes in
    c.send_data.ensures.reported
    ∙ (λ j. c.args.out.now ++ spelled here.batches here.boot (DataMsg (record { key = here.key; offset = c.args.offset; acked = c.una.ensures.value j; fin = c.args.fin; more = c.args.more; bytes = bytes j }) ∷ []))
