use Rattle.std.proofs.Common.{◌≡◌, sym, subst}
use Rattle.std.specs.Prelude.{IfOk}
use Rattle.segment_codec.specs.Value.{segment_of}
use Rattle.wrapped_conn.specs.LoggerMessages.{further_start}
use Rattle.wrapped_conn.proofs.Copied.{start_from}
use Rattle.wrapped_conn.proofs.conn.Conn.further_start.Goals as goal

pub returns : goal.returns
returns g c =
    subst (λ r. IfOk r (λ segment. c.max-2.result ≡ further_start c.args.before segment c.args.self.now)) (sym c.read_accepted.ensures.read)
    (start_from c.args.before (segment_of c.read_accepted.result) c.args.self.now c.logged.result c.taken.result c.text_end.result c.min-own_end.result c.max.result c.max-2.result
    c.text_end.ensures c.taken.ensures.value c.taken.ensures.most c.min-own_end.ensures c.logged.ensures c.max.ensures c.max-2.ensures)
