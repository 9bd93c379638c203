use Rattle.std.proofs.Common.{◌∙◌, ap}
use Rattle.ft_io.proofs.Outcomes.{if_ok}
use Rattle.seq_arith.specs.PacketGrammar.{reading}
use Rattle.wrapped_conn.specs.LoggerMessages.{spelled}
use Rattle.wrapped_conn.proofs.Batches.{one_copied}
use Rattle.wrapped_conn.proofs.excluded.says_so_in_the_only_one.Goals as goal

pub returns : goal.returns
returns g c = if_ok (reading c.args.packet.now)
    (λ segment reported only own none. reported ∙ ap (spelled c.args.conn.now.batches c.args.conn.now.boot) (one_copied c.args.before segment c.args.conn.now only own none))
    c.send_copy.ensures.reported
