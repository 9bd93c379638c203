use Rattle.std.proofs.Common.{◌+◌, drop, arith}
use Rattle.ft_model.specs.Reads.{read_messages}
use Rattle.plain_connection.proofs.Copies.{next_message}
use Rattle.plain_connection.proofs.Reporting.{one_reported}
use Rattle.plain_connection.proofs.logging.send_reads.Goals as goal

pub loop-index-preserved : goal.loop-index-preserved
loop-index-preserved c =
    one_reported c.args.boot c.args.sent.now c.loop-index.sent c.send_read.new.sent _ _ (read_messages c.args.key (c.loop-index.index + 1) (drop (c.loop-index.index + 1) c.args.lengths.now)) _
    c.loop-index.invariant (next_message c.args.key c.loop-index.index c.args.lengths.now (omega arith)) c.in_ok-send_read.ensures
