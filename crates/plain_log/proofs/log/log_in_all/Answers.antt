use Rattle.std.proofs.Common.{arith}
use Rattle.logger_wire.specs.Value.{body_of}
use Rattle.plain_log.specs.Parts.{logged_in}
use Rattle.plain_log.proofs.Mapped.{mapped_more}
use Rattle.plain_log.proofs.log.log_in_all.Goals as goal

pub loop-entry-preserved : goal.loop-entry-preserved
loop-entry-preserved c =
    mapped_more (logged_in (body_of c.args.body.now)) c.loop-entry.entry-index _ c.loop-entry.entries c.entry-item.result _ (omega arith) c.loop-entry.invariant c.in_ok-log_in.ensures
