use Rattle.std.proofs.Common.{arith}
use Rattle.std.proofs.lemmas.Result.{on_ok_weaker}
use Rattle.journal_parts.proofs.Rounding.{never_replaced}
use Rattle.journal_parts.proofs.excluded.a_short_file_is_replaced.Goals as goal

pub returns : goal.returns
returns g c =
    on_ok_weaker c.compact_if_due.result
    (never_replaced c.args.compaction.now.least c.args.compaction.now.last c.compact_if_due.new.compaction.last c.args.kept.now c.compact_if_due.new.kept (g.K.Disk.reported c.args.desk.now)
    (g.K.Disk.reported c.compact_if_due.new.desk) (λ due. omega (arith, due.0, c.requires.short)))
    c.compact_if_due.ensures.done
