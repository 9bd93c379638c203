use Rattle.std.proofs.Common.{◌≡◌, ℕ, Option, List, inl, inr, arith}
use Rattle.std.proofs.lemmas.Result.{on_ok_weaker}
use Rattle.disk.specs.declared.calls.DeskCall.{DeskCall}
use Rattle.kept_log.specs.JournaledLog.{KeptState}
use Rattle.journal_parts.specs.Due.{IsDue}
use Rattle.journal_parts.specs.RoundParts.{HasCompacted}
use Rattle.journal_parts.proofs.Rounding.{never_replaced}
use Rattle.journal_parts.proofs.excluded.a_file_is_replaced_again_and_again.Goals as goal

-- a file that was due is measured by its length from then on
measured : (least last next : ℕ) (before after : KeptState) (old new : Option (List DeskCall)) → IsDue least last before.tip.end
    → HasCompacted least last next before after old new → next ≡ after.tip.end
measured least last next before after old new due (log, heeded, idle, inl (never, next_is, stays)) = absurd (never due)
measured least last next before after old new due (log, heeded, idle, inr (is_due, next_is, rest)) = next_is

pub returns-clause-short : goal.returns-clause-short
returns-clause-short g c =
    on_ok_weaker c.compact_if_due.result
    (λ is few. never_replaced c.args.compaction.now.least c.args.compaction.now.last c.compact_if_due.new.compaction.last c.args.kept.now c.compact_if_due.new.kept (g.K.Disk.reported c.args.desk.now)
    (g.K.Disk.reported c.compact_if_due.new.desk) (λ due. omega (arith, due.1, few)) is)
    c.compact_if_due.ensures.done

pub returns-clause-measured : goal.returns-clause-measured
returns-clause-measured g c =
    on_ok_weaker c.compact_if_due.result
    (λ is longer doubled. measured c.args.compaction.now.least c.args.compaction.now.last c.compact_if_due.new.compaction.last c.args.kept.now c.compact_if_due.new.kept (g.K.Disk.reported c.args.desk.now)
    (g.K.Disk.reported c.compact_if_due.new.desk) (longer, doubled) is)
    c.compact_if_due.ensures.done
