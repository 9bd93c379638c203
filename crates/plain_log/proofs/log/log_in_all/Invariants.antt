use Rattle.logger_wire.specs.Value.{body_of}
use Rattle.plain_log.specs.Parts.{logged_in}
use Rattle.plain_log.proofs.Mapped.{IsMapped}
use Rattle.plain_log.proofs.log.log_in_all.Given as goal

abbrev pub invariant-loop-entry : goal.invariant-loop-entry
invariant-loop-entry l = IsMapped (logged_in (body_of l.fn.body)) l.entry-index l.initial.entries l.entries
