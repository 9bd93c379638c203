use Rattle.std.proofs.Common.{sym}
use Rattle.kept_log.proofs.Messages.{none_any}
use Rattle.kept_log.proofs.body.read_one.Goals as goal

pub returns-in-Err-clause-none : goal.returns-in-Err-clause-none
returns-in-Err-clause-none c = λ any. none_any c.args.bytes.now c.in-Err.field-0 any c.in_default.ensures.none (sym c.in-Err.ensures.value)
