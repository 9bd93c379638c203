use Rattle.std.proofs.Common.{sym}
use Rattle.kept_log.proofs.Messages.{not_read}
use Rattle.kept_log.proofs.body.read_any.Goals as goal

pub returns-in-Err-clause-none : goal.returns-in-Err-clause-none
returns-in-Err-clause-none c = λ message. not_read c.args.bytes.now c.in_default.field-0 c.in-Err.field-0 message (sym c.in_default.ensures.value) (sym c.in-Err.ensures.value)
