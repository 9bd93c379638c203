use Rattle.std.proofs.Common.{inl, inr, arith}
use Rattle.kept_log.proofs.Messages.{none_short}
use Rattle.kept_log.proofs.body.first_length.Goals as goal

pub returns-then-bytes-lt6-clause-none : goal.returns-then-bytes-lt6-clause-none
returns-then-bytes-lt6-clause-none c = λ messages says. none_short c.args.bytes.now messages (inl c.if-bytes-lt6.true) says

pub returns-else-n-bytes-clause-none : goal.returns-else-n-bytes-clause-none
returns-else-n-bytes-clause-none c = λ messages says. none_short c.args.bytes.now messages (inr (omega (arith, c.word_at.ensures, c.from-n.ensures))) says
