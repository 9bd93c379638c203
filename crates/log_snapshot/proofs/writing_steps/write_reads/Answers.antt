use Rattle.std.proofs.Common.{ap, Some, None, arith}
use Rattle.long_laws.specs.Snapshot.{said}
use Rattle.log_snapshot.specs.Steps.{read_at}
use Rattle.log_snapshot.proofs.Rests.{no_reads, reads}
use Rattle.log_snapshot.proofs.writing_steps.write_reads.Goals as goal

pub returns-then-index-head-clause-says : goal.returns-then-index-head-clause-says
returns-then-index-head-clause-says c = (None, c.requires.empty, λ rest is. no_reads c.args.boot c.args.index c.args.entry.now rest (omega (arith, ap (λ h. h.reads) c.head.ensures.value, c.if-index-head.true)) is)

pub returns-clause-says : goal.returns-clause-says
returns-clause-says c = (
  Some (said c.args.boot (read_at c.args.entry.now c.args.index)),
  c.write_read.ensures,
  λ rest is. reads c.args.boot c.args.index c.args.entry.now rest (omega (arith, ap (λ h. h.reads) c.head.ensures.value, c.if-index-head.false)) is,
)
