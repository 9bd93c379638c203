use Rattle.std.proofs.Common.{ap, Some, None, arith}
use Rattle.seq_arith.specs.Message.Body.{DataMsg}
use Rattle.long_laws.specs.Snapshot.{said}
use Rattle.log_snapshot.specs.Steps.{part_at}
use Rattle.log_snapshot.proofs.Rests.{no_bytes, bytes}
use Rattle.log_snapshot.proofs.writing_steps.write_bytes.Goals as goal

pub returns-then-offset-head-clause-says : goal.returns-then-offset-head-clause-says
returns-then-offset-head-clause-says c = (None, c.requires.empty, λ rest is. no_bytes c.args.boot c.args.offset c.args.entry.now rest (omega (arith, ap (λ h. h.length) c.head.ensures.value, c.if-offset-head.true)) is)

pub returns-clause-says : goal.returns-clause-says
returns-clause-says c = (
  Some (said c.args.boot (DataMsg (part_at c.args.entry.now c.args.offset))),
  c.write_part-count.ensures.says,
  λ rest is. bytes c.args.boot c.args.offset c.write_part-count.result c.args.entry.now rest c.write_part-count.ensures.count is,
)
