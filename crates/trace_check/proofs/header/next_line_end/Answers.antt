use Rattle.trace_check.proofs.HeaderLines.{header_ends_with_text}
use Rattle.trace_check.proofs.header.next_line_end.Goals as goal

pub returns-then-header-text-clause-none : goal.returns-then-header-text-clause-none
returns-then-header-text-clause-none c = header_ends_with_text c.args.header.now.schedule c.args.text.now c.args.header.now.bytes c.if-header-text.true
