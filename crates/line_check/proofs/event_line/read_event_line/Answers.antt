use Rattle.std.proofs.Common.{sym, ◌∙◌, arith}
use Rattle.line_check.proofs.EventLines.{no_event_line, event_line_given}
use Rattle.line_check.proofs.event_line.read_event_line.Goals as goal

pub returns-in_default-clause-event : goal.returns-in_default-clause-event
returns-in_default-clause-event c = λ schedule begins. no_event_line schedule c.args.n c.args.line.now (omega (arith, c.ranges.n.fits)) (sym c.in_default.is ∙ c.event_in_text.ensures)

pub returns-then-size-le-TEXT_LIMIT-clause-event : goal.returns-then-size-le-TEXT_LIMIT-clause-event
returns-then-size-le-TEXT_LIMIT-clause-event c = λ schedule begins.
    (event_line_given schedule c.args.n c.args.size c.size_with-size.result c.in-Some.event c.args.line.now (sym c.in-Some.is ∙ c.event_in_text.ensures) c.size_with-size.ensures
    (omega (arith, c.if-size-le-TEXT_LIMIT.true)) begins).0

pub returns-then-size-le-TEXT_LIMIT-clause-size : goal.returns-then-size-le-TEXT_LIMIT-clause-size
returns-then-size-le-TEXT_LIMIT-clause-size c = λ schedule begins.
    (event_line_given schedule c.args.n c.args.size c.size_with-size.result c.in-Some.event c.args.line.now (sym c.in-Some.is ∙ c.event_in_text.ensures) c.size_with-size.ensures
    (omega (arith, c.if-size-le-TEXT_LIMIT.true)) begins).1
