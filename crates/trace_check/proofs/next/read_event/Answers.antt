use Rattle.std.proofs.Common.{◌∷◌, drop, sym, ap, ◌∙◌}
use Rattle.ft_model.specs.Legal.{machines}
use Rattle.report_laws.specs.Lines.{lines_in}
use Rattle.trace_check.proofs.AfterLines.{closing_begins, event_is_read, no_event_is_rejected}
use Rattle.trace_check.proofs.next.read_event.Goals as goal

pub returns-then-not-begins_event-clause-read : goal.returns-then-not-begins_event-clause-read
returns-then-not-begins_event-clause-read g c =
    closing_begins (machines g.S.Service.started g.S.Service.after g.S.Service.greeting) c.args.text.now c.between-line.result.now c.args.at c.line_end-end.result c.args.lines c.args.events c.args.size
    (c.line_end-end.ensures.line ∙ ap (λ l. l ∷ lines_in (drop c.line_end-end.result c.args.text.now)) (sym c.between-line.ensures))
    (sym c.is_late_packet.ensures ∙ c.if-is_late_packet.false) (sym c.begins_event.ensures ∙ c.if-not-begins_event.true)

pub returns-in-Some-clause-read : goal.returns-in-Some-clause-read
returns-in-Some-clause-read g c =
    event_is_read (machines g.S.Service.started g.S.Service.after g.S.Service.greeting) c.args.text.now c.between-line.result.now c.args.at c.line_end-end.result c.args.lines c.args.events c.args.size c.in-Some.size c.in-Some.event
    c.between-line.ensures (c.line_end-end.ensures.line ∙ ap (λ l. l ∷ lines_in (drop c.line_end-end.result c.args.text.now)) (sym c.between-line.ensures))
    (sym c.is_late_packet.ensures ∙ c.if-is_late_packet.false) (sym c.begins_event.ensures ∙ c.if-not-begins_event.false) c.in-Some.ensures.event c.in-Some.ensures.size

pub returns-in-None-clause-rejected : goal.returns-in-None-clause-rejected
returns-in-None-clause-rejected g c =
    no_event_is_rejected (machines g.S.Service.started g.S.Service.after g.S.Service.greeting) c.args.text.now c.between-line.result.now c.args.at c.line_end-end.result c.args.lines c.args.events c.args.size
    (c.line_end-end.ensures.line ∙ ap (λ l. l ∷ lines_in (drop c.line_end-end.result c.args.text.now)) (sym c.between-line.ensures))
    (sym c.is_late_packet.ensures ∙ c.if-is_late_packet.false) (sym c.begins_event.ensures ∙ c.if-not-begins_event.false) c.in-None.ensures.event
