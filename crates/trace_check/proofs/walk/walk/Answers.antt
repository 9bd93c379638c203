use Rattle.std.proofs.Common.{sym, subst, ◌∙◌}
use Rattle.ft_io.proofs.Outcomes.{of_error}
use Rattle.ft_model.specs.Legal.{machines}
use Rattle.report_laws.specs.TurnLines.{schedule_through}
use Rattle.trace_check.specs.Leads.{IsRejection}
use Rattle.trace_check.proofs.walk.walk.Goals as goal

pub returns-in_err-read-clause-rejected : goal.returns-in_err-read-clause-rejected
returns-in_err-read-clause-rejected g c =
    let walked = c.loop-due.invariant.walked in
    of_error c.from_residual.result c.from_residual.ensures.1
    (λ end is. subst (IsRejection (machines g.S.Service.started g.S.Service.after g.S.Service.greeting) c.args.text.now) (sym is)
    (c.in_err-read.ensures.rejected (schedule_through c.args.schedule.now walked.0) walked.0 (sym walked.1.stands.turns ∙ sym c.turns.ensures) walked.1.size_is walked.1.after))

pub take_event-requires-clause-walked : goal.take_event-requires-clause-walked
take_event-requires-clause-walked g c =
    let walked = c.loop-due.invariant.walked in
    (walked.0, walked.1, rw c.in-Some.is at (c.in_ok-read.ensures.read (schedule_through c.args.schedule.now walked.0) walked.0 (sym walked.1.stands.turns ∙ sym c.turns.ensures) walked.1.size_is walked.1.after))

pub returns-clause-walked : goal.returns-clause-walked
returns-clause-walked g c =
    let walked = c.loop-due.invariant.walked in
    (walked.0, walked.1, rw c.in_default.is at (c.in_ok-read.ensures.read (schedule_through c.args.schedule.now walked.0) walked.0 (sym walked.1.stands.turns ∙ sym c.turns.ensures) walked.1.size_is walked.1.after))
