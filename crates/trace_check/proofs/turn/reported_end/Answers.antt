use Rattle.std.proofs.Common.{sym, ap, ◌∙◌}
use Rattle.std.specs.Prelude.{nat_eq}
use Rattle.std.specs.List.{starts_with}
use Rattle.std.proofs.lemmas.List.{take_rest}
use Rattle.trace_check.proofs.ReportedTurns.{other_is_due}
use Rattle.trace_check.proofs.turn.reported_end.Goals as goal

pub returns-then-not-starts_with : goal.returns-then-not-starts_with
returns-then-not-starts_with c =
    other_is_due c.args.text.now c.args.due.now c.args.schedule.now c.args.from c.args.n
    (ap (λ t. starts_with nat_eq t c.args.due.now) (sym (take_rest c.args.text.now c.args.from)) ∙ (sym c.starts_with.ensures.value ∙ c.if-not-starts_with.true))
