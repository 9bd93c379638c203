use Rattle.std.proofs.Common.{codes, sym, ap, ◌∙◌}
use Rattle.std.proofs.lemmas.List.{take_rest}
use Rattle.report_laws.specs.Transitions.{begins_with}
use Rattle.trace_check.proofs.ReportedTurns.{no_packet_begins}
use Rattle.trace_check.proofs.turn.another_follows.Goals as goal

pub returns-then-not-starts_with-clause-no : goal.returns-then-not-starts_with-clause-no
returns-then-not-starts_with-clause-no c = λ _.
    no_packet_begins c.args.schedule.now c.args.n c.args.text.now c.args.at
    (ap (begins_with (codes "packet ")) (sym (take_rest c.args.text.now c.args.at)) ∙ (sym c.starts_with.ensures.value ∙ c.if-not-starts_with.true))
