use Rattle.ft_model.specs.Schedule.{kind_of}
use Rattle.mark_laws.specs.MarkedLegal.{marked_start}
use Rattle.mark_laws.proofs.marked_schedules_are_masked.Goals as goal

pub returns : goal.returns
returns g c = λ every schedule events trace legal. c.marked_traces_are_masked.ensures (kind_of schedule.service) every (marked_start schedule) trace legal.joint
