use Rattle.std.proofs.Common.{◌≡◌}
use Rattle.ft_model.specs.Schedule.{letters}
use Rattle.ft_model.proofs.schedule.letters.Given as goal

abbrev pub invariant-loop-i : goal.invariant-loop-i
invariant-loop-i l = l.text.items ≡ letters l.i
