use Rattle.ft_model.proofs.AcceptedLemmas.{accepted}
use Rattle.ft_model.proofs.grammar.accepted_schedules_keep_the_limits.Goals as goal

pub returns : goal.returns
returns c = accepted
