use Rattle.ft_model.proofs.PlayableLemmas.{starts}
use Rattle.ft_model.proofs.grammar.playable_schedules_start.Goals as goal

pub returns : goal.returns
returns c = starts
