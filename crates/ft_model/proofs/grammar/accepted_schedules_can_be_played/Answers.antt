use Rattle.ft_model.proofs.PlayableLemmas.{playable}
use Rattle.ft_model.proofs.grammar.accepted_schedules_can_be_played.Goals as goal

pub returns : goal.returns
returns c = playable
