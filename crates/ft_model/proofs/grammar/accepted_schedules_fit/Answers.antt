use Rattle.ft_model.proofs.FitsLemmas.{text_fits}
use Rattle.ft_model.proofs.grammar.accepted_schedules_fit.Goals as goal

pub returns : goal.returns
returns c = text_fits
