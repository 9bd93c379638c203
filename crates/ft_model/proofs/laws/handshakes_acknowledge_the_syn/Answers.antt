use Rattle.ft_model.proofs.laws.handshakes_acknowledge_the_syn.Goals as goal
use Rattle.ft_model.proofs.Unsent.{first_counts}

pub returns : goal.returns
returns c = first_counts
