use Rattle.ft_model.proofs.worked_runs.closing_is_lawful.Goals as goal
use Rattle.ft_model.proofs.Closing.{first_is_lawful, second_is_lawful}

pub returns : goal.returns
returns c = record { before = first_is_lawful; after = second_is_lawful }
