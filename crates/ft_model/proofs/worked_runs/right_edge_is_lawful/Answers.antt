use Rattle.ft_model.proofs.worked_runs.right_edge_is_lawful.Goals as goal
use Rattle.ft_model.proofs.RightEdge.{edge_is_lawful, beyond_is_lawful}

pub returns-clause-at_it : goal.returns-clause-at_it
returns-clause-at_it c = edge_is_lawful

pub returns-clause-past_it : goal.returns-clause-past_it
returns-clause-past_it c = beyond_is_lawful
