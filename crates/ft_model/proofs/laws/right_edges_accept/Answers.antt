use Rattle.ft_model.proofs.laws.right_edges_accept.Goals as goal
use Rattle.ft_model.proofs.ShutWindow.{edge_accepts}

pub returns : goal.returns
returns c = edge_accepts
