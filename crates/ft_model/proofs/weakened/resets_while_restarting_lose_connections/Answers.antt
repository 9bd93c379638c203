use Rattle.ft_model.proofs.weakened.resets_while_restarting_lose_connections.Goals as goal
use Rattle.ft_model.proofs.ResetWhileRestarting as reset

pub returns : goal.returns
returns c = record { wrong_once = reset.wrong_once; logged = reset.logged; reset = reset.reset }
