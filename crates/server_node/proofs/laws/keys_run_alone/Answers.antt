use Rattle.server_node.proofs.Runs.{runs_alone}
use Rattle.server_node.proofs.laws.keys_run_alone.Goals as goal

pub returns : goal.returns
returns g c = λ service node key first turns start turned st near. runs_alone service node key first turns start turned st near
