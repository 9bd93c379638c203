use Rattle.server_node.proofs.Runs.{stands_in}
use Rattle.server_node.proofs.laws.standing_nodes_stand_for_each_key.Goals as goal

pub returns : goal.returns
returns g c = λ service node at key st. stands_in service node key at st
