use Rattle.node_link.proofs.KeyGoing.{newcomer_opens}
use Rattle.node_link.proofs.laws.new_clients_are_served.Goals as goal

pub returns : goal.returns
returns g c = λ service node key clients segment after sent syn few turn. newcomer_opens service node key clients segment after sent syn few turn
