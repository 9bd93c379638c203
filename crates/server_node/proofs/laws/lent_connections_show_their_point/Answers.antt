use Rattle.server_trait.specs.Service.{machine}
use Rattle.node_serving.proofs.LentConn.{reports_its_point}
use Rattle.server_node.proofs.laws.lent_connections_show_their_point.Goals as goal

pub returns : goal.returns
returns g c = λ fresh server boot p now sound stands. reports_its_point (machine fresh g.S.Service.after g.S.Service.greeting) server boot p now sound stands
