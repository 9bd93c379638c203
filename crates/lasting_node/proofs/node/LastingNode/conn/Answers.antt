use Rattle.std.proofs.Common.{sym, subst}
use Rattle.std.specs.Option.{option_copied}
use Rattle.server_node.specs.Stages.{StageStands}
use Rattle.node_serving.specs.Identity.{service_of}
use Rattle.node_serving.specs.Loan.{IsConnAt, place_in}
use Rattle.lasting_node.proofs.node.LastingNode.conn.Goals as goal

pub returns-clause-stands : goal.returns-clause-stands
returns-clause-stands g c = λ n st.
    let service = service_of g.S.Service c.args.self.now.node.who in
    subst (λ x. IsConnAt service x (option_copied c.conn.result) (place_in c.args.key n.node.stage)) (sym st.who)
    (c.conn.ensures.stands n.node.stage (subst (λ x. StageStands service x c.args.self.now.node.stage) st.who st.stage))
