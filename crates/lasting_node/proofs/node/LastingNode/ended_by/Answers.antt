use Rattle.std.proofs.Common.{None, Some, sym, ap, subst}
use Rattle.std.specs.Option.{option_copied}
use Rattle.logger_wire.specs.Value.{body_of}
use Rattle.lasting_lives.specs.Known.{EndsBy}
use Rattle.node_serving.specs.Identity.{node_of, service_of}
use Rattle.node_serving.specs.Loan.{IsConnAt, place_in}
use Rattle.server_node.specs.Stages.{StageStands}
use Rattle.lasting_node.proofs.Reading.{no_end, none_ends, one_ends}
use Rattle.lasting_node.proofs.node.LastingNode.ended_by.Goals as goal

pub returns-in_default : goal.returns-in_default
returns-in_default g c = λ n st. no_end n.node.stage c.args.m.now.body c.in_default.not-Ended

pub returns-in_err-conn : goal.returns-in_err-conn
returns-in_err-conn g c = λ n st.
    let who = c.args.self.now.node.who in
    let service = service_of g.S.Service who in
    let at = c.conn.ensures.stands n.node.stage (subst (λ x. StageStands service x c.args.self.now.node.stage) st.who st.stage) in
    subst (λ o. EndsBy n.node.stage (body_of c.args.m.now.body) o) (sym c.from_residual.ensures)
    (subst (λ b. EndsBy n.node.stage b None) (sym (ap body_of c.in-Ended.is))
    (none_ends service (node_of who n.node.stage) n.node.stage c.in-Ended.key
    (subst (λ o. IsConnAt service (node_of who n.node.stage) (option_copied o) (place_in c.in-Ended.key n.node.stage)) c.in_err-conn.was at)))

pub returns : goal.returns
returns g c = λ n st.
    let who = c.args.self.now.node.who in
    let service = service_of g.S.Service who in
    let at = c.conn.ensures.stands n.node.stage (subst (λ x. StageStands service x c.args.self.now.node.stage) st.who st.stage) in
    subst (λ b. EndsBy n.node.stage b (Some c.resting.result)) (sym (ap body_of c.in-Ended.is))
    (one_ends service (node_of who n.node.stage) n.node.stage c.in-Ended.key c.in_ok-conn.conn.now c.resting.result
    (subst (λ o. IsConnAt service (node_of who n.node.stage) (option_copied o) (place_in c.in-Ended.key n.node.stage)) c.in_ok-conn.was at)
    (λ p its ours. c.resting.ensures p (c.outside_of.ensures.shows service who.local who.boot p its ours)))
