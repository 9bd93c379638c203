use Rattle.server_node.specs.Inputs.{input_of}
use Rattle.node_serving.specs.Identity.{grammar_in}
use Rattle.lasting_node.proofs.Going.{went}
use Rattle.lasting_node.proofs.node.LastingNode.go.Goals as goal

pub returns-clause-turn : goal.returns-clause-turn
returns-clause-turn g c = λ n near sound st.
    went n (input_of (grammar_in c.args.self.now.node.who) c.args.input) c.args.self.now _ c.in_ok-advance.ensures.turn c.in_ok-advance.ensures.same
    c.apart.ensures c.apart-2.ensures near sound st
