use Rattle.server_node.proofs.node.Node.forget.Goals as goal

pub invariant_of-self : goal.invariant_of-self
invariant_of-self g c = record { booted = c.args.self.now.booted; sound = c.forget.ensures.sound c.args.self.now.who c.args.self.now.sound }
