use Rattle.server_node.proofs.node.Node.boot_in.Goals as goal

pub invariant_of-result : goal.invariant_of-result
invariant_of-result g c =
    record { booted = c.requires; sound = c.begun-stage.ensures.sound (record { boot = c.args.boot; isn = c.args.isn; kind = c.args.kind; local = c.args.local; profile = c.args.profile }) }
