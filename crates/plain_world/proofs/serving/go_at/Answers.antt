use Rattle.std.proofs.Common.{rules, ◌<◌, length}
use Rattle.ft_model.specs.Node.{Stage}
use Rattle.plain_world.specs.Values.{input_in, node_of}
use Rattle.plain_world.proofs.AllPlaces.{one_stays, one_leaves}
use Rattle.plain_world.proofs.serving.go_at.Goals as goal

pub returns-then-branch-clause-turn : goal.returns-then-branch-clause-turn
returns-then-branch-clause-turn g c =
    let there : c.args.at < length c.args.places.now.items = search rules in
    λ (stage : Stage).
    one_stays _ (node_of c.args.who stage) (input_in c.args.input.now) c.args.places.now.items c.args.at c.index_mut.result.now c.turn.new.self c.in_ok-turn.field-0
    c.args.sent.now c.turn.new.sent there c.index_mut.ensures.value c.if-branch.true (c.in_ok-turn.ensures.turn stage)

pub returns-clause-turn : goal.returns-clause-turn
returns-clause-turn g c =
    let there : c.args.at < length c.args.places.now.items = search rules in
    λ (stage : Stage).
    one_leaves _ (node_of c.args.who stage) (input_in c.args.input.now) c.args.places.now.items c.remove.new.self.items c.args.at c.index_mut.result.now c.turn.new.self
    c.in_ok-turn.field-0 c.args.sent.now c.turn.new.sent there c.index_mut.ensures.value c.if-branch.false c.remove.ensures.items (c.in_ok-turn.ensures.turn stage)
