use Rattle.std.proofs.Common.{rules, ◌≤◌, length}
use Rattle.ft_model.specs.Node.{Stage}
use Rattle.ft_model.specs.Node.Stage.{Asking}
use Rattle.plain_world.specs.Values.{input_in, node_of}
use Rattle.plain_world.proofs.AllPlaces.{none_went, first_more, fewer_left, all_went}
use Rattle.plain_world.proofs.serving.go_all.Goals as goal

pub loop-at-init : goal.loop-at-init
loop-at-init g c = (λ (stage : Stage). none_went _ (node_of c.args.who stage) (input_in c.args.input.now) c.args.places.now.items c.args.sent.now, c.requires)

pub loop-at-preserved : goal.loop-at-preserved
loop-at-preserved g c = (
  λ (stage : Stage).
      first_more _ (node_of c.args.who stage) (input_in c.args.input.now) c.args.places.now.items c.loop-at.places.items c.go_at.new.places.items c.loop-at.at c.in_ok-at.at
      c.args.sent.now c.loop-at.sent c.go_at.new.sent (c.loop-at.invariant.0 stage) (c.in_ok-at.ensures.turn stage),
  c.in_ok-at.ensures.served,
)

pub loop-at-smaller : goal.loop-at-smaller
loop-at-smaller g c =
    fewer_left _ (node_of c.args.who Asking) (input_in c.args.input.now) c.loop-at.places.items c.go_at.new.places.items c.loop-at.at c.in_ok-at.at c.loop-at.sent c.go_at.new.sent
    (c.in_ok-at.ensures.turn Asking)

pub returns-clause-turn : goal.returns-clause-turn
returns-clause-turn g c =
    let past : length c.loop-at.places.items ≤ c.loop-at.at = search rules in
    λ (stage : Stage).
    all_went _ (node_of c.args.who stage) (input_in c.args.input.now) c.args.places.now.items c.loop-at.places.items c.loop-at.at c.args.sent.now c.loop-at.sent past
    (c.loop-at.invariant.0 stage)
