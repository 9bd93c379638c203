use Rattle.std.proofs.Common.{sym, subst}
use Rattle.node_serving.specs.Openings.{IsCounted}
use Rattle.server_node.specs.Places.{Forgets}
use Rattle.server_node.specs.Stages.{IsSoundStage}
use Rattle.server_node.specs.declared.stage.Stage.TheVariants as stage
use Rattle.server_node.proofs.ShownPlaces.{nothing_forgotten}
use Rattle.server_node.proofs.places.forget.Goals as goal

pub returns-in_default-clause-stage : goal.returns-in_default-clause-stage
returns-in_default-clause-stage g c = nothing_forgotten c.args.key c.args.stage.now c.in_default.not-Serving

pub returns-clause-stage : goal.returns-clause-stage
returns-clause-stage g c = subst (λ at. Forgets c.args.key at (stage.Serving c.forget_in.new.serving)) (sym c.in-Serving.is) c.forget_in.ensures.slots

pub returns-clause-sound : goal.returns-clause-sound
returns-clause-sound g c = λ who sound.
    let was = subst (IsSoundStage who) c.in-Serving.is sound in
    (c.forget_in.ensures.sound who was.0, subst (λ n. IsCounted who.isn n.0) (sym c.forget_in.ensures.slots.next) was.1)
