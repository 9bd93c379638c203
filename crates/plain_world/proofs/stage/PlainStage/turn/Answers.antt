use Rattle.ft_model.specs.Node.{Stage}
use Rattle.plain_world.specs.Values.{input_in, places_in, node_of}
use Rattle.plain_world.proofs.Places.{on_ok_both}
use Rattle.plain_world.proofs.AllPlaces.{serving_stage}
use Rattle.plain_world.proofs.stage.PlainStage.turn.Goals as goal

pub returns-in-Some-clause-turn : goal.returns-in-Some-clause-turn
returns-in-Some-clause-turn g c = λ (stage : Stage). rw c.in-Asking.is (rw c.in-Some.is at (c.in_ok-after-in-Asking.ensures.turn stage))

pub returns-in_default-clause-turn : goal.returns-in_default-clause-turn
returns-in_default-clause-turn g c = λ (stage : Stage). rw c.in-Asking.is (rw c.in_default.is at (c.in_ok-after-in-Asking.ensures.turn stage))

pub returns-in-Some-2-clause-turn : goal.returns-in-Some-2-clause-turn
returns-in-Some-2-clause-turn g c = λ (stage : Stage). rw c.in-Fetching.is (rw c.in-Some-2.is at (c.in_ok-serving-in-Fetching.ensures.turn stage))

pub returns-in_default-2-clause-turn : goal.returns-in_default-2-clause-turn
returns-in_default-2-clause-turn g c = λ (stage : Stage). rw c.in-Fetching.is (rw c.in_default-2.is at (c.in_ok-serving-in-Fetching.ensures.turn stage))

pub returns-in-Serving-clause-turn : goal.returns-in-Serving-clause-turn
returns-in-Serving-clause-turn g c =
    on_ok_both _ _ _ c.turn.result
    (λ turns opened (stage : Stage).
    rw c.in-Serving.is
    (serving_stage _ (node_of c.args.who stage) (input_in c.args.input.now) c.in-Serving.serving.opened c.turn.new.self.opened (places_in c.in-Serving.serving.places.items)
    (places_in c.turn.new.self.places.items) c.args.sent.now c.turn.new.sent (opened stage) (turns stage)))
    c.turn.ensures.turn c.turn.ensures.opened
