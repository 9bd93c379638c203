use Rattle.std.proofs.Common.{subst}
use Rattle.std.specs.List.{flat_map}
use Rattle.std.proofs.lemmas.List.{take_all}
use Rattle.ft_model.specs.Node.{Stage}
use Rattle.ft_model.specs.ServingTurn.{opens_at}
use Rattle.plain_packets.specs.Sent.{Appends}
use Rattle.plain_packets.proofs.Sent.{appends_none, appends_both}
use Rattle.plain_world.specs.Values.{input_in, places_in, node_of}
use Rattle.plain_world.proofs.Openings.{sent_more}
use Rattle.plain_world.proofs.serving.ask_all.Goals as goal

pub loop-place-init : goal.loop-place-init
loop-place-init g c = λ (stage : Stage). appends_none c.args.sent.now

pub loop-place-preserved : goal.loop-place-preserved
loop-place-preserved g c =
    λ (stage : Stage).
    subst (Appends c.args.sent.now c.ask.new.sent)
    (sent_more (opens_at (node_of c.args.who stage) (input_in c.args.input.now)) c.args.places.now c.loop-place.place-index _ c.loop-place-test.true c.place-item.is)
    (appends_both (c.loop-place.invariant stage) (c.in_ok-ask.ensures stage))

pub returns : goal.returns
returns g c =
    λ (stage : Stage).
    subst (λ places. Appends c.args.sent.now c.loop-place.sent (flat_map (opens_at (node_of c.args.who stage) (input_in c.args.input.now)) (places_in places)))
    (take_all c.loop-place.place-index c.args.places.now c.loop-place-test.false) (c.loop-place.invariant stage)
