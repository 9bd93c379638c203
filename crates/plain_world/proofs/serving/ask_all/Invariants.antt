use Rattle.std.proofs.Common.{take}
use Rattle.std.specs.List.{flat_map}
use Rattle.ft_model.specs.Node.{Stage}
use Rattle.ft_model.specs.ServingTurn.{opens_at}
use Rattle.plain_packets.specs.Sent.{Appends}
use Rattle.plain_world.specs.Values.{input_in, places_in, node_of}
use Rattle.plain_world.proofs.serving.ask_all.Given as goal

abbrev pub invariant-loop-place : goal.invariant-loop-place
invariant-loop-place g l = (stage : Stage) → Appends l.initial.sent l.sent (flat_map (opens_at (node_of l.who stage) (input_in l.input)) (places_in (take l.place-index l.places)))
