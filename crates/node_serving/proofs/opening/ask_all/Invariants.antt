use Rattle.std.proofs.Common.{take}
use Rattle.ft_model.specs.Node.{Stage}
use Rattle.ft_model.specs.Node.Input.{Tick_comes}
use Rattle.node_serving.specs.Identity.{node_of, grammar_in}
use Rattle.node_serving.specs.Openings.{ArePut, all_opens}
use Rattle.node_serving.proofs.opening.ask_all.Given as goal

abbrev pub invariant-loop-i : goal.invariant-loop-i
invariant-loop-i g l = (stage : Stage) → ArePut (grammar_in l.who) (all_opens (node_of l.who stage) Tick_comes (take l.i l.slots.entries)) l.initial.turn.sent.items l.turn.sent.items
