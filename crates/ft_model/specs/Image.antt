-- A trace as it appears on the wire: its events, and what was sent at each. The worlds alongside them are witnesses.
use Rattle.std.specs.Prelude.{List, map}
use Rattle.std.specs.List.{AllByRecursion}
use Rattle.seq_arith.specs.declared.kinds.Grammar.{Grammar}
use Rattle.ft_model.specs.Wire.{Wire, wire_by, HasWireBy}
use Rattle.ft_model.specs.World.{Moment}
use Rattle.ft_model.specs.declared.event.Event.{Event}

-- the events and wires of a trace, its newest moment first
abbrev pub wires_of : Grammar → List Moment → List (Event × List Wire)
wires_of grammar trace = map (λ moment. (moment.event, map (wire_by grammar) moment.sent)) trace

-- all that was sent in a moment has a wire
abbrev pub HasWires : Grammar → Moment → Type 0
HasWires grammar moment = AllByRecursion (HasWireBy grammar) moment.sent
