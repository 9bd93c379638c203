-- Wrong marks in turns of the worked run: one whose output isn't acknowledged, and a second one while one is outstanding.
use Rattle.std.specs.Prelude.{false, pos, Option, List, [], ◌∷◌, ◌++◌}
use Rattle.seq_arith.specs.Mark.{Mark}
use Rattle.seq_arith.specs.Mark.MarkBody.{MarkMsg}
use Rattle.seq_arith.specs.Message.Body.{DataMsg, ReadsMsg}
use Rattle.ft_model.specs.Point.{Point}
use Rattle.ft_model.specs.Node.{Input}
use Rattle.ft_model.specs.Node.Input.{Packet_comes, Message_comes}
use Rattle.ft_model.specs.WorkedRuns.Common.{key, hello_text, client_segment, to_log, kept_with, part_with, congestion_with}
use Rattle.ft_model.specs.WorkedRuns.FirstPath as path
use Rattle.mark_laws.specs.Marking.{Outgoing}
use Rattle.mark_laws.specs.Marking.Outgoing.{Plain, Mark_to_logger}
use Rattle.mark_laws.specs.MarkedNode.{MarkedNode, LawfulMarkedTurn}
use Rattle.mark_laws.specs.MarkedNode.MarkedInput.{Plain_comes}
use Rattle.mark_laws.specs.WorkedTrace.{marker, mark, marks_none, acked_point, about}

-- a turn of the worked run's server on anything but a message about marks
abbrev pub IsTurn : MarkedNode → Input → List Outgoing → MarkedNode → Type 0
IsTurn before input sent after = LawfulMarkedTurn marker [] [] before (Plain_comes input) sent after

-- no lawful turn from this state, by this input, sends this
abbrev pub IsUnlawful : MarkedNode → Input → List Outgoing → Type 0
IsUnlawful before input sent = (after : MarkedNode) → IsTurn before input sent after → ⊥

abbrev pub marking : Mark → Outgoing
marking m = Mark_to_logger (about 1 (MarkMsg key m))

-- The read of the five bytes is known to be logged, and its output goes out. Its mark may not go out yet, since the client has acknowledged nothing
abbrev pub unmarked_node : MarkedNode
unmarked_node = marks_none (path.node_live path.logged_point)

abbrev pub read_is_logged : Input
read_is_logged = Message_comes (record { boot = 1; body = ReadsMsg (kept_with 5 false 1) })

abbrev pub unacknowledged : List Outgoing
unacknowledged = Plain path.packet_15 ∷ marking mark ∷ []

-- A second five bytes are read, logged and echoed while the first read's mark may be outstanding. Then the client acknowledges that echo too
abbrev pub echoed_twice : Point
echoed_twice = record acked_point { taken = hello_text ++ hello_text; answered = 10; lengths = 5 ∷ 5 ∷ []; reads_answered = 2; sent = 10; rest = 1 }

abbrev pub acked_twice : Point
acked_twice = record echoed_twice { una = 10; edge = 65545; wl1 = pos 10; wl2 = 10; congestion = congestion_with 2154 65535 0; rest = 0 }

abbrev pub node_with : Option Mark → MarkedNode
node_with outstanding =
    record { plain = path.node_live echoed_twice; awaits_mark = false; marking = λ k. record { last = 1; outstanding = outstanding } }

abbrev pub second_ack_comes : Input
second_ack_comes = Packet_comes (client_segment 16 1011 5011 65535 [])

abbrev pub second_mark : Mark
second_mark = record { reads = 2; length = 10; made = 10; state = [] }

abbrev pub acknowledging : List Outgoing
acknowledging = Plain (to_log 1 (DataMsg (part_with 10 10 false []))) ∷ []

abbrev pub marking_again : List Outgoing
marking_again = Plain (to_log 1 (DataMsg (part_with 10 10 false []))) ∷ marking second_mark ∷ []
