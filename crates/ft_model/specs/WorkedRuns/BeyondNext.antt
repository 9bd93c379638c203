-- A FIN is lost, and the ACK that the client sends next arrives. It begins past the next number, takes up no number, and gets no answer:
-- otherwise two ends that each miss a segment would answer each other forever.
use Rattle.std.specs.Prelude.{pos, true, None, List, [], ◌∷◌}
use Rattle.seq_arith.specs.Packet.{Segment}
use Rattle.seq_arith.specs.Message.Body.{SummaryMsg, OpenedMsg}
use Rattle.ft_model.specs.Network.{Packet}
use Rattle.ft_model.specs.Point.{Point}
use Rattle.ft_model.specs.Lawful.{Turn}
use Rattle.ft_model.specs.WorkedRuns.Common.{client_segment, to_client, numbers, on_message, on_segment, idle, opening_at, serving_at}
use Rattle.ft_model.specs.WorkedRuns.FirstPath.{begun_point, packet_4, packet_6}

abbrev pub syn : Segment
syn = client_segment 2 1000 0 65535 []

-- the FIN had the number 1001
abbrev pub bare : Segment
bare = client_segment 16 1002 5001 65535 []

-- its acknowledgement and its window are used
abbrev pub opened : Point
opened = record begun_point { syn_acked = true; edge = 65535; wl1 = pos 1; rest = 0 }

abbrev pub turn_1 : Turn
turn_1 = on_message 1 (SummaryMsg 0) [] (idle 1 5000)

abbrev pub turn_2 : Turn
turn_2 = on_segment syn (packet_4 ∷ []) (opening_at 1 5000)

abbrev pub turn_3 : Turn
turn_3 = on_message 1 (OpenedMsg numbers) (packet_6 ∷ []) (serving_at 1 5000 begun_point)

abbrev pub turn_4 : Turn
turn_4 = on_segment bare [] (serving_at 1 5000 opened)

-- the turns, newest first
abbrev pub turns : List Turn
turns = turn_4 ∷ turn_3 ∷ turn_2 ∷ turn_1 ∷ []

-- a wrong turn: the ACK is answered
abbrev pub answered : List Packet
answered = to_client 16 5001 1001 65535 None [] ∷ []
