-- A client has filled the server's window, and its first segment is lost. What it sends next has the number of the right edge. The acknowledgement and the
-- window of such a segment are used, and it gets no answer. A RST there gets a challenge ACK.
use Rattle.std.specs.Prelude.{pos, None, List, [], ◌∷◌}
use Rattle.seq_arith.specs.Packet.{Segment}
use Rattle.ft_model.specs.Point.{Point}
use Rattle.ft_model.specs.Lawful.{Turn}
use Rattle.ft_model.specs.WorkedRuns.Common.{client_segment, to_client, on_segment, serving_at}
use Rattle.ft_model.specs.WorkedRuns.ZeroWindow.{opened, probe_1, probe_2, probe_3, probe_4}

-- nothing is taken, so the right edge is 65,535
abbrev pub bare : Segment
bare = client_segment 16 66536 5001 5 []

abbrev pub reset : Segment
reset = client_segment 4 66536 0 0 []

-- one number past it
abbrev pub beyond : Segment
beyond = client_segment 16 66537 5001 5 []

-- the connection when the segment's window is used
abbrev pub given : Point
given = record opened { edge = 5; wl1 = pos 65535 }

abbrev pub edge_5 : Turn
edge_5 = on_segment bare [] (serving_at 1 5000 given)

abbrev pub edge_6 : Turn
edge_6 = on_segment reset (to_client 16 5001 1001 65535 None [] ∷ []) (serving_at 1 5000 given)

-- the turns, newest first
abbrev pub edge_turns : List Turn
edge_turns = edge_6 ∷ edge_5 ∷ probe_4 ∷ probe_3 ∷ probe_2 ∷ probe_1 ∷ []

-- past the edge nothing is used: the connection stays as it is, and the client gets an ACK
abbrev pub beyond_5 : Turn
beyond_5 = on_segment beyond (to_client 16 5001 1001 65535 None [] ∷ []) (serving_at 1 5000 opened)

abbrev pub beyond_turns : List Turn
beyond_turns = beyond_5 ∷ probe_4 ∷ probe_3 ∷ probe_2 ∷ probe_1 ∷ []
