-- A client without room: the server probes with one byte, at intervals that double, and sends the rest when there is room.
use Rattle.std.specs.Prelude.{ℕ, pos, true, false, Some, None, List, [], ◌∷◌}
use Rattle.tcp_rules.specs.declared.timestamping.Timestamping.TheVariants.{Off}
use Rattle.tcp_rules.specs.Profile.{plain}
use Rattle.seq_arith.specs.Packet.{Segment}
use Rattle.seq_arith.specs.Message.Body.{SummaryMsg, OpenMsg, OpenedMsg, DataMsg, StableMsg, ReadMsg, ReadsMsg}
use Rattle.ft_model.specs.Network.{Packet}
use Rattle.ft_model.specs.Point.{Point}
use Rattle.ft_model.specs.Opening.{point_opened}
use Rattle.ft_model.specs.Lawful.{Turn}
use Rattle.ft_model.specs.WorkedRuns.Common.{key, hello_text, client_segment, to_client, to_log, numbers, kept_with, part_with, on_message}
use Rattle.ft_model.specs.WorkedRuns.Common.{on_segment, on_tick, serving_at, idle, opening_at, congestion_with}

-- the client's segments, with window 0 until the last
abbrev pub syn : Segment
syn = client_segment 2 1000 0 0 []

abbrev pub first_ack : Segment
first_ack = client_segment 16 1001 5001 0 []

abbrev pub text : Segment
text = client_segment 16 1001 5001 0 hello_text

abbrev pub room : Segment
room = client_segment 16 1006 5001 5 []

-- the connection when it begins, is open, has the text, learns that it is logged, has output waiting, has probed, and has room
abbrev pub begun : Point
begun = record (point_opened plain Off numbers) { rest = 1 }

abbrev pub opened : Point
opened = record begun { syn_acked = true; rest = 0 }

abbrev pub taken : Point
taken = record opened { taken = hello_text; lengths = 5 ∷ [] }

abbrev pub logged : Point
logged = record taken { answered = 5 }

abbrev pub waiting : Point
waiting = record logged { reads_answered = 1; rest = 1 }

abbrev pub probed : (interval rest : ℕ) → Point
probed = λ interval rest. record waiting { sent = 1; interval = interval; rest = rest }

abbrev pub given : (interval rest : ℕ) → Point
given = λ interval rest. record waiting { sent = 5; edge = 5; wl1 = pos 5; interval = interval; rest = rest }

-- the timer has expired: one segment may be in flight
abbrev pub lost : Point
lost = record (given 8 8) { congestion = congestion_with 536 65535 0 }

abbrev pub probe_1 : Turn
probe_1 = on_message 1 (SummaryMsg 0) [] (idle 1 5000)

abbrev pub probe_2 : Turn
probe_2 = on_segment syn (to_log 1 (OpenMsg numbers) ∷ []) (opening_at 1 5000)

abbrev pub probe_3 : Turn
probe_3 = on_message 1 (OpenedMsg numbers) (to_client 18 5000 1001 65535 (Some 1460) [] ∷ []) (serving_at 1 5000 begun)

abbrev pub probe_4 : Turn
probe_4 = on_segment first_ack [] (serving_at 1 5000 opened)

abbrev pub probe_5 : Turn
probe_5 = on_segment text (to_client 16 5001 1001 65535 None [] ∷ to_log 1 (DataMsg (part_with 0 0 false hello_text)) ∷ to_log 1 (ReadMsg key 0 5) ∷ [])
    (serving_at 1 5000 taken)

abbrev pub probe_6 : Turn
probe_6 = on_message 1 (StableMsg (kept_with 5 false 0)) (to_client 16 5001 1006 65535 None [] ∷ []) (serving_at 1 5000 logged)

-- the output is released, but the client has no room for it
abbrev pub probe_7 : Turn
probe_7 = on_message 1 (ReadsMsg (kept_with 5 false 1)) [] (serving_at 1 5000 waiting)

-- a probe: one byte past the edge
abbrev pub probe_8 : Turn
probe_8 = on_tick (to_client 16 5001 1006 65535 None (104 ∷ []) ∷ []) (serving_at 1 5000 (probed 2 2))

abbrev pub probe_9 : Turn
probe_9 = on_tick [] (serving_at 1 5000 (probed 2 1))

-- the same byte again
abbrev pub probe_10 : Turn
probe_10 = on_tick (to_client 16 5001 1006 65535 None (104 ∷ []) ∷ []) (serving_at 1 5000 (probed 4 4))

-- there is room, and the rest is sent
abbrev pub probe_11 : Turn
probe_11 = on_segment room (to_client 16 5002 1006 65535 None (101 ∷ 108 ∷ 108 ∷ 111 ∷ []) ∷ []) (serving_at 1 5000 (given 4 4))

abbrev pub probe_12 : Turn
probe_12 = on_tick [] (serving_at 1 5000 (given 4 3))

abbrev pub probe_13 : Turn
probe_13 = on_tick [] (serving_at 1 5000 (given 4 2))

abbrev pub probe_14 : Turn
probe_14 = on_tick [] (serving_at 1 5000 (given 4 1))

-- all that is unacknowledged is retransmitted
abbrev pub probe_15 : Turn
probe_15 = on_tick (to_client 16 5001 1006 65535 None hello_text ∷ []) (serving_at 1 5000 lost)

-- the turns, newest first
abbrev pub probe_turns : List Turn
probe_turns = probe_15 ∷ probe_14 ∷ probe_13 ∷ probe_12 ∷ probe_11 ∷ probe_10 ∷ probe_9 ∷ probe_8 ∷ probe_7 ∷ probe_6 ∷ probe_5 ∷ probe_4 ∷ probe_3
    ∷ probe_2 ∷ probe_1 ∷ []

-- The client ends its stream while it has no room: the server's own FIN, with no byte waiting before it, is the probe
abbrev pub fin : Segment
fin = client_segment 17 1001 5001 0 []

abbrev pub last_ack : Segment
last_ack = client_segment 16 1002 5002 0 []

-- the connection when it has taken the FIN, learns that it is logged, has a FIN of its own waiting, has probed, and is over
abbrev pub fin_taken : Point
fin_taken = record opened { fin = true; lengths = 0 ∷ [] }

abbrev pub fin_logged : Point
fin_logged = record fin_taken { answered = 1 }

abbrev pub fin_waiting : Point
fin_waiting = record fin_logged { reads_answered = 1; rest = 1 }

abbrev pub fin_probed : (interval rest : ℕ) → Point
fin_probed = λ interval rest. record fin_waiting { sent = 1; interval = interval; rest = rest }

abbrev pub over : Point
over = record (fin_probed 1 0) { una = 1; edge = 1; wl1 = pos 1; wl2 = 1; congestion = congestion_with 2145 65535 0 }

abbrev pub fin_5 : Turn
fin_5 = on_segment fin (to_client 16 5001 1001 65535 None [] ∷ to_log 1 (DataMsg (part_with 0 0 true [])) ∷ to_log 1 (ReadMsg key 0 0) ∷ [])
    (serving_at 1 5000 fin_taken)

abbrev pub fin_6 : Turn
fin_6 = on_message 1 (StableMsg (kept_with 0 true 0)) (to_client 16 5001 1002 65535 None [] ∷ []) (serving_at 1 5000 fin_logged)

-- the FIN may be sent, but the client has no room for it
abbrev pub fin_7 : Turn
fin_7 = on_message 1 (ReadsMsg (kept_with 0 true 1)) [] (serving_at 1 5000 fin_waiting)

-- a probe: the FIN, one unit past the edge
abbrev pub fin_8 : Turn
fin_8 = on_tick (to_client 17 5001 1002 65535 None [] ∷ []) (serving_at 1 5000 (fin_probed 2 2))

abbrev pub fin_9 : Turn
fin_9 = on_tick [] (serving_at 1 5000 (fin_probed 2 1))

-- the same FIN again
abbrev pub fin_10 : Turn
fin_10 = on_tick (to_client 17 5001 1002 65535 None [] ∷ []) (serving_at 1 5000 (fin_probed 4 4))

-- the client acknowledges it, and a Data reports that to the log
abbrev pub fin_11 : Turn
fin_11 = on_segment last_ack (to_log 1 (DataMsg (part_with 0 1 false [])) ∷ []) (serving_at 1 5000 over)

-- the turns, newest first
abbrev pub fin_turns : List Turn
fin_turns = fin_11 ∷ fin_10 ∷ fin_9 ∷ fin_8 ∷ fin_7 ∷ fin_6 ∷ fin_5 ∷ probe_4 ∷ probe_3 ∷ probe_2 ∷ probe_1 ∷ []

-- Wrong turns. When the output is released but the client has no room for it, it is sent ..
abbrev pub past_the_edge : List Packet
past_the_edge = to_client 16 5001 1006 65535 None hello_text ∷ []

-- .. or the probe has two bytes
abbrev pub wide_probe : List Packet
wide_probe = to_client 16 5001 1006 65535 None (104 ∷ 101 ∷ []) ∷ []
