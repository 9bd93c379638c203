-- Both sides close. The client's FIN is logged and read before it is acknowledged and before the server's own answers it. After a crash the server retransmits
-- its FIN, and at the fourth end tick the connection is done.
use Rattle.std.specs.Prelude.{ℕ, pos, true, false, Some, None, List, [], ◌∷◌}
use Rattle.tcp_rules.specs.declared.timestamping.Timestamping.TheVariants.{Off}
use Rattle.tcp_rules.specs.Profile.{plain}
use Rattle.seq_arith.specs.Packet.{Segment}
use Rattle.seq_arith.specs.Message.{EntryHead}
use Rattle.seq_arith.specs.Message.Body.{SummaryMsg, ListMsg, EntryMsg, CutsMsg, LensMsg, OpenMsg, OpenedMsg, DataMsg, StableMsg, ReadMsg, ReadsMsg, DoneMsg}
use Rattle.ft_model.specs.Network.{Packet}
use Rattle.ft_model.specs.Point.{Point}
use Rattle.ft_model.specs.Opening.{point_opened}
use Rattle.ft_model.specs.Restart.{Fetched}
use Rattle.ft_model.specs.Lawful.{Turn}
use Rattle.ft_model.specs.WorkedRuns.Common.{key, client_segment, to_client, to_log, numbers, kept_with, part_with, on_message, on_segment, on_tick}
use Rattle.ft_model.specs.WorkedRuns.Common.{serving_at, idle, opening_at, fetching, head_with, fetched_with, congestion_with}

-- the client's segments
abbrev pub syn : Segment
syn = client_segment 2 1000 0 65535 []

abbrev pub first_ack : Segment
first_ack = client_segment 16 1001 5001 65535 []

abbrev pub fin : Segment
fin = client_segment 17 1001 5001 65535 []

abbrev pub last_ack : Segment
last_ack = client_segment 16 1002 5002 65535 []

-- the connection when it begins, is open, has the FIN, learns that it is logged, sends its own, and is over
abbrev pub begun : Point
begun = record (point_opened plain Off numbers) { rest = 1 }

abbrev pub opened : Point
opened = record begun { syn_acked = true; edge = 65535; rest = 0 }

abbrev pub taken : Point
taken = record opened { fin = true; lengths = 0 ∷ [] }

abbrev pub logged : Point
logged = record taken { answered = 1 }

abbrev pub closed : Point
closed = record logged { reads_answered = 1; sent = 1; rest = 1 }

abbrev pub over : Point
over = record closed { una = 1; edge = 65536; wl1 = pos 1; wl2 = 1; congestion = congestion_with 2145 65535 0; rest = 0 }

-- the log's entry
abbrev pub head : EntryHead
head = head_with 0 true 1 1

abbrev pub bare_entry : Fetched
bare_entry = fetched_with head [] []

-- the connection when it is restarted, when its FIN is retransmitted, when that is acknowledged, and at the end ticks
abbrev pub restarted : Point
restarted = record logged { fetched_output = 1; reads_answered = 1; edge = 0; rest = 1 }

abbrev pub closed_again : Point
closed_again = record restarted { edge = 65535; wl1 = pos 1; sent = 1 }

abbrev pub over_again : Point
over_again = record closed_again { una = 1; edge = 65536; wl2 = 1; congestion = congestion_with 2145 65535 0; rest = 0 }

abbrev pub ticked : ℕ → Point
ticked = λ n. record over_again { end_ticks = n }

abbrev pub first_1 : Turn
first_1 = on_message 1 (SummaryMsg 0) [] (idle 1 5000)

abbrev pub first_2 : Turn
first_2 = on_segment syn (to_log 1 (OpenMsg numbers) ∷ []) (opening_at 1 5000)

abbrev pub first_3 : Turn
first_3 = on_message 1 (OpenedMsg numbers) (to_client 18 5000 1001 65535 (Some 1460) [] ∷ []) (serving_at 1 5000 begun)

abbrev pub first_4 : Turn
first_4 = on_segment first_ack [] (serving_at 1 5000 opened)

-- the FIN is copied and read, and not yet acknowledged
abbrev pub first_5 : Turn
first_5 = on_segment fin (to_client 16 5001 1001 65535 None [] ∷ to_log 1 (DataMsg (part_with 0 0 true [])) ∷ to_log 1 (ReadMsg key 0 0) ∷ [])
    (serving_at 1 5000 taken)

-- it is logged, so it is acknowledged
abbrev pub first_6 : Turn
first_6 = on_message 1 (StableMsg (kept_with 0 true 0)) (to_client 16 5001 1002 65535 None [] ∷ []) (serving_at 1 5000 logged)

-- its read is logged, so the server's own FIN is sent
abbrev pub first_7 : Turn
first_7 = on_message 1 (ReadsMsg (kept_with 0 true 1)) (to_client 17 5001 1002 65535 None [] ∷ []) (serving_at 1 5000 closed)

-- what the client acknowledged is logged too
abbrev pub first_8 : Turn
first_8 = on_segment last_ack (to_log 1 (DataMsg (part_with 0 1 false [])) ∷ []) (serving_at 1 5000 over)

-- Wrong turns: the server's FIN is sent in the turn of the closing read, ..
abbrev pub fin_with_read : List Packet
fin_with_read = to_client 17 5001 1001 65535 None [] ∷ to_log 1 (DataMsg (part_with 0 0 true [])) ∷ to_log 1 (ReadMsg key 0 0) ∷ []

-- .. or when the client's FIN is logged, and the read isn't yet
abbrev pub fin_before_reads : List Packet
fin_before_reads = to_client 17 5001 1002 65535 None [] ∷ []

-- the first incarnation's turns, newest first
abbrev pub first_turns : List Turn
first_turns = first_8 ∷ first_7 ∷ first_6 ∷ first_5 ∷ first_4 ∷ first_3 ∷ first_2 ∷ first_1 ∷ []

abbrev pub second_1 : Turn
second_1 = on_message 2 (SummaryMsg 1) (to_log 2 (ListMsg 0) ∷ []) (fetching 2 900000 [])

-- there are no bytes to ask for
abbrev pub second_2 : Turn
second_2 = on_message 2 (EntryMsg 0 head) (to_log 2 (CutsMsg key 0) ∷ []) (fetching 2 900000 (bare_entry ∷ []))

abbrev pub second_3 : Turn
second_3 = on_message 2 (LensMsg key 0 (0 ∷ [])) (to_client 16 5001 1002 65535 None [] ∷ []) (serving_at 2 900000 restarted)

-- the client acknowledges more than this incarnation sent: the FIN is retransmitted
abbrev pub second_4 : Turn
second_4 = on_segment last_ack (to_client 17 5001 1002 65535 None [] ∷ []) (serving_at 2 900000 closed_again)

abbrev pub second_5 : Turn
second_5 = on_segment last_ack (to_log 2 (DataMsg (part_with 0 1 false [])) ∷ []) (serving_at 2 900000 over_again)

abbrev pub second_6 : Turn
second_6 = on_tick [] (serving_at 2 900000 (ticked 1))

abbrev pub second_7 : Turn
second_7 = on_tick [] (serving_at 2 900000 (ticked 2))

abbrev pub second_8 : Turn
second_8 = on_tick [] (serving_at 2 900000 (ticked 3))

-- the fourth end tick
abbrev pub second_9 : Turn
second_9 = on_tick (to_log 2 (DoneMsg key) ∷ []) (serving_at 2 900000 (ticked 4))

-- the second incarnation's turns, newest first
abbrev pub second_turns : List Turn
second_turns = second_9 ∷ second_8 ∷ second_7 ∷ second_6 ∷ second_5 ∷ second_4 ∷ second_3 ∷ second_2 ∷ second_1 ∷ []
