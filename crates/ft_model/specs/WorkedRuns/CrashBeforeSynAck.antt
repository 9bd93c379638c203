-- A crash after the opening is logged and before the SYN-ACK is sent: the second incarnation answers the client's SYN with the logged numbers.
use Rattle.std.specs.Prelude.{true, false, Some, None, List, [], ◌∷◌}
use Rattle.tcp_rules.specs.declared.timestamping.Timestamping.TheVariants.{Off}
use Rattle.tcp_rules.specs.Profile.{plain}
use Rattle.seq_arith.specs.Packet.{Segment}
use Rattle.seq_arith.specs.Message.{EntryHead}
use Rattle.seq_arith.specs.Message.Body.{SummaryMsg, ListMsg, EntryMsg}
use Rattle.ft_model.specs.Point.{Point}
use Rattle.ft_model.specs.Opening.{point_opened}
use Rattle.ft_model.specs.Lawful.{Turn}
use Rattle.ft_model.specs.WorkedRuns.Common.{client_segment, to_client, to_log, numbers, on_message, on_segment, serving_at, fetching, head_with}

-- the client's SYN
abbrev pub syn : Segment
syn = client_segment 2 1000 0 65535 []

-- the log's entry
abbrev pub head : EntryHead
head = head_with 0 false 0 0

-- the connection after the restart
abbrev pub restarted : Point
restarted = record (point_opened plain Off numbers) { syn_acked = true }

abbrev pub restart_1 : Turn
restart_1 = on_message 2 (SummaryMsg 1) (to_log 2 (ListMsg 0) ∷ []) (fetching 2 900000 [])

-- there is nothing more to ask for
abbrev pub restart_2 : Turn
restart_2 = on_message 2 (EntryMsg 0 head) (to_client 16 5001 1001 65535 None [] ∷ []) (serving_at 2 900000 restarted)

abbrev pub restart_3 : Turn
restart_3 = on_segment syn (to_client 18 5000 1001 65535 (Some 1460) [] ∷ []) (serving_at 2 900000 restarted)

-- the second incarnation's turns, newest first
abbrev pub restart_turns : List Turn
restart_turns = restart_3 ∷ restart_2 ∷ restart_1 ∷ []
