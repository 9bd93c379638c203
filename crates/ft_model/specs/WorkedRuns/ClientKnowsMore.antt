-- A client acknowledges more than the restarted server has sent. Its acknowledgement is lowered to what was sent, and used in full once the same output is
-- retransmitted.
use Rattle.std.specs.Prelude.{false, None, List, [], ◌∷◌}
use Rattle.seq_arith.specs.Packet.{Segment}
use Rattle.seq_arith.specs.Message.Body.{DataMsg}
use Rattle.ft_model.specs.Lawful.{Turn}
use Rattle.ft_model.specs.WorkedRuns.Common.{hello_text, client_segment, to_client, to_log, part_with, on_segment, serving_at}
use Rattle.ft_model.specs.WorkedRuns.RestartFromHello.{resumed, acknowledged, asks_entry, asks_lengths, asks_bytes, serves_again}

-- the client has all five bytes
abbrev pub known : Segment
known = client_segment 16 1006 5006 65535 []

abbrev pub restart_5 : Turn
restart_5 = on_segment known (to_client 16 5001 1006 65535 None hello_text ∷ []) (serving_at 2 900000 resumed)

-- a Data without bytes reports the acknowledgement
abbrev pub restart_6 : Turn
restart_6 = on_segment known (to_log 2 (DataMsg (part_with 5 5 false [])) ∷ []) (serving_at 2 900000 acknowledged)

-- the second incarnation's turns, newest first
abbrev pub restart_turns : List Turn
restart_turns = restart_6 ∷ restart_5 ∷ serves_again ∷ asks_bytes ∷ asks_lengths ∷ asks_entry ∷ []
