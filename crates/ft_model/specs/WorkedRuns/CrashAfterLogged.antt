-- A crash after the text and its read are logged, and before the client learns of it: the second incarnation fetches both, comes to the state of the first one,
-- and sends the output.
use Rattle.std.specs.Prelude.{None, List, [], ◌∷◌}
use Rattle.seq_arith.specs.Packet.{Segment}
use Rattle.ft_model.specs.Lawful.{Turn}
use Rattle.ft_model.specs.WorkedRuns.Common.{hello_text, client_segment, to_client, on_segment, serving_at}
use Rattle.ft_model.specs.WorkedRuns.RestartFromHello.{resumed, asks_entry, asks_lengths, asks_bytes, serves_again}

-- the client's segment after the restart
abbrev pub room : Segment
room = client_segment 16 1006 5001 65535 []

-- the client acknowledges nothing new and advertises room: the output is sent
abbrev pub restart_5 : Turn
restart_5 = on_segment room (to_client 16 5001 1006 65535 None hello_text ∷ []) (serving_at 2 900000 resumed)

-- the second incarnation's turns, newest first
abbrev pub restart_turns : List Turn
restart_turns = restart_5 ∷ serves_again ∷ asks_bytes ∷ asks_lengths ∷ asks_entry ∷ []
