-- A segment that arrives while the server fetches: it is answered with window 0, and taken when the client retransmits it after the restart.
use Rattle.std.specs.Prelude.{false, None, List, [], ◌∷◌}
use Rattle.seq_arith.specs.Packet.{Segment}
use Rattle.seq_arith.specs.Message.Body.{DataMsg, ReadMsg}
use Rattle.ft_model.specs.Network.{Packet}
use Rattle.ft_model.specs.Point.{Point}
use Rattle.ft_model.specs.Lawful.{Turn}
use Rattle.ft_model.specs.WorkedRuns.Common.{key, hello_text, client_segment, to_client, to_log, part_with, on_segment, serving_at, fetching}
use Rattle.ft_model.specs.WorkedRuns.RestartFromHello.{bare_entry, restarted, asks_entry, asks_lengths, asks_bytes, serves_again}

-- the client's segment, an exclamation mark
abbrev pub more : Segment
more = client_segment 16 1006 5001 65535 (33 ∷ [])

-- the connection when the segment is taken
abbrev pub taken : Point
taken = record restarted { taken = 104 ∷ 101 ∷ 108 ∷ 108 ∷ 111 ∷ 33 ∷ []; lengths = 5 ∷ 1 ∷ []; edge = 65535; sent = 5 }

abbrev pub restart_2 : Turn
restart_2 = asks_lengths

-- neither a RST nor silence: the client gets an acknowledgement of what is logged, with window 0
abbrev pub restart_3 : Turn
restart_3 = on_segment more (to_client 16 5001 1006 0 None [] ∷ []) (fetching 2 900000 (bare_entry ∷ []))

abbrev pub restart_4 : Turn
restart_4 = asks_bytes

abbrev pub restart_5 : Turn
restart_5 = serves_again

-- the output of the fetched read is sent, and the new byte is copied and read
abbrev pub restart_6 : Turn
restart_6 = on_segment more (to_client 16 5001 1006 65535 None hello_text ∷ to_log 2 (DataMsg (part_with 5 0 false (33 ∷ []))) ∷ to_log 2
    (ReadMsg key 1 1) ∷ []) (serving_at 2 900000 taken)

-- the second incarnation's turns, newest first
abbrev pub restart_turns : List Turn
restart_turns = restart_6 ∷ restart_5 ∷ restart_4 ∷ restart_3 ∷ restart_2 ∷ asks_entry ∷ []

-- a wrong turn: the segment is answered by a RST, as one of an unknown client would be
abbrev pub reset_meanwhile : List Packet
reset_meanwhile = to_client 4 5001 0 0 None [] ∷ []
