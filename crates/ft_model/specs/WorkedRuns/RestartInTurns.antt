-- A restart asks for lengths and bytes alternately, so that each read can be replayed as soon as it is complete: the bytes of the reads whose lengths are
-- fetched, then further lengths, and at last the bytes after all reads. The log's answers are short here.
use Rattle.std.specs.Prelude.{false, None, List, [], ◌∷◌}
use Rattle.seq_arith.specs.Message.{EntryHead}
use Rattle.seq_arith.specs.Message.Body.{EntryMsg, BytesMsg, PartMsg, CutsMsg, LensMsg, ReadMsg}
use Rattle.ft_model.specs.Network.{Packet}
use Rattle.ft_model.specs.Point.{Point}
use Rattle.ft_model.specs.Lawful.{Turn}
use Rattle.ft_model.specs.WorkedRuns.Common.{key, to_client, to_log, on_message, serving_at, fetching, head_with, fetched_with}
use Rattle.ft_model.specs.WorkedRuns.RestartFromHello.{restarted as one_read, asks_entry}

-- five bytes, of which two reads have taken two and one
abbrev pub head : EntryHead
head = head_with 5 false 2 0

-- the connection when everything is fetched: the bytes after the logged reads are read in the same turn
abbrev pub restarted : Point
restarted = record one_read { fetched_output = 3; lengths = 2 ∷ 1 ∷ 2 ∷ []; reads_answered = 2 }

abbrev pub turn_1 : Turn
turn_1 = asks_entry

abbrev pub turn_2 : Turn
turn_2 = on_message 2 (EntryMsg 0 head) (to_log 2 (CutsMsg key 0) ∷ []) (fetching 2 900000 (fetched_with head [] [] ∷ []))

-- one length is fetched, so its read's bytes are asked for ..
abbrev pub turn_3 : Turn
turn_3 = on_message 2 (LensMsg key 0 (2 ∷ [])) (to_log 2 (BytesMsg key 0) ∷ []) (fetching 2 900000 (fetched_with head [] (2 ∷ []) ∷ []))

-- .. one by one ..
abbrev pub turn_4 : Turn
turn_4 = on_message 2 (PartMsg key 0 (104 ∷ [])) (to_log 2 (BytesMsg key 1) ∷ []) (fetching 2 900000 (fetched_with head (104 ∷ []) (2 ∷ []) ∷ []))

-- .. and when they are there the next length
abbrev pub turn_5 : Turn
turn_5 = on_message 2 (PartMsg key 1 (101 ∷ [])) (to_log 2 (CutsMsg key 1) ∷ []) (fetching 2 900000 (fetched_with head (104 ∷ 101 ∷ []) (2 ∷ []) ∷ []))

abbrev pub turn_6 : Turn
turn_6 = on_message 2 (LensMsg key 1 (1 ∷ [])) (to_log 2 (BytesMsg key 2) ∷ []) (fetching 2 900000 (fetched_with head (104 ∷ 101 ∷ []) (2 ∷ 1 ∷ []) ∷ []))

-- no length is missing any more, only the bytes that no logged read has taken
abbrev pub turn_7 : Turn
turn_7 = on_message 2 (PartMsg key 2 (108 ∷ [])) (to_log 2 (BytesMsg key 3) ∷ [])
    (fetching 2 900000 (fetched_with head (104 ∷ 101 ∷ 108 ∷ []) (2 ∷ 1 ∷ []) ∷ []))

abbrev pub turn_8 : Turn
turn_8 = on_message 2 (PartMsg key 3 (108 ∷ 111 ∷ [])) (to_client 16 5001 1006 65535 None [] ∷ to_log 2 (ReadMsg key 2 2) ∷ []) (serving_at 2 900000 restarted)

-- the second incarnation's turns, newest first
abbrev pub turns : List Turn
turns = turn_8 ∷ turn_7 ∷ turn_6 ∷ turn_5 ∷ turn_4 ∷ turn_3 ∷ turn_2 ∷ turn_1 ∷ []

-- Wrong questions: bytes before any length, ..
abbrev pub bytes_first : List Packet
bytes_first = to_log 2 (BytesMsg key 0) ∷ []

-- .. and further lengths while the bytes of a fetched read are missing
abbrev pub lengths_ahead : List Packet
lengths_ahead = to_log 2 (CutsMsg key 1) ∷ []
