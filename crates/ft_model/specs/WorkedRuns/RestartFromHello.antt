-- A restart from a log with one entry: client 1 has sent "hello", one read has taken it, and the output isn't acknowledged. The runs with such a restart
-- share the entry, the turns until all of it is fetched, and the connection then.
use Rattle.std.specs.Prelude.{pos, true, false, None, [], ◌∷◌}
use Rattle.tcp_rules.specs.Profile.{plain}
use Rattle.seq_arith.specs.Message.{EntryHead}
use Rattle.seq_arith.specs.Message.Body.{SummaryMsg, ListMsg, EntryMsg, BytesMsg, PartMsg, CutsMsg, LensMsg}
use Rattle.ft_model.specs.Point.{Point, blank_point}
use Rattle.ft_model.specs.Restart.{Fetched}
use Rattle.ft_model.specs.Lawful.{Turn}
use Rattle.ft_model.specs.WorkedRuns.Common.{key, hello_text, to_client, to_log, on_message, serving_at, fetching, head_with, fetched_with, congestion_with}

-- the log's entry, and as its parts arrive
abbrev pub head : EntryHead
head = head_with 5 false 1 0

abbrev pub bare_entry : Fetched
bare_entry = fetched_with head [] []

abbrev pub entry_with_lengths : Fetched
entry_with_lengths = fetched_with head [] (5 ∷ [])

-- the connection in the turn of the last missing answer
abbrev pub restarted : Point
restarted = record (blank_point plain key 1000 5000 536) {
  fetched = 5;
  fetched_output = 5;
  taken = hello_text;
  answered = 5;
  lengths = 5 ∷ [];
  reads_answered = 1;
  wl1 = pos 5;
  syn_acked = true;
  rest = 1;
}

-- the same once the client has advertised room, so that the output is sent, and once that is acknowledged
abbrev pub resumed : Point
resumed = record restarted { edge = 65535; sent = 5 }

abbrev pub acknowledged : Point
acknowledged = record resumed { una = 5; edge = 65540; wl2 = 5; congestion = congestion_with 2149 65535 0; rest = 0 }

-- the second incarnation asks for the entry, for its lengths and for its bytes
abbrev pub asks_entry : Turn
asks_entry = on_message 2 (SummaryMsg 1) (to_log 2 (ListMsg 0) ∷ []) (fetching 2 900000 [])

abbrev pub asks_lengths : Turn
asks_lengths = on_message 2 (EntryMsg 0 head) (to_log 2 (CutsMsg key 0) ∷ []) (fetching 2 900000 (bare_entry ∷ []))

abbrev pub asks_bytes : Turn
asks_bytes = on_message 2 (LensMsg key 0 (5 ∷ [])) (to_log 2 (BytesMsg key 0) ∷ []) (fetching 2 900000 (entry_with_lengths ∷ []))

-- the last missing answer: the client gets an ACK with the true window
abbrev pub serves_again : Turn
serves_again = on_message 2 (PartMsg key 0 hello_text) (to_client 16 5001 1006 65535 None [] ∷ []) (serving_at 2 900000 restarted)
