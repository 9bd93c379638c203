-- A worked run: a log with one entry of 5,000 bytes in three reads takes marks that are kept and marks that aren't, and gets questions above and below the kept
-- one.
use Rattle.limits.specs.Limits.{largest_segment}
use Rattle.std.specs.Prelude.{ℕ, false, [], ◌∷◌, replicate}
use Rattle.ft_io.specs.declared.Key.{Key}
use Rattle.seq_arith.specs.Mark.{MarkMessage}
use Rattle.seq_arith.specs.Mark.MarkBody.{MarkMsg, MarkedMsg, AskMsg, HeldMsg}
use Rattle.seq_arith.specs.Message.{Message}
use Rattle.seq_arith.specs.Message.Body.{BytesMsg, PartMsg, CutsMsg, LensMsg}
use Rattle.ft_model.specs.Log.{Entry}
use Rattle.mark_laws.specs.MarkedLog.{MarkedLog, AnyMessage, no_mark, with_mark, about_mark}

-- 192.0.2.1, port 40000
abbrev pub client : Key
client = record { ip = 3221225985; port = 40000 }

abbrev pub entry : Entry
entry = record {
  key = client;
  cisn = 1000;
  sisn = 5000;
  mss = largest_segment;
  bytes = replicate 5000 120;
  fin = false;
  lengths = 2048 ∷ 2048 ∷ 904 ∷ [];
  acknowledged = 0;
  done = false;
}

abbrev pub before : MarkedLog
before = record { log = record { boot = 1; entries = entry ∷ [] }; marks = λ key. no_mark }

abbrev pub marking : (reads bytes made : ℕ) → MarkMessage
marking reads bytes made = record { boot = 1; body = MarkMsg client (record { reads = reads; length = bytes; made = made; state = [] }) }

-- after the mark of two reads
abbrev pub kept : MarkedLog
kept = with_mark client (record { reads = 2; length = 4096; made = 10; state = [] }) before

abbrev pub two_are_marked : AnyMessage
two_are_marked = about_mark 1 (MarkedMsg client 2)

abbrev pub asking : MarkMessage
asking = record { boot = 1; body = AskMsg client }

abbrev pub held : AnyMessage
held = about_mark 1 (HeldMsg client (record { reads = 2; length = 4096; made = 10; state = [] }))

abbrev pub bytes_from : ℕ → Message
bytes_from offset = record { boot = 1; body = BytesMsg client offset }

abbrev pub lengths_from : ℕ → Message
lengths_from first = record { boot = 1; body = CutsMsg client first }

abbrev pub last_part : Message
last_part = record { boot = 1; body = PartMsg client 4096 (replicate 904 120) }

abbrev pub last_length : Message
last_length = record { boot = 1; body = LensMsg client 2 (904 ∷ []) }
