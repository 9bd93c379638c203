-- A worked run: a restart with one entry, whose 5 bytes are below its mark.
use Rattle.std.specs.Prelude.{ℕ, true, false, Option, Some, None, List, [], ◌∷◌}
use Rattle.ft_io.specs.declared.Key.{Key}
use Rattle.seq_arith.specs.Mark.{Mark, MarkMessage}
use Rattle.seq_arith.specs.Mark.MarkBody.{AskMsg, HeldMsg}
use Rattle.seq_arith.specs.Message.{EntryHead, Message}
use Rattle.seq_arith.specs.Message.Body.{EntryMsg}
use Rattle.server_trait.specs.Saved.{Writing}
use Rattle.mark_laws.specs.MarkedLog.{AnyMessage, about_mark}
use Rattle.mark_laws.specs.Restart.{FetchedSoFar, begun_on}
use Rattle.mark_laws.specs.WorkedLog.{client}

-- a service with one state, whose form is no bytes
abbrev pub only_state : List ℕ → Option ℕ
only_state [] = Some 0
only_state _ = None

abbrev pub plain : Writing ℕ
plain = record { form = λ state. []; state_of = only_state }

-- the entry of 192.0.2.1, port 40000: 5 bytes were read at once, and 5 bytes of output are acknowledged
abbrev pub head : EntryHead
head = record { key = client; cisn = 1000; sisn = 5000; mss = 536; length = 5; fin = false; done = false; reads = 1; acked = 5 }

abbrev pub entry_message : Message
entry_message = record { boot = 2; body = EntryMsg 0 head }

abbrev pub nothing_fetched : FetchedSoFar
nothing_fetched = record { entries = []; awaits_mark = false }

abbrev pub entry_fetched : FetchedSoFar
entry_fetched = record { entries = record { head = head; bytes = []; lengths = [] } ∷ []; awaits_mark = true }

abbrev pub mark : Mark
mark = record { reads = 1; length = 5; made = 5; state = [] }

abbrev pub holding : Key → Mark → MarkMessage
holding key m = record { boot = 2; body = HeldMsg key m }

-- "hello"
abbrev pub hello : List ℕ
hello = 104 ∷ 101 ∷ 108 ∷ 108 ∷ 111 ∷ []

abbrev pub mark_fetched : FetchedSoFar
mark_fetched = begun_on hello (5 ∷ []) entry_fetched

abbrev pub question_for_mark : AnyMessage
question_for_mark = about_mark 2 (AskMsg client)
