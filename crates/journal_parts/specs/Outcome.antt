-- What a logger with a journal did, and what it reports of it.
use Rattle.std.specs.Prelude.{◌≡◌, ◌⊎◌, ℕ, Option, Result, Ok, Err, List}
use Rattle.std.specs.Io.KnownBytes.{Appends}
use Rattle.ft_io.specs.Sink.{AppendsFront}
use Rattle.disk.specs.declared.calls.DeskCall.{DeskCall}
use Rattle.journal_parts.specs.declared.status.ProcessEnd.{ProcessEnd}
use Rattle.journal_parts.specs.Ends.{code_of, text_of}
use Rattle.journal_parts.specs.LoggerLife.{IsKeeper, KeeperStops}
use Rattle.journal_parts.specs.declared.role.JournalRole.{JournalRole}

abbrev pub KeepsJournal : JournalRole → Option (List ℕ) → Result (Unit {0}) ProcessEnd → (old new : Option (List DeskCall))
    → (out_old out_new err_old err_new : Option (List ℕ)) → Type 0
KeepsJournal role file (Ok _) old new out_old out_new err_old err_new = IsKeeper role file old new (Appends out_old out_new) (Appends err_old err_new)
KeepsJournal role file (Err end) old new out_old out_new err_old err_new = KeeperStops role file old new out_old out_new err_old err_new end

-- the status of an end, and what is written of it to err: the complete line, or a prefix of it at status 5
abbrev pub IsReported : Result (Unit {0}) ProcessEnd → (err_old err_new : Option (List ℕ)) → (code : ℕ) → Type 0
IsReported (Ok _) err_old err_new code = (code ≡ 0) × (err_new ≡ err_old)
IsReported (Err end) err_old err_new code =
    ((code ≡ code_of end) × Appends err_old err_new (text_of end)) ⊎ ((code ≡ 5) × AppendsFront err_old err_new (text_of end))
