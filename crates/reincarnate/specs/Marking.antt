-- Where a restart begins with an entry's reads: at their start, or at the entry's mark.
use Rattle.std.specs.Prelude.{ℕ, ◌==◌, Bool, true, false, Option, Some, None, option_map, List, [], if◌then◌else◌}
use Rattle.ft_io.specs.declared.Key.{Key}
use Rattle.ft_io.specs.Key.{key_eq}
use Rattle.seq_arith.specs.declared.kinds.Grammar.{Grammar}
use Rattle.seq_arith.specs.Mark.{Mark}
use Rattle.seq_arith.specs.Message.{EntryHead, Body}
use Rattle.logger_wire.specs.Value as log
use Rattle.logger_wire.specs.declared.Msg.{Msg}
use Rattle.logger_wire.specs.Value.{IsSendableBy}
use Rattle.logger_wire.specs.MarkValue as checkpoint
use Rattle.seq_arith.specs.MarkGrammar.{IsSpellable}
use Rattle.mark_laws.specs.MarkedLog.{AnyMessage}
use Rattle.mark_laws.specs.MarkedLog.AnyMessage.{About_mark, Of_log}
use Rattle.mark_laws.specs.Restart.{awaits_after, lies_within}
use Rattle.reincarnate.specs.declared.any_msg.AnyMsg.{AnyMsg}
use Rattle.reincarnate.specs.declared.any_msg.AnyMsg.TheVariants as any
use Rattle.reincarnate.specs.declared.marks.Marks.{Marks}
use Rattle.reincarnate.specs.declared.marks.Marks.TheVariants as marks
use Rattle.reincarnate.specs.Progress.{EntryState, begun_entry}

-- what the code's messages of either kind say
abbrev pub any_of : AnyMsg → AnyMessage
any_of (any.Log m) = Of_log (log.message_of m)
any_of (any.Mark m) = About_mark (checkpoint.message_of m)

-- a question may be sent in each grammar
abbrev pub IsAnySendable : AnyMsg → Type 0
IsAnySendable (any.Log m) = (grammar : Grammar) → IsSendableBy grammar m
IsAnySendable (any.Mark m) = IsSpellable (checkpoint.message_of m)

-- an answer was read in one of them
pub record IsRead (m : Msg) : Type 0 where
  pub grammar : Grammar
  pub sendable : IsSendableBy grammar m

abbrev pub IsAnyRead : AnyMsg → Type 0
IsAnyRead (any.Log m) = IsRead m
IsAnyRead (any.Mark m) = IsSpellable (checkpoint.message_of m)

-- whether marks are asked for
abbrev pub used_if : Bool → Marks
used_if used = if used then marks.Used else marks.Unused

abbrev pub uses : Marks → Bool
uses marks.Unused = false
uses _ = true

-- whether the mark of the newest entry is awaited
abbrev pub awaits : Marks → Bool
awaits marks.Awaited = true
awaits _ = false

-- after an answer that isn't about marks
abbrev pub marks_after : Marks → Body → Marks
marks_after marks.Unused body = marks.Unused
marks_after _ body = if awaits_after true body then marks.Awaited else marks.Used

-- an entry that begins at a mark: the service has the mark's state, and what is below the mark counts as fetched, read and replayed
abbrev pub begun_at : {S : Type 0} → EntryHead → Mark → S → EntryState S
begun_at head m state = record {
  head = head;
  bytes = m.length;
  cuts = record { count = m.reads; sum = m.length; ended = false };
  waiting = [];
  replay = record { service = state; closed = false; made = m.made; acked = head.acked; pending = []; held = [] };
}

-- An entry from its mark on, if it can have that mark and the mark's state is read back. Where there is no mark (one of 0 reads) it begins at its start
abbrev pub begun_from : {S : Type 0} → (fresh : S) → (greeting : List ℕ) → (state_of : List ℕ → Option S) → Mark → EntryHead → Option (EntryState S)
begun_from fresh greeting state_of m head =
    if lies_within head m then (if m.reads == 0 then Some (begun_entry fresh greeting head) else option_map (begun_at head m) (state_of m.state)) else None

-- .. if the mark is of its key
abbrev pub marked_on : {S : Type 0} → (fresh : S) → (greeting : List ℕ) → (state_of : List ℕ → Option S) → Key → Mark → Option (EntryState S)
    → Option (EntryState S)
marked_on fresh greeting state_of key m None = None
marked_on fresh greeting state_of key m (Some e) = if key_eq key e.head.key then begun_from fresh greeting state_of m e.head else None
