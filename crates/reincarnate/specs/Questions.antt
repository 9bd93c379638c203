-- A restart while it asks: what is asked for next, what answers it, and what is then known.
use Rattle.std.specs.Prelude.{ℕ, ◌≤◌, ◌<◌, ◌^◌, ◌==◌, Bool, ◌&&◌, is_none, nat_lt, Option, Some, None, List, [], ◌++◌, length, find, option_map, if◌then◌else◌}
use Rattle.std.specs.Option.{option_to_list}
use Rattle.ft_io.specs.declared.Key.{Key}
use Rattle.ft_io.specs.Key.{key_eq}
use Rattle.seq_arith.specs.declared.kinds.Grammar.{Grammar}
use Rattle.seq_arith.specs.Mark.{MarkBody, MarkMessage}
use Rattle.seq_arith.specs.Mark.MarkBody.{AskMsg, HeldMsg}
use Rattle.seq_arith.specs.Message.{EntryHead, Body, Message}
use Rattle.seq_arith.specs.Message.Body.{ListMsg, EntryMsg, PartMsg, LensMsg}
use Rattle.logger_wire.specs.declared.Body as wire
use Rattle.logger_wire.specs.Value.{IsSendableBy}
use Rattle.server_trait.specs.Service.{Served}
use Rattle.mark_laws.specs.MarkedLog.{AnyMessage}
use Rattle.mark_laws.specs.MarkedLog.AnyMessage.{About_mark, Of_log}
use Rattle.mark_laws.specs.Restart as law
use Rattle.reincarnate.specs.declared.marks.Marks.{Marks}
use Rattle.reincarnate.specs.declared.marks.Marks.TheVariants as marks
use Rattle.reincarnate.specs.Marking.{used_if, awaits, marks_after, marked_on}
use Rattle.reincarnate.specs.Progress.{EntryState, begun_entry, lacks, asked_for, part_fits, with_bytes, cuts_with, with_lengths}

-- a question that a server of any boot number may send in each grammar
abbrev pub IsAskable : wire.Body → Type 0
IsAskable body = (grammar : Grammar) (boot : ℕ) → 1 ≤ boot → boot < 2 ^ 64 → IsSendableBy grammar (record { boot = boot; body = body })

pub record FetchingState (S : Type 0) : Type 0 where
  pub boot : ℕ  -- the server's boot number
  pub kind : ℕ  -- the kind of its service
  pub count : ℕ  -- how many entries the log has
  pub marks : Marks  -- whether marks are asked for
  pub newest : Option (EntryState S)  -- the entry that was fetched last, or is being fetched
  pub earlier : List (EntryState S)  -- those fetched before it, the newest first

abbrev pub begun_fetching : {S : Type 0} → (boot kind count : ℕ) → (uses_marks : Bool) → FetchingState S
begun_fetching boot kind count uses_marks =
    record { boot = boot; kind = kind; count = count; marks = used_if uses_marks; newest = None; earlier = [] }

abbrev pub entries_of : {S : Type 0} → FetchingState S → List (EntryState S)
entries_of s = option_to_list s.newest ++ s.earlier

-- the newest entry is completed before the next one is asked for
abbrev pub asked_of : {S : Type 0} → Option (EntryState S) → Option Body
asked_of None = None
asked_of (Some e) = asked_for (lacks e) e

abbrev pub asked_entry : {S : Type 0} → FetchingState S → Option Body
asked_entry s = if nat_lt (length (entries_of s)) s.count then Some (ListMsg (length (entries_of s))) else None

abbrev pub or_else : Option Body → Option Body → Option Body
or_else (Some body) next = Some body
or_else None next = next

abbrev pub asked : {S : Type 0} → FetchingState S → Option Body
asked s = or_else (asked_of s.newest) (asked_entry s)

-- the entry of a key, if it has come
abbrev pub entry_known : {S : Type 0} → Key → FetchingState S → Option (EntryState S)
entry_known key s = find (λ e. key_eq e.head.key key) (entries_of s)

-- an entry's head is an answer where that place is asked for and its key is new
abbrev pub head_fits : {S : Type 0} → (index : ℕ) → Key → FetchingState S → Bool
head_fits index key s = is_none (asked_of s.newest) && nat_lt index s.count && index == length (entries_of s) && is_none (entry_known key s)

abbrev pub with_head : {S : Type 0} → S → (greeting : List ℕ) → EntryHead → FetchingState S → FetchingState S
with_head fresh greeting head s = record s { newest = Some (begun_entry fresh greeting head); earlier = entries_of s }

abbrev pub with_newest : {S : Type 0} → FetchingState S → EntryState S → FetchingState S
with_newest s e = record s { newest = Some e }

abbrev pub part_on : {S : Type 0} → (S → List ℕ → Served S) → Key → (offset : ℕ) → List ℕ → Option (EntryState S) → Option (EntryState S)
part_on after key offset bytes None = None
part_on after key offset bytes (Some e) = if part_fits key offset (length bytes) e then Some (with_bytes after bytes e) else None

abbrev pub lens_on : {S : Type 0} → (S → List ℕ → Served S) → Key → (first : ℕ) → List ℕ → Option (EntryState S) → Option (EntryState S)
lens_on after key first lens None = None
lens_on after key first lens (Some e) = option_map (λ cuts. with_lengths after cuts lens e) (cuts_with key first lens e)

-- what is known after an answer, if it fits
abbrev pub answered : {S : Type 0} → (ℕ → S) → (S → List ℕ → Served S) → (S → List ℕ) → FetchingState S → Body → Option (FetchingState S)
answered started after greeting s (EntryMsg index head) =
    if head_fits index head.key s then Some (with_head (started s.kind) (greeting (started s.kind)) head s) else None
answered started after greeting s (PartMsg key offset bytes) = option_map (with_newest s) (part_on after key offset bytes s.newest)
answered started after greeting s (LensMsg key first lens) = option_map (with_newest s) (lens_on after key first lens s.newest)
answered started after greeting s _ = None

-- an answer to another boot doesn't fit
abbrev pub after_answer : {S : Type 0} → (ℕ → S) → (S → List ℕ → Served S) → (S → List ℕ) → Message → FetchingState S → Option (FetchingState S)
after_answer started after greeting message s = if message.boot == s.boot then answered started after greeting s message.body else None

-- Marks: the newest entry's is asked for first, where it is awaited
abbrev pub mark_asked : {S : Type 0} → (boot : ℕ) → Option (EntryState S) → Option AnyMessage
mark_asked boot None = None
mark_asked boot (Some e) = Some (About_mark (record { boot = boot; body = AskMsg e.head.key }))

abbrev pub any_asked : {S : Type 0} → FetchingState S → Option AnyMessage
any_asked s =
    law.or_else (if awaits s.marks then mark_asked s.boot s.newest else None) (option_map (λ body. Of_log (record { boot = s.boot; body = body })) (asked s))

-- an answer that isn't about marks, unless one is awaited
abbrev pub noted : {S : Type 0} → Marks → FetchingState S → FetchingState S
noted marks s = record s { marks = marks }

abbrev pub log_received : {S : Type 0} → (ℕ → S) → (S → List ℕ → Served S) → (S → List ℕ) → Message → FetchingState S → Option (FetchingState S)
log_received started after greeting message s =
    if awaits s.marks then None else option_map (noted (marks_after s.marks message.body)) (after_answer started after greeting message s)

-- the mark of the newest entry
abbrev pub with_marked : {S : Type 0} → FetchingState S → EntryState S → FetchingState S
with_marked s e = record s { newest = Some e; marks = marks.Used }

abbrev pub held_received : {S : Type 0} → (ℕ → S) → (S → List ℕ) → (ℕ → List ℕ → Option S) → MarkBody → FetchingState S → Option (FetchingState S)
held_received started greeting state_of (HeldMsg key m) s =
    option_map (with_marked s) (marked_on (started s.kind) (greeting (started s.kind)) (state_of s.kind) key m s.newest)
held_received started greeting state_of _ s = None

-- .. while it is awaited
abbrev pub mark_received : {S : Type 0} → (ℕ → S) → (S → List ℕ) → (ℕ → List ℕ → Option S) → MarkMessage → FetchingState S → Option (FetchingState S)
mark_received started greeting state_of message s = if message.boot == s.boot && awaits s.marks then held_received started greeting state_of message.body s
    else None

-- what is known after any message, if it is an answer
abbrev pub any_received : {S : Type 0} → (ℕ → S) → (S → List ℕ → Served S) → (S → List ℕ) → (ℕ → List ℕ → Option S) → AnyMessage → FetchingState S
    → Option (FetchingState S)
any_received started after greeting state_of (Of_log message) s = log_received started after greeting message s
any_received started after greeting state_of (About_mark message) s = mark_received started greeting state_of message s
