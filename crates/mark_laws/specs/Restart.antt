-- The law of a restart that begins at marks. The server asks for the mark of an entry directly after the entry, and continues from there as if all that is
-- below the mark had been fetched. The law has these bytes and lengths as a witness; the server never has them.
use Rattle.std.specs.Prelude.{◌≡◌, ◌⊎◌, ℕ, ◌==◌, Bool, false, ◌&&◌, ◌||◌, not, nat_le, is_some, Option, Some, None, MatchOption, option_map, List, []}
use Rattle.std.specs.Prelude.{◌∷◌, if◌then◌else◌}
use Rattle.ft_io.specs.Key.{key_eq}
use Rattle.seq_arith.specs.Mark.{Mark, MarkBody, MarkMessage}
use Rattle.seq_arith.specs.Mark.MarkBody.{AskMsg, HeldMsg}
use Rattle.seq_arith.specs.Message.{EntryHead, Body, Message}
use Rattle.seq_arith.specs.Message.Body.{EntryMsg}
use Rattle.server_trait.specs.Service.{Machine}
use Rattle.server_trait.specs.Saved.{Writing}
use Rattle.ft_model.specs.Restart.{Fetched, wanted, question, fetched_after}
use Rattle.mark_laws.specs.MarkedLog.{AnyMessage}
use Rattle.mark_laws.specs.MarkedLog.AnyMessage.{About_mark, Of_log}
use Rattle.mark_laws.specs.Front.{IsBelow}

-- what a restart has fetched
pub record FetchedSoFar : Type 0 where
  pub entries : List Fetched  -- the newest first, each with what is below its mark
  pub awaits_mark : Bool  -- the mark of the newest is asked for

-- whether an entry's mark is asked for: only an entry with reads has one, and only an entry that isn't done is restored
abbrev pub may_have_mark : EntryHead → Bool
may_have_mark head = not head.done && not (head.reads == 0)

-- the question for the mark of the newest entry
abbrev pub mark_question : (boot : ℕ) → List Fetched → Option AnyMessage
mark_question boot [] = None
mark_question boot (f ∷ earlier) = Some (About_mark (record { boot = boot; body = AskMsg f.head.key }))

-- the question of a server without marks
abbrev pub log_question : (boot count : ℕ) → List Fetched → Option AnyMessage
log_question boot count entries = option_map (λ w. Of_log (record { boot = boot; body = question w })) (wanted count entries)

abbrev pub or_else : Option AnyMessage → Option AnyMessage → Option AnyMessage
or_else (Some question) next = Some question
or_else None next = next

-- the next question: for the mark while one is awaited, otherwise that of a server without marks
abbrev pub next_question : (boot count : ℕ) → FetchedSoFar → Option AnyMessage
next_question boot count so_far = or_else (if so_far.awaits_mark then mark_question boot so_far.entries else None) (log_question boot count so_far.entries)

-- whether a mark is awaited after an answer that isn't one
abbrev pub awaits_after : (marks : Bool) → Body → Bool
awaits_after marks (EntryMsg index head) = marks && may_have_mark head
awaits_after marks _ = false

-- what is fetched after a message that isn't about marks. While a mark is awaited, no such message is an answer; otherwise the answers are those of a server
-- without marks
abbrev pub fetched_on : (marks : Bool) → (boot count : ℕ) → Message → FetchedSoFar → Option FetchedSoFar
fetched_on marks boot count message so_far =
    if so_far.awaits_mark then None
    else option_map (λ more. record { entries = more; awaits_mark = awaits_after marks message.body })
    (if message.boot == boot then fetched_after (wanted count so_far.entries) message.body so_far.entries else None)

-- whether an entry can have a mark with these numbers: no more reads and bytes than the entry has, at least a byte for each read, and no more output than is
-- acknowledged
abbrev pub lies_within : EntryHead → Mark → Bool
lies_within head m = nat_le m.reads head.reads && nat_le m.length head.length && nat_le m.made head.acked && nat_le m.reads m.length

-- a mark is an answer if its entry can have it and its state can be read back. A mark of 0 reads says that there is none; its state isn't read
abbrev pub mark_fits : {State : Type 0} → Writing State → EntryHead → Mark → Bool
mark_fits writing head m = lies_within head m && (m.reads == 0 || is_some (writing.state_of m.state))

abbrev pub mark_of_newest : {State : Type 0} → Writing State → MarkBody → List Fetched → Option Mark
mark_of_newest writing (HeldMsg key m) (f ∷ earlier) = if key_eq key f.head.key && mark_fits writing f.head m then Some m else None
mark_of_newest writing _ _ = None

-- the mark of the newest entry, if a message reports it while it is awaited
abbrev pub mark_reported : {State : Type 0} → Writing State → (boot : ℕ) → MarkMessage → FetchedSoFar → Option Mark
mark_reported writing boot message so_far =
    if message.boot == boot && so_far.awaits_mark then mark_of_newest writing message.body so_far.entries else None

-- what is below a mark: nothing if there is none
abbrev pub IsFront : {State : Type 0} → Machine State → Writing State → Mark → (bytes lengths : List ℕ) → Type 0
IsFront service writing m bytes lengths = ((m.reads ≡ 0) × (bytes ≡ []) × (lengths ≡ [])) ⊎ IsBelow service writing m bytes lengths

abbrev pub with_front : (bytes lengths : List ℕ) → List Fetched → List Fetched
with_front bytes lengths [] = []
with_front bytes lengths (f ∷ earlier) = record f { bytes = bytes; lengths = lengths } ∷ earlier

-- what is fetched once the mark has come
abbrev pub begun_on : (bytes lengths : List ℕ) → FetchedSoFar → FetchedSoFar
begun_on bytes lengths so_far = record { entries = with_front bytes lengths so_far.entries; awaits_mark = false }

-- What a restart has fetched after a message. A message that isn't an answer changes nothing
abbrev pub Leads : {State : Type 0} → Machine State → Writing State → (marks : Bool) → (boot count : ℕ) → AnyMessage → (before after : FetchedSoFar) → Type 0
Leads service writing marks boot count (Of_log message) before after =
    MatchOption (fetched_on marks boot count message before) (after ≡ before) (λ more. after ≡ more)
Leads service writing marks boot count (About_mark message) before after =
    MatchOption (mark_reported writing boot message before) (after ≡ before)
    (λ m. (bytes : List ℕ) × (lengths : List ℕ) × IsFront service writing m bytes lengths × (after ≡ begun_on bytes lengths before))
