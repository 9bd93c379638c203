-- How far a restart has fetched and replayed the log, by the law Restart.
use Rattle.limits.specs.Limits.{longest_stream}
use Rattle.std.specs.Prelude.{◌≡◌, ℕ, ◌^◌, ◌≤◌, ◌==◌, Bool, true, false, Option, Some, None, MatchOption, List, [], ◌∷◌, ◌++◌, length, drop, sum, if◌then◌else◌}
use Rattle.std.specs.List.{AllByRecursion}
use Rattle.seq_arith.specs.Message.{Message}
use Rattle.server_trait.specs.Service.{Machine, reference}
use Rattle.ft_model.specs.Log.{Entry, head_of}
use Rattle.ft_model.specs.Restart.{Fetched, wanted, fetched_after, is_whole, entry_in, run_of}
use Rattle.server_trait.specs.Saved.{Writing}
use Rattle.mark_laws.specs.MarkedLog.{AnyMessage}
use Rattle.mark_laws.specs.MarkedLog.AnyMessage.{About_mark, Of_log}
use Rattle.mark_laws.specs.Restart.{FetchedSoFar, fetched_on, mark_reported, IsFront, begun_on}
use Rattle.reincarnate.specs.Marking.{uses, awaits}
use Rattle.log_replay.specs.ReadLengths.{cuts_of}
use Rattle.log_replay.specs.Replay.{ReplayState, RunsTo}
use Rattle.reincarnate.specs.declared.entries.Restored.{Restored}
use Rattle.reincarnate.specs.declared.entries.Restored.TheVariants as restored
use Rattle.reincarnate.specs.Progress.{EntryState, ReplayedState, replayed_state, IsShort}
use Rattle.reincarnate.specs.Questions.{FetchingState, entries_of}

-- All fetched lengths are replayed except those that wait. What is held is the bytes after these reads. The service is where the uncrashed server's run over
-- them ends, if that has made no more output than a stream has room for
pub record HasReplayed {S : Type 0} (service : Machine S) (bytes lengths waiting : List ℕ) (acked : ℕ) (r : ReplayState S) : Type 0 where
  pub replayed : List ℕ
  pub lengths_are : replayed ++ waiting ≡ lengths
  pub within : sum replayed ≤ length bytes
  pub held : r.held ≡ drop (sum replayed) bytes
  pub acked_is : r.acked ≡ acked
  pub run : length (reference service bytes replayed).output ≤ longest_stream → RunsTo (reference service bytes replayed) acked r

-- an entry as far as it is fetched
pub record StandsFor {S : Type 0} (service : Machine S) (f : Fetched) (e : EntryState S) : Type 0 where
  pub head : e.head ≡ f.head
  pub bytes : e.bytes ≡ length f.bytes
  pub cuts : e.cuts ≡ cuts_of f.lengths
  pub bytes_fit : length f.bytes ≤ f.head.length
  pub lengths_fit : length f.lengths ≤ f.head.reads
  pub enough : sum f.lengths ≤ f.head.length
  pub next : IsShort e.waiting (length e.replay.held)
  pub replay : HasReplayed service f.bytes f.lengths e.waiting f.head.acked e.replay

abbrev pub StandFor : {S : Type 0} → Machine S → List Fetched → List (EntryState S) → Type 0
StandFor service [] [] = Unit {0}
StandFor service [] (e ∷ entries) = ⊥
StandFor service (f ∷ fetched) [] = ⊥
StandFor service (f ∷ fetched) (e ∷ entries) = StandsFor service f e × StandFor service fetched entries

abbrev pub AreWhole : List Fetched → Type 0
AreWhole fetched = AllByRecursion (λ f. is_whole f ≡ true) fetched

-- a restart that has fetched this much: all entries except the newest are complete
pub record StandsFetching {S : Type 0} (service : Machine S) (fetched : List Fetched) (s : FetchingState S) : Type 0 where
  pub entries : StandFor service fetched (entries_of s)
  pub newest : s.newest ≡ None → s.earlier ≡ []
  pub whole : AreWhole (drop 1 fetched)

-- an answer leads to what the law says, and one that doesn't fit changes nothing
abbrev pub AnswerLeads : {S : Type 0} → Machine S → Option (List Fetched) → (fits : Bool) → (before after : FetchingState S) → Type 0
AnswerLeads service None fits before after = (fits ≡ false) × (after ≡ before)
AnswerLeads service (Some more) fits before after = (fits ≡ true) × StandsFetching service more after

-- the law's answer: what is fetched after a message
abbrev pub fetched_then : (boot count : ℕ) → Message → List Fetched → Option (List Fetched)
fetched_then boot count message fetched = if message.boot == boot then fetched_after (wanted count fetched) message.body fetched else None

-- Marks: it has fetched this much, where what is below a mark counts as fetched
pub record StandsSoFar {S : Type 0} (service : Machine S) (so_far : FetchedSoFar) (s : FetchingState S) : Type 0 where
  pub fetched : StandsFetching service so_far.entries s
  pub awaits : awaits s.marks ≡ so_far.awaits_mark

-- Where any message leads, as the law says. A mark says how many bytes and reads are below it, but not which: so this holds for all those that it can be after
abbrev pub AnyLeads : {S : Type 0} → Machine S → Writing S → FetchedSoFar → AnyMessage → (fits : Bool) → (before after : FetchingState S) → Type 0
AnyLeads service writing so_far (Of_log message) fits before after =
    MatchOption (fetched_on (uses before.marks) before.boot before.count message so_far) ((fits ≡ false) × (after ≡ before))
    (λ more. (fits ≡ true) × StandsSoFar service more after)
AnyLeads service writing so_far (About_mark message) fits before after =
    MatchOption (mark_reported writing before.boot message so_far) ((fits ≡ false) × (after ≡ before))
    (λ m. (fits ≡ true) × ((bytes lengths : List ℕ) → IsFront service writing m bytes lengths → StandsSoFar service (begun_on bytes lengths so_far) after))

abbrev pub held_of : {S : Type 0} → Option (EntryState S) → ℕ
held_of None = 0
held_of (Some e) = length e.replay.held

-- all that is fetched, in the log's order
pub record StandsWhole {S : Type 0} (service : Machine S) (fetched : List Fetched) (all : List (EntryState S)) : Type 0 where
  pub entries : StandFor service fetched all
  pub whole : AreWhole fetched

-- An entry that is restored: its service is where the uncrashed server's run over all its reads ends, if that has made no more output than a stream has room
-- for. What is held is its bytes after them
pub record IsReplayed {S : Type 0} (service : Machine S) (e : Entry) (r : ReplayedState S) : Type 0 where
  pub head : r.head ≡ head_of e
  pub cuts : r.cuts ≡ cuts_of e.lengths
  pub enough : sum e.lengths ≤ length e.bytes
  pub rest : r.replay.held ≡ drop (sum e.lengths) e.bytes
  pub run : length (run_of service e).output ≤ longest_stream → RunsTo (run_of service e) e.acknowledged r.replay

-- the entries, beginning with the first that isn't done
abbrev pub live_from : List Fetched → List Fetched
live_from [] = []
live_from (f ∷ fetched) = if f.head.done then live_from fetched else f ∷ fetched

-- the next one, if there is one, is restored
abbrev pub NextIs : {S : Type 0} → Machine S → List Fetched → Option (ReplayedState S) → List (EntryState S) → Type 0
NextIs service [] next rest = (next ≡ None) × (rest ≡ [])
NextIs service (f ∷ fetched) next rest = MatchOption next ⊥ (IsReplayed service (entry_in f)) × StandsWhole service fetched rest

-- the first entry at the end of a restart: a key whose connection has ended, or one that is restored
abbrev pub restored_of : {S : Type 0} → EntryState S → Restored S
restored_of e = if e.head.done then restored.Ended e.head.key else restored.Live (replayed_state e)

abbrev pub first_restored : {S : Type 0} → List (EntryState S) → Option (Restored S)
first_restored [] = None
first_restored (e ∷ entries) = Some (restored_of e)

abbrev pub RestoredIs : {S : Type 0} → Machine S → Fetched → Restored S → Type 0
RestoredIs service f (restored.Ended key) = (f.head.done ≡ true) × (key ≡ f.head.key)
RestoredIs service f (restored.Live r) = (f.head.done ≡ false) × IsReplayed service (entry_in f) r

-- it is the first that was fetched
abbrev pub FirstIs : {S : Type 0} → Machine S → List Fetched → Option (Restored S) → List (EntryState S) → Type 0
FirstIs service [] next rest = (next ≡ None) × (rest ≡ [])
FirstIs service (f ∷ fetched) next rest = MatchOption next ⊥ (RestoredIs service f) × StandsWhole service fetched rest
