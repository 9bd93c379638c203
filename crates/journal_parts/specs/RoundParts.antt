-- What the parts of a logger with a journal do in a round, and in the rounds so far.
use Rattle.std.specs.Prelude.{◌≡◌, ◌⊎◌, ◌≤◌, ◌+◌, ℕ, Bool, true, Option, List, [], ◌∷◌, ◌++◌, length}
use Rattle.std.specs.List.{AllByRecursion}
use Rattle.ft_io.specs.Sink.{AppendsFront}
use Rattle.ft_io.specs.Reported.{Reports}
use Rattle.ft_io.specs.declared.link_call.LinkCall.{LinkCall}
use Rattle.forget_store.specs.AnyMessage.{heeded_in}
use Rattle.forget_store.specs.declared.heeding.Heeded.{Heeded}
use Rattle.ft_model.specs.Log.{Log}
use Rattle.disk.specs.CallRecord.{on_link, link_calls}
use Rattle.disk.specs.declared.calls.DeskCall.{DeskCall}
use Rattle.kept_log.specs.Compaction.{IsCompacted, IsCutCompaction}
use Rattle.kept_log.specs.JournaledLog.{KeptState}
use Rattle.forget_store.specs.Replies.{reply_bytes}
use Rattle.link_parts.specs.declared.counts.Counts.{Counts}
use Rattle.link_parts.specs.Counts.{counts_of, with_calls, count_line}
use Rattle.link_parts.specs.LoggerParts.{handing_bytes}
use Rattle.link_parts.specs.LoggerTurns.{log_then, log_with, answer_for}
use Rattle.link_parts.specs.Receipt.{Received, datagram, silence, failure, received_as}
use Rattle.link_parts.specs.declared.status.NodeEnd.TheVariants.{LinkFault, NoMemory, WriteFault}
use Rattle.journal_parts.specs.declared.answers.Answer.{Answer}
use Rattle.journal_parts.specs.declared.status.ProcessEnd.{ProcessEnd}
use Rattle.journal_parts.specs.declared.status.ProcessEnd.TheVariants.{Node, JournalFault}
use Rattle.journal_parts.specs.Ends.{cut_text}
use Rattle.journal_parts.specs.LoggerLife.{IsStopped, IsUnanswered, IsUnreplaced}
use Rattle.journal_parts.specs.declared.role.JournalRole.{JournalRole}
use Rattle.ft_io.specs.declared.link_call.LinkCall.TheVariants.{Bound}
use Rattle.disk.specs.declared.calls.DeskCall.TheVariants.{OnLink}
use Rattle.std.specs.Io.KnownBytes.{Appends}
use Rattle.journal_parts.specs.Rounds.{Place, Round, Step, IsDatagram, IsRound, received_in, log_behind, receives, change_in, change_by, changes_in}
use Rattle.journal_parts.specs.Rounds.{after_receives, round_calls, place_after, calls_of, turns_in}
use Rattle.journal_parts.specs.Due.{IsDue, IsDueAfter, AreStepsBy}
use Rattle.journal_parts.specs.Waits.{LastWants, HasReason}

abbrev pub place_of : KeptState → Place
place_of kept = record { tip = kept.tip; log = kept.log; heeded = kept.heeded }

-- after a receive: its message is applied to the log, and waits for the commit if it has changed the log
abbrev pub with_received : KeptState → Received → KeptState
with_received kept r = record kept { log = log_then kept.heeded kept.log r; round = kept.round ++ change_by kept.heeded kept.log r }

-- bytes arrived
abbrev pub with_bytes : KeptState → List ℕ → KeptState
with_bytes kept bytes = record kept {
  log = log_with kept.log (heeded_in kept.heeded bytes);
  round = kept.round ++ change_in kept.log bytes (heeded_in kept.heeded bytes);
}

-- .. after these receives, the newest first
abbrev pub with_all_received : KeptState → List Received → KeptState
with_all_received kept received = record kept {
  log = log_behind kept.heeded kept.log received;
  round = kept.round ++ changes_in kept.heeded kept.log received;
}

-- what waits to be sent because of a receive: an answer, or no bytes where there is none
abbrev pub reply_to : Heeded → Log → Received → List Answer
reply_to heeded log (datagram from bytes) = record { to = from; out = reply_bytes heeded.grammar (answer_for log (heeded_in heeded bytes)) } ∷ []
reply_to heeded log silence = []
reply_to heeded log failure = []

abbrev pub replies_to : Heeded → Log → List Received → List Answer
replies_to heeded log [] = []
replies_to heeded log (last ∷ earlier) = replies_to heeded log earlier ++ reply_to heeded (log_behind heeded log earlier) last

-- the calls by which answers are handed to send, in their order
abbrev pub AreHanded : List Answer → List LinkCall → Type 0
AreHanded [] calls = calls ≡ []
AreHanded (answer ∷ answers) calls = (is_lost : Bool) × (rest : List LinkCall) × (calls ≡ handing_bytes answer.to is_lost answer.out ++ rest)
    × AreHanded answers rest

pub record HandsOver (answer : Answer) (old new : Option (List DeskCall)) (counted counts : Counts) : Type 0 where
  pub is_lost : Bool
  pub reports : Reports old new (on_link (handing_bytes answer.to is_lost answer.out))
  pub counts_are : counts ≡ with_calls counted (handing_bytes answer.to is_lost answer.out)

pub record HasAnswered (answers : List Answer) (old new : Option (List DeskCall)) (counted counts : Counts) : Type 0 where
  pub calls : List LinkCall
  pub handed : AreHanded answers calls
  pub reports : Reports old new (on_link calls)
  pub counts_are : counts ≡ with_calls counted calls

-- one receive, which gave a datagram if `is_more`
pub record HasTaken (is_more : Bool) (before after : KeptState) (old new : Option (List DeskCall)) (counted counts : Counts)
    (waiting answers : List Answer) : Type 0 where
  pub received : Received
  pub is_datagram : is_more ≡ true → IsDatagram received
  pub reports : Reports old new (on_link (received_as received ∷ []))
  pub counts_are : counts ≡ with_calls counted (received_as received ∷ [])
  pub after_is : after ≡ with_received before received
  pub answers_are : answers ≡ waiting ++ reply_to before.heeded before.log received

-- this many receives, each of which gave a datagram
pub record IsGathering (count : ℕ) (before after : KeptState) (old new : Option (List DeskCall)) (counted counts : Counts)
    (answers : List Answer) : Type 0 where
  pub received : List Received
  pub count_is : length received ≡ count
  pub are_datagrams : AllByRecursion IsDatagram received
  pub reports : Reports old new (on_link (receives received))
  pub counts_are : counts ≡ with_calls counted (receives received)
  pub after_is : after ≡ with_all_received before received
  pub answers_are : answers ≡ replies_to before.heeded before.log received

-- the receives of a round
pub record HasGathered (count : ℕ) (before after : KeptState) (old new : Option (List DeskCall)) (counted counts : Counts)
    (answers : List Answer) : Type 0 where
  pub received : List Received
  pub count_is : length received ≡ count
  pub is_round : IsRound received
  pub reports : Reports old new (on_link (receives received))
  pub counts_are : counts ≡ with_calls counted (receives received)
  pub after_is : after ≡ with_all_received before received
  pub answers_are : answers ≡ replies_to before.heeded before.log received

-- receives of a round that ended because an allocation failed: the last one gave a message for which the log needed memory
pub record IsCutGathering (most : ℕ) (heeded : Heeded) (log : Log) (old new : Option (List DeskCall)) : Type 0 where
  pub received : List Received
  pub wants : LastWants heeded log received
  pub within : length received ≤ most
  pub is_round : IsRound received
  pub reports : Reports old new (on_link (receives received))

-- a complete round
pub record HasTurned (count : ℕ) (before after : KeptState) (old new : Option (List DeskCall)) (counted counts : Counts) : Type 0 where
  pub round : Round
  pub count_is : length round ≡ count
  pub is_round : IsRound (received_in round)
  pub reports : Reports old new (round_calls (place_of before) round)
  pub counts_are : counts ≡ with_calls counted (link_calls (round_calls (place_of before) round))
  pub place : place_of after ≡ after_receives (place_of before) (received_in round)
  pub idle : after.round ≡ []

-- a round that isn't answered
pub record IsCutRound (most : ℕ) (at : Place) (old new : Option (List DeskCall)) : Type 0 where
  pub received : List Received
  pub cut : List DeskCall
  pub reason : HasReason at.heeded at.log received
  pub within : length received ≤ most
  pub unanswered : IsUnanswered at received cut
  pub reports : Reports old new cut

-- the file stays, and nothing is called on it
abbrev pub Stays : (before after : KeptState) → (old new : Option (List DeskCall)) → Type 0
Stays before after old new = (after.tip ≡ before.tip) × Reports old new []

-- A file that is due is replaced, if the new one can be written; no other is. `last` is its length after the last time, and `next` that after this one
abbrev pub HasCompacted : (least last next : ℕ) → (before after : KeptState) → (old new : Option (List DeskCall)) → Type 0
HasCompacted least last next before after old new =
    (after.log ≡ before.log) × (after.heeded ≡ before.heeded) × (after.round ≡ [])
    × (((IsDue least last before.tip.end → ⊥) × (next ≡ last) × Stays before after old new)
    ⊎ (IsDue least last before.tip.end × (next ≡ after.tip.end)
    × (((made : List ℕ) × IsCompacted made before.tip before.log after.tip old new) ⊎ Stays before after old new)))

-- .. or it was to be, and that failed
abbrev pub FailsToCompact : (least last : ℕ) → (before : KeptState) → (old new : Option (List DeskCall)) → Type 0
FailsToCompact least last before old new = IsDue least last before.tip.end × ((made : List ℕ) × IsCutCompaction made before.tip before.log old new)

-- rounds of this many turns in all
pub record HasServed (least count : ℕ) (start at : Place) (old new : Option (List DeskCall)) (counts : Counts) : Type 0 where
  pub rounds : List Step
  pub are_rounds : AreStepsBy least start rounds
  pub count_is : turns_in rounds ≡ count
  pub reports : Reports old new (calls_of start rounds)
  pub counts_are : counts ≡ counts_of (link_calls (calls_of start rounds))
  pub at_is : at ≡ place_after start rounds

-- rounds, and one that isn't answered
pub record IsCutServing (least most : ℕ) (start : Place) (old new : Option (List DeskCall)) : Type 0 where
  pub rounds : List Step
  pub received : List Received
  pub cut : List DeskCall
  pub reason : IsStopped most start rounds received
  pub are_rounds : AreStepsBy least start rounds
  pub unanswered : IsUnanswered (place_after start rounds) received cut
  pub within : turns_in rounds + length received ≤ most
  pub reports : Reports old new (calls_of start rounds ++ cut)

-- steps, and a new file that was to take the place of the old one
pub record IsCutReplacing (least most : ℕ) (start : Place) (old new : Option (List DeskCall)) : Type 0 where
  pub rounds : List Step
  pub cut : List DeskCall
  pub are_rounds : AreStepsBy least start rounds
  pub due : IsDueAfter least start rounds
  pub unreplaced : IsUnreplaced (place_after start rounds) cut
  pub within : turns_in rounds ≤ most
  pub reports : Reports old new (calls_of start rounds ++ cut)

-- how steps end because a call on the file failed
abbrev pub IsFaulted : (least most : ℕ) (start : Place) (old new : Option (List DeskCall)) → Type 0
IsFaulted least most start old new = IsCutServing least most start old new ⊎ IsCutReplacing least most start old new

-- .. or because memory ran out
abbrev pub HasEndedBy : (least most : ℕ) (start : Place) (old new : Option (List DeskCall)) → ProcessEnd → Type 0
HasEndedBy least most start old new (Node NoMemory) = IsCutServing least most start old new
HasEndedBy least most start old new JournalFault = IsFaulted least most start old new
HasEndedBy least most start old new _ = ⊥

-- rounds of this many turns in all, whose counts are written
pub record HasLived (least count : ℕ) (start : Place) (old new : Option (List DeskCall)) (Writes : List ℕ → Type 0) : Type 0 where
  pub rounds : List Step
  pub are_rounds : AreStepsBy least start rounds
  pub count_is : turns_in rounds ≡ count
  pub reports : Reports old new (calls_of start rounds)
  pub written : Writes (count_line (counts_of (link_calls (calls_of start rounds))))

-- how rounds and their line stop
abbrev pub ServingStops : (least most : ℕ) → Place → (old new : Option (List DeskCall)) → (out_old out_new : Option (List ℕ)) → ProcessEnd → Type 0
ServingStops least most start old new out_old out_new (Node NoMemory) = IsCutServing least most start old new × (out_new ≡ out_old)
ServingStops least most start old new out_old out_new (Node WriteFault) = HasLived least most start old new (AppendsFront out_old out_new)
ServingStops least most start old new out_old out_new JournalFault = IsFaulted least most start old new × (out_new ≡ out_old)
ServingStops least most start old new out_old out_new _ = ⊥

-- how rounds may stop
abbrev pub IsServeEnd : ProcessEnd → Type 0
IsServeEnd end = (end ≡ Node NoMemory) ⊎ (end ≡ JournalFault)

-- the line of the opening, the bind, and rounds whose counts are written
pub record HasServedNoted (role : JournalRole) (start : Place) (torn : ℕ) (old new : Option (List DeskCall)) (Writes Notes : List ℕ → Type 0) : Type 0 where
  pub rounds : List Step
  pub are_rounds : AreStepsBy role.compact start rounds
  pub count_is : turns_in rounds ≡ role.logger.turns
  pub reports : Reports old new (OnLink (Bound role.logger.local) ∷ calls_of start rounds)
  pub written : Writes (count_line (counts_of (link_calls (calls_of start rounds))))
  pub noted : Notes (cut_text torn)

-- .. and one that isn't answered
pub record IsCutServingNoted (role : JournalRole) (start : Place) (torn : ℕ) (old new : Option (List DeskCall)) (Notes : List ℕ → Type 0) : Type 0 where
  pub rounds : List Step
  pub received : List Received
  pub cut : List DeskCall
  pub reason : IsStopped role.logger.turns start rounds received
  pub are_rounds : AreStepsBy role.compact start rounds
  pub unanswered : IsUnanswered (place_after start rounds) received cut
  pub within : turns_in rounds + length received ≤ role.logger.turns
  pub reports : Reports old new (OnLink (Bound role.logger.local) ∷ (calls_of start rounds ++ cut))
  pub noted : Notes (cut_text torn)

-- .. and a new file that was to take the place of the old one
pub record IsCutReplacingNoted (role : JournalRole) (start : Place) (torn : ℕ) (old new : Option (List DeskCall)) (Notes : List ℕ → Type 0) : Type 0 where
  pub rounds : List Step
  pub cut : List DeskCall
  pub are_rounds : AreStepsBy role.compact start rounds
  pub due : IsDueAfter role.compact start rounds
  pub unreplaced : IsUnreplaced (place_after start rounds) cut
  pub within : turns_in rounds ≤ role.logger.turns
  pub reports : Reports old new (OnLink (Bound role.logger.local) ∷ (calls_of start rounds ++ cut))
  pub noted : Notes (cut_text torn)

-- how these stop
abbrev pub ServingNotedStops : JournalRole → Place → (torn : ℕ) → (old new : Option (List DeskCall)) → (out_old out_new err_old err_new : Option (List ℕ))
    → ProcessEnd → Type 0
ServingNotedStops role start torn old new out_old out_new err_old err_new (Node LinkFault) = Reports old new [] × Appends err_old err_new (cut_text torn)
    × (out_new ≡ out_old)
ServingNotedStops role start torn old new out_old out_new err_old err_new (Node WriteFault) =
    HasServedNoted role start torn old new (AppendsFront out_old out_new) (Appends err_old err_new)
    ⊎ (Reports old new [] × AppendsFront err_old err_new (cut_text torn) × (out_new ≡ out_old))
ServingNotedStops role start torn old new out_old out_new err_old err_new (Node NoMemory) = IsCutServingNoted role start torn old new
    (Appends err_old err_new) × (out_new ≡ out_old)
ServingNotedStops role start torn old new out_old out_new err_old err_new JournalFault =
    (IsCutServingNoted role start torn old new (Appends err_old err_new) ⊎ IsCutReplacingNoted role start torn old new (Appends err_old err_new))
    × (out_new ≡ out_old)
ServingNotedStops role start torn old new out_old out_new err_old err_new _ = ⊥
