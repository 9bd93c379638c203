-- The life of a logger that keeps its log in a journal, and how it ends early.
use Rattle.std.specs.Prelude.{◌≡◌, ◌⊎◌, ◌≤◌, ◌+◌, ℕ, Bool, true, false, Option, Some, List, [], ◌∷◌, ◌++◌, length}
use Rattle.std.specs.Io.KnownBytes.{Appends}
use Rattle.ft_io.specs.Sink.{AppendsFront}
use Rattle.ft_io.specs.Reported.{Reports}
use Rattle.ft_io.specs.declared.link_call.LinkCall.TheVariants.{Bound}
use Rattle.forget_store.specs.declared.heeding.Heeded.{Heeded}
use Rattle.disk.specs.Remains.{IsFrontOf}
use Rattle.disk.specs.CallRecord.{on_link, on_disk, link_calls}
use Rattle.disk.specs.declared.calls.DeskCall.{DeskCall}
use Rattle.disk.specs.declared.calls.DeskCall.TheVariants.{OnLink}
use Rattle.disk.specs.declared.calls.DiskCall.{DiskCall}
use Rattle.kept_log.specs.JournaledLog.{HasLog, committing}
use Rattle.kept_log.specs.Compaction.{HasSameLog, replacing}
use Rattle.kept_log.specs.Format.{making}
use Rattle.kept_log.specs.Startup.{IsWhole, IsDamaged, IsUnfinished, IsOlder, HasGrammar, HasOtherGrammar}
use Rattle.link_parts.specs.Counts.{counts_of, count_line}
use Rattle.link_parts.specs.LoggerParts.{heeded_by}
use Rattle.link_parts.specs.Receipt.{Received}
use Rattle.link_parts.specs.declared.status.NodeEnd.TheVariants.{LinkFault, NoMemory, WriteFault}
use Rattle.journal_parts.specs.Rounds.{Place, Step, IsRound, receives, changes_in, place_after, calls_of, turns_in}
use Rattle.journal_parts.specs.Due.{IsDueAfter, AreStepsBy}
use Rattle.journal_parts.specs.Waits.{HasReason}
use Rattle.journal_parts.specs.declared.role.JournalRole.{JournalRole}
use Rattle.journal_parts.specs.declared.status.ProcessEnd.{ProcessEnd}
use Rattle.journal_parts.specs.declared.status.ProcessEnd.TheVariants.{Node, JournalFault, BadJournal, NoJournal, InUse}
use Rattle.journal_parts.specs.declared.status.Lack.{Lack}
use Rattle.journal_parts.specs.declared.status.Lack.TheVariants.{Missing, Present, Empty, Unfinished, Older, OtherProfile}
use Rattle.journal_parts.specs.Ends.{cut_text}

-- Where a process starts that opens its file: at the log of the blocks that the file has. By these calls it cuts off what a death has left after them, so
-- many bytes
pub record Opens (heeded : Heeded) (file : Option (List ℕ)) (opening : List DiskCall) (torn : ℕ) (start : Place) : Type 0 where
  pub made : List ℕ
  pub bodies : List (List ℕ)
  pub has_log : HasLog made bodies start.tip start.log
  pub finds : (bytes : List ℕ) → file ≡ Some bytes → (whole : IsWhole bytes made bodies opening) × (torn ≡ length whole.tail)
  pub heeded_is : start.heeded ≡ heeded

-- .. and one that makes its file: at the empty log
pub record Makes (heeded : Heeded) (opening : List DiskCall) (torn : ℕ) (start : Place) : Type 0 where
  pub made : List ℕ
  pub heeded_is : start.heeded ≡ heeded
  pub has_log : HasLog made [] start.tip start.log
  pub opening_is : opening ≡ making made
  pub none : torn ≡ 0

-- no journal of another grammar is opened
abbrev pub OpensOwn : (heeded : Heeded) (begins : Bool) → Option (List ℕ) → Type 0
OpensOwn heeded begins file = begins ≡ false → HasGrammar heeded.grammar file

-- a process makes its file if its words say so
abbrev pub Starts : (heeded : Heeded) (begins : Bool) (file : Option (List ℕ)) (opening : List DiskCall) (torn : ℕ) (start : Place) → Type 0
Starts heeded false file opening torn start = Opens heeded file opening torn start
Starts heeded true file opening torn start = Makes heeded opening torn start

-- A complete run: the file is opened or made, then comes the bind, then rounds, with this many turns in all. The counts of their calls are written
pub record IsKeeper (role : JournalRole) (file : Option (List ℕ)) (old new : Option (List DeskCall)) (Writes Notes : List ℕ → Type 0) : Type 0 where
  pub opening : List DiskCall
  pub start : Place
  pub rounds : List Step  -- the newest first
  pub torn : ℕ
  pub starts : Starts (heeded_by role.logger) role.begins file opening torn start
  pub own : OpensOwn (heeded_by role.logger) role.begins file
  pub are_rounds : AreStepsBy role.compact start rounds
  pub count_is : turns_in rounds ≡ role.logger.turns
  pub reports : Reports old new (on_disk opening ++ OnLink (Bound role.logger.local) ∷ calls_of start rounds)
  pub written : Writes (count_line (counts_of (link_calls (calls_of start rounds))))
  pub noted : Notes (cut_text torn)  -- on standard error, how many bytes the opening has cut off

-- A round that isn't answered: its receives so far, and a prefix of the calls that commit what they changed, whose last call may have failed. Or it hasn't
-- begun
pub record IsUnanswered (at : Place) (received : List Received) (calls : List DeskCall) : Type 0 where
  pub done : List DiskCall
  pub is_round : (received ≡ []) ⊎ IsRound received
  pub front : IsFrontOf (committing at.tip (changes_in at.heeded at.log received)) done
  pub calls_are : calls ≡ on_link (receives received) ++ on_disk done

-- where a run stops: before its first round, where there was no memory for its answers; after all, where there was none for the line of its counts; or in a
-- round, for a reason
abbrev pub IsStopped : (turns : ℕ) → Place → List Step → List Received → Type 0
IsStopped turns start rounds received =
    ((received ≡ []) × ((rounds ≡ []) ⊎ (turns_in rounds ≡ turns))) ⊎ HasReason (place_after start rounds).heeded (place_after start rounds).log received

-- a run that ended in a round, or after all of them
pub record IsCutKeeper (role : JournalRole) (file : Option (List ℕ)) (old new : Option (List DeskCall)) (Notes : List ℕ → Type 0) : Type 0 where
  pub opening : List DiskCall
  pub start : Place
  pub rounds : List Step
  pub received : List Received
  pub cut : List DeskCall
  pub torn : ℕ
  pub reason : IsStopped role.logger.turns start rounds received
  pub starts : Starts (heeded_by role.logger) role.begins file opening torn start
  pub own : OpensOwn (heeded_by role.logger) role.begins file
  pub are_rounds : AreStepsBy role.compact start rounds
  pub unanswered : IsUnanswered (place_after start rounds) received cut
  pub within : turns_in rounds + length received ≤ role.logger.turns
  pub reports : Reports old new (on_disk opening ++ OnLink (Bound role.logger.local) ∷ (calls_of start rounds ++ cut))
  pub noted : Notes (cut_text torn)

-- a new file was to take the place of the old one, and that failed: a prefix of the calls that do it, whose last call may have failed
pub record IsUnreplaced (at : Place) (calls : List DeskCall) : Type 0 where
  pub made : List ℕ
  pub bodies : List (List ℕ)
  pub done : List DiskCall
  pub same_log : HasSameLog at.tip at.log made bodies
  pub front : IsFrontOf (replacing made bodies) done
  pub calls_are : calls ≡ on_disk done

-- a run that ended there
pub record IsCutCompacting (role : JournalRole) (file : Option (List ℕ)) (old new : Option (List DeskCall)) (Notes : List ℕ → Type 0) : Type 0 where
  pub opening : List DiskCall
  pub start : Place
  pub rounds : List Step
  pub cut : List DeskCall
  pub torn : ℕ
  pub starts : Starts (heeded_by role.logger) role.begins file opening torn start
  pub own : OpensOwn (heeded_by role.logger) role.begins file
  pub are_rounds : AreStepsBy role.compact start rounds
  pub due : IsDueAfter role.compact start rounds
  pub unreplaced : IsUnreplaced (place_after start rounds) cut
  pub within : turns_in rounds ≤ role.logger.turns
  pub reports : Reports old new (on_disk opening ++ OnLink (Bound role.logger.local) ∷ (calls_of start rounds ++ cut))
  pub noted : Notes (cut_text torn)

-- a run that ended while its file was opened or made: a prefix of the calls that do it, whose last call may have failed
pub record IsCutOpening (heeded : Heeded) (begins : Bool) (file : Option (List ℕ)) (old new : Option (List DeskCall)) : Type 0 where
  pub opening : List DiskCall
  pub torn : ℕ
  pub start : Place
  pub done : List DiskCall
  pub starts : Starts heeded begins file opening torn start
  pub front : IsFrontOf opening done
  pub reports : Reports old new (on_disk done)

-- a run that ended before its address was bound
pub record IsUnbound (heeded : Heeded) (begins : Bool) (file : Option (List ℕ)) (old new : Option (List DeskCall)) (Notes : List ℕ → Type 0) : Type 0 where
  pub opening : List DiskCall
  pub torn : ℕ
  pub start : Place
  pub starts : Starts heeded begins file opening torn start
  pub reports : Reports old new (on_disk opening)
  pub noted : Notes (cut_text torn)

-- its file is open
abbrev pub IsOpen : (heeded : Heeded) (begins : Bool) → Option (List ℕ) → (torn : ℕ) → Place → (old new : Option (List DeskCall)) → Type 0
IsOpen heeded begins file torn start old new = (opening : List DiskCall) × Starts heeded begins file opening torn start × OpensOwn heeded begins file
    × Reports old new (on_disk opening)

-- a file that is refused, at this place
abbrev pub IsRefused : Option (List ℕ) → ℕ → Type 0
IsRefused file at = (bytes : List ℕ) → file ≡ Some bytes → IsDamaged at bytes

-- why there is no journal to go on with: only a process that opens its file finds one that lacks something, and only one that makes it finds it there
abbrev pub Lacks : (heeded : Heeded) (begins : Bool) → Option (List ℕ) → Lack → Type 0
Lacks heeded false file Missing = Unit {0}
Lacks heeded false file Empty = (bytes : List ℕ) → file ≡ Some bytes → bytes ≡ []
Lacks heeded false file Unfinished = (bytes : List ℕ) → file ≡ Some bytes → IsUnfinished bytes
Lacks heeded false file Older = (bytes : List ℕ) → file ≡ Some bytes → IsOlder bytes
Lacks heeded false file OtherProfile = HasOtherGrammar heeded.grammar file
Lacks heeded true file Present = Unit {0}
Lacks heeded _ file _ = ⊥

-- how the opening stops: a file that is refused is unchanged
abbrev pub OpeningStops : (heeded : Heeded) (begins : Bool) → (file : Option (List ℕ)) → (old new : Option (List DeskCall)) → ProcessEnd → Type 0
OpeningStops heeded begins file old new InUse = Reports old new []
OpeningStops heeded begins file old new (BadJournal at) = Reports old new [] × IsRefused file at × (begins ≡ false)
OpeningStops heeded begins file old new (NoJournal lack) = Reports old new [] × Lacks heeded begins file lack
OpeningStops heeded begins file old new JournalFault = Reports old new [] ⊎ IsCutOpening heeded begins file old new
OpeningStops heeded begins file old new (Node NoMemory) = Reports old new []
OpeningStops heeded begins file old new _ = ⊥

-- How such a logger stops early. No message of the round in which it stops is answered. A file that is refused is unchanged
module _ (role : JournalRole) (file : Option (List ℕ)) (old new : Option (List DeskCall)) (out_old out_new err_old err_new : Option (List ℕ)) where
  abbrev pub KeeperStops : ProcessEnd → Type 0
  KeeperStops (Node LinkFault) = IsUnbound (heeded_by role.logger) role.begins file old new (Appends err_old err_new) × (out_new ≡ out_old)
  KeeperStops (Node WriteFault) =
      IsKeeper role file old new (AppendsFront out_old out_new) (Appends err_old err_new)
      ⊎ (IsUnbound (heeded_by role.logger) role.begins file old new (AppendsFront err_old err_new) × (out_new ≡ out_old))
  KeeperStops (Node NoMemory) = ((Reports old new [] × (err_new ≡ err_old)) ⊎ IsCutKeeper role file old new (Appends err_old err_new)) × (out_new ≡ out_old)
  KeeperStops JournalFault =
      (((Reports old new [] ⊎ IsCutOpening (heeded_by role.logger) role.begins file old new) × (err_new ≡ err_old))
      ⊎ (IsCutKeeper role file old new (Appends err_old err_new) ⊎ IsCutCompacting role file old new (Appends err_old err_new))) × (out_new ≡ out_old)
  KeeperStops end = OpeningStops (heeded_by role.logger) role.begins file old new end × (err_new ≡ err_old) × (out_new ≡ out_old)
