-- The turns of a logger that keeps its log in a journal. They come in rounds: the receives of all of a round's turns, then the calls that keep what these
-- changed, then the answers. So no answer is sent before all that its round changed is on the disk.
use Rattle.std.specs.Prelude.{◌≤◌, ℕ, ◌+◌, Option, Some, None, List, [], ◌∷◌, ◌++◌, length, map}
use Rattle.std.specs.List.{AllByRecursion}
use Rattle.ft_io.specs.declared.link_call.LinkCall.{LinkCall}
use Rattle.forget_store.specs.AnyMessage.{AnyMessage, heeded_in}
use Rattle.forget_store.specs.declared.heeding.Heeded.{Heeded}
use Rattle.ft_model.specs.Log.{Log}
use Rattle.disk.specs.declared.calls.DeskCall.{DeskCall}
use Rattle.disk.specs.CallRecord.{on_link, on_disk}
use Rattle.kept_log.specs.Format.{tip_of}
use Rattle.kept_log.specs.Compaction.{HasSameLog, replacing}
use Rattle.kept_log.specs.JournaledLog.{kept_of, committing, tip_after}
use Rattle.kept_log.specs.declared.tip.Tip.{Tip}
use Rattle.link_parts.specs.LoggerTurns.{LoggerTurn, log_then, answering}
use Rattle.link_parts.specs.Receipt.{Received, datagram, silence, failure, received_as}

-- the turns of a round, the newest first: of each what was received, and whether the send of its answer fails
abbrev pub Round : Type 0
Round = List LoggerTurn

abbrev pub received_in : Round → List Received
received_in round = map (λ turn. turn.received) round

abbrev pub IsDatagram : Received → Type 0
IsDatagram (datagram from bytes) = Unit {0}
IsDatagram silence = ⊥
IsDatagram failure = ⊥

-- at least one receive and at most 256. A receive that gave no datagram is the last
abbrev pub IsRound : List Received → Type 0
IsRound [] = ⊥
IsRound (last ∷ earlier) = (length (last ∷ earlier) ≤ 256) × AllByRecursion IsDatagram earlier

-- the log after receives, the newest first, from the log before them
abbrev pub log_behind : Heeded → Log → List Received → Log
log_behind heeded log [] = log
log_behind heeded log (last ∷ earlier) = log_then heeded (log_behind heeded log earlier) last

abbrev pub receives : List Received → List LinkCall
receives [] = []
receives (last ∷ earlier) = receives earlier ++ received_as last ∷ []

-- the bytes of a receive, if they are a message that changes the log
abbrev pub change_in : Log → List ℕ → Option AnyMessage → List ℕ
change_in log bytes (Some any) = kept_of log any bytes
change_in log bytes None = []

abbrev pub change_by : Heeded → Log → Received → List ℕ
change_by heeded log (datagram from bytes) = change_in log bytes (heeded_in heeded bytes)
change_by heeded log silence = []
change_by heeded log failure = []

-- the messages that changed the log, each after those before it, one after the other as they arrived
abbrev pub changes_in : Heeded → Log → List Received → List ℕ
changes_in heeded log [] = []
changes_in heeded log (last ∷ earlier) = changes_in heeded log earlier ++ change_by heeded (log_behind heeded log earlier) last

-- each answer is the log's at its message's place, and is sent to the message's sender
abbrev pub answers_in : Heeded → Log → Round → List LinkCall
answers_in heeded log [] = []
answers_in heeded log (last ∷ earlier) =
    answers_in heeded log earlier ++ answering heeded (log_behind heeded log (received_in earlier)) last.is_lost last.received

-- a log, which messages it heeds, and where the next block begins in the file that has it
pub record Place : Type 0 where
  pub tip : Tip
  pub log : Log
  pub heeded : Heeded

abbrev pub after_receives : Place → List Received → Place
after_receives at received = record {
  tip = tip_after at.tip (changes_in at.heeded at.log received);
  log = log_behind at.heeded at.log received;
  heeded = at.heeded;
}

-- the calls of a round: its receives, then those that commit exactly the messages that changed the log (none if there are none), then its answers
abbrev pub round_calls : Place → Round → List DeskCall
round_calls at round =
    on_link (receives (received_in round))
    ++ (on_disk (committing at.tip (changes_in at.heeded at.log (received_in round))) ++ on_link (answers_in at.heeded at.log round))

-- A step of such a logger's life: a round; a new file, made at this time and with these blocks, takes the place of the old one; or such a file couldn't be
-- written, and the old one stays
pub data Step : Type 0 where
  Turned : Round → Step
  Compacted : (made : List ℕ) → (bodies : List (List ℕ)) → Step
  Stayed : Step

-- log and place after steps, the newest first
abbrev pub place_after : Place → List Step → Place
place_after start [] = start
place_after start (Turned last ∷ earlier) = after_receives (place_after start earlier) (received_in last)
place_after start (Compacted made bodies ∷ earlier) = record {
  tip = tip_of made bodies;
  log = (place_after start earlier).log;
  heeded = (place_after start earlier).heeded;
}
place_after start (Stayed ∷ earlier) = place_after start earlier

-- Their calls, the oldest call first. Between a new file's taking the name and the folder's sync there is no other call, so nothing is answered there
abbrev pub calls_of : Place → List Step → List DeskCall
calls_of start [] = []
calls_of start (Turned last ∷ earlier) = calls_of start earlier ++ round_calls (place_after start earlier) last
calls_of start (Compacted made bodies ∷ earlier) = calls_of start earlier ++ on_disk (replacing made bodies)
calls_of start (Stayed ∷ earlier) = calls_of start earlier

-- how many turns they have
abbrev pub turns_in : List Step → ℕ
turns_in [] = 0
turns_in (Turned last ∷ earlier) = turns_in earlier + length last
turns_in (Compacted made bodies ∷ earlier) = turns_in earlier
turns_in (Stayed ∷ earlier) = turns_in earlier

-- the rounds among them are such, and each new file has the log of the old one
abbrev pub AreSteps : Place → List Step → Type 0
AreSteps start [] = Unit {0}
AreSteps start (Turned last ∷ earlier) = IsRound (received_in last) × AreSteps start earlier
AreSteps start (Compacted made bodies ∷ earlier) = HasSameLog (place_after start earlier).tip (place_after start earlier).log made bodies
    × AreSteps start earlier
AreSteps start (Stayed ∷ earlier) = AreSteps start earlier
