-- A log whose changes are in a journal, except for those of the round that isn't committed yet.
use Rattle.std.specs.Prelude.{◌≡◌, ℕ, Bool, List, [], ◌∷◌, ◌++◌, length, nat_lt, if◌then◌else◌}
use Rattle.ft_model.specs.Log.{Log, empty_log}
use Rattle.forget_store.specs.declared.heeding.Heeded.{Heeded}
use Rattle.forget_store.specs.AnyMessage.{AnyMessage, is_changed_by, log_after_each}
use Rattle.disk.specs.declared.calls.DiskCall.{DiskCall}
use Rattle.kept_log.specs.Format.{tip_of, next_tip, keeping}
use Rattle.kept_log.specs.MessageList.{Says, AreKept}
use Rattle.kept_log.specs.declared.tip.Tip.{Tip}

pub record KeptState : Type 0 where
  pub log : Log
  pub heeded : Heeded  -- which messages it heeds
  pub tip : Tip  -- where the next block begins in the file
  pub round : List ℕ  -- the messages that have changed the log since the last commit, byte for byte as they came

-- no room is left for one more message of the greatest length
abbrev pub is_full : KeptState → Bool
is_full k = nat_lt 380205 (length k.round)

-- what is kept of the bytes of a message: all if it changes the log, otherwise none
abbrev pub kept_of : Log → AnyMessage → List ℕ → List ℕ
kept_of log any bytes = if is_changed_by log any then bytes else []

-- the calls that commit a round: none if it is empty
abbrev pub committing : Tip → List ℕ → List DiskCall
committing tip [] = []
committing tip (byte ∷ round) = keeping tip (byte ∷ round)

abbrev pub tip_after : Tip → List ℕ → Tip
tip_after tip [] = tip
tip_after tip (byte ∷ round) = next_tip tip (byte ∷ round)

abbrev pub with_round : List (List ℕ) → List ℕ → List (List ℕ)
with_round bodies [] = bodies
with_round bodies (byte ∷ round) = bodies ++ (byte ∷ round) ∷ []

-- the log of the blocks before this place
pub record HasLog (made : List ℕ) (bodies : List (List ℕ)) (tip : Tip) (log : Log) : Type 0 where
  pub time : length made ≡ 8
  pub messages : List AnyMessage
  pub kept : AreKept bodies messages
  pub tip_is : tip ≡ tip_of made bodies
  pub log_is : log ≡ log_after_each empty_log messages

-- a log after the uncommitted round, from the log before it
pub record Waits (before : Log) (round : List ℕ) (log : Log) : Type 0 where
  pub messages : List AnyMessage
  pub says : Says round messages
  pub log_is : log ≡ log_after_each before messages
