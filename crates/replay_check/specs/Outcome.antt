-- What was done and how its end was reported.
use Rattle.std.specs.Prelude.{◌≡◌, ◌⊎◌, ℕ, Result, Ok, Err}
use Rattle.std.specs.Io.KnownBytes.{Appends}
use Rattle.replay_check.specs.Ends.{code_of}
use Rattle.replay_check.specs.ErrText.{text_of}
use Rattle.replay_check.specs.PartialWrite.{WroteFront}
use Rattle.replay_check.specs.Stream.{Stream, HasFailed, HasNotFailed}
use Rattle.replay_check.specs.declared.status.RunEnd.{RunEnd}
use Rattle.replay_check.specs.declared.status.RunEnd.TheVariants.{WriteFault}

-- The status of an end, and what was written to err: nothing if all was done or if out failed; otherwise the whole text, or, with status 5, a prefix of it
-- if err failed
abbrev pub IsReported : Result (Unit {0}) RunEnd → (err : Stream) → (code : ℕ) → Type 0
IsReported (Ok _) err code = (code ≡ 0) × err.Untouched
IsReported (Err WriteFault) err code = (code ≡ 5) × err.Untouched
IsReported (Err end) err code =
    ((code ≡ code_of end) × Appends err.before err.after (text_of end) × HasNotFailed err)
    ⊎ ((code ≡ 5) × HasFailed err × WroteFront err.before err.after (text_of end))

-- what was done and what was reported agree on one end
pub record HasEnded (Did : Result (Unit {0}) RunEnd → Type 0) (err : Stream) (code : ℕ) : Type 0 where
  pub end : Result (Unit {0}) RunEnd
  pub did : Did end
  pub reported : IsReported end err code
