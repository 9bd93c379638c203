-- The promises for the arguments of a seed and for others: how the call ended, what was read, what was written to out and to err, and the status.
use Rattle.std.specs.Prelude.{◌≡◌, ◌⊎◌, ℕ, true, Err}
use Rattle.replay_seed.specs.declared.asked.Asked.{Asked}
use Rattle.replay_check.specs.Ends.{is_seed_code}
use Rattle.replay_check.specs.Outcome.{HasEnded, IsReported}
use Rattle.replay_tool.specs.SeedRuns.{SeedDoes}
use Rattle.replay_check.specs.Stream.{Stream, IsQuiet}
use Rattle.replay_check.specs.declared.status.RunEnd.TheVariants.{Usage}

-- For a seed: nothing was read. If no count of faults rises, the status is 0 or 8, unless an allocation failed
pub record HasSeeded (asked : Asked) (input out err : Stream) (code : ℕ) : Type 0 where
  pub ended : HasEnded (SeedDoes asked out) err code
  pub unread : input.Untouched
  pub settled : IsQuiet out → IsQuiet err → (code ≡ 0) ⊎ (code ≡ 3) ⊎ (code ≡ 8)
  pub codes : is_seed_code code ≡ true

-- For other arguments: the end is `Usage`, nothing was read, and nothing was written to out
pub record IsUsage (input out err : Stream) (code : ℕ) : Type 0 where
  pub reported : IsReported (Err Usage) err code
  pub unread : input.Untouched
  pub unwritten : out.Untouched
