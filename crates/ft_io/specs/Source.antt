-- The bytes of a source that aren't read yet: `Some` bytes where its content is specified, and `None` where it isn't.
use Rattle.std.specs.Prelude.{ℕ, ◌≤◌, List, length}
use Rattle.std.specs.declared.option.Option.{Option}
use Rattle.std.specs.Io.KnownBytes.{Consumes}

-- some bytes were taken from the beginning of what was left, at most this many
abbrev pub ConsumesAtMost : ℕ → Option (List ℕ) → Option (List ℕ) → Type 0
ConsumesAtMost most old new = (front : List ℕ) × Consumes old new front × (length front ≤ most)
