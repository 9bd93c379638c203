-- The count of failed calls, a u64 that stops at its maximum.
use Rattle.std.specs.Prelude.{ℕ, ◌+◌, ◌-◌, ◌^◌, ◌≤◌, min}

-- a count after one more failure
abbrev pub raised : ℕ → ℕ
raised count = min (count + 1) (2 ^ 64 - 1)

-- the count is larger by at least one failure, or is at its maximum
abbrev pub Rose : ℕ → ℕ → Type 0
Rose old new = (old ≤ new) × (raised old ≤ new)
