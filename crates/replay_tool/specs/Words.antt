-- The arguments of `ftreplay`. Those of a seed are defined by `asked`.
use Rattle.std.specs.Prelude.{◌≡◌, ℕ, Bool, false, None, List, [], ◌∷◌, codes, if◌then◌else◌}
use Rattle.std.specs.Str.{bytes_eq}
use Rattle.replay_seed.specs.SeedWords.{asked}

-- the one word `run`
abbrev pub is_run : List (List ℕ) → Bool
is_run (word ∷ []) = bytes_eq word (codes "run")
is_run _ = false

-- the one word `check`
abbrev pub is_check : List (List ℕ) → Bool
is_check (word ∷ []) = bytes_eq word (codes "check")
is_check _ = false

-- neither `run` nor `check` nor the arguments of a seed
abbrev pub AreOther : List (List ℕ) → Type 0
AreOther words = (is_run words ≡ false) × (is_check words ≡ false) × (asked words ≡ None)

-- the largest number of bytes read from the input: one more than the limit of a schedule, or for `check` of a report
abbrev pub most_read : List (List ℕ) → ℕ
most_read words = if is_check words then 268435457 else 8388609
