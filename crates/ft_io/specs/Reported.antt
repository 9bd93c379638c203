-- The record of the calls on a link or a spawner: `Some` list of them, the oldest first, or `None` where calls aren't recorded.
use Rattle.std.specs.Prelude.{◌≡◌, List, ◌++◌, ⊤, None, Some}
use Rattle.std.specs.declared.option.Option.{Option}

-- these calls were appended to the record; or there is no record any more, and there won't be one again
abbrev pub Reports : {A : Type 0} → Option (List A) → Option (List A) → List A → Type 0
Reports old None calls = ⊤
Reports None (Some now) calls = ⊥
Reports (Some before) (Some now) calls = now ≡ before ++ calls
