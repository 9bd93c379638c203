-- A new file beside the one that is open, which is to take its place.
use Rattle.std.specs.Prelude.{◌≡◌, ℕ, List, ⊤, None, Some}
use Rattle.std.specs.declared.option.Option.{Option}

-- it has these bytes, or had them at its last sync, where that is specified
abbrev pub HasAside : Option (List ℕ) → List ℕ → Type 0
HasAside None bytes = ⊤
HasAside (Some aside) bytes = aside ≡ bytes
