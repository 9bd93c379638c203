-- Keys that occur once.
use Rattle.std.specs.Prelude.{◌≡◌, Bool, false, List, [], ◌∷◌}
use Rattle.std.specs.List.{list_any}
use Rattle.ft_io.specs.declared.Key.{Key}
use Rattle.ft_io.specs.Key.{key_eq}

-- the key is in the list
abbrev pub has_key : Key → List Key → Bool
has_key key keys = list_any (λ k. key_eq k key) keys

-- no two keys of the list are equal
abbrev pub AreDistinct : List Key → Type 0
AreDistinct [] = Unit {0}
AreDistinct (key ∷ keys) = (has_key key keys ≡ false) × AreDistinct keys
