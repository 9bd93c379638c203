-- What the arguments of a generated run ask for.
use Rattle.std.specs.Prelude.{ℕ, Option, None, Some, List, [], ◌∷◌, codes, if◌then◌else◌}
use Rattle.std.specs.Str.{bytes_eq}
use Rattle.ft_model.specs.Spelling.{number_of}
use Rattle.replay_seed.specs.declared.asked.Asked.{Asked}

-- three numbers, if all are given
abbrev pub asked_of : (seed clients events : Option ℕ) → Option Asked
asked_of (Some seed) (Some clients) (Some events) = Some (record { seed = seed; clients = clients; events = events })
asked_of _ _ _ = None

-- `seed`, a seed of 64 bits, 1 to 16 clients and 1 to 20,000 events, spelled as the numbers of a schedule
abbrev pub asked : List (List ℕ) → Option Asked
asked (word ∷ seed ∷ clients ∷ events ∷ []) =
    if bytes_eq word (codes "seed") then asked_of (number_of 0 18446744073709551615 seed) (number_of 1 16 clients) (number_of 1 20000 events) else None
asked _ = None
