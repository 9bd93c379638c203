-- The names of the services.
use Rattle.std.specs.Prelude.{ℕ, List, Option, Some, None, bytes_eq, codes, if◌then◌else◌}

-- the kind of service that a name means
abbrev pub kind_named : List ℕ → Option ℕ
kind_named name =
    if bytes_eq name (codes "echo") then Some 1
    else (if bytes_eq name (codes "line") then Some 2
    else (if bytes_eq name (codes "transfer") then Some 3
    else (if bytes_eq name (codes "meter") then Some 4 else None)))
