-- What is stored of the marks of all connections of a node.
use Rattle.std.specs.Prelude.{◌≡◌, ℕ, Bool, false, None, List, unwrap_or, if◌then◌else◌}
use Rattle.std.specs.Map.{lookup}
use Rattle.ft_io.specs.declared.Key.{Key}
use Rattle.ft_io.specs.Key.{key_eq}
use Rattle.mark_laws.specs.Marking.{Marking}

-- after how many reads of a connection a mark is due, and what is stored of the connections' marks, each key's at most once
pub record KeyMarks : Type 0 where
  pub every : ℕ
  pub of : List (Key × Marking)

-- a connection that has no mark yet
abbrev pub no_marking : Marking
no_marking = record { last = 0; outstanding = None }

abbrev pub marking_in : KeyMarks → Key → Marking
marking_in m key = unwrap_or (lookup (key_eq key) m.of) no_marking

-- no marks are made of a service whose states can't be saved
abbrev pub every_for : (savable : Bool) → ℕ → ℕ
every_for savable every = if savable then every else 0

-- the markings of the other connections stay
abbrev pub KeepsOthers : Key → (old new : KeyMarks) → Type 0
KeepsOthers key old new = (k : Key) → key_eq k key ≡ false → marking_in new k ≡ marking_in old k

-- one connection's marking becomes this, and the others stay
pub record Changes (key : Key) (next : Marking) (old new : KeyMarks) : Type 0 where
  pub every : new.every ≡ old.every
  pub marking : (k : Key) → marking_in new k ≡ (if key_eq k key then next else marking_in old k)
