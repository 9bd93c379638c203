-- How the log grows: it never loses anything that it has.
use Rattle.std.specs.Prelude.{◌≡◌, ℕ, ◌≤◌, ◌+◌, true, Option, Some, None, List, [], ◌∷◌, ◌++◌, length}
use Rattle.ft_io.specs.declared.Key.{Key}
use Rattle.ft_model.specs.Offset.{one_if}
use Rattle.ft_model.specs.Log.{Entry, Log, entry_of}

-- the first list is a prefix of the second
abbrev pub IsPrefix : {A : Type 0} → List A → List A → Type 0
IsPrefix {A} front whole = (rest : List A) × (front ++ rest ≡ whole)

-- an entry and its later state: the numbers and the bytes stay, no byte is added after a FIN, and reads are only appended
pub record EntryGrows (before after : Entry) : Type 0 where
  pub key : after.key ≡ before.key
  pub cisn : after.cisn ≡ before.cisn
  pub sisn : after.sisn ≡ before.sisn
  pub mss : after.mss ≡ before.mss
  pub bytes : IsPrefix before.bytes after.bytes
  pub fin : before.fin ≡ true → after.fin ≡ true
  pub ended : before.fin ≡ true → after.bytes ≡ before.bytes
  pub lengths : IsPrefix before.lengths after.lengths
  pub acknowledged : before.acknowledged ≤ after.acknowledged
  pub done : before.done ≡ true → after.done ≡ true

-- every entry stays at its place
abbrev pub EntriesGrow : List Entry → List Entry → Type 0
EntriesGrow [] after = Unit {0}
EntriesGrow (e ∷ before) [] = ⊥
EntriesGrow (e ∷ before) (f ∷ after) = EntryGrows e f × EntriesGrow before after

pub record LogGrows (before after : Log) : Type 0 where
  pub boot : before.boot ≤ after.boot
  pub entries : EntriesGrow before.entries after.entries

abbrev pub lengths_in : Option Entry → List ℕ
lengths_in (Some e) = e.lengths
lengths_in None = []

-- the units of an entry: its bytes, and one more for its FIN
abbrev pub units_in : Option Entry → ℕ
units_in (Some e) = length e.bytes + one_if e.fin
units_in None = 0

-- the lengths of the logged reads of a connection; none while it has no entry
abbrev pub logged_lengths : Key → Log → List ℕ
logged_lengths key log = lengths_in (entry_of key log)

-- how many of a client's units are logged; none while it has no entry
abbrev pub logged_units : Key → Log → ℕ
logged_units key log = units_in (entry_of key log)
