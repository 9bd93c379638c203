-- What a death may leave of a file: a process dies, or a machine loses its power, at any moment.
use Rattle.std.specs.Prelude.{◌≡◌, ◌⊎◌, ℕ, ◌+◌, true, false, List, [], ◌∷◌, ◌++◌, length, take, drop}
use Rattle.disk.specs.declared.calls.DiskCall.{DiskCall}
use Rattle.disk.specs.declared.calls.DiskCall.TheVariants.{Appended, Put, Cut, Synced, Replaced}

-- a file with another byte at a place
abbrev pub with_byte : ℕ → ℕ → List ℕ → List ℕ
with_byte at byte file = take at file ++ byte ∷ drop (at + 1) file

-- what a read of the open file would give after a call; where a new file failed to take its place it is still the old one
abbrev pub seen_after : List ℕ → DiskCall → List ℕ
seen_after file (Appended bytes failed) = file ++ bytes
seen_after file (Put at byte failed) = with_byte at byte file
seen_after file (Cut at failed) = take at file
seen_after file (Synced failed) = file
seen_after file (Replaced bytes true) = file
seen_after file (Replaced bytes false) = bytes

-- What a death during a call or after it may leave under the file's name, which may have these contents before. After a file's end, from an append to the next
-- sync, anything may be there. A byte that is put is the old one or the new one. From a cut to the next sync anything may be after it. A new file takes the old
-- one's name at one moment (the system's rename). But until the next sync, which is one of the folder too, the name may be the old file's again.
abbrev pub MayLeave : List ℕ → (List ℕ → Type 0) → DiskCall → List ℕ → Type 0
MayLeave file Held (Appended bytes failed) c = (d : List ℕ) × Held d × ((c ≡ d) ⊎ (take (length file) c ≡ d))
MayLeave file Held (Put at byte failed) c = (d : List ℕ) × Held d × ((c ≡ d) ⊎ (c ≡ with_byte at byte d))
MayLeave file Held (Cut at failed) c = (d : List ℕ) × Held d × (take at c ≡ take at d)
MayLeave file Held (Synced true) c = Held c
MayLeave file Held (Synced false) c = c ≡ file
MayLeave file Held (Replaced bytes failed) c = Held c ⊎ (c ≡ bytes)

-- .. and after calls, the oldest first
abbrev pub LeftBy : List ℕ → (List ℕ → Type 0) → List DiskCall → List ℕ → Type 0
LeftBy file Held [] = Held
LeftBy file Held (call ∷ calls) = LeftBy (seen_after file call) (MayLeave file Held call) calls

abbrev pub failed : DiskCall → DiskCall
failed (Appended bytes f) = Appended bytes true
failed (Put at byte f) = Put at byte true
failed (Cut at f) = Cut at true
failed (Synced f) = Synced true
failed (Replaced bytes f) = Replaced bytes true

-- the calls that were made, of a list of calls: a prefix of it, whose last call may have failed
abbrev pub IsFrontOf : List DiskCall → List DiskCall → Type 0
IsFrontOf calls [] = Unit {0}
IsFrontOf [] (call ∷ done) = ⊥
IsFrontOf (next ∷ calls) (call ∷ done) = ((call ≡ next) × IsFrontOf calls done) ⊎ ((call ≡ failed next) × (done ≡ []))
