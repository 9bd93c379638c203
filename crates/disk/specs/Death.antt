-- What a death leaves of a file, by one choice among all that it may leave.
use Rattle.std.specs.Prelude.{ℕ, ◌==◌, true, false, List, [], ◌∷◌, ◌++◌, length, take, if◌then◌else◌}
use Rattle.disk.specs.declared.calls.DiskCall.{DiskCall}
use Rattle.disk.specs.declared.calls.DiskCall.TheVariants.{Appended, Put, Cut, Synced, Replaced}
use Rattle.disk.specs.declared.calls.DeskCall.{DeskCall}
use Rattle.disk.specs.declared.calls.DeskCall.TheVariants.{OnLink, OnDisk}
use Rattle.disk.specs.declared.death.Death.{Death}
use Rattle.disk.specs.Remains.{with_byte, seen_after}

-- What is on the disk after a call, where `file` is what a read gave before the call and `held` is what was on the disk. Of an append that comes after all that
-- a read gave, a prefix is on the disk; of one after a torn end, nothing is. A byte that was put is there or not. A cut is done. A sync that failed did
-- nothing. A new file has the name or not.
abbrev pub held_after : Death → List ℕ → List ℕ → DiskCall → List ℕ
held_after death file held (Appended bytes failed) = if length held == length file then held ++ take death.kept bytes else held
held_after death file held (Put at byte failed) = if death.is_put then with_byte at byte held else held
held_after death file held (Cut at failed) = take at held
held_after death file held (Synced true) = held
held_after death file held (Synced false) = file
held_after death file held (Replaced bytes failed) = if death.is_put then bytes else held

-- .. and after calls, the oldest first
abbrev pub remains : Death → (file held : List ℕ) → List DeskCall → List ℕ
remains death file held [] = held
remains death file held (OnLink call ∷ calls) = remains death file held calls
remains death file held (OnDisk call ∷ calls) = remains death (seen_after file call) (held_after death file held call) calls

-- what a death in the course of these calls leaves of a file that had these bytes when it was opened
abbrev pub left_of : Death → List ℕ → List DeskCall → List ℕ
left_of death file calls = remains death file file (take death.calls calls)
