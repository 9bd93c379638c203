-- Calls that are told after one another.
use Rattle.std.proofs.Common.{◌≡◌, ap, refl, List, [], ◌∷◌, ◌++◌}
use Rattle.disk.specs.declared.calls.DiskCall.{DiskCall}
use Rattle.disk.specs.declared.calls.DeskCall.TheVariants.{OnDisk}
use Rattle.disk.specs.CallRecord.{on_disk, disk_calls}

-- calls on the disk alone, one part after another
pub on_disk_append : (xs ys : List DiskCall) → on_disk (xs ++ ys) ≡ on_disk xs ++ on_disk ys
on_disk_append [] ys = refl
on_disk_append (x ∷ xs) ys = ap (λ l. OnDisk x ∷ l) (on_disk_append xs ys)

-- what a death asks for are these calls
pub disk_calls_of_disk : (xs : List DiskCall) → disk_calls (on_disk xs) ≡ xs
disk_calls_of_disk [] = refl
disk_calls_of_disk (x ∷ xs) = ap (λ l. x ∷ l) (disk_calls_of_disk xs)
