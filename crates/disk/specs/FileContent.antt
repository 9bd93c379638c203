-- What calls make of an open file's bytes: those of POSIX's pwrite, ftruncate and fsync.
use Rattle.std.specs.Prelude.{◌≡◌, ◌≤◌, ℕ, ◌+◌, Option, IfSome, option_map, List, ◌++◌, length, take, drop}
use Rattle.disk.specs.declared.calls.DiskCall.{DiskCall}
use Rattle.disk.specs.Remains.{seen_after}

-- a file with these bytes at a place, over what was there. A place after the end counts as the end: nothing here writes there
abbrev pub written : ℕ → List ℕ → List ℕ → List ℕ
written at bytes file = take at file ++ (bytes ++ drop (at + length bytes) file)

-- the same of a file whose bytes may be unspecified
abbrev pub written_in : ℕ → List ℕ → Option (List ℕ) → Option (List ℕ)
written_in at bytes content = option_map (written at bytes) content

-- the place is in the file, or at its end
abbrev pub HasPlace : Option (List ℕ) → ℕ → Type 0
HasPlace content at = IfSome content (λ file. at ≤ length file)

-- the file has as many bytes as its disk counts
abbrev pub EndsAt : Option (List ℕ) → ℕ → Type 0
EndsAt content count = IfSome content (λ file. length file ≡ count)

-- Where the count of a file's bytes was right, a call has made of the file what it makes of a disk, and the count is right again
abbrev pub Becomes : (old : Option (List ℕ)) → (counted : ℕ) → (new : Option (List ℕ)) → (count : ℕ) → DiskCall → Type 0
Becomes old counted new count call = EndsAt old counted → (new ≡ option_map (λ file. seen_after file call) old) × EndsAt new count
