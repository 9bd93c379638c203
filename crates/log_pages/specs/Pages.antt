-- How the bytes of an entry are stored in pages, and its lengths in runs.
use Rattle.std.specs.Prelude.{zero, suc, ◌≡◌, ◌≤◌, ◌<◌, ◌+◌, ◌-◌, ◌*◌, ◌/◌, ◌%◌, ◌==◌, ℕ, Bool, false, not, List, length, take, drop, slice_get}
use Rattle.std.specs.Prelude.{replicate, ◌++◌, [], ◌∷◌, Option, Some, None, unwrap_or, map, sum, if◌then◌else◌}
use Rattle.std.specs.List.{flat_map, list_any}
use Rattle.std.specs.Option.{option_map_or}
use Rattle.std.specs.List.{position}
use Rattle.ft_io.specs.declared.Key.{Key}
use Rattle.ft_io.specs.Key.{key_eq}
use Rattle.ft_model.specs.Log.{Log, Entry}
use Rattle.log_pages.specs.declared.runs.Run.{Run}

-- a page that is full
abbrev pub IsFull : List ℕ → Type 0
IsFull page = length page ≡ 4096

-- the page of the last byte
pub record IsLast (page : List ℕ) : Type 0 where
  pub some : 0 < length page
  pub within : length page ≤ 4096

-- the bytes of full pages and of the last page
abbrev pub kept : List (List ℕ) → Option (List ℕ) → List ℕ
kept pages last = flat_map (λ page. page) pages ++ unwrap_or last []

-- the bytes of an entry, and how many of the pages before them aren't stored any more: zeros stand for their bytes
pub record Paged : Type 0 where
  pub bytes : List ℕ
  pub dropped : ℕ

-- how many more bytes fit into the page of the last of `len` bytes
abbrev pub room_after : ℕ → ℕ
room_after len = (4096 - len % 4096) % 4096

-- the bytes of page i, of a stream in pages
abbrev pub page_of : List ℕ → ℕ → List ℕ
page_of bytes i = take 4096 (drop (4096 * i) bytes)

-- bytes whose first `n` are discarded: zeros are in their place
abbrev pub zeroed : ℕ → List ℕ → List ℕ
zeroed n bytes = replicate n 0 ++ drop n bytes

-- how many of the first `bytes` bytes are in complete pages
abbrev pub pages : ℕ → ℕ
pages bytes = 4096 * (bytes / 4096)

-- level lengths: as many as `reads`, with the sum `bytes`; they differ by at most one, and the smaller ones come first
abbrev pub level : (reads bytes : ℕ) → List ℕ
level reads bytes = replicate (reads - bytes % reads) (bytes / reads) ++ replicate (bytes % reads) (bytes / reads + 1)

-- lengths whose first `reads` are discarded: level ones are in their place, as many and with the same sum
abbrev pub levelled : ℕ → List ℕ → List ℕ
levelled reads lengths = level reads (sum (take reads lengths)) ++ drop reads lengths

-- an entry without its first reads, and without the complete pages of the bytes that these took
abbrev pub without : (bytes reads : ℕ) → Entry → Entry
without bytes reads e = record e { bytes = zeroed (pages bytes) e.bytes; lengths = levelled reads e.lengths }

-- no closing read, of length 0, is among them
abbrev pub reads_on : List ℕ → Bool
reads_on lengths = not (list_any (λ n. n == 0) lengths)

-- the entry at a place, changed
abbrev pub changed_at : ℕ → (Entry → Entry) → List Entry → List Entry
changed_at i change [] = []
changed_at zero change (e ∷ es) = change e ∷ es
changed_at (suc i) change (e ∷ es) = e ∷ changed_at i change es

-- the place of a key's entry
abbrev pub place_of : Key → Log → Option ℕ
place_of key log = position (key_eq key) (map (λ e. e.key) log.entries)

-- the lengths of a run's reads
abbrev pub lengths_in : Run → List ℕ
lengths_in run = replicate run.count run.length

-- how many bytes the first reads took, where no closing read is among them
abbrev pub took : ℕ → List ℕ → Option ℕ
took reads lengths = if list_any (λ n. n == 0) (take reads lengths) then None else Some (sum (take reads lengths))

-- whether `n` is the last of the lengths
abbrev pub ends_with : ℕ → List ℕ → Bool
ends_with n lengths = option_map_or (λ last. last == n) (slice_get lengths (length lengths - 1)) false
