-- A journal's file, version 2: a header, then blocks, of which each has a digest of all that comes before it, and after them whatever a death has left there.
-- The header has the time at which the file was made, and a digest of it, which is the journal's salt. The salt is in each block, so a block is recognised
-- wherever it is, and no block of another journal passes for one of this.
use Rattle.std.specs.Prelude.{◌≡◌, ℕ, ◌+◌, ◌≤◌, Bool, true, false, List, [], ◌∷◌, ◌++◌, length, take, codes}
use Rattle.sha2.specs.Sha256.{sha256}
use Rattle.seq_arith.specs.MessageGrammar.{number_bytes}
use Rattle.disk.specs.declared.calls.DiskCall.{DiskCall}
use Rattle.disk.specs.declared.calls.DiskCall.TheVariants.{Appended, Cut, Synced, Replaced}
use Rattle.disk.specs.Remains.{seen_after}
use Rattle.kept_log.specs.declared.tip.Tip.{Tip}

abbrev pub magic : List ℕ
magic = codes "ftlog 2\n"

-- the first 16 bytes of SHA-256 (FIPS 180-4)
unfoldable pub digest : List ℕ → List ℕ
digest bytes = take 16 (sha256 bytes)

-- `made`: eight bytes, the nanoseconds since 1970 at which the file was made
unfoldable pub salt_of : (made : List ℕ) → List ℕ
salt_of made = digest (magic ++ made)

abbrev pub header : (made : List ℕ) → List ℕ
header made = magic ++ (made ++ salt_of made)

-- where a block begins (`end`, in bytes), its number, and the digest of the block before it; the first block has the salt there
abbrev pub first_tip : (made : List ℕ) → Tip
first_tip made = record { salt = salt_of made; number = 1; previous = salt_of made; end = 32 }

-- a block's digest: of the digest before it, its number, its length and its body
unfoldable pub seal : Tip → (body : List ℕ) → List ℕ
seal tip body = digest (((tip.previous ++ number_bytes 8 tip.number) ++ number_bytes 4 (length body)) ++ body)

-- what comes before its body
unfoldable pub head : Tip → (body : List ℕ) → List ℕ
head tip body = tip.salt ++ (number_bytes 8 tip.number ++ (seal tip body ++ number_bytes 4 (length body)))

abbrev pub block : Tip → (body : List ℕ) → List ℕ
block tip body = head tip body ++ body

-- where the next block begins
abbrev pub next_tip : Tip → (body : List ℕ) → Tip
next_tip tip body = record tip { number = tip.number + 1; previous = seal tip body; end = tip.end + 44 + length body }

abbrev pub tip_behind : Tip → (bodies : List (List ℕ)) → Tip
tip_behind tip [] = tip
tip_behind tip (body ∷ bodies) = tip_behind (next_tip tip body) bodies

-- the blocks of these bodies, the oldest first
abbrev pub chain : Tip → (bodies : List (List ℕ)) → List ℕ
chain tip [] = []
chain tip (body ∷ bodies) = block tip body ++ chain (next_tip tip body) bodies

-- all bytes of a journal, and where its next block begins
abbrev pub front : (made : List ℕ) (bodies : List (List ℕ)) → List ℕ
front made bodies = header made ++ chain (first_tip made) bodies

abbrev pub tip_of : (made : List ℕ) (bodies : List (List ℕ)) → Tip
tip_of made bodies = tip_behind (first_tip made) bodies

-- a block has the messages of one round, at most as long as 256 of the longest
abbrev pub IsRound : (body : List ℕ) → Type 0
IsRound body = length body ≤ 381696

-- these bytes don't begin with this block, whatever its body is
abbrev pub BeginsNone : Tip → (bytes : List ℕ) → Type 0
BeginsNone tip bytes = (body rest : List ℕ) → IsRound body → bytes ≡ block tip body ++ rest → ⊥

-- a file is read as these blocks: no further one follows
pub record HasBlocks (made : List ℕ) (bodies : List (List ℕ)) (file : List ℕ) : Type 0 where
  pub time : length made ≡ 8
  pub tail : List ℕ
  pub is : file ≡ front made bodies ++ tail
  pub none : BeginsNone (tip_of made bodies) tail

-- nothing comes after the blocks, and a death changes nothing
pub record IsAtRest (file : List ℕ) (Held : List ℕ → Type 0) (made : List ℕ) (bodies : List (List ℕ)) : Type 0 where
  pub time : length made ≡ 8
  pub is : file ≡ front made bodies
  pub only : (c : List ℕ) → Held c → c ≡ file

-- The one premise on what a death leaves, where a read before it gave `seen`: all whole blocks that the file begins with were written. So what is behind
-- the last synced byte doesn't begin with a whole block, unless that is the one which was being written. Of a digest nothing else is assumed
abbrev pub BringsNone : (seen left : List ℕ) → Type 0
BringsNone seen left = (made : List ℕ) (bodies : List (List ℕ)) (rest : List ℕ) → left ≡ front made bodies ++ rest → (more : List ℕ)
    × (seen ≡ front made bodies ++ more)

-- the calls that append a block
abbrev pub keeping : Tip → (body : List ℕ) → List DiskCall
keeping tip body = Appended (block tip body) false ∷ Synced false ∷ []

-- the calls that cut off what comes after the blocks
abbrev pub mending : (end : ℕ) → List DiskCall
mending end = Cut end false ∷ Synced false ∷ []

-- the calls that make a journal in an empty file
abbrev pub making : (made : List ℕ) → List DiskCall
making made = Appended (header made) false ∷ Synced false ∷ []

-- the calls that append blocks, one after the other
abbrev pub all_kept : Tip → (bodies : List (List ℕ)) → List DiskCall
all_kept tip [] = []
all_kept tip (body ∷ bodies) = keeping tip body ++ all_kept (next_tip tip body) bodies

-- what a read would give after calls
abbrev pub seen_by : List ℕ → List DiskCall → List ℕ
seen_by file [] = file
seen_by file (call ∷ calls) = seen_by (seen_after file call) calls

-- a new file took the old one's name, and no sync has followed: then a death leaves the one or the other
abbrev pub is_unsettled : Bool → List DiskCall → Bool
is_unsettled unsettled [] = unsettled
is_unsettled unsettled (Replaced bytes failed ∷ calls) = is_unsettled true calls
is_unsettled unsettled (Synced false ∷ calls) = is_unsettled false calls
is_unsettled unsettled (_ ∷ calls) = is_unsettled unsettled calls

-- the premise after calls. While two files may have the name it asks nothing, since neither has anything unsynced
abbrev pub BringsNoneBy : (file : List ℕ) → List DiskCall → (left : List ℕ) → Type 0
BringsNoneBy file calls left = is_unsettled false calls ≡ false → BringsNone (seen_by file calls) left
