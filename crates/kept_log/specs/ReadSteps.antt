-- What the steps of reading a journal find.
use Rattle.std.specs.Prelude.{◌≡◌, ◌⊎◌, ◌≤◌, ◌^◌, ℕ, List, [], ◌++◌, length, Some}
use Rattle.std.specs.declared.option.Option.{Option}
use Rattle.std.specs.Io.KnownBytes.{Consumes}
use Rattle.ft_model.specs.Log.{Log}
use Rattle.kept_log.specs.Format.{header, seal, block, first_tip, next_tip, tip_of, chain, IsRound, BeginsNone}
use Rattle.kept_log.specs.MessageList.{AreKept}
use Rattle.kept_log.specs.JournaledLog.{HasLog, Waits}
use Rattle.kept_log.specs.Startup.{IsFollowed, IsTorn, HasNoBlock, IsOlder, IsUnfinished, HasNoHeader, IsDamaged, HasGrammar, HasOtherGrammar}
use Rattle.seq_arith.specs.declared.kinds.Grammar.{Grammar}
use Rattle.forget_store.specs.AnyMessage.{AnyMessage}
use Rattle.kept_log.specs.declared.tip.Tip.{Tip}
use Rattle.kept_log.specs.declared.header.Begin.{Begin}
use Rattle.kept_log.specs.declared.header.Begin.TheVariants as begins
use Rattle.kept_log.specs.declared.block.Start.{Start}
use Rattle.kept_log.specs.declared.block.Start.TheVariants as starts
use Rattle.kept_log.specs.declared.reading.Taken.{Taken}
use Rattle.kept_log.specs.declared.reading.Taken.TheVariants as takes
use Rattle.kept_log.specs.declared.reading.Reached.{Reached}
use Rattle.kept_log.specs.declared.reading.Reached.TheVariants as reaches
use Rattle.kept_log.specs.declared.reading.Found.{Found}
use Rattle.kept_log.specs.declared.reading.Found.TheVariants as finds

-- what a file begins with: these bytes are all of it, or at least a header's
abbrev pub HasBegin : List ℕ → Begin → Type 0
HasBegin bytes begins.Empty = bytes ≡ []
HasBegin bytes begins.Unfinished = IsUnfinished bytes
HasBegin bytes begins.Older = IsOlder bytes
HasBegin bytes (begins.Whole made) = (length made ≡ 8) × ((rest : List ℕ) × (bytes ≡ header made ++ rest))
HasBegin bytes begins.Missing = (more : List ℕ) → (32 ≤ length bytes) ⊎ (more ≡ []) → HasNoHeader (bytes ++ more)

-- what bytes begin with. `Short`: they begin with no block if nothing follows
abbrev pub StartsWith : Tip → List ℕ → Start → Type 0
StartsWith tip bytes (starts.Block len digest) =
    (body : List ℕ) × (rest : List ℕ) × (bytes ≡ block tip body ++ rest) × (length body ≡ len) × (len ≤ 381696) × (digest ≡ seal tip body)
StartsWith tip bytes starts.Short = BeginsNone tip bytes
StartsWith tip bytes starts.Other = (more : List ℕ) → BeginsNone tip (bytes ++ more)

-- what was taken from the beginning of bytes, and the log before and after it
abbrev pub Takes : (tip next : Tip) (bytes rest : List ℕ) (before after : Log) → Taken → Type 0
Takes tip next bytes rest before after takes.Block =
    (body : List ℕ) × (bytes ≡ block tip body ++ rest) × IsRound body × Waits before body after × (next ≡ next_tip tip body)
Takes tip next bytes rest before after takes.Short = BeginsNone tip bytes × (rest ≡ bytes) × (after ≡ before) × (next ≡ tip)
Takes tip next bytes rest before after takes.End = ((more : List ℕ) → BeginsNone tip (bytes ++ more)) × (rest ≡ bytes) × (after ≡ before) × (next ≡ tip)
Takes tip next bytes rest before after takes.Wrong = ((more : List ℕ) → HasNoBlock tip (bytes ++ more)) × (next ≡ tip)

-- .. by a step, which reads more in place of `Short`. `old` and `new`: what is left of the file before and after
abbrev pub Steps : (old new : Option (List ℕ)) (tip next : Tip) (bytes rest : List ℕ) (before after : Log) → Taken → Type 0
Steps old new tip next bytes rest before after takes.Block = Takes tip next bytes rest before after takes.Block × (new ≡ old)
Steps old new tip next bytes rest before after takes.Short = (more : List ℕ) × Consumes old new more × (rest ≡ bytes ++ more) × (after ≡ before) × (next ≡ tip)
Steps old new tip next bytes rest before after takes.End =
    Consumes old new [] × (rest ≡ bytes) × (after ≡ before) × (next ≡ tip) × ((left : List ℕ) → new ≡ Some left → BeginsNone tip (bytes ++ left))
Steps old new tip next bytes rest before after takes.Wrong = ((left : List ℕ) → old ≡ Some left → HasNoBlock tip (bytes ++ left)) × (next ≡ tip)

-- the place of a reading after blocks. The rest of what follows the header is in the window and in the file
pub record IsAt (made first : List ℕ) (old new : Option (List ℕ)) (window : List ℕ) (tip : Tip) (log : Log) : Type 0 where
  pub bodies : List (List ℕ)
  pub has_log : HasLog made bodies tip log
  pub proceeds : (left : List ℕ) → old ≡ Some left → (rest : List ℕ) × (new ≡ Some rest) × (first ++ left ≡ chain (first_tip made) bodies ++ (window ++ rest))

-- these bytes are blocks, and from this place of the file on there is no block
pub record IsBrokenAt (at : ℕ) (made bytes : List ℕ) : Type 0 where
  pub bodies : List (List ℕ)
  pub messages : List AnyMessage
  pub rest : List ℕ
  pub is : bytes ≡ chain (first_tip made) bodies ++ rest
  pub kept : AreKept bodies messages
  pub at_is : at ≡ (tip_of made bodies).end
  pub none : HasNoBlock (tip_of made bodies) rest

-- where the blocks end
abbrev pub Reaches : (made first : List ℕ) (old new : Option (List ℕ)) (window : List ℕ) (log : Log) → Reached → Type 0
Reaches made first old new window log (reaches.End tip) =
    IsAt made first old new window tip log × (tip.end ≤ 2 ^ 62) × (tip.number ≤ 2 ^ 62) × ((left : List ℕ) → new ≡ Some left → BeginsNone tip (window ++ left))
Reaches made first old new window log (reaches.Wrong at) = (left : List ℕ) → old ≡ Some left → IsBrokenAt at made (first ++ left)

-- what the bytes after the last block are
abbrev pub IsTail : Tip → (tail : List ℕ) → Found → Type 0
IsTail tip tail (finds.Whole next len) = (next ≡ tip) × (len ≡ length tail) × (len ≤ 381740) × (IsFollowed tip tail → ⊥)
IsTail tip tail (finds.Wrong at) = (at ≡ tip.end) × ((more : List ℕ) → IsTorn tip (tail ++ more) → ⊥)
IsTail tip tail _ = ⊥

-- what was found after the header, where these bytes were read already
abbrev pub FindsBehind : (made first : List ℕ) → Option (List ℕ) → Log → Found → Type 0
FindsBehind made first left log (finds.Whole tip tail) =
    (bodies : List (List ℕ)) × HasLog made bodies tip log × (tip.end ≤ 2 ^ 62) × (tip.number ≤ 2 ^ 62)
    × ((file : List ℕ) → left ≡ Some file → (torn : List ℕ) × (first ++ file ≡ chain (first_tip made) bodies ++ torn) × (length torn ≡ tail) × IsTorn tip torn)
FindsBehind made first left log (finds.Wrong at) = (file : List ℕ) → left ≡ Some file → IsBrokenAt at made (first ++ file)
FindsBehind made first left log _ = ⊥

-- what was found in a file, with the log of its blocks
abbrev pub FindsAs : Option (List ℕ) → Log → Found → Type 0
FindsAs left log finds.Empty = (file : List ℕ) → left ≡ Some file → file ≡ []
FindsAs left log finds.Unfinished = (file : List ℕ) → left ≡ Some file → IsUnfinished file
FindsAs left log finds.Older = (file : List ℕ) → left ≡ Some file → IsOlder file
FindsAs left log finds.OtherGrammar = Unit {0}
FindsAs left log (finds.Whole tip tail) =
    (made : List ℕ) × (bodies : List (List ℕ)) × HasLog made bodies tip log × (tip.end ≤ 2 ^ 62) × (tip.number ≤ 2 ^ 62)
    × ((file : List ℕ) → left ≡ Some file → (torn : List ℕ) × (file ≡ header made ++ (chain (first_tip made) bodies ++ torn)) × (length torn ≡ tail)
    × IsTorn tip torn)
FindsAs left log (finds.Wrong at) = (file : List ℕ) → left ≡ Some file → IsDamaged at file

-- .. and whether its first message is of this grammar
abbrev pub FindsIn : Grammar → Option (List ℕ) → Found → Type 0
FindsIn grammar left finds.OtherGrammar = HasOtherGrammar grammar left
FindsIn grammar left (finds.Whole tip tail) = HasGrammar grammar left
FindsIn grammar left _ = Unit {0}
