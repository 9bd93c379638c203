-- How a journal's file is opened: which files can be read, and which calls leave nothing after their blocks.
use Rattle.std.specs.Prelude.{◌≡◌, ◌⊎◌, ◌≤◌, ◌<◌, ℕ, List, [], ◌∷◌, ◌++◌, length, codes, Some, Ok}
use Rattle.std.specs.declared.option.Option.{Option}
use Rattle.seq_arith.specs.Message.{Message}
use Rattle.seq_arith.specs.MessageGrammar.{number_in, reading_by}
use Rattle.seq_arith.specs.declared.kinds.Grammar.{Grammar}
use Rattle.ft_model.specs.Log.{Log}
use Rattle.forget_store.specs.AnyMessage.{AnyMessage}
use Rattle.ft_io.specs.Reported.{Reports}
use Rattle.disk.specs.declared.calls.DiskCall.{DiskCall}
use Rattle.disk.specs.declared.calls.DeskCall.{DeskCall}
use Rattle.disk.specs.Remains.{IsFrontOf}
use Rattle.disk.specs.CallRecord.{on_disk}
use Rattle.kept_log.specs.Format.{magic, header, block, front, first_tip, tip_of, mending, making, IsRound, BeginsNone}
use Rattle.kept_log.specs.declared.tip.Tip.{Tip}
use Rattle.kept_log.specs.declared.journal.KeepEnd.{KeepEnd}
use Rattle.kept_log.specs.declared.journal.KeepEnd.TheVariants as reads
use Rattle.kept_log.specs.MessageList.{Says, AreKept}
use Rattle.kept_log.specs.JournaledLog.{HasLog}
use Rattle.kept_log.specs.declared.opening.OpenEnd.{OpenEnd}
use Rattle.kept_log.specs.declared.opening.OpenEnd.TheVariants.{NoMemory, Failed, Empty, Unfinished, Older, OtherGrammar, Wrong}

-- the calls that cut off what a death has left after the blocks: none if nothing is there
abbrev pub cutting : ℕ → List ℕ → List DiskCall
cutting end [] = []
cutting end (byte ∷ tail) = mending end

-- a block begins here, so many bytes after the whole ones, that is later than the next one; or the next one, but not right after them
pub record IsMark (tip : Tip) (at : ℕ) (bytes : List ℕ) : Type 0 where
  pub behind : List ℕ
  pub is : bytes ≡ tip.salt ++ behind
  pub long : 8 ≤ length behind
  pub later : (tip.number < number_in 8 behind) ⊎ ((tip.number ≡ number_in 8 behind) × (0 < at))

-- .. or somewhere in these bytes: then more than one block came after the whole ones, and that isn't what a death leaves
abbrev pub IsFollowed : Tip → (bytes : List ℕ) → Type 0
IsFollowed tip bytes = (before : List ℕ) × (rest : List ℕ) × (bytes ≡ before ++ rest) × IsMark tip (length before) rest

-- what a death may have left after the blocks: a part of one block
pub record IsTorn (tip : Tip) (tail : List ℕ) : Type 0 where
  pub few : length tail ≤ 381740  -- the longest block
  pub none : BeginsNone tip tail
  pub last : IsFollowed tip tail → ⊥

-- a file with these blocks, and the calls that leave nothing after them
pub record IsWhole (file made : List ℕ) (bodies : List (List ℕ)) (calls : List DiskCall) : Type 0 where
  pub time : length made ≡ 8
  pub tail : List ℕ
  pub is : file ≡ front made bodies ++ tail
  pub torn : IsTorn (tip_of made bodies) tail
  pub calls_are : calls ≡ cutting (tip_of made bodies).end tail

-- these bytes begin neither with a block whose body is messages, nor are they what a death leaves
pub record HasNoBlock (tip : Tip) (bytes : List ℕ) : Type 0 where
  pub no_end : IsTorn tip bytes → ⊥
  pub no_block : (body rest : List ℕ) (messages : List AnyMessage) → IsRound body → bytes ≡ block tip body ++ rest → Says body messages → ⊥

-- a file of the first version
abbrev pub IsOlder : (file : List ℕ) → Type 0
IsOlder file = (rest : List ℕ) × (file ≡ codes "ftlog 1\n" ++ rest)

-- these bytes begin with a message of another grammar
pub record IsOtherwise (grammar : Grammar) (bytes : List ℕ) : Type 0 where
  pub other : Grammar
  pub first : List ℕ
  pub rest : List ℕ
  pub message : Message
  pub is : bytes ≡ first ++ rest
  pub reads : reading_by other first ≡ Ok message
  pub differs : other ≡ grammar → ⊥

-- .. and so does the first block of a journal that was made at this time, which has these bytes after its header
pub record BeginsOtherwise (grammar : Grammar) (made bytes : List ℕ) : Type 0 where
  pub body : List ℕ
  pub rest : List ℕ
  pub small : IsRound body
  pub is : bytes ≡ block (first_tip made) body ++ rest
  pub otherwise : IsOtherwise grammar body

-- a journal of another grammar: its first message says so
pub record IsOfOther (grammar : Grammar) (file : List ℕ) : Type 0 where
  pub made : List ℕ
  pub rest : List ℕ
  pub time : length made ≡ 8
  pub is : file ≡ header made ++ rest
  pub begins : BeginsOtherwise grammar made rest

abbrev pub HasOtherGrammar : Grammar → Option (List ℕ) → Type 0
HasOtherGrammar grammar left = (file : List ℕ) → left ≡ Some file → IsOfOther grammar file

abbrev pub HasGrammar : Grammar → Option (List ℕ) → Type 0
HasGrammar grammar left = (file : List ℕ) → left ≡ Some file → IsOfOther grammar file → ⊥

-- a part of a header and nothing more: of a file whose making wasn't finished, or that was cut
abbrev pub IsUnfinished : (file : List ℕ) → Type 0
IsUnfinished file = (length file < 32) × ((rest : List ℕ) × ((file ++ rest ≡ magic) ⊎ (file ≡ magic ++ rest)))

-- a file that is no journal at all
pub record HasNoHeader (file : List ℕ) : Type 0 where
  pub not_older : IsOlder file → ⊥
  pub not_unfinished : IsUnfinished file → ⊥
  pub no_header : (made rest : List ℕ) → length made ≡ 8 → file ≡ header made ++ rest → ⊥

-- a journal that is damaged at this place: all blocks before it are complete
pub record IsBroken (at : ℕ) (file : List ℕ) : Type 0 where
  pub made : List ℕ
  pub bodies : List (List ℕ)
  pub messages : List AnyMessage
  pub rest : List ℕ
  pub time : length made ≡ 8
  pub is : file ≡ front made bodies ++ rest
  pub kept : AreKept bodies messages
  pub at_is : at ≡ (tip_of made bodies).end
  pub none : HasNoBlock (tip_of made bodies) rest

-- the place is where neither a block follows nor what a death leaves, and 0 if the header isn't whole
abbrev pub IsDamaged : (at : ℕ) (file : List ℕ) → Type 0
IsDamaged at file = ((at ≡ 0) × HasNoHeader file) ⊎ IsBroken at file

-- what holds after an opening, of a file that had these bytes: its blocks have the log, and the recorded calls have cut off so many bytes behind them
pub record IsOpened (left : Option (List ℕ)) (old new : Option (List DeskCall)) (tip : Tip) (cut : ℕ) (log : Log) : Type 0 where
  pub made : List ℕ
  pub bodies : List (List ℕ)
  pub calls : List DiskCall
  pub has_log : HasLog made bodies tip log
  pub reports : Reports old new (on_disk calls)
  pub finds : (file : List ℕ) → left ≡ Some file → (whole : IsWhole file made bodies calls) × (cut ≡ length whole.tail)

-- a prefix of such calls, whose last call may have failed
pub record IsCutShort (left : Option (List ℕ)) (old new : Option (List DeskCall)) : Type 0 where
  pub made : List ℕ
  pub bodies : List (List ℕ)
  pub messages : List AnyMessage
  pub calls : List DiskCall
  pub done : List DiskCall
  pub kept : AreKept bodies messages
  pub cut : ℕ
  pub time : length made ≡ 8
  pub is_front : IsFrontOf calls done
  pub reports : Reports old new (on_disk done)
  pub finds : (file : List ℕ) → left ≡ Some file → (whole : IsWhole file made bodies calls) × (cut ≡ length whole.tail)

-- how an opening stops early: no call has changed the file, unless one of those calls failed
abbrev pub HasStopped : (left : Option (List ℕ)) (old new : Option (List DeskCall)) → OpenEnd → Type 0
HasStopped left old new NoMemory = Reports old new []
HasStopped left old new Empty = Reports old new [] × ((file : List ℕ) → left ≡ Some file → file ≡ [])
HasStopped left old new Unfinished = Reports old new [] × ((file : List ℕ) → left ≡ Some file → IsUnfinished file)
HasStopped left old new Older = Reports old new [] × ((file : List ℕ) → left ≡ Some file → IsOlder file)
HasStopped left old new OtherGrammar = Reports old new []
HasStopped left old new (Wrong at) = Reports old new [] × ((file : List ℕ) → left ≡ Some file → IsDamaged at file)
HasStopped left old new Failed = Reports old new [] ⊎ IsCutShort left old new

-- how the making of a journal stops early: nothing was called, or a prefix of the calls that make it, whose last call failed
abbrev pub HasNotBegun : (made : List ℕ) (old new : Option (List DeskCall)) → KeepEnd → Type 0
HasNotBegun made old new reads.NoMemory = Reports old new []
HasNotBegun made old new reads.Failed = (done : List DiskCall) × IsFrontOf (making made) done × Reports old new (on_disk done)

-- how an opening ends if its reading ends early
abbrev pub opening_end : KeepEnd → OpenEnd
opening_end reads.NoMemory = NoMemory
opening_end reads.Failed = Failed
