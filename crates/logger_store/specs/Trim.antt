-- A trimmed log store, which has discarded the beginnings of some entries: which bytes and lengths it still reports, and which logs it represents.
use Rattle.limits.specs.Limits.{most_entries}
use Rattle.std.specs.Prelude.{◌≡◌, ℕ, ◌≤◌, ◌<◌, ◌==◌, Bool, true, false, ◌&&◌, nat_lt, sum, Option, None, List, [], ◌∷◌, length, take, replicate}
use Rattle.std.specs.Prelude.{slice_get, slice_index_or, slice_set, if◌then◌else◌}
use Rattle.std.specs.Option.{option_map_or}
use Rattle.std.specs.List.{AllByRecursion}
use Rattle.ft_io.specs.declared.Key.{Key}
use Rattle.seq_arith.specs.Message.{Message, Body}
use Rattle.seq_arith.specs.Message.Body.{BytesMsg, CutsMsg}
use Rattle.ft_model.specs.Log.{Log, Entry, empty_log, answer_to}
use Rattle.log_pages.specs.Pages.{changed_at, place_of, reads_on, without}
use Rattle.logger_store.specs.StoreState.{lengths_of}
use Rattle.logger_store.specs.declared.trimming.Trim.{Trim}

abbrev pub no_trim : Trim
no_trim = record { bytes = 0; reads = 0 }

-- a log, and how much of each entry is trimmed, in the order of the entries. The log has zeros in place of the discarded bytes, and level lengths in place of
-- the discarded ones
pub record TrimmedLog : Type 0 where
  pub log : Log
  pub trims : List Trim

abbrev pub untrimmed : TrimmedLog
untrimmed = record { log = empty_log; trims = replicate most_entries no_trim }

abbrev pub trim_at : List Trim → ℕ → Trim
trim_at trims i = slice_index_or trims i no_trim

-- how much of a key's entry is trimmed; nothing if the key has no entry
abbrev pub trim_of : Key → TrimmedLog → Trim
trim_of key t = option_map_or (trim_at t.trims) (place_of key t.log) no_trim

-- whether a question asks for trimmed bytes or lengths
abbrev pub is_trimmed : TrimmedLog → Body → Bool
is_trimmed t (BytesMsg key offset) = nat_lt offset (trim_of key t).bytes
is_trimmed t (CutsMsg key first) = nat_lt first (trim_of key t).reads
is_trimmed t _ = false

unfoldable pub answer_left : TrimmedLog → Message → Option Message
answer_left t message = if message.boot == t.log.boot && is_trimmed t message.body then None else answer_to t.log message

-- when an entry may be trimmed to these first reads: they are logged and took these bytes, no closing read is among them, and no more reads were trimmed
-- before
pub record MayTrim (i bytes reads : ℕ) (t : TrimmedLog) : Type 0 where
  pub in_log : i < length t.log.entries
  pub logged : reads ≤ length (lengths_of (slice_get t.log.entries i))
  pub further : (trim_at t.trims i).reads ≤ reads
  pub took : bytes ≡ sum (take reads (lengths_of (slice_get t.log.entries i)))
  pub on : reads_on (take reads (lengths_of (slice_get t.log.entries i))) ≡ true

abbrev pub with_trim : (i bytes reads : ℕ) → TrimmedLog → TrimmedLog
with_trim i bytes reads t = record {
  log = record t.log { entries = changed_at i (without bytes reads) t.log.entries };
  trims = slice_set t.trims i (record { bytes = bytes; reads = reads });
}

-- an entry `left` of a trimmed store represents an entry `e`: it is `e` without what is trimmed
pub record IsLeft (t : Trim) (left e : Entry) : Type 0 where
  pub logged : t.reads ≤ length e.lengths
  pub took : t.bytes ≡ sum (take t.reads e.lengths)
  pub on : reads_on (take t.reads e.lengths) ≡ true
  pub within : t.bytes ≤ length e.bytes
  pub same : left ≡ without t.bytes t.reads e

-- .. and each of some entries does, by its trim. Where there is no entry yet, nothing is trimmed
abbrev pub AreLeft : List Trim → List Entry → List Entry → Type 0
AreLeft [] left es = left ≡ es
AreLeft (t ∷ trims) [] [] = AllByRecursion (λ u. u ≡ no_trim) (t ∷ trims)
AreLeft (t ∷ trims) (l ∷ left) (e ∷ es) = IsLeft t l e × AreLeft trims left es
AreLeft (t ∷ trims) [] (e ∷ es) = ⊥
AreLeft (t ∷ trims) (l ∷ left) [] = ⊥

-- a trimmed store represents a log
pub record IsLeftOf (t : TrimmedLog) (log : Log) : Type 0 where
  pub boot : t.log.boot ≡ log.boot
  pub entries : AreLeft t.trims t.log.entries log.entries
