-- The ranges of the store's numbers, and which messages may need memory.
use Rattle.limits.specs.Limits.{largest_segment, least_segment, longest_stream, most_entries, most_units}
use Rattle.std.specs.Prelude.{ℕ, Bool, true, false, not, List, [], length, sum, ◌≡◌, ◌==◌, ◌≤◌, ◌+◌, ◌-◌, ◌^◌, ◌&&◌, ◌||◌, nat_le, nat_lt, max}
use Rattle.std.specs.Prelude.{Option, Some, None, option_map, IsOk, ◌⊎◌}
use Rattle.std.specs.List.{list_any, list_all}
use Rattle.std.specs.Option.{option_map_or}
use Rattle.ft_io.specs.Key.{key_eq}
use Rattle.seq_arith.specs.declared.kinds.Grammar.{Grammar}
use Rattle.seq_arith.specs.declared.kinds.Grammar.TheVariants.{Plain, Wide}
use Rattle.seq_arith.specs.Message as said
use Rattle.seq_arith.specs.Message.{Message, Body}
use Rattle.seq_arith.specs.Message.Body.{OpenMsg, DataMsg, ReadMsg}
use Rattle.seq_arith.specs.MessageGrammar.{spelling_by, reading, reading_by, flag}
use Rattle.seq_arith.specs.MarkGrammar as marks
use Rattle.ft_model.specs.Log.{Log, Entry, with_bytes, is_next_read, entry_of}
use Rattle.log_pages.specs.Pages.{room_after, ends_with}

-- the ranges of an entry's numbers, which are those that a message may have
pub record IsInRange (mss bytes output : ℕ) : Type 0 where
  pub least : least_segment ≤ mss
  pub most : mss ≤ largest_segment
  pub len : bytes ≤ longest_stream
  pub acked : output ≤ most_units

-- the lengths of reads from a stream with so many logged bytes: their sum is at most that; there are at most as many as their sum, and one more if one of
-- them is 0; and each is at most 2,048
pub record AreRead (bytes : ℕ) (lengths : List ℕ) : Type 0 where
  pub within : sum lengths ≤ bytes
  pub count : length lengths ≤ sum lengths + flag (list_any (λ k. k == 0) lengths)
  pub each : list_all (λ n. nat_le n 2048) lengths ≡ true

-- the bytes of an answer in a grammar; none without an answer
abbrev pub answer_bytes_by : Grammar → Option Message → List ℕ
answer_bytes_by grammar (Some message) = spelling_by grammar message
answer_bytes_by grammar None = []

-- .. in the plain one
abbrev pub answer_bytes : Option Message → List ℕ
answer_bytes answer = answer_bytes_by Plain answer

-- no bytes, or those of a message
abbrev pub IsAnswer : List ℕ → Type 0
IsAnswer bytes = (bytes ≡ []) ⊎ IsOk (reading bytes)

-- .. or those of a wide message, or of a message about marks
abbrev pub IsReply : List ℕ → Type 0
IsReply bytes = IsAnswer bytes ⊎ (IsOk (reading_by Wide bytes) ⊎ IsOk (marks.reading bytes))

-- the entry with at least `units` units of its output acknowledged
abbrev pub acknowledging : ℕ → Entry → Entry
acknowledging units e = record e { acknowledged = max e.acknowledged units }

-- What may need memory in an entry: bytes that don't fit its last page, and a length other than the last one
abbrev pub adds_page : said.Part → Entry → Bool
adds_page part e = nat_lt (room_after (length e.bytes)) (length (with_bytes part e).bytes - length e.bytes)

abbrev pub begins_run : ℕ → Entry → Bool
begins_run n e = not (ends_with n e.lengths)

-- .. and in a log: besides these, an entry for a new key
abbrev pub adds : Body → Log → Bool
adds (OpenMsg n) log = not (list_any (λ e. key_eq e.key n.key) log.entries || nat_le most_entries (length log.entries))
adds (DataMsg part) log = option_map_or (adds_page part) (entry_of part.key log) false
adds (ReadMsg key index n) log = option_map_or (λ e. is_next_read e index n && begins_run n e) (entry_of key log) false
adds _ log = false

-- whether taking a message may need memory
unfoldable pub wants_memory : Log → Message → Bool
wants_memory log message = message.boot == log.boot && adds message.body log

-- the body of an answer, in a message of this boot
abbrev pub with_boot : ℕ → Option Body → Option Message
with_boot boot reported = option_map (λ body. record { boot = boot; body = body }) reported

-- the bytes of an entry, and its lengths, if there is one
abbrev pub bytes_of : Option Entry → List ℕ
bytes_of entry = option_map_or (λ e. e.bytes) entry []

abbrev pub lengths_of : Option Entry → List ℕ
lengths_of entry = option_map_or (λ e. e.lengths) entry []
