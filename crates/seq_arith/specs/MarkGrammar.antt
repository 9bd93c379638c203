-- The grammar of messages about marks: which strings of bytes are such a message and what they say, and the one spelling in which this project writes it. It
-- has the header of a message with another magic, fields of the same sizes and ranges, and after the fields of Mark and Held the bytes of a state.
use Rattle.std.specs.Prelude.{ℕ, Bool, true, not, List, [], ◌∷◌, ◌++◌, length, drop, slice_index, find, Option, None, Some, Result, Ok, Err, ◌≡◌, ◌+◌}
use Rattle.std.specs.Prelude.{◌^◌, ◌<◌, ◌==◌, ◌&&◌, ◌||◌, nat_lt, nat_le, if◌then◌else◌}
use Rattle.ft_io.specs.declared.Key.{Key}
use Rattle.seq_arith.specs.declared.kinds.Field.{Field}
use Rattle.seq_arith.specs.declared.kinds.Field.TheVariants as fields
use Rattle.seq_arith.specs.declared.mark.BadMark.{BadMark}
use Rattle.seq_arith.specs.declared.mark.BadMark.TheVariants as bad
use Rattle.seq_arith.specs.declared.mark.MarkKind.{MarkKind}
use Rattle.seq_arith.specs.declared.mark.MarkKind.TheVariants as kinds
use Rattle.seq_arith.specs.Bytes.{word_at}
use Rattle.seq_arith.specs.Checksum.{checksum}
use Rattle.seq_arith.specs.Header.{headed}
use Rattle.seq_arith.specs.Mark.{Mark, MarkBody, MarkMessage}
use Rattle.seq_arith.specs.Mark.{MarkBody as bodies}
use Rattle.seq_arith.specs.MessageGrammar.{number_in, with_key, fields_length, numbers_in, numbers_bytes, all_in_range, key_and, key_at, AllFit}

-- the kinds, and the number of each
abbrev pub all_kinds : List MarkKind
all_kinds = kinds.Mark ∷ kinds.Marked ∷ kinds.Ask ∷ kinds.Held ∷ []

abbrev pub kind_number : MarkKind → ℕ
kind_number kinds.Mark = 1
kind_number kinds.Marked = 2
kind_number kinds.Ask = 3
kind_number kinds.Held = 4

unfoldable pub kind_numbered : ℕ → Option MarkKind
kind_numbered number = find (λ kind. kind_number kind == number) all_kinds

-- The table: the fields of each kind in their order. A mark's numbers are its reads, its bytes and the output made by then
abbrev pub marking : List Field
marking = with_key (fields.Units ∷ fields.Length ∷ fields.Length ∷ [])

abbrev pub fields_of : MarkKind → List Field
fields_of kinds.Mark = marking
fields_of kinds.Marked = with_key (fields.Units ∷ [])
fields_of kinds.Ask = with_key []
fields_of kinds.Held = marking

-- how many bytes of a state may follow the fields
abbrev pub most_behind : MarkKind → ℕ
most_behind kinds.Mark = 1100
most_behind kinds.Held = 1100
most_behind _ = 0

-- a mark is of at least one read. A Held says 0 reads where no state is logged
abbrev pub fewest_reads : MarkKind → ℕ
fewest_reads kinds.Mark = 1
fewest_reads _ = 0

-- where a kind's fields end
abbrev pub behind_at : MarkKind → ℕ
behind_at kind = 16 + fields_length (fields_of kind)

-- whether a message of a kind may have `n` bytes
unfoldable pub has_length : MarkKind → ℕ → Bool
has_length kind n = nat_le (behind_at kind) n && nat_le n (behind_at kind + most_behind kind)

-- What a body says is its kind, its numbers in the table's order, and what follows them
abbrev pub kind_of : MarkBody → MarkKind
kind_of (bodies.MarkMsg key mark) = kinds.Mark
kind_of (bodies.MarkedMsg key reads) = kinds.Marked
kind_of (bodies.AskMsg key) = kinds.Ask
kind_of (bodies.HeldMsg key mark) = kinds.Held

abbrev pub mark_numbers : Key → Mark → List ℕ
mark_numbers key mark = key_and key (mark.reads ∷ mark.length ∷ mark.made ∷ [])

abbrev pub numbers_of : MarkBody → List ℕ
numbers_of (bodies.MarkMsg key mark) = mark_numbers key mark
numbers_of (bodies.MarkedMsg key reads) = key_and key (reads ∷ [])
numbers_of (bodies.AskMsg key) = key_and key []
numbers_of (bodies.HeldMsg key mark) = mark_numbers key mark

abbrev pub behind_of : MarkBody → List ℕ
behind_of (bodies.MarkMsg key mark) = mark.state
behind_of (bodies.HeldMsg key mark) = mark.state
behind_of _ = []

-- and back: the body of a kind with these numbers and these bytes after them
abbrev pub mark_in : (numbers behind : List ℕ) → Mark
mark_in numbers behind = record { reads = slice_index numbers 2; length = slice_index numbers 3; made = slice_index numbers 4; state = behind }

abbrev pub body_in : MarkKind → (numbers behind : List ℕ) → MarkBody
body_in kinds.Mark numbers behind = bodies.MarkMsg (key_at numbers 0) (mark_in numbers behind)
body_in kinds.Marked numbers behind = bodies.MarkedMsg (key_at numbers 0) (slice_index numbers 2)
body_in kinds.Ask numbers behind = bodies.AskMsg (key_at numbers 0)
body_in kinds.Held numbers behind = bodies.HeldMsg (key_at numbers 0) (mark_in numbers behind)

-- what a message of a kind says
unfoldable pub message_in : MarkKind → List ℕ → MarkMessage
message_in kind bytes = record {
  boot = number_in 8 (drop 8 bytes);
  body = body_in kind (numbers_in (fields_of kind) (drop 16 bytes)) (drop (behind_at kind) bytes);
}

-- whether all that a message says is in its range. Boot numbers begin at 1
unfoldable pub is_sound : MarkKind → (boot behind : ℕ) → (numbers : List ℕ) → Bool
is_sound kind boot behind numbers = nat_le 1 boot && all_in_range boot behind (fields_of kind) numbers && nat_le (fewest_reads kind) (slice_index numbers 2)

unfoldable pub is_sound_in : MarkKind → List ℕ → Bool
is_sound_in kind bytes =
    is_sound kind (number_in 8 (drop 8 bytes)) (length (drop (behind_at kind) bytes)) (numbers_in (fields_of kind) (drop 16 bytes))

-- What a string of bytes says, or why it is no such message: the first test that holds
unfoldable pub reading_of : MarkKind → List ℕ → Result MarkMessage BadMark
reading_of kind bytes =
    if not (word_at bytes 4 == length bytes) || not (has_length kind (length bytes)) then Err bad.Length
    else (if not (checksum bytes == 0) then Err bad.Sum
    else (if not (is_sound_in kind bytes) then Err bad.Field else Ok (message_in kind bytes)))

abbrev pub reading_if : Option MarkKind → List ℕ → Result MarkMessage BadMark
reading_if None bytes = Err bad.Kind
reading_if (Some kind) bytes = reading_of kind bytes

unfoldable pub reading : List ℕ → Result MarkMessage BadMark
reading bytes =
    if nat_lt (length bytes) 16 then Err bad.Short
    else (if not (word_at bytes 0 == 18006) then Err bad.Magic
    else (if not (slice_index bytes 2 == 1) then Err bad.Version else reading_if (kind_numbered (slice_index bytes 3)) bytes))

-- the part of a spelling after its header
abbrev pub behind_header : MarkBody → List ℕ
behind_header body = numbers_bytes (fields_of (kind_of body)) (numbers_of body) ++ behind_of body

-- the spelling with this checksum
unfoldable pub spelled : MarkMessage → (check : ℕ) → List ℕ
spelled message check = headed 86 (kind_number (kind_of message.body)) message.boot (behind_header message.body) check

-- the one spelling of a message
unfoldable pub spelling : MarkMessage → List ℕ
spelling message = spelled message (checksum (spelled message 0))

abbrev pub message_length : MarkBody → ℕ
message_length body = behind_at (kind_of body) + length (behind_of body)

-- what has a spelling: each number fits its bytes and is in its range, and the message has one of its kind's lengths
pub record IsSpellable (message : MarkMessage) : Type 0 where
  pub boot : message.boot < 256 ^ 8
  pub numbers : AllFit (fields_of (kind_of message.body)) (numbers_of message.body)
  pub sound : is_sound (kind_of message.body) message.boot (length (behind_of message.body)) (numbers_of message.body) ≡ true
  pub size : has_length (kind_of message.body) (message_length message.body) ≡ true
