-- The message grammars: which strings of bytes are a message between server and logger and what they say, and the one spelling in which this project writes a
-- message. The format is this project's own. A message has a header of 16 bytes: the magic, the version, the kind, the length of the whole message, its
-- checksum, and the boot number. The fields of its kind follow, and then the bytes of Part and Data, or the lengths of Lens. There are two grammars, each with
-- its own version. They differ in one field: what a Data may say of its turn.
use Rattle.limits.specs.Limits.{largest_segment, least_segment, longest_stream, most_entries, most_units}
use Rattle.std.specs.Prelude.{ℕ, zero, suc, Bool, true, false, not, List, [], ◌∷◌, ◌++◌, length, drop, slice_index, find, Option, None, Some, Result}
use Rattle.std.specs.Prelude.{Ok, Err, ◌≡◌, ◌+◌, ◌*◌, ◌%◌, ◌^◌, ◌<◌, ◌==◌, ◌&&◌, ◌||◌, nat_lt, nat_le, if◌then◌else◌}
use Rattle.std.specs.Int.{bytes_high_first}
use Rattle.std.specs.List.{flat_map, list_all}
use Rattle.ft_io.specs.declared.Key.{Key}
use Rattle.seq_arith.specs.declared.kinds.BadMsg.{BadMsg}
use Rattle.seq_arith.specs.declared.kinds.BadMsg.TheVariants as bad
use Rattle.seq_arith.specs.declared.kinds.Kind.{Kind}
use Rattle.seq_arith.specs.declared.kinds.Kind.TheVariants as kinds
use Rattle.seq_arith.specs.declared.kinds.Field.{Field}
use Rattle.seq_arith.specs.declared.kinds.Field.TheVariants as fields
use Rattle.seq_arith.specs.declared.kinds.Grammar.{Grammar}
use Rattle.seq_arith.specs.declared.kinds.Grammar.TheVariants as grammars
use Rattle.seq_arith.specs.Bytes.{two, word_at}
use Rattle.seq_arith.specs.Checksum.{checksum}
use Rattle.seq_arith.specs.Message.{Body, EntryHead, Kept, Message, Numbers, Part}
use Rattle.seq_arith.specs.Message.{Body as bodies}

-- a number in `width` bytes, and the number in the first `width` bytes
unfoldable pub number_bytes : ℕ → ℕ → List ℕ
number_bytes width n = bytes_high_first width n

abbrev pub number_from : ℕ → List ℕ → ℕ
number_from zero bytes = 0
number_from (suc width) bytes = slice_index bytes 0 * 256 ^ width + number_from width (drop 1 bytes)

unfoldable pub number_in : ℕ → List ℕ → ℕ
number_in width bytes = number_from width bytes

-- the version of a grammar
abbrev pub version : Grammar → ℕ
version grammars.Plain = 1
version grammars.Wide = 2

-- the most that the ending of a Data may be: 0 and 1 say whether the FIN follows its bytes. 2 says that it doesn't, and that the same turn sends a later Data
-- of the connection
abbrev pub most_ending : Grammar → ℕ
most_ending grammars.Plain = 1
most_ending grammars.Wide = 2

-- the kinds, and the number of each
abbrev pub all_kinds : List Kind
all_kinds =
    kinds.Hello ∷ kinds.Summary ∷ kinds.List ∷ kinds.Entry ∷ kinds.Bytes ∷ kinds.Part ∷ kinds.Cuts ∷ kinds.Lens ∷ kinds.Open ∷ kinds.Opened
    ∷ kinds.Data ∷ kinds.Stable ∷ kinds.Read ∷ kinds.Reads ∷ kinds.Done ∷ kinds.Ended ∷ kinds.Stale ∷ kinds.Full ∷ []

abbrev pub kind_number : Kind → ℕ
kind_number kinds.Hello = 1
kind_number kinds.Summary = 2
kind_number kinds.List = 3
kind_number kinds.Entry = 4
kind_number kinds.Bytes = 5
kind_number kinds.Part = 6
kind_number kinds.Cuts = 7
kind_number kinds.Lens = 8
kind_number kinds.Open = 9
kind_number kinds.Opened = 10
kind_number kinds.Data = 11
kind_number kinds.Stable = 12
kind_number kinds.Read = 13
kind_number kinds.Reads = 14
kind_number kinds.Done = 15
kind_number kinds.Ended = 16
kind_number kinds.Stale = 17
kind_number kinds.Full = 18

unfoldable pub kind_numbered : ℕ → Option Kind
kind_numbered number = find (λ kind. kind_number kind == number) all_kinds

-- The table: the fields of each kind in their order. A key is an address and a port
abbrev pub with_key : List Field → List Field
with_key rest = fields.Address ∷ fields.Port ∷ rest

abbrev pub opening : List Field
opening = with_key (fields.Initial ∷ fields.Initial ∷ fields.Mss ∷ [])

abbrev pub kept : List Field
kept = with_key (fields.Length ∷ fields.Flag ∷ fields.Units ∷ [])

abbrev pub fields_of : Kind → List Field
fields_of kinds.Hello = []
fields_of kinds.Summary = fields.Count ∷ []
fields_of kinds.List = fields.Place ∷ []
fields_of kinds.Entry =
    fields.Place ∷ with_key (fields.Initial ∷ fields.Initial ∷ fields.Mss ∷ fields.Length ∷ fields.Flag ∷ fields.Flag ∷ fields.Units ∷ fields.Units ∷ [])
fields_of kinds.Bytes = with_key (fields.Offset ∷ [])
fields_of kinds.Part = with_key (fields.Offset ∷ [])
fields_of kinds.Cuts = with_key (fields.Units ∷ [])
fields_of kinds.Lens = with_key (fields.Units ∷ [])
fields_of kinds.Open = opening
fields_of kinds.Opened = opening
fields_of kinds.Data = with_key (fields.Offset ∷ fields.Units ∷ fields.Ending ∷ [])
fields_of kinds.Stable = kept
fields_of kinds.Read = with_key (fields.Units ∷ fields.ReadLength ∷ [])
fields_of kinds.Reads = kept
fields_of kinds.Done = with_key []
fields_of kinds.Ended = with_key []
fields_of kinds.Stale = fields.Newer ∷ []
fields_of kinds.Full = with_key []

-- how many bytes may follow the fields, at least and at most. Lens has two for each length
abbrev pub fewest_behind : Kind → ℕ
fewest_behind kinds.Part = 1
fewest_behind kinds.Lens = 2
fewest_behind _ = 0

abbrev pub most_behind : Kind → ℕ
most_behind kinds.Part = 1024
most_behind kinds.Lens = 1024
most_behind kinds.Data = largest_segment
most_behind _ = 0

abbrev pub is_lens : Kind → Bool
is_lens kinds.Lens = true
is_lens _ = false

-- the size of a field in bytes
abbrev pub width : Field → ℕ
width fields.Flag = 1
width fields.Ending = 1
width fields.Count = 2
width fields.Place = 2
width fields.Port = 2
width fields.Mss = 2
width fields.ReadLength = 2
width fields.Address = 4
width fields.Initial = 4
width fields.Length = 4
width fields.Offset = 4
width fields.Units = 4
width fields.Newer = 8

-- The range of a field, in a message with this boot number and this many bytes after its fields. An offset and those bytes stay within a stream, which has at
-- most 2^24 bytes. A count of units may also count the FIN, or a last read of length 0. Keys and initial sequence numbers are unrestricted
abbrev pub is_in_range_by : Grammar → (boot behind : ℕ) → Field → ℕ → Bool
is_in_range_by grammar boot behind fields.Count n = nat_le n most_entries
is_in_range_by grammar boot behind fields.Place n = nat_le n 63
is_in_range_by grammar boot behind fields.Mss n = nat_le least_segment n && nat_le n largest_segment
is_in_range_by grammar boot behind fields.Length n = nat_le n longest_stream
is_in_range_by grammar boot behind fields.Offset n = nat_le (n + behind) longest_stream
is_in_range_by grammar boot behind fields.Units n = nat_le n most_units
is_in_range_by grammar boot behind fields.ReadLength n = nat_le n 2048
is_in_range_by grammar boot behind fields.Flag n = nat_le n 1
is_in_range_by grammar boot behind fields.Ending n = nat_le n (most_ending grammar)
is_in_range_by grammar boot behind fields.Newer n = nat_lt boot n
is_in_range_by grammar boot behind _ n = true

abbrev pub is_in_range : (boot behind : ℕ) → Field → ℕ → Bool
is_in_range boot behind field n = is_in_range_by grammars.Plain boot behind field n

-- where a kind's fields end
abbrev pub fields_length : List Field → ℕ
fields_length [] = 0
fields_length (field ∷ rest) = width field + fields_length rest

abbrev pub behind_at : Kind → ℕ
behind_at kind = 16 + fields_length (fields_of kind)

-- whether a message of a kind may have `n` bytes
unfoldable pub has_length : Kind → ℕ → Bool
has_length kind n =
    nat_le (behind_at kind + fewest_behind kind) n && nat_le n (behind_at kind + most_behind kind) && (not (is_lens kind) || (n % 2 == 0))

-- the numbers of fields that follow one another
abbrev pub numbers_in : List Field → List ℕ → List ℕ
numbers_in [] bytes = []
numbers_in (field ∷ rest) bytes = number_in (width field) bytes ∷ numbers_in rest (drop (width field) bytes)

abbrev pub numbers_bytes : List Field → List ℕ → List ℕ
numbers_bytes [] numbers = []
numbers_bytes (field ∷ rest) [] = []
numbers_bytes (field ∷ rest) (n ∷ numbers) = number_bytes (width field) n ++ numbers_bytes rest numbers

abbrev pub all_in_range_by : Grammar → (boot behind : ℕ) → List Field → List ℕ → Bool
all_in_range_by grammar boot behind [] numbers = true
all_in_range_by grammar boot behind (field ∷ rest) [] = false
all_in_range_by grammar boot behind (field ∷ rest) (n ∷ numbers) =
    is_in_range_by grammar boot behind field n && all_in_range_by grammar boot behind rest numbers

abbrev pub all_in_range : (boot behind : ℕ) → List Field → List ℕ → Bool
all_in_range boot behind all numbers = all_in_range_by grammars.Plain boot behind all numbers

-- lengths of two bytes each
abbrev pub lens_in : List ℕ → List ℕ
lens_in [] = []
lens_in (high ∷ []) = []
lens_in (high ∷ low ∷ bytes) = (256 * high + low) ∷ lens_in bytes

abbrev pub lens_bytes : List ℕ → List ℕ
lens_bytes lens = flat_map two lens

-- What a body says is its kind, its numbers in the table's order, and what follows them. Flags are 0 or 1
abbrev pub kind_of : Body → Kind
kind_of bodies.HelloMsg = kinds.Hello
kind_of (bodies.SummaryMsg count) = kinds.Summary
kind_of (bodies.ListMsg index) = kinds.List
kind_of (bodies.EntryMsg index entry) = kinds.Entry
kind_of (bodies.BytesMsg key offset) = kinds.Bytes
kind_of (bodies.PartMsg key offset bytes) = kinds.Part
kind_of (bodies.CutsMsg key first) = kinds.Cuts
kind_of (bodies.LensMsg key first lens) = kinds.Lens
kind_of (bodies.OpenMsg numbers) = kinds.Open
kind_of (bodies.OpenedMsg numbers) = kinds.Opened
kind_of (bodies.DataMsg part) = kinds.Data
kind_of (bodies.StableMsg kept) = kinds.Stable
kind_of (bodies.ReadMsg key index length) = kinds.Read
kind_of (bodies.ReadsMsg kept) = kinds.Reads
kind_of (bodies.DoneMsg key) = kinds.Done
kind_of (bodies.EndedMsg key) = kinds.Ended
kind_of (bodies.StaleMsg newer) = kinds.Stale
kind_of (bodies.FullMsg key) = kinds.Full

abbrev pub flag : Bool → ℕ
flag false = 0
flag true = 1

-- 1 where the FIN follows, 2 where a later Data does. Both can't be said
abbrev pub ending : Part → ℕ
ending part = flag part.fin + (if part.more then 2 else 0)

abbrev pub key_and : Key → List ℕ → List ℕ
key_and key rest = key.ip ∷ key.port ∷ rest

abbrev pub opening_numbers : Numbers → List ℕ
opening_numbers numbers = key_and numbers.key (numbers.cisn ∷ numbers.sisn ∷ numbers.mss ∷ [])

abbrev pub kept_numbers : Kept → List ℕ
kept_numbers kept = key_and kept.key (kept.length ∷ flag kept.fin ∷ kept.reads ∷ [])

abbrev pub numbers_of : Body → List ℕ
numbers_of bodies.HelloMsg = []
numbers_of (bodies.SummaryMsg count) = count ∷ []
numbers_of (bodies.ListMsg index) = index ∷ []
numbers_of (bodies.EntryMsg index entry) =
    index ∷ key_and entry.key (entry.cisn ∷ entry.sisn ∷ entry.mss ∷ entry.length ∷ flag entry.fin ∷ flag entry.done ∷ entry.reads ∷ entry.acked ∷ [])
numbers_of (bodies.BytesMsg key offset) = key_and key (offset ∷ [])
numbers_of (bodies.PartMsg key offset bytes) = key_and key (offset ∷ [])
numbers_of (bodies.CutsMsg key first) = key_and key (first ∷ [])
numbers_of (bodies.LensMsg key first lens) = key_and key (first ∷ [])
numbers_of (bodies.OpenMsg numbers) = opening_numbers numbers
numbers_of (bodies.OpenedMsg numbers) = opening_numbers numbers
numbers_of (bodies.DataMsg part) = key_and part.key (part.offset ∷ part.acked ∷ ending part ∷ [])
numbers_of (bodies.StableMsg kept) = kept_numbers kept
numbers_of (bodies.ReadMsg key index length) = key_and key (index ∷ length ∷ [])
numbers_of (bodies.ReadsMsg kept) = kept_numbers kept
numbers_of (bodies.DoneMsg key) = key_and key []
numbers_of (bodies.EndedMsg key) = key_and key []
numbers_of (bodies.StaleMsg newer) = newer ∷ []
numbers_of (bodies.FullMsg key) = key_and key []

abbrev pub behind_of : Body → List ℕ
behind_of (bodies.PartMsg key offset bytes) = bytes
behind_of (bodies.LensMsg key first lens) = lens_bytes lens
behind_of (bodies.DataMsg part) = part.bytes
behind_of _ = []

abbrev pub lens_of : Body → List ℕ
lens_of (bodies.LensMsg key first lens) = lens
lens_of _ = []

-- and back: the body of a kind with these numbers and these bytes after them
abbrev pub key_at : List ℕ → ℕ → Key
key_at numbers at = record { ip = slice_index numbers at; port = slice_index numbers (suc at) }

abbrev pub opening_in : List ℕ → Numbers
opening_in numbers = record { key = key_at numbers 0; cisn = slice_index numbers 2; sisn = slice_index numbers 3; mss = slice_index numbers 4 }

abbrev pub kept_in : List ℕ → Kept
kept_in numbers = record { key = key_at numbers 0; length = slice_index numbers 2; fin = slice_index numbers 3 == 1; reads = slice_index numbers 4 }

abbrev pub entry_in : List ℕ → EntryHead
entry_in numbers = record {
  key = key_at numbers 1;
  cisn = slice_index numbers 3;
  sisn = slice_index numbers 4;
  mss = slice_index numbers 5;
  length = slice_index numbers 6;
  fin = slice_index numbers 7 == 1;
  done = slice_index numbers 8 == 1;
  reads = slice_index numbers 9;
  acked = slice_index numbers 10;
}

abbrev pub part_in : List ℕ → List ℕ → Part
part_in numbers behind = record {
  key = key_at numbers 0;
  offset = slice_index numbers 2;
  acked = slice_index numbers 3;
  fin = slice_index numbers 4 == 1;
  more = slice_index numbers 4 == 2;
  bytes = behind;
}

abbrev pub body_in : Kind → (numbers behind : List ℕ) → Body
body_in kinds.Hello numbers behind = bodies.HelloMsg
body_in kinds.Summary numbers behind = bodies.SummaryMsg (slice_index numbers 0)
body_in kinds.List numbers behind = bodies.ListMsg (slice_index numbers 0)
body_in kinds.Entry numbers behind = bodies.EntryMsg (slice_index numbers 0) (entry_in numbers)
body_in kinds.Bytes numbers behind = bodies.BytesMsg (key_at numbers 0) (slice_index numbers 2)
body_in kinds.Part numbers behind = bodies.PartMsg (key_at numbers 0) (slice_index numbers 2) behind
body_in kinds.Cuts numbers behind = bodies.CutsMsg (key_at numbers 0) (slice_index numbers 2)
body_in kinds.Lens numbers behind = bodies.LensMsg (key_at numbers 0) (slice_index numbers 2) (lens_in behind)
body_in kinds.Open numbers behind = bodies.OpenMsg (opening_in numbers)
body_in kinds.Opened numbers behind = bodies.OpenedMsg (opening_in numbers)
body_in kinds.Data numbers behind = bodies.DataMsg (part_in numbers behind)
body_in kinds.Stable numbers behind = bodies.StableMsg (kept_in numbers)
body_in kinds.Read numbers behind = bodies.ReadMsg (key_at numbers 0) (slice_index numbers 2) (slice_index numbers 3)
body_in kinds.Reads numbers behind = bodies.ReadsMsg (kept_in numbers)
body_in kinds.Done numbers behind = bodies.DoneMsg (key_at numbers 0)
body_in kinds.Ended numbers behind = bodies.EndedMsg (key_at numbers 0)
body_in kinds.Stale numbers behind = bodies.StaleMsg (slice_index numbers 0)
body_in kinds.Full numbers behind = bodies.FullMsg (key_at numbers 0)

-- what a message of a kind says
unfoldable pub message_in : Kind → List ℕ → Message
message_in kind bytes = record {
  boot = number_in 8 (drop 8 bytes);
  body = body_in kind (numbers_in (fields_of kind) (drop 16 bytes)) (drop (behind_at kind) bytes);
}

-- whether all that a message says is in its range. Boot numbers begin at 1, and no read is longer than 2,048 bytes
unfoldable pub is_sound_by : Grammar → Kind → (boot behind : ℕ) → (numbers lens : List ℕ) → Bool
is_sound_by grammar kind boot behind numbers lens =
    nat_le 1 boot && all_in_range_by grammar boot behind (fields_of kind) numbers && list_all (λ len. nat_le len 2048) lens

abbrev pub is_sound : Kind → (boot behind : ℕ) → (numbers lens : List ℕ) → Bool
is_sound kind boot behind numbers lens = is_sound_by grammars.Plain kind boot behind numbers lens

unfoldable pub is_sound_in : Grammar → Kind → List ℕ → Bool
is_sound_in grammar kind bytes =
    let message = message_in kind bytes
    in is_sound_by grammar kind message.boot (length (drop (behind_at kind) bytes)) (numbers_in (fields_of kind) (drop 16 bytes)) (lens_of message.body)

-- What a string of bytes says by a grammar, or why it is no message of it: the first test that holds. A string that holds its checksum has the checksum 0
-- where its words sum to FFFF
unfoldable pub reading_of : Grammar → Kind → List ℕ → Result Message BadMsg
reading_of grammar kind bytes =
    if not (word_at bytes 4 == length bytes) || not (has_length kind (length bytes)) then Err bad.Length
    else (if not (checksum bytes == 0) then Err bad.Sum
    else (if not (is_sound_in grammar kind bytes) then Err bad.Field else Ok (message_in kind bytes)))

abbrev pub reading_if : Grammar → Option Kind → List ℕ → Result Message BadMsg
reading_if grammar None bytes = Err bad.Kind
reading_if grammar (Some kind) bytes = reading_of grammar kind bytes

unfoldable pub reading_by : Grammar → List ℕ → Result Message BadMsg
reading_by grammar bytes =
    if nat_lt (length bytes) 16 then Err bad.Short
    else (if not (word_at bytes 0 == 18004) then Err bad.Magic
    else (if not (slice_index bytes 2 == version grammar) then Err bad.Version else reading_if grammar (kind_numbered (slice_index bytes 3)) bytes))

-- .. by the plain grammar, of version 1
abbrev pub reading : List ℕ → Result Message BadMsg
reading bytes = reading_by grammars.Plain bytes

abbrev pub message_length : Body → ℕ
message_length body = behind_at (kind_of body) + length (behind_of body)

-- the header of a message of this length, with this checksum
unfoldable pub header : Grammar → Kind → (len check boot : ℕ) → List ℕ
header grammar kind len check boot = (70 ∷ 84 ∷ version grammar ∷ kind_number kind ∷ two len) ++ two check ++ number_bytes 8 boot

-- the spelling with this checksum
unfoldable pub spelled : Grammar → Message → ℕ → List ℕ
spelled grammar message check =
    header grammar (kind_of message.body) (message_length message.body) check message.boot
    ++ (numbers_bytes (fields_of (kind_of message.body)) (numbers_of message.body) ++ behind_of message.body)

-- the one spelling of a message in a grammar
unfoldable pub spelling_by : Grammar → Message → List ℕ
spelling_by grammar message = spelled grammar message (checksum (spelled grammar message 0))

-- .. in the plain one
abbrev pub spelling : Message → List ℕ
spelling message = spelling_by grammars.Plain message

-- each number fits its field's bytes
abbrev pub AllFit : List Field → List ℕ → Type 0
AllFit [] [] = Unit {0}
AllFit [] (n ∷ numbers) = ⊥
AllFit (field ∷ rest) [] = ⊥
AllFit (field ∷ rest) (n ∷ numbers) = (n < 256 ^ width field) × AllFit rest numbers

-- what has a spelling in a grammar: each number fits its bytes and is in its range, and the message has one of its kind's lengths
pub record IsSpellableBy (grammar : Grammar) (message : Message) : Type 0 where
  pub boot : message.boot < 256 ^ 8
  pub numbers : AllFit (fields_of (kind_of message.body)) (numbers_of message.body)
  pub sound : is_sound_by grammar (kind_of message.body) message.boot (length (behind_of message.body)) (numbers_of message.body) (lens_of message.body) ≡ true
  pub size : has_length (kind_of message.body) (message_length message.body) ≡ true

-- .. in the plain one
abbrev pub IsSpellable : Message → Type 0
IsSpellable message = IsSpellableBy grammars.Plain message
