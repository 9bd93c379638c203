-- Tests of a packet line's words. Each word is accepted only in its one spelling, and each value only in its range. The report's own spellings define what
-- the tests mean: a line passes if and only if it is the line of a packet. What a message may say depends on the grammar that server and log use.
use Rattle.limits.specs.Limits.{longest_packet}
use Rattle.std.specs.Prelude.{ℕ, Bool, true, false, ◌+◌, ◌-◌, ◌*◌, ◌/◌, ◌%◌, ◌^◌, ◌==◌, ◌&&◌, ◌||◌, nat_lt, nat_le, codes, decimal, Option, Some}
use Rattle.std.specs.Prelude.{None, is_some, option_map, List, [], ◌∷◌, length, take, drop, if◌then◌else◌}
use Rattle.std.specs.List.{list_all, slice_split, starts_with}
use Rattle.std.specs.Prelude.{nat_eq}
use Rattle.std.specs.Str.{bytes_eq}
use Rattle.seq_arith.specs.MessageGrammar.{all_kinds, is_in_range_by, width, behind_at, has_length}
use Rattle.seq_arith.specs.declared.kinds.Grammar.{Grammar}
use Rattle.seq_arith.specs.declared.kinds.Grammar.TheVariants.{Plain}
use Rattle.seq_arith.specs.declared.kinds.Field.{Field}
use Rattle.seq_arith.specs.declared.kinds.Field.TheVariants as fields
use Rattle.seq_arith.specs.declared.kinds.Kind.{Kind}
use Rattle.seq_arith.specs.declared.kinds.Kind.TheVariants as kinds
use Rattle.seq_arith.specs.Packet.{timestamps_length}
use Rattle.ft_model.specs.Spelling.{number_of}
use Rattle.ft_model.specs.Words.{is}
use Rattle.line_check.specs.declared.direction.Direction.{Direction}
use Rattle.line_check.specs.declared.direction.Direction.TheVariants.{FromClient, ToClient, WithLogger}

-- A decimal number without leading zeros, up to `most`
abbrev pub as_printed : Option ℕ → List ℕ → Option ℕ
as_printed None word = None
as_printed (Some n) word = if bytes_eq (decimal n) word then Some n else None

unfoldable pub number_word : ℕ → List ℕ → Option ℕ
number_word most word = as_printed (number_of 0 most word) word

abbrev pub is_number : ℕ → List ℕ → Bool
is_number most word = is_some (number_word most word)

-- The number of bytes in lower-case hexadecimal; a dash stands for none
abbrev pub is_lower_digit : ℕ → Bool
is_lower_digit c = (nat_le 48 c && nat_le c 57) || (nat_le 97 c && nat_le c 102)

unfoldable pub is_hex_word : List ℕ → Bool
is_hex_word word = nat_lt 0 (length word) && (length word % 2 == 0) && list_all is_lower_digit word

unfoldable pub byte_count : List ℕ → Option ℕ
byte_count word = if bytes_eq word (codes "-") then Some 0 else (if is_hex_word word then Some (length word / 2) else None)

-- The number of lengths of reads, joined by commas: at most 512
unfoldable pub lens_count : List ℕ → Option ℕ
lens_count word =
    if list_all (is_number 2048) (slice_split (is 44) word) && nat_le (length (slice_split (is 44) word)) 512 then Some (length (slice_split (is 44) word))
    else None

-- An address with a port. In a message both may be 0
abbrev pub are_octets : List (List ℕ) → Bool
are_octets (a ∷ b ∷ c ∷ d ∷ []) = is_number 255 a && (is_number 255 b && (is_number 255 c && is_number 255 d))
are_octets _ = false

abbrev pub are_address : List (List ℕ) → Bool
are_address (host ∷ port ∷ []) = are_octets (slice_split (is 46) host) && is_number 65535 port
are_address _ = false

unfoldable pub is_address : List ℕ → Bool
is_address word = are_address (slice_split (is 58) word)

-- The letters of flags in their order; a dash stands for none
abbrev pub without : ℕ → List ℕ → List ℕ
without letter [] = []
without letter (c ∷ more) = if c == letter then more else c ∷ more

abbrev pub without_all : List ℕ → List ℕ → List ℕ
without_all [] word = word
without_all (letter ∷ letters) word = without_all letters (without letter word)

unfoldable pub are_letters : List ℕ → Bool
are_letters word = length (without_all (codes "CEUAPRSF") word) == 0

unfoldable pub are_flags : List ℕ → Bool
are_flags word = bytes_eq word (codes "-") || (nat_lt 0 (length word) && are_letters word)

-- The size in bytes of the MSS option: a maximum segment size, or a dash for no option
unfoldable pub option_size : List ℕ → Option ℕ
option_size word = if bytes_eq word (codes "-") then Some 0 else (if is_number 65535 word then Some 4 else None)

-- The fields of a line by name. An address is named `key`
pub data Column : Type 0 where
  KeyColumn : Column
  NumberColumn : (name : List ℕ) → Field → Column

-- the word after a name
abbrev pub named : List ℕ → List (List ℕ) → Option (List ℕ)
named name (label ∷ word ∷ more) = if bytes_eq label name then Some word else None
named name _ = None

-- a number that fits its field's bytes and is in its range
abbrev pub in_field : Grammar → (boot behind : ℕ) → Field → Option ℕ → Bool
in_field grammar boot behind field (Some n) = is_in_range_by grammar boot behind field n
in_field grammar boot behind field None = false

abbrev pub most_of : Field → ℕ
most_of field = 256 ^ width field - 1

abbrev pub number_fits : Grammar → (boot behind : ℕ) → Field → Option (List ℕ) → Bool
number_fits grammar boot behind field (Some word) = in_field grammar boot behind field (number_word (most_of field) word)
number_fits grammar boot behind field None = false

abbrev pub key_fits : Option (List ℕ) → Bool
key_fits (Some word) = is_address word
key_fits None = false

abbrev pub column_fits : Grammar → (boot behind : ℕ) → Column → List (List ℕ) → Bool
column_fits grammar boot behind KeyColumn words = key_fits (named (codes "key") words)
column_fits grammar boot behind (NumberColumn name field) words = number_fits grammar boot behind field (named name words)

-- these fields, one after another
abbrev pub columns_fit : Grammar → (boot behind : ℕ) → List Column → List (List ℕ) → Bool
columns_fit grammar boot behind [] words = true
columns_fit grammar boot behind (column ∷ columns) words =
    column_fits grammar boot behind column words && columns_fit grammar boot behind columns (drop 2 words)

-- the fields of a segment between its flags and its options. Their ranges are the same in both grammars
abbrev pub segment_columns : List Column
segment_columns =
    NumberColumn (codes "seq") fields.Initial ∷ NumberColumn (codes "ack") fields.Initial ∷ NumberColumn (codes "window") fields.Port ∷ []

-- how many bytes the timestamps take that are a segment's last words; a segment without them has no words behind its text
abbrev pub timestamps_size : List (List ℕ) → Option ℕ
timestamps_size [] = Some 0
timestamps_size (name ∷ value ∷ echo ∷ []) =
    if bytes_eq name (codes "ts") && (is_number (2 ^ 32 - 1) value && is_number (2 ^ 32 - 1) echo) then Some timestamps_length else None
timestamps_size _ = None

-- a segment has at most 1,500 bytes
abbrev pub sizes_fit : (mss timestamps payload : Option ℕ) → Bool
sizes_fit (Some mss) (Some timestamps) (Some payload) = nat_le (40 + mss + timestamps + payload) longest_packet
sizes_fit _ _ _ = false

-- the second of exactly two words, if the first is this name
abbrev pub last_named : List ℕ → List (List ℕ) → Option (List ℕ)
last_named name (label ∷ word ∷ []) = if bytes_eq label name then Some word else None
last_named name _ = None

abbrev pub last_fits : (bytes mss : Option (List ℕ)) → (timestamps : Option ℕ) → Bool
last_fits None mss timestamps = false
last_fits (Some bytes) None timestamps = false
last_fits (Some bytes) (Some mss) timestamps = sizes_fit (option_size mss) timestamps (byte_count bytes)

abbrev pub text_fits : List (List ℕ) → Bool
text_fits words = last_fits (named (codes "data") (drop 2 words)) (named (codes "mss") words) (timestamps_size (drop 2 (drop 2 words)))

unfoldable pub is_segment : List (List ℕ) → Bool
is_segment [] = false
is_segment (flags ∷ words) = are_flags flags && (columns_fit Plain 0 0 segment_columns words && text_fits (drop 6 words))

-- the name of a message's kind
abbrev pub kind_name : Kind → List ℕ
kind_name kinds.Hello = codes "Hello"
kind_name kinds.Summary = codes "Summary"
kind_name kinds.List = codes "List"
kind_name kinds.Entry = codes "Entry"
kind_name kinds.Bytes = codes "Bytes"
kind_name kinds.Part = codes "Part"
kind_name kinds.Cuts = codes "Cuts"
kind_name kinds.Lens = codes "Lens"
kind_name kinds.Open = codes "Open"
kind_name kinds.Opened = codes "Opened"
kind_name kinds.Data = codes "Data"
kind_name kinds.Stable = codes "Stable"
kind_name kinds.Read = codes "Read"
kind_name kinds.Reads = codes "Reads"
kind_name kinds.Done = codes "Done"
kind_name kinds.Ended = codes "Ended"
kind_name kinds.Stale = codes "Stale"
kind_name kinds.Full = codes "Full"

abbrev pub kind_among : List Kind → List ℕ → Option Kind
kind_among [] word = None
kind_among (kind ∷ more) word = if bytes_eq word (kind_name kind) then Some kind else kind_among more word

unfoldable pub kind_named : List ℕ → Option Kind
kind_named word = kind_among all_kinds word

-- the fields of a kind of message
abbrev pub with_key : List Column → List Column
with_key columns = KeyColumn ∷ columns

abbrev pub opening_columns : List Column → List Column
opening_columns columns =
    KeyColumn ∷ NumberColumn (codes "cisn") fields.Initial ∷ NumberColumn (codes "sisn") fields.Initial ∷ NumberColumn (codes "mss") fields.Mss ∷ columns

abbrev pub state_columns : List Column
state_columns =
    NumberColumn (codes "length") fields.Length ∷ NumberColumn (codes "fin") fields.Flag ∷ NumberColumn (codes "done") fields.Flag
    ∷ NumberColumn (codes "reads") fields.Units ∷ NumberColumn (codes "acked") fields.Units ∷ []

abbrev pub kept_columns : List Column
kept_columns =
    KeyColumn ∷ NumberColumn (codes "length") fields.Length ∷ NumberColumn (codes "fin") fields.Flag ∷ NumberColumn (codes "reads") fields.Units ∷ []

abbrev pub columns_of : Kind → List Column
columns_of kinds.Hello = []
columns_of kinds.Summary = NumberColumn (codes "count") fields.Count ∷ []
columns_of kinds.List = NumberColumn (codes "index") fields.Place ∷ []
columns_of kinds.Entry = NumberColumn (codes "index") fields.Place ∷ opening_columns state_columns
columns_of kinds.Bytes = KeyColumn ∷ NumberColumn (codes "offset") fields.Offset ∷ []
columns_of kinds.Part = KeyColumn ∷ NumberColumn (codes "offset") fields.Offset ∷ []
columns_of kinds.Cuts = KeyColumn ∷ NumberColumn (codes "first") fields.Units ∷ []
columns_of kinds.Lens = KeyColumn ∷ NumberColumn (codes "first") fields.Units ∷ []
columns_of kinds.Open = opening_columns []
columns_of kinds.Opened = opening_columns []
columns_of kinds.Data =
    KeyColumn ∷ NumberColumn (codes "offset") fields.Offset ∷ NumberColumn (codes "acked") fields.Units ∷ NumberColumn (codes "fin") fields.Ending ∷ []
columns_of kinds.Stable = kept_columns
columns_of kinds.Read = KeyColumn ∷ NumberColumn (codes "index") fields.Units ∷ NumberColumn (codes "length") fields.ReadLength ∷ []
columns_of kinds.Reads = kept_columns
columns_of kinds.Done = KeyColumn ∷ []
columns_of kinds.Ended = KeyColumn ∷ []
columns_of kinds.Stale = NumberColumn (codes "newer") fields.Newer ∷ []
columns_of kinds.Full = KeyColumn ∷ []

-- how many bytes follow a message's fields, according to the words after them
abbrev pub counted : (List ℕ → Option ℕ) → Option (List ℕ) → Option ℕ
counted count (Some word) = count word
counted count None = None

abbrev pub nothing_more : List (List ℕ) → Option ℕ
nothing_more [] = Some 0
nothing_more (word ∷ more) = None

abbrev pub behind_in : Kind → List (List ℕ) → Option ℕ
behind_in kinds.Part words = counted byte_count (last_named (codes "bytes") words)
behind_in kinds.Data words = counted byte_count (last_named (codes "bytes") words)
behind_in kinds.Lens words = option_map (λ n. 2 * n) (counted lens_count (last_named (codes "lens") words))
behind_in _ words = nothing_more words

abbrev pub rest_fits : Grammar → Kind → (boot : ℕ) → Option ℕ → List (List ℕ) → Bool
rest_fits grammar kind boot (Some behind) words = has_length kind (behind_at kind + behind) && columns_fit grammar boot behind (columns_of kind) words
rest_fits grammar kind boot None words = false

abbrev pub body_fits : Grammar → Option Kind → Option ℕ → List (List ℕ) → Bool
body_fits grammar (Some kind) (Some boot) words =
    nat_le 1 boot && rest_fits grammar kind boot (behind_in kind (drop (2 * length (columns_of kind)) words)) words
body_fits grammar _ _ words = false

unfoldable pub is_message : Grammar → List (List ℕ) → Bool
is_message grammar (name ∷ label ∷ number ∷ words) =
    bytes_eq label (codes "boot") && body_fits grammar (kind_named name) (number_word (2 ^ 64 - 1) number) words
is_message grammar _ = false

-- the direction of a packet
abbrev pub ends_with : List ℕ → List ℕ → Bool
ends_with end word = bytes_eq (drop (length word - length end) word) end

unfoldable pub direction_of : List ℕ → Option Direction
direction_of word =
    if bytes_eq word (codes "S>L") || bytes_eq word (codes "L>S") then Some WithLogger
    else (if starts_with nat_eq word (codes "S>") then option_map ToClient (number_word (2 ^ 64 - 1) (drop 2 word))
    else (if ends_with (codes ">S") word then option_map FromClient (number_word (2 ^ 64 - 1) (take (length word - 2) word))
    else None))

-- the content of a packet in this direction, if there are so many clients
abbrev pub is_client : (clients n : ℕ) → Bool
is_client clients n = nat_le 1 n && nat_le n clients

abbrev pub content_fits : Grammar → (clients : ℕ) → Option Direction → List (List ℕ) → Bool
content_fits grammar clients (Some (FromClient n)) words = is_client clients n && is_segment words
content_fits grammar clients (Some (ToClient n)) words = is_client clients n && is_segment words
content_fits grammar clients (Some WithLogger) words = is_message grammar words
content_fits grammar clients None words = false

-- the words of a packet line
abbrev pub is_numbered : (n : ℕ) → Option ℕ → Bool
is_numbered n (Some m) = m == n
is_numbered n None = false

unfoldable pub packet_words_fit : Grammar → (clients n : ℕ) → List (List ℕ) → Bool
packet_words_fit grammar clients n (packet ∷ number ∷ direction ∷ words) =
    bytes_eq packet (codes "packet") && (is_numbered n (number_word (2 ^ 32 - 1) number) && content_fits grammar clients (direction_of direction) words)
packet_words_fit grammar clients n _ = false

-- a line of words, each followed by one space and the last by the line feed
abbrev pub ends_with_feed : List ℕ → Bool
ends_with_feed line = nat_lt 0 (length line) && ends_with (10 ∷ []) line

unfoldable pub is_packet_text : Grammar → (clients n : ℕ) → List ℕ → Bool
is_packet_text grammar clients n line = ends_with_feed line && packet_words_fit grammar clients n (slice_split (is 32) (take (length line - 1) line))
