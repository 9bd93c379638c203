-- The grammar of datagrams between two loggers: which strings of bytes are such a datagram and what they say, and the one spelling in which this project writes
-- it. It has the header of a message, with another magic and a number in place of the boot number. In a Forward a server's message follows the header, in the
-- grammar of the loggers' messages.
use Rattle.std.specs.Prelude.{ℕ, Bool, true, false, not, List, [], length, drop, slice_index, find, Option, None, Some, ◌∷◌, Result, Ok, Err, ◌≡◌}
use Rattle.std.specs.Prelude.{◌+◌, ◌^◌, ◌<◌, ◌==◌, ◌&&◌, ◌||◌, nat_lt, nat_le, if◌then◌else◌}
use Rattle.seq_arith.specs.declared.kinds.BadMsg.{BadMsg}
use Rattle.seq_arith.specs.declared.kinds.Grammar.{Grammar}
use Rattle.seq_arith.specs.declared.kinds.Grammar.TheVariants as grammars
use Rattle.seq_arith.specs.declared.twin.BadTwin.{BadTwin}
use Rattle.seq_arith.specs.declared.twin.BadTwin.TheVariants as bad
use Rattle.seq_arith.specs.declared.twin.TwinKind.{TwinKind}
use Rattle.seq_arith.specs.declared.twin.TwinKind.TheVariants as kinds
use Rattle.seq_arith.specs.Bytes.{word_at}
use Rattle.seq_arith.specs.Checksum.{checksum}
use Rattle.seq_arith.specs.Header.{headed}
use Rattle.seq_arith.specs.Message.{Message, is_answer}
use Rattle.seq_arith.specs.MessageGrammar.{number_in}
use Rattle.seq_arith.specs.MessageGrammar as messages
use Rattle.seq_arith.specs.TwinDatagram.{TwinDatagram}
use Rattle.seq_arith.specs.TwinDatagram.{TwinDatagram as datagrams}

-- the kinds, and the number of each
abbrev pub all_kinds : List TwinKind
all_kinds = kinds.Forward ∷ kinds.Got ∷ kinds.Alone ∷ []

abbrev pub kind_number : TwinKind → ℕ
kind_number kinds.Forward = 1
kind_number kinds.Got = 2
kind_number kinds.Alone = 3

unfoldable pub kind_numbered : ℕ → Option TwinKind
kind_numbered number = find (λ kind. kind_number kind == number) all_kinds

-- whether a datagram of a kind may have `n` bytes: a message has 16 to 1,491
unfoldable pub has_length : TwinKind → ℕ → Bool
has_length kinds.Forward n = nat_le 32 n && nat_le n 1507
has_length kinds.Got n = n == 16
has_length kinds.Alone n = n == 16

-- whether bytes say what a server may send to a logger
abbrev pub says_asking : Result Message BadMsg → Bool
says_asking (Ok message) = not (is_answer message.body)
says_asking (Err why) = false

unfoldable pub is_asking_by : Grammar → List ℕ → Bool
is_asking_by grammar bytes = says_asking (messages.reading_by grammar bytes)

-- whether what a datagram of a kind says is in its range, with this number and these bytes after its header
unfoldable pub is_sound_by : Grammar → TwinKind → (number : ℕ) → (behind : List ℕ) → Bool
is_sound_by grammar kinds.Forward number behind = nat_le 1 number && is_asking_by grammar behind
is_sound_by grammar kinds.Got number behind = nat_le 1 number
is_sound_by grammar kinds.Alone number behind = number == 0

-- what it says
abbrev pub datagram_of : TwinKind → (number : ℕ) → (behind : List ℕ) → TwinDatagram
datagram_of kinds.Forward number behind = datagrams.Forward number behind
datagram_of kinds.Got number behind = datagrams.Got number
datagram_of kinds.Alone number behind = datagrams.Alone

unfoldable pub is_sound_in : Grammar → TwinKind → List ℕ → Bool
is_sound_in grammar kind bytes = is_sound_by grammar kind (number_in 8 (drop 8 bytes)) (drop 16 bytes)

unfoldable pub datagram_in : TwinKind → List ℕ → TwinDatagram
datagram_in kind bytes = datagram_of kind (number_in 8 (drop 8 bytes)) (drop 16 bytes)

-- What a string of bytes says between loggers whose messages have this grammar, or why it is no such datagram: the first test that holds
unfoldable pub reading_of : Grammar → TwinKind → List ℕ → Result TwinDatagram BadTwin
reading_of grammar kind bytes =
    if not (word_at bytes 4 == length bytes) || not (has_length kind (length bytes)) then Err bad.Length
    else (if not (checksum bytes == 0) then Err bad.Sum
    else (if not (is_sound_in grammar kind bytes) then Err bad.Field else Ok (datagram_in kind bytes)))

abbrev pub reading_if : Grammar → Option TwinKind → List ℕ → Result TwinDatagram BadTwin
reading_if grammar None bytes = Err bad.Kind
reading_if grammar (Some kind) bytes = reading_of grammar kind bytes

unfoldable pub reading_by : Grammar → List ℕ → Result TwinDatagram BadTwin
reading_by grammar bytes =
    if nat_lt (length bytes) 16 then Err bad.Short
    else (if not (word_at bytes 0 == 18005) then Err bad.Magic
    else (if not (slice_index bytes 2 == 1) then Err bad.Version else reading_if grammar (kind_numbered (slice_index bytes 3)) bytes))

-- .. whose messages have the plain one
abbrev pub is_sound : TwinKind → (number : ℕ) → (behind : List ℕ) → Bool
is_sound kind number behind = is_sound_by grammars.Plain kind number behind

abbrev pub is_asking : List ℕ → Bool
is_asking bytes = is_asking_by grammars.Plain bytes

abbrev pub reading : List ℕ → Result TwinDatagram BadTwin
reading bytes = reading_by grammars.Plain bytes

-- what a datagram says is its kind, its number, and what follows its header
abbrev pub kind_of : TwinDatagram → TwinKind
kind_of (datagrams.Forward number message) = kinds.Forward
kind_of (datagrams.Got number) = kinds.Got
kind_of datagrams.Alone = kinds.Alone

abbrev pub number_of : TwinDatagram → ℕ
number_of (datagrams.Forward number message) = number
number_of (datagrams.Got number) = number
number_of datagrams.Alone = 0

abbrev pub behind_of : TwinDatagram → List ℕ
behind_of (datagrams.Forward number message) = message
behind_of _ = []

-- the spelling with this checksum
unfoldable pub spelled : TwinDatagram → (check : ℕ) → List ℕ
spelled datagram check = headed 85 (kind_number (kind_of datagram)) (number_of datagram) (behind_of datagram) check

-- the one spelling of a datagram
unfoldable pub spelling : TwinDatagram → List ℕ
spelling datagram = spelled datagram (checksum (spelled datagram 0))

-- what has a spelling: the number fits its bytes, all is in its range, and the datagram has one of its kind's lengths
pub record IsSpellableBy (grammar : Grammar) (datagram : TwinDatagram) : Type 0 where
  pub number : number_of datagram < 256 ^ 8
  pub sound : is_sound_by grammar (kind_of datagram) (number_of datagram) (behind_of datagram) ≡ true
  pub size : has_length (kind_of datagram) (16 + length (behind_of datagram)) ≡ true

abbrev pub IsSpellable : TwinDatagram → Type 0
IsSpellable datagram = IsSpellableBy grammars.Plain datagram
