-- The grammar of messages about forgetting: which strings of bytes are such a message and what they say, and the one spelling in which this project writes it.
-- It has the header of a message with another magic, and after it the key and the two initial sequence numbers of a connection.
use Rattle.std.specs.Prelude.{ℕ, not, List, [], ◌∷◌, length, drop, slice_index, find, Option, None, Some, Result, Ok, Err, ◌≤◌, ◌<◌, ◌^◌, ◌==◌, ◌||◌}
use Rattle.std.specs.Prelude.{nat_lt, if◌then◌else◌}
use Rattle.seq_arith.specs.declared.kinds.Field.{Field}
use Rattle.seq_arith.specs.declared.kinds.Field.TheVariants as fields
use Rattle.seq_arith.specs.declared.kinds.BadMsg.{BadMsg}
use Rattle.seq_arith.specs.declared.kinds.BadMsg.TheVariants as bad
use Rattle.seq_arith.specs.Bytes.{word_at}
use Rattle.seq_arith.specs.Checksum.{checksum}
use Rattle.seq_arith.specs.Header.{headed}
use Rattle.seq_arith.specs.MessageGrammar.{number_in, with_key, numbers_in, numbers_bytes, key_and, key_at, AllFit}
use Rattle.long_laws.specs.Forgetting.{Named, ForgetBody, ForgetMessage, named_of}
use Rattle.long_laws.specs.Forgetting.ForgetBody.{ForgetMsg, ForgottenMsg}

-- the kinds, and the number of each
pub data ForgetKind : Type 0 where
  Forget : ForgetKind
  Forgotten : ForgetKind

abbrev pub all_kinds : List ForgetKind
all_kinds = Forget ∷ Forgotten ∷ []

abbrev pub kind_number : ForgetKind → ℕ
kind_number Forget = 1
kind_number Forgotten = 2

unfoldable pub kind_numbered : ℕ → Option ForgetKind
kind_numbered number = find (λ kind. kind_number kind == number) all_kinds

-- the fields, in either kind
abbrev pub naming : List Field
naming = with_key (fields.Initial ∷ fields.Initial ∷ [])

-- What a body says is its kind and its numbers
abbrev pub kind_of : ForgetBody → ForgetKind
kind_of (ForgetMsg n) = Forget
kind_of (ForgottenMsg n) = Forgotten

abbrev pub numbers_of : Named → List ℕ
numbers_of n = key_and n.key (n.cisn ∷ n.sisn ∷ [])

-- and back
abbrev pub named_in : List ℕ → Named
named_in numbers = record { key = key_at numbers 0; cisn = slice_index numbers 2; sisn = slice_index numbers 3 }

abbrev pub body_in : ForgetKind → Named → ForgetBody
body_in Forget n = ForgetMsg n
body_in Forgotten n = ForgottenMsg n

unfoldable pub boot_in : List ℕ → ℕ
boot_in bytes = number_in 8 (drop 8 bytes)

-- what a message of a kind says
unfoldable pub message_in : ForgetKind → List ℕ → ForgetMessage
message_in kind bytes = record { boot = boot_in bytes; body = body_in kind (named_in (numbers_in naming (drop 16 bytes))) }

-- What a string of bytes says, or why it is no such message: the first test that holds. Boot numbers begin at 1; keys and initial sequence numbers are
-- unrestricted
unfoldable pub reading_of : ForgetKind → List ℕ → Result ForgetMessage BadMsg
reading_of kind bytes =
    if not (word_at bytes 4 == length bytes) || not (length bytes == 30) then Err bad.Length
    else (if not (checksum bytes == 0) then Err bad.Sum
    else (if nat_lt (boot_in bytes) 1 then Err bad.Field else Ok (message_in kind bytes)))

abbrev pub reading_if : Option ForgetKind → List ℕ → Result ForgetMessage BadMsg
reading_if None bytes = Err bad.Kind
reading_if (Some kind) bytes = reading_of kind bytes

unfoldable pub reading : List ℕ → Result ForgetMessage BadMsg
reading bytes =
    if nat_lt (length bytes) 16 then Err bad.Short
    else (if not (word_at bytes 0 == 18007) then Err bad.Magic
    else (if not (slice_index bytes 2 == 1) then Err bad.Version else reading_if (kind_numbered (slice_index bytes 3)) bytes))

-- the part of a spelling after its header
abbrev pub behind_header : ForgetBody → List ℕ
behind_header body = numbers_bytes naming (numbers_of (named_of body))

-- the spelling with this checksum
unfoldable pub spelled : ForgetMessage → (check : ℕ) → List ℕ
spelled message check = headed 87 (kind_number (kind_of message.body)) message.boot (behind_header message.body) check

-- the one spelling of a message
unfoldable pub spelling : ForgetMessage → List ℕ
spelling message = spelled message (checksum (spelled message 0))

-- what has a spelling: each number fits its bytes, and the boot number is at least 1
pub record IsSpellable (message : ForgetMessage) : Type 0 where
  pub boot : message.boot < 256 ^ 8
  pub begun : 1 ≤ message.boot
  pub numbers : AllFit naming (numbers_of (named_of message.body))
