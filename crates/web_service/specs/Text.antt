-- Tests and parts of the texts in a request (RFC 9110, section 5.6).
use Rattle.std.specs.Prelude.{ℕ, ◌+◌, ◌-◌, ◌*◌, ◌^◌, min, Bool, ◌==◌, ◌&&◌, ◌||◌, not, List, [], ◌∷◌, length, take, drop, bytes_eq, codes}
use Rattle.std.specs.List.{list_all, list_any, prefix_len, slice_split, suffix_len}
use Rattle.std.specs.Char.{is_ascii_alphanumeric, is_ascii_control, is_ascii_digit, is_ascii_whitespace}
use Rattle.std.specs.Str.{str_to_ascii_lowercase}

-- a byte of a token: a letter, a digit, or one of these marks
abbrev pub token_marks : List ℕ
token_marks = codes "!#$%&'*+-.^_`|~"

abbrev pub is_token_byte : ℕ → Bool
is_token_byte byte = is_ascii_alphanumeric byte || list_any (λ mark. mark == byte) token_marks

unfoldable pub is_token : List ℕ → Bool
is_token word = list_all is_token_byte word && not (length word == 0)

-- a byte of a Host: of a name, an address or a port (RFC 9112, section 3.2)
abbrev pub host_marks : List ℕ
host_marks = codes "-._~!$&'()*+,;=%:[]"

abbrev pub is_host_byte : ℕ → Bool
is_host_byte byte = is_ascii_alphanumeric byte || list_any (λ mark. mark == byte) host_marks

unfoldable pub is_host : List ℕ → Bool
is_host word = list_all is_host_byte word

-- a byte of a line: any but a control character. A tab is allowed
abbrev pub is_plain_byte : ℕ → Bool
is_plain_byte byte = byte == 9 || not (is_ascii_control byte)

unfoldable pub is_plain : List ℕ → Bool
is_plain line = list_all is_plain_byte line

-- without the white space at both ends. In a line, white space is spaces and tabs
unfoldable pub trimmed : List ℕ → List ℕ
trimmed bytes =
    let rest = drop (prefix_len is_ascii_whitespace bytes) bytes in
    take (length rest - suffix_len is_ascii_whitespace rest) rest

-- equal words, whatever the case of their letters
unfoldable pub same_word : List ℕ → List ℕ → Bool
same_word a b = bytes_eq (str_to_ascii_lowercase a) (str_to_ascii_lowercase b)

-- whether a comma-separated list has this word
unfoldable pub has_option : List ℕ → List ℕ → Bool
has_option word value = list_any (λ part. same_word (trimmed part) word) (slice_split (λ byte. byte == 44) value)

-- one digit or more
unfoldable pub is_number : List ℕ → Bool
is_number word = list_all is_ascii_digit word && not (length word == 0)

-- a number with one more digit. It stays at 10^18, which no length reaches
abbrev pub digit_more : ℕ → ℕ → ℕ
digit_more n byte = min (10 * n + (byte - 48)) (10 ^ 18)

abbrev pub number_from : ℕ → List ℕ → ℕ
number_from n [] = n
number_from n (byte ∷ bytes) = number_from (digit_more n byte) bytes

-- the number that digits spell
unfoldable pub number : List ℕ → ℕ
number word = number_from 0 word
