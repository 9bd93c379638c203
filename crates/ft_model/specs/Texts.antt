-- How a report spells values. Numbers are decimal without leading zeros, hexadecimal digits are lower case, and a value that is
-- empty or absent is a dash.
use Rattle.std.specs.Prelude.{ℕ, Bool, true, false, codes, map, Option, None, Some, List, [], ◌∷◌, ◌++◌, ◌/◌, ◌%◌, ◌^◌, ◌==◌, length, if◌then◌else◌}
use Rattle.std.specs.List.{join_with_byte, flat_map}
use Rattle.std.specs.Fmt.{decimal}
use Rattle.hex.specs.Hex.{encode_lower}
use Rattle.ft_io.specs.declared.Key.{Key}
use Rattle.seq_arith.specs.Packet.{has}
use Rattle.ft_model.specs.declared.way.Way.{Way}
use Rattle.ft_model.specs.declared.way.Way.TheVariants.{ClientToServer, ServerToClient, ServerToLogger, LoggerToServer, HeadToTail, TailToHead}
use Rattle.ft_model.specs.declared.phase.Phase.{Phase}
use Rattle.ft_model.specs.declared.phase.Phase.TheVariants.{New, Opening, Established, Ended, Reset}
use Rattle.ft_model.specs.declared.schedule.ServiceKind.{ServiceKind}
use Rattle.ft_model.specs.declared.schedule.ServiceKind.TheVariants.{Echo, Line, Transfer, Meter}
use Rattle.ft_model.specs.declared.schedule.Script.{Script}
use Rattle.ft_model.specs.declared.schedule.Script.TheVariants.{Bytes, Fill}

-- words, each after a space
abbrev pub spaced : List (List ℕ) → List ℕ
spaced words = flat_map (λ word. codes " " ++ word) words

-- a line: its first word, the others after spaces, and a line feed
abbrev pub line : List ℕ → List (List ℕ) → List ℕ
line first others = first ++ (spaced others ++ 10 ∷ [])

-- a text, or a dash for none
abbrev pub or_dash : List ℕ → List ℕ
or_dash text = if length text == 0 then codes "-" else text

-- bytes, each as two hexadecimal digits
unfoldable pub hex_text : List ℕ → List ℕ
hex_text bytes = or_dash (encode_lower bytes)

-- numbers, joined by commas
unfoldable pub list_text : List ℕ → List ℕ
list_text numbers = or_dash (join_with_byte 44 (map decimal numbers))

-- numbers in decimal, each after a comma
abbrev pub behind_commas : List ℕ → List ℕ
behind_commas numbers = flat_map (λ n. codes "," ++ decimal n) numbers

-- the four octets of an IPv4 address (RFC 791, 3.2)
abbrev pub octets : ℕ → List ℕ
octets ip = (ip / 2 ^ 24) ∷ (ip / 2 ^ 16 % 256) ∷ (ip / 2 ^ 8 % 256) ∷ (ip % 256) ∷ []

-- an IPv4 address and a port: octets joined by dots, a colon, the port
unfoldable pub address_text : ℕ → ℕ → List ℕ
address_text ip port = join_with_byte 46 (map decimal (octets ip)) ++ (codes ":" ++ decimal port)

abbrev pub key_text : Key → List ℕ
key_text key = address_text key.ip key.port

-- a flag's letter, where the flag is set
abbrev pub letter_if : ℕ → List ℕ → ℕ → List ℕ
letter_if flag letter flags = if has flags flag then letter else []

-- the letters of the flags that are set, in the order of their bits (RFC 9293, 3.1; CWR and ECE are C and E)
abbrev pub flag_letters : ℕ → List ℕ
flag_letters flags =
    letter_if 128 (codes "C") flags ++ (letter_if 64 (codes "E") flags ++ (letter_if 32 (codes "U") flags ++ (letter_if 16 (codes "A") flags
    ++ (letter_if 8 (codes "P") flags ++ (letter_if 4 (codes "R") flags ++ (letter_if 2 (codes "S") flags ++ letter_if 1 (codes "F") flags))))))

unfoldable pub flags_text : ℕ → List ℕ
flags_text flags = or_dash (flag_letters flags)

-- the maximum segment size, if the segment has that option
unfoldable pub mss_text : Option ℕ → List ℕ
mss_text None = codes "-"
mss_text (Some mss) = decimal mss

unfoldable pub bit_text : Bool → List ℕ
bit_text true = codes "1"
bit_text false = codes "0"

-- what a Data says of its turn, as a digit: the number that the message has
unfoldable pub ending_text : (fin more : Bool) → List ℕ
ending_text fin false = bit_text fin
ending_text false true = codes "2"
ending_text true true = codes "3"

-- from whom to whom: a client as its number, the server as S, the logger as L, and of two loggers the head as H and the tail as T
unfoldable pub way_text : Way → List ℕ
way_text (ClientToServer n) = decimal n ++ codes ">S"
way_text (ServerToClient n) = codes "S>" ++ decimal n
way_text ServerToLogger = codes "S>L"
way_text LoggerToServer = codes "L>S"
way_text HeadToTail = codes "H>T"
way_text TailToHead = codes "T>H"

unfoldable pub service_text : ServiceKind → List ℕ
service_text Echo = codes "echo"
service_text Line = codes "line"
service_text Transfer = codes "transfer"
service_text Meter = codes "meter"

-- the bytes that a client sends: none, these, or `n` letters
unfoldable pub script_text : Script → List ℕ
script_text (Bytes bytes) = if length bytes == 0 then codes "-" else codes "hex:" ++ encode_lower bytes
script_text (Fill n) = codes "fill:" ++ decimal n

unfoldable pub phase_text : Phase → List ℕ
phase_text New = codes "new"
phase_text Opening = codes "opening"
phase_text Established = codes "open"
phase_text Ended = codes "ended"
phase_text Reset = codes "reset"
