-- The spellings of one word of a schedule.
--
-- A number is 1 to 20 decimal digits; leading zeros are allowed. An address is four numbers up to 255 joined by `.`, then `:` and a port
-- from 1 to 65535, each of these with at most five digits. A script is `-`, or `hex:` and 1 to 2^24 pairs of hexadecimal digits of
-- either case, or `fill:` and a number from 1 to 2^24. A service is `echo`, `line`, `transfer` or `meter`. A profile that is named is `wan`.
use Rattle.limits.specs.Limits.{longest_stream}
use Rattle.std.specs.Prelude.{ℕ, Bool, ◌+◌, ◌*◌, ◌%◌, ◌^◌, ◌==◌, ◌&&◌, nat_eq, nat_le, Option, Some, None, option_map, List, [], ◌∷◌, length, drop}
use Rattle.std.specs.Prelude.{codes, if◌then◌else◌}
use Rattle.std.specs.Char.{digit_value, is_ascii_digit, is_ascii_hexdigit}
use Rattle.std.specs.List.{list_all, slice_split, starts_with}
use Rattle.std.specs.Option.{option_and_then}
use Rattle.std.specs.Str.{bytes_eq}
use Rattle.std.specs.Str.Parse.{digits_value}
use Rattle.ft_io.specs.declared.Addr.{Addr}
use Rattle.tcp_rules.specs.declared.profile.Profile.{Profile}
use Rattle.tcp_rules.specs.declared.profile.Profile.TheVariants.{Wan}
use Rattle.ft_model.specs.Words.{is}
use Rattle.ft_model.specs.declared.schedule.Script.{Script}
use Rattle.ft_model.specs.declared.schedule.Script.TheVariants.{Bytes, Fill}
use Rattle.ft_model.specs.declared.schedule.ServiceKind.{ServiceKind}
use Rattle.ft_model.specs.declared.schedule.ServiceKind.TheVariants.{Echo, Line, Transfer, Meter}

-- the number that one to `digits` decimal digits spell
unfoldable pub numeral : ℕ → List ℕ → Option ℕ
numeral digits word = if nat_le 1 (length word) && nat_le (length word) digits && list_all is_ascii_digit word then Some (digits_value 10 word) else None

-- a number, if it isn't below the least nor above the most
abbrev pub within : ℕ → ℕ → ℕ → Option ℕ
within least most n = if nat_le least n && nat_le n most then Some n else None

-- a number from least to most
unfoldable pub number_of : ℕ → ℕ → List ℕ → Option ℕ
number_of least most word = option_and_then (within least most) (numeral 20 word)

-- a number in an address, or its port
unfoldable pub short_number_of : ℕ → ℕ → List ℕ → Option ℕ
short_number_of least most word = option_and_then (within least most) (numeral 5 word)

abbrev pub octet_of : List ℕ → Option ℕ
octet_of word = short_number_of 0 255 word

-- the IPv4 address of four octets, as a number of 32 bits (RFC 791)
abbrev pub joined_octets : Option ℕ → Option ℕ → Option ℕ → Option ℕ → Option ℕ
joined_octets (Some a) (Some b) (Some c) (Some d) = Some (16777216 * a + 65536 * b + 256 * c + d)
joined_octets _ _ _ _ = None

abbrev pub host_in : List (List ℕ) → Option ℕ
host_in (a ∷ b ∷ c ∷ d ∷ []) = joined_octets (octet_of a) (octet_of b) (octet_of c) (octet_of d)
host_in _ = None

-- four octets between `.` (byte 46)
unfoldable pub host_of : List ℕ → Option ℕ
host_of word = host_in (slice_split (is 46) word)

abbrev pub addr_from : Option ℕ → Option ℕ → Option Addr
addr_from (Some ip) (Some port) = Some (record { ip = ip; port = port })
addr_from _ _ = None

abbrev pub addr_in : List (List ℕ) → Option Addr
addr_in (host ∷ port ∷ []) = addr_from (host_of host) (short_number_of 1 65535 port)
addr_in _ = None

-- a host and a port with one `:` (byte 58) between them
unfoldable pub addr_of : List ℕ → Option Addr
addr_of word = addr_in (slice_split (is 58) word)

unfoldable pub service_of : List ℕ → Option ServiceKind
service_of word =
    if bytes_eq word (codes "echo") then Some Echo
    else (if bytes_eq word (codes "line") then Some Line
    else (if bytes_eq word (codes "transfer") then Some Transfer
    else (if bytes_eq word (codes "meter") then Some Meter
    else None)))

-- the plain profile has no name: a schedule that doesn't name one has it
unfoldable pub profile_named : List ℕ → Option Profile
profile_named word = if bytes_eq word (codes "wan") then Some Wan else None

-- the byte of each pair of hexadecimal digits
unfoldable pub hex_bytes : List ℕ → List ℕ
hex_bytes [] = []
hex_bytes (high ∷ []) = []
hex_bytes (high ∷ low ∷ more) = (16 * digit_value high + digit_value low) ∷ hex_bytes more

-- pairs of hexadecimal digits, from 1 to 2^24
unfoldable pub is_hex : List ℕ → Bool
is_hex digits = list_all is_ascii_hexdigit digits && length digits % 2 == 0 && nat_le 2 (length digits) && nat_le (length digits) (2 * longest_stream)

unfoldable pub script_of : List ℕ → Option Script
script_of word =
    if bytes_eq word (codes "-") then Some (Bytes [])
    else (if starts_with nat_eq word (codes "hex:") then (if is_hex (drop 4 word) then Some (Bytes (hex_bytes (drop 4 word))) else None)
    else (if starts_with nat_eq word (codes "fill:") then option_map Fill (number_of 1 (2 ^ 24) (drop 5 word))
    else None))
