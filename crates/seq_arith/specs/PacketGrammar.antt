-- The packet grammar: which strings of bytes are a TCP packet over IPv4 and what they say (RFC 791, 3.1; RFC 9293, 3.1 and 3.2), and
-- the one spelling in which this project writes a packet. Places are counted in the whole packet, from 0.
use Rattle.limits.specs.Limits.{longest_packet}
use Rattle.std.specs.Prelude.{ℕ, zero, suc, Bool, true, false, not, List, [], ◌∷◌, ◌++◌, length, take, drop, slice_index, Option, None, Some, Result}
use Rattle.std.specs.Prelude.{Ok, Err, IfSome, ◌+◌, ◌-◌, ◌*◌, ◌/◌, ◌%◌, ◌^◌, ◌<◌, ◌≤◌, ◌==◌, ◌&&◌, ◌||◌, nat_lt, if◌then◌else◌}
use Rattle.seq_arith.specs.declared.BadPacket.{BadPacket}
use Rattle.seq_arith.specs.declared.BadPacket.TheVariants.{Short, Version, HeaderLength, TotalLength, Fragment, Protocol, IpChecksum, DataOffset}
use Rattle.seq_arith.specs.declared.BadPacket.TheVariants.{OptionLength, TcpChecksum, TooLong}
use Rattle.seq_arith.specs.Bytes.{two, four, word_at, long_at}
use Rattle.seq_arith.specs.Checksum.{checksum}
use Rattle.seq_arith.specs.declared.options.Timestamps.{Timestamps}
use Rattle.seq_arith.specs.Packet.{Head, Segment}

-- where the payload begins, by the data offset
unfoldable pub payload_at : List ℕ → ℕ
payload_at bytes = 20 + 4 * (slice_index bytes 32 / 16)

unfoldable pub options_in : List ℕ → List ℕ
options_in bytes = take (payload_at bytes - 40) (drop 40 bytes)

-- Options, after the `before` bytes that are left of the option before. Kind 0 ends them, and kind 1 is a single byte. Every other kind is followed by a
-- length, which counts both. An option is bad where it has no length, or one below 2, or runs past the header.
abbrev pub has_bad_option : ℕ → List ℕ → Bool
has_bad_option zero [] = false
has_bad_option (suc before) [] = true
has_bad_option (suc before) (byte ∷ bytes) = has_bad_option before bytes
has_bad_option zero (kind ∷ bytes) =
    if kind == 0 then false
    else (if kind == 1 then has_bad_option 0 bytes
    else (if nat_lt (slice_index bytes 0) 2 then true else has_bad_option (slice_index bytes 0 - 1) bytes))

-- the segment size that the first option of kind 2 and length 4 gives
abbrev pub mss_in : ℕ → List ℕ → Option ℕ
mss_in before [] = None
mss_in (suc before) (byte ∷ bytes) = mss_in before bytes
mss_in zero (kind ∷ bytes) =
    if kind == 0 then None
    else (if kind == 1 then mss_in 0 bytes
    else (if (kind == 2) && (slice_index bytes 0 == 4) then Some (word_at bytes 1) else mss_in (slice_index bytes 0 - 1) bytes))

-- the timestamps that the first option of kind 8 and length 10 gives: TSval and TSecr (RFC 7323, 3.2)
abbrev pub timestamps_in : ℕ → List ℕ → Option Timestamps
timestamps_in before [] = None
timestamps_in (suc before) (byte ∷ bytes) = timestamps_in before bytes
timestamps_in zero (kind ∷ bytes) =
    if kind == 0 then None
    else (if kind == 1 then timestamps_in 0 bytes
    else (if (kind == 8) && (slice_index bytes 0 == 10) then Some (record { value = long_at bytes 1; echo = long_at bytes 5 })
    else timestamps_in (slice_index bytes 0 - 1) bytes))

-- what the TCP checksum sums: the addresses, a zero, the protocol and the length of what follows, then the TCP header and the payload
unfoldable pub tcp_text : List ℕ → List ℕ
tcp_text bytes = take 8 (drop 12 bytes) ++ (0 ∷ 6 ∷ two (length bytes - 20)) ++ drop 20 bytes

-- The tests, each with its refusal. First those of the IPv4 header. A fragment has the flag "more fragments" or an offset, the low 14 bits of its word. A
-- string that includes its checksum has the checksum 0 where its words sum to FFFF
unfoldable pub ip_tests : List ℕ → List (Bool × BadPacket)
ip_tests bytes =
    (nat_lt (length bytes) 40, Short)
    ∷ (not (slice_index bytes 0 / 16 == 4), Version)
    ∷ (not (slice_index bytes 0 % 16 == 5), HeaderLength)
    ∷ (not (word_at bytes 2 == length bytes), TotalLength)
    ∷ (not (word_at bytes 6 % 16384 == 0), Fragment)
    ∷ (not (slice_index bytes 9 == 6), Protocol)
    ∷ (not (checksum (take 20 bytes) == 0), IpChecksum)
    ∷ []

-- then those of the TCP header and of the packet's length
unfoldable pub tcp_tests : List ℕ → List (Bool × BadPacket)
tcp_tests bytes =
    (nat_lt (payload_at bytes) 40 || nat_lt (length bytes) (payload_at bytes), DataOffset)
    ∷ (has_bad_option 0 (options_in bytes), OptionLength)
    ∷ (not (checksum (tcp_text bytes) == 0), TcpChecksum)
    ∷ (nat_lt longest_packet (length bytes), TooLong)
    ∷ []

-- the refusal of the first test that holds
abbrev pub first_that_holds : List (Bool × BadPacket) → Option BadPacket
first_that_holds [] = None
first_that_holds (test ∷ tests) = if test.0 then Some test.1 else first_that_holds tests

unfoldable pub refusal : List ℕ → Option BadPacket
refusal bytes = first_that_holds (ip_tests bytes ++ tcp_tests bytes)

unfoldable pub head_in : List ℕ → Head
head_in bytes = record {
  src = long_at bytes 12;
  dst = long_at bytes 16;
  sport = word_at bytes 20;
  dport = word_at bytes 22;
  seq = long_at bytes 24;
  ack = long_at bytes 28;
  flags = slice_index bytes 33;
  window = word_at bytes 34;
  mss = mss_in 0 (options_in bytes);
  timestamps = timestamps_in 0 (options_in bytes);
}

unfoldable pub segment_in : List ℕ → Segment
segment_in bytes = record { head = head_in bytes; payload = drop (payload_at bytes) bytes }

abbrev pub unless : Option BadPacket → Segment → Result Segment BadPacket
unless None segment = Ok segment
unless (Some bad) segment = Err bad

-- what a string of bytes says, or why it is no packet
unfoldable pub reading : List ℕ → Result Segment BadPacket
reading bytes = unless (refusal bytes) (segment_in bytes)

abbrev pub mss_option : Option ℕ → List ℕ
mss_option None = []
mss_option (Some mss) = 2 ∷ 4 ∷ mss / 256 % 256 ∷ mss % 256 ∷ []

-- RFC 7323, appendix A: two NOPs in front of the option align both numbers
abbrev pub timestamps_option : Option Timestamps → List ℕ
timestamps_option None = []
timestamps_option (Some timestamps) = 1 ∷ 1 ∷ 8 ∷ 10 ∷ (four timestamps.value ++ four timestamps.echo)

-- the options of a head: the segment size, then the timestamps
abbrev pub options_of : Head → List ℕ
options_of head = mss_option head.mss ++ timestamps_option head.timestamps

abbrev pub packet_length : Segment → ℕ
packet_length segment = 40 + length (options_of segment.head) + length segment.payload

-- the spelling with these two checksums: the flag "don't fragment", a time to live of 64, and zero in all fields that a head doesn't have
unfoldable pub spelled : Segment → ℕ → ℕ → List ℕ
spelled segment ip_check tcp_check =
    (69 ∷ 0 ∷ two (packet_length segment)) ++ (0 ∷ 0 ∷ 64 ∷ 0 ∷ []) ++ (64 ∷ 6 ∷ two ip_check)
    ++ four segment.head.src ++ four segment.head.dst
    ++ two segment.head.sport ++ two segment.head.dport ++ four segment.head.seq ++ four segment.head.ack
    ++ (16 * (5 + length (options_of segment.head) / 4) ∷ segment.head.flags ∷ two segment.head.window)
    ++ two tcp_check ++ (0 ∷ 0 ∷ []) ++ options_of segment.head ++ segment.payload

-- the one spelling of a segment
unfoldable pub spelling : Segment → List ℕ
spelling segment =
    let blank = spelled segment 0 0 in spelled segment (checksum (take 20 blank)) (checksum (tcp_text blank))

-- what has a spelling: each field fits its bytes, and the packet has at most 1,500 bytes
pub record IsSpellable (segment : Segment) : Type 0 where
  pub src : segment.head.src < 2 ^ 32
  pub dst : segment.head.dst < 2 ^ 32
  pub sport : segment.head.sport < 2 ^ 16
  pub dport : segment.head.dport < 2 ^ 16
  pub seq : segment.head.seq < 2 ^ 32
  pub ack : segment.head.ack < 2 ^ 32
  pub flags : segment.head.flags < 2 ^ 8
  pub window : segment.head.window < 2 ^ 16
  pub mss : IfSome segment.head.mss (λ mss. mss < 2 ^ 16)
  pub timestamps : IfSome segment.head.timestamps (λ t. (t.value < 2 ^ 32) × (t.echo < 2 ^ 32))
  pub size : packet_length segment ≤ longest_packet
