-- The law Opening: how a connection is opened (RFC 9293, 3.10.7.2; FT-TCP, INFOCOM 2001: the initial sequence numbers are logged before the SYN-ACK is sent).
use Rattle.std.specs.Prelude.{ℕ, Bool, ◌+◌, ◌*◌, ◌%◌, ◌^◌, ◌&&◌, not}
use Rattle.tcp_rules.specs.Profile.{Profile}
use Rattle.seq_arith.specs.Packet.{Segment, has_syn, has_rst, has_ack}
use Rattle.seq_arith.specs.Message.{Numbers}
use Rattle.tcp_rules.specs.Timestamping.{asked_by, fitting, timestamps_sent}
use Rattle.tcp_rules.specs.declared.timestamping.Timestamping.{Timestamping}
pub use Rattle.seq_arith.specs.Packet.{segment_size, text_size}
use Rattle.ft_model.specs.Network.{source_of}
use Rattle.ft_model.specs.Point.{Point, blank_point}

-- a SYN that opens a connection: without ACK and RST
abbrev pub is_syn : Segment → Bool
is_syn segment = has_syn segment && not (has_ack segment) && not (has_rst segment)

-- the server's initial sequence number of the nth connection, from 0, that an incarnation restarts or opens
abbrev pub initial_number : (isn n : ℕ) → ℕ
initial_number isn n = (isn + 65536 * n) % 2 ^ 32

-- the timestamps that a SYN asks for (RFC 7323, 3.2)
abbrev pub timestamping_for : Profile → Segment → Timestamping
timestamping_for profile syn = asked_by profile.timestamps syn.head.timestamps

-- the numbers of the connection that a SYN asks for. The segment size leaves room for the timestamps
abbrev pub numbers_for : Profile → (isn n : ℕ) → Segment → Numbers
numbers_for profile isn n syn = record {
  key = source_of syn;
  cisn = syn.head.seq;
  sisn = initial_number isn n;
  mss = text_size syn.head.mss (timestamps_sent (timestamping_for profile syn));
}

-- the point of a new connection, with the numbers that the log has: nothing is taken, and no output may be sent yet
abbrev pub point_opened : Profile → Timestamping → Numbers → Point
point_opened profile timestamping numbers =
    record (blank_point profile numbers.key numbers.cisn numbers.sisn numbers.mss) { timestamping = fitting timestamping numbers.mss }
