-- What the south wrapper knows of a connection, and what it does to numbers (FT-TCP, INFOCOM 2001: the south side wrapper, with its delta and its stable
-- number). Initial sequence numbers are those that the client knows. Bytes and units are counted from the connection's start, over all incarnations.
use Rattle.limits.specs.Limits.{buffer_size, longest_stream}
use Rattle.std.specs.Prelude.{ℕ, Bool, false, pos, ◌+◌, ◌-◌, ◌%◌, ◌^◌, ◌&&◌, not, max, min, int_lt, nat_abs, if◌then◌else◌}
use Rattle.tcp_rules.specs.Arrival.{is_beyond}
use Rattle.tcp_rules.specs.declared.timestamping.Timestamping.{Timestamping}
use Rattle.tcp_rules.specs.declared.timestamping.Timestamping.TheVariants.{Off}
use Rattle.seq_arith.specs.Number.{number_at, distance, offset_of}
use Rattle.seq_arith.specs.Offset.{one_if}

pub record SouthState : Type 0 where
  pub cisn : ℕ  -- the client's initial sequence number
  pub sisn : ℕ  -- the server's initial sequence number, as the client knows it
  pub delta : ℕ  -- the client's sequence number for output less TCP's, modulo 2^32
  pub fetched : ℕ  -- the client's bytes that a restart fetched; else 0
  pub fetched_output : ℕ  -- the units of output of the reads that a restart fetched, which an earlier incarnation may have sent; else 0
  pub taken : ℕ  -- the client's bytes that are taken
  pub fin : Bool  -- whether the client's FIN is taken
  pub answered : ℕ  -- the client's units that are known to be logged
  pub read : ℕ  -- the bytes that the service has read
  pub una : ℕ  -- the units of output that the client acknowledged
  pub sent : ℕ  -- where this TCP's sent output ends, in units
  pub timestamping : Timestamping  -- whether segments to the client carry timestamps, and which value they echo

abbrev pub taken_units : SouthState → ℕ
taken_units s = s.taken + one_if s.fin

-- Acknowledgement: what is both taken and known to be logged
abbrev pub acknowledged : SouthState → ℕ
acknowledged s = min (taken_units s) s.answered

-- the right edge of the receive window, as an offset: 65,535 bytes are buffered past what is read, the fetched bytes are there already, and a stream has at
-- most 2^24 bytes
abbrev pub receive_edge : SouthState → ℕ
receive_edge s = min (max s.fetched s.read + buffer_size) longest_stream

-- Window: from what is acknowledged up to the edge, and one number more once the FIN is taken; at most 65,535
abbrev pub window : SouthState → ℕ
window s = min 65535 (receive_edge s + one_if s.fin - acknowledged s)

-- the client's sequence number for output as TCP's, and TCP's as the client's
abbrev pub lowered : SouthState → ℕ → ℕ
lowered s number = distance number s.delta

abbrev pub raised : SouthState → ℕ → ℕ
raised s number = (number + s.delta) % 2 ^ 32

-- all that the client can have been sent: what this incarnation sent and, after a restart, what an earlier one may have sent
abbrev pub most : SouthState → ℕ
most s = max s.sent s.fetched_output

-- SEG.ACK acknowledges something that was never sent (RFC 9293, 3.10.7.4, fifth check), neither by this incarnation nor by an earlier one
abbrev pub acknowledges_unsent : SouthState → (ack : ℕ) → Bool
acknowledges_unsent s ack = is_beyond (most s) (offset_of s.sisn ack)

-- the client acknowledges more than this incarnation has sent, and an earlier one may have sent it ..
abbrev pub is_high : SouthState → (ack : ℕ) → Bool
is_high s ack = int_lt (pos s.sent) (offset_of s.sisn ack) && not (acknowledges_unsent s ack)

-- .. so SEG.ACK is lowered to what is sent. Then every SEG.ACK is lowered by delta
abbrev pub inner_ack : SouthState → (ack : ℕ) → ℕ
inner_ack s ack = lowered s (if is_high s ack then number_at s.sisn s.sent else ack)

-- the window is raised by as much, so that the right edge stays, up to the largest window
abbrev pub inner_window : SouthState → (ack window : ℕ) → ℕ
inner_window s ack window = if is_high s ack then min 65535 (window + (nat_abs (offset_of s.sisn ack) - s.sent)) else window

-- the wrapper in the incarnation that opened the connection, without timestamps ..
abbrev pub first_south : (cisn sisn : ℕ) → SouthState
first_south cisn sisn = record {
  cisn = cisn;
  sisn = sisn;
  delta = 0;
  fetched = 0;
  fetched_output = 0;
  taken = 0;
  fin = false;
  answered = 0;
  read = 0;
  una = 0;
  sent = 0;
  timestamping = Off;
}

-- .. and the wrapper at the end of a restart, with this much logged, where the logged reads make this much output. TCP's output begins after the units that the
-- client had acknowledged
abbrev pub resumed_south : (cisn sisn length fetched_output : ℕ) → (fin : Bool) → (acked inner : ℕ) → SouthState
resumed_south cisn sisn length fetched_output fin acked inner = record {
  cisn = cisn;
  sisn = sisn;
  delta = distance ((sisn + acked) % 2 ^ 32) inner;
  fetched = length;
  fetched_output = fetched_output;
  taken = length;
  fin = fin;
  answered = length + one_if fin;
  read = 0;
  una = acked;
  sent = acked;
  timestamping = Off;
}

-- RCV.WND: TCP's room
abbrev pub room : SouthState → ℕ
room s = receive_edge s + one_if s.fin - taken_units s

-- what is known to be logged never falls
abbrev pub with_stable : ℕ → SouthState → SouthState
with_stable units s = record s { answered = max s.answered units }
