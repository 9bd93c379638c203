-- The offsets of a connection in its two streams, as its parts show them (RFC 9293, 3.3.1, and FT-TCP, INFOCOM 2001: the inner TCP's numbers are delta below
-- the client's).
use Rattle.limits.specs.Limits.{longest_stream, most_units}
use Rattle.std.specs.Prelude.{ℕ, Bool, true, false, pos, ◌+◌, ◌-◌, ◌%◌, ◌^◌, ◌&&◌, ◌||◌, not, nat_lt, min, max, length, if◌then◌else◌}
use Rattle.tcp_rules.specs.Arrival.{int_eq, is_acceptable_or_at_edge}
use Rattle.seq_arith.specs.Number.{number_at, distance, offset_of}
use Rattle.seq_arith.specs.Offset.{one_if, first_of, length_of}
use Rattle.seq_arith.specs.Packet.{Segment, has_rst, has_syn, has_ack}
use Rattle.ft_model.specs.Copy.{from_start}
use Rattle.south_wrap.specs.SouthState.{raised, acknowledges_unsent}
use Rattle.tcp_endpoint.specs.declared.states.StateName.{StateName}
use Rattle.tcp_endpoint.specs.declared.states.StateName.TheVariants.{Closed, CloseWait, Closing, LastAck, TimeWait}
use Rattle.tcp_endpoint.specs.UserCalls.{sent_number, acked_number}
use Rattle.wrapped_conn.specs.ConnState.{ConnState}

-- the states in which the peer's FIN is taken, of a TCP that no RST has closed (RFC 9293, 3.3.2, figure 5) ..
abbrev pub has_fin : StateName → Bool
has_fin CloseWait = true
has_fin Closing = true
has_fin LastAck = true
has_fin TimeWait = true
has_fin Closed = true
has_fin name = false

-- .. and those in which its own FIN is acknowledged as well
abbrev pub is_over : StateName → Bool
is_over TimeWait = true
is_over Closed = true
is_over name = false

-- the offset up to which the client's bytes are read or fetched
abbrev pub fetched_or_read : {S : Type 0} → ConnState S → ℕ
fetched_or_read c = max c.fetched c.north.read

abbrev pub bytes_taken : {S : Type 0} → ConnState S → ℕ
bytes_taken c = fetched_or_read c + length c.endpoint.receiving.unread

abbrev pub units_taken : {S : Type 0} → ConnState S → ℕ
units_taken c = bytes_taken c + one_if (has_fin c.endpoint.name)

-- the right edge that TCP advertises, as an offset
abbrev pub advertised : {S : Type 0} → ConnState S → ℕ
advertised c = min (fetched_or_read c + 65535) longest_stream + one_if (has_fin c.endpoint.name)

-- the units of output that the client has acknowledged, 0 until the SYN is; a stream has at most 2^24 bytes and a FIN
abbrev pub una_units : {S : Type 0} → ConnState S → ℕ
una_units c = min (from_start (offset_of c.south.sisn (raised c.south (acked_number c.endpoint)))) most_units

-- the number after what TCP has sent, as the client knows it, and the units that are sent
abbrev pub outer_sent : {S : Type 0} → ConnState S → ℕ
outer_sent c = raised c.south (sent_number c.endpoint)

abbrev pub sent_units : {S : Type 0} → ConnState S → ℕ
sent_units c = distance (outer_sent c) ((c.south.sisn + 1) % 2 ^ 32)

-- the units that are known to be logged
abbrev pub logged_units : {S : Type 0} → ConnState S → ℕ
logged_units c = distance (number_at c.south.cisn c.south.answered) ((c.south.cisn + 1) % 2 ^ 32)

-- what may be acknowledged: the units that are both taken and known to be logged
abbrev pub acknowledgeable : {S : Type 0} → ConnState S → ℕ
acknowledgeable c = min (units_taken c) (logged_units c)

-- RFC 5961, 3.2: a RST at exactly the next number resets the connection
abbrev pub resets : {S : Type 0} → ConnState S → Segment → Bool
resets c segment = has_rst segment && int_eq (first_of c.south.cisn segment) (pos (units_taken c))

-- RFC 9293, 3.10.7.4, first check: acceptable, or at the right edge
abbrev pub accepts : {S : Type 0} → ConnState S → Segment → Bool
accepts c segment = is_acceptable_or_at_edge (units_taken c) (advertised c - units_taken c) (first_of c.south.cisn segment) (length_of segment)

-- an acknowledgement of what was never sent
abbrev pub is_unsent_ack : {S : Type 0} → ConnState S → Segment → Bool
is_unsent_ack c segment = has_ack segment && acknowledges_unsent c.south segment.head.ack

-- acceptable segments that make an ACK pending: a SYN, and a RST that isn't at the next number, get a challenge ACK. A segment whose length isn't 0 gets an
-- ACK, and so does one that acknowledges what was never sent ..
abbrev pub needs_ack_if_acceptable : {S : Type 0} → ConnState S → Segment → Bool
needs_ack_if_acceptable c segment =
    if has_rst segment then not (int_eq (first_of c.south.cisn segment) (pos (units_taken c)))
    else (has_syn segment || (nat_lt 0 (length_of segment) || is_unsent_ack c segment))

-- .. and every segment that isn't acceptable does, unless it has RST
unfoldable pub needs_ack : {S : Type 0} → ConnState S → Segment → Bool
needs_ack c segment = if accepts c segment then needs_ack_if_acceptable c segment else not (has_rst segment)
