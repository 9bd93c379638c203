-- What news does to a connection, before the north wrapper's turn.
use Rattle.std.specs.Prelude.{Bool, ◌&&◌, not, if◌then◌else◌}
use Rattle.seq_arith.specs.Packet.{Segment, has_rst}
use Rattle.south_wrap.specs.Translation.{repeats_syn, inward, with_value_of}
use Rattle.tcp_endpoint.specs.Arrival.{received}
use Rattle.wrapped_conn.specs.declared.stage.Before.{Before}
use Rattle.wrapped_conn.specs.ConnState.{ConnState}
use Rattle.wrapped_conn.specs.Numbers.{has_fin, is_over, bytes_taken, una_units, advertised, acknowledgeable, needs_ack}

-- what is known before a segment's turn: a connection that was over answers every segment except a RST
abbrev pub before_segment : {S : Type 0} → ConnState S → Segment → Before
before_segment c segment = record {
  taken = bytes_taken c;
  fin = has_fin c.endpoint.name;
  una = una_units c;
  edge = advertised c;
  asks = is_over c.endpoint.name && not (has_rst segment);
  needs_ack = needs_ack c segment;
  segment = Bool.true;
  acknowledgeable = acknowledgeable c;
}

-- what is known before a turn without a segment. `asks` says whether an ACK is pending for a reason that TCP doesn't know
abbrev pub before_other : {S : Type 0} → Bool → ConnState S → Before
before_other asks c = record {
  taken = bytes_taken c;
  fin = has_fin c.endpoint.name;
  una = una_units c;
  edge = advertised c;
  asks = asks;
  needs_ack = Bool.false;
  segment = Bool.false;
  acknowledgeable = acknowledgeable c;
}

-- the south wrapper learns what TCP has taken, and what the client has acknowledged
abbrev pub noted : {S : Type 0} → ConnState S → ConnState S
noted c = record c { south = record c.south { taken = bytes_taken c; fin = has_fin c.endpoint.name; una = una_units c } }

-- a segment reaches TCP as the south wrapper passes it, unless it repeats the client's SYN
abbrev pub reached : {S : Type 0} → Segment → ConnState S → ConnState S
reached segment c = if repeats_syn c.south segment then c else record c { endpoint = received c.endpoint (inward c.south segment) }

-- first the south wrapper notes its timestamps
abbrev pub stamped : {S : Type 0} → Segment → ConnState S → ConnState S
stamped segment c = record c { south = with_value_of segment c.south }

unfoldable pub arrived : {S : Type 0} → Segment → ConnState S → ConnState S
arrived segment c = noted (reached segment (stamped segment c))
