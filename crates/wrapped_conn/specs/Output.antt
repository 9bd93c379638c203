-- The segments that a turn sends: TCP's, each through the south wrapper, and those that the connection adds.
use Rattle.limits.specs.Limits.{largest_segment, longest_packet}
use Rattle.std.specs.Prelude.{ℕ, Bool, ◌≤◌, ◌+◌, ◌-◌, ◌==◌, nat_lt, is_none, min, length, ◌&&◌, ◌||◌, not, Option, Some, None, List, [], ◌∷◌, ◌++◌, map}
use Rattle.std.specs.Prelude.{if◌then◌else◌}
use Rattle.std.specs.List.{AllByRecursion, list_any}
use Rattle.seq_arith.specs.Number.{number_at}
use Rattle.seq_arith.specs.Offset.{one_if}
use Rattle.seq_arith.specs.Packet.{Segment, has_rst}
use Rattle.seq_arith.specs.PacketGrammar.{packet_length}
use Rattle.south_wrap.specs.SouthState.{SouthState, acknowledged, window}
use Rattle.south_wrap.specs.Translation.{outward}
use Rattle.tcp_rules.specs.Timestamping.{timestamps_sent}
use Rattle.tcp_endpoint.specs.States.{is_closed}
use Rattle.tcp_endpoint.specs.Output.{full_out, leaving, flushed, or_bare}
use Rattle.wrapped_conn.specs.declared.stage.Before.{Before}
use Rattle.wrapped_conn.specs.ConnState.{ConnState}
use Rattle.wrapped_conn.specs.Numbers.{units_taken, advertised, acknowledgeable, outer_sent, sent_units}

-- what TCP sends is passed to the client. A RST, which is sent alone, isn't
abbrev pub passed : SouthState → List Segment → List Segment
passed s segments = if list_any has_rst segments then [] else map (outward s) segments

-- each of these segments fits a packet as the one for the client
abbrev pub AllFit : SouthState → List Segment → Type 0
AllFit s segments = AllByRecursion (λ segment. packet_length (outward s segment) ≤ longest_packet) segments

-- TCP's turn has ended
abbrev pub with_endpoint_flushed : {S : Type 0} → ConnState S → ConnState S
with_endpoint_flushed c = record c { endpoint = flushed c.endpoint }

abbrev pub turn_ended : {S : Type 0} → ConnState S → ConnState S
turn_ended c = record (with_endpoint_flushed c) { south = record c.south { sent = sent_units (with_endpoint_flushed c) } }

-- Where the profile says so, TCP's ACK of the text and the FIN that a segment brought waits for the log, whose answer makes it due: nothing is held after a
-- gap, and an ACK now would only repeat the acknowledgement and the window that were last sent, as a duplicate does (RFC 9293, 3.8.6.3; RFC 5681, 4.2)
abbrev pub is_delayed : {S : Type 0} → Before → ConnState S → Bool
is_delayed before c =
    c.delays && before.segment && nat_lt (before.taken + one_if before.fin) (units_taken c) && length c.endpoint.receiving.early.text == 0
    && is_none c.endpoint.receiving.early.fin && before.acknowledgeable == acknowledgeable c
    && min 65535 (before.edge - before.acknowledgeable) == min 65535 (advertised c - acknowledgeable c)

-- what TCP sends at the end of its turn: all but its ACK, where that waits
abbrev pub tcp_out : {S : Type 0} → Before → ConnState S → List Segment
tcp_out before c = if is_delayed before c then full_out c.endpoint else leaving c.endpoint

-- a segment that the connection adds acknowledges what may be acknowledged, and its window begins there
abbrev pub own_segment : {S : Type 0} → ConnState S → (seq flags : ℕ) → (mss : Option ℕ) → Segment
own_segment c seq flags mss = record {
  head = record {
    src = c.local.ip;
    dst = c.key.ip;
    sport = c.local.port;
    dport = c.key.port;
    seq = seq;
    ack = number_at c.south.cisn (acknowledged c.south);
    flags = flags;
    window = window c.south;
    mss = mss;
    timestamps = timestamps_sent c.south.timestamping;
  };
  payload = [];
}

-- the SYN-ACK with the logged numbers, and a pure ACK, whose sequence number is the one after all that is sent
unfoldable pub syn_ack : {S : Type 0} → ConnState S → Segment
syn_ack c = own_segment c c.south.sisn 18 (Some largest_segment)

unfoldable pub bare : {S : Type 0} → ConnState S → Segment
bare c = own_segment c (outer_sent c) 16 None

-- an ACK is pending that TCP doesn't send: TCP can't know that more is answered, or that the connection was over or just became live; and a TCP that is CLOSED
-- sends none
abbrev pub is_ack_pending : {S : Type 0} → Before → ConnState S → Bool
is_ack_pending before c = before.asks || (is_closed c.endpoint.name && (before.needs_ack || not (before.edge == advertised c)))

-- all segments that a turn sends, where TCP sends these
abbrev pub leaves : {S : Type 0} → Before → (repeats : Bool) → ConnState S → List Segment → List Segment
leaves before repeats c segments =
    or_bare (is_ack_pending before c) (bare c) (passed c.south segments ++ (if repeats then syn_ack c ∷ [] else []))
