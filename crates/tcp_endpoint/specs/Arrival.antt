-- What an arriving segment does to an endpoint: the checks of RFC 9293, 3.10.7, in their order. Of those in 3.10.7.4, the third (security) and the sixth
-- (URG) aren't made, and a repeated FIN restarts TIME-WAIT before the first.
use Rattle.std.specs.Prelude.{ℕ, ℤ, Bool, true, pos, ◌+◌, ◌%◌, ◌^◌, ◌==◌, ◌&&◌, ◌||◌, not, nat_lt, None, Some, if◌then◌else◌, ◌+ℤ◌, length, take}
use Rattle.tcp_rules.specs.Arrival.{int_eq, is_acceptable_or_at_edge, is_allowed_at_zero}
use Rattle.seq_arith.specs.Packet.{Segment, has_fin, has_syn, has_rst, has_ack}
use Rattle.ft_io.specs.declared.Addr.{Addr}
use Rattle.seq_arith.specs.Packet.{segment_size}
use Rattle.seq_arith.specs.Offset.{first_of, ack_of, fin_of, length_of}
use Rattle.segment_codec.specs.declared.Head.{Head}
use Rattle.tcp_buffers.specs.Near.{is_ahead}
use Rattle.tcp_endpoint.specs.declared.states.StateName.{StateName}
use Rattle.tcp_endpoint.specs.declared.states.StateName.TheVariants.{Closed, Listen, SynSent, SynReceived, Established}
use Rattle.tcp_endpoint.specs.States.{after_syn_acked, after_fin_acked, after_fin, is_time_wait}
use Rattle.tcp_endpoint.specs.ReceiveHalf.{taken, next, window, with_segment}
use Rattle.tcp_endpoint.specs.SendHalf.{with_segment_size, with_syn_acked, shows_loss, answered_by, fin_acked}
use Rattle.tcp_endpoint.specs.Tcb.{Tcb}

-- SEG.SEQ and SEG.ACK as offsets
abbrev pub first : Tcb → Segment → ℤ
first e p = first_of e.receiving.irs p

abbrev pub ack_at : Tcb → Segment → ℤ
ack_at e p = ack_of e.sending.iss p

abbrev pub source : Segment → Addr
source p = record { ip = p.head.src; port = p.head.sport }

-- a RST in reply to a segment, with window 0
abbrev pub rst : Tcb → Segment → (seq ack flags : ℕ) → Head
rst e p seq ack flags = record {
  src = e.local.ip;
  dst = p.head.src;
  sport = e.local.port;
  dport = p.head.sport;
  seq = record { 0 = seq };
  ack = record { 0 = ack };
  flags = flags;
  window = 0;
  mss = None;
  timestamps = None;
}

-- <SEQ=SEG.ACK><CTL=RST>
unfoldable pub with_reset_reply : Tcb → Segment → Tcb
with_reset_reply e p = record e { reset_reply = Some (rst e p p.head.ack 0 4) }

-- <SEQ=0><ACK=SEG.SEQ+SEG.LEN><CTL=RST,ACK>
unfoldable pub with_reset_reply_without_ack : Tcb → Segment → Tcb
with_reset_reply_without_ack e p = record e { reset_reply = Some (rst e p 0 ((p.head.seq + length_of p) % 2 ^ 32) 20) }

-- notes that an ACK is required, if one is
abbrev pub with_ack_pending_if : Bool → Tcb → Tcb
with_ack_pending_if b e = record e { ack_pending = e.ack_pending || b }

-- the connection is reset
abbrev pub with_reset : Tcb → Tcb
with_reset e = record e { name = Closed; reset = true }

-- enters a state. TIME-WAIT lasts four ticks
abbrev pub entering : StateName → Tcb → Tcb
entering name e = record e { name = name; wait = if is_time_wait name && not (is_time_wait e.name) then 4 else e.wait }

-- 3.10.7.1: CLOSED
unfoldable pub in_closed : Tcb → Segment → Tcb
in_closed e p = if has_rst p then e else (if has_ack p then with_reset_reply e p else with_reset_reply_without_ack e p)

-- 3.10.7.2: LISTEN. A SYN opens a connection, and its SYN-ACK becomes due
unfoldable pub begun : Tcb → Segment → Tcb
begun e p = record e {
  remote = source p;
  name = SynReceived;
  receiving = record e.receiving { irs = p.head.seq };
  sending = with_segment_size (segment_size p.head.mss) e.sending;
  retransmission_due = true;
}

unfoldable pub in_listen : Tcb → Segment → Tcb
in_listen e p = if has_rst p then e else (if has_ack p then with_reset_reply e p else (if has_syn p then begun e p else e))

-- 3.10.7.3: SYN-SENT. Only the SYN has been sent, so exactly one number acknowledges it. A SYN without ACK is ignored: there is no simultaneous open
unfoldable pub answered : Tcb → Segment → Tcb
answered e p = record e {
  name = Established;
  receiving = record e.receiving { irs = p.head.seq };
  sending = with_syn_acked (with_segment_size (segment_size p.head.mss) e.sending) p.head.seq p.head.window;
  ack_pending = true;
}

unfoldable pub in_syn_sent : Tcb → Segment → Tcb
in_syn_sent e p =
    if has_ack p
    then (if int_eq (ack_at e p) (pos 0)
    then (if has_rst p then with_reset e else (if has_syn p then answered e p else e))
    else (if has_rst p then e else with_reset_reply e p))
    else e

-- 3.10.7.4, seventh and eighth check: text and FIN are taken, or held
unfoldable pub with_text_and_fin : Tcb → Segment → Tcb
with_text_and_fin e p =
    let taking = record e { receiving = with_segment e.receiving (first e p) p.payload (has_fin p) } in
    if taking.receiving.fin && not e.receiving.fin then entering (after_fin e.name) taking else taking

-- fifth check: our FIN is acknowledged
unfoldable pub with_fin_acked : Tcb → Tcb
with_fin_acked e = if fin_acked e.sending then entering (after_fin_acked e.name) e else e

-- fifth check, in SYN-RECEIVED: only the SYN has been sent, so exactly one number acknowledges it
unfoldable pub with_first_ack : Tcb → Segment → Tcb
with_first_ack e p =
    if int_eq (ack_at e p) (pos 0)
    then with_text_and_fin (record e { name = after_syn_acked e.sending.closed; sending = with_syn_acked e.sending p.head.seq p.head.window }) p
    else with_reset_reply e p

-- whether the segment has neither text nor FIN
abbrev pub is_bare : Segment → Bool
is_bare p = length p.payload == 0 && not (has_fin p)

-- uses the acknowledgement. At the third duplicate in a row, and at a partial acknowledgement, the first unacknowledged segment becomes due for retransmission
-- (RFC 5681, 3.2; RFC 6582, 3.2)
unfoldable pub with_ack_used : Tcb → Segment → Tcb
with_ack_used e p = record e {
  sending = answered_by e.sending (is_bare p) p.head.seq (ack_at e p) p.head.window;
  retransmission_due = e.retransmission_due || shows_loss e.sending (is_bare p) (ack_at e p) p.head.window;
}

-- fifth check, in the other states: an acknowledgement ahead of SND.NXT requires an ACK, and nothing of its segment is used
unfoldable pub with_ack : Tcb → Segment → Tcb
with_ack e p =
    if is_ahead e.sending.sent (ack_at e p) then with_ack_pending_if true e else with_text_and_fin (with_fin_acked (with_ack_used e p)) p

-- fifth check. Until our SYN is acknowledged, the state is SYN-RECEIVED
unfoldable pub check_ack : Tcb → Segment → Tcb
check_ack e p = if has_ack p then (if e.sending.syn_acked then with_ack e p else with_first_ack e p) else e

-- fourth check: a SYN gets a challenge ACK. A segment with SEG.LEN above 0 requires an ACK
unfoldable pub check_syn : Tcb → Segment → Tcb
check_syn e p = if has_syn p then with_ack_pending_if true e else check_ack (with_ack_pending_if (nat_lt 0 (length_of p)) e) p

-- second check: a RST at RCV.NXT resets the connection. Any other that passed the first check gets a challenge ACK
unfoldable pub check_rst : Tcb → Segment → Tcb
check_rst e p = if has_rst p then (if int_eq (first e p) (pos (next e.receiving)) then with_reset e else with_ack_pending_if true e) else check_syn e p

-- whether the segment repeats the peer's FIN: its FIN comes right after the bytes taken
abbrev pub repeats_fin : Tcb → Segment → Bool
repeats_fin e p = fin_of p && int_eq (first e p +ℤ pos (length p.payload)) (pos (taken e.receiving))

-- a repeated FIN restarts TIME-WAIT
unfoldable pub with_time_wait_restarted : Tcb → Segment → Tcb
with_time_wait_restarted e p = record e { wait = if is_time_wait e.name && repeats_fin e p then 4 else e.wait }

-- acceptable by the four cases, or at the right edge
unfoldable pub accepts : Tcb → Segment → Bool
accepts e p = is_acceptable_or_at_edge (next e.receiving) (window e.receiving) (first e p) (length_of p)

-- special allowance: at a zero window a segment at RCV.NXT is processed further, in SYN-RECEIVED only where it acknowledges the SYN. A segment with SYN or
-- without ACK gets the same ACK whether it is allowed or not. So does one with text or a FIN: neither is taken, since none of it is below the right edge
unfoldable pub is_allowed : Tcb → Segment → Bool
is_allowed e p = is_allowed_at_zero (next e.receiving) (window e.receiving) (first e p) && (e.sending.syn_acked || int_eq (ack_at e p) (pos 0))

-- first check: a segment that is neither acceptable nor specially allowed requires an ACK, unless it is a RST
unfoldable pub check_sequence : Tcb → Segment → Tcb
check_sequence e p = if accepts e p || is_allowed e p then check_rst e p else with_ack_pending_if (not (has_rst p)) e

-- 3.10.7.4: SYN-RECEIVED and the synchronized states
unfoldable pub in_others : Tcb → Segment → Tcb
in_others e p = check_sequence (with_time_wait_restarted e p) p

abbrev pub received_in : StateName → Tcb → Segment → Tcb
received_in Closed e p = in_closed e p
received_in Listen e p = in_listen e p
received_in SynSent e p = in_syn_sent e p
received_in name e p = in_others e p

-- a segment arrives
unfoldable pub received : Tcb → Segment → Tcb
received e p = received_in e.name e p

-- the segment with at most 65,535 bytes of text. IP's total length, which has two bytes, allows no more (RFC 791, 3.1)
abbrev pub within_ip : Segment → Segment
within_ip p = record p { payload = take 65535 p.payload }
