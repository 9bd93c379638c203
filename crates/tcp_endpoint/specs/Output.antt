-- What an endpoint sends at the end of a turn, in order (RFC 9293, 3.7, 3.8.1, 3.8.6.1 and 3.10.7.4), and what it is after that.
use Rattle.limits.specs.Limits.{largest_segment}
use Rattle.std.specs.Prelude.{ℕ, Bool, false, zero, suc, ◌+◌, ◌-◌, ◌==◌, ◌&&◌, ◌||◌, not, nat_lt, min, Option, None, Some, List, [], ◌∷◌, ◌++◌}
use Rattle.std.specs.Prelude.{length, take, drop, map, if◌then◌else◌}
use Rattle.seq_arith.specs.Number.{number_at}
use Rattle.seq_arith.specs.Packet.{Head, Segment}
use Rattle.seq_arith.specs.PacketGrammar.{spelling}
use Rattle.segment_codec.specs.Value.{said}
use Rattle.segment_codec.specs.declared.Head as codec
use Rattle.tcp_endpoint.specs.States.{is_closed, is_syn_sent, has_begun}
use Rattle.tcp_endpoint.specs.ReceiveHalf.{next, window, advertised_edge}
use Rattle.tcp_endpoint.specs.SendHalf.{in_flight, is_unacknowledged, must_run, timed, sendable, sends_fin, resent_length, with_sent, with_fin_sent}
use Rattle.tcp_endpoint.specs.SendHalf.{with_unit_timed}
use Rattle.tcp_endpoint.specs.Tcb.{Tcb}

-- the header of every segment except a RST sent in reply: it acknowledges all that is taken, and advertises the window
unfoldable pub head_at : Tcb → (seq flags : ℕ) → Head
head_at e seq flags = record {
  src = e.local.ip;
  dst = e.remote.ip;
  sport = e.local.port;
  dport = e.remote.port;
  seq = seq;
  ack = number_at e.receiving.irs (next e.receiving);
  flags = flags;
  window = window e.receiving;
  mss = None;
  timestamps = None;
}

-- the SYN, which acknowledges nothing, or the SYN-ACK
unfoldable pub opening_segment : Tcb → Segment
opening_segment e =
    if is_syn_sent e.name
    then record { head = record (head_at e e.sending.iss 2) { ack = 0; mss = Some largest_segment }; payload = [] }
    else record { head = record (head_at e e.sending.iss 18) { mss = Some largest_segment }; payload = [] }

-- a segment that begins `place` units after SND.UNA, with these flags
abbrev pub segment_at : Tcb → (place flags : ℕ) → List ℕ → Segment
segment_at e place flags payload = record { head = head_at e (number_at e.sending.iss (e.sending.una + place)) flags; payload = payload }

-- `n` bytes of text from there on; the only flag is ACK
unfoldable pub text_at : Tcb → (place n : ℕ) → Segment
text_at e place n = segment_at e place 16 (take n (drop place e.sending.held))

-- the FIN, in a segment of its own
unfoldable pub fin_at : Tcb → ℕ → Segment
fin_at e place = segment_at e place 17 []

-- `left` bytes from `place` on, in at most k segments, each of the segment size except the last
unfoldable pub texts : ℕ → Tcb → (place left : ℕ) → List Segment
texts zero e place left = []
texts (suc k) e place left =
    if nat_lt 0 left
    then text_at e place (min left e.sending.mss) ∷ texts k e (place + min left e.sending.mss) (left - min left e.sending.mss)
    else []

-- the RST that answers a segment
abbrev pub reset_reply_segments : Option codec.Head → List Segment
reset_reply_segments None = []
reset_reply_segments (Some head) = record { head = said head; payload = [] } ∷ []

unfoldable pub reset_reply_out : Tcb → List Segment
reset_reply_out e = reset_reply_segments e.reset_reply

-- the first unacknowledged segment: the SYN or SYN-ACK, then text, and the FIN once all bytes are acknowledged
unfoldable pub retransmitted_segment : Tcb → Segment
retransmitted_segment e =
    if not e.sending.syn_acked then opening_segment e
    else (if length e.sending.held == 0 then fin_at e 0 else text_at e 0 (resent_length e.sending))

unfoldable pub retransmission_out : Tcb → List Segment
retransmission_out e = if e.retransmission_due && not (is_closed e.name) && is_unacknowledged e.sending then retransmitted_segment e ∷ [] else []

-- a probe is sent at SND.NXT: one byte, or the FIN where no byte is waiting
abbrev pub probes : Tcb → Bool
probes e = e.probe && has_begun e.name && e.sending.syn_acked && not e.sending.fin_sent

abbrev pub probes_text : Tcb → Bool
probes_text e = probes e && nat_lt (in_flight e.sending) (length e.sending.held)

abbrev pub probes_fin : Tcb → Bool
probes_fin e = probes e && not (nat_lt (in_flight e.sending) (length e.sending.held)) && e.sending.closed

unfoldable pub probe_out : Tcb → List Segment
probe_out e =
    if probes_text e then text_at e (in_flight e.sending) 1 ∷ [] else (if probes_fin e then fin_at e (in_flight e.sending) ∷ [] else [])

unfoldable pub with_probe : Tcb → Tcb
with_probe e = record e {
  sending = if probes_text e then with_sent e.sending 1 else (if probes_fin e then with_fin_sent e.sending else e.sending);
}

-- how many bytes of text are sent for the first time
abbrev pub new_length : Tcb → ℕ
new_length e = if has_begun e.name then sendable e.sending else 0

unfoldable pub text_out : Tcb → List Segment
text_out e = texts (new_length e) e (in_flight e.sending) (new_length e)

unfoldable pub with_text_sent : Tcb → Tcb
with_text_sent e = record e { sending = with_sent e.sending (new_length e) }

-- whether the FIN is sent for the first time
abbrev pub new_fin : Tcb → Bool
new_fin e = has_begun e.name && sends_fin e.sending

unfoldable pub fin_out : Tcb → List Segment
fin_out e = if new_fin e then fin_at e (in_flight e.sending) ∷ [] else []

unfoldable pub with_fin_out : Tcb → Tcb
with_fin_out e = record e { sending = if new_fin e then with_fin_sent e.sending else e.sending }

-- all segments that are sent, except one that is sent only because an ACK is due
unfoldable pub full_out : Tcb → List Segment
full_out e = reset_reply_out e ++ retransmission_out e ++ probe_out e ++ text_out (with_probe e) ++ fin_out (with_text_sent (with_probe e))

-- the unit at this place is timed, if it was sent. In a turn it is the first that is sent for the first time, other than in a probe
unfoldable pub with_timed : (place : ℕ) → Tcb → Tcb
with_timed place e = record e { sending = with_unit_timed place e.sending }

unfoldable pub after_full : Tcb → Tcb
after_full e = with_timed (in_flight (with_probe e).sending) (with_fin_out (with_text_sent (with_probe e)))

-- an ACK is due: a check requires it, or RCV.NXT or the right edge has changed since it was last sent
unfoldable pub is_ack_pending : Tcb → Bool
is_ack_pending e = has_begun e.name && (e.ack_pending || not (e.last_ack_sent == next e.receiving)
    || not (e.last_advertised_edge == advertised_edge e.receiving))

-- the pure ACK, at SND.NXT
unfoldable pub bare_segment : Tcb → Segment
bare_segment e = segment_at e (in_flight e.sending) 16 []

-- the list, or only `bare` if the list is empty and an ACK is due. It is a list of segments, or of packets
abbrev pub or_bare : {A : Type 0} → Bool → A → List A → List A
or_bare ack_pending bare [] = if ack_pending then bare ∷ [] else []
or_bare ack_pending bare (first ∷ others) = first ∷ others

-- the segments that are sent, in order: a pure ACK only where no other is sent
unfoldable pub leaving : Tcb → List Segment
leaving e = or_bare (is_ack_pending (after_full e)) (bare_segment (after_full e)) (full_out e)

-- the ACK that is due in a connection that has begun counts as sent, so that it isn't sent alone: it is delayed (RFC 9293, 3.8.6.3)
unfoldable pub with_ack_delayed : Tcb → Tcb
with_ack_delayed e = record e {
  last_ack_sent = if has_begun e.name then next e.receiving else e.last_ack_sent;
  last_advertised_edge = if has_begun e.name then advertised_edge e.receiving else e.last_advertised_edge;
  ack_pending = false;
}

-- notes what every segment of a connection that has begun advertises, and that nothing is due any more
unfoldable pub with_advertised : Tcb → Tcb
with_advertised e = record e {
  last_ack_sent = if has_begun e.name then next e.receiving else e.last_ack_sent;
  last_advertised_edge = if has_begun e.name then advertised_edge e.receiving else e.last_advertised_edge;
  ack_pending = false;
  retransmission_due = false;
  probe = false;
  reset_reply = None;
}

-- the timer runs where it must, unless the state is CLOSED or LISTEN
abbrev pub is_timed : Tcb → Bool
is_timed e = (has_begun e.name || is_syn_sent e.name) && must_run e.sending

unfoldable pub with_turn_ended : Tcb → Tcb
with_turn_ended e = record (with_advertised e) { sending = timed (is_timed e) e.sending }

unfoldable pub flushed : Tcb → Tcb
flushed e = with_turn_ended (after_full e)

-- the packets that are sent, as bytes
unfoldable pub packets : List Segment → List (List ℕ)
packets segments = map spelling segments
