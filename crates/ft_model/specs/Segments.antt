-- What a turn sends to the client of a live connection (RFC 9293, 3.8.1, 3.8.3, 3.8.6.1 and 3.10.7.4; RFC 5681, 3.2). The laws Acknowledgement and Window are
-- in the one header that all these segments share, the law Output in `text_at` and `fin_if_closed`.
use Rattle.limits.specs.Limits.{largest_segment}
use Rattle.std.specs.Prelude.{ℕ, Bool, false, zero, suc, ◌+◌, ◌-◌, ◌==◌, ◌&&◌, ◌||◌, not, nat_lt, nat_le, max, min, Option, Some, None, List, [], ◌∷◌}
use Rattle.std.specs.Prelude.{◌++◌, take, drop, if◌then◌else◌}
use Rattle.ft_io.specs.declared.Addr.{Addr}
use Rattle.seq_arith.specs.declared.flags.TheConstants.{FIN, SYN, ACK}
use Rattle.seq_arith.specs.Number.{number_at}
use Rattle.seq_arith.specs.Packet.{Head, Segment}
use Rattle.tcp_rules.specs.Timestamping.{timestamps_sent}
use Rattle.server_trait.specs.Service.{Machine}
use Rattle.ft_model.specs.Point.{Point, taken_units, acknowledgement, answered_run, released, window}
use Rattle.ft_model.specs.News.{News}
use Rattle.ft_model.specs.News.News.{Comes, Logged, Ticks, Begins}
use Rattle.ft_model.specs.Opening.{is_syn}
use Rattle.ft_model.specs.Sending.{resends, sent_at_once}
use Rattle.ft_model.specs.Timer.{expires}
use Rattle.ft_model.specs.PendingAck.{is_ack_pending}

-- Acknowledgement: every segment to a live key acknowledges exactly what is both taken and known to be logged. Once a value of the client is known, every one
-- carries timestamps (RFC 7323, 3.2)
abbrev pub head_to : Addr → Point → (seq flags : ℕ) → Option ℕ → Head
head_to server p seq flags mss = record {
  src = server.ip;
  dst = p.key.ip;
  sport = server.port;
  dport = p.key.port;
  seq = seq;
  ack = number_at p.cisn (acknowledgement p);
  flags = flags;
  window = window p;
  mss = mss;
  timestamps = timestamps_sent p.timestamping;
}

-- a segment at an offset of the output
abbrev pub segment_at : Addr → Point → (offset flags : ℕ) → List ℕ → Segment
segment_at server p offset flags payload = record { head = head_to server p (number_at p.sisn offset) flags None; payload = payload }

-- the SYN-ACK, with the logged numbers. No client byte is taken when it is sent, so it acknowledges the SYN and advertises the full window
abbrev pub syn_ack : Addr → Point → Segment
syn_ack server p = record { head = head_to server p p.sisn (SYN + ACK) (Some largest_segment); payload = [] }

-- Output: text is a part of the uncrashed server's output over the answered reads
abbrev pub text_at : {State : Type 0} → Machine State → Addr → Point → (offset n : ℕ) → Segment
text_at service server p offset n = segment_at server p offset ACK (take n (drop offset (answered_run service p).output))

-- Output: the FIN follows all of it, in a segment of its own ..
abbrev pub fin_segment : {State : Type 0} → Machine State → Addr → Point → Segment
fin_segment service server p = segment_at server p (released service p) (FIN + ACK) []

-- .. and is sent only where an answered read has closed the service, whether it is new, retransmitted or a probe
abbrev pub fin_if_closed : {State : Type 0} → Machine State → Addr → Point → List Segment
fin_if_closed service server p = if (answered_run service p).closed then fin_segment service server p ∷ [] else []

-- the pure ACK, at SND.NXT
abbrev pub bare_segment : Addr → Point → Segment
bare_segment server p = segment_at server p p.sent ACK []

-- `left` bytes from `offset` on, in at most k segments, each of the segment size except the last
abbrev pub texts : {State : Type 0} → Machine State → Addr → Point → (k offset left : ℕ) → List Segment
texts service server p zero offset left = []
texts service server p (suc k) offset left =
    if nat_lt 0 left then text_at service server p offset (min left p.mss) ∷ texts service server p k (offset + min left p.mss) (left - min left p.mss) else []

-- the client repeats its SYN, and neither its stream nor the output has progressed: the SYN-ACK answers
abbrev pub repeats_syn : Point → Segment → Bool
repeats_syn p segment = is_syn segment && segment.head.seq == p.cisn && taken_units p == 0 && p.una == 0

-- the SYN-ACK is sent when a new connection begins and when its SYN is repeated (for its timer see `resent`)
abbrev pub opens_with : News → Point → Bool
opens_with (Comes segment) before = repeats_syn before segment
opens_with Begins before = not before.syn_acked
opens_with (Logged kept) before = false
opens_with Ticks before = false

abbrev pub syn_acks : Addr → News → Point → Point → List Segment
syn_acks server news before after = if opens_with news before then syn_ack server after ∷ [] else []

-- how many bytes of text are sent and not acknowledged
abbrev pub unacknowledged_text : {State : Type 0} → Machine State → Point → Point → ℕ
unacknowledged_text service before after = min before.sent (released service after) - after.una

-- the room below the client's right edge, but at least one byte
abbrev pub room_or_one : Point → ℕ
room_or_one p = max 1 (p.edge - p.una)

-- how many bytes are retransmitted: at most one segment of what was sent, and no more than the client's room, which counts as at least one byte
abbrev pub resent_length : {State : Type 0} → Machine State → Point → Point → ℕ
resent_length service before after = min after.mss (min (unacknowledged_text service before after) (room_or_one after))

-- the first unacknowledged segment: the SYN-ACK; else the FIN where all output is acknowledged; else text from SND.UNA on
abbrev pub first_unacknowledged : {State : Type 0} → Machine State → Addr → Point → Point → List Segment
first_unacknowledged service server before after =
    if not after.syn_acked then syn_ack server after ∷ []
    else (if after.una == released service after then fin_if_closed service server after
    else text_at service server after after.una (resent_length service before after) ∷ [])

abbrev pub probed_length : ℕ
probed_length = 1

-- the probe, at SND.NXT: one byte, or the FIN where no byte is waiting
abbrev pub probe : {State : Type 0} → Machine State → Addr → Point → Point → List Segment
probe service server before after =
    if nat_lt before.sent (released service after) then text_at service server after before.sent probed_length ∷ [] else fin_if_closed service server after

-- something that was sent is unacknowledged: the SYN, or a unit of output
abbrev pub is_unacknowledged : Point → Point → Bool
is_unacknowledged before after = not after.syn_acked || nat_lt after.una before.sent

-- When the timer expires at a tick, and at the third duplicate or a partial acknowledgement, one more segment is sent: a retransmission of what is
-- unacknowledged, or else a probe. Where only a FIN could be sent, and the service has not closed, there is none
unfoldable pub resent : {State : Type 0} → Machine State → Addr → News → Point → Point → List Segment
resent service server news before after =
    if expires news before || resends news before
    then (if is_unacknowledged before after then first_unacknowledged service server before after else probe service server before after)
    else []

-- the offset up to which text is sent now: all that is sent at once, except the FIN
abbrev pub text_sent : {State : Type 0} → Machine State → Point → Point → ℕ
text_sent service before after = min (sent_at_once service before after) (released service after)

-- how many bytes are sent for the first time
abbrev pub new_length : {State : Type 0} → Machine State → Point → Point → ℕ
new_length service before after = text_sent service before after - before.sent

unfoldable pub new_texts : {State : Type 0} → Machine State → Addr → Point → Point → List Segment
new_texts service server before after = texts service server after (new_length service before after) before.sent (new_length service before after)

-- the unit after all output, which is the FIN's, is sent for the first time
abbrev pub sends_fin : {State : Type 0} → Machine State → Point → Point → Bool
sends_fin service before after = nat_lt (released service after) (sent_at_once service before after) && nat_le before.sent (released service after)

unfoldable pub new_fin : {State : Type 0} → Machine State → Addr → Point → Point → List Segment
new_fin service server before after = if sends_fin service before after then fin_if_closed service server after else []

-- all segments except the pure ACK, in order
unfoldable pub full_segments : {State : Type 0} → Machine State → Addr → News → Point → Point → List Segment
full_segments service server news before after =
    syn_acks server news before after ++ (resent service server news before after
    ++ (new_texts service server before after ++ new_fin service server before after))

-- Acknowledgement: one pure ACK, exactly where an ACK is pending and no other segment is sent
abbrev pub or_bare : Bool → Segment → List Segment → List Segment
or_bare ack_pending bare [] = if ack_pending then bare ∷ [] else []
or_bare ack_pending bare (segment ∷ segments) = segment ∷ segments

unfoldable pub segments_of : {State : Type 0} → Machine State → Addr → News → Point → Point → List Segment
segments_of service server news before after =
    or_bare (is_ack_pending service news before after) (bare_segment server after) (full_segments service server news before after)
