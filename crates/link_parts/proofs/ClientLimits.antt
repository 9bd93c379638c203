-- Whatever comes, a live client's TCP has sent no more than its script and a FIN, so that numbers tell the order of its offsets, and it holds no more
-- for its user than its buffer has room for.
use Rattle.std.proofs.Common.{◌≡◌, ℕ, ◌≤◌, ◌+◌, ◌-◌, ◌^◌, Bool, true, false, not, List, [], ◌∷◌, ◌++◌, length, length-append, length-drop, take, drop, max, min, refl, ap, subst, arith, ◌∙◌, Result, Ok, Err}
use Rattle.std.specs.Prelude.{ℤ, pos, ◌==◌, ◌&&◌, nat_abs, nat_lt, int_le, if◌then◌else◌}
use Rattle.std.proofs.lemmas.Int.{ints}
use Rattle.std.proofs.lemmas.List.{length-take}
use Rattle.ft_io.specs.declared.Addr.{Addr}
use Rattle.tcp_rules.specs.Arrival.{int_eq, is_new_ack}
use Rattle.tcp_rules.specs.Coming.{Came, StandsBehind}
use Rattle.tcp_rules.specs.Profile.{Profile}
use Rattle.seq_arith.specs.Offset.{one_if, length_of}
use Rattle.seq_arith.specs.Packet.{Segment, has_fin, has_syn, has_rst, has_ack}
use Rattle.seq_arith.specs.PacketGrammar.{reading}
use Rattle.seq_arith.specs.declared.BadPacket.{BadPacket}
use Rattle.tcp_endpoint.specs.declared.states.StateName.{StateName}
use Rattle.tcp_endpoint.specs.declared.states.StateName.TheVariants.{Closed, Listen, SynSent, SynReceived, Established, FinWait1, FinWait2, CloseWait, Closing, LastAck, TimeWait}
use Rattle.tcp_endpoint.specs.States.{has_begun}
use Rattle.tcp_endpoint.specs.ReceiveHalf.{Receiving, taken, next, receive_edge, came, with_came, with_segment}
use Rattle.tcp_endpoint.specs.SendHalf.{Sending, IsShort, in_flight, with_syn_acked, acknowledged, is_duplicate, shows_loss, duplicated, untimed_if, answered_by, moves_edge, send_edge, sendable, expires, timed, with_sent, with_fin_sent}
use Rattle.tcp_endpoint.specs.Tcb.{Tcb, listening, listening_measuring, connecting_measuring}
use Rattle.tcp_endpoint.specs.Arrival.{ack_at, first, with_ack_pending_if, with_reset, received, received_in, in_closed, in_listen, begun, with_reset_reply, with_reset_reply_without_ack, answered, in_syn_sent, in_others, check_sequence, with_time_wait_restarted, check_rst, check_syn, check_ack, is_bare, with_ack_used, with_ack, with_first_ack, with_fin_acked, with_text_and_fin}
use Rattle.tcp_endpoint.specs.Output.{probes_text, probes_fin, with_probe, with_text_sent, new_fin, with_fin_out, with_timed, after_full, with_advertised, is_timed, with_turn_ended, flushed}
use Rattle.tcp_endpoint.specs.UserCalls.{after_tick, timer_ticked, waited, after_read, after_write, closing, write_room}
use Rattle.endpoint_laws.proofs.Bounding.{text_facts, new_within}
use Rattle.endpoint_laws.proofs.SendingLaw.{held_field}
use Rattle.peer_client.specs.Stamping.{as_read}
use Rattle.peer_client.specs.Live.{LiveState, new_live_in, is_of, met, arrivals, ticked, unread, given_up, supplied, next_part, closes, before_flush, turned}
use Rattle.peer_client.proofs.TurnEnds.{read_behind}
use Rattle.link_parts.specs.Receipt.{Received, datagram, silence, failure}
use Rattle.link_parts.specs.ClientTurns.{ClientTurn, after_receive, emptied, due_at}
use Rattle.link_parts.specs.ClientParts.{HasLimits, IsWithin, IsLimited}
use Rattle.ft_io.proofs.Booleans.{left_true, right_true}
use Rattle.tcp_rules.proofs.Coming.{comes_within, stays_behind, behind_within, nothing_behind}
use Rattle.seq_arith.proofs.Units.{one_at_most}
use Rattle.ft_io.proofs.Choices.{holds_if, holds_either_way}

-- the sending half, as an acknowledgement comes
moved_within : (una sent : ℕ) (z : ℤ) (c : Bool) → (int_le (pos una) z && int_le z (pos sent) && c) ≡ true → nat_abs z ≤ sent
moved_within una sent z c h = grind (arith, ints)

module _ (isn written read : ℕ) where
  acknowledged_within : (s : Sending) (r : Receiving) (seq : ℕ) (z : ℤ) (edge : ℕ) → HasLimits isn written read s r → HasLimits isn written read (acknowledged s seq z edge) r
  unfolding acknowledged
  acknowledged_within s r seq z edge h =
      let kept : (if is_new_ack s.una s.sent z then nat_abs z else s.una) + length (if is_new_ack s.una s.sent z then drop (nat_abs z - s.una) s.held else s.held)
      ≡ max (if is_new_ack s.una s.sent z then nat_abs z else s.una) (s.una + length s.held) = held_field s.una s.sent z s.held h.order in
      let una : (if is_new_ack s.una s.sent z then nat_abs z else s.una) ≤ s.sent = new_within s.una s.sent z h.order in
      let within : ℕ → Type 0 = λ n. n ≤ s.sent in
      record {
        isn_is = h.isn_is;
        order = una;
        wl2_within = holds_if within (moves_edge s seq z) (nat_abs z) s.wl2 (λ k. moved_within s.una s.sent z _ k) (λ k. h.wl2_within);
        sent_within = h.sent_within;
        held_within = omega (arith, kept, una, h.held_within, h.sent_within);
        read_is = h.read_is;
        queued = h.queued;
        behind = h.behind;
      }

  -- a duplicate changes congestion control and the estimate alone
  answered_within : (s : Sending) (r : Receiving) (bare : Bool) (seq : ℕ) (z : ℤ) (edge : ℕ) → HasLimits isn written read s r
      → HasLimits isn written read (answered_by s bare seq z edge) r
  unfolding answered_by
  answered_within s r bare seq z edge h =
      let good : HasLimits isn written read (acknowledged s seq z edge) r = acknowledged_within s r seq z edge h in
      let limits : Sending → Type 0 = λ x. HasLimits isn written read (untimed_if (shows_loss s bare z edge) x) r in
      holds_either_way limits (is_duplicate s bare z edge) (duplicated (acknowledged s seq z edge)) (acknowledged s seq z edge) good good

  opened_within : (s : Sending) (r : Receiving) (seq edge : ℕ) → HasLimits isn written read s r → HasLimits isn written read (with_syn_acked s seq edge) r
  opened_within s r seq edge h = record {
    isn_is = h.isn_is;
    order = omega arith;
    wl2_within = omega arith;
    sent_within = omega arith;
    held_within = omega (arith, h.held_within);
    read_is = h.read_is;
    queued = h.queued;
    behind = h.behind;
  }

  -- the receiving half
  received_within : (s : Sending) (r after : Receiving) → after.read ≡ r.read → length after.unread ≤ 65535
      → StandsBehind (taken after) (receive_edge after) after.fin after.early → HasLimits isn written read s r → HasLimits isn written read s after
  received_within s r after same few behind h = record {
    isn_is = h.isn_is;
    order = h.order;
    wl2_within = h.wl2_within;
    sent_within = h.sent_within;
    held_within = h.held_within;
    read_is = same ∙ h.read_is;
    queued = few;
    behind = behind;
  }

-- what a segment makes of it keeps to the receive edge
record Queues (r after : Receiving) : Type 0 where
  read : after.read ≡ r.read
  few : length after.unread ≤ 65535
  behind : StandsBehind (taken after) (receive_edge after) after.fin after.early

segment_queued : (r : Receiving) (z : ℤ) (text : List ℕ) (fin : Bool) → StandsBehind (taken r) (receive_edge r) r.fin r.early → Queues r (with_segment r z text fin)
unfolding with_came
segment_queued r z text fin h =
    let n : ℕ = taken r in
    let edge : ℕ = receive_edge r in
    let c : Came = came r z text fin in
    let within : n + length c.added ≤ edge = comes_within n edge r.fin r.early z text fin h in
    let both : length (r.unread ++ c.added) ≡ length r.unread + length c.added = length-append r.unread c.added in
    let all : n + length c.added ≡ r.read + length (r.unread ++ c.added) = omega (arith, both) in
    record {
      read = refl;
      few = omega (arith, both, within);
      behind = subst (λ (k : ℕ). StandsBehind k edge c.fin c.early) all (stays_behind n edge r.fin r.early z text fin (behind_within n edge r.fin r.early h) h);
    }

-- a segment comes
module _ (isn written read : ℕ) (p : Segment) where
  abbrev Good : Tcb → Type 0
  Good e = IsWithin isn written read e

  text_limited : (e : Tcb) → Good e → Good (with_text_and_fin e p)
  unfolding with_text_and_fin
  text_limited e h =
      let after : Receiving = with_segment e.receiving (first e p) p.payload (has_fin p) in
      let q = segment_queued e.receiving (first e p) p.payload (has_fin p) h.behind in
      let good : HasLimits isn written read e.sending after = received_within isn written read e.sending e.receiving after q.read q.few q.behind h in
      holds_either_way Good _ _ _ good good

  fin_acked_limited : (e : Tcb) → Good e → Good (with_fin_acked e)
  unfolding with_fin_acked
  fin_acked_limited e h = holds_either_way Good _ _ _ h h

  first_ack_limited : (e : Tcb) → Good e → Good (with_first_ack e p)
  unfolding with_first_ack with_reset_reply
  first_ack_limited e h =
      holds_either_way Good _ _ _ (text_limited _ (opened_within isn written read e.sending e.receiving p.head.seq p.head.window h)) h

  ack_limited : (e : Tcb) → Good e → Good (with_ack e p)
  unfolding with_ack with_ack_used
  ack_limited e h =
      holds_either_way Good _ _ _ h
      (text_limited _ (fin_acked_limited (with_ack_used e p)
      (answered_within isn written read e.sending e.receiving (is_bare p) p.head.seq (ack_at e p) p.head.window h)))

  check_ack_limited : (e : Tcb) → Good e → Good (check_ack e p)
  unfolding check_ack
  check_ack_limited e h =
      holds_either_way Good (has_ack p) _ e (holds_either_way Good e.sending.syn_acked (with_ack e p) (with_first_ack e p) (ack_limited e h) (first_ack_limited e h)) h

  check_syn_limited : (e : Tcb) → Good e → Good (check_syn e p)
  unfolding check_syn
  check_syn_limited e h =
      holds_either_way Good (has_syn p) (with_ack_pending_if true e) (check_ack (with_ack_pending_if (nat_lt 0 (length_of p)) e) p) h (check_ack_limited (with_ack_pending_if (nat_lt 0 (length_of p)) e) h)

  check_rst_limited : (e : Tcb) → Good e → Good (check_rst e p)
  unfolding check_rst
  check_rst_limited e h =
      holds_either_way Good (has_rst p) _ (check_syn e p) (holds_either_way Good (int_eq (first e p) (pos (next e.receiving))) (with_reset e) (with_ack_pending_if true e) h h) (check_syn_limited e h)

  others_limited : (e : Tcb) → Good e → Good (in_others e p)
  unfolding in_others check_sequence with_time_wait_restarted
  others_limited e h = holds_either_way Good _ _ _ (check_rst_limited _ h) h

  closed_limited : (e : Tcb) → Good e → Good (in_closed e p)
  unfolding in_closed with_reset_reply with_reset_reply_without_ack
  closed_limited e h = holds_either_way Good (has_rst p) e _ h (holds_either_way Good (has_ack p) (with_reset_reply e p) (with_reset_reply_without_ack e p) h h)

  listen_limited : (e : Tcb) → Good e → Good (in_listen e p)
  unfolding in_listen with_reset_reply begun
  listen_limited e h = holds_either_way Good (has_rst p) e _ h (holds_either_way Good (has_ack p) (with_reset_reply e p) _ h (holds_either_way Good (has_syn p) (begun e p) e h h))

  syn_sent_limited : (e : Tcb) → Good e → Good (in_syn_sent e p)
  unfolding in_syn_sent with_reset_reply answered
  syn_sent_limited e h =
      holds_either_way Good (has_ack p) _ e
      (holds_either_way Good (int_eq (ack_at e p) (pos 0)) _ _
      (holds_either_way Good (has_rst p) (with_reset e) _ h
      (holds_either_way Good (has_syn p) (answered e p) e (opened_within isn written read e.sending e.receiving p.head.seq p.head.window h) h))
      (holds_either_way Good (has_rst p) e (with_reset_reply e p) h h))
      h

  by_name : (name : StateName) (e : Tcb) → Good e → Good (received_in name e p)
  by_name Closed e h = closed_limited e h
  by_name Listen e h = listen_limited e h
  by_name SynSent e h = syn_sent_limited e h
  by_name SynReceived e h = others_limited e h
  by_name Established e h = others_limited e h
  by_name FinWait1 e h = others_limited e h
  by_name FinWait2 e h = others_limited e h
  by_name CloseWait e h = others_limited e h
  by_name Closing e h = others_limited e h
  by_name LastAck e h = others_limited e h
  by_name TimeWait e h = others_limited e h

  received_limited : (e : Tcb) → Good e → Good (received e p)
  unfolding received
  received_limited e h = by_name e.name e h

-- a tick passes
tick_limited : (isn written read : ℕ) (e : Tcb) → IsWithin isn written read e → IsWithin isn written read (after_tick e)
unfolding after_tick timer_ticked waited
tick_limited isn written read e h =
    let limits : Sending → Type 0 = λ s. HasLimits isn written read s e.receiving in holds_either_way limits (expires e.sending) _ _ h h

-- the user's calls
read_limited : (isn written read : ℕ) (e : Tcb) (n : ℕ) → n ≤ length e.receiving.unread → IsWithin isn written read e
    → IsWithin isn written (read + n) (after_read e n)
read_limited isn written read e n few h = record {
  isn_is = h.isn_is;
  order = h.order;
  wl2_within = h.wl2_within;
  sent_within = h.sent_within;
  held_within = h.held_within;
  read_is = ap (λ k. k + n) h.read_is;
  queued = omega (arith, h.queued, length-drop n e.receiving.unread);
  behind = read_behind e.receiving n few h.behind;
}

write_limited : (isn written read : ℕ) (e : Tcb) (bytes : List ℕ) → IsWithin isn written read e → IsWithin isn (written + length bytes) read (after_write e bytes)
write_limited isn written read e bytes h =
    let more : length (e.sending.held ++ bytes) ≡ length e.sending.held + length bytes = length-append e.sending.held bytes in
    record {
      isn_is = h.isn_is;
      order = h.order;
      wl2_within = h.wl2_within;
      sent_within = omega (arith, h.sent_within);
      held_within = omega (arith, more, h.held_within);
      read_is = h.read_is;
      queued = h.queued;
      behind = h.behind;
    }

-- the end of a turn
module _ (isn written read : ℕ) where
  sent_more : (s : Sending) (r : Receiving) (n : ℕ) → s.sent + n ≤ written + one_if s.fin_sent → HasLimits isn written read s r
      → HasLimits isn written read (with_sent s n) r
  sent_more s r n few h = record {
    isn_is = h.isn_is;
    order = omega (arith, h.order);
    wl2_within = omega (arith, h.wl2_within);
    sent_within = few;
    held_within = h.held_within;
    read_is = h.read_is;
    queued = h.queued;
    behind = h.behind;
  }

  fin_more : (s : Sending) (r : Receiving) → s.fin_sent ≡ false → HasLimits isn written read s r → HasLimits isn written read (with_fin_sent s) r
  fin_more s r unsent h =
      let sent : s.sent ≤ written = omega (arith, h.sent_within, ap one_if unsent) in
      let held : s.una + length s.held ≤ written = omega (arith, h.held_within, ap one_if unsent) in
      record {
        isn_is = h.isn_is;
        order = omega (arith, h.order);
        wl2_within = omega (arith, h.wl2_within);
        sent_within = omega (arith, sent);
        held_within = omega (arith, held);
        read_is = h.read_is;
        queued = h.queued;
        behind = h.behind;
      }

fin_is_probed : (a b c d t u : Bool) → (a && b && c && not d && t && u) ≡ true → d ≡ false
fin_is_probed a b c d t u h = (text_facts a b c d t (left_true (a && b && c && not d && t) u h)).1

fin_is_new : (a b c d t u : Bool) → (a && (b && c && not d && t && u)) ≡ true → d ≡ false
fin_is_new a b c d t u h = (text_facts true b c d t (left_true (b && c && not d && t) u (right_true a (b && c && not d && t && u) h))).1

sendable_within : (is_opened fin_sent : Bool) (una len edge sent most : ℕ) → una + len ≤ most → sent ≤ most
    → sent + (if is_opened && not fin_sent then min (una + len) edge - sent else 0) ≤ most
sendable_within true true una len edge sent most h k = omega arith
sendable_within true false una len edge sent most h k = omega arith
sendable_within false fin_sent una len edge sent most h k = omega arith

module _ (isn written read : ℕ) where
  probe_limited : (e : Tcb) → IsWithin isn written read e → IsWithin isn written read (with_probe e)
  unfolding with_probe
  probe_limited e h =
      let s : Sending = e.sending in
      let limits : Sending → Type 0 = λ x. HasLimits isn written read x e.receiving in
      holds_if limits (probes_text e) _ _
      (λ k. let f = text_facts e.probe (has_begun e.name) s.syn_acked s.fin_sent (nat_lt (s.sent - s.una) (length s.held)) k in
      let room : s.sent + 1 ≤ s.una + length s.held = grind (arith, f.2, h.order) in
      sent_more isn written read s e.receiving 1 (omega (arith, room, h.held_within)) h)
      (λ k. holds_if limits (probes_fin e) _ _
      (λ j. fin_more isn written read s e.receiving
      (fin_is_probed e.probe (has_begun e.name) s.syn_acked s.fin_sent (not (nat_lt (s.sent - s.una) (length s.held))) s.closed j) h)
      (λ j. h))

  text_sent_limited : (e : Tcb) → IsWithin isn written read e → IsWithin isn written read (with_text_sent e)
  unfolding with_text_sent
  text_sent_limited e h =
      let s : Sending = e.sending in
      let sent_by : ℕ → Type 0 = λ k. HasLimits isn written read (with_sent s k) e.receiving in
      holds_either_way sent_by (has_begun e.name) (sendable s) 0
      (sent_more isn written read s e.receiving (sendable s)
      (sendable_within s.syn_acked s.fin_sent s.una (length s.held) (send_edge s) s.sent _ h.held_within h.sent_within) h)
      (sent_more isn written read s e.receiving 0 (omega (arith, h.sent_within)) h)

  fin_out_limited : (e : Tcb) → IsWithin isn written read e → IsWithin isn written read (with_fin_out e)
  unfolding with_fin_out
  fin_out_limited e h =
      let s : Sending = e.sending in
      let limits : Sending → Type 0 = λ x. HasLimits isn written read x e.receiving in
      holds_if limits (new_fin e) _ _
      (λ k. fin_more isn written read s e.receiving
      (fin_is_new (has_begun e.name) s.syn_acked s.closed s.fin_sent (s.sent == s.una + length s.held) (nat_lt s.sent (send_edge s)) k) h)
      (λ k. h)

  timed_limited : (s : Sending) (r : Receiving) (runs : Bool) → HasLimits isn written read s r → HasLimits isn written read (timed runs s) r
  timed_limited s r runs h =
      let limits : Sending → Type 0 = λ x. HasLimits isn written read x r in holds_either_way limits runs _ _ (holds_either_way limits (s.rest == 0) _ _ h h) h

  flush_limited : (e : Tcb) → IsWithin isn written read e → IsWithin isn written read (flushed e)
  unfolding flushed with_turn_ended with_advertised after_full with_timed
  flush_limited e h =
      let after : Tcb = with_timed (in_flight (with_probe e).sending) (with_fin_out (with_text_sent (with_probe e))) in
      let good : IsWithin isn written read after = fin_out_limited _ (text_sent_limited _ (probe_limited e h)) in
      timed_limited after.sending after.receiving (is_timed after) good

connect_limited : (measures : Bool) (local remote : Addr) (isn limit : ℕ) → IsWithin isn 0 0 (connecting_measuring measures local remote isn limit)
unfolding connecting_measuring listening listening_measuring
connect_limited measures local remote isn limit =
    record {
      isn_is = refl;
      order = omega arith;
      wl2_within = omega arith;
      sent_within = omega arith;
      held_within = omega arith;
      read_is = refl;
      queued = omega arith;
      behind = nothing_behind 0 (min 65535 (min limit (2 ^ 30))) false (omega arith);
    }

own_read : (isn written read : ℕ) (e : Tcb) → IsWithin isn written read e → IsWithin isn written e.receiving.read e
own_read isn written read e h = record {
  isn_is = h.isn_is;
  order = h.order;
  wl2_within = h.wl2_within;
  sent_within = h.sent_within;
  held_within = h.held_within;
  read_is = refl;
  queued = h.queued;
  behind = h.behind;
}

-- a live client
pub new_limited : (profile : Profile) (local server : Addr) (isn : ℕ) (script : List ℕ) → length script ≤ 2 ^ 24
    → IsLimited isn (new_live_in profile local server isn script)
new_limited profile local server isn script short = record {
  tcb = own_read isn 0 0 (connecting_measuring profile.measures local server isn (2 ^ 24)) (connect_limited profile.measures local server isn (2 ^ 24));
  written = omega arith;
  script = short;
}

met_limited : (isn : ℕ) (l : LiveState) (p : Segment) → IsLimited isn l → IsLimited isn (met l p)
met_limited isn l p h =
    let read : Segment = as_read l.stamps p in
    record { tcb = own_read isn l.written _ (received l.tcb read) (received_limited isn l.written l.tcb.receiving.read read l.tcb h.tcb); written = h.written; script = h.script }

arrivals_limited : (isn : ℕ) (l : LiveState) (r : Result Segment BadPacket) → IsLimited isn l → IsLimited isn (arrivals l r)
arrivals_limited isn l (Ok p) h = holds_either_way (IsLimited isn) (is_of l.local l.server p) (met l p) l (met_limited isn l p h) h
arrivals_limited isn l (Err bad) h = h

ticked_limited : (isn : ℕ) (l : LiveState) → IsLimited isn l → IsLimited isn (ticked l)
ticked_limited isn l h =
    record { tcb = own_read isn l.written _ (after_tick l.tcb) (tick_limited isn l.written l.tcb.receiving.read l.tcb h.tcb); written = h.written; script = h.script }

pub receive_limited : (isn : ℕ) (l : LiveState) (r : Received) → IsLimited isn l → IsLimited isn (after_receive l r)
receive_limited isn l (datagram from bytes) h = arrivals_limited isn l (reading bytes) h
receive_limited isn l silence h = ticked_limited isn l h
receive_limited isn l failure h = ticked_limited isn l h

emptied_limited : (isn : ℕ) (l : LiveState) → IsLimited isn l → IsLimited isn (emptied l)
emptied_limited isn l h = record { tcb = h.tcb; written = h.written; script = h.script }

part_fits : (room written : ℕ) (script : List ℕ) → written ≤ length script → written + length (take room (drop written script)) ≤ length script
part_fits room written script h = omega (arith, length-take {A = ℕ}, length-drop {A = ℕ})

pub turned_limited : (isn : ℕ) (l : LiveState) → IsLimited isn l → IsLimited isn (turned l)
turned_limited isn l h =
    let n : ℕ = min l.seen (length l.tcb.receiving.unread) in
    let m : LiveState = supplied (given_up l) in
    let read : ℕ = l.tcb.receiving.read + n in
    let good : IsWithin isn m.written read m.tcb =
    write_limited isn l.written read (after_read l.tcb n) (next_part (given_up l)) (read_limited isn l.written l.tcb.receiving.read l.tcb n (omega arith) h.tcb) in
    let closed : IsWithin isn m.written read (before_flush l).tcb = holds_either_way (IsWithin isn m.written read) (closes m) (closing m.tcb) m.tcb good good in
    record {
      tcb = own_read isn m.written read (flushed (before_flush l).tcb) (flush_limited isn m.written read (before_flush l).tcb closed);
      written = part_fits (write_room (after_read l.tcb n)) l.written l.script h.written;
      script = h.script;
    }

pub limited_at : (isn : ℕ) (start : LiveState) (turns : List ClientTurn) → IsLimited isn start → IsLimited isn (due_at start turns)
unfolding due_at
limited_at isn start [] h = h
limited_at isn start (turn ∷ earlier) h =
    emptied_limited isn _ (receive_limited isn (turned (due_at start earlier)) turn.received (turned_limited isn (due_at start earlier) (limited_at isn start earlier h)))

pub limited_short : (isn : ℕ) (l : LiveState) → IsLimited isn l → IsShort l.tcb.sending
limited_short isn l h = record {
  sent = omega (arith, h.tcb.sent_within, one_at_most l.tcb.sending.fin_sent, h.written, h.script);
  wl2 = omega (arith, h.tcb.wl2_within, h.tcb.sent_within, one_at_most l.tcb.sending.fin_sent, h.written, h.script);
}

pub limited_unread : (isn : ℕ) (l : LiveState) → IsLimited isn l → length (unread l) ≤ 65535
limited_unread isn l h = omega (arith, h.tcb.queued, length-drop l.seen l.tcb.receiving.unread)

-- what a turn's end reads, and that nothing else is read
pub turned_read : (isn : ℕ) (l : LiveState) → IsLimited isn l → (turned l).tcb.receiving.read ≡ l.tcb.receiving.read + min l.seen (length l.tcb.receiving.unread)
turned_read isn l h =
    let n : ℕ = min l.seen (length l.tcb.receiving.unread) in
    let m : LiveState = supplied (given_up l) in
    let read : ℕ = l.tcb.receiving.read + n in
    let good : IsWithin isn m.written read m.tcb =
    write_limited isn l.written read (after_read l.tcb n) (next_part (given_up l)) (read_limited isn l.written l.tcb.receiving.read l.tcb n (omega arith) h.tcb) in
    let closed : IsWithin isn m.written read (before_flush l).tcb = holds_either_way (IsWithin isn m.written read) (closes m) (closing m.tcb) m.tcb good good in
    (flush_limited isn m.written read (before_flush l).tcb closed).read_is

met_read : (isn : ℕ) (l : LiveState) (p : Segment) → IsLimited isn l → (met l p).tcb.receiving.read ≡ l.tcb.receiving.read
met_read isn l p h = (received_limited isn l.written l.tcb.receiving.read (as_read l.stamps p) l.tcb h.tcb).read_is

-- what comes leaves unread what was, and hands nothing out
abbrev HandsNothing : LiveState → LiveState → Type 0
HandsNothing l m = (m.tcb.receiving.read ≡ l.tcb.receiving.read) × (m.seen ≡ l.seen)

arrivals_reads : (isn : ℕ) (l : LiveState) (r : Result Segment BadPacket) → IsLimited isn l → HandsNothing l (arrivals l r)
arrivals_reads isn l (Ok p) h = holds_either_way (HandsNothing l) (is_of l.local l.server p) (met l p) l (met_read isn l p h, refl) (refl, refl)
arrivals_reads isn l (Err bad) h = (refl, refl)

pub receive_reads : (isn : ℕ) (l : LiveState) (r : Received) → IsLimited isn l → HandsNothing l (after_receive l r)
receive_reads isn l (datagram from bytes) h = arrivals_reads isn l (reading bytes) h
receive_reads isn l silence h = ((tick_limited isn l.written l.tcb.receiving.read l.tcb h.tcb).read_is, refl)
receive_reads isn l failure h = ((tick_limited isn l.written l.tcb.receiving.read l.tcb h.tcb).read_is, refl)
