-- A segment leaves TCP sound, near or not.
use Rattle.std.proofs.Common.{◌≡◌, ◌<◌, ◌≤◌, ◌^◌, Bool, true, false, not, length, refl, sym, subst, arith, ◌∙◌}
use Rattle.std.specs.Prelude.{pos, ◌&&◌, ◌||◌, nat_lt, if◌then◌else◌}
use Rattle.std.proofs.lemmas.Bool.{false≢true}
use Rattle.tcp_rules.specs.Arrival.{int_eq, is_acceptable_or_at_edge, is_allowed_at_zero}
use Rattle.seq_arith.specs.Offset.{one_if, length_of}
use Rattle.seq_arith.specs.Packet.{Segment, has_syn, has_rst, has_ack, has_fin}
use Rattle.tcp_buffers.specs.Near.{IsNearFirst, is_ahead}
use Rattle.tcp_endpoint.specs.declared.states.StateName.{StateName}
use Rattle.tcp_endpoint.specs.declared.states.StateName.TheVariants.{Closed, Listen, SynSent, SynReceived, Established, FinWait1, FinWait2, CloseWait, Closing, LastAck, TimeWait}
use Rattle.tcp_endpoint.specs.States.{after_syn_acked, after_fin, after_fin_acked}
use Rattle.tcp_endpoint.specs.ReceiveHalf.{Receiving, next, window, with_segment}
use Rattle.tcp_endpoint.specs.SendHalf.{Sending, with_syn_acked, acknowledged, is_duplicate, shows_loss, duplicated, untimed_if, answered_by, fin_acked}
use Rattle.tcp_endpoint.specs.Tcb.{Tcb}
use Rattle.tcp_endpoint.specs.Arrival.{first, ack_at, received, received_in, in_closed, in_others, with_time_wait_restarted, accepts, is_allowed, check_sequence, check_rst, check_syn, check_ack, is_bare, with_ack_used, with_ack, with_first_ack, with_fin_acked, with_text_and_fin, entering, with_ack_pending_if, with_reset, with_reset_reply, with_reset_reply_without_ack}
use Rattle.tcp_endpoint.proofs.Places.{near_of_usable}
use Rattle.endpoint_laws.proofs.SendingLaw.{next_near, window_short, length_short}
use Rattle.endpoint_laws.proofs.TakenLaw.{window_is}
use Rattle.wrapped_conn.specs.Sound.{has_peer, IsSoundTcp}
use Rattle.wrapped_conn.proofs.Kept.{ProceedsFrom, TakesOn, stays, goes_if, goes_when, fin_has_peer, acked_has_peer, syn_acked_has_peer, takes_segment, later_bounds, duplicated_bounds, untimed_bounds, held_stays, kept_fields, first_bounds}
use Rattle.endpoint_laws.proofs.Bounding.{other_bounds}

-- the fields of a segment fit their bytes
pub record HasFieldsInRange (p : Segment) : Type 0 where
  pub seq : p.head.seq < 2 ^ 32
  pub window : p.head.window ≤ 65535
  pub text : length p.payload ≤ 65535

-- another state
enters : (e t : Tcb) (name : StateName) → has_peer name ≡ true → ProceedsFrom e t → ProceedsFrom e (entering name t)
enters e t name listens g = record {
  sound = record { bounds = g.sound.bounds; buffered = g.sound.buffered; begun = listens; fin_last = g.sound.fin_last };
  read = g.read;
  limit = g.limit;
  more = g.more;
  iss = g.iss;
  mss = g.mss;
  closed = g.closed;
  sent = g.sent;
  held = g.held;
}

text_goes : (e t : Tcb) (p : Segment) → ProceedsFrom e t → ProceedsFrom e (with_text_and_fin t p)
unfolding with_text_and_fin
text_goes e t p g =
    let r : Receiving = with_segment t.receiving (first t p) p.payload (has_fin p) in
    let k : TakesOn t.receiving r = takes_segment t.receiving (first t p) p.payload (has_fin p) in
    let taking : Tcb = record t { receiving = r } in
    let behind = g.sound.bounds.early in
    let goes : ProceedsFrom e taking = record {
      sound = record {
        bounds = other_bounds t.receiving t.sending g.sound.bounds r (omega (arith, k.limit, g.sound.bounds.limit)) (k.within behind) (k.behind behind) k.irs;
        buffered = k.buffered behind;
        begun = g.sound.begun;
        fin_last = g.sound.fin_last;
      };
      read = k.read ∙ g.read;
      limit = k.limit ∙ g.limit;
      more = omega (arith, k.more, g.more);
      iss = g.iss;
      mss = g.mss;
      closed = g.closed;
      sent = g.sent;
      held = g.held;
    } in
    goes_if (r.fin && not t.receiving.fin) e _ _ (enters e taking (after_fin t.name) (fin_has_peer t.name g.sound.begun) goes) goes

acked_goes : (e t : Tcb) → ProceedsFrom e t → ProceedsFrom e (with_fin_acked t)
unfolding with_fin_acked
acked_goes e t g = goes_if (fin_acked t.sending) e _ _ (enters e t (after_fin_acked t.name) (acked_has_peer t.name g.sound.begun) g) g

-- no FIN is sent by a user who hasn't closed
no_fin : (b c : Bool) → (b ≡ true → c ≡ true) → c ≡ false → one_if b ≡ 0
no_fin true true h k = absurd (false≢true (sym k))
no_fin true false h k = absurd (false≢true (h refl))
no_fin false c h k = refl

needs_ack : (e t : Tcb) (b : Bool) → ProceedsFrom e t → ProceedsFrom e (with_ack_pending_if b t)
needs_ack e t b g = record { sound = record { bounds = g.sound.bounds; buffered = g.sound.buffered; begun = g.sound.begun; fin_last = g.sound.fin_last }; read = g.read; limit = g.limit; more = g.more; iss = g.iss; mss = g.mss; closed = g.closed; sent = g.sent; held = g.held }

later_used : (e : Tcb) (p : Segment) → IsSoundTcp e → HasFieldsInRange p → IsNearFirst (first e p) → e.sending.syn_acked ≡ true
    → ProceedsFrom e (record e { sending = acknowledged e.sending p.head.seq (ack_at e p) p.head.window })
later_used e p s fits near is_syn_acked =
    let held = held_stays e.sending p.head.seq p.head.window (ack_at e p) s.bounds.order in
    let kept = kept_fields e.sending p.head.seq p.head.window (ack_at e p) in
    record {
      sound = record {
        bounds = later_bounds e.receiving e.sending p.head.seq p.head.window (ack_at e p) s.bounds near fits.seq fits.window is_syn_acked;
        buffered = s.buffered;
        begun = s.begun;
        fin_last = λ f. kept.1 ∙ s.fin_last (sym kept.2 ∙ f);
      };
      read = refl;
      limit = refl;
      more = omega arith;
      iss = kept.0;
      mss = kept.4;
      closed = kept.1;
      sent = omega (arith, kept.3);
      held = λ open_still. held (omega (arith, s.bounds.flight, no_fin e.sending.fin_sent e.sending.closed s.fin_last open_still));
    }

-- a duplicate is counted, and may make something due again
counts_again : (e : Tcb) (used : Sending) (duplicate again retransmission_due : Bool) → ProceedsFrom e (record e { sending = used })
    → ProceedsFrom e (record e { sending = untimed_if again (if duplicate then duplicated used else used); retransmission_due = retransmission_due })
counts_again e used true again retransmission_due g = record {
  sound = record { bounds = untimed_bounds again e.receiving (duplicated used) (duplicated_bounds e.receiving used g.sound.bounds); buffered = g.sound.buffered; begun = g.sound.begun; fin_last = g.sound.fin_last };
  read = refl;
  limit = refl;
  more = g.more;
  iss = g.iss;
  mss = g.mss;
  closed = g.closed;
  sent = g.sent;
  held = g.held;
}
counts_again e used false again retransmission_due g = record {
  sound = record { bounds = untimed_bounds again e.receiving used g.sound.bounds; buffered = g.sound.buffered; begun = g.sound.begun; fin_last = g.sound.fin_last };
  read = refl;
  limit = refl;
  more = g.more;
  iss = g.iss;
  mss = g.mss;
  closed = g.closed;
  sent = g.sent;
  held = g.held;
}

ack_goes : (e : Tcb) (p : Segment) → IsSoundTcp e → HasFieldsInRange p → IsNearFirst (first e p) → e.sending.syn_acked ≡ true → ProceedsFrom e (with_ack_used e p)
unfolding with_ack_used answered_by
ack_goes e p s fits near is_syn_acked =
    counts_again e (acknowledged e.sending p.head.seq (ack_at e p) p.head.window) (is_duplicate e.sending (is_bare p) (ack_at e p) p.head.window)
    (shows_loss e.sending (is_bare p) (ack_at e p) p.head.window) (e.retransmission_due || shows_loss e.sending (is_bare p) (ack_at e p) p.head.window)
    (later_used e p s fits near is_syn_acked)

later_goes : (e : Tcb) (p : Segment) → IsSoundTcp e → HasFieldsInRange p → IsNearFirst (first e p) → e.sending.syn_acked ≡ true → ProceedsFrom e (with_ack e p)
unfolding with_ack
later_goes e p s fits near is_syn_acked =
    let used : Tcb = with_ack_used e p in
    goes_if (is_ahead e.sending.sent (ack_at e p)) e _ _ (needs_ack e e true (stays e s)) (text_goes e (with_fin_acked used) p (acked_goes e used (ack_goes e p s fits near is_syn_acked)))

refuses : (e : Tcb) (p : Segment) → IsSoundTcp e → ProceedsFrom e (with_reset_reply e p)
unfolding with_reset_reply
refuses e p s = let g = stays e s in record { sound = record { bounds = s.bounds; buffered = s.buffered; begun = s.begun; fin_last = s.fin_last }; read = refl; limit = refl; more = g.more; iss = refl; mss = refl; closed = refl; sent = g.sent; held = g.held }

refuses_bare : (e : Tcb) (p : Segment) → IsSoundTcp e → ProceedsFrom e (with_reset_reply_without_ack e p)
unfolding with_reset_reply_without_ack
refuses_bare e p s = let g = stays e s in record { sound = record { bounds = s.bounds; buffered = s.buffered; begun = s.begun; fin_last = s.fin_last }; read = refl; limit = refl; more = g.more; iss = refl; mss = refl; closed = refl; sent = g.sent; held = g.held }

first_goes : (e : Tcb) (p : Segment) → IsSoundTcp e → HasFieldsInRange p → IsNearFirst (first e p) → e.sending.syn_acked ≡ false → ProceedsFrom e (with_first_ack e p)
unfolding with_first_ack
first_goes e p s fits near syn_unacked =
    let opening : Tcb = record e { name = after_syn_acked e.sending.closed; sending = with_syn_acked e.sending p.head.seq p.head.window } in
    let goes : ProceedsFrom e opening = record {
      sound = record {
        bounds = first_bounds e.receiving e.sending p.head.seq p.head.window s.bounds near fits.seq fits.window syn_unacked;
        buffered = s.buffered;
        begun = syn_acked_has_peer e.sending.closed;
        fin_last = s.fin_last;
      };
      read = refl;
      limit = refl;
      more = omega arith;
      iss = refl;
      mss = refl;
      closed = refl;
      sent = omega (arith, s.bounds.syn_unacked syn_unacked);
      held = λ open_still. omega arith;
    } in
    goes_if (int_eq (ack_at e p) (pos 0)) e _ _ (text_goes e opening p goes) (refuses e p s)

from_pending : (e : Tcb) (b : Bool) (t : Tcb) → ProceedsFrom (with_ack_pending_if b e) t → ProceedsFrom e t
from_pending e b t g = record { sound = g.sound; read = g.read; limit = g.limit; more = g.more; iss = g.iss; mss = g.mss; closed = g.closed; sent = g.sent; held = g.held }

-- a segment that is looked at further begins near to the window
one_of : (a z b : Bool) → (a || (z && b)) ≡ true → (a || z) ≡ true
one_of true z b h = refl
one_of false true b h = refl
one_of false false b h = h

near_of_looked : (e : Tcb) (p : Segment) → IsSoundTcp e → HasFieldsInRange p → (accepts e p || is_allowed e p) ≡ true → IsNearFirst (first e p)
unfolding accepts is_allowed
near_of_looked e p s fits h =
    near_of_usable (next e.receiving) (window e.receiving) (first e p) (length_of p) (next_near e.receiving s.bounds.limit s.bounds.taken)
    (subst (λ w. w ≤ 2 ^ 16) (window_is e.receiving) (window_short e.receiving)) (length_short p fits.text)
    (one_of (is_acceptable_or_at_edge (next e.receiving) (window e.receiving) (first e p) (length_of p)) (is_allowed_at_zero (next e.receiving) (window e.receiving) (first e p))
    (e.sending.syn_acked || int_eq (ack_at e p) (pos 0)) h)

-- the checks in their order, of such a segment
checked : (e : Tcb) (p : Segment) → IsSoundTcp e → HasFieldsInRange p → IsNearFirst (first e p) → ProceedsFrom e (check_rst e p)
unfolding check_rst check_syn check_ack
checked e p s fits near =
    let g : ProceedsFrom e e = stays e s in
    let pending : Tcb = with_ack_pending_if (nat_lt 0 (length_of p)) e in
    let sound : IsSoundTcp pending = record { bounds = s.bounds; buffered = s.buffered; begun = s.begun; fin_last = s.fin_last } in
    goes_if (has_rst p) e _ _
    (goes_if (int_eq (first e p) (pos (next e.receiving))) e _ _ (closes e s) (needs_ack e e true g))
    (goes_if (has_syn p) e _ _ (needs_ack e e true g)
    (goes_if (has_ack p) e _ _
    (goes_when e.sending.syn_acked e _ _ (λ h. from_pending e _ _ (later_goes pending p sound fits near h)) (λ h. from_pending e _ _ (first_goes pending p sound fits near h)))
    (needs_ack e e _ g)))
  where
    closes : (x : Tcb) → IsSoundTcp x → ProceedsFrom x (with_reset x)
    closes x s = let g = stays x s in record { sound = record { bounds = s.bounds; buffered = s.buffered; begun = refl; fin_last = s.fin_last }; read = refl; limit = refl; more = g.more; iss = refl; mss = refl; closed = refl; sent = g.sent; held = g.held }

from_waiting : (e : Tcb) (p : Segment) (t : Tcb) → ProceedsFrom (with_time_wait_restarted e p) t → ProceedsFrom e t
unfolding with_time_wait_restarted
from_waiting e p t g = record { sound = g.sound; read = g.read; limit = g.limit; more = g.more; iss = g.iss; mss = g.mss; closed = g.closed; sent = g.sent; held = g.held }

others_go : (e : Tcb) (p : Segment) → IsSoundTcp e → HasFieldsInRange p → ProceedsFrom e (in_others e p)
unfolding in_others check_sequence with_time_wait_restarted
others_go e p s fits =
    let x : Tcb = with_time_wait_restarted e p in
    let sound : IsSoundTcp x = record { bounds = s.bounds; buffered = s.buffered; begun = s.begun; fin_last = s.fin_last } in
    goes_when (accepts x p || is_allowed x p) e _ _ (λ h. from_waiting e p _ (checked x p sound fits (near_of_looked x p sound fits h)))
    (λ h. from_waiting e p _ (needs_ack x x (not (has_rst p)) (stays x sound)))

closed_goes : (e : Tcb) (p : Segment) → IsSoundTcp e → ProceedsFrom e (in_closed e p)
unfolding in_closed
closed_goes e p s = goes_if (has_rst p) e _ _ (stays e s) (goes_if (has_ack p) e _ _ (refuses e p s) (refuses_bare e p s))

goes_by : (name : StateName) (e : Tcb) (p : Segment) → has_peer name ≡ true → IsSoundTcp e → HasFieldsInRange p → ProceedsFrom e (received_in name e p)
goes_by Closed e p h s fits = closed_goes e p s
goes_by Listen e p h s fits = absurd (false≢true h)
goes_by SynSent e p h s fits = absurd (false≢true h)
goes_by SynReceived e p h s fits = others_go e p s fits
goes_by Established e p h s fits = others_go e p s fits
goes_by FinWait1 e p h s fits = others_go e p s fits
goes_by FinWait2 e p h s fits = others_go e p s fits
goes_by CloseWait e p h s fits = others_go e p s fits
goes_by Closing e p h s fits = others_go e p s fits
goes_by LastAck e p h s fits = others_go e p s fits
goes_by TimeWait e p h s fits = others_go e p s fits

pub segment_goes : (e : Tcb) (p : Segment) → IsSoundTcp e → HasFieldsInRange p → ProceedsFrom e (received e p)
unfolding received
segment_goes e p s fits = goes_by e.name e p s.begun s fits
