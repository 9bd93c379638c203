-- The state of a connection through a turn: it follows what its halves tell, and it is CLOSED by a RST or once both FINs are through.
use Rattle.std.proofs.Common.{◌≡◌, ◌⊎◌, inl, inr, ℕ, ◌≤◌, ◌+◌, ◌-◌, ◌*◌, Bool, true, false, not, None, List, [], ◌∷◌, length, min, refl, sym, ap, subst, arith, ◌∙◌}
use Rattle.std.specs.Prelude.{ℤ, pos, ◌==◌, ◌&&◌, ◌||◌, nat_abs, nat_lt, if◌then◌else◌}
use Rattle.std.proofs.lemmas.Int.{ints}
use Rattle.std.proofs.lemmas.Bool.{false≢true}
use Rattle.tcp_rules.specs.Arrival.{int_eq, is_acceptable, is_at_right_edge, is_new_ack}
use Rattle.tcp_rules.specs.Congestion.{Congestion}
use Rattle.tcp_rules.specs.Timing.{Timing, with_tick, with_backoff}
use Rattle.seq_arith.specs.Packet.{Segment, has_fin, has_syn, has_rst, has_ack}
use Rattle.seq_arith.specs.Offset.{one_if, length_of}
use Rattle.ft_model.specs.Opening.{is_syn}
use Rattle.ft_model.specs.News.{News}
use Rattle.ft_model.specs.News.News.{Comes, Logged, Ticks, Begins}
use Rattle.tcp_buffers.specs.Near.{is_ahead}
use Rattle.tcp_endpoint.specs.declared.states.StateName.{StateName}
use Rattle.tcp_endpoint.specs.declared.states.StateName.TheVariants.{Closed, Listen, SynSent, SynReceived, Established, FinWait1, FinWait2, CloseWait, Closing, LastAck, TimeWait}
use Rattle.tcp_endpoint.specs.States.{after_syn_acked, after_close, after_fin, after_fin_acked, is_time_wait, has_begun}
use Rattle.tcp_endpoint.specs.ReceiveHalf.{Receiving, next, taken, receive_edge, window, with_came, with_segment}
use Rattle.tcp_endpoint.specs.SendHalf.{Sending, with_syn_acked, acknowledged, fin_acked, congestion_expired, send_edge, sendable, sends_fin, timed, expires, with_sent, with_fin_sent, with_unit_timed, in_flight}
use Rattle.tcp_endpoint.specs.Tcb.{Tcb}
use Rattle.tcp_endpoint.specs.Arrival.{first, ack_at, with_ack_pending_if, with_reset, entering, with_reset_reply, begun, with_text_and_fin, with_fin_acked, with_first_ack, with_ack_used, with_ack, check_ack, check_syn, check_rst, with_time_wait_restarted, check_sequence, in_others, received}
use Rattle.tcp_endpoint.specs.Arrival as check
use Rattle.tcp_endpoint.specs.Output.{probes_text, probes_fin, with_probe, with_text_sent, with_fin_out, after_full, with_advertised, with_turn_ended, flushed, reset_reply_segments, with_timed}
use Rattle.tcp_endpoint.specs.UserCalls.{after_tick, timer_ticked, waited}
use Rattle.endpoint_laws.specs.Turn.{Call, called, used, IsBetweenTurns, arrived, before_flush, turned, sent_in}
use Rattle.endpoint_laws.specs.Turn.Call.{Reads, Writes, Closes}
use Rattle.endpoint_laws.specs.ConnectionEnd.{IsNamed, IsNamedRightly, resets, is_over}
use Rattle.endpoint_laws.specs.PassiveOpen.{IsListening}
use Rattle.endpoint_laws.proofs.TakenLaw.{begun_is, proceeds}
use Rattle.endpoint_laws.proofs.Listening.{begun_by, closed_by_calls}
use Rattle.endpoint_laws.proofs.SendingLaw.{answered_at, used_with, used_is}
use Rattle.endpoint_laws.proofs.TurnLaw.{after_steps}
use Rattle.endpoint_laws.proofs.AnswersAlone.{closed_sends}
use Rattle.tcp_rules.proofs.Coming.{fin_stays}
use Rattle.ft_io.proofs.Booleans.{left_true, right_true, not_true, false_by, or_false, or_true}
use Rattle.ft_io.proofs.Choices.{by_cases, holds_if}
use Rattle.endpoint_laws.proofs.Bounding.{new_within}

-- the states of a connection that no RST has reset: CLOSED only once all is through
abbrev pub IsPlaced : StateName → (syn_acked closed fin acked : Bool) → Type 0
IsPlaced Closed o c f a = (o ≡ true) × (c ≡ true) × (f ≡ true) × (a ≡ true)
IsPlaced Listen o c f a = ⊥
IsPlaced SynSent o c f a = ⊥
IsPlaced name o c f a = IsNamed name o c f a

placed_of : (name : StateName) (o c f a : Bool) → has_begun name ≡ true → IsNamed name o c f a → IsPlaced name o c f a
placed_of Closed o c f a begun h = absurd (false≢true begun)
placed_of Listen o c f a begun h = absurd (false≢true begun)
placed_of SynSent o c f a begun h = absurd (false≢true begun)
placed_of SynReceived o c f a begun h = h
placed_of Established o c f a begun h = h
placed_of FinWait1 o c f a begun h = h
placed_of FinWait2 o c f a begun h = h
placed_of CloseWait o c f a begun h = h
placed_of Closing o c f a begun h = h
placed_of LastAck o c f a begun h = h
placed_of TimeWait o c f a begun h = h

named_of : (name : StateName) (o c f a : Bool) → IsPlaced name o c f a → IsNamed name o c f a
named_of Closed o c f a h = tt
named_of Listen o c f a h = tt
named_of SynSent o c f a h = tt
named_of SynReceived o c f a h = h
named_of Established o c f a h = h
named_of FinWait1 o c f a h = h
named_of FinWait2 o c f a h = h
named_of CloseWait o c f a h = h
named_of Closing o c f a h = h
named_of LastAck o c f a h = h
named_of TimeWait o c f a h = h

-- the arrows of figure 5: the peer's FIN is taken, ..
placed_fin : (name : StateName) (o c f f' a : Bool) → o ≡ true → f ≡ false → f' ≡ true → IsPlaced name o c f a → IsPlaced (after_fin name) o c f' a
placed_fin Closed o c f f' a is none some h = absurd (false≢true (sym none ∙ h.2))
placed_fin Listen o c f f' a is none some h = h
placed_fin SynSent o c f f' a is none some h = h
placed_fin SynReceived o c f f' a is none some h = absurd (false≢true (sym h.0 ∙ is))
placed_fin Established o c f f' a is none some h = (h.0, h.1, some)
placed_fin FinWait1 o c f f' a is none some h = (h.0, h.1, some, h.3)
placed_fin FinWait2 o c f f' a is none some h = (h.0, h.1, some, h.3)
placed_fin CloseWait o c f f' a is none some h = absurd (false≢true (sym none ∙ h.2))
placed_fin Closing o c f f' a is none some h = absurd (false≢true (sym none ∙ h.2))
placed_fin LastAck o c f f' a is none some h = absurd (false≢true (sym none ∙ h.2))
placed_fin TimeWait o c f f' a is none some h = absurd (false≢true (sym none ∙ h.2))

-- .. the own FIN is acknowledged, ..
placed_acked : (name : StateName) (o c f a a' : Bool) → a' ≡ true → IsPlaced name o c f a → IsPlaced (after_fin_acked name) o c f a'
placed_acked Closed o c f a a' is h = (h.0, h.1, h.2, is)
placed_acked Listen o c f a a' is h = h
placed_acked SynSent o c f a a' is h = h
placed_acked SynReceived o c f a a' is h = h
placed_acked Established o c f a a' is h = h
placed_acked FinWait1 o c f a a' is h = (h.0, h.1, h.2, is)
placed_acked FinWait2 o c f a a' is h = (h.0, h.1, h.2, is)
placed_acked CloseWait o c f a a' is h = h
placed_acked Closing o c f a a' is h = (h.0, h.1, h.2, is)
placed_acked LastAck o c f a a' is h = (h.0, h.1, h.2, is)
placed_acked TimeWait o c f a a' is h = (h.0, h.1, h.2, is)

placed_unacked : (name : StateName) (o c f a a' : Bool) → (a ≡ true → a' ≡ true) → a' ≡ false → IsPlaced name o c f a → IsPlaced name o c f a'
placed_unacked Closed o c f a a' stays none h = absurd (false≢true (sym none ∙ stays h.3))
placed_unacked Listen o c f a a' stays none h = h
placed_unacked SynSent o c f a a' stays none h = h
placed_unacked SynReceived o c f a a' stays none h = h
placed_unacked Established o c f a a' stays none h = h
placed_unacked FinWait1 o c f a a' stays none h = (h.0, h.1, h.2, none)
placed_unacked FinWait2 o c f a a' stays none h = absurd (false≢true (sym none ∙ stays h.3))
placed_unacked CloseWait o c f a a' stays none h = h
placed_unacked Closing o c f a a' stays none h = (h.0, h.1, h.2, none)
placed_unacked LastAck o c f a a' stays none h = (h.0, h.1, h.2, none)
placed_unacked TimeWait o c f a a' stays none h = absurd (false≢true (sym none ∙ stays h.3))

-- .. the user closes, ..
placed_closing : (name : StateName) (o c f a : Bool) → (a ≡ true → c ≡ true) → IsPlaced name o c f a → IsPlaced (after_close name) o true f a
placed_closing Closed o c f a ends h = (h.0, refl, h.2, h.3)
placed_closing Listen o c f a ends h = absurd h
placed_closing SynSent o c f a ends h = absurd h
placed_closing SynReceived o c f a ends h = h
placed_closing Established o c f a ends h = (h.0, refl, h.2, false_by a c ends h.1)
placed_closing FinWait1 o c f a ends h = (h.0, refl, h.2, h.3)
placed_closing FinWait2 o c f a ends h = (h.0, refl, h.2, h.3)
placed_closing CloseWait o c f a ends h = (h.0, refl, h.2, false_by a c ends h.1)
placed_closing Closing o c f a ends h = (h.0, refl, h.2, h.3)
placed_closing LastAck o c f a ends h = (h.0, refl, h.2, h.3)
placed_closing TimeWait o c f a ends h = (h.0, refl, h.2, h.3)

-- .. TIME-WAIT ends, ..
placed_waited : (name : StateName) (o c f a b : Bool) → IsPlaced name o c f a → IsPlaced (if is_time_wait name && b then Closed else name) o c f a
placed_waited Closed o c f a b h = h
placed_waited Listen o c f a b h = h
placed_waited SynSent o c f a b h = h
placed_waited SynReceived o c f a b h = h
placed_waited Established o c f a b h = h
placed_waited FinWait1 o c f a b h = h
placed_waited FinWait2 o c f a b h = h
placed_waited CloseWait o c f a b h = h
placed_waited Closing o c f a b h = h
placed_waited LastAck o c f a b h = h
placed_waited TimeWait o c f a true h = h
placed_waited TimeWait o c f a false h = h

-- .. and the SYN is acknowledged
placed_syn_unacked : (name : StateName) (o c f a : Bool) → o ≡ false → IsPlaced name o c f a → f ≡ false
placed_syn_unacked Closed o c f a none h = absurd (false≢true (sym none ∙ h.0))
placed_syn_unacked Listen o c f a none h = absurd h
placed_syn_unacked SynSent o c f a none h = absurd h
placed_syn_unacked SynReceived o c f a none h = h.1
placed_syn_unacked Established o c f a none h = absurd (false≢true (sym none ∙ h.0))
placed_syn_unacked FinWait1 o c f a none h = absurd (false≢true (sym none ∙ h.0))
placed_syn_unacked FinWait2 o c f a none h = absurd (false≢true (sym none ∙ h.0))
placed_syn_unacked CloseWait o c f a none h = absurd (false≢true (sym none ∙ h.0))
placed_syn_unacked Closing o c f a none h = absurd (false≢true (sym none ∙ h.0))
placed_syn_unacked LastAck o c f a none h = absurd (false≢true (sym none ∙ h.0))
placed_syn_unacked TimeWait o c f a none h = absurd (false≢true (sym none ∙ h.0))

placed_syn_acked : (c f a : Bool) → f ≡ false → a ≡ false → IsPlaced (after_syn_acked c) true c f a
placed_syn_acked true f a p q = (refl, refl, p, q)
placed_syn_acked false f a p q = (refl, refl, p)

-- a connection that isn't reset and has begun no more is over
over_of : (name : StateName) (o c f a : Bool) → has_begun name ≡ false → IsPlaced name o c f a → (f && a) ≡ true
over_of Closed o c f a ended h = λ i. h.2 i && h.3 i
over_of Listen o c f a ended h = absurd h
over_of SynSent o c f a ended h = absurd h
over_of SynReceived o c f a ended h = absurd (false≢true (sym ended))
over_of Established o c f a ended h = absurd (false≢true (sym ended))
over_of FinWait1 o c f a ended h = absurd (false≢true (sym ended))
over_of FinWait2 o c f a ended h = absurd (false≢true (sym ended))
over_of CloseWait o c f a ended h = absurd (false≢true (sym ended))
over_of Closing o c f a ended h = absurd (false≢true (sym ended))
over_of LastAck o c f a ended h = absurd (false≢true (sym ended))
over_of TimeWait o c f a ended h = absurd (false≢true (sym ended))

-- what every step keeps: the state, and of the own FIN that only a user who has closed sends it, and only after the SYN's acknowledgement
pub record Follows (name : StateName) (fin : Bool) (s : Sending) : Type 0 where
  pub placed : IsPlaced name s.syn_acked s.closed fin (fin_acked s)
  pub ends : s.fin_sent ≡ true → s.closed ≡ true
  pub order : s.una ≤ s.sent
  pub unsent : s.syn_acked ≡ false → s.fin_sent ≡ false

abbrev pub FollowsAt : Tcb → Type 0
FollowsAt e = Follows e.name e.receiving.fin e.sending

-- text and FIN
newly : (f' f : Bool) → (f' && not f) ≡ true → (f ≡ false) × (f' ≡ true)
newly true false h = (refl, refl)
newly true true h = absurd (false≢true h)
newly false f h = absurd (false≢true h)

still : (f' f : Bool) → (f ≡ true → f' ≡ true) → (f' && not f) ≡ false → f ≡ f'
still true true stays h = refl
still true false stays h = absurd (false≢true (sym h))
still false true stays h = sym (stays refl)
still false false stays h = refl

pub stays_taken : (r : Receiving) (z : ℤ) (text : List ℕ) (fin : Bool) → r.fin ≡ true → (with_segment r z text fin).fin ≡ true
unfolding with_came
stays_taken r z text fin h = fin_stays (taken r) (receive_edge r) r.fin r.early z text fin h

text_follows : (e : Tcb) (p : Segment) → e.sending.syn_acked ≡ true → FollowsAt e → FollowsAt (with_text_and_fin e p)
unfolding with_text_and_fin
text_follows e p is h =
    let s : Sending = e.sending in
    let taking : Tcb = record e { receiving = with_segment e.receiving (first e p) p.payload (has_fin p) } in
    let f : Bool = e.receiving.fin in
    let f' : Bool = taking.receiving.fin in
    holds_if (λ (t : Tcb). FollowsAt t) (f' && not f) (entering (after_fin e.name) taking) taking
    (λ n. let k = newly f' f n in
    record { placed = placed_fin e.name s.syn_acked s.closed f f' (fin_acked s) is k.0 k.1 h.placed; ends = h.ends; order = h.order; unsent = h.unsent })
    (λ n. subst (λ (b : Bool). Follows e.name b s) (still f' f (stays_taken e.receiving (first e p) p.payload (has_fin p)) n) h)

-- an acknowledgement of the own FIN
stays_acked : (f : Bool) (una sent : ℕ) (ack : ℤ) → (f && una == sent) ≡ true → (f && (if is_new_ack una sent ack then nat_abs ack else una) == sent) ≡ true
stays_acked true una sent ack h = grind (arith, ints)
stays_acked false una sent ack h = absurd (false≢true h)

acked_follows : (e : Tcb) (p : Segment) (c : Congestion) (t : Timing) (retransmission_due : Bool) → FollowsAt e
    → FollowsAt (with_fin_acked (used_with e p c t retransmission_due))
unfolding with_fin_acked acknowledged
acked_follows e p c t retransmission_due h =
    let s : Sending = e.sending in
    let m : Tcb = used_with e p c t retransmission_due in
    let order : m.sending.una ≤ s.sent = new_within s.una s.sent (ack_at e p) h.order in
    let stays : fin_acked s ≡ true → fin_acked m.sending ≡ true = stays_acked s.fin_sent s.una s.sent (ack_at e p) in
    holds_if (λ (t : Tcb). FollowsAt t) (fin_acked m.sending) (entering (after_fin_acked e.name) m) m
    (λ is. record {
      placed = placed_acked e.name s.syn_acked s.closed e.receiving.fin (fin_acked s) (fin_acked m.sending) is h.placed;
      ends = h.ends;
      order = order;
      unsent = h.unsent;
    })
    (λ none. record {
      placed = placed_unacked e.name s.syn_acked s.closed e.receiving.fin (fin_acked s) (fin_acked m.sending) stays none h.placed;
      ends = h.ends;
      order = order;
      unsent = h.unsent;
    })

acked_syn_acked : (e : Tcb) (p : Segment) (c : Congestion) (t : Timing) (retransmission_due : Bool)
    → (with_fin_acked (used_with e p c t retransmission_due)).sending.syn_acked ≡ e.sending.syn_acked
unfolding with_fin_acked acknowledged
acked_syn_acked e p c t retransmission_due =
    let m : Tcb = used_with e p c t retransmission_due in
    holds_if (λ (t : Tcb). t.sending.syn_acked ≡ e.sending.syn_acked) (fin_acked m.sending) (entering (after_fin_acked e.name) m) m (λ h. refl) (λ h. refl)

later_follows : (e : Tcb) (p : Segment) → e.sending.syn_acked ≡ true → FollowsAt e → FollowsAt (with_ack e p)
unfolding with_ack
later_follows e p is h =
    let m : Tcb = with_fin_acked (with_ack_used e p) in
    let used : m ≡ with_fin_acked (used_with e p (answered_at e p).congestion (answered_at e p).timing (with_ack_used e p).retransmission_due) = ap with_fin_acked (used_is e p) in
    holds_if (λ (t : Tcb). FollowsAt t) (is_ahead e.sending.sent (ack_at e p)) (with_ack_pending_if true e) (with_text_and_fin m p)
    (λ ahead. h)
    (λ near. text_follows m p (ap (λ (t : Tcb). t.sending.syn_acked) used ∙ acked_syn_acked e p _ _ _ ∙ is)
    (subst (λ (t : Tcb). FollowsAt t) (sym used) (acked_follows e p _ _ _ h)))

-- the acknowledgement of the SYN
first_follows : (e : Tcb) (p : Segment) → e.sending.syn_acked ≡ false → FollowsAt e → FollowsAt (with_first_ack e p)
unfolding with_first_ack with_reset_reply
first_follows e p none h =
    let s : Sending = e.sending in
    let m : Tcb = record e { name = after_syn_acked s.closed; sending = with_syn_acked s p.head.seq p.head.window } in
    let fin : e.receiving.fin ≡ false = placed_syn_unacked e.name s.syn_acked s.closed e.receiving.fin (fin_acked s) none h.placed in
    let unsent : s.fin_sent ≡ false = h.unsent none in
    holds_if (λ (t : Tcb). FollowsAt t) (int_eq (ack_at e p) (pos 0)) (with_text_and_fin m p) (with_reset_reply e p)
    (λ is. text_follows m p refl (record {
      placed = placed_syn_acked s.closed e.receiving.fin (s.fin_sent && 0 == 0) fin (ap (λ b. b && 0 == 0) unsent);
      ends = h.ends;
      order = omega arith;
      unsent = λ k. unsent;
    }))
    (λ less. h)

-- check by check
ack_follows : (e : Tcb) (p : Segment) → FollowsAt e → FollowsAt (check_ack e p)
unfolding check_ack
ack_follows e p h =
    holds_if (λ (t : Tcb). FollowsAt t) (has_ack p) (if e.sending.syn_acked then with_ack e p else with_first_ack e p) e
    (λ is. holds_if (λ (t : Tcb). FollowsAt t) e.sending.syn_acked (with_ack e p) (with_first_ack e p) (λ o. later_follows e p o h) (λ o. first_follows e p o h))
    (λ none. h)

syn_follows : (e : Tcb) (p : Segment) → FollowsAt e → FollowsAt (check_syn e p)
unfolding check_syn
syn_follows e p h =
    let m : Tcb = with_ack_pending_if (nat_lt 0 (length_of p)) e in
    holds_if (λ (t : Tcb). FollowsAt t) (has_syn p) (with_ack_pending_if true e) (check_ack m p) (λ is. h) (λ none. ack_follows m p h)

rst_follows : (e : Tcb) (p : Segment) → (has_rst p && int_eq (first e p) (pos (next e.receiving))) ≡ false → FollowsAt e → FollowsAt (check_rst e p)
unfolding check_rst
rst_follows e p unreset h =
    let at : Bool = int_eq (first e p) (pos (next e.receiving)) in
    holds_if (λ (t : Tcb). FollowsAt t) (has_rst p) (if at then with_reset e else with_ack_pending_if true e) (check_syn e p)
    (λ is. holds_if (λ (t : Tcb). FollowsAt t) at (with_reset e) (with_ack_pending_if true e)
    (λ k. absurd (false≢true (sym unreset ∙ (λ i. is i && k i)))) (λ k. h))
    (λ none. syn_follows e p h)

others_follow : (e : Tcb) (p : Segment) → (has_rst p && int_eq (first e p) (pos (next e.receiving))) ≡ false → FollowsAt e → FollowsAt (in_others e p)
unfolding in_others check_sequence with_time_wait_restarted
others_follow e p unreset h =
    let m : Tcb = with_time_wait_restarted e p in
    holds_if (λ (t : Tcb). FollowsAt t) (proceeds m p) (check_rst m p) (with_ack_pending_if (not (has_rst p)) m)
    (λ is. rst_follows m p unreset h) (λ none. h)

pub received_follows : (e : Tcb) (p : Segment) → has_begun e.name ≡ true → (has_rst p && int_eq (first e p) (pos (next e.receiving))) ≡ false → FollowsAt e
    → FollowsAt (received e p)
unfolding received
received_follows e p begun unreset h = subst (λ (t : Tcb). FollowsAt t) (sym (begun_is e.name e p begun)) (others_follow e p unreset h)

-- a tick
pub tick_follows : (e : Tcb) → FollowsAt e → FollowsAt (after_tick e)
unfolding after_tick timer_ticked waited
tick_follows e h =
    let s : Sending = e.sending in
    let placed = placed_waited e.name s.syn_acked s.closed e.receiving.fin (fin_acked s) (nat_lt e.wait 2) h.placed in
    let name : StateName = if is_time_wait e.name && nat_lt e.wait 2 then Closed else e.name in
    holds_if (λ (q : Sending). Follows name e.receiving.fin q) (expires s)
    (record s {
      congestion = congestion_expired s;
      timing = with_backoff (min 64 (2 * s.interval)) s.timing;
      interval = min 64 (2 * s.interval);
      rest = min 64 (2 * s.interval);
    })
    (record s { timing = with_tick s.timing; rest = s.rest - 1 })
    (λ k. record { placed = placed; ends = h.ends; order = h.order; unsent = h.unsent })
    (λ k. record { placed = placed; ends = h.ends; order = h.order; unsent = h.unsent })

-- the news of a turn
arrived_follows : (news : News) (e : Tcb) → has_begun e.name ≡ true → resets news e ≡ false → FollowsAt e → FollowsAt (arrived news e)
arrived_follows (Comes segment) e begun unreset h = received_follows e segment begun unreset h
arrived_follows (Logged kept) e begun unreset h = h
arrived_follows Ticks e begun unreset h = tick_follows e h
arrived_follows Begins e begun unreset h = h

-- the user's calls
call_follows : (call : Call) (e : Tcb) → FollowsAt e → FollowsAt (called call e)
call_follows (Reads n) e h = h
call_follows (Writes bytes) e h = record { placed = h.placed; ends = h.ends; order = h.order; unsent = h.unsent }
call_follows Closes e h =
    let s : Sending = e.sending in
    record {
      placed = placed_closing e.name s.syn_acked s.closed e.receiving.fin (fin_acked s) (λ k. h.ends (left_true s.fin_sent (s.una == s.sent) k)) h.placed;
      ends = λ k. refl;
      order = h.order;
      unsent = h.unsent;
    }

pub used_follows : (calls : List Call) (e : Tcb) → FollowsAt e → FollowsAt (used calls e)
used_follows [] e h = h
used_follows (call ∷ calls) e h = used_follows calls (called call e) (call_follows call e h)

-- what the flush sends: text where no FIN was sent, and the FIN above all that was acknowledged
acked_same : (P : Bool → Type 0) (f : Bool) (una sent n : ℕ) → (f ≡ true → n ≡ 0) → P (f && una == sent) → P (f && una == sent + n)
acked_same P true una sent n none h = let same : sent ≡ sent + n = omega (arith, none refl) in subst (λ (k : ℕ). P (una == k)) same h
acked_same P false una sent n none h = h

sent_follows : (name : StateName) (fin : Bool) (s : Sending) (n : ℕ) → (s.fin_sent ≡ true → n ≡ 0) → Follows name fin s → Follows name fin (with_sent s n)
sent_follows name fin s n none h = record {
  placed = acked_same (λ (a : Bool). IsPlaced name s.syn_acked s.closed fin a) s.fin_sent s.una s.sent n none h.placed;
  ends = h.ends;
  order = omega (arith, h.order);
  unsent = h.unsent;
}

above : (una sent : ℕ) → una ≤ sent → (una == sent + 1) ≡ false
above una sent order = grind arith

fin_follows : (name : StateName) (fin : Bool) (s : Sending) → s.syn_acked ≡ true → s.closed ≡ true → s.fin_sent ≡ false → Follows name fin s
    → Follows name fin (with_fin_sent s)
fin_follows name fin s is ends none h =
    let before : fin_acked s ≡ false = ap (λ b. b && s.una == s.sent) none in
    let after : fin_acked (with_fin_sent s) ≡ false = above s.una s.sent h.order in
    record {
      placed = subst (λ (a : Bool). IsPlaced name s.syn_acked s.closed fin a) (before ∙ sym after) h.placed;
      ends = λ k. ends;
      order = omega (arith, h.order);
      unsent = λ k. absurd (false≢true (sym k ∙ is));
    }

pub none_behind : (b o f : Bool) (n : ℕ) → f ≡ true → (if b then (if o && not f then n else 0) else 0) ≡ 0
none_behind true true true n h = refl
none_behind true false true n h = refl
none_behind false o true n h = refl
none_behind b o false n h = absurd (false≢true h)

-- so to the end of a turn
steps_follow : (name : StateName) (fin begun pt pf : Bool) (s : Sending) → (pt ≡ true → s.fin_sent ≡ false)
    → (pf ≡ true → (s.syn_acked ≡ true) × (s.closed ≡ true) × (s.fin_sent ≡ false)) → Follows name fin s → Follows name fin (after_steps begun pt pf s)
steps_follow name fin begun pt pf s unsent ends h =
    let P : Sending → Type 0 = λ q. Follows name fin q in
    let ended : Sending = if pf then with_fin_sent s else s in
    let probed : Sending = if pt then with_sent s 1 else ended in
    let n : ℕ = if begun then sendable probed else 0 in
    let texted : Sending = with_sent probed n in
    let probed_follows : Follows name fin probed =
    holds_if P pt (with_sent s 1) ended
    (λ k. sent_follows name fin s 1 (λ f. absurd (false≢true (sym (unsent k) ∙ f))) h)
    (λ k. holds_if P pf (with_fin_sent s) s (λ q. fin_follows name fin s (ends q).0 (ends q).1 (ends q).2 h) (λ q. h)) in
    let texted_follows : Follows name fin texted =
    sent_follows name fin probed n
    (none_behind begun probed.syn_acked probed.fin_sent (min (probed.una + length probed.held) (send_edge probed) - probed.sent)) probed_follows in
    let o : Bool = texted.syn_acked in
    let c : Bool = texted.closed in
    let f : Bool = not texted.fin_sent in
    let all : Bool = texted.sent == texted.una + length texted.held in
    let room : Bool = nat_lt texted.sent (send_edge texted) in
    holds_if P (begun && sends_fin texted) (with_fin_sent texted) texted
    (λ k.
    let sends : (o && c && f) ≡ true = left_true (o && c && f) all (left_true (o && c && f && all) room (right_true begun (sends_fin texted) k)) in
    fin_follows name fin texted (left_true o c (left_true (o && c) f sends)) (right_true o c (left_true (o && c) f sends))
    (not_true texted.fin_sent (right_true (o && c) f sends)) texted_follows)
    (λ k. texted_follows)

timed_follows : (name : StateName) (fin runs : Bool) (s : Sending) → Follows name fin s → Follows name fin (timed runs s)
timed_follows name fin true s h =
    holds_if (λ (q : Sending). Follows name fin q) (s.rest == 0) (record s { interval = s.timing.base; rest = s.timing.base }) s
    (λ k. record { placed = h.placed; ends = h.ends; order = h.order; unsent = h.unsent }) (λ k. h)
timed_follows name fin false s h = record { placed = h.placed; ends = h.ends; order = h.order; unsent = h.unsent }

unit_follows : (name : StateName) (fin : Bool) (place : ℕ) (s : Sending) → Follows name fin s → Follows name fin (with_unit_timed place s)
unit_follows name fin place s h = record { placed = h.placed; ends = h.ends; order = h.order; unsent = h.unsent }

pub flush_follows : (u : Tcb) → FollowsAt u → FollowsAt (flushed u)
unfolding flushed with_turn_ended with_advertised after_full with_timed with_fin_out with_text_sent with_probe
flush_follows u h =
    let s : Sending = u.sending in
    let b : Bool = has_begun u.name in
    let p : Bool = u.probe && b && s.syn_acked in
    let f : Bool = not s.fin_sent in
    let waits : Bool = nat_lt (s.sent - s.una) (length s.held) in
    timed_follows u.name u.receiving.fin _ (after_full u).sending
    (unit_follows u.name u.receiving.fin (in_flight (with_probe u).sending) (after_steps b (probes_text u) (probes_fin u) s)
    (steps_follow u.name u.receiving.fin b (probes_text u) (probes_fin u) s
    (λ k. not_true s.fin_sent (right_true p f (left_true (p && f) waits k)))
    (λ k. let on : (p && f) ≡ true = left_true (p && f) (not waits) (left_true (p && f && not waits) s.closed k) in (
      right_true (u.probe && b) s.syn_acked (left_true p f on),
      right_true (p && f && not waits) s.closed k,
      not_true s.fin_sent (right_true p f on),
    )) h))

-- between two turns
unsent_of : (f : Bool) (sent : ℕ) → (f ≡ true → 1 ≤ sent) → sent ≡ 0 → f ≡ false
unsent_of true sent last none = absurd (omega (arith, last refl, none))
unsent_of false sent last none = refl

between_follows : (e : Tcb) → has_begun e.name ≡ true → IsBetweenTurns e → IsNamedRightly e → FollowsAt e
between_follows e begun between named =
    let s : Sending = e.sending in
    record {
      placed = placed_of e.name s.syn_acked s.closed e.receiving.fin (fin_acked s) begun named;
      ends = λ k. (between.fin_last k).0;
      order = between.bounds.order;
      unsent = λ k. unsent_of s.fin_sent s.sent (λ f. (between.fin_last f).1) (between.bounds.syn_unacked k);
    }

-- a RST at the next number is acceptable, with its length of 0
pub acceptable_at : (n w : ℕ) (z : ℤ) → int_eq z (pos n) ≡ true → is_acceptable n w z 0 ≡ true
acceptable_at n w z h = grind (arith, ints)

reset_is : (e : Tcb) (p : Segment) → has_rst p ≡ true → int_eq (first e p) (pos (next e.receiving)) ≡ true → in_others e p ≡ with_reset (with_time_wait_restarted e p)
unfolding in_others check_sequence check_rst with_time_wait_restarted check.accepts
reset_is e p is at =
    let m : Tcb = with_time_wait_restarted e p in
    let len : length_of p ≡ 0 = ap (λ b. if b then 0 else (if has_syn p then 1 else length p.payload + one_if (has_fin p))) is in
    let acceptable : is_acceptable (next e.receiving) (window e.receiving) (first e p) (length_of p) ≡ true =
    ap (is_acceptable (next e.receiving) (window e.receiving) (first e p)) len ∙ acceptable_at (next e.receiving) (window e.receiving) (first e p) at in
    let at_edge : Bool = is_at_right_edge (next e.receiving) (window e.receiving) (first e p) (length_of p) in
    (λ i. if (acceptable i || at_edge) || check.is_allowed m p then (if is i then (if at i then with_reset m else with_ack_pending_if true m) else check_syn m p) else with_ack_pending_if (not (has_rst p)) m)

arrived_reset : (news : News) (e : Tcb) → has_begun e.name ≡ true → resets news e ≡ true
    → (ticks : ℕ) × (arrived news e ≡ with_reset (record e { wait = ticks }))
unfolding received with_time_wait_restarted
arrived_reset (Comes p) e begun h =
    let at : Bool = int_eq (first e p) (pos (next e.receiving)) in
    ((with_time_wait_restarted e p).wait, begun_is e.name e p begun ∙ reset_is e p (left_true (has_rst p) at h) (right_true (has_rst p) at h))
arrived_reset (Logged kept) e begun h = absurd (false≢true h)
arrived_reset Ticks e begun h = absurd (false≢true h)
arrived_reset Begins e begun h = absurd (false≢true h)

pub reset_closed : (news : News) (calls : List Call) (e : Tcb) → has_begun e.name ≡ true → resets news e ≡ true → (before_flush news calls e).name ≡ Closed
reset_closed news calls e begun h = closed_by_calls calls (arrived news e) (ap (λ (t : Tcb). t.name) (arrived_reset news e begun h).1)

pub flushed_name : (u : Tcb) → (flushed u).name ≡ u.name
unfolding flushed with_turn_ended with_advertised after_full with_timed with_fin_out with_text_sent with_probe
flushed_name u = refl

closed_named : (e : Tcb) → e.name ≡ Closed → IsNamedRightly e
closed_named e h = subst (λ (n : StateName). IsNamed n e.sending.syn_acked e.sending.closed e.receiving.fin (fin_acked e.sending)) (sym h) tt

-- a turn keeps the state right
pub named_at : (e : Tcb) → FollowsAt e → IsNamedRightly e
named_at e h = named_of e.name e.sending.syn_acked e.sending.closed e.receiving.fin (fin_acked e.sending) h.placed

pub unreset_follows : (news : News) (calls : List Call) (e : Tcb) → has_begun e.name ≡ true → IsBetweenTurns e → IsNamedRightly e → resets news e ≡ false
    → FollowsAt (before_flush news calls e)
unreset_follows news calls e begun between named unreset =
    used_follows calls (arrived news e) (arrived_follows news e begun unreset (between_follows e begun between named))

pub named_law : (news : News) (calls : List Call) (e : Tcb) → has_begun e.name ≡ true → IsBetweenTurns e → IsNamedRightly e → IsNamedRightly (turned news calls e)
named_law news calls e begun between named =
    by_cases (resets news e)
    (λ h. closed_named (turned news calls e) (flushed_name (before_flush news calls e) ∙ reset_closed news calls e begun h))
    (λ h. named_at (turned news calls e) (flush_follows (before_flush news calls e) (unreset_follows news calls e begun between named h)))

-- it is CLOSED by a RST or once both FINs are through
pub ending_law : (news : News) (calls : List Call) (e : Tcb) → has_begun e.name ≡ true → IsBetweenTurns e → IsNamedRightly e
    → has_begun (before_flush news calls e).name ≡ false → (resets news e ≡ true) ⊎ (is_over (before_flush news calls e) ≡ true)
ending_law news calls e begun between named ended =
    let u : Tcb = before_flush news calls e in
    by_cases (resets news e) (λ h. inl h)
    (λ h. inr (over_of u.name u.sending.syn_acked u.sending.closed u.receiving.fin (fin_acked u.sending) ended (unreset_follows news calls e begun between named h).placed))

-- a SYN's turn leaves SYN-RECEIVED
begun_follows : (e : Tcb) (iss limit : ℕ) (syn : Segment) → IsListening iss limit e → FollowsAt (begun e syn)
unfolding begun
begun_follows e iss limit syn l =
    let syn_acked : e.sending.syn_acked ≡ false = ap (λ (s : Sending). s.syn_acked) l.sending in
    let fin : e.receiving.fin ≡ false = ap (λ (r : Receiving). r.fin) l.receiving in
    let una : e.sending.una ≡ 0 = ap (λ (s : Sending). s.una) l.sending in
    let unsent : e.sending.fin_sent ≡ false = ap (λ (s : Sending). s.fin_sent) l.sending in
    record { placed = (syn_acked, fin); ends = λ k. absurd (false≢true (sym unsent ∙ k)); order = omega (arith, una); unsent = λ k. unsent }

pub begun_named_law : (e : Tcb) (iss limit : ℕ) (syn : Segment) (calls : List Call) → IsListening iss limit e → is_syn syn ≡ true
    → IsNamedRightly (turned (Comes syn) calls e)
begun_named_law e iss limit syn calls l is =
    let m : Tcb = received e syn in
    let P : Tcb → Type 0 = λ t. FollowsAt t in
    let h : FollowsAt m = subst P (sym (begun_by e syn l.name is)) (begun_follows e iss limit syn l) in
    named_at (flushed (used calls m)) (flush_follows (used calls m) (used_follows calls m h))

-- no other check resets
text_resets : (e : Tcb) (p : Segment) → (with_text_and_fin e p).reset ≡ e.reset
unfolding with_text_and_fin
text_resets e p =
    let taking : Tcb = record e { receiving = with_segment e.receiving (first e p) p.payload (has_fin p) } in
    holds_if (λ (t : Tcb). t.reset ≡ e.reset) (taking.receiving.fin && not e.receiving.fin) (entering (after_fin e.name) taking) taking (λ h. refl) (λ h. refl)

acked_resets : (e : Tcb) → (with_fin_acked e).reset ≡ e.reset
unfolding with_fin_acked
acked_resets e =
    holds_if (λ (t : Tcb). t.reset ≡ e.reset) (fin_acked e.sending) (entering (after_fin_acked e.name) e) e (λ h. refl) (λ h. refl)

later_resets : (e : Tcb) (p : Segment) → (with_ack e p).reset ≡ e.reset
unfolding with_ack with_ack_used
later_resets e p =
    let m : Tcb = with_ack_used e p in
    holds_if (λ (t : Tcb). t.reset ≡ e.reset) (is_ahead e.sending.sent (ack_at e p)) (with_ack_pending_if true e) (with_text_and_fin (with_fin_acked m) p)
    (λ h. refl) (λ h. text_resets (with_fin_acked m) p ∙ acked_resets m)

first_resets : (e : Tcb) (p : Segment) → (with_first_ack e p).reset ≡ e.reset
unfolding with_first_ack with_reset_reply
first_resets e p =
    let m : Tcb = record e { name = after_syn_acked e.sending.closed; sending = with_syn_acked e.sending p.head.seq p.head.window } in
    holds_if (λ (t : Tcb). t.reset ≡ e.reset) (int_eq (ack_at e p) (pos 0)) (with_text_and_fin m p) (with_reset_reply e p) (λ h. text_resets m p) (λ h. refl)

ack_resets : (e : Tcb) (p : Segment) → (check_ack e p).reset ≡ e.reset
unfolding check_ack
ack_resets e p =
    let P : Tcb → Type 0 = λ t. t.reset ≡ e.reset in
    holds_if P (has_ack p) (if e.sending.syn_acked then with_ack e p else with_first_ack e p) e
    (λ is. holds_if P e.sending.syn_acked (with_ack e p) (with_first_ack e p) (λ o. later_resets e p) (λ o. first_resets e p))
    (λ none. refl)

syn_resets : (e : Tcb) (p : Segment) → (check_syn e p).reset ≡ e.reset
unfolding check_syn
syn_resets e p =
    let m : Tcb = with_ack_pending_if (nat_lt 0 (length_of p)) e in
    holds_if (λ (t : Tcb). t.reset ≡ e.reset) (has_syn p) (with_ack_pending_if true e) (check_ack m p) (λ is. refl) (λ none. ack_resets m p)

rst_resets : (e : Tcb) (p : Segment) → (has_rst p && int_eq (first e p) (pos (next e.receiving))) ≡ false → (check_rst e p).reset ≡ e.reset
unfolding check_rst
rst_resets e p unreset =
    let at : Bool = int_eq (first e p) (pos (next e.receiving)) in
    let P : Tcb → Type 0 = λ t. t.reset ≡ e.reset in
    holds_if P (has_rst p) (if at then with_reset e else with_ack_pending_if true e) (check_syn e p)
    (λ is. holds_if P at (with_reset e) (with_ack_pending_if true e) (λ k. absurd (false≢true (sym unreset ∙ (λ i. is i && k i)))) (λ k. refl))
    (λ none. syn_resets e p)

others_reset : (e : Tcb) (p : Segment) → (has_rst p && int_eq (first e p) (pos (next e.receiving))) ≡ false → (in_others e p).reset ≡ e.reset
unfolding in_others check_sequence with_time_wait_restarted
others_reset e p unreset =
    let m : Tcb = with_time_wait_restarted e p in
    holds_if (λ (t : Tcb). t.reset ≡ e.reset) (proceeds m p) (check_rst m p) (with_ack_pending_if (not (has_rst p)) m)
    (λ is. rst_resets m p unreset) (λ none. refl)

unreset_same : (news : News) (e : Tcb) → has_begun e.name ≡ true → resets news e ≡ false → (arrived news e).reset ≡ e.reset
unfolding received after_tick timer_ticked waited
unreset_same (Comes p) e begun h = ap (λ (t : Tcb). t.reset) (begun_is e.name e p begun) ∙ others_reset e p h
unreset_same (Logged kept) e begun h = refl
unreset_same Ticks e begun h = refl
unreset_same Begins e begun h = refl

-- parts that no call of the user touches
pub used_keeps : {X : Type 0} (f : Tcb → X) → ((call : Call) (t : Tcb) → f (called call t) ≡ f t) → (calls : List Call) (t : Tcb) → f (used calls t) ≡ f t
used_keeps f same [] t = refl
used_keeps f same (call ∷ calls) t = used_keeps f same calls (called call t) ∙ same call t

pub call_resets : (call : Call) (t : Tcb) → (called call t).reset ≡ t.reset
call_resets (Reads n) t = refl
call_resets (Writes bytes) t = refl
call_resets Closes t = refl

pub reset_law : (news : News) (calls : List Call) (e : Tcb) → has_begun e.name ≡ true → (before_flush news calls e).reset ≡ (e.reset || resets news e)
reset_law news calls e begun =
    used_keeps (λ (t : Tcb). t.reset) call_resets calls (arrived news e)
    ∙ by_cases (resets news e)
    (λ h. ap (λ (t : Tcb). t.reset) (arrived_reset news e begun h).1 ∙ or_true e.reset ∙ ap (λ b. e.reset || b) (sym h))
    (λ h. unreset_same news e begun h ∙ or_false e.reset ∙ ap (λ b. e.reset || b) (sym h))

-- from a CLOSED endpoint that has no RST to answer with nothing leaves
pub call_answers : (call : Call) (t : Tcb) → (called call t).reset_reply ≡ t.reset_reply
call_answers (Reads n) t = refl
call_answers (Writes bytes) t = refl
call_answers Closes t = refl

pub silent_law : (news : News) (calls : List Call) (e : Tcb) → has_begun e.name ≡ true → IsBetweenTurns e → resets news e ≡ true
    → ((before_flush news calls e).name ≡ Closed) × (sent_in news calls e ≡ [])
silent_law news calls e begun between h =
    let u : Tcb = before_flush news calls e in
    let closed : u.name ≡ Closed = reset_closed news calls e begun h in
    let none : u.reset_reply ≡ None =
    used_keeps (λ (t : Tcb). t.reset_reply) call_answers calls (arrived news e) ∙ ap (λ (t : Tcb). t.reset_reply) (arrived_reset news e begun h).1 ∙ between.reset_reply in
    (closed, closed_sends u closed ∙ ap reset_reply_segments none)
