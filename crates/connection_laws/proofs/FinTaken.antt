-- A FIN that is taken leaves a connection open: CLOSED comes only where it was taken before.
use Rattle.std.proofs.Common.{◌≡◌, List, Bool, true, false, not, refl, sym, subst, ◌∙◌}
use Rattle.std.specs.Prelude.{pos, ◌&&◌, ◌||◌, nat_lt, if◌then◌else◌}
use Rattle.std.proofs.lemmas.Bool.{false≢true}
use Rattle.tcp_rules.specs.Arrival.{int_eq}
use Rattle.seq_arith.specs.Offset.{length_of}
use Rattle.seq_arith.specs.Packet.{Segment, has_fin, has_syn, has_rst, has_ack}
use Rattle.ft_model.specs.News.{News}
use Rattle.ft_model.specs.News.News.{Comes, Logged, Ticks, Begins}
use Rattle.tcp_buffers.specs.Near.{is_ahead}
use Rattle.tcp_endpoint.specs.declared.states.StateName.{StateName}
use Rattle.tcp_endpoint.specs.declared.states.StateName.TheVariants.{Closed, Listen, SynSent, SynReceived, Established, FinWait1, FinWait2, CloseWait, Closing, LastAck, TimeWait}
use Rattle.tcp_endpoint.specs.States.{after_syn_acked, after_fin, after_fin_acked, has_begun}
use Rattle.tcp_endpoint.specs.ReceiveHalf.{next, with_segment}
use Rattle.tcp_endpoint.specs.SendHalf.{with_syn_acked, fin_acked}
use Rattle.tcp_endpoint.specs.Tcb.{Tcb}
use Rattle.tcp_endpoint.specs.Arrival.{first, ack_at, with_ack_pending_if, with_reset, entering, with_reset_reply, with_text_and_fin, with_fin_acked, with_first_ack, with_ack_used, with_ack, check_ack, check_syn, check_rst, with_time_wait_restarted, accepts, is_allowed, check_sequence, in_others, received}
use Rattle.tcp_endpoint.specs.UserCalls.{after_tick, timer_ticked, waited}
use Rattle.endpoint_laws.specs.Turn.{Call, MayUse, arrived, used}
use Rattle.endpoint_laws.specs.ConnectionEnd.{IsNamed, IsNamedRightly}
use Rattle.endpoint_laws.proofs.TakenLaw.{begun_is}
use Rattle.endpoint_laws.proofs.Calls.{IsUsed, used_is}
use Rattle.ft_io.proofs.Choices.{holds_if}

-- where the FIN is taken, the connection is open
abbrev IsOpenWith : Tcb → Type 0
IsOpenWith t = t.receiving.fin ≡ true → has_begun t.name ≡ true

-- where it isn't
not_taken : (t : Tcb) → t.receiving.fin ≡ false → IsOpenWith t
not_taken t h = λ k. absurd (false≢true (sym h ∙ k))

fin_begun : (name : StateName) → has_begun name ≡ true → has_begun (after_fin name) ≡ true
fin_begun Closed h = h
fin_begun Listen h = h
fin_begun SynSent h = h
fin_begun SynReceived h = refl
fin_begun Established h = refl
fin_begun FinWait1 h = refl
fin_begun FinWait2 h = refl
fin_begun CloseWait h = refl
fin_begun Closing h = refl
fin_begun LastAck h = refl
fin_begun TimeWait h = refl

acked_begun : (name : StateName) (o c f a : Bool) → has_begun name ≡ true → IsNamed name o c f a → f ≡ false → has_begun (after_fin_acked name) ≡ true
acked_begun Closed o c f a begun h off = begun
acked_begun Listen o c f a begun h off = begun
acked_begun SynSent o c f a begun h off = begun
acked_begun SynReceived o c f a begun h off = refl
acked_begun Established o c f a begun h off = refl
acked_begun FinWait1 o c f a begun h off = refl
acked_begun FinWait2 o c f a begun h off = refl
acked_begun CloseWait o c f a begun h off = refl
acked_begun Closing o c f a begun h off = refl
acked_begun LastAck o c f a begun h off = absurd (false≢true (sym off ∙ h.2))
acked_begun TimeWait o c f a begun h off = refl

syn_acked_begun : (closed : Bool) → has_begun (after_syn_acked closed) ≡ true
syn_acked_begun true = refl
syn_acked_begun false = refl

newly : (f' f : Bool) → f ≡ false → (f' && not f) ≡ false → f' ≡ false
newly true true off h = absurd (false≢true (sym off))
newly true false off h = absurd (false≢true (sym h))
newly false f off h = refl

text_opens : (e : Tcb) (p : Segment) → has_begun e.name ≡ true → e.receiving.fin ≡ false → IsOpenWith (with_text_and_fin e p)
unfolding with_text_and_fin
text_opens e p begun off =
    let taking : Tcb = record e { receiving = with_segment e.receiving (first e p) p.payload (has_fin p) } in
    holds_if IsOpenWith (taking.receiving.fin && not e.receiving.fin) (entering (after_fin e.name) taking) taking
    (λ h k. fin_begun e.name begun) (λ h. not_taken taking (newly taking.receiving.fin e.receiving.fin off h))

later_opens : (e : Tcb) (p : Segment) → has_begun e.name ≡ true → has_begun (after_fin_acked e.name) ≡ true → e.receiving.fin ≡ false → IsOpenWith (with_ack e p)
unfolding with_ack with_ack_used with_fin_acked
later_opens e p begun acked off =
    let m : Tcb = with_ack_used e p in
    holds_if IsOpenWith (is_ahead e.sending.sent (ack_at e p)) (with_ack_pending_if true e) (with_text_and_fin (with_fin_acked m) p)
    (λ h. not_taken (with_ack_pending_if true e) off)
    (λ h. holds_if (λ (t : Tcb). IsOpenWith (with_text_and_fin t p)) (fin_acked m.sending) (entering (after_fin_acked m.name) m) m
    (λ k. text_opens (entering (after_fin_acked m.name) m) p acked off) (λ k. text_opens m p begun off))

first_opens : (e : Tcb) (p : Segment) → e.receiving.fin ≡ false → IsOpenWith (with_first_ack e p)
unfolding with_first_ack with_reset_reply
first_opens e p off =
    let m : Tcb = record e { name = after_syn_acked e.sending.closed; sending = with_syn_acked e.sending p.head.seq p.head.window } in
    holds_if IsOpenWith (int_eq (ack_at e p) (pos 0)) (with_text_and_fin m p) (with_reset_reply e p)
    (λ h. text_opens m p (syn_acked_begun e.sending.closed) off) (λ h. not_taken (with_reset_reply e p) off)

ack_opens : (e : Tcb) (p : Segment) → has_begun e.name ≡ true → has_begun (after_fin_acked e.name) ≡ true → e.receiving.fin ≡ false → IsOpenWith (check_ack e p)
unfolding check_ack
ack_opens e p begun acked off =
    holds_if IsOpenWith (has_ack p) (if e.sending.syn_acked then with_ack e p else with_first_ack e p) e
    (λ is. holds_if IsOpenWith e.sending.syn_acked (with_ack e p) (with_first_ack e p) (λ o. later_opens e p begun acked off) (λ o. first_opens e p off))
    (λ none. not_taken e off)

rst_opens : (e : Tcb) (p : Segment) → has_begun e.name ≡ true → has_begun (after_fin_acked e.name) ≡ true → e.receiving.fin ≡ false → IsOpenWith (check_rst e p)
unfolding check_rst check_syn
rst_opens e p begun acked off =
    let at : Bool = int_eq (first e p) (pos (next e.receiving)) in
    let m : Tcb = with_ack_pending_if (nat_lt 0 (length_of p)) e in
    holds_if IsOpenWith (has_rst p) (if at then with_reset e else with_ack_pending_if true e) (if has_syn p then with_ack_pending_if true e else check_ack m p)
    (λ is. holds_if IsOpenWith at (with_reset e) (with_ack_pending_if true e) (λ k. not_taken (with_reset e) off) (λ k. not_taken (with_ack_pending_if true e) off))
    (λ none. holds_if IsOpenWith (has_syn p) (with_ack_pending_if true e) (check_ack m p) (λ s. not_taken (with_ack_pending_if true e) off) (λ s. ack_opens m p begun acked off))

segment_opens : (e : Tcb) (p : Segment) → has_begun e.name ≡ true → has_begun (after_fin_acked e.name) ≡ true → e.receiving.fin ≡ false → IsOpenWith (in_others e p)
unfolding in_others check_sequence with_time_wait_restarted
segment_opens e p begun acked off =
    let m : Tcb = with_time_wait_restarted e p in
    holds_if IsOpenWith (accepts m p || is_allowed m p) (check_rst m p) (with_ack_pending_if (not (has_rst p)) m)
    (λ is. rst_opens m p begun acked off) (λ none. not_taken (with_ack_pending_if (not (has_rst p)) m) off)

opens_with_news : (news : News) (e : Tcb) → has_begun e.name ≡ true → IsNamedRightly e → e.receiving.fin ≡ false → IsOpenWith (arrived news e)
unfolding received after_tick timer_ticked waited
opens_with_news (Comes p) e begun named off =
    subst IsOpenWith (sym (begun_is e.name e p begun))
    (segment_opens e p begun (acked_begun e.name e.sending.syn_acked e.sending.closed e.receiving.fin (fin_acked e.sending) begun named off) off)
opens_with_news (Logged kept) e begun named off = not_taken e off
opens_with_news Ticks e begun named off = λ k. absurd (false≢true (sym off ∙ k))
opens_with_news Begins e begun named off = not_taken e off

pub taken_before : (news : News) (calls : List Call) (e : Tcb) → has_begun e.name ≡ true → IsNamedRightly e → MayUse calls (arrived news e)
    → (used calls (arrived news e)).receiving.fin ≡ true → has_begun (used calls (arrived news e)).name ≡ false → e.receiving.fin ≡ true
taken_before news calls e begun named may fin ended = by_case e.receiving.fin refl
  where
    by_case : (b : Bool) → e.receiving.fin ≡ b → e.receiving.fin ≡ true
    by_case true h = h
    by_case false h =
        let a : IsUsed (arrived news e) (used calls (arrived news e)) = used_is calls (arrived news e) may in
        absurd (false≢true (sym ended ∙ a.begun (opens_with_news news e begun named h (sym a.fin ∙ fin))))
