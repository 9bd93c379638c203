-- What answers a segment is a RST, and nothing is taken of a segment that is answered.
use Rattle.std.proofs.Common.{◌≡◌, ◌⊎◌, inl, inr, ℕ, Bool, true, false, not, Option, None, refl, sym, ◌∙◌}
use Rattle.std.specs.Prelude.{pos, nat_lt, if◌then◌else◌}
use Rattle.std.specs.List.{AllByRecursion}
use Rattle.std.proofs.lemmas.Bool.{false≢true}
use Rattle.tcp_rules.specs.Arrival.{int_eq}
use Rattle.seq_arith.specs.Offset.{length_of}
use Rattle.seq_arith.specs.Packet.{Segment, has_syn, has_rst, has_ack}
use Rattle.segment_codec.specs.declared.Head.{Head}
use Rattle.ft_model.specs.News.{News}
use Rattle.ft_model.specs.News.News.{Comes, Logged, Ticks, Begins}
use Rattle.tcp_endpoint.specs.declared.states.StateName.{StateName}
use Rattle.tcp_endpoint.specs.declared.states.StateName.TheVariants.{Closed, Listen, SynSent, SynReceived, Established, FinWait1, FinWait2, CloseWait, Closing, LastAck, TimeWait}
use Rattle.tcp_endpoint.specs.States.{after_syn_acked, has_begun}
use Rattle.tcp_endpoint.specs.ReceiveHalf.{next}
use Rattle.tcp_endpoint.specs.SendHalf.{with_syn_acked}
use Rattle.tcp_endpoint.specs.Tcb.{Tcb}
use Rattle.tcp_endpoint.specs.Arrival.{first, ack_at, with_ack_pending_if, with_reset, with_reset_reply, with_reset_reply_without_ack, begun, answered, in_closed, in_listen, in_syn_sent, with_text_and_fin, with_first_ack, with_ack, check_ack, check_syn, check_rst, with_time_wait_restarted, check_sequence, in_others, received_in, received}
use Rattle.tcp_endpoint.specs.Output.{reset_reply_segments}
use Rattle.tcp_endpoint.specs.UserCalls.{after_tick, timer_ticked, waited}
use Rattle.endpoint_laws.specs.Turn.{arrived}
use Rattle.endpoint_laws.proofs.TakenLaw.{proceeds}
use Rattle.endpoint_laws.proofs.ResetReply.{Beside, apart_beside, reset_reply_apart, later_part}
use Rattle.ft_io.proofs.Choices.{holds_if}

abbrev pub IsRst : Option Head → Type 0
IsRst reset_reply = AllByRecursion (λ segment. has_rst segment ≡ true) (reset_reply_segments reset_reply)

-- .. of an endpoint that had taken so much
abbrev pub Refuses : (taken : ℕ) → Tcb → Type 0
Refuses taken t = (t.reset_reply ≡ None) ⊎ (IsRst t.reset_reply × (next t.receiving ≡ taken))

-- before the segment
abbrev Came : (taken : ℕ) → Tcb → Type 0
Came taken e = (e.reset_reply ≡ None) × (next e.receiving ≡ taken)

beside : Beside (λ (t : Tcb). t.reset_reply)
beside = apart_beside (λ (t : Tcb). t.reset_reply) reset_reply_apart

by_refusing : (taken : ℕ) (e : Tcb) (p : Segment) → Came taken e → Refuses taken (with_reset_reply e p)
unfolding with_reset_reply
by_refusing taken e p c = inr ((refl, tt), c.1)

by_refusing_without_ack : (taken : ℕ) (e : Tcb) (p : Segment) → Came taken e → Refuses taken (with_reset_reply_without_ack e p)
unfolding with_reset_reply_without_ack
by_refusing_without_ack taken e p c = inr ((refl, tt), c.1)

by_ack : (taken : ℕ) (e : Tcb) (p : Segment) → Came taken e → Refuses taken (check_ack e p)
unfolding check_ack with_first_ack
by_ack taken e p c =
    let m : Tcb = record e { name = after_syn_acked e.sending.closed; sending = with_syn_acked e.sending p.head.seq p.head.window } in
    let P : Tcb → Type 0 = λ t. Refuses taken t in
    holds_if P (has_ack p) (if e.sending.syn_acked then with_ack e p else with_first_ack e p) e
    (λ a. holds_if P e.sending.syn_acked (with_ack e p) (with_first_ack e p)
    (λ o. inl (later_part (λ (t : Tcb). t.reset_reply) e p beside ∙ c.0))
    (λ o. holds_if P (int_eq (ack_at e p) (pos 0)) (with_text_and_fin m p) (with_reset_reply e p) (λ b. inl (beside.text m p ∙ c.0)) (λ b. by_refusing taken e p c)))
    (λ a. inl c.0)

by_syn : (taken : ℕ) (e : Tcb) (p : Segment) → Came taken e → Refuses taken (check_syn e p)
unfolding check_syn
by_syn taken e p c =
    let m : Tcb = with_ack_pending_if (nat_lt 0 (length_of p)) e in
    holds_if (λ (t : Tcb). Refuses taken t) (has_syn p) (with_ack_pending_if true e) (check_ack m p) (λ b. inl c.0) (λ b. by_ack taken m p c)

by_rst : (taken : ℕ) (e : Tcb) (p : Segment) → Came taken e → Refuses taken (check_rst e p)
unfolding check_rst
by_rst taken e p c =
    let at : Bool = int_eq (first e p) (pos (next e.receiving)) in
    let P : Tcb → Type 0 = λ t. Refuses taken t in
    holds_if P (has_rst p) (if at then with_reset e else with_ack_pending_if true e) (check_syn e p)
    (λ b. holds_if P at (with_reset e) (with_ack_pending_if true e) (λ k. inl c.0) (λ k. inl c.0)) (λ b. by_syn taken e p c)

by_others : (taken : ℕ) (e : Tcb) (p : Segment) → Came taken e → Refuses taken (in_others e p)
unfolding in_others check_sequence with_time_wait_restarted
by_others taken e p c =
    let m : Tcb = with_time_wait_restarted e p in
    holds_if (λ (t : Tcb). Refuses taken t) (proceeds m p) (check_rst m p) (with_ack_pending_if (not (has_rst p)) m) (λ b. by_rst taken m p c) (λ b. inl c.0)

-- CLOSED, LISTEN and SYN-SENT
by_closed : (taken : ℕ) (e : Tcb) (p : Segment) → Came taken e → Refuses taken (in_closed e p)
unfolding in_closed
by_closed taken e p c =
    let P : Tcb → Type 0 = λ t. Refuses taken t in
    holds_if P (has_rst p) e (if has_ack p then with_reset_reply e p else with_reset_reply_without_ack e p) (λ b. inl c.0)
    (λ b. holds_if P (has_ack p) (with_reset_reply e p) (with_reset_reply_without_ack e p) (λ a. by_refusing taken e p c) (λ a. by_refusing_without_ack taken e p c))

begun_reset_reply : (e : Tcb) (p : Segment) → ((begun e p).reset_reply ≡ e.reset_reply) × (next (begun e p).receiving ≡ next e.receiving)
unfolding begun
begun_reset_reply e p = (refl, refl)

by_listen : (taken : ℕ) (e : Tcb) (p : Segment) → Came taken e → Refuses taken (in_listen e p)
unfolding in_listen
by_listen taken e p c =
    let P : Tcb → Type 0 = λ t. Refuses taken t in
    holds_if P (has_rst p) e (if has_ack p then with_reset_reply e p else (if has_syn p then begun e p else e)) (λ b. inl c.0)
    (λ b. holds_if P (has_ack p) (with_reset_reply e p) (if has_syn p then begun e p else e) (λ a. by_refusing taken e p c)
    (λ a. holds_if P (has_syn p) (begun e p) e (λ s. inl ((begun_reset_reply e p).0 ∙ c.0)) (λ s. inl c.0)))

answered_reset_reply : (e : Tcb) (p : Segment) → ((answered e p).reset_reply ≡ e.reset_reply) × (next (answered e p).receiving ≡ next e.receiving)
unfolding answered
answered_reset_reply e p = (refl, refl)

by_syn_sent : (taken : ℕ) (e : Tcb) (p : Segment) → Came taken e → Refuses taken (in_syn_sent e p)
unfolding in_syn_sent
by_syn_sent taken e p c =
    let P : Tcb → Type 0 = λ t. Refuses taken t in
    let right : Tcb = if has_rst p then with_reset e else (if has_syn p then answered e p else e) in
    let wrong : Tcb = if has_rst p then e else with_reset_reply e p in
    holds_if P (has_ack p) (if int_eq (ack_at e p) (pos 0) then right else wrong) e
    (λ a. holds_if P (int_eq (ack_at e p) (pos 0)) right wrong
    (λ b. holds_if P (has_rst p) (with_reset e) (if has_syn p then answered e p else e) (λ r. inl c.0)
    (λ r. holds_if P (has_syn p) (answered e p) e (λ s. inl ((answered_reset_reply e p).0 ∙ c.0)) (λ s. inl c.0)))
    (λ b. holds_if P (has_rst p) e (with_reset_reply e p) (λ r. inl c.0) (λ r. by_refusing taken e p c)))
    (λ a. inl c.0)

by_state : (name : StateName) (taken : ℕ) (e : Tcb) (p : Segment) → Came taken e → Refuses taken (received_in name e p)
by_state Closed taken e p c = by_closed taken e p c
by_state Listen taken e p c = by_listen taken e p c
by_state SynSent taken e p c = by_syn_sent taken e p c
by_state SynReceived taken e p c = by_others taken e p c
by_state Established taken e p c = by_others taken e p c
by_state FinWait1 taken e p c = by_others taken e p c
by_state FinWait2 taken e p c = by_others taken e p c
by_state CloseWait taken e p c = by_others taken e p c
by_state Closing taken e p c = by_others taken e p c
by_state LastAck taken e p c = by_others taken e p c
by_state TimeWait taken e p c = by_others taken e p c

pub refuses_arrived : (news : News) (e : Tcb) → e.reset_reply ≡ None → Refuses (next e.receiving) (arrived news e)
unfolding received after_tick timer_ticked waited
refuses_arrived (Comes p) e none = by_state e.name (next e.receiving) e p (none, refl)
refuses_arrived (Logged kept) e none = inl none
refuses_arrived Ticks e none = inl none
refuses_arrived Begins e none = inl none

-- before the connection has begun nothing is taken
abbrev Same : Tcb → Tcb → Type 0
Same e t = next t.receiving ≡ next e.receiving

same_refusing : (e : Tcb) (p : Segment) → Same e (with_reset_reply e p) × Same e (with_reset_reply_without_ack e p)
unfolding with_reset_reply with_reset_reply_without_ack
same_refusing e p = (refl, refl)

same_by : (name : StateName) (e : Tcb) (p : Segment) → has_begun name ≡ false → Same e (received_in name e p)
unfolding in_closed in_listen in_syn_sent
same_by Closed e p h =
    holds_if (Same e) (has_rst p) e (if has_ack p then with_reset_reply e p else with_reset_reply_without_ack e p) (λ b. refl)
    (λ b. holds_if (Same e) (has_ack p) (with_reset_reply e p) (with_reset_reply_without_ack e p) (λ a. (same_refusing e p).0) (λ a. (same_refusing e p).1))
same_by Listen e p h =
    holds_if (Same e) (has_rst p) e (if has_ack p then with_reset_reply e p else (if has_syn p then begun e p else e)) (λ b. refl)
    (λ b. holds_if (Same e) (has_ack p) (with_reset_reply e p) (if has_syn p then begun e p else e) (λ a. (same_refusing e p).0)
    (λ a. holds_if (Same e) (has_syn p) (begun e p) e (λ s. (begun_reset_reply e p).1) (λ s. refl)))
same_by SynSent e p h =
    let right : Tcb = if has_rst p then with_reset e else (if has_syn p then answered e p else e) in
    let wrong : Tcb = if has_rst p then e else with_reset_reply e p in
    holds_if (Same e) (has_ack p) (if int_eq (ack_at e p) (pos 0) then right else wrong) e
    (λ a. holds_if (Same e) (int_eq (ack_at e p) (pos 0)) right wrong
    (λ b. holds_if (Same e) (has_rst p) (with_reset e) (if has_syn p then answered e p else e) (λ r. refl)
    (λ r. holds_if (Same e) (has_syn p) (answered e p) e (λ s. (answered_reset_reply e p).1) (λ s. refl)))
    (λ b. holds_if (Same e) (has_rst p) e (with_reset_reply e p) (λ r. refl) (λ r. (same_refusing e p).0)))
    (λ a. refl)
same_by SynReceived e p h = absurd (false≢true (sym h))
same_by Established e p h = absurd (false≢true (sym h))
same_by FinWait1 e p h = absurd (false≢true (sym h))
same_by FinWait2 e p h = absurd (false≢true (sym h))
same_by CloseWait e p h = absurd (false≢true (sym h))
same_by Closing e p h = absurd (false≢true (sym h))
same_by LastAck e p h = absurd (false≢true (sym h))
same_by TimeWait e p h = absurd (false≢true (sym h))

pub unbegun_same : (news : News) (e : Tcb) → has_begun e.name ≡ false → next (arrived news e).receiving ≡ next e.receiving
unfolding received after_tick timer_ticked waited
unbegun_same (Comes p) e h = same_by e.name e p h
unbegun_same (Logged kept) e h = refl
unbegun_same Ticks e h = refl
unbegun_same Begins e h = refl
