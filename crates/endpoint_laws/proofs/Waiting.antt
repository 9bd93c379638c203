-- TIME-WAIT begins with four ticks to go, and a FIN that comes again begins it anew.
use Rattle.std.proofs.Common.{◌≡◌, ℕ, ◌≤◌, ◌+◌, ◌-◌, ◌*◌, min, Bool, true, false, not, List, [], ◌∷◌, length, refl, sym, ap, subst, arith, ◌∙◌}
use Rattle.std.specs.Prelude.{ℤ, pos, ◌+ℤ◌, ◌==◌, ◌&&◌, ◌||◌, nat_lt, if◌then◌else◌}
use Rattle.std.specs.Bool.{MatchBool}
use Rattle.std.proofs.lemmas.Bool.{false≢true}
use Rattle.std.proofs.lemmas.Int.{ints}
use Rattle.tcp_rules.specs.Arrival.{int_eq}
use Rattle.tcp_rules.specs.Timing.{with_tick, with_backoff}
use Rattle.seq_arith.specs.Offset.{fin_of, length_of, one_if}
use Rattle.seq_arith.specs.Packet.{Segment, has_fin, has_syn, has_rst, has_ack}
use Rattle.ft_model.specs.News.{News}
use Rattle.ft_model.specs.News.News.{Comes, Logged, Ticks, Begins}
use Rattle.tcp_buffers.specs.Near.{is_ahead}
use Rattle.tcp_endpoint.specs.declared.states.StateName.{StateName}
use Rattle.tcp_endpoint.specs.declared.states.StateName.TheVariants.{Closed, Listen, SynSent, SynReceived, Established, FinWait1, FinWait2, CloseWait, Closing, LastAck, TimeWait}
use Rattle.tcp_endpoint.specs.States.{after_syn_acked, after_close, after_fin, after_fin_acked, is_time_wait, has_begun}
use Rattle.tcp_endpoint.specs.ReceiveHalf.{next, taken, with_segment}
use Rattle.tcp_endpoint.specs.SendHalf.{Sending, with_syn_acked, acknowledged, fin_acked, congestion_expired, expires, ticked, timed}
use Rattle.tcp_endpoint.specs.Tcb.{Tcb}
use Rattle.tcp_endpoint.specs.Arrival.{first, ack_at, with_ack_pending_if, with_reset, entering, with_reset_reply, with_text_and_fin, with_fin_acked, with_first_ack, with_ack_used, with_ack, check_ack, check_syn, check_rst, repeats_fin, with_time_wait_restarted, check_sequence, in_others, received}
use Rattle.tcp_endpoint.specs.Output.{probes_text, probes_fin, with_probe, with_text_sent, with_fin_out, after_full, with_advertised, is_timed, with_turn_ended, flushed, with_timed}
use Rattle.tcp_endpoint.specs.UserCalls.{after_tick, timer_ticked, waited}
use Rattle.endpoint_laws.specs.Turn.{Call, Events, IsBetweenTurns, arrived, called, used, before_flush, turned}
use Rattle.endpoint_laws.specs.Turn.Call.{Reads, Writes, Closes}
use Rattle.endpoint_laws.specs.ConnectionEnd.{IsNamedRightly, resets}
use Rattle.endpoint_laws.specs.TimeWait.{time_wait_ticks, brings_fin_again, ticks_after, WaitsOut}
use Rattle.endpoint_laws.proofs.TakenLaw.{begun_is, proceeds}
use Rattle.endpoint_laws.proofs.SendingLaw.{used_is}
use Rattle.endpoint_laws.proofs.TurnLaw.{after_steps}
use Rattle.endpoint_laws.proofs.SegmentsLaw.{kept}
use Rattle.endpoint_laws.proofs.EndingLaw.{IsPlaced, FollowsAt, stays_taken, flushed_name, reset_closed, unreset_follows}
use Rattle.ft_io.proofs.Choices.{by_cases, holds_if}
use Rattle.endpoint_laws.proofs.Listening.{closed_by_calls}

-- an endpoint that enters TIME-WAIT has four ticks to go
abbrev Enters : Tcb → Type 0
Enters t = is_time_wait t.name ≡ true → t.wait ≡ 4

outside : (t : Tcb) → is_time_wait t.name ≡ false → Enters t
outside t h is = absurd (false≢true (sym h ∙ is))

four_ticks : (there here : Bool) (wait : ℕ) → (here ≡ true → wait ≡ 4) → there ≡ true → (if there && not here then 4 else wait) ≡ 4
four_ticks true true wait h is = h refl
four_ticks true false wait h is = refl
four_ticks false here wait h is = absurd (false≢true is)

enters_by : (name : StateName) (t : Tcb) → Enters t → Enters (entering name t)
enters_by name t h is = four_ticks (is_time_wait name) (is_time_wait t.name) t.wait h is

enters_text : (e : Tcb) (p : Segment) → Enters e → Enters (with_text_and_fin e p)
unfolding with_text_and_fin
enters_text e p h =
    let taking : Tcb = record e { receiving = with_segment e.receiving (first e p) p.payload (has_fin p) } in
    holds_if Enters (taking.receiving.fin && not e.receiving.fin) (entering (after_fin e.name) taking) taking (λ b. enters_by (after_fin e.name) taking h) (λ b. h)

enters_acked : (e : Tcb) → Enters e → Enters (with_fin_acked e)
unfolding with_fin_acked
enters_acked e h =
    holds_if Enters (fin_acked e.sending) (entering (after_fin_acked e.name) e) e (λ b. enters_by (after_fin_acked e.name) e h) (λ b. h)

enters_later : (e : Tcb) (p : Segment) → Enters e → Enters (with_ack e p)
unfolding with_ack with_ack_used
enters_later e p h =
    let m : Tcb = with_ack_used e p in
    holds_if Enters (is_ahead e.sending.sent (ack_at e p)) (with_ack_pending_if true e) (with_text_and_fin (with_fin_acked m) p)
    (λ b. h) (λ b. enters_text (with_fin_acked m) p (enters_acked m h))

syn_acked_outside : (closed : Bool) → is_time_wait (after_syn_acked closed) ≡ false
syn_acked_outside true = refl
syn_acked_outside false = refl

enters_refusing : (e : Tcb) (p : Segment) → Enters e → Enters (with_reset_reply e p)
unfolding with_reset_reply
enters_refusing e p h = h

enters_first : (e : Tcb) (p : Segment) → Enters e → Enters (with_first_ack e p)
unfolding with_first_ack
enters_first e p h =
    let m : Tcb = record e { name = after_syn_acked e.sending.closed; sending = with_syn_acked e.sending p.head.seq p.head.window } in
    holds_if Enters (int_eq (ack_at e p) (pos 0)) (with_text_and_fin m p) (with_reset_reply e p)
    (λ b. enters_text m p (outside m (syn_acked_outside e.sending.closed))) (λ b. enters_refusing e p h)

enters_ack : (e : Tcb) (p : Segment) → Enters e → Enters (check_ack e p)
unfolding check_ack
enters_ack e p h =
    holds_if Enters (has_ack p) (if e.sending.syn_acked then with_ack e p else with_first_ack e p) e
    (λ a. holds_if Enters e.sending.syn_acked (with_ack e p) (with_first_ack e p) (λ o. enters_later e p h) (λ o. enters_first e p h)) (λ a. h)

enters_syn : (e : Tcb) (p : Segment) → Enters e → Enters (check_syn e p)
unfolding check_syn
enters_syn e p h =
    let m : Tcb = with_ack_pending_if (nat_lt 0 (length_of p)) e in
    holds_if Enters (has_syn p) (with_ack_pending_if true e) (check_ack m p) (λ b. h) (λ b. enters_ack m p h)

enters_rst : (e : Tcb) (p : Segment) → Enters e → Enters (check_rst e p)
unfolding check_rst
enters_rst e p h =
    let at : Bool = int_eq (first e p) (pos (next e.receiving)) in
    holds_if Enters (has_rst p) (if at then with_reset e else with_ack_pending_if true e) (check_syn e p)
    (λ b. holds_if Enters at (with_reset e) (with_ack_pending_if true e) (λ k. outside (with_reset e) refl) (λ k. h)) (λ b. enters_syn e p h)

enters_others : (e : Tcb) (p : Segment) → is_time_wait e.name ≡ false → Enters (in_others e p)
unfolding in_others check_sequence with_time_wait_restarted
enters_others e p out =
    let m : Tcb = with_time_wait_restarted e p in
    let h : Enters m = outside m out in
    holds_if Enters (proceeds m p) (check_rst m p) (with_ack_pending_if (not (has_rst p)) m)
    (λ b. enters_rst m p h) (λ b. h)

ticked_outside : (e : Tcb) → is_time_wait e.name ≡ false → Enters (after_tick e)
unfolding after_tick timer_ticked waited
ticked_outside e out is =
    absurd (false≢true (sym out ∙ ap is_time_wait (λ i. if sym out i && nat_lt e.wait 2 then Closed else e.name) ∙ is))

enters_arrived : (news : News) (e : Tcb) → has_begun e.name ≡ true → is_time_wait e.name ≡ false → Enters (arrived news e)
unfolding received
enters_arrived (Comes p) e begun out = subst (λ (t : Tcb). Enters t) (sym (begun_is e.name e p begun)) (enters_others e p out)
enters_arrived (Logged kept) e begun out = outside e out
enters_arrived Ticks e begun out = ticked_outside e out
enters_arrived Begins e begun out = outside e out

-- no call leads into it
before_close : (name : StateName) → is_time_wait (after_close name) ≡ true → is_time_wait name ≡ true
before_close Closed h = h
before_close Listen h = h
before_close SynSent h = h
before_close SynReceived h = h
before_close Established h = h
before_close FinWait1 h = h
before_close FinWait2 h = h
before_close CloseWait h = h
before_close Closing h = h
before_close LastAck h = h
before_close TimeWait h = h

enters_used : (calls : List Call) (m : Tcb) → Enters m → Enters (used calls m)
enters_used [] m h = h
enters_used (Reads n ∷ calls) m h = enters_used calls (called (Reads n) m) h
enters_used (Writes bytes ∷ calls) m h = enters_used calls (called (Writes bytes) m) h
enters_used (Closes ∷ calls) m h = enters_used calls (called Closes m) (λ is. h (before_close m.name is))

-- an endpoint in TIME-WAIT with so many ticks to go: both streams are opened, and the peer's has ended
record Waits (wait : ℕ) (t : Tcb) : Type 0 where
  name : t.name ≡ TimeWait
  wait_is : t.wait ≡ wait
  syn_acked_is : t.sending.syn_acked ≡ true
  fin : t.receiving.fin ≡ true

not_anew : (a b : Bool) → b ≡ true → (a && not b) ≡ false
not_anew true true h = refl
not_anew true false h = absurd (false≢true h)
not_anew false b h = refl

waits_text : (wait : ℕ) (e : Tcb) (p : Segment) → Waits wait e → Waits wait (with_text_and_fin e p)
unfolding with_text_and_fin
waits_text wait e p w =
    let taking : Tcb = record e { receiving = with_segment e.receiving (first e p) p.payload (has_fin p) } in
    holds_if (Waits wait) (taking.receiving.fin && not e.receiving.fin) (entering (after_fin e.name) taking) taking
    (λ b. absurd (false≢true (sym (not_anew taking.receiving.fin e.receiving.fin w.fin) ∙ b)))
    (λ b. record { name = w.name; wait_is = w.wait_is; syn_acked_is = w.syn_acked_is; fin = stays_taken e.receiving (first e p) p.payload (has_fin p) w.fin })

still_there : (e : Tcb) (name : StateName) → e.name ≡ TimeWait → name ≡ TimeWait → (if is_time_wait name && not (is_time_wait e.name) then 4 else e.wait) ≡ e.wait
still_there e name here there = λ i. if is_time_wait (there i) && not (is_time_wait (here i)) then 4 else e.wait

waits_acked : (wait : ℕ) (e : Tcb) → Waits wait e → Waits wait (with_fin_acked e)
unfolding with_fin_acked
waits_acked wait e w =
    let stays : after_fin_acked e.name ≡ TimeWait = ap after_fin_acked w.name in
    holds_if (Waits wait) (fin_acked e.sending) (entering (after_fin_acked e.name) e) e
    (λ b. record { name = stays; wait_is = still_there e (after_fin_acked e.name) w.name stays ∙ w.wait_is; syn_acked_is = w.syn_acked_is; fin = w.fin })
    (λ b. w)

pending_waits : (wait : ℕ) (e : Tcb) (ack_pending : Bool) → Waits wait e → Waits wait (record e { ack_pending = ack_pending })
pending_waits wait e ack_pending w = record { name = w.name; wait_is = w.wait_is; syn_acked_is = w.syn_acked_is; fin = w.fin }

waits_used_ack : (wait : ℕ) (e : Tcb) (p : Segment) → Waits wait e → Waits wait (with_ack_used e p)
unfolding acknowledged
waits_used_ack wait e p w =
    subst (λ (t : Tcb). Waits wait t) (sym (used_is e p)) (record { name = w.name; wait_is = w.wait_is; syn_acked_is = w.syn_acked_is; fin = w.fin })

waits_later : (wait : ℕ) (e : Tcb) (p : Segment) → Waits wait e → Waits wait (with_ack e p)
unfolding with_ack
waits_later wait e p w =
    let m : Tcb = with_ack_used e p in
    let used_up : Waits wait m = waits_used_ack wait e p w in
    holds_if (Waits wait) (is_ahead e.sending.sent (ack_at e p)) (with_ack_pending_if true e) (with_text_and_fin (with_fin_acked m) p)
    (λ b. pending_waits wait e (e.ack_pending || true) w) (λ b. waits_text wait (with_fin_acked m) p (waits_acked wait m used_up))

waits_ack : (wait : ℕ) (e : Tcb) (p : Segment) → Waits wait e → Waits wait (check_ack e p)
unfolding check_ack
waits_ack wait e p w =
    holds_if (Waits wait) (has_ack p) (if e.sending.syn_acked then with_ack e p else with_first_ack e p) e
    (λ a. holds_if (Waits wait) e.sending.syn_acked (with_ack e p) (with_first_ack e p)
    (λ o. waits_later wait e p w) (λ o. absurd (false≢true (sym o ∙ w.syn_acked_is)))) (λ a. w)

waits_syn : (wait : ℕ) (e : Tcb) (p : Segment) → Waits wait e → Waits wait (check_syn e p)
unfolding check_syn
waits_syn wait e p w =
    let m : Tcb = with_ack_pending_if (nat_lt 0 (length_of p)) e in
    holds_if (Waits wait) (has_syn p) (with_ack_pending_if true e) (check_ack m p)
    (λ b. pending_waits wait e (e.ack_pending || true) w) (λ b. waits_ack wait m p (pending_waits wait e (e.ack_pending || nat_lt 0 (length_of p)) w))

waits_rst : (wait : ℕ) (e : Tcb) (p : Segment) → (has_rst p && int_eq (first e p) (pos (next e.receiving))) ≡ false → Waits wait e → Waits wait (check_rst e p)
unfolding check_rst
waits_rst wait e p unreset w =
    let at : Bool = int_eq (first e p) (pos (next e.receiving)) in
    holds_if (Waits wait) (has_rst p) (if at then with_reset e else with_ack_pending_if true e) (check_syn e p)
    (λ r. holds_if (Waits wait) at (with_reset e) (with_ack_pending_if true e)
    (λ k. absurd (false≢true (sym unreset ∙ (λ i. r i && k i)))) (λ k. pending_waits wait e (e.ack_pending || true) w))
    (λ r. waits_syn wait e p w)

waits_others : (wait : ℕ) (e : Tcb) (p : Segment) → (has_rst p && int_eq (first e p) (pos (next e.receiving))) ≡ false → Waits wait (with_time_wait_restarted e p)
    → Waits wait (in_others e p)
unfolding in_others check_sequence with_time_wait_restarted
waits_others wait e p unreset w =
    let m : Tcb = with_time_wait_restarted e p in
    holds_if (Waits wait) (proceeds m p) (check_rst m p) (with_ack_pending_if (not (has_rst p)) m)
    (λ b. waits_rst wait m p unreset w) (λ b. pending_waits wait m (m.ack_pending || not (has_rst p)) w)

-- the peer's FIN is the unit before RCV.NXT
same_place : (z : ℤ) (n t : ℕ) → int_eq (z +ℤ pos n) (pos t) ≡ int_eq (z +ℤ pos (n + 1)) (pos (t + 1))
same_place z n t = grind (arith, ints)

retransmission_is : (e : Tcb) (p : Segment) → e.receiving.fin ≡ true → repeats_fin e p ≡ brings_fin_again (Comes p) e
retransmission_is e p fin =
    ap (λ b. fin_of p && b) (same_place (first e p) (length p.payload) (taken e.receiving))
    ∙ ap (λ b. fin_of p && int_eq (first e p +ℤ pos (length p.payload + 1)) (pos (taken e.receiving + one_if b))) (sym fin)

waits_again : (e : Tcb) (p : Segment) (wait : ℕ) → Waits wait e → Waits (if brings_fin_again (Comes p) e then 4 else wait) (with_time_wait_restarted e p)
unfolding with_time_wait_restarted
waits_again e p wait w = record {
  name = w.name;
  wait_is = (λ i. if is_time_wait (w.name i) && retransmission_is e p w.fin i then 4 else w.wait_is i);
  syn_acked_is = w.syn_acked_is;
  fin = w.fin;
}

-- what a turn's calls and its flush leave
waits_used : (wait : ℕ) (calls : List Call) (m : Tcb) → Waits wait m → Waits wait (used calls m)
waits_used wait [] m w = w
waits_used wait (Reads n ∷ calls) m w =
    waits_used wait calls (called (Reads n) m) (record { name = w.name; wait_is = w.wait_is; syn_acked_is = w.syn_acked_is; fin = w.fin })
waits_used wait (Writes bytes ∷ calls) m w =
    waits_used wait calls (called (Writes bytes) m) (record { name = w.name; wait_is = w.wait_is; syn_acked_is = w.syn_acked_is; fin = w.fin })
waits_used wait (Closes ∷ calls) m w =
    waits_used wait calls (called Closes m) (record { name = ap after_close w.name; wait_is = w.wait_is; syn_acked_is = w.syn_acked_is; fin = w.fin })

timed_syn_acked : (runs : Bool) (s : Sending) → (timed runs s).syn_acked ≡ s.syn_acked
timed_syn_acked true s = holds_if (λ (t : Sending). t.syn_acked ≡ s.syn_acked) (s.rest == 0) (record s { interval = s.timing.base; rest = s.timing.base }) s (λ h. refl) (λ h. refl)
timed_syn_acked false s = refl

waits_flushed : (wait : ℕ) (u : Tcb) → Waits wait u → Waits wait (flushed u)
unfolding flushed with_turn_ended with_advertised after_full with_timed with_fin_out with_text_sent with_probe
waits_flushed wait u w =
    let s : Sending = after_steps (has_begun u.name) (probes_text u) (probes_fin u) u.sending in
    let syn_acked_same : s.syn_acked ≡ u.sending.syn_acked =
    kept (λ t. t.syn_acked ≡ u.sending.syn_acked) (λ t k h. h) (λ t h. h) (has_begun u.name) (probes_text u) (probes_fin u) u.sending refl in
    record {
      name = w.name;
      wait_is = w.wait_is;
      syn_acked_is = timed_syn_acked (is_timed (after_full u)) (after_full u).sending ∙ syn_acked_same ∙ w.syn_acked_is;
      fin = w.fin;
    }

-- a turn in TIME-WAIT
abbrev Turned : ℕ → News → List Call → Tcb → Type 0
Turned ticks news calls e =
    MatchBool (ticks_after ticks news e == time_wait_ticks) ((turned news calls e).name ≡ Closed)
    ((1 ≤ 4 - ticks_after ticks news e) × Waits (4 - ticks_after ticks news e) (turned news calls e))

on_match : (A B : Type 0) (b : Bool) → b ≡ true → A → MatchBool b A B
on_match A B true h a = a
on_match A B false h a = absurd (false≢true h)

off_match : (A B : Type 0) (b : Bool) → b ≡ false → B → MatchBool b A B
off_match A B true h a = absurd (false≢true (sym h))
off_match A B false h a = a

fewer : (n : ℕ) → 1 ≤ 4 - n → (n == 4) ≡ false
fewer n h = grind (arith, h)

turn_waits : (ticks n : ℕ) (news : News) (calls : List Call) (e : Tcb) → ticks_after ticks news e ≡ n → 1 ≤ 4 - n → Waits (4 - n) (arrived news e)
    → Turned ticks news calls e
turn_waits ticks n news calls e is some w =
    let P : ℕ → Type 0 = λ k.
    MatchBool (k == time_wait_ticks) ((turned news calls e).name ≡ Closed) ((1 ≤ 4 - k) × Waits (4 - k) (turned news calls e)) in
    subst P (sym is) (off_match _ _ (n == 4) (fewer n some) (some, waits_flushed (4 - n) (before_flush news calls e) (waits_used (4 - n) calls (arrived news e) w)))

segment_ticks : (b : Bool) (ticks : ℕ) → 1 ≤ 4 - ticks → (1 ≤ 4 - (if b then 0 else ticks)) × ((if b then 4 else 4 - ticks) ≡ 4 - (if b then 0 else ticks))
segment_ticks true ticks some = (omega arith, omega arith)
segment_ticks false ticks some = (some, refl)

segment_turn : (ticks : ℕ) (p : Segment) (calls : List Call) (e : Tcb) → 1 ≤ 4 - ticks → Waits (4 - ticks) e → resets (Comes p) e ≡ false → Turned ticks (Comes p) calls e
unfolding received
segment_turn ticks p calls e some w unreset =
    let again : Bool = brings_fin_again (Comes p) e in
    let n = segment_ticks again ticks some in
    let begun : has_begun e.name ≡ true = ap has_begun w.name in
    let there : Waits (if again then 4 else 4 - ticks) (in_others e p) =
    waits_others (if again then 4 else 4 - ticks) e p unreset (waits_again e p (4 - ticks) w) in
    turn_waits ticks (if again then 0 else ticks) (Comes p) calls e refl n.0
    (subst (λ (t : Tcb). Waits (4 - (if again then 0 else ticks)) t) (sym (begun_is e.name e p begun))
    (subst (λ (k : ℕ). Waits k (in_others e p)) n.1 there))

last_tick : (ticks : ℕ) → 1 ≤ 4 - ticks → nat_lt (4 - ticks) 2 ≡ (ticks + 1 == 4)
last_tick ticks some = grind (arith, some)

ticked_syn_acked : (s : Sending) → (ticked s).syn_acked ≡ s.syn_acked
ticked_syn_acked s =
    holds_if (λ (t : Sending). t.syn_acked ≡ s.syn_acked) (expires s)
    (record s {
      congestion = congestion_expired s;
      timing = with_backoff (min 64 (2 * s.interval)) s.timing;
      interval = min 64 (2 * s.interval);
      rest = min 64 (2 * s.interval);
    })
    (record s { timing = with_tick s.timing; rest = s.rest - 1 })
    (λ h. refl) (λ h. refl)

ticked_waits : (ticks : ℕ) (e : Tcb) → 1 ≤ 4 - ticks → Waits (4 - ticks) e → (ticks + 1 == 4) ≡ false → (1 ≤ 4 - (ticks + 1)) × Waits (4 - (ticks + 1)) (after_tick e)
unfolding after_tick timer_ticked waited
ticked_waits ticks e some w more = (
  grind (arith, some, more),
  record {
    name = (λ i. if is_time_wait (w.name i) && nat_lt (w.wait_is i) 2 then Closed else w.name i)
        ∙ ap (λ b. if b then Closed else TimeWait) (last_tick ticks some ∙ more);
    wait_is = (λ i. if is_time_wait (w.name i) then w.wait_is i - 1 else w.wait_is i) ∙ omega arith;
    syn_acked_is = ticked_syn_acked e.sending ∙ w.syn_acked_is;
    fin = w.fin;
  },
)

ticked_ends : (ticks : ℕ) (e : Tcb) → 1 ≤ 4 - ticks → Waits (4 - ticks) e → (ticks + 1 == 4) ≡ true → (after_tick e).name ≡ Closed
unfolding after_tick timer_ticked waited
ticked_ends ticks e some w last =
    (λ i. if is_time_wait (w.name i) && nat_lt (w.wait_is i) 2 then Closed else w.name i) ∙ ap (λ b. if b then Closed else TimeWait) (last_tick ticks some ∙ last)

tick_turn : (ticks : ℕ) (calls : List Call) (e : Tcb) → 1 ≤ 4 - ticks → Waits (4 - ticks) e → Turned ticks Ticks calls e
tick_turn ticks calls e some w =
    by_cases (ticks + 1 == 4)
    (λ last. on_match _ _ (ticks + 1 == 4) last
    (flushed_name (before_flush Ticks calls e) ∙ closed_by_calls calls (after_tick e) (ticked_ends ticks e some w last)))
    (λ more. let next_one = ticked_waits ticks e some w more in turn_waits ticks (ticks + 1) Ticks calls e refl next_one.0 next_one.1)

a_turn : (ticks : ℕ) (news : News) (calls : List Call) (e : Tcb) → 1 ≤ 4 - ticks → Waits (4 - ticks) e → resets news e ≡ false → Turned ticks news calls e
a_turn ticks (Comes p) calls e some w unreset = segment_turn ticks p calls e some w unreset
a_turn ticks (Logged kept) calls e some w unreset = turn_waits ticks ticks (Logged kept) calls e refl some w
a_turn ticks Ticks calls e some w unreset = tick_turn ticks calls e some w
a_turn ticks Begins calls e some w unreset = turn_waits ticks ticks Begins calls e refl some w

-- and so turn by turn
further : (A B C : Type 0) (b : Bool) → (B → C) → MatchBool b A B → MatchBool b A C
further A B C true f a = a
further A B C false f b = f b

waits_out : (ticks : ℕ) (turns : List Events) (e : Tcb) → 1 ≤ 4 - ticks → Waits (4 - ticks) e → WaitsOut ticks e turns
waits_out ticks [] e some w = tt
waits_out ticks (turn ∷ turns) e some w = λ unreset.
    let n : ℕ = ticks_after ticks turn.news e in
    let after : Tcb = turned turn.news turn.calls e in
    further _ _ _ (n == time_wait_ticks) (λ (h : (1 ≤ 4 - n) × Waits (4 - n) after). (h.1.name, waits_out n turns after h.0 h.1)) (a_turn ticks turn.news turn.calls e some w unreset)

is_there : (name : StateName) → is_time_wait name ≡ true → name ≡ TimeWait
is_there TimeWait h = refl
is_there Closed h = absurd (false≢true h)
is_there Listen h = absurd (false≢true h)
is_there SynSent h = absurd (false≢true h)
is_there SynReceived h = absurd (false≢true h)
is_there Established h = absurd (false≢true h)
is_there FinWait1 h = absurd (false≢true h)
is_there FinWait2 h = absurd (false≢true h)
is_there CloseWait h = absurd (false≢true h)
is_there Closing h = absurd (false≢true h)
is_there LastAck h = absurd (false≢true h)

ended : (name : StateName) (o c f a : Bool) → is_time_wait name ≡ true → IsPlaced name o c f a → (o ≡ true) × (f ≡ true)
ended TimeWait o c f a h placed = (placed.0, placed.2)
ended Closed o c f a h placed = absurd (false≢true h)
ended Listen o c f a h placed = absurd (false≢true h)
ended SynSent o c f a h placed = absurd (false≢true h)
ended SynReceived o c f a h placed = absurd (false≢true h)
ended Established o c f a h placed = absurd (false≢true h)
ended FinWait1 o c f a h placed = absurd (false≢true h)
ended FinWait2 o c f a h placed = absurd (false≢true h)
ended CloseWait o c f a h placed = absurd (false≢true h)
ended Closing o c f a h placed = absurd (false≢true h)
ended LastAck o c f a h placed = absurd (false≢true h)

killed_outside : (news : News) (calls : List Call) (e : Tcb) → has_begun e.name ≡ true → (resets news e ≡ true → (before_flush news calls e).name ≡ Closed)
    → is_time_wait (before_flush news calls e).name ≡ true → resets news e ≡ false
killed_outside news calls e begun closes h =
    by_cases (resets news e) (λ r. absurd (false≢true (ap is_time_wait (sym (closes r)) ∙ h))) (λ r. r)

pub wait_law : (news : News) (calls : List Call) (turns : List Events) (e : Tcb) → has_begun e.name ≡ true → IsBetweenTurns e → IsNamedRightly e
    → is_time_wait e.name ≡ false → is_time_wait (before_flush news calls e).name ≡ true → WaitsOut 0 (turned news calls e) turns
wait_law news calls turns e begun between named out there =
    let m : Tcb = arrived news e in
    let u : Tcb = used calls m in
    let unreset : resets news e ≡ false = killed_outside news calls e begun (reset_closed news calls e begun) there in
    let f : FollowsAt u = unreset_follows news calls e begun between named unreset in
    let both = ended u.name u.sending.syn_acked u.sending.closed u.receiving.fin (fin_acked u.sending) there f.placed in
    let entered : Waits 4 u = record {
      name = is_there u.name there;
      wait_is = enters_used calls m (enters_arrived news e begun out) there;
      syn_acked_is = both.0;
      fin = both.1;
    } in
    waits_out 0 turns (flushed u) (omega arith) (waits_flushed 4 u entered)
