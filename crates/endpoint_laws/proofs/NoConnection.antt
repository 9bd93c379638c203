-- An endpoint in CLOSED, LISTEN or SYN-SENT sends what it is to send there, and goes over to the state that it is to go over to.
use Rattle.std.proofs.Common.{◌≡◌, ◌⊎◌, inl, inr, ℕ, ◌≤◌, Bool, true, false, not, Some, None, List, [], ◌∷◌, ◌++◌, min, refl, sym, ap, subst, arith, append-nil, ⊎_elim, ◌∙◌}
use Rattle.std.specs.Prelude.{pos, ◌==◌, ◌&&◌, ◌||◌, nat_lt, if◌then◌else◌}
use Rattle.std.specs.List.{AllByRecursion}
use Rattle.std.proofs.lemmas.Bool.{false≢true, and_right, and_from, and_left}
use Rattle.ft_io.specs.declared.Addr.{Addr}
use Rattle.tcp_rules.specs.Arrival.{int_eq}
use Rattle.seq_arith.specs.Packet.{Segment, has_syn, has_rst, has_ack}
use Rattle.tcp_rules.specs.Timing.{Timing, first_base}
use Rattle.ft_model.specs.News.{News}
use Rattle.ft_model.specs.News.News.{Comes, Logged, Ticks, Begins}
use Rattle.ft_model.specs.Opening.{is_syn}
use Rattle.ft_model.specs.Refusal.{rst_at_ack, rst_behind}
use Rattle.tcp_endpoint.specs.declared.states.StateName.{StateName}
use Rattle.tcp_endpoint.specs.declared.states.StateName.TheVariants.{Closed, Listen, SynSent, SynReceived, Established}
use Rattle.tcp_endpoint.specs.States.{after_close, is_syn_sent, is_time_wait, has_begun}
use Rattle.tcp_endpoint.specs.ReceiveHalf.{window, receiving_up_to}
use Rattle.tcp_endpoint.specs.SendHalf.{Sending, expires}
use Rattle.tcp_endpoint.specs.Tcb.{Tcb, kept_limit, listening, listening_measuring, connecting, connecting_measuring}
use Rattle.tcp_endpoint.specs.Arrival.{ack_at, received, received_in, in_closed, in_listen, in_syn_sent, begun, answered, with_reset_reply, with_reset_reply_without_ack, with_reset}
use Rattle.tcp_endpoint.specs.Output.{head_at, opening_segment, reset_reply_segments, leaving, with_advertised, is_timed, with_turn_ended, with_fin_out, with_probe, with_text_sent, after_full, flushed, with_timed}
use Rattle.tcp_endpoint.specs.UserCalls.{after_tick, timer_ticked, waited}
use Rattle.endpoint_laws.specs.Laws.{ticked_interval, ticked_rest, IsTimedBy, timing_ticked}
use Rattle.endpoint_laws.specs.Turn.{Call, MayUse, arrived, called, used, before_flush, turned, sent_in}
use Rattle.endpoint_laws.specs.Turn.Call.{Reads, Writes, Closes}
use Rattle.endpoint_laws.specs.Advertisement.{Advertises, is_reported, ReadsOnlyTaken}
use Rattle.endpoint_laws.specs.PassiveOpen.{IsListening, brings_syn}
use Rattle.endpoint_laws.specs.ActiveOpen.{IsConnecting}
use Rattle.endpoint_laws.specs.Unconnected.{sent_in_closed, sent_in_listen, acknowledges_syn, refused_in_syn_sent, resets_in_syn_sent, answers_in_syn_sent, state_after_syn_sent, syn_of, expires_at, interval_waiting, rest_waiting}
use Rattle.endpoint_laws.proofs.AnswersAlone.{reset_reply_none, closed_sends, listen_sends, syn_sent_sends}
use Rattle.endpoint_laws.proofs.Listening.{begun_by, listening_is, listens_arrived, closed_by_calls}
use Rattle.endpoint_laws.proofs.TurnLaw.{flushed_timer, ticked_law}
use Rattle.endpoint_laws.proofs.SendingLaw.{ticked_timing}
use Rattle.endpoint_laws.proofs.Calls.{IsUsed, used_is}
use Rattle.endpoint_laws.proofs.EndingLaw.{used_keeps, call_resets}
use Rattle.endpoint_laws.proofs.Advertised.{reset_reply_used, begun_used, advertises_law, retransmission_is_reported}
use Rattle.endpoint_laws.proofs.Connecting.{Connects, connects_at_connect, connects_arrived, connects_used, received_by, syn_leaves, still_connecting, sent_before, answered_name, refusing_name, begun_name, closed_name}
use Rattle.ft_io.proofs.Choices.{by_cases}
use Rattle.ft_io.proofs.Booleans.{or_false, or_true, and_true}

call_retransmissions : (call : Call) (t : Tcb) → (called call t).retransmission_due ≡ t.retransmission_due
call_retransmissions (Reads n) t = refl
call_retransmissions (Writes bytes) t = refl
call_retransmissions Closes t = refl

pub call_locals : (call : Call) (t : Tcb) → (called call t).local ≡ t.local
call_locals (Reads n) t = refl
call_locals (Writes bytes) t = refl
call_locals Closes t = refl

retransmission_used : (calls : List Call) (m : Tcb) → (used calls m).retransmission_due ≡ m.retransmission_due
retransmission_used calls m = used_keeps (λ (t : Tcb). t.retransmission_due) call_retransmissions calls m

-- a state from which a user who closes leads to CLOSED
still_or_closed : (name : StateName) → after_close name ≡ Closed → (calls : List Call) (m : Tcb) → m.name ≡ name
    → ((used calls m).name ≡ name) ⊎ ((used calls m).name ≡ Closed)
still_or_closed name closes [] m h = inl h
still_or_closed name closes (Reads n ∷ calls) m h = still_or_closed name closes calls (called (Reads n) m) h
still_or_closed name closes (Writes bytes ∷ calls) m h = still_or_closed name closes calls (called (Writes bytes) m) h
still_or_closed name closes (Closes ∷ calls) m h = inr (closed_by_calls calls (called Closes m) (ap after_close h ∙ closes))

-- CLOSED: the answer to a segment
refused_closed : (e : Tcb) (p : Segment) (rst ack : Bool) → e.reset_reply ≡ None
    → reset_reply_segments ((if rst then e else (if ack then with_reset_reply e p else with_reset_reply_without_ack e p)).reset_reply)
    ≡ (if rst then [] else (if ack then rst_at_ack e.local p ∷ [] else rst_behind e.local p ∷ []))
unfolding with_reset_reply with_reset_reply_without_ack
refused_closed e p true ack none = ap reset_reply_segments none
refused_closed e p false true none = refl
refused_closed e p false false none = refl

pub same_closed : {X : Type 0} (f : Tcb → X) (rst ack : Bool) (e refused behind : Tcb) → f refused ≡ f e → f behind ≡ f e
    → f (if rst then e else (if ack then refused else behind)) ≡ f e
same_closed f true ack e refused behind a b = refl
same_closed f false true e refused behind a b = a
same_closed f false false e refused behind a b = b

in_closed_at : (e : Tcb) (p : Segment) → e.name ≡ Closed → received e p ≡ in_closed e p
unfolding received
in_closed_at e p closed = ap (λ n. received_in n e p) closed

-- what a segment leaves of a CLOSED endpoint
abbrev Lasting : Type 0
Lasting = StateName × Addr × Bool

lasting : Tcb → Lasting
lasting e = (e.name, e.local, e.reset)

closed_lasts : (e : Tcb) (p : Segment) → lasting (in_closed e p) ≡ lasting e
unfolding in_closed with_reset_reply with_reset_reply_without_ack lasting
closed_lasts e p = same_closed lasting (has_rst p) (has_ack p) e (with_reset_reply e p) (with_reset_reply_without_ack e p) refl refl

closed_arrived : (news : News) (e : Tcb) → e.name ≡ Closed → e.reset_reply ≡ None
    → (lasting (arrived news e) ≡ lasting e) × (reset_reply_segments (arrived news e).reset_reply ≡ sent_in_closed e.local news)
unfolding in_closed lasting after_tick timer_ticked waited
closed_arrived (Comes segment) e closed none =
    let same : received e segment ≡ in_closed e segment = in_closed_at e segment closed in (
      ap lasting same ∙ closed_lasts e segment,
      ap (λ (t : Tcb). reset_reply_segments t.reset_reply) same ∙ refused_closed e segment (has_rst segment) (has_ack segment) none,
    )
closed_arrived (Logged kept) e closed none = (refl, ap reset_reply_segments none)
closed_arrived Ticks e closed none = (
  (λ i. (if is_time_wait (closed i) && nat_lt e.wait 2 then Closed else e.name, e.local, e.reset)),
  ap reset_reply_segments none,
)
closed_arrived Begins e closed none = (refl, ap reset_reply_segments none)

call_lasts : (calls : List Call) (m : Tcb) → m.name ≡ Closed → lasting (used calls m) ≡ lasting m
unfolding lasting
call_lasts calls m closed = λ i. (
  (closed_by_calls calls m closed ∙ sym closed) i,
  used_keeps (λ (t : Tcb). t.local) call_locals calls m i,
  used_keeps (λ (t : Tcb). t.reset) call_resets calls m i,
)

flushed_lasts : (u : Tcb) → (lasting (flushed u) ≡ lasting u) × ((flushed u).reset_reply ≡ None)
unfolding lasting flushed with_turn_ended with_advertised after_full with_timed with_fin_out with_text_sent with_probe
flushed_lasts u = (refl, refl)

closed_before_flush : (news : News) (calls : List Call) (e : Tcb) → e.name ≡ Closed → e.reset_reply ≡ None → (before_flush news calls e).name ≡ Closed
unfolding lasting
closed_before_flush news calls e closed none =
    closed_by_calls calls (arrived news e) (ap (λ (l : Lasting). l.0) (closed_arrived news e closed none).0 ∙ closed)

pub closed_answers_law : (news : News) (calls : List Call) (e : Tcb) → e.name ≡ Closed → e.reset_reply ≡ None → sent_in news calls e ≡ sent_in_closed e.local news
closed_answers_law news calls e closed none =
    closed_sends (before_flush news calls e) (closed_before_flush news calls e closed none)
    ∙ ap reset_reply_segments (reset_reply_used calls (arrived news e)) ∙ (closed_arrived news e closed none).1

pub closed_stays_law : (news : News) (calls : List Call) (e : Tcb) → e.name ≡ Closed → e.reset_reply ≡ None
    → ((turned news calls e).name ≡ Closed) × ((turned news calls e).reset_reply ≡ None) × ((turned news calls e).local ≡ e.local) × ((turned news calls e).reset ≡ e.reset)
unfolding lasting
closed_stays_law news calls e closed none =
    let u : Tcb = before_flush news calls e in
    let m : Tcb = arrived news e in
    let came : lasting m ≡ lasting e = (closed_arrived news e closed none).0 in
    let there : m.name ≡ Closed = ap (λ (l : Lasting). l.0) came ∙ closed in
    let all : lasting (flushed u) ≡ lasting e = (flushed_lasts u).0 ∙ call_lasts calls m there ∙ came in
    (ap (λ (l : Lasting). l.0) all ∙ closed, (flushed_lasts u).1, ap (λ (l : Lasting). l.1) all, ap (λ (l : Lasting). l.2) all)

-- LISTEN: the answer to a segment that is no SYN
refused_listen : (e begun_one : Tcb) (p : Segment) (syn ack rst : Bool) → (syn && not ack && not rst) ≡ false → e.reset_reply ≡ None
    → reset_reply_segments ((if rst then e else (if ack then with_reset_reply e p else (if syn then begun_one else e))).reset_reply)
    ≡ (if ack && not rst then rst_at_ack e.local p ∷ [] else [])
unfolding with_reset_reply
refused_listen e begun_one p syn true true other none = ap reset_reply_segments none
refused_listen e begun_one p syn false true other none = ap reset_reply_segments none
refused_listen e begun_one p syn true false other none = refl
refused_listen e begun_one p true false false other none = absurd (false≢true (sym other))
refused_listen e begun_one p false false false other none = ap reset_reply_segments none

same_listen : {X : Type 0} (f : Tcb → X) (syn ack rst : Bool) (e refused begun_one : Tcb) → (syn && not ack && not rst) ≡ false → f refused ≡ f e
    → f (if rst then e else (if ack then refused else (if syn then begun_one else e))) ≡ f e
same_listen f syn ack true e refused begun_one other a = refl
same_listen f syn true false e refused begun_one other a = a
same_listen f true false false e refused begun_one other a = absurd (false≢true (sym other))
same_listen f false false false e refused begun_one other a = refl

in_listen_at : (e : Tcb) (p : Segment) → e.name ≡ Listen → received e p ≡ in_listen e p
unfolding received
in_listen_at e p name = ap (λ n. received_in n e p) name

abbrev Due : Type 0
Due = Bool × Bool

due : Tcb → Due
due e = (e.retransmission_due, e.reset)

listen_due : (e : Tcb) (p : Segment) → (has_syn p && not (has_ack p) && not (has_rst p)) ≡ false → due (in_listen e p) ≡ due e
unfolding in_listen with_reset_reply due
listen_due e p other = same_listen due (has_syn p) (has_ack p) (has_rst p) e (with_reset_reply e p) (begun e p) other refl

listen_ticked : (iss limit : ℕ) (e : Tcb) → IsListening iss limit e → due (after_tick e) ≡ due e
unfolding after_tick timer_ticked waited due
listen_ticked iss limit e l =
    let P : Tcb → Type 0 = λ t. due (after_tick t) ≡ due t in
    subst P (sym (listening_is iss limit e l)) refl

listen_arrived : (iss limit : ℕ) (news : News) (e : Tcb) → IsListening iss limit e → brings_syn news ≡ false
    → (due (arrived news e) ≡ due e) × (reset_reply_segments (arrived news e).reset_reply ≡ sent_in_listen e.local news)
unfolding in_listen after_tick timer_ticked waited
listen_arrived iss limit (Comes segment) e l other =
    let same : received e segment ≡ in_listen e segment = in_listen_at e segment l.name in (
      ap due same ∙ listen_due e segment other,
      ap (λ (t : Tcb). reset_reply_segments t.reset_reply) same
          ∙ refused_listen e (begun e segment) segment (has_syn segment) (has_ack segment) (has_rst segment) other l.reset_reply,
    )
listen_arrived iss limit (Logged kept) e l other = (refl, ap reset_reply_segments l.reset_reply)
listen_arrived iss limit Ticks e l other = (listen_ticked iss limit e l, ap reset_reply_segments l.reset_reply)
listen_arrived iss limit Begins e l other = (refl, ap reset_reply_segments l.reset_reply)

pub listen_answers_law : (iss limit : ℕ) (news : News) (calls : List Call) (e : Tcb) → IsListening iss limit e → brings_syn news ≡ false
    → sent_in news calls e ≡ sent_in_listen e.local news
unfolding due
listen_answers_law iss limit news calls e l other =
    let m : Tcb = arrived news e in
    let u : Tcb = used calls m in
    let came = listen_arrived iss limit news e l other in
    let still : u.retransmission_due ≡ false = retransmission_used calls m ∙ ap (λ (d : Due). d.0) came.0 ∙ l.retransmission_due in
    let alone : leaving u ≡ reset_reply_segments u.reset_reply =
    ⊎_elim (λ h. listen_sends u h still) (λ h. closed_sends u h) (still_or_closed Listen refl calls m (listens_arrived iss limit news e other l).name) in
    alone ∙ ap reset_reply_segments (reset_reply_used calls m) ∙ came.1

pub listen_stays_law : (iss limit : ℕ) (news : News) (e : Tcb) → IsListening iss limit e → brings_syn news ≡ false
    → ((arrived news e).name ≡ Listen) × ((arrived news e).reset ≡ e.reset)
unfolding due
listen_stays_law iss limit news e l other =
    ((listens_arrived iss limit news e other l).name, ap (λ (d : Due). d.1) (listen_arrived iss limit news e l other).0)

-- SYN-SENT: what the checks choose
abbrev checked : (ack right rst syn : Bool) → (dead begun_one refused e : Tcb) → Tcb
checked ack right rst syn dead begun_one refused e =
    if ack then (if right then (if rst then dead else (if syn then begun_one else e)) else (if rst then e else refused)) else e

refused_sent : (ack right rst syn : Bool) (dead begun_one e : Tcb) (p : Segment) → dead.reset_reply ≡ None → begun_one.reset_reply ≡ None → e.reset_reply ≡ None
    → reset_reply_segments (checked ack right rst syn dead begun_one (with_reset_reply e p) e).reset_reply
    ≡ (if ack && not (ack && right) && not rst then rst_at_ack e.local p ∷ [] else [])
unfolding with_reset_reply
refused_sent true true true syn dead begun_one e p d b none = ap reset_reply_segments d
refused_sent true true false true dead begun_one e p d b none = ap reset_reply_segments b
refused_sent true true false false dead begun_one e p d b none = ap reset_reply_segments none
refused_sent true false true syn dead begun_one e p d b none = ap reset_reply_segments none
refused_sent true false false syn dead begun_one e p d b none = refl
refused_sent false right rst syn dead begun_one e p d b none = ap reset_reply_segments none

name_sent : (ack right rst syn : Bool) (dead begun_one refused e : Tcb) → dead.name ≡ Closed → begun_one.name ≡ Established → refused.name ≡ SynSent → e.name ≡ SynSent
    → (checked ack right rst syn dead begun_one refused e).name
    ≡ (if ack && right && rst then Closed else (if ack && right && not rst && syn then Established else SynSent))
name_sent true true true syn dead begun_one refused e d b r n = d
name_sent true true false true dead begun_one refused e d b r n = b
name_sent true true false false dead begun_one refused e d b r n = n
name_sent true false true syn dead begun_one refused e d b r n = n
name_sent true false false syn dead begun_one refused e d b r n = r
name_sent false right rst syn dead begun_one refused e d b r n = n

reset_sent : (ack right rst syn : Bool) (dead begun_one refused e : Tcb) → dead.reset ≡ true → begun_one.reset ≡ e.reset → refused.reset ≡ e.reset
    → (checked ack right rst syn dead begun_one refused e).reset ≡ (e.reset || (ack && right && rst))
reset_sent true true true syn dead begun_one refused e d b r = d ∙ or_true e.reset
reset_sent true true false true dead begun_one refused e d b r = b ∙ or_false e.reset
reset_sent true true false false dead begun_one refused e d b r = or_false e.reset
reset_sent true false true syn dead begun_one refused e d b r = or_false e.reset
reset_sent true false false syn dead begun_one refused e d b r = r ∙ or_false e.reset
reset_sent false right rst syn dead begun_one refused e d b r = or_false e.reset

same_sent : {X : Type 0} (f : Tcb → X) (ack right rst syn : Bool) (dead begun_one refused e : Tcb) → f dead ≡ f e → f begun_one ≡ f e → f refused ≡ f e
    → f (checked ack right rst syn dead begun_one refused e) ≡ f e
same_sent f true true true syn dead begun_one refused e d b r = d
same_sent f true true false true dead begun_one refused e d b r = b
same_sent f true true false false dead begun_one refused e d b r = refl
same_sent f true false true syn dead begun_one refused e d b r = refl
same_sent f true false false syn dead begun_one refused e d b r = r
same_sent f false right rst syn dead begun_one refused e d b r = refl

-- the sending half, while the state stays
half_sent : (ack right rst syn : Bool) (dead begun_one refused e : Tcb) → dead.name ≡ Closed → begun_one.name ≡ Established → refused.sending ≡ e.sending
    → (checked ack right rst syn dead begun_one refused e).name ≡ SynSent → (checked ack right rst syn dead begun_one refused e).sending ≡ e.sending
half_sent true true true syn dead begun_one refused e d b r n = absurd (closed_name dead.name d n)
half_sent true true false true dead begun_one refused e d b r n = absurd (begun_name begun_one.name (ap has_begun b) n)
half_sent true true false false dead begun_one refused e d b r n = refl
half_sent true false true syn dead begun_one refused e d b r n = refl
half_sent true false false syn dead begun_one refused e d b r n = r
half_sent false right rst syn dead begun_one refused e d b r n = refl

-- what the answered and the refusing endpoint keep
answered_keeps : (e : Tcb) (p : Segment) → ((answered e p).reset_reply ≡ e.reset_reply) × ((answered e p).retransmission_due ≡ e.retransmission_due) × ((answered e p).reset ≡ e.reset)
unfolding answered
answered_keeps e p = (refl, refl, refl)

refusing_keeps : (e : Tcb) (p : Segment) → ((with_reset_reply e p).retransmission_due ≡ e.retransmission_due) × ((with_reset_reply e p).reset ≡ e.reset) × ((with_reset_reply e p).sending ≡ e.sending)
unfolding with_reset_reply
refusing_keeps e p = (refl, refl, refl)

segment_sent : (iss limit : ℕ) (e : Tcb) (p : Segment) → IsConnecting iss limit e
    → received e p ≡ checked (has_ack p) (int_eq (ack_at e p) (pos 0)) (has_rst p) (has_syn p) (with_reset e) (answered e p) (with_reset_reply e p) e
unfolding in_syn_sent
segment_sent iss limit e p c = received_by e p c.name

-- the own initial number is the one that the SYN has
right_is : (iss limit : ℕ) (e : Tcb) (p : Segment) → IsConnecting iss limit e → (has_ack p && int_eq (ack_at e p) (pos 0)) ≡ acknowledges_syn iss p
right_is iss limit e p c = ap (λ (s : Sending). has_ack p && int_eq (ack_at (record e { sending = s }) p) (pos 0)) c.sending

reset_reply_sent : (iss limit : ℕ) (news : News) (e : Tcb) → IsConnecting iss limit e → reset_reply_segments (arrived news e).reset_reply ≡ refused_in_syn_sent e.local iss news
unfolding after_tick timer_ticked waited
reset_reply_sent iss limit (Comes p) e c =
    ap (λ (t : Tcb). reset_reply_segments t.reset_reply) (segment_sent iss limit e p c)
    ∙ refused_sent (has_ack p) (int_eq (ack_at e p) (pos 0)) (has_rst p) (has_syn p) (with_reset e) (answered e p) e p c.reset_reply ((answered_keeps e p).0 ∙ c.reset_reply) c.reset_reply
    ∙ ap (λ b. if has_ack p && not b && not (has_rst p) then rst_at_ack e.local p ∷ [] else []) (right_is iss limit e p c)
reset_reply_sent iss limit (Logged kept) e c = ap reset_reply_segments c.reset_reply
reset_reply_sent iss limit Ticks e c = ap reset_reply_segments c.reset_reply
reset_reply_sent iss limit Begins e c = ap reset_reply_segments c.reset_reply

still_sent : (e : Tcb) → e.name ≡ SynSent → (after_tick e).name ≡ SynSent
unfolding after_tick timer_ticked waited
still_sent e name = ap (λ n. if is_time_wait n && nat_lt e.wait 2 then Closed else n) name

pub syn_sent_states_law : (iss limit : ℕ) (news : News) (e : Tcb) → IsConnecting iss limit e
    → ((arrived news e).name ≡ state_after_syn_sent iss news) × ((arrived news e).reset ≡ (e.reset || resets_in_syn_sent iss news))
unfolding after_tick timer_ticked waited
syn_sent_states_law iss limit (Comes p) e c =
    let ack : Bool = has_ack p in
    let right : Bool = int_eq (ack_at e p) (pos 0) in
    let is : (ack && right) ≡ acknowledges_syn iss p = right_is iss limit e p c in (
      ap (λ (t : Tcb). t.name) (segment_sent iss limit e p c)
          ∙ name_sent ack right (has_rst p) (has_syn p) (with_reset e) (answered e p) (with_reset_reply e p) e refl (answered_name e p) (refusing_name e p ∙ c.name) c.name
          ∙ ap (λ b. if b && has_rst p then Closed else (if b && not (has_rst p) && has_syn p then Established else SynSent)) is,
      ap (λ (t : Tcb). t.reset) (segment_sent iss limit e p c)
          ∙ reset_sent ack right (has_rst p) (has_syn p) (with_reset e) (answered e p) (with_reset_reply e p) e refl (answered_keeps e p).2 (refusing_keeps e p).1
          ∙ ap (λ b. e.reset || (b && has_rst p)) is,
    )
syn_sent_states_law iss limit (Logged kept) e c = (c.name, or_false e.reset)
syn_sent_states_law iss limit Ticks e c = (still_sent e c.name, or_false e.reset)
syn_sent_states_law iss limit Begins e c = (c.name, or_false e.reset)

-- whether the SYN is due again
retransmission_sent : (iss limit : ℕ) (news : News) (e : Tcb) → IsConnecting iss limit e → (arrived news e).retransmission_due ≡ expires_at news e.sending
unfolding after_tick timer_ticked waited
retransmission_sent iss limit (Comes p) e c =
    ap (λ (t : Tcb). t.retransmission_due) (segment_sent iss limit e p c)
    ∙ same_sent (λ (t : Tcb). t.retransmission_due) (has_ack p) (int_eq (ack_at e p) (pos 0)) (has_rst p) (has_syn p) (with_reset e) (answered e p) (with_reset_reply e p) e
    refl (answered_keeps e p).1 (refusing_keeps e p).0
    ∙ c.retransmission_due
retransmission_sent iss limit (Logged kept) e c = c.retransmission_due
retransmission_sent iss limit Ticks e c =
    (λ i. c.retransmission_due i || (expires e.sending && (not (c.sending i).syn_acked || nat_lt e.sending.una e.sending.sent))) ∙ and_true (expires e.sending)
retransmission_sent iss limit Begins e c = c.retransmission_due

-- the SYN's fields
first_window : (limit : ℕ) → window (receiving_up_to (kept_limit limit)) ≡ min 65535 limit
first_window limit = omega arith

pub syn_is : (local remote : Addr) (iss limit : ℕ) → opening_segment (connecting local remote iss limit) ≡ syn_of local remote iss limit
unfolding opening_segment head_at connecting listening
syn_is local remote iss limit = λ i. record {
  head = record {
    src = local.ip;
    dst = remote.ip;
    sport = local.port;
    dport = remote.port;
    seq = iss;
    ack = 0;
    flags = 2;
    window = first_window limit i;
    mss = Some 1460;
    timestamps = None;
  };
  payload = [];
}

append_none : (segments : List Segment) (b : Bool) (x : Segment) → b ≡ false → segments ≡ segments ++ (if b then x ∷ [] else [])
append_none segments true x h = absurd (false≢true (sym h))
append_none segments false x h = sym (append-nil segments)

append_due : (b : Bool) (x : Segment) → b ≡ true → x ∷ [] ≡ [] ++ (if b then x ∷ [] else [])
append_due true x h = refl
append_due false x h = absurd (false≢true h)

not_sent_name : (name : StateName) → name ≡ Closed → is_syn_sent name ≡ false
not_sent_name name h = ap is_syn_sent h

-- no RST answers at a tick
refused_none : (local : Addr) (iss : ℕ) (news : News) (s : Sending) → expires_at news s ≡ true → refused_in_syn_sent local iss news ≡ []
refused_none local iss (Comes p) s h = absurd (false≢true h)
refused_none local iss (Logged kept) s h = absurd (false≢true h)
refused_none local iss Ticks s h = refl
refused_none local iss Begins s h = absurd (false≢true h)

-- what leaves, by the state before the flush
sends_in : (iss limit : ℕ) (news : News) (calls : List Call) (e : Tcb) → IsConnecting iss limit e → MayUse calls (arrived news e) → (before_flush news calls e).name ≡ SynSent
    → sent_in news calls e
    ≡ refused_in_syn_sent e.local iss news
    ++ (if is_syn_sent (before_flush news calls e).name && expires_at news e.sending then syn_of e.local e.remote iss limit ∷ [] else [])
sends_in iss limit news calls e c may still =
    let m : Tcb = arrived news e in
    let u : Tcb = used calls m in
    let reset_reply : reset_reply_segments u.reset_reply ≡ refused_in_syn_sent e.local iss news = ap reset_reply_segments (reset_reply_used calls m) ∙ reset_reply_sent iss limit news e c in
    let retransmission_due : u.retransmission_due ≡ expires_at news e.sending = retransmission_used calls m ∙ retransmission_sent iss limit news e c in
    let here : Connects e.local e.remote iss limit u =
    connects_used e.local e.remote iss limit calls m may still (connects_arrived iss limit news e c (sent_before calls m still)) in
    let syn : Segment = syn_of e.local e.remote iss limit in
    let P : List Segment → Type 0 = λ segments.
    segments ≡ refused_in_syn_sent e.local iss news ++ (if is_syn_sent u.name && expires_at news e.sending then syn ∷ [] else []) in
    by_cases (expires_at news e.sending)
    (λ due.
    let none : u.reset_reply ≡ None = reset_reply_none u.reset_reply (reset_reply ∙ refused_none e.local iss news e.sending due) in
    syn_leaves e.local e.remote iss limit u here (retransmission_due ∙ due) none ∙ ap (λ x. x ∷ []) (syn_is e.local e.remote iss limit)
    ∙ append_due (is_syn_sent u.name && expires_at news e.sending) syn (and_from (is_syn_sent u.name) (expires_at news e.sending) (ap is_syn_sent still) due)
    ∙ ap (λ xs. xs ++ (if is_syn_sent u.name && expires_at news e.sending then syn ∷ [] else [])) (sym (refused_none e.local iss news e.sending due)))
    (λ none. syn_sent_sends u still (retransmission_due ∙ none) ∙ reset_reply
    ∙ append_none (refused_in_syn_sent e.local iss news) (is_syn_sent u.name && expires_at news e.sending) syn (and_right (is_syn_sent u.name) (expires_at news e.sending) none))

sends_out : (iss limit : ℕ) (news : News) (calls : List Call) (e : Tcb) → IsConnecting iss limit e → (before_flush news calls e).name ≡ Closed
    → sent_in news calls e
    ≡ refused_in_syn_sent e.local iss news
    ++ (if is_syn_sent (before_flush news calls e).name && expires_at news e.sending then syn_of e.local e.remote iss limit ∷ [] else [])
sends_out iss limit news calls e c closed =
    let m : Tcb = arrived news e in
    let u : Tcb = used calls m in
    closed_sends u closed ∙ ap reset_reply_segments (reset_reply_used calls m) ∙ reset_reply_sent iss limit news e c
    ∙ append_none (refused_in_syn_sent e.local iss news) (is_syn_sent u.name && expires_at news e.sending) (syn_of e.local e.remote iss limit)
    (and_left (is_syn_sent u.name) (expires_at news e.sending) (not_sent_name u.name closed))

-- in a turn that doesn't begin the connection
sent_or_closed : (iss limit : ℕ) (news : News) (calls : List Call) (e : Tcb) → IsConnecting iss limit e → MayUse calls (arrived news e)
    → has_begun (before_flush news calls e).name ≡ false → ((before_flush news calls e).name ≡ SynSent) ⊎ ((before_flush news calls e).name ≡ Closed)
sent_or_closed iss limit news calls e c may unbegun =
    let m : Tcb = arrived news e in
    let u : Tcb = used calls m in
    let a : IsUsed m u = used_is calls m may in
    let is : m.name ≡ state_after_syn_sent iss news = (syn_sent_states_law iss limit news e c).0 in
    by_cases (resets_in_syn_sent iss news)
    (λ r. inr (closed_by_calls calls m (is ∙ ap (λ b. if b then Closed else (if answers_in_syn_sent iss news then Established else SynSent)) r)))
    (λ r. by_cases (answers_in_syn_sent iss news)
    (λ h. absurd (false≢true (sym unbegun ∙ a.begun (ap has_begun (is ∙ (λ i. if r i then Closed else (if h i then Established else SynSent)))))))
    (λ h. still_or_closed SynSent refl calls m (is ∙ (λ i. if r i then Closed else (if h i then Established else SynSent)))))

pub syn_sent_sends_law : (iss limit : ℕ) (news : News) (calls : List Call) (e : Tcb) → IsConnecting iss limit e → MayUse calls (arrived news e)
    → has_begun (before_flush news calls e).name ≡ false
    → sent_in news calls e
    ≡ refused_in_syn_sent e.local iss news
    ++ (if is_syn_sent (before_flush news calls e).name && expires_at news e.sending then syn_of e.local e.remote iss limit ∷ [] else [])
syn_sent_sends_law iss limit news calls e c may unbegun =
    ⊎_elim (λ h. sends_in iss limit news calls e c may h) (λ h. sends_out iss limit news calls e c h) (sent_or_closed iss limit news calls e c may unbegun)

-- the timer
waiting_is_timed : (local remote : Addr) (iss limit : ℕ) (u : Tcb) → Connects local remote iss limit u → is_timed (after_full u) ≡ true
unfolding after_full with_timed with_fin_out with_text_sent with_probe
waiting_is_timed local remote iss limit u c =
    let P : Tcb → Type 0 = λ t. is_timed (after_full t) ≡ true in subst P (sym (still_connecting local remote iss limit u c)) refl

some_rest : (runs : Bool) (rest n m : ℕ) → runs ≡ true → 1 ≤ rest → (if runs then (if rest == 0 then n else m) else n) ≡ m
some_rest true rest n m is some = grind (arith, some)
some_rest false rest n m is some = absurd (false≢true is)

some_left : (runs : Bool) (base rest : ℕ) → runs ≡ true → 1 ≤ rest → (if runs then (if rest == 0 then base else rest) else 0) ≡ rest
some_left true base rest is some = grind (arith, some)
some_left false base rest is some = absurd (false≢true is)

unmoved : (e u : Tcb) → 1 ≤ e.sending.rest → is_timed (after_full u) ≡ true → u.sending.interval ≡ e.sending.interval → u.sending.rest ≡ e.sending.rest
    → IsTimedBy (flushed u).sending e.sending.interval e.sending.rest
unmoved e u some runs interval rest =
    let base : ℕ = u.sending.timing.base in
    let t = flushed_timer u base e.sending.interval e.sending.rest refl interval rest in
    record {
      interval = t.interval ∙ some_rest (is_timed (after_full u)) e.sending.rest base e.sending.interval runs some;
      rest = t.rest ∙ some_left (is_timed (after_full u)) base e.sending.rest runs some;
    }

half_arrived : (iss limit : ℕ) (e : Tcb) (p : Segment) → IsConnecting iss limit e → (received e p).name ≡ SynSent → (received e p).sending ≡ e.sending
half_arrived iss limit e p c still =
    let same = segment_sent iss limit e p c in
    ap (λ (t : Tcb). t.sending) same
    ∙ half_sent (has_ack p) (int_eq (ack_at e p) (pos 0)) (has_rst p) (has_syn p) (with_reset e) (answered e p) (with_reset_reply e p) e refl (answered_name e p) (refusing_keeps e p).2
    (ap (λ (t : Tcb). t.name) (sym same) ∙ still)

timed_sent : (iss limit : ℕ) (news : News) (e u : Tcb) → IsConnecting iss limit e → (arrived news e).name ≡ SynSent → is_timed (after_full u) ≡ true
    → u.sending.timing ≡ (arrived news e).sending.timing → u.sending.interval ≡ (arrived news e).sending.interval → u.sending.rest ≡ (arrived news e).sending.rest
    → IsTimedBy (flushed u).sending (interval_waiting news e.sending) (rest_waiting news e.sending)
timed_sent iss limit (Comes p) e u c still runs timing interval rest =
    let same : (received e p).sending ≡ e.sending = half_arrived iss limit e p c still in
    unmoved e u c.runs runs (interval ∙ ap (λ (s : Sending). s.interval) same) (rest ∙ ap (λ (s : Sending). s.rest) same)
timed_sent iss limit (Logged kept) e u c still runs timing interval rest = unmoved e u c.runs runs interval rest
timed_sent iss limit Ticks e u c still runs timing interval rest =
    let base : u.sending.timing.base ≡ (timing_ticked e.sending).base = ap (λ (x : Timing). x.base) (timing ∙ ticked_timing e) in
    let P : Bool → ℕ → Type 0 = λ b n. IsTimedBy (flushed u).sending (ticked_interval b n e.sending) (ticked_rest b n e.sending) in
    subst (P true) base (subst (λ b. P b u.sending.timing.base) runs (ticked_law e u c.interval timing interval rest))
timed_sent iss limit Begins e u c still runs timing interval rest = unmoved e u c.runs runs interval rest

pub syn_sent_times_law : (iss limit : ℕ) (news : News) (calls : List Call) (e : Tcb) → IsConnecting iss limit e → MayUse calls (arrived news e)
    → (before_flush news calls e).name ≡ SynSent
    → IsTimedBy (turned news calls e).sending (interval_waiting news e.sending) (rest_waiting news e.sending)
syn_sent_times_law iss limit news calls e c may still =
    let m : Tcb = arrived news e in
    let u : Tcb = used calls m in
    let before : m.name ≡ SynSent = sent_before calls m still in
    let a : IsUsed m u = used_is calls m may in
    let here : Connects e.local e.remote iss limit u =
    connects_used e.local e.remote iss limit calls m may still (connects_arrived iss limit news e c before) in
    timed_sent iss limit news e u c before (waiting_is_timed e.local e.remote iss limit u here) a.sends.timing a.sends.interval a.sends.rest

-- .. and starts with the SYN
timer_at_connect : (measures : Bool) (local remote : Addr) (iss limit : ℕ) → let s = (connecting_measuring measures local remote iss limit).sending in
    (s.timing.base ≡ first_base measures) × (s.interval ≡ first_base measures) × (s.rest ≡ 0)
unfolding connecting_measuring listening_measuring listening
timer_at_connect measures local remote iss limit = (refl, refl, refl)

pub opening_times_law : (measures : Bool) (local remote : Addr) (iss limit : ℕ) (calls : List Call)
    → MayUse calls (connecting_measuring measures local remote iss limit)
    → (used calls (connecting_measuring measures local remote iss limit)).name ≡ SynSent
    → IsTimedBy (flushed (used calls (connecting_measuring measures local remote iss limit))).sending (first_base measures) (first_base measures)
opening_times_law measures local remote iss limit calls may still =
    let m : Tcb = connecting_measuring measures local remote iss limit in
    let u : Tcb = used calls m in
    let a : IsUsed m u = used_is calls m may in
    let first = timer_at_connect measures local remote iss limit in
    let base : ℕ = first_base measures in
    let runs : is_timed (after_full u) ≡ true =
    waiting_is_timed local remote iss limit u (connects_used local remote iss limit calls m may still (connects_at_connect measures local remote iss limit)) in
    let t = flushed_timer u base base 0 (ap (λ (x : Timing). x.base) a.sends.timing ∙ first.0) (a.sends.interval ∙ first.1) (a.sends.rest ∙ first.2) in
    record { interval = t.interval ∙ ap (λ b. if b then base else base) runs; rest = t.rest ∙ ap (λ b. if b then base else 0) runs }

-- the turn of a SYN: the SYN-ACK leaves
call_opens : (call : Call) (t : Tcb) → (called call t).sending.syn_acked ≡ t.sending.syn_acked
call_opens (Reads n) t = refl
call_opens (Writes bytes) t = refl
call_opens Closes t = refl

begun_is_due : (e : Tcb) (p : Segment) → ((begun e p).retransmission_due ≡ true) × ((begun e p).reset_reply ≡ e.reset_reply) × ((begun e p).sending.syn_acked ≡ e.sending.syn_acked) × ((begun e p).name ≡ SynReceived)
unfolding begun
begun_is_due e p = (refl, refl, refl, refl)

pub syn_is_reported_law : (iss limit : ℕ) (syn : Segment) (calls : List Call) (e : Tcb) → IsListening iss limit e → is_syn syn ≡ true → ReadsOnlyTaken calls (received e syn)
    → AllByRecursion (Advertises (before_flush (Comes syn) calls e)) (sent_in (Comes syn) calls e) × (is_reported (sent_in (Comes syn) calls e) ≡ true)
syn_is_reported_law iss limit syn calls e l is may =
    let m : Tcb = received e syn in
    let u : Tcb = used calls m in
    let same : m ≡ begun e syn = begun_by e syn l.name is in
    let due = begun_is_due e syn in
    let there : has_begun u.name ≡ true = begun_used calls m (ap (λ (t : Tcb). has_begun t.name) same ∙ ap has_begun due.3) in
    let syn_unacked : u.sending.syn_acked ≡ false =
    used_keeps (λ (t : Tcb). t.sending.syn_acked) call_opens calls m ∙ ap (λ (t : Tcb). t.sending.syn_acked) same ∙ due.2 ∙ ap (λ (s : Sending). s.syn_acked) l.sending in (
      advertises_law (Comes syn) calls e l.reset_reply may there,
      retransmission_is_reported u there (reset_reply_used calls m ∙ ap (λ (t : Tcb). t.reset_reply) same ∙ due.1 ∙ l.reset_reply)
          (retransmission_used calls m ∙ ap (λ (t : Tcb). t.retransmission_due) same ∙ due.0) (ap (λ b. not b || nat_lt u.sending.una u.sending.sent) syn_unacked),
    )
