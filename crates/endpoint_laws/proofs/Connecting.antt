-- An endpoint in SYN-SENT stays as its SYN left it, but for what its user has written and the timer, until a SYN answers that acknowledges its
-- own. From then on it is as a connection that has begun has to be.
use Rattle.std.proofs.Common.{◌≡◌, ℕ, ◌≤◌, ◌+◌, ◌-◌, ◌*◌, ◌^◌, Bool, true, false, not, List, [], ◌∷◌, ◌++◌, length, length-append, min, None, refl, sym, ap, subst, arith, ◌∙◌}
use Rattle.std.specs.Prelude.{pos, ◌==◌, ◌&&◌, ◌||◌, nat_lt, if◌then◌else◌}
use Rattle.std.specs.List.{AllByRecursion}
use Rattle.std.proofs.lemmas.Bool.{false≢true}
use Rattle.ft_io.specs.declared.Addr.{Addr}
use Rattle.tcp_rules.specs.Arrival.{int_eq}
use Rattle.tcp_rules.specs.Congestion.{Congestion}
use Rattle.tcp_rules.specs.Timing.{Timing, with_tick, with_backoff}
use Rattle.seq_arith.specs.Packet.{Segment, has_syn, has_rst, has_ack}
use Rattle.tcp_rules.proofs.Coming.{nothing_behind}
use Rattle.tcp_rules.proofs.Congested.{opens}
use Rattle.ft_model.specs.News.{News}
use Rattle.ft_model.specs.News.News.{Comes, Logged, Ticks, Begins}
use Rattle.tcp_endpoint.specs.declared.states.StateName.{StateName}
use Rattle.tcp_endpoint.specs.declared.states.StateName.TheVariants.{Closed, Listen, SynSent, SynReceived, Established, FinWait1, FinWait2, CloseWait, Closing, LastAck, TimeWait}
use Rattle.tcp_endpoint.specs.States.{after_close, is_closed, is_time_wait, has_begun}
use Rattle.tcp_endpoint.specs.ReceiveHalf.{Receiving, receiving_up_to, read_out}
use Rattle.tcp_endpoint.specs.SendHalf.{Sending, sending_measuring, bytes_end, congestion_expired, expires, ticked, timed}
use Rattle.tcp_endpoint.specs.Tcb.{Tcb, kept_limit, listening, listening_measuring, connecting, connecting_measuring}
use Rattle.tcp_endpoint.specs.Arrival.{ack_at, received, received_in, in_syn_sent, answered, with_reset_reply, with_reset}
use Rattle.tcp_endpoint.specs.Output.{head_at, opening_segment, retransmitted_segment, reset_reply_out, retransmission_out, probe_out, text_out, texts, fin_out, full_out, is_ack_pending, leaving, with_advertised, with_turn_ended, with_fin_out, with_probe, with_text_sent, after_full, is_timed, flushed, with_timed}
use Rattle.tcp_endpoint.specs.UserCalls.{after_tick, timer_ticked, waited}
use Rattle.endpoint_laws.specs.Laws.{KeepsTime, Bounds, IsBounded, asks}
use Rattle.endpoint_laws.specs.Turn.{Call, MayCall, MayUse, IsBetweenTurns, arrived, called, used, before_flush, turned, sent_in}
use Rattle.endpoint_laws.specs.Turn.Call.{Reads, Writes, Closes}
use Rattle.endpoint_laws.specs.ConnectionEnd.{IsNamedRightly}
use Rattle.endpoint_laws.specs.Advertisement.{Advertises, is_reported, ReadsOnlyTaken}
use Rattle.endpoint_laws.specs.ActiveOpen.{IsConnecting, FieldsFit}
use Rattle.endpoint_laws.proofs.Bounding.{bounded_in_syn_sent}
use Rattle.endpoint_laws.proofs.Timings.{initial_keeps, tick_keeps, backoff_keeps, ticked_measures}
use Rattle.endpoint_laws.proofs.Calls.{FinIsLast, IsUsed, used_is, bounded_used}
use Rattle.endpoint_laws.proofs.Arrivals.{no_probe}
use Rattle.endpoint_laws.proofs.TurnLaw.{flushed_timer}
use Rattle.endpoint_laws.proofs.Turns.{between_again}
use Rattle.endpoint_laws.proofs.Listening.{read_none}
use Rattle.endpoint_laws.proofs.EndingLaw.{FollowsAt, used_keeps, used_follows, flush_follows, named_at, flushed_name}
use Rattle.endpoint_laws.proofs.Advertised.{reset_reply_used, advertises_law, unanswered_reports}
use Rattle.ft_io.proofs.Choices.{holds_if}
use Rattle.ft_io.proofs.Booleans.{and_false}

-- the sending half of an endpoint whose SYN is unacknowledged
pub record Unanswered (iss : ℕ) (s : Sending) : Type 0 where
  pub same : s ≡ record (sending_measuring s.timing.measures iss) { held = s.held; timing = s.timing; interval = s.interval; rest = s.rest }
  pub written : length s.held ≤ 2 ^ 24
  pub timing : KeepsTime s.timing
  pub interval : 1 ≤ s.interval

retimed : (iss interval rest : ℕ) (s : Sending) (t : Timing) → 1 ≤ interval → KeepsTime t → t.measures ≡ s.timing.measures → Unanswered iss s
    → Unanswered iss (record s { timing = t; interval = interval; rest = rest })
retimed iss interval rest s t some keeps measures u = record {
  same = ap (λ (q : Sending). record q { timing = t; interval = interval; rest = rest }) u.same
      ∙ ap (λ b. record (sending_measuring b iss) { held = s.held; timing = t; interval = interval; rest = rest }) (sym measures);
  written = u.written;
  timing = keeps;
  interval = some;
}

-- no unit of the stream is in flight, so none is lost
none_lost : (iss : ℕ) (s : Sending) → Unanswered iss s → congestion_expired s ≡ s.congestion
none_lost iss s u = ap congestion_expired u.same ∙ ap (λ (q : Sending). q.congestion) (sym u.same)

ticked_unanswered : (iss : ℕ) (s : Sending) → Unanswered iss s → Unanswered iss (ticked s)
ticked_unanswered iss s u =
    let longer : ℕ = min 64 (2 * s.interval) in
    let twice : 1 ≤ longer = omega (arith, u.interval) in
    holds_if (λ (t : Sending). Unanswered iss t) (expires s)
    (record s { congestion = congestion_expired s; timing = with_backoff longer s.timing; interval = longer; rest = longer })
    (record s { timing = with_tick s.timing; rest = s.rest - 1 })
    (λ h. subst (λ (c : Congestion). Unanswered iss (record s { congestion = c; timing = with_backoff longer s.timing; interval = longer; rest = longer }))
    (sym (none_lost iss s u))
    (retimed iss longer longer s (with_backoff longer s.timing) twice (backoff_keeps longer s.timing twice u.timing) (ticked_measures true longer s.timing) u))
    (λ h. retimed iss s.interval (s.rest - 1) s (with_tick s.timing) u.interval (tick_keeps s.timing u.timing) (ticked_measures false longer s.timing) u)

timed_unanswered : (iss : ℕ) (s : Sending) → Unanswered iss s → Unanswered iss (timed true s)
timed_unanswered iss s u =
    holds_if (λ (t : Sending). Unanswered iss t) (s.rest == 0) (record s { interval = s.timing.base; rest = s.timing.base }) s
    (λ h. retimed iss s.timing.base s.timing.base s s.timing u.timing.base u.timing refl u) (λ h. u)

runs_timed : (s : Sending) → KeepsTime s.timing → 1 ≤ (timed true s).rest
runs_timed s k =
    holds_if (λ (t : Sending). 1 ≤ t.rest) (s.rest == 0) (record s { interval = s.timing.base; rest = s.timing.base }) s (λ h. k.base) (λ h. grind (arith, h))

-- an endpoint in SYN-SENT within a turn, where something may be due
pub record Connects (local remote : Addr) (iss limit : ℕ) (u : Tcb) : Type 0 where
  pub local_is : u.local ≡ local
  pub remote_is : u.remote ≡ remote
  pub name : u.name ≡ SynSent
  pub receiving : u.receiving ≡ receiving_up_to (kept_limit limit)
  pub sending : Unanswered iss u.sending
  pub probe : u.probe ≡ false

connects_between : (iss limit : ℕ) (e : Tcb) → IsConnecting iss limit e → Connects e.local e.remote iss limit e
connects_between iss limit e c = record {
  local_is = refl;
  remote_is = refl;
  name = c.name;
  receiving = c.receiving;
  sending = record { same = c.sending; written = c.written; timing = c.timing; interval = c.interval };
  probe = c.probe;
}

pub connects_at_connect : (measures : Bool) (local remote : Addr) (iss limit : ℕ)
    → Connects local remote iss limit (connecting_measuring measures local remote iss limit)
unfolding connecting_measuring listening_measuring listening
connects_at_connect measures local remote iss limit = record {
  local_is = refl;
  remote_is = refl;
  name = refl;
  receiving = refl;
  sending = record { same = refl; written = omega arith; timing = initial_keeps measures; interval = (initial_keeps measures).base };
  probe = refl;
}

-- a tick lets the SYN go out again, and no probe
connects_ticked : (local remote : Addr) (iss limit : ℕ) (e : Tcb) → Connects local remote iss limit e → Connects local remote iss limit (after_tick e)
unfolding after_tick timer_ticked waited
connects_ticked local remote iss limit e c = record {
  local_is = c.local_is;
  remote_is = c.remote_is;
  name = ap (λ n. if is_time_wait n && nat_lt e.wait 2 then Closed else n) c.name;
  receiving = c.receiving;
  sending = ticked_unanswered iss e.sending c.sending;
  probe = (λ i. c.probe i || (expires e.sending && not (not (c.sending.same i).syn_acked || nat_lt e.sending.una e.sending.sent))) ∙ and_false (expires e.sending);
}

-- a segment that leaves SYN-SENT
connects_refusing : (local remote : Addr) (iss limit : ℕ) (e : Tcb) (p : Segment) → Connects local remote iss limit e
    → Connects local remote iss limit (with_reset_reply e p)
unfolding with_reset_reply
connects_refusing local remote iss limit e p c =
    record { local_is = c.local_is; remote_is = c.remote_is; name = c.name; receiving = c.receiving; sending = c.sending; probe = c.probe }

pub begun_name : (name : StateName) → has_begun name ≡ true → name ≡ SynSent → ⊥
begun_name name begun sent = false≢true (sym (ap has_begun sent) ∙ begun)

pub closed_name : (name : StateName) → name ≡ Closed → name ≡ SynSent → ⊥
closed_name name closed sent = false≢true (ap is_closed (sym sent ∙ closed))

pub answered_name : (e : Tcb) (p : Segment) → (answered e p).name ≡ Established
unfolding answered
answered_name e p = refl

pub refusing_name : (e : Tcb) (p : Segment) → (with_reset_reply e p).name ≡ e.name
unfolding with_reset_reply
refusing_name e p = refl

connects_in : (local remote : Addr) (iss limit : ℕ) (e : Tcb) (p : Segment) → Connects local remote iss limit e → (in_syn_sent e p).name ≡ SynSent
    → Connects local remote iss limit (in_syn_sent e p)
unfolding in_syn_sent
connects_in local remote iss limit e p c =
    let P : Tcb → Type 0 = λ t. t.name ≡ SynSent → Connects local remote iss limit t in
    let taken : Tcb = if has_rst p then with_reset e else (if has_syn p then answered e p else e) in
    let refused : Tcb = if has_rst p then e else with_reset_reply e p in
    holds_if P (has_ack p) (if int_eq (ack_at e p) (pos 0) then taken else refused) e
    (λ a. holds_if P (int_eq (ack_at e p) (pos 0)) taken refused
    (λ b. holds_if P (has_rst p) (with_reset e) (if has_syn p then answered e p else e)
    (λ r h. absurd (closed_name (with_reset e).name refl h))
    (λ r. holds_if P (has_syn p) (answered e p) e
    (λ s h. absurd (begun_name (answered e p).name (ap has_begun (answered_name e p)) h)) (λ s h. c)))
    (λ b. holds_if P (has_rst p) e (with_reset_reply e p) (λ r h. c) (λ r h. connects_refusing local remote iss limit e p c)))
    (λ a h. c)

pub received_by : (e : Tcb) (p : Segment) → e.name ≡ SynSent → received e p ≡ in_syn_sent e p
unfolding received
received_by e p name = ap (λ n. received_in n e p) name

-- what comes
pub connects_arrived : (iss limit : ℕ) (news : News) (e : Tcb) → IsConnecting iss limit e → (arrived news e).name ≡ SynSent
    → Connects e.local e.remote iss limit (arrived news e)
connects_arrived iss limit (Comes segment) e c still =
    let same : received e segment ≡ in_syn_sent e segment = received_by e segment c.name in
    let P : Tcb → Type 0 = λ t. Connects e.local e.remote iss limit t in
    subst P (sym same) (connects_in e.local e.remote iss limit e segment (connects_between iss limit e c) (ap (λ (t : Tcb). t.name) (sym same) ∙ still))
connects_arrived iss limit (Logged kept) e c still = connects_between iss limit e c
connects_arrived iss limit Ticks e c still = connects_ticked e.local e.remote iss limit e (connects_between iss limit e c)
connects_arrived iss limit Begins e c still = connects_between iss limit e c

-- no call leads into SYN-SENT, or makes a connection begin
sent_before_close : (name : StateName) → after_close name ≡ SynSent → name ≡ SynSent
sent_before_close Closed h = h
sent_before_close Listen h = absurd (closed_name Closed refl h)
sent_before_close SynSent h = refl
sent_before_close SynReceived h = h
sent_before_close Established h = absurd (begun_name FinWait1 refl h)
sent_before_close FinWait1 h = h
sent_before_close FinWait2 h = h
sent_before_close CloseWait h = absurd (begun_name LastAck refl h)
sent_before_close Closing h = h
sent_before_close LastAck h = h
sent_before_close TimeWait h = h

begun_before_close : (name : StateName) → has_begun (after_close name) ≡ true → has_begun name ≡ true
begun_before_close Closed h = h
begun_before_close Listen h = h
begun_before_close SynSent h = h
begun_before_close SynReceived h = refl
begun_before_close Established h = refl
begun_before_close FinWait1 h = refl
begun_before_close FinWait2 h = refl
begun_before_close CloseWait h = refl
begun_before_close Closing h = refl
begun_before_close LastAck h = refl
begun_before_close TimeWait h = refl

pub sent_before : (calls : List Call) (m : Tcb) → (used calls m).name ≡ SynSent → m.name ≡ SynSent
sent_before [] m h = h
sent_before (Reads n ∷ calls) m h = sent_before calls (called (Reads n) m) h
sent_before (Writes bytes ∷ calls) m h = sent_before calls (called (Writes bytes) m) h
sent_before (Closes ∷ calls) m h = sent_before_close m.name (sent_before calls (called Closes m) h)

begun_before : (calls : List Call) (m : Tcb) → has_begun (used calls m).name ≡ true → has_begun m.name ≡ true
begun_before [] m h = h
begun_before (Reads n ∷ calls) m h = begun_before calls (called (Reads n) m) h
begun_before (Writes bytes ∷ calls) m h = begun_before calls (called (Writes bytes) m) h
begun_before (Closes ∷ calls) m h = begun_before_close m.name (begun_before calls (called Closes m) h)

-- the calls read nothing, and add to what is written
connects_called : (local remote : Addr) (iss limit : ℕ) (call : Call) (m : Tcb) → MayCall call m → (called call m).name ≡ SynSent
    → Connects local remote iss limit m → Connects local remote iss limit (called call m)
connects_called local remote iss limit (Reads n) m may still c =
    let P : Receiving → Type 0 = λ r. n ≤ length r.unread in
    record {
      local_is = c.local_is;
      remote_is = c.remote_is;
      name = c.name;
      receiving = ap (λ r. read_out r n) c.receiving ∙ read_none (kept_limit limit) n (subst P c.receiving may);
      sending = c.sending;
      probe = c.probe;
    }
connects_called local remote iss limit (Writes bytes) m may still c =
    let P : Sending → Type 0 = λ s. bytes_end s + length bytes ≤ 2 ^ 24 in
    let few : bytes_end (record (sending_measuring m.sending.timing.measures iss) { held = m.sending.held; timing = m.sending.timing; interval = m.sending.interval; rest = m.sending.rest })
    + length bytes ≤ 2 ^ 24 =
    subst P c.sending.same may.1 in
    record {
      local_is = c.local_is;
      remote_is = c.remote_is;
      name = c.name;
      receiving = c.receiving;
      sending = record {
        same = ap (λ (s : Sending). record s { held = m.sending.held ++ bytes }) c.sending.same;
        written = omega (arith, few, length-append m.sending.held bytes);
        timing = c.sending.timing;
        interval = c.sending.interval;
      };
      probe = c.probe;
    }
connects_called local remote iss limit Closes m may still c =
    absurd (closed_name (called Closes m).name (ap after_close c.name) still)

pub connects_used : (local remote : Addr) (iss limit : ℕ) (calls : List Call) (m : Tcb) → MayUse calls m → (used calls m).name ≡ SynSent
    → Connects local remote iss limit m → Connects local remote iss limit (used calls m)
connects_used local remote iss limit [] m may still c = c
connects_used local remote iss limit (call ∷ calls) m may still c =
    connects_used local remote iss limit calls (called call m) may.1 still
    (connects_called local remote iss limit call m may.0 (sent_before calls (called call m) still) c)

-- the flush sends what is due, starts the timer where it doesn't run, and leaves the rest
abbrev Flushed : Addr → Addr → ℕ → ℕ → Tcb → Type 0
Flushed local remote iss limit e = IsConnecting iss limit e × (e.local ≡ local) × (e.remote ≡ remote)

pub still_connecting : (local remote : Addr) (iss limit : ℕ) (u : Tcb) → Connects local remote iss limit u
    → u ≡ record u {
      name = SynSent;
      receiving = receiving_up_to (kept_limit limit);
      sending = record (sending_measuring u.sending.timing.measures iss) { held = u.sending.held; timing = u.sending.timing; interval = u.sending.interval; rest = u.sending.rest };
      probe = false;
    }
still_connecting local remote iss limit u c = λ i.
    record u { name = c.name i; receiving = c.receiving i; sending = c.sending.same i; probe = c.probe i }

connects_flushed : (local remote : Addr) (iss limit : ℕ) (u : Tcb) → Connects local remote iss limit u → Flushed local remote iss limit (flushed u)
unfolding flushed with_turn_ended with_advertised after_full with_timed with_fin_out with_text_sent with_probe
connects_flushed local remote iss limit u c =
    let s : Sending = record (sending_measuring u.sending.timing.measures iss) { held = u.sending.held; timing = u.sending.timing; interval = u.sending.interval; rest = u.sending.rest } in
    let P : Tcb → Type 0 = λ t. IsConnecting iss limit (flushed t) in
    let unanswered : Unanswered iss (timed true s) = timed_unanswered iss s (record { same = refl; written = c.sending.written; timing = c.sending.timing; interval = c.sending.interval }) in (
      subst P (sym (still_connecting local remote iss limit u c)) (record {
        name = refl;
        receiving = refl;
        sending = unanswered.same;
        written = unanswered.written;
        timing = unanswered.timing;
        interval = unanswered.interval;
        runs = runs_timed s c.sending.timing;
        ack_pending = refl;
        retransmission_due = refl;
        probe = refl;
        reset_reply = refl;
      }),
      c.local_is,
      c.remote_is,
    )

pub connecting_law : (iss limit : ℕ) (news : News) (calls : List Call) (e : Tcb) → IsConnecting iss limit e → MayUse calls (arrived news e)
    → (before_flush news calls e).name ≡ SynSent
    → IsConnecting iss limit (turned news calls e) × ((turned news calls e).local ≡ e.local) × ((turned news calls e).remote ≡ e.remote)
connecting_law iss limit news calls e c may still =
    connects_flushed e.local e.remote iss limit (used calls (arrived news e))
    (connects_used e.local e.remote iss limit calls (arrived news e) may still
    (connects_arrived iss limit news e c (sent_before calls (arrived news e) still)))

-- an active open sends its SYN
pub syn_leaves : (local remote : Addr) (iss limit : ℕ) (u : Tcb) → Connects local remote iss limit u → u.retransmission_due ≡ true → u.reset_reply ≡ None
    → leaving u ≡ opening_segment (connecting local remote iss limit) ∷ []
unfolding leaving full_out reset_reply_out retransmission_out retransmitted_segment probe_out with_probe text_out texts with_text_sent fin_out is_ack_pending after_full with_timed with_fin_out opening_segment head_at connecting listening
syn_leaves local remote iss limit u c retransmission_due reset_reply =
    let s : Sending = record (sending_measuring u.sending.timing.measures iss) { held = u.sending.held; timing = u.sending.timing; interval = u.sending.interval; rest = u.sending.rest } in
    let alone : leaving (record u {
      local = local;
      remote = remote;
      name = SynSent;
      receiving = receiving_up_to (kept_limit limit);
      sending = s;
      retransmission_due = true;
      probe = false;
      reset_reply = None;
    }) ≡ opening_segment (connecting local remote iss limit) ∷ [] = refl in
    (λ i. leaving (record u {
      local = c.local_is i;
      remote = c.remote_is i;
      name = c.name i;
      receiving = c.receiving i;
      sending = c.sending.same i;
      retransmission_due = retransmission_due i;
      probe = c.probe i;
      reset_reply = reset_reply i;
    })) ∙ alone

retransmission_at_connect : (measures : Bool) (local remote : Addr) (iss limit : ℕ)
    → ((connecting_measuring measures local remote iss limit).retransmission_due ≡ true) × ((connecting_measuring measures local remote iss limit).reset_reply ≡ None)
unfolding connecting_measuring listening_measuring listening
retransmission_at_connect measures local remote iss limit = (refl, refl)

pub connect_law : (measures : Bool) (local remote : Addr) (iss limit : ℕ) (calls : List Call) → MayUse calls (connecting_measuring measures local remote iss limit)
    → (used calls (connecting_measuring measures local remote iss limit)).name ≡ SynSent
    → IsConnecting iss limit (flushed (used calls (connecting_measuring measures local remote iss limit)))
    × (leaving (used calls (connecting_measuring measures local remote iss limit)) ≡ opening_segment (connecting local remote iss limit) ∷ [])
connect_law measures local remote iss limit calls may still =
    let m : Tcb = connecting_measuring measures local remote iss limit in
    let u : Tcb = used calls m in
    let c : Connects local remote iss limit u = connects_used local remote iss limit calls m may still (connects_at_connect measures local remote iss limit) in
    let a : IsUsed m u = used_is calls m may in
    let due = retransmission_at_connect measures local remote iss limit in (
      (connects_flushed local remote iss limit u c).0,
      syn_leaves local remote iss limit u c (a.retransmission_due ∙ due.0) (a.reset_reply ∙ due.1),
    )

-- an endpoint that connects is within the bounds
unanswered_bounds : (measures : Bool) (iss limit interval rest : ℕ) (t : Timing) (held : List ℕ) → limit ≤ 2 ^ 24 → length held ≤ 2 ^ 24 → KeepsTime t → 1 ≤ interval
    → Bounds (receiving_up_to (kept_limit limit)) (record (sending_measuring measures iss) { held = held; timing = t; interval = interval; rest = rest })
unanswered_bounds measures iss limit interval rest t held small written keeps some = record {
  limit = omega (arith, small);
  taken = omega arith;
  early = nothing_behind 0 (min 65535 (kept_limit limit)) false (omega arith);
  order = omega arith;
  syn_unacked = λ h. refl;
  shut = λ h. refl;
  flight = omega arith;
  written = omega (arith, written);
  sent = omega arith;
  wl1 = λ h. absurd (false≢true h);
  wl1_fits = omega arith;
  wl2 = omega arith;
  edge = omega arith;
  reach = omega arith;
  congestion = opens measures 536 (omega arith);
  lost = omega arith;
  timing = keeps;
  interval = some;
}

bounded_connecting : (iss limit : ℕ) (e : Tcb) → limit ≤ 2 ^ 24 → IsConnecting iss limit e → IsBounded e
bounded_connecting iss limit e small c =
    let P : Receiving → Type 0 = λ r. Bounds r e.sending in
    let Q : Sending → Type 0 = λ s. Bounds (receiving_up_to (kept_limit limit)) s in
    subst P (sym c.receiving) (subst Q (sym c.sending) (unanswered_bounds e.sending.timing.measures iss limit e.sending.interval e.sending.rest e.sending.timing e.sending.held small
    c.written c.timing c.interval))

-- an endpoint whose SYN has just been answered
record Answered (m : Tcb) : Type 0 where
  follows : FollowsAt m
  fin_sent : m.sending.fin_sent ≡ false
  interval : m.sending.interval ≡ m.sending.timing.base
  rest : m.sending.rest ≡ 0
  ack_pending : m.ack_pending ≡ true
  probe : m.probe ≡ false
  reset_reply : m.reset_reply ≡ None

by_answer : (iss limit : ℕ) (e : Tcb) (p : Segment) → IsConnecting iss limit e → Answered (answered e p)
unfolding answered
by_answer iss limit e p c =
    let closed : e.sending.closed ≡ false = ap (λ (s : Sending). s.closed) c.sending in
    let fin : e.receiving.fin ≡ false = ap (λ (r : Receiving). r.fin) c.receiving in
    let unsent : e.sending.fin_sent ≡ false = ap (λ (s : Sending). s.fin_sent) c.sending in
    record {
      follows = record { placed = (refl, closed, fin); ends = λ k. absurd (false≢true (sym unsent ∙ k)); order = omega arith; unsent = λ k. unsent };
      fin_sent = unsent;
      interval = refl;
      rest = refl;
      ack_pending = refl;
      probe = c.probe;
      reset_reply = c.reset_reply;
    }

answered_in : (iss limit : ℕ) (e : Tcb) (p : Segment) → IsConnecting iss limit e → has_begun (in_syn_sent e p).name ≡ true → Answered (in_syn_sent e p)
unfolding in_syn_sent
answered_in iss limit e p c =
    let P : Tcb → Type 0 = λ t. has_begun t.name ≡ true → Answered t in
    let taken : Tcb = if has_rst p then with_reset e else (if has_syn p then answered e p else e) in
    let refused : Tcb = if has_rst p then e else with_reset_reply e p in
    let waits : P e = λ h. absurd (begun_name e.name h c.name) in
    holds_if P (has_ack p) (if int_eq (ack_at e p) (pos 0) then taken else refused) e
    (λ a. holds_if P (int_eq (ack_at e p) (pos 0)) taken refused
    (λ b. holds_if P (has_rst p) (with_reset e) (if has_syn p then answered e p else e)
    (λ r h. absurd (false≢true h))
    (λ r. holds_if P (has_syn p) (answered e p) e (λ s h. by_answer iss limit e p c) (λ s. waits)))
    (λ b. holds_if P (has_rst p) e (with_reset_reply e p) (λ r. waits)
    (λ r h. absurd (begun_name (with_reset_reply e p).name h (refusing_name e p ∙ c.name)))))
    (λ a. waits)

answered_by : (iss limit : ℕ) (news : News) (e : Tcb) → IsConnecting iss limit e → has_begun (arrived news e).name ≡ true → Answered (arrived news e)
answered_by iss limit (Comes segment) e c begun =
    let same : received e segment ≡ in_syn_sent e segment = received_by e segment c.name in
    let P : Tcb → Type 0 = λ t. Answered t in
    subst P (sym same) (answered_in iss limit e segment c (ap (λ (t : Tcb). has_begun t.name) (sym same) ∙ begun))
answered_by iss limit (Logged kept) e c begun = absurd (begun_name e.name begun c.name)
answered_by iss limit Ticks e c begun =
    absurd (begun_name (after_tick e).name begun (connects_ticked e.local e.remote iss limit e (connects_between iss limit e c)).name)
answered_by iss limit Begins e c begun = absurd (begun_name e.name begun c.name)

bounded_answered : (iss limit : ℕ) (news : News) (e : Tcb) → IsConnecting iss limit e → limit ≤ 2 ^ 24 → FieldsFit news → has_begun (arrived news e).name ≡ true
    → IsBounded (arrived news e)
bounded_answered iss limit (Comes segment) e c small fit begun =
    bounded_in_syn_sent e segment c.name (ap (λ (s : Sending). s.syn_acked) c.sending) (bounded_connecting iss limit e small c) fit.0 fit.1
bounded_answered iss limit (Logged kept) e c small fit begun = absurd (begun_name e.name begun c.name)
bounded_answered iss limit Ticks e c small fit begun =
    absurd (begun_name (after_tick e).name begun (connects_ticked e.local e.remote iss limit e (connects_between iss limit e c)).name)
bounded_answered iss limit Begins e c small fit begun = absurd (begun_name e.name begun c.name)

-- from then on it is between two turns of a connection that has begun
same_interval : (runs : Bool) (n : ℕ) → (if runs then n else n) ≡ n
same_interval true n = refl
same_interval false n = refl

pub answers_law : (iss limit : ℕ) (news : News) (calls : List Call) (e : Tcb) → IsConnecting iss limit e → limit ≤ 2 ^ 24 → FieldsFit news
    → MayUse calls (arrived news e) → has_begun (before_flush news calls e).name ≡ true
    → IsBetweenTurns (turned news calls e) × IsNamedRightly (turned news calls e) × (has_begun (turned news calls e).name ≡ true)
answers_law iss limit news calls e c small fit may begun =
    let m : Tcb = arrived news e in
    let u : Tcb = used calls m in
    let h : Answered m = answered_by iss limit news e c (begun_before calls m begun) in
    let bounds : IsBounded m = bounded_answered iss limit news e c small fit (begun_before calls m begun) in
    let last : FinIsLast m.sending = λ k. absurd (false≢true (sym h.fin_sent ∙ k)) in
    let a : IsUsed m u = used_is calls m may in
    let sent_last : FinIsLast u.sending = λ k. absurd (false≢true (sym (a.sends.fin_sent ∙ h.fin_sent) ∙ k)) in
    let base : ℕ = m.sending.timing.base in
    let timer = flushed_timer u base base 0 (ap (λ (x : Timing). x.base) a.sends.timing) (a.sends.interval ∙ h.interval) (a.sends.rest ∙ h.rest) in
    let interval : (flushed u).sending.interval ≡ base = timer.interval ∙ same_interval (is_timed (after_full u)) base in (
      between_again u begun (bounded_used calls m may last bounds) (no_probe u (a.probe ∙ h.probe)) sent_last (omega (arith, interval, bounds.timing.base)),
      named_at (flushed u) (flush_follows u (used_follows calls m h.follows)),
      ap has_begun (flushed_name u) ∙ begun,
    )

-- and a segment leaves that tells what is taken, and no RST does
call_ack_pending : (call : Call) (t : Tcb) → (called call t).ack_pending ≡ t.ack_pending
call_ack_pending (Reads n) t = refl
call_ack_pending (Writes bytes) t = refl
call_ack_pending Closes t = refl

pending_asks : (u : Tcb) → u.ack_pending ≡ true → asks u.ack_pending u ≡ true
pending_asks u ack_pending = ap (λ o. asks o u) ack_pending

pub answers_advertise_law : (iss limit : ℕ) (news : News) (calls : List Call) (e : Tcb) → IsConnecting iss limit e → ReadsOnlyTaken calls (arrived news e)
    → has_begun (before_flush news calls e).name ≡ true
    → AllByRecursion (Advertises (before_flush news calls e)) (sent_in news calls e) × (is_reported (sent_in news calls e) ≡ true)
answers_advertise_law iss limit news calls e c may begun =
    let m : Tcb = arrived news e in
    let u : Tcb = used calls m in
    let h : Answered m = answered_by iss limit news e c (begun_before calls m begun) in
    let ack_pending : u.ack_pending ≡ true = used_keeps (λ (t : Tcb). t.ack_pending) call_ack_pending calls m ∙ h.ack_pending in
    (advertises_law news calls e c.reset_reply may begun, unanswered_reports u begun (reset_reply_used calls m ∙ h.reset_reply) (pending_asks u ack_pending))
