-- From its SYN on an endpoint that listened stands at a point: in the SYN's turn at the new connection's.
use Rattle.std.proofs.Common.{◌≡◌, ℕ, ◌≤◌, ◌+◌, ◌%◌, ◌^◌, Bool, true, false, not, List, [], ◌∷◌, ◌++◌, length, drop, max, min, None, refl, sym, ap, subst, arith, ◌∙◌}
use Rattle.std.specs.Prelude.{◌==◌, ◌&&◌, ◌||◌, nat_lt, if◌then◌else◌}
use Rattle.std.specs.Bool.{MatchBool}
use Rattle.std.proofs.lemmas.Bool.{false≢true}
use Rattle.std.proofs.Math.Seq.{drop-length}
use Rattle.ft_io.specs.declared.Addr.{Addr}
use Rattle.tcp_rules.specs.Coming.{early_from, nothing_early}
use Rattle.tcp_rules.specs.Congestion.{initial_congestion}
use Rattle.tcp_rules.specs.Timing.{Timing, first_base, initial_timing}
use Rattle.seq_arith.specs.Packet.{Segment}
use Rattle.ft_model.specs.Opening as opening
use Rattle.seq_arith.specs.Offset.{one_if}
use Rattle.ft_model.specs.Point.{Point}
use Rattle.ft_model.specs.News.News.{Comes}
use Rattle.ft_model.specs.Segments.{syn_ack}
use Rattle.tcp_endpoint.specs.States.{is_syn_sent, has_begun}
use Rattle.tcp_endpoint.specs.ReceiveHalf.{Receiving, taken}
use Rattle.tcp_endpoint.specs.SendHalf.{Sending, is_unacknowledged, target, send_edge, resent_length}
use Rattle.tcp_endpoint.specs.Tcb.{Tcb}
use Rattle.tcp_endpoint.specs.Arrival.{source, received, begun}
use Rattle.tcp_endpoint.specs.Output.{or_bare, with_advertised, with_turn_ended, with_fin_out, fin_at, text_at, reset_reply_segments, reset_reply_out, retransmitted_segment, opening_segment, retransmission_out, probe_out, with_probe, text_out, with_text_sent, fin_out, full_out, is_ack_pending, bare_segment, leaving, after_full, is_timed, flushed, with_timed}
use Rattle.endpoint_laws.specs.Laws.{IsBounded, ProbesRightly}
use Rattle.endpoint_laws.specs.Turn.{Call, MayUse, IsBetweenTurns, used, before_flush, turned}
use Rattle.endpoint_laws.specs.PassiveOpen.{IsListening}
use Rattle.endpoint_laws.specs.Refinement.{ReceivesAt, SendsAt, StandsAt, LeadsTo, BeginsAt, Step, RunsByLaws, numbers_with, point_begun}
use Rattle.endpoint_laws.specs.ConnectionEnd.{IsNamedRightly}
use Rattle.endpoint_laws.proofs.EndingLaw.{named_law, ending_law, begun_named_law}
use Rattle.endpoint_laws.proofs.Bounding.{bounded_in_listen}
use Rattle.endpoint_laws.proofs.Listening.{bounded_listening, begun_by}
use Rattle.endpoint_laws.proofs.TurnLaw.{sent_law, flushed_timer}
use Rattle.endpoint_laws.proofs.Calls.{FinIsLast, IsUsed, used_is, bounded_used}
use Rattle.endpoint_laws.proofs.Arrivals.{no_probe}
use Rattle.endpoint_laws.proofs.TurnEnd.{timing_law, flushed_sends, full_keeps, full_name}
use Rattle.endpoint_laws.proofs.Timings.{initial_keeps}
use Rattle.ft_io.proofs.Choices.{if_false}
use Rattle.endpoint_laws.proofs.Turns.{between_again, flushed_receives, flushed_remote, leads_law}
use Rattle.endpoint_laws.proofs.SegmentsLaw.{Reports, opening_at, one_retransmission, no_text_probe, no_fin_probe, probe_by, unprobed, no_text_out, no_fin_out, full_out_is}

-- an endpoint that a SYN has just opened
record Opened (measures : Bool) (local : Addr) (iss limit : ℕ) (syn : Segment) (m : Tcb) : Type 0 where
  local_is : m.local ≡ local
  remote : m.remote ≡ source syn
  begun : has_begun m.name ≡ true
  receiving : m.receiving ≡ record { irs = syn.head.seq; read = 0; unread = []; fin = false; early = nothing_early; limit = min limit (2 ^ 30) }
  iss_is : m.sending.iss ≡ iss
  mss : m.sending.mss ≡ opening.segment_size syn.head.mss
  syn_acked : m.sending.syn_acked ≡ false
  una : m.sending.una ≡ 0
  sent : m.sending.sent ≡ 0
  edge : m.sending.edge ≡ 0
  wl2 : m.sending.wl2 ≡ 0
  congestion : m.sending.congestion ≡ initial_congestion measures (opening.segment_size syn.head.mss)
  timing : m.sending.timing ≡ initial_timing measures
  fin_sent : m.sending.fin_sent ≡ false
  interval : m.sending.interval ≡ first_base measures
  rest : m.sending.rest ≡ 0
  retransmission_due : m.retransmission_due ≡ true
  probe : m.probe ≡ false
  reset_reply : m.reset_reply ≡ None

-- LISTEN takes the SYN
opened_by_syn : (e : Tcb) (iss limit : ℕ) (syn : Segment) → IsListening iss limit e → Opened e.sending.timing.measures e.local iss limit syn (begun e syn)
unfolding begun
opened_by_syn e iss limit syn l = record {
  local_is = refl;
  remote = refl;
  begun = refl;
  receiving = ap (λ (r : Receiving). record r { irs = syn.head.seq }) l.receiving;
  iss_is = ap (λ (s : Sending). s.iss) l.sending;
  mss = refl;
  syn_acked = ap (λ (s : Sending). s.syn_acked) l.sending;
  una = ap (λ (s : Sending). s.una) l.sending;
  sent = ap (λ (s : Sending). s.sent) l.sending;
  edge = ap (λ (s : Sending). s.edge) l.sending;
  wl2 = ap (λ (s : Sending). s.wl2) l.sending;
  congestion = ap (λ (s : Sending). initial_congestion s.congestion.recovers (opening.segment_size syn.head.mss)) l.sending;
  timing = ap (λ (s : Sending). s.timing) l.sending;
  fin_sent = ap (λ (s : Sending). s.fin_sent) l.sending;
  interval = ap (λ (s : Sending). s.interval) l.sending;
  rest = ap (λ (s : Sending). s.rest) l.sending;
  retransmission_due = refl;
  probe = l.probe;
  reset_reply = l.reset_reply;
}

pub none_more : (n : ℕ) → 0 + n ≡ n
none_more n = omega arith

-- the point and the endpoint, once the user has made calls
nothing_read : (read limit : ℕ) (unread : List ℕ) → read + length unread ≡ 0 → read ≡ 0
nothing_read read limit unread h = omega (arith, h)

kept_small : (limit fetched : ℕ) → limit + fetched ≡ 2 ^ 24 → min limit (2 ^ 30) + fetched ≡ 2 ^ 24
kept_small limit fetched h = omega (arith, h)

receives_begun : (measures : Bool) (local : Addr) (iss limit cisn : ℕ) (fetched : List ℕ) (syn : Segment) (m u : Tcb) → Opened measures local iss limit syn m → IsUsed m u
    → limit + length fetched ≡ 2 ^ 24 → syn.head.seq ≡ (cisn + length fetched) % 2 ^ 32 → ReceivesAt (point_begun measures fetched (numbers_with cisn iss syn)) u
receives_begun measures local iss limit cisn fetched syn m u o a whole number =
    let taken_none : taken u.receiving ≡ 0 = a.taken ∙ ap taken o.receiving in
    let read : u.receiving.read ≡ 0 = nothing_read u.receiving.read limit u.receiving.unread taken_none in
    let start : drop (m.receiving.read + length fetched) fetched ≡ m.receiving.unread =
    ap (λ (r : Receiving). drop (r.read + length fetched) fetched) o.receiving ∙ ap (λ n. drop n fetched) (none_more (length fetched)) ∙ drop-length fetched
    ∙ sym (ap (λ (r : Receiving). r.unread) o.receiving) in
    record {
      cisn = a.irs ∙ ap (λ (r : Receiving). r.irs) o.receiving ∙ number;
      limit = ap (λ n. n + length fetched) (a.limit ∙ ap (λ (r : Receiving). r.limit) o.receiving) ∙ kept_small limit (length fetched) whole;
      read = omega (arith, read);
      long = omega (arith, taken_none);
      unread = a.unread fetched (length fetched) start;
      fin = sym (a.fin ∙ ap (λ (r : Receiving). r.fin) o.receiving);
      early = ap (early_from (length fetched)) (sym (a.early ∙ ap (λ (r : Receiving). r.early) o.receiving));
    }

sends_begun : (measures : Bool) (local : Addr) (iss limit cisn : ℕ) (fetched : List ℕ) (syn : Segment) (m u : Tcb) → Opened measures local iss limit syn m → IsUsed m u
    → SendsAt (point_begun measures fetched (numbers_with cisn iss syn)) u
sends_begun measures local iss limit cisn fetched syn m u o a = record {
  sisn = sym (a.sends.iss ∙ o.iss_is);
  mss = sym (a.sends.mss ∙ o.mss);
  syn_acked = sym (a.sends.syn_acked ∙ o.syn_acked);
  una = sym (a.sends.una ∙ o.una);
  edge = sym (a.sends.edge ∙ o.edge);
  wl1 = λ h. absurd (false≢true (sym (a.sends.syn_acked ∙ o.syn_acked) ∙ h));
  wl2 = sym (a.sends.wl2 ∙ o.wl2);
  congestion = sym (a.sends.congestion ∙ o.congestion);
}

-- the SYN-ACK is all that leaves
only_the_first : (ack_pending : Bool) (bare first : Segment) → or_bare ack_pending bare (first ∷ []) ≡ first ∷ []
only_the_first ack_pending bare first = refl

unsent_syn : (u : Tcb) → u.sending.syn_acked ≡ false → is_unacknowledged u.sending ≡ true
unsent_syn u h = ap (λ o. not o || nat_lt u.sending.una u.sending.sent) h

syn_ack_leaves : (p : Point) (u : Tcb) → Reports p u → has_begun u.name ≡ true → u.retransmission_due ≡ true → u.probe ≡ false → u.reset_reply ≡ None → u.sending.syn_acked ≡ false
    → u.sending.edge ≤ u.sending.sent → leaving u ≡ syn_ack u.local p ∷ []
unfolding leaving full_out reset_reply_out retransmitted_segment
syn_ack_leaves p u t begun retransmission_due probe reset_reply syn_unacked shut =
    let still : (with_probe u).sending.edge ≤ (with_probe u).sending.sent = subst (λ (v : Tcb). v.sending.edge ≤ v.sending.sent) (sym (unprobed u probe)) shut in
    let first : retransmitted_segment u ≡ syn_ack u.local p =
    ap (λ b. if not b then opening_segment u else (if length u.sending.held == 0 then fin_at u 0 else text_at u 0 (resent_length u.sending))) syn_unacked
    ∙ opening_at p u t begun in
    ap (or_bare (is_ack_pending (after_full u)) (bare_segment (after_full u)))
    (full_out_is (reset_reply_out u) (retransmission_out u) (probe_out u) (text_out (with_probe u)) (fin_out (with_text_sent (with_probe u)))
    [] (syn_ack u.local p ∷ []) [] []
    (ap reset_reply_segments reset_reply)
    ((λ i. one_retransmission u begun retransmission_due (unsent_syn u syn_unacked) i ++ probe_by u false false (no_text_probe u probe) (no_fin_probe u probe) i) ∙ ap (λ s. s ∷ []) first)
    (no_text_out (with_probe u) still)
    (no_fin_out (with_probe u) still))

-- what is sent: nothing but the SYN-ACK
sent_none : (sent goal edge : ℕ) (probe : Bool) → sent ≡ 0 → edge ≡ 0 → probe ≡ false → 0 ≡ max sent (min goal edge) + one_if probe
sent_none sent goal edge true s e p = absurd (false≢true (sym p))
sent_none sent goal edge false s e p = omega (arith, s, e)

none_timed : (sent goal edge reach : ℕ) → edge ≤ sent → nat_lt sent (max sent (min goal (min edge reach))) ≡ false
none_timed sent goal edge reach h = grind (arith, h)

-- the timer runs, since the SYN is unacknowledged
runs_syn_unacked : (u : Tcb) → has_begun u.name ≡ true → u.sending.syn_acked ≡ false → is_timed (after_full u) ≡ true
runs_syn_unacked u begun syn_unacked =
    let v : Tcb = after_full u in
    let steady : v.sending.syn_acked ≡ u.sending.syn_acked =
    full_keeps (λ (q : Sending). q.syn_acked) u (record { sends = λ s n. refl; ends = λ s. refl; times = λ s t i r. refl }) in
    (λ i. (full_name u begun i || is_syn_sent v.name) && (not ((steady ∙ syn_unacked) i) || nat_lt v.sending.una (max v.sending.sent (target v.sending))))

opened_turn : (measures : Bool) (local : Addr) (iss limit cisn : ℕ) (fetched : List ℕ) (syn : Segment) (m u : Tcb) → Opened measures local iss limit syn m → IsUsed m u → IsBounded u
    → limit + length fetched ≡ 2 ^ 24 → syn.head.seq ≡ (cisn + length fetched) % 2 ^ 32
    → IsBetweenTurns (flushed u) × StandsAt (point_begun measures fetched (numbers_with cisn iss syn)) (flushed u)
    × (leaving u ≡ syn_ack local (point_begun measures fetched (numbers_with cisn iss syn)) ∷ [])
opened_turn measures local iss limit cisn fetched syn m u o a bounds whole number =
    let p : Point = point_begun measures fetched (numbers_with cisn iss syn) in
    let begun : has_begun u.name ≡ true = a.begun o.begun in
    let syn_acked : u.sending.syn_acked ≡ false = a.sends.syn_acked ∙ o.syn_acked in
    let probe : u.probe ≡ false = a.probe ∙ o.probe in
    let probes : ProbesRightly u = no_probe u probe in
    let last : FinIsLast u.sending = λ h. absurd (false≢true (sym (a.sends.fin_sent ∙ o.fin_sent) ∙ h)) in
    let receives : ReceivesAt p u = receives_begun measures local iss limit cisn fetched syn m u o a whole number in
    let sends : SendsAt p u = sends_begun measures local iss limit cisn fetched syn m u o a in
    let timing : u.sending.timing ≡ initial_timing measures = a.sends.timing ∙ o.timing in
    let base : ℕ = first_base measures in
    let timer = flushed_timer u base base 0 (ap (λ (x : Timing). x.base) timing) (a.sends.interval ∙ o.interval) (a.sends.rest ∙ o.rest) in
    let runs : is_timed (after_full u) ≡ true = runs_syn_unacked u begun syn_acked in
    let interval : (flushed u).sending.interval ≡ base = timer.interval ∙ ap (λ b. if b then base else base) runs in
    let rest : (flushed u).sending.rest ≡ base = timer.rest ∙ ap (λ b. if b then base else 0) runs in
    let shut : u.sending.edge ≤ u.sending.sent = omega (arith, a.sends.edge, o.edge) in
    let reports : Reports p u = record {
      ip = ap (λ (r : Addr). r.ip) (sym (a.remote ∙ o.remote));
      port = ap (λ (r : Addr). r.port) (sym (a.remote ∙ o.remote));
      sisn = sends.sisn;
      receives = receives;
      answered = omega arith;
      timestamping = refl;
    } in (
      between_again u begun bounds probes last (omega (arith, interval, (initial_keeps measures).base)),
      record {
        ip = reports.ip ∙ ap (λ (r : Addr). r.ip) (sym (flushed_remote u));
        port = reports.port ∙ ap (λ (r : Addr). r.port) (sym (flushed_remote u));
        receives = flushed_receives p u receives;
        sends = flushed_sends p u sends;
        sent = sent_none u.sending.sent (target u.sending) (send_edge u.sending) u.probe (a.sends.sent ∙ o.sent) (omega (arith, a.sends.edge, o.edge)) probe
            ∙ sym (sent_law u begun bounds probes);
        fetched_output = refl;
        interval = sym interval;
        rest = sym rest;
        timing = sym timing ∙ sym (timing_law u begun bounds probes
            ∙ if_false _ _ _ (none_timed u.sending.sent (target u.sending) u.sending.edge (u.sending.una + u.sending.congestion.cwnd) shut));
        delays = refl;
        timestamping = refl;
      },
      syn_ack_leaves p u reports begun (a.retransmission_due ∙ o.retransmission_due) probe (a.reset_reply ∙ o.reset_reply) syn_acked (omega (arith, a.sends.edge, o.edge))
          ∙ ap (λ l. syn_ack l p ∷ []) (a.local ∙ o.local_is),
    )

flushed_name : (u : Tcb) → has_begun u.name ≡ true → has_begun (flushed u).name ≡ true
unfolding flushed with_turn_ended with_advertised after_full with_timed with_fin_out with_text_sent with_probe
flushed_name u begun = begun

limit_small : (limit fetched : ℕ) → limit + fetched ≡ 2 ^ 24 → limit ≤ 2 ^ 24
limit_small limit fetched h = omega (arith, h)

pub begins_law : (e : Tcb) (iss limit cisn : ℕ) (fetched : List ℕ) (syn : Segment) (calls : List Call) → IsListening iss limit e
    → limit + length fetched ≡ 2 ^ 24 → opening.is_syn syn ≡ true → syn.head.seq ≡ (cisn + length fetched) % 2 ^ 32 → MayUse calls (received e syn)
    → BeginsAt (point_begun e.sending.timing.measures fetched (numbers_with cisn iss syn)) e syn calls
begins_law e iss limit cisn fetched syn calls l whole is number may =
    let m : Tcb = received e syn in
    let P : Tcb → Type 0 = λ t. Opened e.sending.timing.measures e.local iss limit syn t in
    let o : Opened e.sending.timing.measures e.local iss limit syn m = subst P (sym (begun_by e syn l.name is)) (opened_by_syn e iss limit syn l) in
    let last : FinIsLast m.sending = λ h. absurd (false≢true (sym o.fin_sent ∙ h)) in
    let b : IsBounded m =
    bounded_in_listen e syn l.name (ap (λ (s : Sending). s.syn_acked) l.sending) (bounded_listening iss limit e (limit_small limit (length fetched) whole) l) in
    let a : IsUsed m (used calls m) = used_is calls m may in
    let done = opened_turn e.sending.timing.measures e.local iss limit cisn fetched syn m (used calls m) o a (bounded_used calls m may last b) whole number in
    record { begun = flushed_name (used calls m) (a.begun o.begun); between = done.0; stands = done.1; segments = done.2 }

-- turn by turn
by_test : (b : Bool) (P Q : Type 0) → (b ≡ true → P) → (b ≡ false → Q) → MatchBool b P Q
by_test true P Q p q = p refl
by_test false P Q p q = q refl

runs_on : (steps : List Step) (before : Point) (e : Tcb) → has_begun e.name ≡ true → IsBetweenTurns e → IsNamedRightly e → StandsAt before e
    → RunsByLaws before e steps
runs_on [] before e begun between named stands = tt
runs_on (step ∷ steps) before e begun between named stands = λ s.
    by_test (has_begun (before_flush step.news step.calls e).name) _ _
    (λ begun_after. let led : LeadsTo step.user step.news before step.after e step.calls =
    leads_law step.user step.news step.calls before step.after e begun between stands s.usual s.may begun_after s.laws s.used in (
      led,
      runs_on steps step.after (turned step.news step.calls e) (flushed_name (before_flush step.news step.calls e) begun_after) led.between
          (named_law step.news step.calls e begun between named) led.stands,
    ))
    (λ ended. ending_law step.news step.calls e begun between named ended)

pub run_law : (e : Tcb) (iss limit cisn : ℕ) (fetched : List ℕ) (syn : Segment) (calls : List Call) (steps : List Step) → IsListening iss limit e
    → limit + length fetched ≡ 2 ^ 24 → opening.is_syn syn ≡ true → syn.head.seq ≡ (cisn + length fetched) % 2 ^ 32 → MayUse calls (received e syn)
    → BeginsAt (point_begun e.sending.timing.measures fetched (numbers_with cisn iss syn)) e syn calls
    × RunsByLaws (point_begun e.sending.timing.measures fetched (numbers_with cisn iss syn)) (turned (Comes syn) calls e) steps
run_law e iss limit cisn fetched syn calls steps l whole is number may =
    let b = begins_law e iss limit cisn fetched syn calls l whole is number may in
    (b, runs_on steps (point_begun e.sending.timing.measures fetched (numbers_with cisn iss syn)) (turned (Comes syn) calls e) b.begun b.between (begun_named_law e iss limit syn calls l is) b.stands)
