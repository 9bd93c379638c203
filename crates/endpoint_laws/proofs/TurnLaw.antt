-- What the end of a turn sends, and when the timer runs.
use Rattle.std.proofs.Common.{◌≡◌, ℕ, ◌≤◌, ◌+◌, ◌-◌, ◌*◌, Bool, true, false, not, length, max, min, refl, sym, ap, subst, arith, ◌∙◌}
use Rattle.std.specs.Prelude.{ℤ, pos, ◌==◌, ◌&&◌, ◌||◌, nat_abs, nat_lt, int_le, if◌then◌else◌}
use Rattle.std.proofs.lemmas.Int.{ints}
use Rattle.std.proofs.lemmas.Bool.{false≢true}
use Rattle.tcp_rules.specs.Arrival.{is_new_ack}
use Rattle.tcp_rules.specs.Congestion.{Congestion}
use Rattle.seq_arith.specs.Packet.{Segment}
use Rattle.tcp_rules.specs.Timing.{Timing, with_acknowledged, with_sent as with_unit_sent}
use Rattle.seq_arith.specs.Offset.{one_if}
use Rattle.tcp_endpoint.specs.States.{has_begun}
use Rattle.tcp_endpoint.specs.SendHalf.{Sending, with_syn_acked, acknowledged, congestion_expired, timing_acknowledged, target, in_flight, send_edge, sendable, sends_fin, ticked, timed, with_sent, with_fin_sent}
use Rattle.tcp_endpoint.specs.Tcb.{Tcb}
use Rattle.tcp_endpoint.specs.Arrival.{ack_at, received}
use Rattle.tcp_endpoint.specs.Output.{probes, probes_text, probes_fin, with_probe, with_text_sent, with_fin_out, after_full, with_advertised, is_timed, with_turn_ended, flushed, with_timed}
use Rattle.tcp_endpoint.specs.UserCalls.{after_tick, timer_ticked, waited}
use Rattle.endpoint_laws.specs.Laws.{counts, shows_loss, IsBounded, IsUsual, ProbesRightly, sent_by_law, starts, interval_by, rest_by, ticked_interval, ticked_rest, IsTimedBy}
use Rattle.endpoint_laws.proofs.SendingLaw.{later_by, sending_is}
use Rattle.endpoint_laws.proofs.Timings.{unit_base, trip_base, measured}
use Rattle.ft_io.proofs.Choices.{holds_either_way}

-- the timer does not touch what is sent, nor the estimate
started : (b : Bool) (n : ℕ) (s : Sending) → (if b then record s { interval = n; rest = n } else s).sent ≡ s.sent
started true n s = refl
started false n s = refl

pub timed_sent : (runs : Bool) (s : Sending) → (timed runs s).sent ≡ s.sent
timed_sent true s = started (s.rest == 0) s.timing.base s
timed_sent false s = refl

started_timing : (b : Bool) (n : ℕ) (s : Sending) → (if b then record s { interval = n; rest = n } else s).timing ≡ s.timing
started_timing true n s = refl
started_timing false n s = refl

pub timed_timing : (runs : Bool) (s : Sending) → (timed runs s).timing ≡ s.timing
timed_timing true s = started_timing (s.rest == 0) s.timing.base s
timed_timing false s = refl

-- what a turn without a probe sends
no_probe : (o c f : Bool) (una len edge sent : ℕ) → (o ≡ false → sent ≡ 0) → (o ≡ false → edge ≡ 0) → sent ≤ una + len + one_if f
    → (if o && c && not f && (sent + (if o && not f then min (una + len) edge - sent else 0) == una + len) && nat_lt (sent + (if o && not f then min (una + len) edge - sent else 0)) edge
    then sent + (if o && not f then min (una + len) edge - sent else 0) + 1
    else sent + (if o && not f then min (una + len) edge - sent else 0))
    ≡ max sent (min (if f then sent else una + len + one_if c) edge)
no_probe false c true una len edge sent p q h = grind (arith, p refl, q refl)
no_probe false c false una len edge sent p q h = grind (arith, p refl, q refl)
no_probe true true true una len edge sent p q h = grind arith
no_probe true true false una len edge sent p q h = grind arith
no_probe true false true una len edge sent p q h = grind arith
no_probe true false false una len edge sent p q h = grind arith

-- the sending half after the steps of a flush, by the tests, but for the estimate
abbrev pub after_steps : (begun pt pf : Bool) → Sending → Sending
after_steps begun pt pf s =
    let probed : Sending = if pt then with_sent s 1 else (if pf then with_fin_sent s else s)
    in let texted : Sending = with_sent probed (if begun then sendable probed else 0)
    in if begun && sends_fin texted then with_fin_sent texted else texted

sent_of_if : (b : Bool) (x y : Sending) → (if b then x else y).sent ≡ (if b then x.sent else y.sent)
sent_of_if true x y = refl
sent_of_if false x y = refl

plain_steps : (s : Sending) → (s.syn_acked ≡ false → s.sent ≡ 0) → (s.syn_acked ≡ false → s.edge ≡ 0) → s.sent ≤ s.una + length s.held + one_if s.fin_sent
    → (after_steps true false false s).sent ≡ max s.sent (min (target s) (send_edge s))
plain_steps s p q h =
    let texted : Sending = with_sent s (sendable s)
    in sent_of_if (sends_fin texted) (with_fin_sent texted) texted ∙
    no_probe s.syn_acked s.closed s.fin_sent s.una (length s.held) (send_edge s) s.sent p (λ k. omega (arith, q k)) h

-- a byte is probed: nothing else has room
probed_text : (o c f : Bool) (una len edge sent : ℕ) → edge ≤ sent
    → (if o && c && not f && (sent + 1 + (if o && not f then min (una + len) edge - (sent + 1) else 0) == una + len)
    && nat_lt (sent + 1 + (if o && not f then min (una + len) edge - (sent + 1) else 0)) edge
    then sent + 1 + (if o && not f then min (una + len) edge - (sent + 1) else 0) + 1
    else sent + 1 + (if o && not f then min (una + len) edge - (sent + 1) else 0))
    ≡ sent + 1
probed_text false c true una len edge sent h = grind arith
probed_text false c false una len edge sent h = grind arith
probed_text true true true una len edge sent h = grind arith
probed_text true true false una len edge sent h = grind arith
probed_text true false true una len edge sent h = grind arith
probed_text true false false una len edge sent h = grind arith

text_steps : (s : Sending) → s.edge ≤ s.sent → (after_steps true true false s).sent ≡ s.sent + 1
text_steps s shut =
    let probed : Sending = with_sent s 1 in
    let texted : Sending = with_sent probed (sendable probed)
    in sent_of_if (sends_fin texted) (with_fin_sent texted) texted ∙
    probed_text s.syn_acked s.closed s.fin_sent s.una (length s.held) (send_edge s) s.sent (omega (arith, shut))

-- after a FIN nothing is sent
probed_fin : (o c : Bool) (una len edge sent n : ℕ)
    → (if o && c && not true && (sent + 1 + (if o && not true then n else 0) == una + len) && nat_lt (sent + 1 + (if o && not true then n else 0)) edge
    then sent + 1 + (if o && not true then n else 0) + 1
    else sent + 1 + (if o && not true then n else 0))
    ≡ sent + 1
probed_fin true true una len edge sent n = omega arith
probed_fin true false una len edge sent n = omega arith
probed_fin false c una len edge sent n = omega arith

fin_steps : (s : Sending) → (after_steps true false true s).sent ≡ s.sent + 1
fin_steps s =
    let probed : Sending = with_fin_sent s in
    let texted : Sending = with_sent probed (sendable probed)
    in sent_of_if (sends_fin texted) (with_fin_sent texted) texted ∙ probed_fin s.syn_acked s.closed s.una (length s.held) (send_edge s) s.sent _

-- the tests of a probe
pub fin_unsent : (f c : Bool) (una len sent : ℕ) → una ≡ sent → sent + 1 ≤ (if f then sent else una + len + one_if c) → f ≡ false
fin_unsent true c una len sent is h = absurd (omega arith)
fin_unsent false c una len sent is h = refl

pub waits_fin : (f c : Bool) (una len sent : ℕ) → una ≡ sent → sent + 1 ≤ (if f then sent else una + len + one_if c) → len ≡ 0 → c ≡ true
waits_fin true c una len sent is h none = absurd (omega arith)
waits_fin false true una len sent is h none = refl
waits_fin false false una len sent is h none = absurd (omega arith)

pub probing : (e : Tcb) → has_begun e.name ≡ true → e.sending.syn_acked ≡ true → e.sending.fin_sent ≡ false → e.probe ≡ true → probes e ≡ true
probing e begun is_syn_acked unsent is =
    ap (λ b. b && has_begun e.name && e.sending.syn_acked && not e.sending.fin_sent) is
    ∙ ap (λ b. true && b && e.sending.syn_acked && not e.sending.fin_sent) begun
    ∙ ap (λ b. true && true && b && not e.sending.fin_sent) is_syn_acked
    ∙ ap (λ b. true && true && true && not b) unsent

pub by_probe : (e : Tcb) (pt pf : Bool) → probes_text e ≡ pt → probes_fin e ≡ pf → has_begun e.name ≡ true
    → after_steps (has_begun e.name) (probes_text e) (probes_fin e) e.sending ≡ after_steps true pt pf e.sending
by_probe e pt pf is_text is_fin begun =
    ap (λ b. after_steps b (probes_text e) (probes_fin e) e.sending) begun
    ∙ ap (λ b. after_steps true b (probes_fin e) e.sending) is_text
    ∙ ap (λ b. after_steps true pt b e.sending) is_fin

no_more : (n : ℕ) (probe : Bool) → probe ≡ false → n ≡ n + one_if probe
no_more n true is = absurd (false≢true (sym is))
no_more n false is = omega arith

one_more : (sent target edge : ℕ) (probe : Bool) → probe ≡ true → edge ≤ sent → sent + 1 ≡ max sent (min target edge) + one_if probe
one_more sent target edge true is h = omega arith
one_more sent target edge false is h = absurd (false≢true is)

pub nothing_held : (una sent len : ℕ) → una ≡ sent → nat_lt (sent - una) len ≡ false → len ≡ 0
nothing_held una sent len is h = grind arith

pub steps_sent : (e : Tcb) (pr t : Bool) → e.probe ≡ pr → nat_lt (e.sending.sent - e.sending.una) (length e.sending.held) ≡ t
    → has_begun e.name ≡ true → IsBounded e → ProbesRightly e
    → (after_steps (has_begun e.name) (probes_text e) (probes_fin e) e.sending).sent ≡ sent_by_law e
steps_sent e false t is waits begun b right =
    let s : Sending = e.sending in
    let still : probes e ≡ false = ap (λ b. b && has_begun e.name && s.syn_acked && not s.fin_sent) is in
    let no_text : probes_text e ≡ false = ap (λ b. b && nat_lt (s.sent - s.una) (length s.held)) still in
    let no_fin : probes_fin e ≡ false = ap (λ b. b && not (nat_lt (s.sent - s.una) (length s.held)) && s.closed) still in
    ap (λ (q : Sending). q.sent) (by_probe e false false no_text no_fin begun)
    ∙ plain_steps s b.syn_unacked b.shut b.flight
    ∙ no_more (max s.sent (min (target s) (send_edge s))) e.probe is
steps_sent e true true is waits begun b right =
    let s : Sending = e.sending in
    let unsent : s.fin_sent ≡ false = fin_unsent s.fin_sent s.closed s.una (length s.held) s.sent (right.all_acked is) (right.waits is) in
    let on : probes e ≡ true = probing e begun (right.syn_acked is) unsent is in
    let text : probes_text e ≡ true = ap (λ b. b && nat_lt (s.sent - s.una) (length s.held)) on ∙ waits in
    let no_fin : probes_fin e ≡ false =
    ap (λ b. b && not (nat_lt (s.sent - s.una) (length s.held)) && s.closed) on ∙ ap (λ b. true && not b && s.closed) waits in
    ap (λ (q : Sending). q.sent) (by_probe e true false text no_fin begun)
    ∙ text_steps s (right.shut is)
    ∙ one_more s.sent (target s) (send_edge s) e.probe is (omega (arith, right.shut is))
steps_sent e true false is waits begun b right =
    let s : Sending = e.sending in
    let unsent : s.fin_sent ≡ false = fin_unsent s.fin_sent s.closed s.una (length s.held) s.sent (right.all_acked is) (right.waits is) in
    let none : length s.held ≡ 0 = nothing_held s.una s.sent (length s.held) (right.all_acked is) waits in
    let is_closed : s.closed ≡ true = waits_fin s.fin_sent s.closed s.una (length s.held) s.sent (right.all_acked is) (right.waits is) none in
    let on : probes e ≡ true = probing e begun (right.syn_acked is) unsent is in
    let no_text : probes_text e ≡ false = ap (λ b. b && nat_lt (s.sent - s.una) (length s.held)) on ∙ waits in
    let fin : probes_fin e ≡ true =
    ap (λ b. b && not (nat_lt (s.sent - s.una) (length s.held)) && s.closed) on ∙ ap (λ b. true && not b && s.closed) waits ∙ is_closed in
    ap (λ (q : Sending). q.sent) (by_probe e false true no_text fin begun)
    ∙ fin_steps s
    ∙ one_more s.sent (target s) (send_edge s) e.probe is (omega (arith, right.shut is))

pub sent_law : (e : Tcb) → has_begun e.name ≡ true → IsBounded e → ProbesRightly e → (flushed e).sending.sent ≡ sent_by_law e
unfolding flushed with_turn_ended with_advertised after_full with_timed with_fin_out with_text_sent with_probe
sent_law e begun b right =
    timed_sent (is_timed (after_full e)) (after_full e).sending
    ∙ steps_sent e e.probe (nat_lt (e.sending.sent - e.sending.una) (length e.sending.held)) refl refl begun b right

-- the timer, by whether it runs
started_is : (b : Bool) (n : ℕ) (s : Sending)
    → IsTimedBy (if b then record s { interval = n; rest = n } else s) (if b then n else s.interval) (if b then n else s.rest)
started_is true n s = record { interval = refl; rest = refl }
started_is false n s = record { interval = refl; rest = refl }

started_by : (runs : Bool) (s : Sending)
    → IsTimedBy (timed runs s) (if runs then (if s.rest == 0 then s.timing.base else s.interval) else s.timing.base)
    (if runs then (if s.rest == 0 then s.timing.base else s.rest) else 0)
started_by true s = started_is (s.rest == 0) s.timing.base s
started_by false s = record { interval = refl; rest = refl }

-- the steps of a flush leave the timer
interval_of_if : (b : Bool) (x y : Sending) → x.interval ≡ y.interval → (if b then x else y).interval ≡ y.interval
interval_of_if true x y same = same
interval_of_if false x y same = refl

rest_of_if : (b : Bool) (x y : Sending) → x.rest ≡ y.rest → (if b then x else y).rest ≡ y.rest
rest_of_if true x y same = same
rest_of_if false x y same = refl

steps_interval : (begun pt pf : Bool) (s : Sending) → (after_steps begun pt pf s).interval ≡ s.interval
steps_interval begun pt pf s =
    let probed : Sending = if pt then with_sent s 1 else (if pf then with_fin_sent s else s) in
    let texted : Sending = with_sent probed (if begun then sendable probed else 0) in
    let fin : (if pf then with_fin_sent s else s).interval ≡ s.interval = interval_of_if pf (with_fin_sent s) s refl in
    interval_of_if (begun && sends_fin texted) (with_fin_sent texted) texted refl
    ∙ interval_of_if pt (with_sent s 1) (if pf then with_fin_sent s else s) (sym fin)
    ∙ fin

steps_rest : (begun pt pf : Bool) (s : Sending) → (after_steps begun pt pf s).rest ≡ s.rest
steps_rest begun pt pf s =
    let probed : Sending = if pt then with_sent s 1 else (if pf then with_fin_sent s else s) in
    let texted : Sending = with_sent probed (if begun then sendable probed else 0) in
    let fin : (if pf then with_fin_sent s else s).rest ≡ s.rest = rest_of_if pf (with_fin_sent s) s refl in
    rest_of_if (begun && sends_fin texted) (with_fin_sent texted) texted refl
    ∙ rest_of_if pt (with_sent s 1) (if pf then with_fin_sent s else s) (sym fin)
    ∙ fin

timing_of_if : (b : Bool) (x y : Sending) → x.timing ≡ y.timing → (if b then x else y).timing ≡ y.timing
timing_of_if true x y same = same
timing_of_if false x y same = refl

pub steps_timing : (begun pt pf : Bool) (s : Sending) → (after_steps begun pt pf s).timing ≡ s.timing
steps_timing begun pt pf s =
    let probed : Sending = if pt then with_sent s 1 else (if pf then with_fin_sent s else s) in
    let texted : Sending = with_sent probed (if begun then sendable probed else 0) in
    let fin : (if pf then with_fin_sent s else s).timing ≡ s.timing = timing_of_if pf (with_fin_sent s) s refl in
    timing_of_if (begun && sends_fin texted) (with_fin_sent texted) texted refl
    ∙ timing_of_if pt (with_sent s 1) (if pf then with_fin_sent s else s) (sym fin)
    ∙ fin

-- the interval of the estimate at the end of a turn is that before the flush
pub full_base : (u : Tcb) → (after_full u).sending.timing.base ≡ u.sending.timing.base
unfolding after_full with_timed with_fin_out with_text_sent with_probe
full_base u =
    let sent : Sending = after_steps (has_begun u.name) (probes_text u) (probes_fin u) u.sending in
    holds_either_way (λ (t : Timing). t.base ≡ sent.timing.base) (nat_lt (in_flight (with_probe u).sending) (in_flight sent))
    (with_unit_sent (in_flight (with_probe u).sending + 1) sent.timing) sent.timing (unit_base _ sent.timing) refl
    ∙ ap (λ (t : Timing). t.base) (steps_timing (has_begun u.name) (probes_text u) (probes_fin u) u.sending)

-- the timer after a flush, by what it was before
pub flushed_timer : (u : Tcb) (base interval rest : ℕ) → u.sending.timing.base ≡ base → u.sending.interval ≡ interval → u.sending.rest ≡ rest
    → IsTimedBy (flushed u).sending (if is_timed (after_full u) then (if rest == 0 then base else interval) else base)
    (if is_timed (after_full u) then (if rest == 0 then base else rest) else 0)
unfolding flushed with_turn_ended with_advertised after_full with_timed with_fin_out with_text_sent with_probe
flushed_timer u base interval rest is_base is_interval is_rest =
    let after : Sending = (after_full u).sending in
    let runs : Bool = is_timed (after_full u) in
    let b : after.timing.base ≡ base = full_base u ∙ is_base in
    let i : after.interval ≡ interval = steps_interval (has_begun u.name) (probes_text u) (probes_fin u) u.sending ∙ is_interval in
    let r : after.rest ≡ rest = steps_rest (has_begun u.name) (probes_text u) (probes_fin u) u.sending ∙ is_rest in
    let t : IsTimedBy (timed runs after) (if runs then (if after.rest == 0 then after.timing.base else after.interval) else after.timing.base)
    (if runs then (if after.rest == 0 then after.timing.base else after.rest) else 0) = started_by runs after
    in record {
      interval = t.interval ∙ (λ k. if runs then (if r k == 0 then b k else i k) else b k);
      rest = t.rest ∙ (λ k. if runs then (if r k == 0 then b k else r k) else 0);
    }

-- the timer of m is that of s, but where it starts anew, with the interval of its estimate
record Agrees (s m : Sending) : Type 0 where
  interval : (if m.rest == 0 then m.timing.base else m.interval) ≡ (if starts s m then m.timing.base else s.interval)
  rest : (if m.rest == 0 then m.timing.base else m.rest) ≡ (if starts s m then m.timing.base else s.rest)

same_agrees : (o : Bool) (una rest interval base : ℕ)
    → ((if rest == 0 then base else interval) ≡ (if (rest == 0) || nat_lt una una || (o && not o) then base else interval))
    × ((if rest == 0 then base else rest) ≡ (if (rest == 0) || nat_lt una una || (o && not o) then base else rest))
same_agrees true una rest interval base = (grind arith, grind arith)
same_agrees false una rest interval base = (grind arith, grind arith)

later_agrees : (una sent rest interval base : ℕ) (z : ℤ)
    → ((if (if is_new_ack una sent z then (if int_le (pos sent) z then 0 else base) else rest) == 0 then base else (if is_new_ack una sent z then base else interval))
    ≡ (if (rest == 0) || nat_lt una (if is_new_ack una sent z then nat_abs z else una) || (true && not true) then base else interval))
    × ((if (if is_new_ack una sent z then (if int_le (pos sent) z then 0 else base) else rest) == 0 then base else (if is_new_ack una sent z then (if int_le (pos sent) z then 0 else base) else rest))
    ≡ (if (rest == 0) || nat_lt una (if is_new_ack una sent z then nat_abs z else una) || (true && not true) then base else rest))
later_agrees una sent rest interval base z = (grind (arith, ints), grind (arith, ints))

first_agrees : (a b : Bool) (n base : ℕ) → base ≡ (if a || b || (true && not false) then base else n)
first_agrees true true n base = refl
first_agrees true false n base = refl
first_agrees false true n base = refl
first_agrees false false n base = refl

-- what an acknowledgement makes of the estimate's interval
later_base : (e : Tcb) (p : Segment) → IsBounded e → (later_by e p).timing.base ≡ (timing_acknowledged e.sending (ack_at e p)).base
unfolding acknowledged
later_base e p b =
    let s : Sending = e.sending in
    let z : ℤ = ack_at e p in
    let una : ℕ = if is_new_ack s.una s.sent z then nat_abs z else s.una in
    trip_base (shows_loss e p) (with_acknowledged (una - s.una) s.timing)
    ∙ ap (λ (t : Timing). t.base) (sym (measured (is_new_ack s.una s.sent z) s.una (nat_abs z) s.timing b.timing))

agrees : (e : Tcb) (p : Segment) (c o : Bool) → IsBounded e → e.sending.syn_acked ≡ o
    → Agrees e.sending
    (if c then (if o then later_by e p else with_syn_acked e.sending p.head.seq p.head.window) else e.sending)
unfolding acknowledged
agrees e p true true b is =
    let s : Sending = e.sending in
    let z : ℤ = ack_at e p in
    let base : ℕ = (timing_acknowledged s z).base in
    let same : base ≡ (later_by e p).timing.base = sym (later_base e p b) in
    let new : Bool = is_new_ack s.una s.sent z in
    let a = later_agrees s.una s.sent s.rest s.interval base z in
    let una : ℕ = if new then nat_abs z else s.una in
    let rest : ℕ = if new then (if int_le (pos s.sent) z then 0 else base) else s.rest in
    let interval : ℕ = if new then base else s.interval in
    record {
      interval = ap (λ n. if rest == 0 then n else interval) (sym same) ∙ a.0
          ∙ (λ i. if (s.rest == 0) || nat_lt s.una una || (sym is i && not (sym is i)) then same i else s.interval);
      rest = ap (λ n. if rest == 0 then n else rest) (sym same) ∙ a.1
          ∙ (λ i. if (s.rest == 0) || nat_lt s.una una || (sym is i && not (sym is i)) then same i else s.rest);
    }
agrees e p true false b is =
    let s : Sending = e.sending in
    let base : ℕ = s.timing.base in
    record {
      interval = first_agrees (s.rest == 0) (nat_lt s.una 0) s.interval base ∙ ap (λ v. if (s.rest == 0) || nat_lt s.una 0 || (true && not v) then base else s.interval) (sym is);
      rest = first_agrees (s.rest == 0) (nat_lt s.una 0) s.rest base ∙ ap (λ v. if (s.rest == 0) || nat_lt s.una 0 || (true && not v) then base else s.rest) (sym is);
    }
agrees e p false o b is =
    let s : Sending = e.sending in
    let a = same_agrees s.syn_acked s.una s.rest s.interval s.timing.base in record { interval = a.0; rest = a.1 }

pub timer_law : (e u : Tcb) (p : Segment) → has_begun e.name ≡ true → IsBounded e → IsUsual e p → u.sending.timing ≡ (received e p).sending.timing
    → u.sending.interval ≡ (received e p).sending.interval → u.sending.rest ≡ (received e p).sending.rest
    → IsTimedBy (flushed u).sending (interval_by (is_timed (after_full u)) (starts e.sending (received e p).sending) u.sending.timing.base e.sending)
    (rest_by (is_timed (after_full u)) (starts e.sending (received e p).sending) u.sending.timing.base e.sending)
timer_law e u p begun b usual timing interval rest =
    let m : Sending = (received e p).sending in
    let runs : Bool = is_timed (after_full u) in
    let base : m.timing.base ≡ u.sending.timing.base = ap (λ (t : Timing). t.base) (sym timing) in
    let t = flushed_timer u m.timing.base m.interval m.rest (sym base) interval rest in
    let P : Sending → Type 0 = λ q. Agrees e.sending q in
    let a : Agrees e.sending m = subst P (sym (sending_is e p begun b usual)) (agrees e p (counts e p) e.sending.syn_acked b refl)
    in record {
      interval = t.interval ∙ (λ i. if runs then a.interval i else m.timing.base)
          ∙ (λ i. if runs then (if starts e.sending m then base i else e.sending.interval) else base i);
      rest = t.rest ∙ (λ i. if runs then a.rest i else 0) ∙ (λ i. if runs then (if starts e.sending m then base i else e.sending.rest) else 0);
    }

ticked_is : (rest interval base : ℕ) → 1 ≤ interval
    → ((if (if rest == 1 then min 64 (2 * interval) else rest - 1) == 0 then base else (if rest == 1 then min 64 (2 * interval) else interval))
    ≡ (if rest == 0 then base else (if rest == 1 then min 64 (2 * interval) else interval)))
    × ((if (if rest == 1 then min 64 (2 * interval) else rest - 1) == 0 then base else (if rest == 1 then min 64 (2 * interval) else rest - 1))
    ≡ (if rest == 0 then base else (if rest == 1 then min 64 (2 * interval) else rest - 1)))
ticked_is rest interval base some = (grind arith, grind arith)

ticked_by : (b : Bool) (s : Sending) (c : Congestion) (t t' : Timing)
    → ((if b then record s { congestion = c; timing = t; interval = min 64 (2 * s.interval); rest = min 64 (2 * s.interval) }
    else record s { timing = t'; rest = s.rest - 1 }).interval ≡ (if b then min 64 (2 * s.interval) else s.interval))
    × ((if b then record s { congestion = c; timing = t; interval = min 64 (2 * s.interval); rest = min 64 (2 * s.interval) }
    else record s { timing = t'; rest = s.rest - 1 }).rest ≡ (if b then min 64 (2 * s.interval) else s.rest - 1))
ticked_by true s c t t' = (refl, refl)
ticked_by false s c t t' = (refl, refl)

ticked_parts : (s : Sending) → ((ticked s).interval ≡ (if s.rest == 1 then min 64 (2 * s.interval) else s.interval))
    × ((ticked s).rest ≡ (if s.rest == 1 then min 64 (2 * s.interval) else s.rest - 1))
ticked_parts s = ticked_by (s.rest == 1) s (congestion_expired s) _ _

pub ticked_law : (e u : Tcb) → 1 ≤ e.sending.interval → u.sending.timing ≡ (after_tick e).sending.timing
    → u.sending.interval ≡ (after_tick e).sending.interval → u.sending.rest ≡ (after_tick e).sending.rest
    → IsTimedBy (flushed u).sending (ticked_interval (is_timed (after_full u)) u.sending.timing.base e.sending)
    (ticked_rest (is_timed (after_full u)) u.sending.timing.base e.sending)
unfolding after_tick timer_ticked waited
ticked_law e u some timing interval rest =
    let s : Sending = e.sending in
    let runs : Bool = is_timed (after_full u) in
    let base : ℕ = u.sending.timing.base in
    let parts = ticked_parts s in
    let t = flushed_timer u base _ _ refl (interval ∙ parts.0) (rest ∙ parts.1) in
    let k = ticked_is s.rest s.interval base some
    in record {
      interval = t.interval ∙ ap (λ n. if runs then n else base) k.0;
      rest = t.rest ∙ ap (λ n. if runs then n else 0) k.1;
    }
