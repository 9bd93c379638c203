-- The end of a turn: what the flush leaves of the sending half, and when the timer runs.
use Rattle.std.proofs.Common.{◌≡◌, ℕ, ◌≤◌, ◌+◌, ◌-◌, Bool, true, false, not, length, max, min, refl, sym, ap, arith, ⊎_elim, ◌∙◌}
use Rattle.std.specs.Prelude.{pos, ◌+ℤ◌, ◌==◌, ◌&&◌, ◌||◌, nat_lt, if◌then◌else◌}
use Rattle.std.proofs.lemmas.Bool.{false≢true}
use Rattle.seq_arith.specs.Number.{offset_of}
use Rattle.tcp_rules.specs.Timing.{Timing, with_sent as with_unit_sent}
use Rattle.server_trait.specs.Service.{Machine}
use Rattle.seq_arith.specs.Offset.{one_if}
use Rattle.ft_model.specs.Point.{Point}
use Rattle.ft_model.specs.Point as point
use Rattle.ft_model.specs.Timer as timer
use Rattle.tcp_endpoint.specs.States.{is_syn_sent, has_begun}
use Rattle.tcp_endpoint.specs.SendHalf.{Sending, target, must_run, timed, in_flight, send_edge, sendable, sends_fin, with_sent, with_fin_sent}
use Rattle.tcp_endpoint.specs.Tcb.{Tcb}
use Rattle.tcp_endpoint.specs.Output.{probes, probes_text, probes_fin, with_probe, with_text_sent, with_fin_out, after_full, with_advertised, is_timed, with_turn_ended, flushed, with_timed}
use Rattle.endpoint_laws.specs.Laws.{IsBounded, ProbesRightly, timing_at_end}
use Rattle.endpoint_laws.specs.Refinement.{SendsAt, HasWrittenAll, HasFilled, IsUsedAt}
use Rattle.endpoint_laws.proofs.TurnLaw.{after_steps, by_probe, timed_sent, timed_timing, steps_sent, steps_timing, fin_unsent, waits_fin, probing, nothing_held}
use Rattle.endpoint_laws.proofs.ReportedLaw.{after_probe}
use Rattle.endpoint_laws.proofs.Calls.{FinIsLast}
use Rattle.ft_io.proofs.Booleans.{left_true, right_true, false_by}
use Rattle.ft_io.proofs.Choices.{if_false}
use Rattle.endpoint_laws.proofs.EndingLaw.{none_behind}
use Rattle.endpoint_laws.proofs.TimerAt.{sent_more}

-- a part of the sending half that neither the timer with its estimate nor what is sent has a part in
pub record IsSteady {X : Type 0} (g : Sending → X) : Type 0 where
  pub sends : (s : Sending) (n : ℕ) → g (with_sent s n) ≡ g s
  pub ends : (s : Sending) → g (with_fin_sent s) ≡ g s
  pub times : (s : Sending) (timing : Timing) (interval rest : ℕ) → g (record s { timing = timing; interval = interval; rest = rest }) ≡ g s

same_of_if : {X : Type 0} (g : Sending → X) (b : Bool) (x y : Sending) → g x ≡ g y → g (if b then x else y) ≡ g y
same_of_if g true x y same = same
same_of_if g false x y same = refl

pub steps_keep : {X : Type 0} (g : Sending → X) (begun pt pf : Bool) (s : Sending) → IsSteady g → g (after_steps begun pt pf s) ≡ g s
steps_keep g begun pt pf s k =
    let fin : Sending = if pf then with_fin_sent s else s in
    let fin_same : g fin ≡ g s = same_of_if g pf (with_fin_sent s) s (k.ends s) in
    let probed : Sending = if pt then with_sent s 1 else fin in
    let texted : Sending = with_sent probed (if begun then sendable probed else 0) in
    same_of_if g (begun && sends_fin texted) (with_fin_sent texted) texted (k.ends texted)
    ∙ k.sends probed _ ∙ same_of_if g pt (with_sent s 1) fin (k.sends s 1 ∙ sym fin_same) ∙ fin_same

timed_keeps : {X : Type 0} (g : Sending → X) (runs : Bool) (s : Sending) → IsSteady g → g (timed runs s) ≡ g s
timed_keeps g true s k =
    same_of_if g (s.rest == 0) (record s { interval = s.timing.base; rest = s.timing.base }) s (k.times s s.timing s.timing.base s.timing.base)
timed_keeps g false s k = k.times s s.timing s.timing.base 0

pub full_keeps : {X : Type 0} (g : Sending → X) (u : Tcb) → IsSteady g → g (after_full u).sending ≡ g u.sending
unfolding after_full with_timed with_fin_out with_text_sent with_probe
full_keeps g u k =
    let sent : Sending = after_steps (has_begun u.name) (probes_text u) (probes_fin u) u.sending in
    k.times sent (after_full u).sending.timing sent.interval sent.rest ∙ steps_keep g (has_begun u.name) (probes_text u) (probes_fin u) u.sending k

pub flush_keeps : {X : Type 0} (g : Sending → X) (u : Tcb) → IsSteady g → g (flushed u).sending ≡ g u.sending
unfolding flushed with_turn_ended with_advertised
flush_keeps g u k = timed_keeps g (is_timed (after_full u)) (after_full u).sending k ∙ full_keeps g u k

pub flushed_sends : (p : Point) (u : Tcb) → SendsAt p u → SendsAt p (flushed u)
unfolding flushed with_turn_ended with_advertised after_full with_timed with_fin_out with_text_sent with_probe
flushed_sends p u s =
    let syn_acked : (flushed u).sending.syn_acked ≡ u.sending.syn_acked =
    flush_keeps (λ (q : Sending). q.syn_acked) u (record { sends = λ s n. refl; ends = λ s. refl; times = λ s t i r. refl }) in
    record {
      sisn = s.sisn ∙ sym (flush_keeps (λ (q : Sending). q.iss) u (record { sends = λ s n. refl; ends = λ s. refl; times = λ s t i r. refl }));
      mss = s.mss ∙ sym (flush_keeps (λ (q : Sending). q.mss) u (record { sends = λ s n. refl; ends = λ s. refl; times = λ s t i r. refl }));
      syn_acked = s.syn_acked ∙ sym syn_acked;
      una = s.una ∙ sym (flush_keeps (λ (q : Sending). q.una) u (record { sends = λ s n. refl; ends = λ s. refl; times = λ s t i r. refl }));
      edge = s.edge ∙ sym (flush_keeps (λ (q : Sending). q.edge) u (record { sends = λ s n. refl; ends = λ s. refl; times = λ s t i r. refl }));
      wl1 = λ h. s.wl1 (sym syn_acked ∙ h)
          ∙ ap (λ n. offset_of u.receiving.irs n +ℤ pos p.fetched)
          (sym (flush_keeps (λ (q : Sending). q.wl1) u (record { sends = λ s n. refl; ends = λ s. refl; times = λ s t i r. refl })));
      wl2 = s.wl2 ∙ sym (flush_keeps (λ (q : Sending). q.wl2) u (record { sends = λ s n. refl; ends = λ s. refl; times = λ s t i r. refl }));
      congestion = s.congestion ∙ sym (flush_keeps (λ (q : Sending). q.congestion) u (record { sends = λ s n. refl; ends = λ s. refl; times = λ s t i r. refl }));
    }

-- a FIN is sent last
last_if : (b : Bool) (x y : Sending) → (b ≡ true → FinIsLast x) → (b ≡ false → FinIsLast y) → FinIsLast (if b then x else y)
last_if true x y p q = p refl
last_if false x y p q = q refl

last_sent : (s : Sending) (n : ℕ) → (s.fin_sent ≡ true → n ≡ 0) → FinIsLast s → FinIsLast (with_sent s n)
last_sent s n none last = λ h. let k = last h in (k.0, omega (arith, k.1), omega (arith, k.2, none h))

last_fin : (s : Sending) → s.closed ≡ true → length s.held ≡ s.sent - s.una → FinIsLast (with_fin_sent s)
last_fin s is_closed all_sent = λ h. (is_closed, omega arith, omega (arith, all_sent))

off_four : (c d t u : Bool) → (false && c && not d && t && u) ≡ true → false ≡ true
off_four c d t u h = h

off_three : (d t u : Bool) → (false && not d && t && u) ≡ true → false ≡ true
off_three d t u h = h

closed_of : (b o c d t u : Bool) → (b && (o && c && not d && t && u)) ≡ true → c ≡ true
closed_of true true true d t u h = refl
closed_of true true false d t u h = absurd (false≢true (off_three d t u h))
closed_of true false c d t u h = absurd (false≢true (off_four c d t u h))
closed_of false o c d t u h = absurd (false≢true h)

-- it goes out where all bytes were sent
all_sent_of : (b o c d u : Bool) (una len sent : ℕ) → (b && (o && c && not d && (sent == una + len) && u)) ≡ true → len ≡ sent - una
all_sent_of true true true false u una len sent h = grind arith
all_sent_of true true true true u una len sent h = absurd (false≢true h)
all_sent_of true true false d u una len sent h = absurd (false≢true (off_three d (sent == una + len) u h))
all_sent_of true false c d u una len sent h = absurd (false≢true (off_four c d (sent == una + len) u h))
all_sent_of false o c d u una len sent h = absurd (false≢true h)

last_steps : (begun pt pf : Bool) (s : Sending) → (pt ≡ true → s.fin_sent ≡ false) → (pf ≡ true → (s.closed ≡ true) × (length s.held ≡ s.sent - s.una))
    → FinIsLast s → FinIsLast (after_steps begun pt pf s)
last_steps begun pt pf s unsent ends last =
    let probed : Sending = if pt then with_sent s 1 else (if pf then with_fin_sent s else s) in
    let texted : Sending = with_sent probed (if begun then sendable probed else 0) in
    let probed_last : FinIsLast probed =
    last_if pt (with_sent s 1) _ (λ h. last_sent s 1 (λ k. absurd (false≢true (sym (unsent h) ∙ k))) last)
    (λ h. last_if pf (with_fin_sent s) s (λ k. last_fin s (ends k).0 (ends k).1) (λ k. last)) in
    let texted_last : FinIsLast texted =
    last_sent probed _
    (λ h. none_behind begun probed.syn_acked probed.fin_sent (min (probed.una + length probed.held) (send_edge probed) - probed.sent) h) probed_last in
    last_if (begun && sends_fin texted) (with_fin_sent texted) texted
    (λ h. last_fin texted
    (closed_of begun texted.syn_acked texted.closed texted.fin_sent (texted.sent == texted.una + length texted.held) (nat_lt texted.sent (send_edge texted)) h)
    (all_sent_of begun texted.syn_acked texted.closed texted.fin_sent (nat_lt texted.sent (send_edge texted)) texted.una (length texted.held) texted.sent h))
    (λ h. texted_last)

last_timed : (runs : Bool) (s : Sending) → FinIsLast s → FinIsLast (timed runs s)
last_timed true s last = last_if (s.rest == 0) (record s { interval = s.timing.base; rest = s.timing.base }) s (λ h. last) (λ h. last)
last_timed false s last = last

-- a probe goes out where no FIN was sent, and the FIN as one where no byte waits to be sent
pub unsent_of : (p b o f t : Bool) → (p && b && o && not f && t) ≡ true → f ≡ false
unsent_of p b o false t h = refl
unsent_of p b o true t h = grind arith

none_waiting : (f : Bool) (una len sent : ℕ) → una ≤ sent → sent ≤ una + len + one_if f → f ≡ false → not (nat_lt (sent - una) len) ≡ true → len ≡ sent - una
none_waiting true una len sent order flight unsent none = absurd (false≢true (sym unsent))
none_waiting false una len sent order flight unsent none = grind arith

ends_of : (p b o f c : Bool) (una len sent : ℕ) → una ≤ sent → sent ≤ una + len + one_if f → (p && b && o && not f && not (nat_lt (sent - una) len) && c) ≡ true
    → (c ≡ true) × (len ≡ sent - una)
ends_of p b o f c una len sent order flight h =
    let none : Bool = not (nat_lt (sent - una) len) in
    let probed : (p && b && o && not f && none) ≡ true = left_true (p && b && o && not f && none) c h in (
      right_true (p && b && o && not f && none) c h,
      none_waiting f una len sent order flight (unsent_of p b o f none probed) (right_true (p && b && o && not f) none probed),
    )

pub last_flushed : (u : Tcb) → IsBounded u → FinIsLast u.sending → FinIsLast (flushed u).sending
unfolding flushed with_turn_ended with_advertised after_full with_timed with_fin_out with_text_sent with_probe
last_flushed u b last =
    let s : Sending = u.sending in
    last_timed _ (after_full u).sending
    (last_steps (has_begun u.name) (probes_text u) (probes_fin u) s
    (λ h. unsent_of u.probe (has_begun u.name) s.syn_acked s.fin_sent (nat_lt (s.sent - s.una) (length s.held)) h)
    (λ h. ends_of u.probe (has_begun u.name) s.syn_acked s.fin_sent s.closed s.una (length s.held) s.sent b.order b.flight h) last)

-- the timer runs only where it must
runs_if : (b : Bool) (n : ℕ) (s : Sending) → must_run s ≡ true → 1 ≤ (if b then record s { interval = n; rest = n } else s).rest
    → must_run (if b then record s { interval = n; rest = n } else s) ≡ true
runs_if true n s must h = must
runs_if false n s must h = must

runs_timed : (runs : Bool) (s : Sending) → (runs ≡ true → must_run s ≡ true) → 1 ≤ (timed runs s).rest → must_run (timed runs s) ≡ true
runs_timed true s must h = runs_if (s.rest == 0) s.timing.base s (must refl) h
runs_timed false s must h = absurd (omega (arith, h))

pub runs_flushed : (u : Tcb) → 1 ≤ (flushed u).sending.rest → must_run (flushed u).sending ≡ true
unfolding flushed with_turn_ended with_advertised
runs_flushed u h =
    let v : Tcb = after_full u in
    runs_timed (is_timed v) v.sending (λ r. right_true (has_begun v.name || is_syn_sent v.name) (must_run v.sending) r) h

-- the target, and whether the timer must run, at the point: after a full buffer the rest of the output waits, which has no room
target_by : (f c : Bool) (una len sent : ℕ) → (f ≡ true → (c ≡ true) × (1 ≤ sent)) → (if f then sent - 1 else una + len) + one_if c ≡ (if f then sent else una + len + one_if c)
target_by true true una len sent last = omega (arith, (last refl).1)
target_by true false una len sent last = absurd (false≢true (last refl).0)
target_by false c una len sent last = refl

all_target : {State : Type 0} (service : Machine State) (p : Point) (s : Sending) → FinIsLast s → HasWrittenAll service p s → point.target service p ≡ target s
all_target service p s last w =
    (λ i. w.written i + one_if (w.closed i)) ∙ target_by s.fin_sent s.closed s.una (length s.held) s.sent (λ h. ((last h).0, (last h).1))

open_target : (f c : Bool) (una len sent : ℕ) → f ≡ false → c ≡ false → (if f then sent else una + len + one_if c) ≡ una + len
open_target true c una len sent none h = absurd (false≢true (sym none))
open_target false true una len sent none h = absurd (false≢true (sym h))
open_target false false una len sent none h = omega arith

-- what a full buffer says of the target
record FilledTarget (una edge goal all : ℕ) : Type 0 where
  full : goal ≡ una + 65535
  within : goal ≤ all
  reach : edge ≤ goal

filled_target : {State : Type 0} (service : Machine State) (p : Point) (u : Tcb) → IsBounded u → FinIsLast u.sending → HasFilled service p u.sending
    → FilledTarget u.sending.una u.sending.edge (target u.sending) (point.target service p)
filled_target service p u b last w =
    let s : Sending = u.sending in
    let unsent : s.fin_sent ≡ false = false_by s.fin_sent s.closed (λ h. (last h).0) w.open_still in
    let goal : target s ≡ s.una + length s.held = open_target s.fin_sent s.closed s.una (length s.held) s.sent unsent w.open_still in
    let written : s.una + length s.held ≤ point.released service p =
    omega (arith, w.written, ap (λ v. if v then s.sent - 1 else s.una + length s.held) unsent) in
    record { full = omega (arith, goal, w.full); within = omega (arith, goal, written); reach = omega (arith, goal, w.full, b.reach) }

filled_sent : (una edge up_to goal all sent : ℕ) → FilledTarget una edge goal all → up_to ≤ edge → max sent (min all up_to) ≡ max sent (min goal up_to)
filled_sent una edge up_to goal all sent f below = omega (arith, f.within, f.reach, below)

-- how far a turn sends
pub sent_at : {State : Type 0} (service : Machine State) (p : Point) (u : Tcb) → IsBounded u → FinIsLast u.sending → IsUsedAt service p u
    → max u.sending.sent (min (point.target service p) (send_edge u.sending)) ≡ max u.sending.sent (min (target u.sending) (send_edge u.sending))
sent_at service p u b last used =
    ⊎_elim (λ w. ap (λ n. max u.sending.sent (min n (send_edge u.sending))) (all_target service p u.sending last w))
    (λ w. filled_sent u.sending.una u.sending.edge (send_edge u.sending) (target u.sending) (point.target service p) u.sending.sent
    (filled_target service p u b last w) (omega arith))
    used.written

filled_runs : (una edge goal all sent : ℕ) → FilledTarget una edge goal all → nat_lt una (max sent goal) ≡ nat_lt una (max sent all)
filled_runs una edge goal all sent f = grind (arith, f.full, f.within)

-- whether something waits
waits_at : {State : Type 0} (service : Machine State) (p : Point) (u : Tcb) (sent : ℕ) → IsBounded u → FinIsLast u.sending → IsUsedAt service p u
    → nat_lt u.sending.una (max sent (target u.sending)) ≡ nat_lt u.sending.una (max sent (point.target service p))
waits_at service p u sent b last used =
    ⊎_elim (λ w. ap (λ n. nat_lt u.sending.una (max sent n)) (sym (all_target service p u.sending last w)))
    (λ w. filled_runs u.sending.una u.sending.edge (target u.sending) (point.target service p) sent (filled_target service p u b last w))
    used.written

full_target : (u : Tcb) → has_begun u.name ≡ true → IsBounded u → target (after_full u).sending ≡ target u.sending
unfolding after_full with_timed with_fin_out with_text_sent with_probe
full_target u begun b = ap target (by_probe u (probes_text u) (probes_fin u) refl refl begun) ∙ after_probe u begun b (probes_text u) (probes_fin u) refl refl

pub full_name : (u : Tcb) → has_begun u.name ≡ true → has_begun (after_full u).name ≡ true
unfolding after_full with_timed with_fin_out with_text_sent with_probe
full_name u begun = begun

pub flushed_sent : (u : Tcb) → (flushed u).sending.sent ≡ (after_full u).sending.sent
unfolding flushed with_turn_ended with_advertised
flushed_sent u = timed_sent (is_timed (after_full u)) (after_full u).sending

pub runs_at : {State : Type 0} (service : Machine State) (p : Point) (u : Tcb) → has_begun u.name ≡ true → IsBounded u → FinIsLast u.sending → SendsAt p u
    → IsUsedAt service p u → p.sent ≡ (after_full u).sending.sent → is_timed (after_full u) ≡ timer.must_run service p
unfolding timer.must_run
runs_at service p u begun b last s used sent =
    let v : Tcb = after_full u in
    let syn_acked : v.sending.syn_acked ≡ p.syn_acked =
    full_keeps (λ (q : Sending). q.syn_acked) u (record { sends = λ s n. refl; ends = λ s. refl; times = λ s t i r. refl }) ∙ sym s.syn_acked in
    let una : v.sending.una ≡ u.sending.una =
    full_keeps (λ (q : Sending). q.una) u (record { sends = λ s n. refl; ends = λ s. refl; times = λ s t i r. refl }) in
    ap (λ n. (n || is_syn_sent v.name) && must_run v.sending) (full_name u begun)
    ∙ (λ i. not (syn_acked i) || nat_lt (una i) (max (sym sent i) (full_target u begun b i)))
    ∙ ap (λ w. not p.syn_acked || w) (waits_at service p u p.sent b last used)
    ∙ ap (λ n. not p.syn_acked || nat_lt n (max p.sent (point.target service p))) (sym s.una)

least_if : (b : Bool) (x y : Sending) (n : ℕ) → n ≤ x.sent → n ≤ y.sent → n ≤ (if b then x else y).sent
least_if true x y n p q = p
least_if false x y n p q = q

steps_grow : (u : Tcb) → u.sending.sent ≤ (after_full u).sending.sent
unfolding after_full with_timed with_fin_out with_text_sent with_probe
steps_grow u =
    let s : Sending = u.sending in
    let pt : Bool = probes_text u in
    let pf : Bool = probes_fin u in
    let probed : Sending = if pt then with_sent s 1 else (if pf then with_fin_sent s else s) in
    let texted : Sending = with_sent probed (if has_begun u.name then sendable probed else 0) in
    let first_step : s.sent ≤ probed.sent = least_if pt (with_sent s 1) _ s.sent (omega arith) (least_if pf (with_fin_sent s) s s.sent (omega arith) (omega arith)) in
    let second_step : s.sent ≤ texted.sent = omega (arith, first_step) in
    least_if (has_begun u.name && sends_fin texted) (with_fin_sent texted) texted s.sent (omega (arith, second_step)) second_step

pub running_at : {State : Type 0} (service : Machine State) (before after : Point) (u : Tcb) → IsBounded u → FinIsLast u.sending → SendsAt after u → IsUsedAt service after u
    → before.sent ≡ u.sending.sent → after.sent ≡ (after_full u).sending.sent → must_run u.sending ≡ true → timer.must_run service after ≡ true
unfolding timer.must_run
running_at service before after u b last s used was sent must =
    let more : u.sending.sent ≤ after.sent = omega (arith, steps_grow u, sent) in
    (λ i. not (s.syn_acked i) || nat_lt (s.una i) (max after.sent (point.target service after)))
    ∙ ap (λ w. not u.sending.syn_acked || w) (sym (waits_at service after u after.sent b last used))
    ∙ sent_more u.sending.syn_acked u.sending.una u.sending.sent after.sent (target u.sending) more must

-- a probe is one unit
probed_by : (e : Tcb) (pr t : Bool) → e.probe ≡ pr → nat_lt (e.sending.sent - e.sending.una) (length e.sending.held) ≡ t → has_begun e.name ≡ true
    → IsBounded e → ProbesRightly e
    → (if probes_text e then with_sent e.sending 1 else (if probes_fin e then with_fin_sent e.sending else e.sending)).sent ≡ e.sending.sent + one_if pr
probed_by e false t is waits begun b right =
    let s : Sending = e.sending in
    let still : probes e ≡ false = ap (λ v. v && has_begun e.name && s.syn_acked && not s.fin_sent) is in
    let no_text : probes_text e ≡ false = ap (λ v. v && nat_lt (s.sent - s.una) (length s.held)) still in
    let no_fin : probes_fin e ≡ false = ap (λ v. v && not (nat_lt (s.sent - s.una) (length s.held)) && s.closed) still in
    (λ i. (if no_text i then with_sent s 1 else (if no_fin i then with_fin_sent s else s)).sent) ∙ omega arith
probed_by e true true is waits begun b right =
    let s : Sending = e.sending in
    let unsent : s.fin_sent ≡ false = fin_unsent s.fin_sent s.closed s.una (length s.held) s.sent (right.all_acked is) (right.waits is) in
    let on : probes e ≡ true = probing e begun (right.syn_acked is) unsent is in
    let text : probes_text e ≡ true = ap (λ v. v && nat_lt (s.sent - s.una) (length s.held)) on ∙ waits in
    ap (λ v. (if v then with_sent s 1 else (if probes_fin e then with_fin_sent s else s)).sent) text
probed_by e true false is waits begun b right =
    let s : Sending = e.sending in
    let unsent : s.fin_sent ≡ false = fin_unsent s.fin_sent s.closed s.una (length s.held) s.sent (right.all_acked is) (right.waits is) in
    let none : length s.held ≡ 0 = nothing_held s.una s.sent (length s.held) (right.all_acked is) waits in
    let is_closed : s.closed ≡ true = waits_fin s.fin_sent s.closed s.una (length s.held) s.sent (right.all_acked is) (right.waits is) none in
    let on : probes e ≡ true = probing e begun (right.syn_acked is) unsent is in
    let no_text : probes_text e ≡ false = ap (λ v. v && nat_lt (s.sent - s.una) (length s.held)) on ∙ waits in
    let fin : probes_fin e ≡ true =
    ap (λ v. v && not (nat_lt (s.sent - s.una) (length s.held)) && s.closed) on ∙ ap (λ v. true && not v && s.closed) waits ∙ is_closed in
    λ i. (if no_text i then with_sent s 1 else (if fin i then with_fin_sent s else s)).sent

probed_una : (pt pf : Bool) (s : Sending) → (if pt then with_sent s 1 else (if pf then with_fin_sent s else s)).una ≡ s.una
probed_una true pf s = refl
probed_una false true s = refl
probed_una false false s = refl

-- what is timed is the first unit that is sent for the first time, other than in a probe
new_unit : (p : Bool) (una sent all : ℕ) (t : Timing) → una ≤ sent → sent ≤ all → (p ≡ true → all ≡ sent)
    → (if nat_lt (sent + one_if p - una) (all + one_if p - una) then with_unit_sent (sent + one_if p - una + 1) t else t)
    ≡ (if nat_lt sent all then with_unit_sent (sent + 1 - una) t else t)
new_unit true una sent all t order up none =
    let same : all ≡ sent = none refl in
    let still : nat_lt (sent + 1 - una) (all + 1 - una) ≡ false = grind (arith, same) in
    let nothing : nat_lt sent all ≡ false = grind (arith, same) in
    if_false _ _ _ still ∙ sym (if_false _ _ _ nothing)
new_unit false una sent all t order up none =
    let test : nat_lt (sent + 0 - una) (all + 0 - una) ≡ nat_lt sent all = grind (arith, order, up) in
    let place : sent + 0 - una + 1 ≡ sent + 1 - una = omega (arith, order) in
    λ i. if test i then with_unit_sent (place i) t else t

no_room : (sent goal edge : ℕ) → edge ≤ sent → max sent (min goal edge) ≡ sent
no_room sent goal edge h = omega (arith, h)

pub timing_law : (e : Tcb) → has_begun e.name ≡ true → IsBounded e → ProbesRightly e → (flushed e).sending.timing ≡ timing_at_end e
unfolding flushed with_turn_ended with_advertised after_full with_timed with_fin_out with_text_sent with_probe
timing_law e begun b right =
    let s : Sending = e.sending in
    let pt : Bool = probes_text e in
    let pf : Bool = probes_fin e in
    let probed : Sending = if pt then with_sent s 1 else (if pf then with_fin_sent s else s) in
    let sent : Sending = after_steps (has_begun e.name) pt pf s in
    let all : ℕ = max s.sent (min (target s) (send_edge s)) in
    let waits : Bool = nat_lt (s.sent - s.una) (length s.held) in
    let place : in_flight probed ≡ s.sent + one_if e.probe - s.una = λ i. probed_by e e.probe waits refl refl begun b right i - probed_una pt pf s i in
    let una : sent.una ≡ s.una =
    steps_keep (λ (q : Sending). q.una) (has_begun e.name) pt pf s (record { sends = λ s n. refl; ends = λ s. refl; times = λ s t i r. refl }) in
    let flight : in_flight sent ≡ all + one_if e.probe - s.una = λ i. steps_sent e e.probe waits refl refl begun b right i - una i in
    let timing : sent.timing ≡ s.timing = steps_timing (has_begun e.name) pt pf s in
    timed_timing (is_timed (after_full e)) (after_full e).sending
    ∙ (λ i. if nat_lt (place i) (flight i) then with_unit_sent (place i + 1) (timing i) else timing i)
    ∙ new_unit e.probe s.una s.sent all s.timing b.order (omega arith)
    (λ p. no_room s.sent (target s) (send_edge s) (omega (arith, right.shut p)))
