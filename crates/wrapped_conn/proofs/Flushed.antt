-- The end of TCP's turn, and a tick, keep a connection sound.
use Rattle.std.proofs.Common.{◌≡◌, ℕ, ◌<◌, ◌≤◌, ◌+◌, ◌%◌, ◌^◌, Bool, true, false, length, refl, sym, ap, subst, arith, ◌∙◌}
use Rattle.std.specs.Prelude.{◌==◌, if◌then◌else◌}
use Rattle.seq_arith.specs.Number.{distance, number_at}
use Rattle.tcp_endpoint.specs.States.{is_listen, has_begun}
use Rattle.tcp_endpoint.specs.declared.states.StateName.{StateName}
use Rattle.tcp_endpoint.specs.declared.states.StateName.TheVariants.{Closed}
use Rattle.tcp_endpoint.specs.ReceiveHalf.{Receiving}
use Rattle.tcp_endpoint.specs.SendHalf.{Sending, in_flight, timed, ticked, expires, with_sent, with_fin_sent}
use Rattle.tcp_endpoint.specs.Tcb.{Tcb}
use Rattle.tcp_endpoint.specs.Output.{flushed, with_turn_ended, with_advertised, is_timed, after_full, with_timed, with_probe, with_text_sent, with_fin_out, probes_text, probes_fin, new_fin, new_length}
use Rattle.tcp_endpoint.specs.UserCalls.{after_tick, timer_ticked, waited}
use Rattle.endpoint_laws.proofs.Bounding.{bounded_by_flush, bounded_by_tick}
use Rattle.wrapped_conn.specs.ConnState.{ConnState}
use Rattle.wrapped_conn.specs.Numbers.{sent_units}
use Rattle.wrapped_conn.specs.Output.{with_endpoint_flushed, turn_ended}
use Rattle.wrapped_conn.specs.Sound.{has_peer, IsSound, IsSoundTcp, swallowed}
use Rattle.wrapped_conn.proofs.Kept.{ProceedsFrom, not_listen}
use Rattle.wrapped_conn.proofs.SoundAgain.{sound_with}
use Rattle.ft_io.proofs.Booleans.{left_true, right_true}
use Rattle.seq_arith.proofs.Units.{one_at_most}

-- what a flush leaves of the sending half
pub record Leaves (s t : Sending) : Type 0 where
  pub iss : t.iss ≡ s.iss
  pub mss : t.mss ≡ s.mss
  pub una : t.una ≡ s.una
  pub held : t.held ≡ s.held
  pub closed : t.closed ≡ s.closed
  pub sent : s.sent ≤ t.sent
  pub fin_last : (s.fin_sent ≡ true → s.closed ≡ true) → t.fin_sent ≡ true → t.closed ≡ true

as_before : (s : Sending) → Leaves s s
as_before s = record { iss = refl; mss = refl; una = refl; held = refl; closed = refl; sent = omega arith; fin_last = λ h. h }

more_sent : (s : Sending) (n : ℕ) → Leaves s (with_sent s n)
more_sent s n = record { iss = refl; mss = refl; una = refl; held = refl; closed = refl; sent = omega arith; fin_last = λ h. h }

fin_more : (s : Sending) → s.closed ≡ true → Leaves s (with_fin_sent s)
fin_more s c = record { iss = refl; mss = refl; una = refl; held = refl; closed = refl; sent = omega arith; fin_last = λ h k. c }

leaves_when : (b : Bool) (s x y : Sending) → (b ≡ true → Leaves s x) → (b ≡ false → Leaves s y) → Leaves s (if b then x else y)
leaves_when true s x y p q = p refl
leaves_when false s x y p q = q refl

on_and : (s t u : Sending) → Leaves s t → Leaves t u → Leaves s u
on_and s t u p q = record {
  iss = q.iss ∙ p.iss;
  mss = q.mss ∙ p.mss;
  una = q.una ∙ p.una;
  held = q.held ∙ p.held;
  closed = q.closed ∙ p.closed;
  sent = omega (arith, p.sent, q.sent);
  fin_last = λ h. q.fin_last (p.fin_last h);
}

-- a FIN goes out only of a user who has closed
pub probe_leaves : (e : Tcb) → Leaves e.sending (with_probe e).sending
unfolding with_probe
probe_leaves e =
    leaves_when (probes_text e) e.sending _ _ (λ h. more_sent e.sending 1)
    (λ h. leaves_when (probes_fin e) e.sending _ _ (λ k. fin_more e.sending (right_true _ e.sending.closed k)) (λ k. as_before e.sending))

text_leaves : (e : Tcb) → Leaves e.sending (with_text_sent e).sending
unfolding with_text_sent
text_leaves e = more_sent e.sending (new_length e)

fin_leaves : (e : Tcb) → Leaves e.sending (with_fin_out e).sending
unfolding with_fin_out
fin_leaves e =
    let s : Sending = e.sending in
    leaves_when (new_fin e) s _ _
    (λ h. fin_more s (right_true s.syn_acked s.closed (left_true _ _ (left_true _ _ (left_true _ _ (right_true (has_begun e.name) _ h))))))
    (λ h. as_before s)

timed_leaves : (runs : Bool) (s : Sending) → Leaves s (timed runs s)
timed_leaves runs s =
    leaves_when runs s _ _
    (λ h. leaves_when (s.rest == 0) s _ _ (λ k. record { iss = refl; mss = refl; una = refl; held = refl; closed = refl; sent = omega arith; fin_last = λ f. f }) (λ k. as_before s))
    (λ h. record { iss = refl; mss = refl; una = refl; held = refl; closed = refl; sent = omega arith; fin_last = λ f. f })

unit_leaves : (place : ℕ) (e : Tcb) → Leaves e.sending (with_timed place e).sending
unfolding with_timed
unit_leaves place e = record { iss = refl; mss = refl; una = refl; held = refl; closed = refl; sent = omega arith; fin_last = λ h. h }

flush_leaves : (e : Tcb) → Leaves e.sending (flushed e).sending
unfolding flushed with_turn_ended with_advertised after_full
flush_leaves e =
    let p : Tcb = with_probe e in
    let t : Tcb = with_text_sent p in
    let f : Tcb = with_fin_out t in
    let u : Tcb = with_timed (in_flight p.sending) f in
    on_and e.sending p.sending (timed (is_timed u) u.sending) (probe_leaves e)
    (on_and p.sending t.sending _ (text_of_probe e)
    (on_and t.sending f.sending _ (fin_leaves t) (on_and f.sending u.sending _ (unit_leaves (in_flight p.sending) f) (timed_leaves (is_timed u) u.sending))))
  where
    text_of_probe : (e : Tcb) → Leaves (with_probe e).sending (with_text_sent (with_probe e)).sending
    text_of_probe e = text_leaves (with_probe e)

pub flush_name : (e : Tcb) → ((flushed e).name ≡ e.name) × ((flushed e).receiving ≡ e.receiving)
unfolding flushed with_turn_ended with_advertised after_full with_timed with_probe with_text_sent with_fin_out
flush_name e = (refl, refl)

pub flush_goes : (e : Tcb) → IsSoundTcp e → ProceedsFrom e (flushed e)
flush_goes e s =
    let l : Leaves e.sending (flushed e).sending = flush_leaves e in
    let same = flush_name e in
    record {
      sound = record {
        bounds = bounded_by_flush e s.bounds;
        buffered = subst (λ r. length r.unread ≤ 65535) (sym same.1) s.buffered;
        begun = subst (λ n. has_peer n ≡ true) (sym same.0) s.begun;
        fin_last = l.fin_last s.fin_last;
      };
      read = ap (λ (r : Receiving). r.read) same.1;
      limit = ap (λ (r : Receiving). r.limit) same.1;
      more = subst (λ r. length e.receiving.unread ≤ length r.unread) (sym same.1) (omega arith);
      iss = l.iss;
      mss = l.mss;
      closed = l.closed;
      sent = l.sent;
      held = λ o. omega (arith, l.una, ap length l.held);
    }

-- a tick
ticked_leaves : (s : Sending) → Leaves s (ticked s)
ticked_leaves s =
    leaves_when (expires s) s _ _
    (λ h. record { iss = refl; mss = refl; una = refl; held = refl; closed = refl; sent = omega arith; fin_last = λ f. f })
    (λ h. record { iss = refl; mss = refl; una = refl; held = refl; closed = refl; sent = omega arith; fin_last = λ f. f })

waited_name : (b : Bool) (name : StateName) → has_peer name ≡ true → has_peer (if b then Closed else name) ≡ true
waited_name true name h = refl
waited_name false name h = h

pub tick_goes : (e : Tcb) → IsSoundTcp e → ProceedsFrom e (after_tick e)
unfolding after_tick timer_ticked waited
tick_goes e s =
    let l : Leaves e.sending (ticked e.sending) = ticked_leaves e.sending in
    record {
      sound = record {
        bounds = bounded_by_tick e s.bounds;
        buffered = s.buffered;
        begun = waited_name _ e.name s.begun;
        fin_last = l.fin_last s.fin_last;
      };
      read = refl;
      limit = refl;
      more = omega arith;
      iss = l.iss;
      mss = l.mss;
      closed = l.closed;
      sent = l.sent;
      held = λ o. omega (arith, l.una, ap length l.held);
    }

pub sound_ticked : {S : Type 0} (c : ConnState S) → IsSound c → IsSound (record c { endpoint = after_tick c.endpoint })
sound_ticked c s = sound_with c (after_tick c.endpoint) s (tick_goes c.endpoint s.parts.tcp)

-- what is sent, in outer units, is after what earlier incarnations sent
units_behind : (iss delta sisn sent : ℕ) → sisn < 2 ^ 32 → distance ((iss + delta) % 2 ^ 32) sisn + sent < 2 ^ 32
    → distance ((number_at iss sent + delta) % 2 ^ 32) ((sisn + 1) % 2 ^ 32) ≡ distance ((iss + delta) % 2 ^ 32) sisn + sent
units_behind iss delta sisn sent fits few = omega (arith, fits, few)

pub sent_is : {S : Type 0} (c : ConnState S) → IsSound c → sent_units c ≡ swallowed c + c.endpoint.sending.sent
sent_is c s =
    let e : Tcb = c.endpoint in
    let listens : is_listen e.name ≡ false = not_listen e.name s.parts.tcp.begun in
    let few : swallowed c + e.sending.sent < 2 ^ 32 = omega (arith, s.begins, s.parts.tcp.bounds.sent, one_at_most e.sending.fin_sent) in
    ap (λ b. distance (((if b then e.sending.iss else number_at e.sending.iss e.sending.sent) + c.south.delta) % 2 ^ 32) ((c.south.sisn + 1) % 2 ^ 32)) listens
    ∙ units_behind e.sending.iss c.south.delta c.south.sisn e.sending.sent s.sisn few

flushed_sound : {S : Type 0} (c : ConnState S) → IsSound c → IsSound (with_endpoint_flushed c)
flushed_sound c s = sound_with c (flushed c.endpoint) s (flush_goes c.endpoint s.parts.tcp)

pub sent_rises : {S : Type 0} (c : ConnState S) → IsSound c → c.south.sent ≤ sent_units (with_endpoint_flushed c)
sent_rises c s = let f = flushed_sound c s in omega (arith, sent_is (with_endpoint_flushed c) f, f.sent)

pub sent_few : {S : Type 0} (c : ConnState S) → IsSound c → sent_units (with_endpoint_flushed c) ≤ 2 ^ 25 + 1
sent_few c s = let f = flushed_sound c s in omega (arith, sent_is (with_endpoint_flushed c) f, f.begins, f.parts.tcp.bounds.sent, one_at_most (flushed c.endpoint).sending.fin_sent)

pub sound_again : {S : Type 0} (c : ConnState S) → IsSound c → IsSound (turn_ended c)
sound_again c s =
    let f : IsSound (with_endpoint_flushed c) = flushed_sound c s in
    record {
      parts = f.parts;
      boot = f.boot;
      sisn = f.sisn;
      fetched = f.fetched;
      read = f.read;
      taken = f.taken;
      begins = f.begins;
      sent = omega (arith, sent_is (with_endpoint_flushed c) f);
      answered = f.answered;
      roomy = f.roomy;
    }
