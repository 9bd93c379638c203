-- A TCP whose ACK is delayed: what it sends, and how its turn ends.
use Rattle.std.proofs.Common.{◌≡◌, true, false, refl, sym, subst, arith, ◌∙◌}
use Rattle.std.specs.Prelude.{if◌then◌else◌}
use Rattle.tcp_endpoint.specs.Output.{full_out, leaving, flushed, with_ack_delayed}
use Rattle.tcp_endpoint.specs.Tcb.{Tcb}
use Rattle.wrapped_conn.specs.declared.stage.Before.{Before}
use Rattle.wrapped_conn.specs.ConnState.{ConnState}
use Rattle.wrapped_conn.specs.Numbers.{sent_units}
use Rattle.wrapped_conn.specs.Output.{turn_ended, is_delayed, tcp_out}
use Rattle.wrapped_conn.specs.Sound.{IsSound, IsSoundTcp}
use Rattle.wrapped_conn.proofs.Kept.{ProceedsFrom}
use Rattle.wrapped_conn.proofs.SoundAgain.{sound_with}

pub delayed_sends : {S : Type 0} (before : Before) (c : ConnState S) (t : Tcb) → is_delayed before c ≡ true → leaving t ≡ full_out c.endpoint → leaving t ≡ tcp_out before c
delayed_sends before c t waits is = is ∙ (λ j. if sym waits j then full_out c.endpoint else leaving c.endpoint)

pub undelayed_sends : {S : Type 0} (before : Before) (c : ConnState S) → is_delayed before c ≡ false → leaving c.endpoint ≡ tcp_out before c
undelayed_sends before c at_once = λ j. if sym at_once j then full_out c.endpoint else leaving c.endpoint

pub delayed_ends : {S : Type 0} (c : ConnState S) (t : Tcb) → flushed t ≡ flushed c.endpoint → turn_ended (record c { endpoint = t }) ≡ turn_ended c
delayed_ends c t is = λ j. record c { endpoint = is j; south = record c.south { sent = sent_units (record c { endpoint = is j }) } }

delay_goes : (e : Tcb) → IsSoundTcp e → ProceedsFrom e (with_ack_delayed e)
unfolding with_ack_delayed
delay_goes e s = record {
  sound = record { bounds = s.bounds; buffered = s.buffered; begun = s.begun; fin_last = s.fin_last };
  read = refl;
  limit = refl;
  more = omega arith;
  iss = refl;
  mss = refl;
  closed = refl;
  sent = omega arith;
  held = λ o. omega arith;
}

pub delayed_sound : {S : Type 0} (c : ConnState S) (t : Tcb) → IsSound c → t ≡ with_ack_delayed c.endpoint → IsSound (record c { endpoint = t })
delayed_sound c t s is = subst (λ (e : Tcb). IsSound (record c { endpoint = e })) (sym is) (sound_with c (with_ack_delayed c.endpoint) s (delay_goes c.endpoint s.parts.tcp))
