-- The state of an endpoint tells how its connection has ended, and a close and a flush keep it so.
use Rattle.std.proofs.Common.{◌≡◌, ℕ, ◌≤◌, ◌+◌, Bool, true, false, Some, None, length, refl, sym, ap, arith, ◌∙◌}
use Rattle.std.specs.Prelude.{◌==◌, ◌&&◌, ◌||◌, if◌then◌else◌}
use Rattle.std.proofs.lemmas.Bool.{false≢true, and_from}
use Rattle.tcp_endpoint.specs.declared.states.StateName.{StateName}
use Rattle.tcp_endpoint.specs.declared.states.StateName.TheVariants.{Closed, Listen, SynSent, SynReceived, Established, FinWait1, FinWait2, CloseWait, Closing, LastAck, TimeWait}
use Rattle.tcp_endpoint.specs.States.{has_begun, is_closed, is_time_wait}
use Rattle.tcp_endpoint.specs.SendHalf.{Sending, fin_acked}
use Rattle.tcp_endpoint.specs.Tcb.{Tcb}
use Rattle.endpoint_laws.specs.ConnectionEnd.{IsNamed, is_over}
use Rattle.endpoint_laws.proofs.EndingLaw.{IsPlaced, FollowsAt}
use Rattle.ft_model.specs.Client.{Client, is_ended}
use Rattle.ft_model.specs.declared.phase.Phase.{Phase}
use Rattle.ft_model.specs.declared.phase.Phase.TheVariants as phases
use Rattle.peer_client.specs.declared.live.ClientEnd.TheVariants as ends
use Rattle.peer_client.specs.Live.{LiveState, end_of}
use Rattle.peer_client.specs.Refinement.{IsConnected, Sends, is_reset, outcome_of}
use Rattle.ft_io.proofs.Booleans.{left_true, right_true}

placed_from : (name : StateName) (o c f a : Bool) → IsNamed name o c f a → o ≡ true → (has_begun name ≡ false → (name ≡ Closed) × (c ≡ true) × ((f && a) ≡ true))
    → IsPlaced name o c f a
placed_from Closed o c f a h is over = (is, (over refl).1, left_true f a (over refl).2, right_true f a (over refl).2)
placed_from Listen o c f a h is over = absurd (false≢true (ap is_closed (over refl).0))
placed_from SynSent o c f a h is over = absurd (false≢true (ap is_closed (over refl).0))
placed_from SynReceived o c f a h is over = h
placed_from Established o c f a h is over = h
placed_from FinWait1 o c f a h is over = h
placed_from FinWait2 o c f a h is over = h
placed_from CloseWait o c f a h is over = h
placed_from Closing o c f a h is over = h
placed_from LastAck o c f a h is over = h
placed_from TimeWait o c f a h is over = h

over_from : (name : StateName) (o c f a : Bool) → IsPlaced name o c f a → has_begun name ≡ false → (name ≡ Closed) × (c ≡ true) × ((f && a) ≡ true)
over_from Closed o c f a h none = (refl, h.1, and_from f a h.2 h.3)
over_from Listen o c f a h none = absurd h
over_from SynSent o c f a h none = absurd h
over_from SynReceived o c f a h none = absurd (false≢true (sym none))
over_from Established o c f a h none = absurd (false≢true (sym none))
over_from FinWait1 o c f a h none = absurd (false≢true (sym none))
over_from FinWait2 o c f a h none = absurd (false≢true (sym none))
over_from CloseWait o c f a h none = absurd (false≢true (sym none))
over_from Closing o c f a h none = absurd (false≢true (sym none))
over_from LastAck o c f a h none = absurd (false≢true (sym none))
over_from TimeWait o c f a h none = absurd (false≢true (sym none))

-- the two forms in which the state is told
pub follows_of : (l : LiveState) (c : Client) → IsConnected l c → FollowsAt l.tcb
follows_of l c h =
    let s : Sending = l.tcb.sending in
    record {
      placed = placed_from l.tcb.name s.syn_acked s.closed l.tcb.receiving.fin (fin_acked s) h.named h.syn_acked h.over;
      ends = λ k. (h.agrees.sends.ended k).0;
      order = h.agrees.sends.order;
      unsent = λ k. absurd (false≢true (sym k ∙ h.syn_acked));
    }

pub over_at : (e : Tcb) → FollowsAt e → has_begun e.name ≡ false → (e.name ≡ Closed) × (e.sending.closed ≡ true) × (is_over e ≡ true)
over_at e h none = over_from e.name e.sending.syn_acked e.sending.closed e.receiving.fin (fin_acked e.sending) h.placed none

-- TIME-WAIT and CLOSED are the states in which both FINs are through
ended_by : (name : StateName) (o c f a : Bool) → IsPlaced name o c f a → (a ≡ true → c ≡ true) → (is_time_wait name || is_closed name) ≡ (f && a)
ended_by Closed o c f a h closes = sym (and_from f a h.2 h.3)
ended_by Listen o c f a h closes = absurd h
ended_by SynSent o c f a h closes = absurd h
ended_by SynReceived o c f a h closes = ap (λ b. b && a) (sym h.1)
ended_by Established o c f a h closes = ap (λ b. b && a) (sym h.2)
ended_by FinWait1 o c f a h closes = ap (λ b. b && a) (sym h.2)
ended_by FinWait2 o c f a h closes = ap (λ b. b && a) (sym h.2)
ended_by CloseWait o c f a h closes = sym (none_acked f a c closes h.1)
  where
    none_acked : (f a c : Bool) → (a ≡ true → c ≡ true) → c ≡ false → (f && a) ≡ false
    none_acked true true c closes unclosed = absurd (false≢true (sym unclosed ∙ closes refl))
    none_acked true false c closes unclosed = refl
    none_acked false a c closes unclosed = refl
ended_by Closing o c f a h closes = sym (no_right f a h.3)
  where
    no_right : (f a : Bool) → a ≡ false → (f && a) ≡ false
    no_right true a none = none
    no_right false a none = refl
ended_by LastAck o c f a h closes = sym (no_right f a h.3)
  where
    no_right : (f a : Bool) → a ≡ false → (f && a) ≡ false
    no_right true a none = none
    no_right false a none = refl
ended_by TimeWait o c f a h closes = sym (and_from f a h.2 h.3)

-- the FIN is acknowledged where one unit more than the script is
acked_is : (f : Bool) (una sent written len : ℕ) → (f ≡ false → sent ≤ written) → (f ≡ true → sent ≡ written + 1) → una ≤ sent → (f ≡ true → written ≡ len) → written ≤ len
    → (f && una == sent) ≡ (una == len + 1)
acked_is true una sent written len text ended order whole within = ap (λ n. una == n) (ended refl ∙ ap (λ n. n + 1) (whole refl))
acked_is false una sent written len text ended order whole within = below (text refl)
  where
    below : sent ≤ written → false ≡ (una == len + 1)
    below h = grind (arith, h, order, within)

pub acked_at : (s : Sending) (written : ℕ) (c : Client) → Sends s written c → fin_acked s ≡ (c.acknowledged == length c.script + 1)
acked_at s written c h =
    acked_is s.fin_sent s.una s.sent written (length c.script) h.text (λ k. (h.ended k).1) h.order (λ k. h.shut (h.ended k).0) h.within
    ∙ ap (λ n. n == length c.script + 1) (sym h.acknowledged)

open_unreset : (phase : Phase) → is_ended phase ≡ true → is_reset phase ≡ false
open_unreset phases.Ended h = refl
open_unreset phases.New h = refl
open_unreset phases.Opening h = refl
open_unreset phases.Established h = refl
open_unreset phases.Reset h = absurd (false≢true h)

-- so the endpoint's end is the machine's
pub ends_alike : (e : Tcb) (written : ℕ) (c : Client) → FollowsAt e → e.reset ≡ false → is_reset c.phase ≡ false → is_ended c.phase ≡ e.receiving.fin
    → Sends e.sending written c → end_of e ≡ outcome_of c
ends_alike e written c h unreset phase fin sends =
    let through : (is_time_wait e.name || is_closed e.name) ≡ (e.receiving.fin && fin_acked e.sending) =
    ended_by e.name e.sending.syn_acked e.sending.closed e.receiving.fin (fin_acked e.sending) h.placed
    (λ k. h.ends (left_true e.sending.fin_sent (e.sending.una == e.sending.sent) k)) in
    (λ i. if unreset i then Some ends.Reset else (if is_time_wait e.name || is_closed e.name then Some ends.Closed else None))
    ∙ ap (λ b. if b then Some ends.Closed else None) (through ∙ (λ i. sym fin i && acked_at e.sending written c sends i))
    ∙ (λ i. if sym phase i then Some ends.Reset else (if is_ended c.phase && c.acknowledged == length c.script + 1 then Some ends.Closed else None))
