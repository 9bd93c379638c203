-- The turn in which both FINs are through and the endpoint becomes CLOSED: nothing leaves, and it stands at the point after it.
use Rattle.std.proofs.Common.{◌≡◌, ℕ, ◌≤◌, ◌+◌, Bool, true, false, not, None, List, [], ◌∷◌, length, min, max, refl, sym, ap, arith, ◌∙◌}
use Rattle.std.specs.Prelude.{ℤ, pos, ◌==◌, ◌&&◌, ◌||◌, nat_lt, int_lt, int_le, if◌then◌else◌}
use Rattle.std.proofs.lemmas.Bool.{false≢true, and_parts}
use Rattle.std.proofs.lemmas.Int.{ints}
use Rattle.ft_io.specs.declared.Addr.{Addr}
use Rattle.seq_arith.specs.Packet.{Segment, has_syn, has_rst, has_ack}
use Rattle.server_trait.specs.Service.{Machine}
use Rattle.seq_arith.specs.Offset.{one_if, ack_of}
use Rattle.ft_model.specs.Point.{Point}
use Rattle.ft_model.specs.Point as point
use Rattle.ft_model.specs.News.{News}
use Rattle.ft_model.specs.News.News.{Comes, Logged, Ticks, Begins}
use Rattle.ft_model.specs.Taken.{accepts, uses, acknowledges_unsent, counts}
use Rattle.ft_model.specs.PendingAck.{is_refused}
use Rattle.ft_model.specs.Sending.{syn_acked_after, sent_at_once, sent_after}
use Rattle.ft_model.specs.Timer as timer
use Rattle.tcp_endpoint.specs.declared.states.StateName.{StateName}
use Rattle.tcp_endpoint.specs.declared.states.StateName.TheVariants.{Closed, Listen, SynSent, SynReceived, Established, FinWait1, FinWait2, CloseWait, Closing, LastAck, TimeWait}
use Rattle.tcp_endpoint.specs.States.{has_begun}
use Rattle.tcp_endpoint.specs.SendHalf.{target, send_edge, fin_acked}
use Rattle.tcp_endpoint.specs.Tcb.{Tcb}
use Rattle.tcp_endpoint.specs.Output.{reset_reply_segments, reset_reply_out}
use Rattle.endpoint_laws.specs.Laws.{ProbesRightly}
use Rattle.endpoint_laws.specs.Turn.{Call, MayUse, IsUsualNews, IsBetweenTurns, arrived, used, before_flush}
use Rattle.endpoint_laws.specs.Refinement.{SendsAt, StandsAt, MeetsLaws, IsUsedAt, EndsAt, refuses, refusals}
use Rattle.endpoint_laws.specs.ConnectionEnd.{IsNamed, IsNamedRightly, has_taken_fin, resets}
use Rattle.endpoint_laws.proofs.Calls.{FinIsLast, IsUsed, used_is, bounded_used, last_used, probes_used}
use Rattle.endpoint_laws.proofs.Arrivals.{Arrived, arrives}
use Rattle.endpoint_laws.proofs.AnswersAlone.{reset_reply_none, closed_sends}
use Rattle.endpoint_laws.proofs.EndingLaw.{IsPlaced, FollowsAt, unreset_follows}
use Rattle.endpoint_laws.proofs.TurnEnd.{sent_at}
use Rattle.endpoint_laws.proofs.Turns.{receives_of, sends_of, probes_by}
use Rattle.ft_io.proofs.Booleans.{not_true, false_or}

record IsEnded (name : StateName) (o c f a : Bool) : Type 0 where
  name_is : name ≡ Closed
  syn_acked : o ≡ true
  fin : f ≡ true
  acked : a ≡ true

ended_by : (name : StateName) (o c f a : Bool) → has_begun name ≡ false → IsPlaced name o c f a → IsEnded name o c f a
ended_by Closed o c f a ended h = record { name_is = refl; syn_acked = h.0; fin = h.2; acked = h.3 }
ended_by Listen o c f a ended h = absurd h
ended_by SynSent o c f a ended h = absurd h
ended_by SynReceived o c f a ended h = absurd (false≢true (sym ended))
ended_by Established o c f a ended h = absurd (false≢true (sym ended))
ended_by FinWait1 o c f a ended h = absurd (false≢true (sym ended))
ended_by FinWait2 o c f a ended h = absurd (false≢true (sym ended))
ended_by CloseWait o c f a ended h = absurd (false≢true (sym ended))
ended_by Closing o c f a ended h = absurd (false≢true (sym ended))
ended_by LastAck o c f a ended h = absurd (false≢true (sym ended))
ended_by TimeWait o c f a ended h = absurd (false≢true (sym ended))

-- no RST answers where an acknowledgement has counted
last_of : (a b c d e : Bool) → (a && b && c && d && e) ≡ true → e ≡ true
last_of true true true true e h = h
last_of true true true false e h = absurd (false≢true h)
last_of true true false d e h = absurd (false≢true h)
last_of true false c d e h = absurd (false≢true h)
last_of false b c d e h = absurd (false≢true h)

off_four : (a b c d : Bool) → d ≡ false → (a && b && c && d) ≡ false
off_four true true true d h = h
off_four true true false d h = refl
off_four true false c d h = refl
off_four false b c d h = refl

off_three : (a b c : Bool) → c ≡ false → (a && b && c) ≡ false
off_three true true c h = h
off_three true false c h = refl
off_three false b c h = refl

pub less_is : (z : ℤ) → int_lt z (pos 0) ≡ not (int_le (pos 0) z)
less_is z = grind (arith, ints)

unrefused : (used_by_place rst syn syn_acked ack low neg unsent : Bool) → neg ≡ not low
    → (syn_acked || (ack && not syn && not rst && used_by_place && (syn_acked || low) && not unsent)) ≡ true → (not syn_acked && ack && (neg || unsent)) ≡ false
unrefused used_by_place rst syn true ack low neg unsent is h = refl
unrefused used_by_place rst syn false ack low neg unsent is h =
    let two = and_parts (ack && not syn && not rst && used_by_place && low) (not unsent) h in
    let not_neg : neg ≡ false = is ∙ ap not (last_of ack (not syn) (not rst) used_by_place low two.0) in
    off_three true ack (neg || unsent) (false_or neg unsent not_neg ∙ not_true unsent two.1)

pub none_if : (b : Bool) (x : Segment) → b ≡ false → (if b then x ∷ [] else []) ≡ []
none_if true x h = absurd (false≢true (sym h))
none_if false x h = refl

no_reset_reply : (server : Addr) (news : News) (before : Point) → syn_acked_after news before ≡ true → refusals server news before ≡ []
unfolding syn_acked_after counts
no_reset_reply server (Comes segment) before h =
    none_if (refuses before segment) _ (off_four (accepts before segment) (not (has_rst segment)) (not (has_syn segment)) (is_refused before segment)
    (unrefused (uses before segment) (has_rst segment) (has_syn segment) before.syn_acked (has_ack segment) (int_le (pos 0) (ack_of before.sisn segment))
    (int_lt (ack_of before.sisn segment) (pos 0)) (acknowledges_unsent before segment) (less_is (ack_of before.sisn segment)) h))
no_reset_reply server (Logged kept) before h = refl
no_reset_reply server Ticks before h = refl
no_reset_reply server Begins before h = refl

target_sent : (f : Bool) (sent n : ℕ) → f ≡ true → (if f then sent else n) ≡ sent
target_sent true sent n h = refl
target_sent false sent n h = absurd (false≢true h)

no_probe : (b : Bool) (sent t : ℕ) → (b ≡ true → sent + 1 ≤ t) → t ≡ sent → b ≡ false
no_probe true sent t waits is = absurd (omega (arith, waits refl, is))
no_probe false sent t waits is = refl

max_itself : (s e : ℕ) → max s (min s e) + 0 ≡ s
max_itself s e = omega arith

-- the state tells whether the peer's FIN is taken
pub fin_by_name : (name : StateName) (o c f a : Bool) → has_begun name ≡ true → IsNamed name o c f a → f ≡ has_taken_fin name
fin_by_name Closed o c f a begun h = absurd (false≢true begun)
fin_by_name Listen o c f a begun h = absurd (false≢true begun)
fin_by_name SynSent o c f a begun h = absurd (false≢true begun)
fin_by_name SynReceived o c f a begun h = h.1
fin_by_name Established o c f a begun h = h.2
fin_by_name FinWait1 o c f a begun h = h.2
fin_by_name FinWait2 o c f a begun h = h.2
fin_by_name CloseWait o c f a begun h = h.2
fin_by_name Closing o c f a begun h = h.2
fin_by_name LastAck o c f a begun h = h.2
fin_by_name TimeWait o c f a begun h = h.2

pub ends_law : {State : Type 0} (service : Machine State) (news : News) (calls : List Call) (before after : Point) (e : Tcb)
    → has_begun e.name ≡ true → IsBetweenTurns e → IsNamedRightly e → StandsAt before e → IsUsualNews news e → MayUse calls (arrived news e) → resets news e ≡ false
    → has_begun (before_flush news calls e).name ≡ false → MeetsLaws service news before after → IsUsedAt service after (before_flush news calls e)
    → EndsAt after (before_flush news calls e)
unfolding reset_reply_out sent_after sent_at_once
ends_law service news calls before after e begun between named stands usual may unreset ended laws user =
    let m : Tcb = arrived news e in
    let u : Tcb = used calls m in
    let came : Arrived news before e m = arrives news before e begun between stands usual in
    let a : IsUsed m u = used_is calls m may in
    let f : FollowsAt u = unreset_follows news calls e begun between named unreset in
    let x : IsEnded u.name u.sending.syn_acked u.sending.closed u.receiving.fin (fin_acked u.sending) =
    ended_by u.name u.sending.syn_acked u.sending.closed u.receiving.fin (fin_acked u.sending) ended f.placed in
    let acked = and_parts u.sending.fin_sent (u.sending.una == u.sending.sent) x.acked in
    let syn_acked : syn_acked_after news before ≡ true = came.sends.syn_acked ∙ sym a.sends.syn_acked ∙ x.syn_acked in
    let reset_reply : u.reset_reply ≡ None = a.reset_reply ∙ reset_reply_none m.reset_reply (came.reset_reply ∙ no_reset_reply e.local news before syn_acked) in
    let last : FinIsLast u.sending = last_used m.sending u.sending a.sends came.fin_last in
    let bounds = bounded_used calls m may came.fin_last came.bounds in
    let full : target u.sending ≡ u.sending.sent = target_sent u.sending.fin_sent u.sending.sent (u.sending.una + length u.sending.held + one_if u.sending.closed) acked.0 in
    let probes : ProbesRightly u = probes_used m u a came.probes in
    let none : u.probe ≡ false = no_probe u.probe u.sending.sent (target u.sending) probes.waits full in
    let probe : timer.probes news before ≡ u.probe =
    (λ i. timer.expires news before && stands.sends.syn_acked i && not (nat_lt (stands.sends.una i) (stands.sent i)))
    ∙ sym (probes_by (timer.expires news before) e.sending.syn_acked (nat_lt e.sending.una e.sending.sent)) ∙ sym (a.probe ∙ came.probe) in
    let s : SendsAt after u = sends_of service news before after m u came.sends a laws in
    record {
      closed = x.name_is;
      over = λ i. x.fin i && x.acked i;
      receives = receives_of service news before after m u came.receives a laws user;
      sends = s;
      sent = laws.sent
          ∙ (λ i. max ((stands.sent ∙ sym (a.sends.sent ∙ came.sent)) i) (min (point.target service after) (min (s.edge i) (s.una i + (s.congestion i).cwnd)))
          + one_if ((probe ∙ none) i))
          ∙ ap (λ n. n + 0) (sent_at service after u bounds last user)
          ∙ (λ i. max u.sending.sent (min (full i) (send_edge u.sending)) + 0) ∙ max_itself u.sending.sent (send_edge u.sending);
      silent = closed_sends u x.name_is ∙ ap reset_reply_segments reset_reply;
    }
