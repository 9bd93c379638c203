-- The turn in which the inner TCP becomes CLOSED, since both FINs are through.
use Rattle.std.proofs.Common.{◌^◌, ◌%◌, ◌≡◌, ℕ, ◌≤◌, ◌+◌, ◌-◌, Bool, true, false, not, None, List, length, max, refl, sym, ap, arith, ⊎_elim, ◌∙◌, subst, ◌<◌}
use Rattle.std.specs.Prelude.{◌⊎◌, ◌==◌, ◌&&◌, ◌||◌, nat_lt, if◌then◌else◌}
use Rattle.std.proofs.lemmas.Bool.{false≢true, and_parts}
use Rattle.ft_io.proofs.Numbers.{equal_of_test}
use Rattle.server_trait.specs.Service.{Machine}
use Rattle.tcp_rules.specs.Congestion.{Congestion}
use Rattle.ft_model.specs.Offset.{one_if}
use Rattle.ft_model.specs.Point.{Point, answered_run, released, target}
use Rattle.ft_model.specs.Network.{Packet}
use Rattle.ft_model.specs.News.{News}
use Rattle.ft_model.specs.News.News.{Comes, Logged, Ticks, Begins}
use Rattle.ft_model.specs.ResetAndEnd.{reset_after}
use Rattle.ft_model.specs.Sending.{acknowledged_after}
use Rattle.ft_model.specs.Timer.{is_tick, expires}
use Rattle.ft_model.specs.Segments.{opens_with, repeats_syn}
use Rattle.seq_arith.specs.Packet.{Segment}
use Rattle.tcp_endpoint.specs.States.{has_begun}
use Rattle.tcp_endpoint.specs.SendHalf.{Sending, must_run}
use Rattle.tcp_endpoint.specs.Tcb.{Tcb}
use Rattle.tcp_endpoint.specs.Output.{flushed, with_turn_ended, with_advertised, after_full, with_timed, with_fin_out, with_text_sent, with_probe}
use Rattle.endpoint_laws.specs.ConnectionEnd.{IsNamedRightly, resets}
use Rattle.endpoint_laws.specs.Laws.{IsBounded}
use Rattle.endpoint_laws.specs.Turn.{Call, MayUse, arrived, before_flush}
use Rattle.endpoint_laws.specs.Refinement.{ReceivesAt, MeetsLaws, HasWrittenAll, HasFilled, EndsAt}
use Rattle.endpoint_laws.proofs.Calls.{FinIsLast, IsUsed, used_is, bounded_used, last_used}
use Rattle.endpoint_laws.proofs.Arrivals.{Arrived, arrives}
use Rattle.endpoint_laws.proofs.Ends.{ends_law}
use Rattle.endpoint_laws.proofs.EndingLaw.{flushed_name, reset_law}
use Rattle.endpoint_laws.proofs.Bounding.{bounded_by_flush}
use Rattle.endpoint_laws.proofs.TurnEnd.{flush_keeps, last_flushed}
use Rattle.endpoint_laws.proofs.Turns.{flushed_receives}
use Rattle.south_wrap.specs.Translation.{inward}
use Rattle.south_wrap.specs.SouthPoint.{south_at}
use Rattle.connection_laws.specs.Inside.{swallowing, inside}
use Rattle.connection_laws.specs.Traffic.{news_inside}
use Rattle.connection_laws.specs.Turn.{NewsFit, Turns, IsLater, StandsInside}
use Rattle.connection_laws.specs.ClosedTcp.{LeavesInside, EndsInside}
use Rattle.connection_laws.proofs.Swallowed.{inside_runs, inside_released}
use Rattle.connection_laws.proofs.Meets.{laws_inside}
use Rattle.connection_laws.proofs.Again.{stays}
use Rattle.connection_laws.proofs.ResetNumber.{resets_is}
use Rattle.connection_laws.proofs.Whole.{usual_news, above}
use Rattle.connection_laws.proofs.Quiet.{resends_none, quiet_sends}
use Rattle.connection_laws.proofs.Outliving.{rest_stops, taken_stays, closed_sent}
use Rattle.connection_laws.proofs.FinTaken.{taken_before}
use Rattle.connection_laws.proofs.SendBuffer.{news_keep}
use Rattle.connection_laws.proofs.Reassembly.{behind_at}

-- no RST comes at the next number
pub unreset : (u i delta : ℕ) (p : Point) (e : Tcb) (news : News) → StandsInside u i delta p e → p.reset ≡ false → NewsFit p news → reset_after news p ≡ false
    → resets (news_inside delta p news) e ≡ false
unreset u i delta p e (Comes segment) st none fits off = resets_is u i delta p segment e st none fits.seq ∙ off
unreset u i delta p e (Logged kept) st none fits off = refl
unreset u i delta p e Ticks st none fits off = refl
unreset u i delta p e Begins st none fits off = refl

-- what its sending half tells: all is written, sent and acknowledged, the FIN too
record IsThrough (s : Sending) (released_inside : ℕ) (closed : Bool) : Type 0 where
  acknowledged : s.una ≡ s.sent
  some : 1 ≤ s.sent
  syn_acked : s.syn_acked ≡ true
  written : released_inside ≡ s.sent - 1
  closed_is : closed ≡ true

opened_by : (o : Bool) (sent : ℕ) → (o ≡ false → sent ≡ 0) → 1 ≤ sent → o ≡ true
opened_by true sent none some = refl
opened_by false sent none some = absurd (omega (arith, none refl, some))

end_at : (f : Bool) (sent n : ℕ) → f ≡ true → (if f then sent - 1 else n) ≡ sent - 1
end_at true sent n h = refl
end_at false sent n h = absurd (false≢true h)

through : {State : Type 0} (service : Machine State) (p : Point) (s : Sending) (acked : Bool) → (s.fin_sent && s.una == s.sent) ≡ true → FinIsLast s → (s.syn_acked ≡ false → s.sent ≡ 0)
    → HasWrittenAll service p s ⊎ HasFilled service p s → IsThrough s (released service p) (answered_run service p).closed
through service p s acked over last syn_unacked written =
    let parts = and_parts s.fin_sent (s.una == s.sent) over in
    let ends = last parts.0 in
    let all : HasWrittenAll service p s = ⊎_elim (λ h. h) (λ h. absurd (false≢true (sym h.open_still ∙ ends.0))) written in
    record {
      acknowledged = equal_of_test s.una s.sent parts.1;
      some = ends.1;
      syn_acked = opened_by s.syn_acked s.sent syn_unacked ends.1;
      written = all.written ∙ end_at s.fin_sent s.sent (s.una + length s.held) parts.0;
      closed_is = all.closed ∙ ends.0;
    }

-- the same outside
record IsThroughAt {State : Type 0} (service : Machine State) (p q : Point) : Type 0 where
  acknowledged : q.una ≡ q.sent
  all_sent : q.sent ≡ target service q
  past : released service q + 1 ≡ q.una
  before : p.sent ≡ q.sent

outside_una : (u una sent w : ℕ) → u ≤ una → una - u ≡ w → sent - u ≡ w → 1 ≤ w → una ≡ sent
outside_una u una sent w a b c d = omega (arith, a, b, c, d)

outside_past : (u r una w : ℕ) → u ≤ r → u ≤ una → r - u ≡ w - 1 → una - u ≡ w → 1 ≤ w → r + 1 ≡ una
outside_past u r una w a b c d e = omega (arith, a, b, c, d, e)

outside_before : (u p q w : ℕ) → p - u ≡ w → q - u ≡ w → 1 ≤ w → p ≡ q
outside_before u p q w a b c = omega (arith, a, b, c)

target_is : (c : Bool) (r una sent : ℕ) → c ≡ true → r + 1 ≡ una → una ≡ sent → sent ≡ r + (if c then 1 else 0)
target_is true r una sent h a b = omega (arith, a, b)
target_is false r una sent h a b = absurd (false≢true h)

lt_by : (r una : ℕ) → r + 1 ≡ una → nat_lt r una ≡ true
lt_by r una h = grind (arith, h)

-- a SYN that is repeated, and a start, don't end TCP
opens_by : (u i delta : ℕ) (p : Point) (e : Tcb) (segment : Segment) (calls : List Call) (b : Bool) → repeats_syn p segment ≡ b → has_begun e.name ≡ true
    → MayUse calls (arrived (if b then Begins else Comes (inward (south_at delta p) segment)) e)
    → has_begun (before_flush (if b then Begins else Comes (inward (south_at delta p) segment)) calls e).name ≡ false → repeats_syn p segment ≡ false
opens_by u i delta p e segment calls true is begun may ended = absurd (false≢true (sym ended ∙ (used_is calls e may).begun begun))
opens_by u i delta p e segment calls false is begun may ended = is

pub opens_not : (u i delta : ℕ) (p : Point) (e : Tcb) (news : News) (calls : List Call) → IsLater news p → has_begun e.name ≡ true → MayUse calls (arrived (news_inside delta p news) e)
    → has_begun (before_flush (news_inside delta p news) calls e).name ≡ false → opens_with news p ≡ false
opens_not u i delta p e (Comes segment) calls later begun may ended = opens_by u i delta p e segment calls (repeats_syn p segment) refl begun may ended
opens_not u i delta p e (Logged kept) calls later begun may ended = refl
opens_not u i delta p e Ticks calls later begun may ended = refl
opens_not u i delta p e Begins calls later begun may ended = ap not later

-- at a tick all was acknowledged before, so the timer stood still
runs_not : (o f : Bool) (una sent n : ℕ) → o ≡ true → f ≡ true → una ≡ sent → (not o || nat_lt una (max sent (if f then sent else n))) ≡ false
runs_not true true una sent n a b h = grind (arith, h)
runs_not true false una sent n a b h = absurd (false≢true b)
runs_not false f una sent n a b h = absurd (false≢true a)

stands_by : (rest : ℕ) (runs : Bool) → (1 ≤ rest → runs ≡ true) → runs ≡ false → (rest == 1) ≡ false
stands_by rest true must off = absurd (false≢true (sym off))
stands_by rest false must off = by_size (rest == 1) refl
  where
    by_size : (b : Bool) → (rest == 1) ≡ b → (rest == 1) ≡ false
    by_size true h = absurd (false≢true (must (grind (arith, h))))
    by_size false h = h

expires_not : (news : News) (p : Point) → (is_tick news ≡ true → (p.rest == 1) ≡ false) → expires news p ≡ false
expires_not (Comes segment) p h = refl
expires_not (Logged kept) p h = refl
expires_not Ticks p h = h refl
expires_not Begins p h = refl

-- nothing is acknowledged at a tick
una_ticks : (news : News) (p : Point) → is_tick news ≡ true → acknowledged_after news p ≡ p.una
unfolding acknowledged_after
una_ticks (Comes segment) p h = absurd (false≢true h)
una_ticks (Logged kept) p h = absurd (false≢true h)
una_ticks Ticks p h = refl
una_ticks Begins p h = absurd (false≢true h)

less_same : (u a b w : ℕ) → u ≤ a → u ≤ b → a ≡ b → a - u ≡ w → b - u ≡ w
less_same u a b w x y h k = omega (arith, x, y, h, k)

flushed_reset_reply : (w : Tcb) → (flushed w).reset_reply ≡ None
unfolding flushed with_turn_ended with_advertised after_full with_timed with_fin_out with_text_sent with_probe
flushed_reset_reply w = refl

pub flushed_reset : (w : Tcb) → (flushed w).reset ≡ w.reset
unfolding flushed with_turn_ended with_advertised after_full with_timed with_fin_out with_text_sent with_probe
flushed_reset w = refl

pub ends_inside : {State : Type 0} (service : Machine State) (boot u i delta : ℕ) (news : News) (p q : Point) (calls : List Call) (e : Tcb) (sent : List Packet)
    → StandsInside u i delta p e → IsNamedRightly e → p.reset ≡ false → reset_after news p ≡ false → e.reset ≡ false
    → Turns service e.local boot news p q sent u i delta → LeavesInside service u i delta news p q calls e → EndsInside service u i delta news p q calls e
ends_inside service boot u i delta news p q calls e sent st named unreset_p off kept t l =
    let inner : News = news_inside delta p news in
    let m : Tcb = arrived inner e in
    let w : Tcb = before_flush inner calls e in
    let rises = stays u i delta news p st.proceeds t.fits in
    let una_above : u ≤ q.una = above u (acknowledged_after news p) q.una rises.una t.goes.una in
    let laws : MeetsLaws (swallowing u service) inner (inside u i p) (inside u i q) =
    laws_inside service e.local boot u i delta news p q sent st.proceeds t.fits una_above t.given t.goes in
    let usual = usual_news u i delta p e news st.proceeds st.stands t.fits in
    let none : resets inner e ≡ false = unreset u i delta p e news st unreset_p t.fits off in
    let end : EndsAt (inside u i q) w =
    ends_law (swallowing u service) inner calls (inside u i p) (inside u i q) e st.begun st.between named st.stands usual l.may none l.ended laws l.used in
    let came : Arrived inner (inside u i p) e m = arrives inner (inside u i p) e st.begun st.between st.stands usual in
    let a : IsUsed m w = used_is calls m l.may in
    let last : FinIsLast w.sending = last_used m.sending w.sending a.sends came.fin_last in
    let bounds : IsBounded w = bounded_used calls m l.may came.fin_last came.bounds in
    let over = and_parts w.receiving.fin (w.sending.fin_sent && w.sending.una == w.sending.sent) end.over in
    let h : IsThrough w.sending (released (swallowing u service) (inside u i q)) (answered_run (swallowing u service) (inside u i q)).closed =
    through (swallowing u service) (inside u i q) w.sending true over.1 last bounds.syn_unacked l.used.written in
    let released_is : released service q - u ≡ w.sending.sent - 1 = sym (inside_released service u i q) ∙ h.written in
    let closed : (answered_run service q).closed ≡ true = sym (ap (λ r. r.closed) (inside_runs service u i q)) ∙ h.closed_is in
    let una_is : q.una - u ≡ w.sending.sent = end.sends.una ∙ h.acknowledged in
    let acknowledged : q.una ≡ q.sent = outside_una u q.una q.sent w.sending.sent una_above una_is end.sent h.some in
    let past : released service q + 1 ≡ q.una = outside_past u (released service q) q.una w.sending.sent t.given una_above released_is una_is h.some in
    let all_sent : q.sent ≡ target service q = target_is (answered_run service q).closed (released service q) q.una q.sent closed past acknowledged in
    let before_sent : p.sent - u ≡ w.sending.sent = st.stands.sent ∙ sym (a.sends.sent ∙ came.sent) in
    let before : p.sent ≡ q.sent = outside_before u p.sent q.sent w.sending.sent before_sent end.sent h.some in
    let syn_acked : q.syn_acked ≡ true = end.sends.syn_acked ∙ h.syn_acked in
    let e_sent : e.sending.sent ≡ w.sending.sent = sym (a.sends.sent ∙ came.sent) in
    let e_syn_acked : e.sending.syn_acked ≡ true = opened_by e.sending.syn_acked e.sending.sent st.between.bounds.syn_unacked (omega (arith, e_sent, h.some)) in
    let fin_before : p.fin ≡ true = st.stands.receives.fin ∙ taken_before inner calls e st.begun named l.may over.0 l.ended in
    let fin_sent : e.sending.fin_sent ≡ true = sym (a.sends.fin_sent ∙ (news_keep inner e st.begun st.between.bounds usual).fin_sent) ∙ (and_parts w.sending.fin_sent (w.sending.una == w.sending.sent) over.1).0 in
    let at_tick : is_tick news ≡ true → (p.rest == 1) ≡ false =
    λ tick.
    let same : q.una ≡ p.una = t.goes.una ∙ una_ticks news p tick in
    let una : e.sending.una ≡ e.sending.sent = sym st.stands.sends.una ∙ less_same u q.una p.una w.sending.sent una_above st.proceeds.una same una_is ∙ sym e_sent in
    ap (λ n. n == 1) st.stands.rest
    ∙ stands_by e.sending.rest (must_run e.sending) st.between.runs
    (runs_not e.sending.syn_acked e.sending.fin_sent e.sending.una e.sending.sent (e.sending.una + length e.sending.held + one_if e.sending.closed) e_syn_acked fin_sent una) in
    let fin : q.fin ≡ true = end.receives.fin ∙ over.0 in
    let few : p.congestion.lost ≤ p.sent - p.una =
    omega (arith, st.between.bounds.lost, st.stands.sent, st.stands.sends.una, ap (λ (c : Congestion). c.lost) st.stands.sends.congestion, st.proceeds.una) in
    let r : ReceivesAt (inside u i q) (flushed w) = flushed_receives (inside u i q) w end.receives in
    record {
      stands = record {
        name = flushed_name w ∙ end.closed;
        reset_reply = flushed_reset_reply w;
        kept = flushed_reset w ∙ reset_law inner calls e st.begun ∙ (λ j. kept j || none j);
        ended = flush_keeps (λ (s : Sending). s.closed) w (record { sends = λ s n. refl; ends = λ s. refl; times = λ s t x y. refl })
            ∙ (last (and_parts w.sending.fin_sent (w.sending.una == w.sending.sent) over.1).0).0;
        bounds = bounded_by_flush w bounds;
        fin_last = last_flushed w bounds last;
        counts = record {
          iss = flush_keeps (λ (s : Sending). s.iss) w (record { sends = λ s n. refl; ends = λ s. refl; times = λ s t x y. refl }) ∙ sym end.sends.sisn;
          syn_acked = flush_keeps (λ (s : Sending). s.syn_acked) w (record { sends = λ s n. refl; ends = λ s. refl; times = λ s t x y. refl }) ∙ h.syn_acked;
          una = end.sends.una ∙ sym (flush_keeps (λ (s : Sending). s.una) w (record { sends = λ s n. refl; ends = λ s. refl; times = λ s t x y. refl }));
          sent = end.sent ∙ sym (closed_sent w l.ended);
          above = una_above;
          small = st.proceeds.small;
          sisn = subst (λ n. n < 2 ^ 32) (sym t.goes.same.sisn) st.proceeds.sisn;
          shift = st.proceeds.shift ∙ ap (λ n. (n + u) % 2 ^ 32) (sym t.goes.same.sisn);
          delta_fits = st.proceeds.delta_fits;
        };
        receives = record { cisn = r.cisn; limit = r.limit; read = r.read; long = r.long; unread = r.unread; fin = r.fin; early = r.early };
        over = λ j. fin j && lt_by (released service q) q.una past j;
        syn_acked = syn_acked;
        acknowledged = acknowledged;
        all_sent = all_sent;
        still = t.goes.rest ∙ rest_stops service news p q syn_acked acknowledged all_sent;
      };
      silent = end.silent;
      syn_acked = st.stands.sends.syn_acked ∙ opened_by e.sending.syn_acked e.sending.sent st.between.bounds.syn_unacked (omega (arith, e_sent, h.some));
      taken = λ j. length ((t.goes.taken ∙ taken_stays news p (behind_at (inside u i p) e st.stands.receives st.between.bounds) fin_before) j) + one_if ((fin ∙ sym fin_before) j);
      segments = quiet_sends service e.local news p q (record {
        opens = opens_not u i delta p e news calls t.later st.begun l.may l.ended;
        expires = expires_not news p at_tick;
        again = resends_none news p (sym t.goes.una ∙ acknowledged ∙ sym before) few;
        past = omega (arith, past, acknowledged, before);
      });
    }
