-- A turn leads from the point at which an endpoint stands to the point that the laws lead to.
use Rattle.std.proofs.Common.{◌≡◌, ℕ, ◌≤◌, ◌+◌, ◌-◌, ◌*◌, ◌%◌, ◌^◌, Bool, true, false, not, List, [], ◌∷◌, ◌++◌, length, drop, max, min, refl, sym, ap, arith, ◌∙◌}
use Rattle.std.specs.Prelude.{pos, ◌+ℤ◌, ◌==◌, ◌&&◌, ◌||◌, nat_lt, if◌then◌else◌}
use Rattle.std.proofs.lemmas.Bool.{false≢true, and_parts}
use Rattle.ft_io.specs.declared.Addr.{Addr}
use Rattle.ft_io.proofs.Booleans.{left_true, right_true, or_false, or_true, and_false}
use Rattle.ft_io.proofs.Choices.{holds_either_way}
use Rattle.tcp_rules.specs.Coming.{early_from}
use Rattle.seq_arith.specs.Number.{offset_of}
use Rattle.seq_arith.specs.Packet.{Segment}
use Rattle.tcp_rules.specs.Timing.{Timing, with_sent}
use Rattle.server_trait.specs.Service.{Machine}
use Rattle.tcp_rules.specs.Arrival.{una_after}
use Rattle.tcp_rules.specs.Congestion.{Congestion, is_third}
use Rattle.seq_arith.specs.Offset.{one_if, text_of, fin_of}
use Rattle.ft_model.specs.News.{News}
use Rattle.ft_model.specs.News.News.{Comes, Logged, Ticks, Begins}
use Rattle.ft_model.specs.Point.{Point, taken_units, advertised_edge}
use Rattle.ft_model.specs.Point as point
use Rattle.ft_model.specs.Sending.{acknowledges, acknowledged_by, window_by, syn_acked_after, acknowledged_after, is_duplicate, is_third_duplicate, is_partial_ack, resends, sent_at_once, sent_after, timing_after}
use Rattle.ft_model.specs.Segments.{or_bare, bare_segment, resent, new_texts, new_fin}
use Rattle.ft_model.specs.Timer as timer
use Rattle.tcp_endpoint.specs.States.{has_begun}
use Rattle.tcp_endpoint.specs.ReceiveHalf.{next}
use Rattle.tcp_endpoint.specs.ReceiveHalf as half
use Rattle.tcp_endpoint.specs.SendHalf.{is_unacknowledged, target, send_edge}
use Rattle.tcp_endpoint.specs.Tcb.{Tcb}
use Rattle.tcp_endpoint.specs.Output.{reset_reply_out, full_out, leaving, after_full, with_advertised, with_turn_ended, flushed}
use Rattle.tcp_endpoint.specs.Output as left
use Rattle.endpoint_laws.specs.Laws.{IsBounded, ProbesRightly, asks, last_advertised}
use Rattle.endpoint_laws.specs.Turn.{Call, MayUse, IsUsualNews, IsBetweenTurns, arrived, used, before_flush}
use Rattle.endpoint_laws.specs.Refinement.{ReceivesAt, SendsAt, StandsAt, MeetsLaws, IsUsedAt, news_needs_ack, is_ack_pending, refusals, full_by_laws, segments_by_laws, LeadsTo}
use Rattle.ft_model.proofs.Stamped.{stays_off}
use Rattle.endpoint_laws.proofs.Bounding.{bounded_by_flush}
use Rattle.endpoint_laws.proofs.TurnLaw.{sent_law}
use Rattle.endpoint_laws.proofs.ReportedLaw.{leaving_by, reported_by_flush, shut_by_flush}
use Rattle.endpoint_laws.proofs.StandingLaw.{next_is, advertised_is}
use Rattle.endpoint_laws.proofs.Calls.{FinIsLast, IsUsed, used_is, bounded_used, last_used, probes_used}
use Rattle.endpoint_laws.proofs.Arrivals.{moved, Arrived, arrives, ack_pending_is}
use Rattle.endpoint_laws.proofs.Flushing.{Flushes, waits_for_ack}
use Rattle.endpoint_laws.proofs.TurnEnd.{flushed_sends, last_flushed, runs_flushed, sent_at, timing_law, flushed_sent, runs_at, running_at}
use Rattle.endpoint_laws.proofs.TimerAt.{Timed, timer_at}
use Rattle.endpoint_laws.proofs.Timings.{unit_base}
use Rattle.endpoint_laws.proofs.SegmentsLaw.{full_is, bare_is}

-- from the news to the end of the turn: the calls lead the endpoint on to the point after
pub receives_of : {State : Type 0} (service : Machine State) (news : News) (before after : Point) (m u : Tcb) → ReceivesAt (moved news before) m → IsUsed m u
    → MeetsLaws service news before after → IsUsedAt service after u → ReceivesAt after u
receives_of service news before after m u r a laws user =
    let rest : drop (m.receiving.read + after.fetched) after.taken ≡ m.receiving.unread =
    (λ i. drop (m.receiving.read + laws.same.fetched i) (laws.taken i)) ∙ r.unread in
    record {
      cisn = a.irs ∙ r.cisn ∙ (λ i. (sym laws.same.cisn i + sym laws.same.fetched i) % 2 ^ 32);
      limit = (λ i. a.limit i + laws.same.fetched i) ∙ r.limit;
      read = user.read;
      long = ap length laws.taken ∙ r.long ∙ (λ i. sym a.taken i + sym laws.same.fetched i);
      unread = a.unread after.taken after.fetched rest;
      fin = laws.fin ∙ r.fin ∙ sym a.fin;
      early = laws.early ∙ r.early ∙ (λ i. early_from (sym laws.same.fetched i) (sym a.early i));
    }

pub sends_of : {State : Type 0} (service : Machine State) (news : News) (before after : Point) (m u : Tcb) → SendsAt (moved news before) m → IsUsed m u
    → MeetsLaws service news before after → SendsAt after u
sends_of service news before after m u s a laws = record {
  sisn = laws.same.sisn ∙ s.sisn ∙ sym a.sends.iss;
  mss = laws.same.mss ∙ s.mss ∙ sym a.sends.mss;
  syn_acked = laws.syn_acked ∙ s.syn_acked ∙ sym a.sends.syn_acked;
  una = laws.una ∙ s.una ∙ sym a.sends.una;
  edge = laws.edge ∙ s.edge ∙ sym a.sends.edge;
  wl1 = λ h. laws.wl1 ∙ s.wl1 (sym a.sends.syn_acked ∙ h) ∙ (λ i. offset_of (sym a.irs i) (sym a.sends.wl1 i) +ℤ pos (sym laws.same.fetched i));
  wl2 = laws.wl2 ∙ s.wl2 ∙ sym a.sends.wl2;
  congestion = laws.congestion ∙ s.congestion ∙ sym a.sends.congestion;
}

-- what waits for an acknowledgement where the timer expires: the news of a tick acknowledge nothing
waits_is : {State : Type 0} (service : Machine State) (news : News) (before after : Point) (e : Tcb) → StandsAt before e → MeetsLaws service news before after
    → (keep : Bool → Bool) → (timer.expires news before && keep (is_unacknowledged e.sending)) ≡ (timer.expires news before && keep (waits_for_ack before after))
unfolding syn_acked_after acknowledged_after
waits_is service (Comes segment) before after e stands laws keep = refl
waits_is service (Logged kept) before after e stands laws keep = refl
waits_is service Ticks before after e stands laws keep = λ i.
    timer.expires Ticks before && keep (not ((sym stands.sends.syn_acked ∙ sym laws.syn_acked) i) || nat_lt ((sym stands.sends.una ∙ sym laws.una) i) (sym stands.sent i))
waits_is service Begins before after e stands laws keep = refl

-- a duplicate acknowledges nothing new, so what was in flight still is
still_waits : (acked text fin place late edge o : Bool) (una ack sent : ℕ) → place ≡ (ack == una) → late ≡ nat_lt una sent
    → (acked && text && fin && place && late && edge) ≡ true → (o || nat_lt (if acked then una_after una ack else una) sent) ≡ true
still_waits true text fin place late edge true una ack sent p l h = refl
still_waits true text fin place late edge false una ack sent p l h =
    let both = and_parts (true && text && fin && place) late (left_true (true && text && fin && place && late) edge h) in
    let here : (ack == una) ≡ true = sym p ∙ right_true (true && text && fin) place both.0 in
    let flies : nat_lt una sent ≡ true = sym l ∙ both.1 in
    grind (arith, here, flies)
still_waits false text fin place late edge o una ack sent p l h = absurd (false≢true h)

third_waits : {State : Type 0} (service : Machine State) (news : News) (before after : Point) → MeetsLaws service news before after
    → is_third_duplicate news before ≡ true → waits_for_ack before after ≡ true
unfolding is_third_duplicate is_duplicate acknowledged_after
third_waits service (Comes segment) before after laws h =
    let ack : ℕ = acknowledged_by before segment in
    ap (λ n. not after.syn_acked || nat_lt n before.sent) laws.una
    ∙ still_waits (acknowledges before segment) (length (text_of segment) == 0) (not (fin_of segment)) (ack == before.una) (nat_lt before.una before.sent)
    (ack + window_by before segment == before.edge) (not after.syn_acked) before.una ack before.sent refl refl
    (left_true (is_duplicate before segment) (is_third before.congestion) h)
third_waits service (Logged kept) before after laws h = absurd (false≢true h)
third_waits service Ticks before after laws h = absurd (false≢true h)
third_waits service Begins before after laws h = absurd (false≢true h)

-- nor does one that acknowledges only a part of what was in flight at a loss
part_waits : (acked recovers o : Bool) (una ack sent lost : ℕ) → lost ≤ sent - una
    → (acked && nat_lt una ack && (recovers && nat_lt (ack - una) lost)) ≡ true → (o || nat_lt (if acked then una_after una ack else una) sent) ≡ true
part_waits true true true una ack sent lost few h = refl
part_waits true true false una ack sent lost few h = grind (arith, few, h)
part_waits true false o una ack sent lost few h = absurd (false≢true (sym (and_false (true && nat_lt una ack)) ∙ h))
part_waits false recovers o una ack sent lost few h = absurd (false≢true h)

partial_waits : {State : Type 0} (service : Machine State) (news : News) (before after : Point) → MeetsLaws service news before after
    → before.congestion.lost ≤ before.sent - before.una → is_partial_ack news before ≡ true → waits_for_ack before after ≡ true
unfolding is_partial_ack acknowledged_after
partial_waits service (Comes segment) before after laws few h =
    ap (λ n. not after.syn_acked || nat_lt n before.sent) laws.una
    ∙ part_waits (acknowledges before segment) before.congestion.recovers (not after.syn_acked) before.una (acknowledged_by before segment) before.sent
    before.congestion.lost few h
partial_waits service (Logged kept) before after laws few h = absurd (false≢true h)
partial_waits service Ticks before after laws few h = absurd (false≢true h)
partial_waits service Begins before after laws few h = absurd (false≢true h)

either : (a b c : Bool) → (a ≡ true → c ≡ true) → (b ≡ true → c ≡ true) → (a || b) ≡ true → c ≡ true
either true b c p q h = p refl
either false b c p q h = q h

resends_wait : {State : Type 0} (service : Machine State) (news : News) (before after : Point) → MeetsLaws service news before after
    → before.congestion.lost ≤ before.sent - before.una → resends news before ≡ true → waits_for_ack before after ≡ true
resends_wait service news before after laws few =
    either (is_third_duplicate news before) (is_partial_ack news before) (waits_for_ack before after) (third_waits service news before after laws)
    (partial_waits service news before after laws few)

either_waits : (x t w : Bool) → (t ≡ true → w ≡ true) → ((x && w) || t) ≡ ((x || t) && w)
either_waits true true w h = sym (or_true w) ∙ sym (h refl)
either_waits true false w h = sym (or_false w)
either_waits false true w h = sym (h refl)
either_waits false false w h = refl

flushes : {State : Type 0} (service : Machine State) (news : News) (before after : Point) (e m u : Tcb) → StandsAt before e → before.congestion.lost ≤ before.sent - before.una → Arrived news before e m → IsUsed m u
    → IsBounded u → has_begun u.name ≡ true → MeetsLaws service news before after → IsUsedAt service after u → Flushes service news before after u
unfolding reset_reply_out
flushes service news before after e m u stands few came a bounds begun laws user = record {
  begun = begun;
  bounds = bounds;
  probes = probes_used m u a came.probes;
  fin_last = last_used m.sending u.sending a.sends came.fin_last;
  ip = ap (λ k. k.ip) laws.same.key ∙ stands.ip ∙ ap (λ (r : Addr). r.ip) (sym (a.remote ∙ came.remote));
  port = ap (λ k. k.port) laws.same.key ∙ stands.port ∙ ap (λ (r : Addr). r.port) (sym (a.remote ∙ came.remote));
  receives = receives_of service news before after m u came.receives a laws user;
  sends = sends_of service news before after m u came.sends a laws;
  used = user;
  sent = stands.sent ∙ sym (a.sends.sent ∙ came.sent);
  timestamping = laws.timestamping ∙ stays_off news before stands.timestamping;
  retransmission_due = a.retransmission_due ∙ came.retransmission_due ∙ ap (λ b. b || resends news before) (waits_is service news before after e stands laws (λ w. w))
      ∙ either_waits (timer.expires news before) (resends news before) (waits_for_ack before after) (resends_wait service news before after laws few);
  probe = a.probe ∙ came.probe ∙ waits_is service news before after e stands laws not;
  resends = resends_wait service news before after laws few;
  reset_reply = ap left.reset_reply_segments a.reset_reply ∙ came.reset_reply ∙ ap (λ l. refusals l news before) (sym (a.local ∙ came.local));
}

-- what is sent in the turn
pub probes_by : (x c y : Bool) → (x && not (not c || y)) ≡ (x && c && not y)
probes_by true true y = refl
probes_by true false y = refl
probes_by false c y = refl

sent_is : {State : Type 0} (service : Machine State) (news : News) (before after : Point) (e m u : Tcb) → StandsAt before e → Arrived news before e m → IsUsed m u
    → MeetsLaws service news before after → Flushes service news before after u → after.sent ≡ (flushed u).sending.sent
unfolding sent_after sent_at_once
sent_is service news before after e m u stands came a laws f =
    let probe : timer.probes news before ≡ u.probe =
    (λ i. timer.expires news before && stands.sends.syn_acked i && not (nat_lt (stands.sends.una i) (stands.sent i)))
    ∙ sym (probes_by (timer.expires news before) e.sending.syn_acked (nat_lt e.sending.una e.sending.sent)) ∙ sym (a.probe ∙ came.probe) in
    laws.sent
    ∙ (λ i. max (f.sent i) (min (point.target service after) (min (f.sends.edge i) (f.sends.una i + (f.sends.congestion i).cwnd))) + one_if (probe i))
    ∙ ap (λ n. n + one_if u.probe) (sent_at service after u f.bounds f.fin_last f.used)
    ∙ sym (sent_law u f.begun f.bounds f.probes)

-- a segment without data
or_bare_when : (a b : Bool) (bare : Segment) (refused rest : List Segment) → (refused ≡ [] → a ≡ b) → or_bare a bare (refused ++ rest) ≡ or_bare b bare (refused ++ rest)
or_bare_when a b bare [] rest same = ap (λ v. or_bare v bare rest) (same refl)
or_bare_when a b bare (x ∷ refused) rest same = refl

same_moves : (a b k : ℕ) → (a == b) ≡ (a + k == b + k)
same_moves a b k = grind arith

asks_is : {State : Type 0} (service : Machine State) (news : News) (before after : Point) (e m u : Tcb) → IsBetweenTurns e → StandsAt before e → Arrived news before e m
    → IsUsed m u → MeetsLaws service news before after → ReceivesAt after u → m.ack_pending ≡ news_needs_ack news before → asks u.ack_pending u ≡ is_ack_pending news before after
asks_is service news before after e m u between stands came a laws r ack_pending =
    let receipt : last_advertised u ≡ (next e.receiving, half.advertised_edge e.receiving) = a.reported ∙ came.reported ∙ between.reported in
    let units : (u.last_ack_sent == next u.receiving) ≡ (taken_units before == taken_units after) =
    ap (λ t. t.0 == next u.receiving) receipt ∙ same_moves (next e.receiving) (next u.receiving) before.fetched
    ∙ (λ i. sym (next_is before e stands.receives) i == (next u.receiving + sym laws.same.fetched i))
    ∙ ap (λ n. taken_units before == n) (sym (next_is after u r)) in
    let edges : (u.last_advertised_edge == half.advertised_edge u.receiving) ≡ (advertised_edge before == advertised_edge after) =
    ap (λ t. t.1 == half.advertised_edge u.receiving) receipt ∙ same_moves (half.advertised_edge e.receiving) (half.advertised_edge u.receiving) before.fetched
    ∙ (λ i. sym (advertised_is before e stands.receives) i == (half.advertised_edge u.receiving + sym laws.same.fetched i))
    ∙ ap (λ n. advertised_edge before == n) (sym (advertised_is after u r)) in
    λ i. (a.ack_pending ∙ ack_pending) i || not (units i) || not (edges i)

segments_are : {State : Type 0} (service : Machine State) (news : News) (before after : Point) (e m u : Tcb) → Flushes service news before after u
    → after.sent ≡ (after_full u).sending.sent → u.local ≡ e.local → (refusals e.local news before ≡ [] → asks u.ack_pending u ≡ is_ack_pending news before after)
    → leaving u ≡ segments_by_laws service e.local news before after
segments_are service news before after e m u f sent here ack_pending =
    leaving_by u u.ack_pending f.begun refl
    ∙ (λ i. or_bare (asks u.ack_pending u) (bare_is service news before after u f sent i) (full_is service news before after u f i))
    ∙ ap (λ l. or_bare (asks u.ack_pending u) (bare_segment l after)
    (refusals l news before ++ (resent service l news before after ++ (new_texts service l before after ++ new_fin service l before after)))) here
    ∙ or_bare_when (asks u.ack_pending u) (is_ack_pending news before after) (bare_segment e.local after) (refusals e.local news before) _ ack_pending

-- what is measured, as far as the news go, ..
noted_is : {State : Type 0} (service : Machine State) (news : News) (before after : Point) (e m u : Tcb) → Arrived news before e m → IsUsed m u
    → MeetsLaws service news before after → timer.timing_noted news (resends news before) before after.una ≡ u.sending.timing
noted_is service news before after e m u came a laws =
    ap (timer.timing_noted news (resends news before) before) laws.una ∙ sym (a.sends.timing ∙ came.timing)

-- .. and at the end of the turn
timing_is : {State : Type 0} (service : Machine State) (news : News) (before after : Point) (e m u : Tcb) → Arrived news before e m → IsUsed m u
    → MeetsLaws service news before after → Flushes service news before after u → after.timing ≡ (flushed u).sending.timing
unfolding timing_after sent_at_once
timing_is service news before after e m u came a laws f =
    let noted = noted_is service news before after e m u came a laws in
    let up_to : sent_at_once service before after ≡ max u.sending.sent (min (target u.sending) (send_edge u.sending)) =
    (λ i. max (f.sent i) (min (point.target service after) (min (f.sends.edge i) (f.sends.una i + (f.sends.congestion i).cwnd))))
    ∙ sent_at service after u f.bounds f.fin_last f.used in
    laws.timing
    ∙ (λ i. if nat_lt (f.sent i) (up_to i) then with_sent (f.sent i + 1 - f.sends.una i) (noted i) else noted i)
    ∙ sym (timing_law u f.begun f.bounds f.probes)

-- the interval of the estimate
base_after : {State : Type 0} (service : Machine State) (news : News) (before after : Point)
    → (timing_after service news before after).base ≡ (timer.timing_noted news (resends news before) before after.una).base
unfolding timing_after
base_after service news before after =
    let noted : Timing = timer.timing_noted news (resends news before) before after.una in
    holds_either_way (λ (x : Timing). x.base ≡ noted.base) (nat_lt before.sent (sent_at_once service before after))
    (with_sent (before.sent + 1 - after.una) noted) noted (unit_base _ noted) refl

-- the interval is at least one tick
some_interval : (anew expired : Bool) (base n : ℕ) → 1 ≤ base → 1 ≤ n → 1 ≤ (if anew then base else (if expired then min 64 (2 * n) else n))
some_interval true expired base n least some = least
some_interval false true base n least some = omega (arith, some)
some_interval false false base n least some = some

interval_is_some : (news : News) (before after : Point) → 1 ≤ after.timing.base → 1 ≤ before.interval → 1 ≤ timer.interval_after news before after
unfolding timer.interval_after
interval_is_some news before after least some =
    some_interval (timer.is_set_anew before after) (timer.expires news before) after.timing.base before.interval least some

-- between two turns again
pub between_again : (u : Tcb) → has_begun u.name ≡ true → IsBounded u → ProbesRightly u → FinIsLast u.sending → 1 ≤ (flushed u).sending.interval → IsBetweenTurns (flushed u)
unfolding flushed with_turn_ended with_advertised after_full left.with_timed left.with_fin_out left.with_text_sent left.with_probe
between_again u begun bounds probes last interval = record {
  bounds = bounded_by_flush u bounds;
  reported = reported_by_flush u begun;
  ack_pending = refl;
  retransmission_due = refl;
  probe = refl;
  reset_reply = refl;
  fin_last = last_flushed u bounds last;
  shut = shut_by_flush u begun bounds probes;
  interval = interval;
  runs = runs_flushed u;
}

pub flushed_receives : (p : Point) (u : Tcb) → ReceivesAt p u → ReceivesAt p (flushed u)
unfolding flushed with_turn_ended with_advertised after_full left.with_timed left.with_fin_out left.with_text_sent left.with_probe
flushed_receives p u r = record { cisn = r.cisn; limit = r.limit; read = r.read; long = r.long; unread = r.unread; fin = r.fin; early = r.early }

pub flushed_remote : (u : Tcb) → (flushed u).remote ≡ u.remote
unfolding flushed with_turn_ended with_advertised after_full left.with_timed left.with_fin_out left.with_text_sent left.with_probe
flushed_remote u = refl

turn_leads : {State : Type 0} (service : Machine State) (news : News) (before after : Point) (e m u : Tcb) → has_begun e.name ≡ true → IsBetweenTurns e → StandsAt before e
    → IsUsualNews news e → m ≡ arrived news e → Arrived news before e m → IsUsed m u → IsBounded u → has_begun u.name ≡ true → MeetsLaws service news before after
    → IsUsedAt service after u → IsBetweenTurns (flushed u) × StandsAt after (flushed u) × (leaving u ≡ segments_by_laws service e.local news before after)
    × (full_out u ≡ full_by_laws service e.local news before after)
turn_leads service news before after e m u begun between stands usual news_are came a bounds begun_after laws user =
    let few : before.congestion.lost ≤ before.sent - before.una =
    omega (arith, between.bounds.lost, stands.sent, stands.sends.una, ap (λ (c : Congestion). c.lost) stands.sends.congestion) in
    let f : Flushes service news before after u = flushes service news before after e m u stands few came a bounds begun_after laws user in
    let noted = noted_is service news before after e m u came a laws in
    let base : after.timing.base ≡ u.sending.timing.base =
    ap (λ (x : Timing). x.base) laws.timing ∙ base_after service news before after ∙ ap (λ (x : Timing). x.base) noted in
    let sent : after.sent ≡ (flushed u).sending.sent = sent_is service news before after e m u stands came a laws f in
    let sent_full : after.sent ≡ (after_full u).sending.sent = sent ∙ flushed_sent u in
    let t : Timed service news before after e m u = record {
      begun = begun;
      between = between;
      stands = stands;
      usual = usual;
      news_are = news_are;
      arrived = came;
      used = a;
      laws = laws;
      syn_acked = laws.syn_acked ∙ came.sends.syn_acked;
      una = laws.una ∙ came.sends.una;
      base = base ∙ ap (λ (x : Timing). x.base) a.sends.timing;
      runs = runs_at service after u begun_after bounds f.fin_last f.sends user sent_full;
      still = running_at service before after u bounds f.fin_last f.sends user f.sent sent_full;
    } in
    let timed = timer_at service news before after e m u t in
    let some : 1 ≤ (flushed u).sending.interval =
    omega (arith, interval_is_some news before after (omega (arith, base, bounds.timing.base)) (omega (arith, between.interval, stands.interval)), laws.interval, timed.0) in (
      between_again u begun_after bounds f.probes f.fin_last some,
      record {
        ip = f.ip ∙ ap (λ (r : Addr). r.ip) (sym (flushed_remote u));
        port = f.port ∙ ap (λ (r : Addr). r.port) (sym (flushed_remote u));
        receives = flushed_receives after u f.receives;
        sends = flushed_sends after u f.sends;
        sent = sent;
        fetched_output = laws.same.fetched_output ∙ stands.fetched_output;
        interval = timed.0;
        rest = timed.1;
        timing = timing_is service news before after e m u came a laws f;
        delays = laws.same.delays ∙ stands.delays;
        timestamping = f.timestamping;
      },
      segments_are service news before after e m u f sent_full (a.local ∙ came.local)
          (λ none. asks_is service news before after e m u between stands came a laws f.receives
          (ap (λ (x : Tcb). x.ack_pending) news_are ∙ ack_pending_is news before e begun between stands usual none)),
      full_is service news before after u f ∙ ap (λ l. full_by_laws service l news before after) (a.local ∙ came.local),
    )

pub leads_law : {State : Type 0} (service : Machine State) (news : News) (calls : List Call) (before after : Point) (e : Tcb)
    → has_begun e.name ≡ true → IsBetweenTurns e → StandsAt before e → IsUsualNews news e → MayUse calls (arrived news e)
    → has_begun (before_flush news calls e).name ≡ true → MeetsLaws service news before after → IsUsedAt service after (before_flush news calls e)
    → LeadsTo service news before after e calls
leads_law service news calls before after e begun between stands usual may begun_after laws user =
    let m : Tcb = arrived news e in
    let came : Arrived news before e m = arrives news before e begun between stands usual in
    let a : IsUsed m (used calls m) = used_is calls m may in
    let done = turn_leads service news before after e m (used calls m) begun between stands usual refl came a (bounded_used calls m may came.fin_last came.bounds) begun_after laws user in
    record { between = done.0; stands = done.1; segments = done.2; full = done.3 }
