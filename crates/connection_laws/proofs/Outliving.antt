-- A connection goes on without its TCP, once that is CLOSED.
use Rattle.std.proofs.Common.{◌≡◌, ℕ, zero, suc, ◌≤◌, ◌+◌, ◌-◌, ◌%◌, ◌^◌, ◌*◌, Bool, true, false, not, List, [], ◌∷◌, ◌++◌, length, take, drop, map, min, max, refl, sym, ap, subst, arith, append-nil, ◌∙◌, ◌<◌}
use Rattle.std.specs.Prelude.{◌==◌, ◌&&◌, ◌||◌, nat_abs, nat_lt, if◌then◌else◌}
use Rattle.std.proofs.lemmas.Bool.{false≢true, and_parts}
use Rattle.ft_io.specs.declared.Addr.{Addr}
use Rattle.ft_io.proofs.Numbers.{plus_none}
use Rattle.tcp_rules.specs.Arrival.{una_after}
use Rattle.tcp_rules.specs.Coming.{nothing_came, comes, early_from, StandsBehind}
use Rattle.tcp_rules.specs.Congestion.{Congestion}
use Rattle.tcp_rules.specs.Timing.{Timing}
use Rattle.tcp_rules.proofs.Coming.{comes_ended}
use Rattle.seq_arith.specs.Packet.{Segment, has_rst, has_ack}
use Rattle.server_trait.specs.Service.{Machine, reference}
use Rattle.ft_model.specs.Growth.{IsPrefix}
use Rattle.ft_model.specs.Offset.{one_if, first_of, ack_of, text_of, fin_of}
use Rattle.ft_model.specs.Point.{Point, answered_run, released, target, receive_edge, HoldsBehind}
use Rattle.ft_model.specs.Network.{Packet}
use Rattle.ft_model.specs.News.{News}
use Rattle.ft_model.specs.News.News.{Comes, Logged, Ticks, Begins}
use Rattle.ft_model.specs.Answered.{reads_answered_after}
use Rattle.ft_model.specs.Taken.{counts, came, taken_after, early_after, fin_after}
use Rattle.ft_model.specs.Sending.{syn_acked_after, acknowledges, acknowledged_after, resends, send_edge, sent_at_once, sent_after}
use Rattle.ft_model.specs.Timer.{is_tick, must_run, expires, rest_after, interval_after, is_set_anew}
use Rattle.ft_model.specs.Segments.{opens_with}
use Rattle.ft_model.specs.Opening.{is_syn}
use Rattle.ft_model.specs.Connection.{LiveTurn}
use Rattle.ft_model.proofs.Services.{RunExtends, reads_proceed}
use Rattle.tcp_endpoint.specs.declared.states.StateName.TheVariants.{Closed}
use Rattle.tcp_endpoint.specs.Arrival.{received, received_in, in_closed, with_reset_reply, with_reset_reply_without_ack}
use Rattle.tcp_endpoint.specs.ReceiveHalf.{Receiving}
use Rattle.tcp_endpoint.specs.ReceiveHalf as receiver
use Rattle.tcp_endpoint.specs.SendHalf.{Sending}
use Rattle.tcp_endpoint.specs.SendHalf as sending
use Rattle.tcp_endpoint.specs.Tcb.{Tcb}
use Rattle.tcp_endpoint.specs.UserCalls.{after_tick, timer_ticked, waited}
use Rattle.endpoint_laws.specs.Laws.{IsBounded, Bounds}
use Rattle.endpoint_laws.specs.Turn.{Call, arrived, used}
use Rattle.endpoint_laws.specs.Unconnected.{sent_in_closed}
use Rattle.tcp_endpoint.specs.States.{has_begun}
use Rattle.tcp_endpoint.specs.Output.{flushed, with_turn_ended, with_advertised, after_full, with_fin_out, with_text_sent, with_probe, probes, with_timed}
use Rattle.endpoint_laws.proofs.TurnLaw.{after_steps, timed_sent}
use Rattle.endpoint_laws.proofs.EndingLaw.{flushed_name}
use Rattle.endpoint_laws.proofs.NoConnection.{closed_stays_law, closed_answers_law, same_closed}
use Rattle.endpoint_laws.proofs.Bounding.{bounded_by_flush, bounded_by_tick}
use Rattle.endpoint_laws.proofs.TurnEnd.{flush_keeps, last_flushed}
use Rattle.endpoint_laws.proofs.Turns.{flushed_receives}
use Rattle.ft_model.specs.Refusal.{rst_at_ack, rst_behind}
use Rattle.south_wrap.specs.Translation.{outward}
use Rattle.south_wrap.specs.SouthPoint.{south_at}
use Rattle.connection_laws.specs.Traffic.{news_inside, passed}
use Rattle.endpoint_laws.specs.Refinement.{ReceivesAt}
use Rattle.endpoint_laws.proofs.Calls.{FinIsLast, IsUsed, used_is, bounded_used, last_used}
use Rattle.connection_laws.specs.ClosedTcp.{StandsClosed, ReadsOn, ProceedsClosed}
use Rattle.connection_laws.proofs.SendBuffer.{KeepsOutput, kept_same, kept_ticked}
use Rattle.connection_laws.proofs.Quiet.{resends_still, quiet_sends}
use Rattle.connection_laws.proofs.Forged.{either}
use Rattle.connection_laws.proofs.Reassembly.{behind_at}

-- a front goes on where the list does
pub front_proceeds : (a b : ℕ) (xs ys : List ℕ) → a ≤ b → IsPrefix (take a xs) (take b (xs ++ ys))
front_proceeds zero b xs ys h = (take b (xs ++ ys), refl)
front_proceeds (suc a) zero xs ys h = absurd (omega (arith, h))
front_proceeds (suc a) (suc b) [] ys h = (take (suc b) ys, refl)
front_proceeds (suc a) (suc b) (x ∷ xs) ys h = let rest = front_proceeds a b xs ys (omega (arith, h)) in (rest.0, ap (λ l. x ∷ l) rest.1)

pub reads_rise : (news : News) (p : Point) → p.reads_answered ≤ reads_answered_after news p
unfolding reads_answered_after
reads_rise (Comes segment) p = omega arith
reads_rise (Logged kept) p = omega arith
reads_rise Ticks p = omega arith
reads_rise Begins p = omega arith

-- where a FIN is taken nothing more is, and what is held stays
came_stays : (p : Point) (segment : Segment) → HoldsBehind p → p.fin ≡ true → came p segment ≡ nothing_came p.early true
unfolding came
came_stays p segment b h =
    (λ j. if counts p segment then comes (length p.taken) (receive_edge p) (h j) p.early (first_of p.cisn segment) (text_of segment) (fin_of segment) else nothing_came p.early (h j))
    ∙ either (counts p segment) (comes (length p.taken) (receive_edge p) true p.early (first_of p.cisn segment) (text_of segment) (fin_of segment)) (nothing_came p.early true)
    (comes_ended (length p.taken) (receive_edge p) p.early (first_of p.cisn segment) (text_of segment) (fin_of segment)
    (subst (λ (f : Bool). StandsBehind (length p.taken) (receive_edge p) f p.early) h b))

pub taken_stays : (news : News) (p : Point) → HoldsBehind p → p.fin ≡ true → taken_after news p ≡ p.taken
unfolding taken_after
taken_stays (Comes segment) p b h = ap (λ c. p.taken ++ c.added) (came_stays p segment b h) ∙ append-nil p.taken
taken_stays (Logged kept) p b h = refl
taken_stays Ticks p b h = refl
taken_stays Begins p b h = refl

early_stays : (news : News) (p : Point) → HoldsBehind p → p.fin ≡ true → early_after news p ≡ p.early
unfolding early_after
early_stays (Comes segment) p b h = ap (λ c. c.early) (came_stays p segment b h)
early_stays (Logged kept) p b h = refl
early_stays Ticks p b h = refl
early_stays Begins p b h = refl

pub fin_stays : (news : News) (p : Point) → HoldsBehind p → p.fin ≡ true → fin_after news p ≡ true
unfolding fin_after
fin_stays (Comes segment) p b h = ap (λ c. c.fin) (came_stays p segment b h)
fin_stays (Logged kept) p b h = h
fin_stays Ticks p b h = h
fin_stays Begins p b h = h

pub syn_acked_stays : (news : News) (p : Point) → p.syn_acked ≡ true → syn_acked_after news p ≡ true
unfolding syn_acked_after
syn_acked_stays (Comes segment) p h = ap (λ b. b || counts p segment) h
syn_acked_stays (Logged kept) p h = h
syn_acked_stays Ticks p h = h
syn_acked_stays Begins p h = h

una_same : (b : Bool) (una ack sent : ℕ) → una ≡ sent → (if b then una_after una (min ack sent) else una) ≡ una
una_same true una ack sent h = grind (arith, h)
una_same false una ack sent h = refl

pub una_stays : (news : News) (p : Point) → p.una ≡ p.sent → acknowledged_after news p ≡ p.una
unfolding acknowledged_after
una_stays (Comes segment) p h = una_same (acknowledges p segment) p.una (nat_abs (ack_of p.sisn segment)) p.sent h
una_stays (Logged kept) p h = refl
una_stays Ticks p h = refl
una_stays Begins p h = refl

-- no SYN is repeated, and the timer stands still
some_unit : (n : ℕ) → (n + 1 == 0) ≡ false
some_unit n = grind arith

off_third : (a b : Bool) (n m : ℕ) (fin : Bool) → fin ≡ true → (a && b && (n + (if fin then 1 else 0) == 0) && m == 0) ≡ false
off_third true true n m true h = ap (λ z. z && m == 0) (some_unit n)
off_third true false n m true h = refl
off_third false b n m true h = refl
off_third a b n m false h = absurd (false≢true h)

pub opens_not : (news : News) (p : Point) → p.fin ≡ true → p.syn_acked ≡ true → opens_with news p ≡ false
opens_not (Comes segment) p fin syn_acked = off_third (is_syn segment) (segment.head.seq == p.cisn) (length p.taken) p.una p.fin fin
opens_not (Logged kept) p fin syn_acked = refl
opens_not Ticks p fin syn_acked = refl
opens_not Begins p fin syn_acked = ap not syn_acked

never_one : (b : Bool) (rest : ℕ) → rest ≡ 0 → (b && rest == 1) ≡ false
never_one true rest h = grind (arith, h)
never_one false rest h = refl

stands_still : (news : News) (p : Point) → p.rest ≡ 0 → expires news p ≡ false
stands_still news p h = never_one (is_tick news) p.rest h

-- all that may leave was sent
sent_same : (s t e : ℕ) → s ≡ t → max s (min t e) + 0 ≡ s
sent_same s t e h = omega (arith, h)

closed_of : (c : Bool) (r u s : ℕ) → nat_lt r u ≡ true → u ≡ s → s ≡ r + (if c then 1 else 0) → c ≡ true
closed_of true r u s a b h = refl
closed_of false r u s a b h = absurd (grind (arith, a, b, h))

-- it needn't run
no_need : (una sent t : ℕ) → una ≡ sent → sent ≡ t → nat_lt una (max sent t) ≡ false
no_need una sent t a b = grind (arith, a, b)

pub rest_stops : {State : Type 0} (service : Machine State) (news : News) (p q : Point) → q.syn_acked ≡ true → q.una ≡ q.sent → q.sent ≡ target service q → rest_after service news p q ≡ 0
unfolding rest_after must_run
rest_stops service news p q syn_acked una sent =
    λ j. if not (syn_acked j) || no_need q.una q.sent (target service q) una sent j
    then (if is_set_anew p q || expires news p then interval_after news p q else (if is_tick news then p.rest - 1 else p.rest))
    else 0

-- what news make of a CLOSED TCP
pub record IsStill (e m : Tcb) : Type 0 where
  pub receiving : m.receiving ≡ e.receiving
  pub iss : m.sending.iss ≡ e.sending.iss
  pub syn_acked : m.sending.syn_acked ≡ e.sending.syn_acked
  pub una : m.sending.una ≡ e.sending.una
  pub keeps : KeepsOutput e.sending m.sending
  pub kept : m.reset ≡ e.reset
  pub bounds : IsBounded e → IsBounded m
  pub last : FinIsLast e.sending → FinIsLast m.sending

in_closed_keeps : {X : Type 0} (f : Tcb → X) (e : Tcb) (p : Segment) → e.name ≡ Closed → f (with_reset_reply e p) ≡ f e → f (with_reset_reply_without_ack e p) ≡ f e → f (received e p) ≡ f e
unfolding received in_closed
in_closed_keeps f e p closed h k = ap (λ n. f (received_in n e p)) closed ∙ same_closed f (has_rst p) (has_ack p) e (with_reset_reply e p) (with_reset_reply_without_ack e p) h k

still_halves : (e m : Tcb) → m.receiving ≡ e.receiving → m.sending ≡ e.sending → m.reset ≡ e.reset → IsStill e m
still_halves e m r s k = record {
  receiving = r;
  iss = ap (λ (x : Sending). x.iss) s;
  syn_acked = ap (λ (x : Sending). x.syn_acked) s;
  una = ap (λ (x : Sending). x.una) s;
  keeps = subst (λ (x : Sending). KeepsOutput e.sending x) (sym s) (kept_same e.sending);
  kept = k;
  bounds = λ b. subst (λ (x : Receiving). Bounds x m.sending) (sym r) (subst (λ (x : Sending). Bounds e.receiving x) (sym s) b);
  last = λ l. subst FinIsLast (sym s) l;
}

last_ticked : (s : Sending) (b : Bool) (c : Congestion) (t w : Timing) → FinIsLast s
    → FinIsLast (if b then record s { congestion = c; timing = t; interval = min 64 (2 * s.interval); rest = min 64 (2 * s.interval) }
    else record s { timing = w; rest = s.rest - 1 })
last_ticked s true c t w l = l
last_ticked s false c t w l = l

part_ticked : {X : Type 0} (f : Sending → X) (s : Sending) (b : Bool) (c : Congestion) (t w : Timing)
    → ((c : Congestion) (t : Timing) (interval rest : ℕ) → f (record s { congestion = c; timing = t; interval = interval; rest = rest }) ≡ f s)
    → f (if b then record s { congestion = c; timing = t; interval = min 64 (2 * s.interval); rest = min 64 (2 * s.interval) }
    else record s { timing = w; rest = s.rest - 1 }) ≡ f s
part_ticked f s true c t w h = h c t (min 64 (2 * s.interval)) (min 64 (2 * s.interval))
part_ticked f s false c t w h = h s.congestion w s.interval (s.rest - 1)

pub still : (news : News) (e : Tcb) → e.name ≡ Closed → IsStill e (arrived news e)
unfolding after_tick timer_ticked waited with_reset_reply with_reset_reply_without_ack
still (Comes p) e closed =
    still_halves e (received e p) (in_closed_keeps (λ (t : Tcb). t.receiving) e p closed refl refl) (in_closed_keeps (λ (t : Tcb). t.sending) e p closed refl refl)
    (in_closed_keeps (λ (t : Tcb). t.reset) e p closed refl refl)
still (Logged kept) e closed = still_halves e e refl refl refl
still Ticks e closed = record {
  receiving = refl;
  iss = part_ticked (λ x. x.iss) e.sending (sending.expires e.sending) (sending.congestion_expired e.sending) _ _ (λ c t a b. refl);
  syn_acked = part_ticked (λ x. x.syn_acked) e.sending (sending.expires e.sending) (sending.congestion_expired e.sending) _ _ (λ c t a b. refl);
  una = part_ticked (λ x. x.una) e.sending (sending.expires e.sending) (sending.congestion_expired e.sending) _ _ (λ c t a b. refl);
  keeps = kept_ticked e.sending;
  kept = refl;
  bounds = λ b. bounded_by_tick e b;
  last = λ l. last_ticked e.sending (sending.expires e.sending) (sending.congestion_expired e.sending) _ _ l;
}
still Begins e closed = still_halves e e refl refl refl

-- its flush sends nothing
off_second_of : (p b o f : Bool) → b ≡ false → (p && b && o && f) ≡ false
off_second_of true b o f h = ap (λ x. x && o && f) h
off_second_of false b o f h = refl

pub closed_sent : (w : Tcb) → has_begun w.name ≡ false → (flushed w).sending.sent ≡ w.sending.sent
unfolding flushed with_turn_ended with_advertised after_full with_timed with_fin_out with_text_sent with_probe
closed_sent w off =
    let s : Sending = w.sending in
    let none : probes w ≡ false = off_second_of w.probe (has_begun w.name) s.syn_acked (not s.fin_sent) off in
    timed_sent _ (after_full w).sending
    ∙ (λ j. (after_steps (off j) (none j && nat_lt (s.sent - s.una) (length s.held)) (none j && not (nat_lt (s.sent - s.una) (length s.held)) && s.closed) s).sent)
    ∙ plus_none s.sent

-- its RST stays inside
one_stays : (delta : ℕ) (q : Point) (r a : Bool) (x y : Segment) → has_rst x ≡ true → has_rst y ≡ true → passed delta q (if r then [] else (if a then x ∷ [] else y ∷ [])) ≡ []
one_stays delta q true a x y h k = refl
one_stays delta q false true x y h k = ap (λ b. if b || false then [] else map (outward (south_at delta q)) (x ∷ [])) h
one_stays delta q false false x y h k = ap (λ b. if b || false then [] else map (outward (south_at delta q)) (y ∷ [])) k

refusals_stay : (delta : ℕ) (q : Point) (local : Addr) (news : News) → passed delta q (sent_in_closed local news) ≡ []
refusals_stay delta q local (Comes segment) = one_stays delta q (has_rst segment) (has_ack segment) (rst_at_ack local segment) (rst_behind local segment) refl refl
refusals_stay delta q local (Logged kept) = refl
refusals_stay delta q local Ticks = refl
refusals_stay delta q local Begins = refl

pub outlives : {State : Type 0} (service : Machine State) (server : Addr) (boot u i delta : ℕ) (news : News) (p q : Point) (calls : List Call) (e : Tcb) (sent : List Packet)
    → StandsClosed service u i delta p e → LiveTurn service server boot news p q sent → ReadsOn delta news p q calls e → ProceedsClosed service server u i delta news p q calls e
unfolding sent_after sent_at_once
outlives service server boot u i delta news p q calls e sent st l reads =
    let over = and_parts p.fin (nat_lt (released service p) p.una) st.over in
    let behind : HoldsBehind p = behind_at p e st.receives st.bounds in
    let closed : (answered_run service p).closed ≡ true = closed_of (answered_run service p).closed (released service p) p.una p.sent over.1 st.acknowledged st.all_sent in
    let taken : q.taken ≡ p.taken = l.taken ∙ taken_stays news p behind over.0 in
    let fin : q.fin ≡ true = l.fin ∙ fin_stays news p behind over.0 in
    let syn_acked : q.syn_acked ≡ true = l.syn_acked ∙ syn_acked_stays news p st.syn_acked in
    let una : q.una ≡ p.una = l.una ∙ una_stays news p st.acknowledged in
    let run_is : answered_run service q ≡ reference service p.taken (take q.reads_answered (p.lengths ++ l.reads.news)) =
    λ j. reference service (taken j) (take q.reads_answered (l.reads.lengths j)) in
    let more : p.reads_answered ≤ q.reads_answered = omega (arith, reads_rise news p, l.reads_answered) in
    let goes : RunExtends (answered_run service p) (reference service p.taken (take q.reads_answered (p.lengths ++ l.reads.news))) =
    reads_proceed service p.taken (take p.reads_answered p.lengths) (take q.reads_answered (p.lengths ++ l.reads.news)) (front_proceeds p.reads_answered q.reads_answered p.lengths l.reads.news more) in
    let out : released service q ≡ released service p = ap (λ r. length r.output) run_is ∙ ap length (goes.closed closed).0 in
    let closed_then : (answered_run service q).closed ≡ true = ap (λ r. r.closed) run_is ∙ (goes.closed closed).1 in
    let all : target service q ≡ target service p = λ j. out j + one_if ((closed_then ∙ sym closed) j) in
    let still_p : expires news p ≡ false = stands_still news p st.still in
    let sent_is : q.sent ≡ p.sent =
    l.sent_units ∙ (λ j. max p.sent (min (all j) (send_edge q)) + one_if (still_p j && p.syn_acked && not (nat_lt p.una p.sent)))
    ∙ sent_same p.sent (target service p) (send_edge q) st.all_sent in
    let una_sent : q.una ≡ q.sent = una ∙ st.acknowledged ∙ sym sent_is in
    let sent_all : q.sent ≡ target service q = sent_is ∙ st.all_sent ∙ sym all in
    let past : released service q + 1 ≤ p.sent = grind (arith, out, over.1, st.acknowledged) in
    let again : resends news p ≡ false = resends_still news p (una_stays news p st.acknowledged ∙ st.acknowledged) st.acknowledged in
    let inner : News = news_inside delta p news in
    let m : Tcb = arrived inner e in
    let w : Tcb = used calls m in
    let s : IsStill e m = still inner e st.name in
    let a : IsUsed m w = used_is calls m reads.may in
    let r : ReceivesAt p e = st.receives in
    let last : FinIsLast w.sending = last_used m.sending w.sending a.sends (s.last st.fin_last) in
    let bounds : IsBounded w = bounded_used calls m reads.may (s.last st.fin_last) (s.bounds st.bounds) in
    let stays = closed_stays_law inner calls e st.name st.reset_reply in
    let at : ReceivesAt q w = record {
      cisn = a.irs ∙ ap (λ (x : Receiving). x.irs) s.receiving ∙ r.cisn ∙ (λ j. (sym l.same.cisn j + sym l.same.fetched j) % 2 ^ 32);
      limit = (λ j. (a.limit ∙ ap (λ (x : Receiving). x.limit) s.receiving) j + l.same.fetched j) ∙ r.limit;
      read = reads.read;
      long = ap length taken ∙ r.long ∙ (λ j. sym (a.taken ∙ ap receiver.taken s.receiving) j + sym l.same.fetched j);
      unread = a.unread q.taken q.fetched ((λ j. drop ((s.receiving j).read + l.same.fetched j) (taken j)) ∙ r.unread ∙ ap (λ (x : Receiving). x.unread) (sym s.receiving));
      fin = fin ∙ sym over.0 ∙ r.fin ∙ sym (a.fin ∙ ap (λ (x : Receiving). x.fin) s.receiving);
      early = l.early ∙ early_stays news p behind over.0 ∙ r.early
          ∙ (λ j. early_from (sym l.same.fetched j) (sym (a.early ∙ ap (λ (x : Receiving). x.early) s.receiving) j));
    } in
    record {
      stands = record {
        name = stays.0;
        kept = stays.3 ∙ st.kept;
        reset_reply = stays.1;
        ended = flush_keeps (λ (x : Sending). x.closed) w (record { sends = λ x n. refl; ends = λ x. refl; times = λ x t y z. refl }) ∙ a.sends.closed (s.keeps.closed ∙ st.ended);
        bounds = bounded_by_flush w bounds;
        fin_last = last_flushed w bounds last;
        receives = flushed_receives q w at;
        counts = record {
          iss = flush_keeps (λ (x : Sending). x.iss) w (record { sends = λ x n. refl; ends = λ x. refl; times = λ x t y z. refl }) ∙ a.sends.iss ∙ s.iss ∙ st.counts.iss;
          syn_acked = flush_keeps (λ (x : Sending). x.syn_acked) w (record { sends = λ x n. refl; ends = λ x. refl; times = λ x t y z. refl }) ∙ a.sends.syn_acked ∙ s.syn_acked ∙ st.counts.syn_acked;
          una = ap (λ k. k - u) una ∙ st.counts.una
              ∙ sym (flush_keeps (λ (x : Sending). x.una) w (record { sends = λ x n. refl; ends = λ x. refl; times = λ x t y z. refl }) ∙ a.sends.una ∙ s.una);
          sent = ap (λ k. k - u) sent_is ∙ st.counts.sent ∙ sym (closed_sent w (ap has_begun (sym (flushed_name w) ∙ stays.0)) ∙ a.sends.sent ∙ s.keeps.sent);
          above = subst (λ k. u ≤ k) (sym una) st.counts.above;
          small = st.counts.small;
          sisn = subst (λ k. k < 2 ^ 32) (sym l.same.sisn) st.counts.sisn;
          shift = st.counts.shift ∙ ap (λ k. (k + u) % 2 ^ 32) (sym l.same.sisn);
          delta_fits = st.counts.delta_fits;
        };
        over = λ j. fin j && (ap (λ n. nat_lt n q.una) out ∙ ap (λ n. nat_lt (released service p) n) una ∙ over.1) j;
        syn_acked = syn_acked;
        acknowledged = una_sent;
        all_sent = sent_all;
        still = l.rest ∙ rest_stops service news p q syn_acked una_sent sent_all;
      };
      silent = ap (passed delta q) (closed_answers_law inner calls e st.name st.reset_reply) ∙ refusals_stay delta q e.local inner;
      syn_acked = st.syn_acked;
      taken = λ j. length (taken j) + one_if ((fin ∙ sym over.0) j);
      segments = quiet_sends service server news p q (record { opens = opens_not news p over.0 st.syn_acked; expires = still_p; again = again; past = past });
    }
