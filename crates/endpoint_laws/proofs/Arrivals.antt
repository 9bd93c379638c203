-- What a turn's news make of an endpoint that stands at a point: they lead it to where the laws lead the point, and say what is due.
use Rattle.ft_model.specs.Timestamps.{timestamping_after}
use Rattle.std.proofs.Common.{◌≡◌, ℕ, ◌≤◌, ◌+◌, ◌-◌, Bool, true, false, not, Option, Some, None, List, [], ◌∷◌, length, max, min, ◌*◌, refl, sym, ap, subst, arith, ◌∙◌}
use Rattle.std.specs.Prelude.{pos, ◌+ℤ◌, ◌==◌, ◌&&◌, ◌||◌, nat_abs, nat_lt, int_lt, if◌then◌else◌}
use Rattle.std.proofs.lemmas.Bool.{false≢true, or_left}
use Rattle.seq_arith.specs.Number.{offset_of}
use Rattle.tcp_rules.specs.Arrival.{int_eq, una_after}
use Rattle.tcp_rules.specs.Congestion.{Congestion, with_expiry}
use Rattle.tcp_rules.specs.Timing.{Timing, with_acknowledged, with_tick, without_trip, with_backoff}
use Rattle.seq_arith.specs.Packet.{Segment, has_syn, has_rst, has_ack}
use Rattle.segment_codec.specs.declared.Head.{Head}
use Rattle.seq_arith.specs.Offset.{one_if, first_of, length_of}
use Rattle.ft_model.specs.Point.{Point, taken_units}
use Rattle.ft_model.specs.News.{News}
use Rattle.ft_model.specs.News.News.{Comes, Logged, Ticks, Begins}
use Rattle.ft_model.specs.Taken.{taken_after, early_after, fin_after}
use Rattle.ft_model.specs.Sending.{syn_acked_after, acknowledged_after, edge_after, wl1_after, wl2_after, is_third_duplicate, is_partial_ack, resends, congestion_after, is_first_expiry}
use Rattle.ft_model.specs.Timer as timer
use Rattle.ft_model.specs.PendingAck as rule
use Rattle.tcp_endpoint.specs.States.{has_begun}
use Rattle.tcp_endpoint.specs.ReceiveHalf.{next}
use Rattle.tcp_endpoint.specs.SendHalf.{Sending, with_syn_acked, acknowledged, congestion_expired, target, is_unacknowledged, expires, ticked}
use Rattle.tcp_endpoint.specs.Tcb.{Tcb}
use Rattle.tcp_endpoint.specs.Arrival.{first, ack_at, rst, received, with_reset_reply}
use Rattle.tcp_endpoint.specs.Output.{reset_reply_segments, reset_reply_out}
use Rattle.tcp_endpoint.specs.UserCalls.{after_tick, timer_ticked, waited}
use Rattle.endpoint_laws.specs.Laws.{accepts, counts, acknowledges, congestion_ticked, misses_syn, is_refused, is_unsent_ack, needs_ack, IsSentBy, IsBounded, IsUsual, ProbesRightly, last_advertised, timing_by}
use Rattle.endpoint_laws.specs.Laws as law
use Rattle.endpoint_laws.specs.Turn.{IsUsualNews, IsBetweenTurns, arrived}
use Rattle.endpoint_laws.specs.Refinement.{ReceivesAt, SendsAt, StandsAt, news_needs_ack, refuses, refusals}
use Rattle.endpoint_laws.proofs.TakenLaw.{same_if, if_when}
use Rattle.endpoint_laws.proofs.SendingLaw.{later_by, used_by, sending_is, sending_law, retransmission_law}
use Rattle.endpoint_laws.proofs.SendingLaw as sending
use Rattle.endpoint_laws.proofs.Bounding.{bounded_by_segment, bounded_by_tick}
use Rattle.endpoint_laws.proofs.OwedLaw.{ack_pending_law}
use Rattle.endpoint_laws.proofs.ReportedLaw.{reported_by_segment, probed_by_tick}
use Rattle.endpoint_laws.proofs.ResetReply.{Beside, IsApart, apart_beside, beside_is, reset_reply_is}
use Rattle.endpoint_laws.proofs.Calls.{FinIsLast}
use Rattle.endpoint_laws.proofs.StandingLaw.{Meets, next_is, accepts_is, first_is, ack_is, unsent_is, una_is, loss_is, received_receives, received_sends}
use Rattle.ft_io.proofs.Booleans.{false_or, or_false}
use Rattle.ft_io.proofs.Choices.{of_if}
use Rattle.tcp_rules.proofs.Shifts.{point_shift}

-- where the laws lead a point, but for the reads, what is sent, and the timer
abbrev pub moved : News → Point → Point
moved news p = record p {
  taken = taken_after news p;
  fin = fin_after news p;
  early = early_after news p;
  syn_acked = syn_acked_after news p;
  una = acknowledged_after news p;
  edge = edge_after news p;
  wl1 = wl1_after news p;
  wl2 = wl2_after news p;
  congestion = congestion_after news p;
  timestamping = timestamping_after news p;
}

-- an endpoint after a turn's news
pub record Arrived (news : News) (before : Point) (e m : Tcb) : Type 0 where
  pub local : m.local ≡ e.local
  pub remote : m.remote ≡ e.remote
  pub receives : ReceivesAt (moved news before) m
  pub sends : SendsAt (moved news before) m
  pub sent : m.sending.sent ≡ e.sending.sent
  pub bounds : IsBounded m
  pub fin_last : FinIsLast m.sending
  pub reported : last_advertised m ≡ last_advertised e
  pub timing : m.sending.timing ≡ timer.timing_noted news (resends news before) before (acknowledged_after news before)
  pub retransmission_due : m.retransmission_due ≡ ((timer.expires news before && is_unacknowledged e.sending) || resends news before)
  pub probe : m.probe ≡ (timer.expires news before && not (is_unacknowledged e.sending))
  pub probes : ProbesRightly m
  pub reset_reply : reset_reply_out m ≡ refusals e.local news before
  pub target : m.sending.una ≡ e.sending.una → target e.sending ≤ target m.sending
  pub una : e.sending.una ≤ m.sending.una

-- a segment: the parts that nothing of the checks has a part in
kept_is : {X : Type 0} (f : Tcb → X) (e : Tcb) (p : Segment) → IsApart f → ((r : Tcb) → f (with_reset_reply r p) ≡ f r) → has_begun e.name ≡ true → IsBounded e
    → f (received e p) ≡ f e
kept_is f e p apart refuses begun b =
    let beside : Beside f = apart_beside f apart in
    beside_is f e p beside begun b
    ∙ ap (λ x. if is_refused e p then x else f e) (refuses _ ∙ beside.aside.pending _ _ ∙ beside.aside.waiting e p)
    ∙ same_if (is_refused e p) (f e)

local_is : (e : Tcb) (p : Segment) → has_begun e.name ≡ true → IsBounded e → (received e p).local ≡ e.local
unfolding with_reset_reply
local_is e p begun b =
    kept_is (λ t. t.local) e p
    (record { waits = λ e n. refl; enters = λ e m n. refl; dies = λ e. refl; needs_ack = λ e o. refl; takes = λ e r. refl; uses = λ e s b. refl; opens = λ e m s. refl })
    (λ r. refl) begun b

remote_is : (e : Tcb) (p : Segment) → has_begun e.name ≡ true → IsBounded e → (received e p).remote ≡ e.remote
unfolding with_reset_reply
remote_is e p begun b =
    kept_is (λ t. t.remote) e p
    (record { waits = λ e n. refl; enters = λ e m n. refl; dies = λ e. refl; needs_ack = λ e o. refl; takes = λ e r. refl; uses = λ e s b. refl; opens = λ e m s. refl })
    (λ r. refl) begun b

probe_is : (e : Tcb) (p : Segment) → has_begun e.name ≡ true → IsBounded e → (received e p).probe ≡ e.probe
unfolding with_reset_reply
probe_is e p begun b =
    kept_is (λ t. t.probe) e p
    (record { waits = λ e n. refl; enters = λ e m n. refl; dies = λ e. refl; needs_ack = λ e o. refl; takes = λ e r. refl; uses = λ e s b. refl; opens = λ e m s. refl })
    (λ r. refl) begun b

-- the parts of the sending half that an acknowledgement leaves
sending_keeps : {X : Type 0} (g : Sending → X) (e : Tcb) (p : Segment) → (g (later_by e p) ≡ g e.sending)
    → (g (with_syn_acked e.sending p.head.seq p.head.window) ≡ g e.sending) → has_begun e.name ≡ true → IsBounded e → IsUsual e p
    → g (received e p).sending ≡ g e.sending
sending_keeps g e p later first_one begun b usual =
    ap g (sending_is e p begun b usual)
    ∙ of_if g (counts e p) (used_by e p) e.sending
    ∙ ap (λ x. if counts e p then x else g e.sending)
    (of_if g e.sending.syn_acked (later_by e p) (with_syn_acked e.sending p.head.seq p.head.window)
    ∙ (λ i. if e.sending.syn_acked then later i else first_one i) ∙ same_if e.sending.syn_acked (g e.sending))
    ∙ same_if (counts e p) (g e.sending)

mss_is : (e : Tcb) (p : Segment) → has_begun e.name ≡ true → IsBounded e → IsUsual e p → (received e p).sending.mss ≡ e.sending.mss
unfolding acknowledged
mss_is e p begun b usual = sending_keeps (λ (s : Sending). s.mss) e p refl refl begun b usual

fin_sent_is : (e : Tcb) (p : Segment) → has_begun e.name ≡ true → IsBounded e → IsUsual e p → (received e p).sending.fin_sent ≡ e.sending.fin_sent
unfolding acknowledged
fin_sent_is e p begun b usual = sending_keeps (λ (s : Sending). s.fin_sent) e p refl refl begun b usual

-- the target stays where nothing new is acknowledged
target_stays : (f c : Bool) (una len sent una' len' sent' : ℕ) → una' + len' ≡ max una' (una + len) → sent' ≡ sent → una' ≡ una
    → (if f then sent else una + len + one_if c) ≤ (if f then sent' else una' + len' + one_if c)
target_stays true c una len sent una' len' sent' held same is = omega (arith, same)
target_stays false c una len sent una' len' sent' held same is = omega (arith, held, is)

target_is : (e : Tcb) (p : Segment) → has_begun e.name ≡ true → IsBounded e → IsUsual e p → (received e p).sending.una ≡ e.sending.una
    → target e.sending ≤ target (received e p).sending
target_is e p begun b usual same =
    let s : Sending = e.sending in
    let m : Sending = (received e p).sending in
    let by : IsSentBy e p m = sending_law e p begun b usual in
    let P : Bool → Bool → Type 0 = λ f c. target s ≤ (if f then m.sent else m.una + length m.held + one_if c) in
    let Q : Bool → Type 0 = λ c. P m.fin_sent c in
    let R : Bool → Type 0 = λ f. P f s.closed in
    subst Q (sym by.closed) (subst R (sym (fin_sent_is e p begun b usual))
    (target_stays s.fin_sent s.closed s.una (length s.held) s.sent m.una (length m.held) m.sent by.held by.sent same))

pub rises : (b : Bool) (una ack : ℕ) → una ≤ (if b then una_after una ack else una)
rises true una ack = grind arith
rises false una ack = omega arith

-- no segment asks for a probe
pub no_probe : (m : Tcb) → m.probe ≡ false → ProbesRightly m
no_probe m none = record {
  all_acked = λ h. absurd (false≢true (sym none ∙ h));
  shut = λ h. absurd (false≢true (sym none ∙ h));
  waits = λ h. absurd (false≢true (sym none ∙ h));
  syn_acked = λ h. absurd (false≢true (sym none ∙ h));
}

-- what is acknowledged anew is let go, and a FIN stays after the rest
held_kept : (una len sent una' len' sent' : ℕ) → una ≤ sent → una ≤ una' → una' + len' ≡ max una' (una + len) → sent' ≡ sent → 1 ≤ sent
    → len ≡ sent - 1 - una → len' ≡ sent' - 1 - una'
held_kept una len sent una' len' sent' order rises held same some last = omega (arith, order, rises, held, same, some, last)

fin_last_kept : (s m : Sending) → m.fin_sent ≡ s.fin_sent → m.closed ≡ s.closed → m.sent ≡ s.sent → s.una ≤ s.sent → s.una ≤ m.una
    → m.una + length m.held ≡ max m.una (s.una + length s.held) → FinIsLast s → FinIsLast m
fin_last_kept s m fin closed sent order una held last = λ h.
    let k = last (sym fin ∙ h) in (
      closed ∙ k.0,
      omega (arith, k.1, sent),
      held_kept s.una (length s.held) s.sent m.una (length m.held) m.sent order una held sent k.1 k.2,
    )

-- the model's words for what is refused and pending
misses_is : (p : Point) (e : Tcb) (segment : Segment) → Meets p e segment → rule.is_refused p segment ≡ misses_syn e segment
misses_is p e segment m = λ i. not (m.sends.syn_acked i) && has_ack segment && (int_lt (ack_is p e segment m i) (pos 0) || unsent_is p e segment m i)

pub refuses_is : (p : Point) (e : Tcb) (segment : Segment) → Meets p e segment → refuses p segment ≡ is_refused e segment
refuses_is p e segment m = λ i. accepts_is p e segment m i && not (has_rst segment) && not (has_syn segment) && misses_is p e segment m i

-- an acceptable segment that isn't refused acknowledges nothing but the SYN, while that is unacknowledged, unless it has SYN or RST
unrefused_by : (rst syn misses owed owed' place place' : Bool) → (true && not rst && not syn && misses) ≡ false → place ≡ place' → owed ≡ owed'
    → (if rst then not place else (if syn then true else (if misses then false else owed))) ≡ (if rst then not place' else (if syn then true else owed'))
unrefused_by true syn misses owed owed' place place' none p o = ap not p
unrefused_by false true misses owed owed' place place' none p o = refl
unrefused_by false false true owed owed' place place' none p o = absurd (false≢true (sym none))
unrefused_by false false false owed owed' place place' none p o = o

needs_ack_is : (p : Point) (e : Tcb) (segment : Segment) → Meets p e segment → is_refused e segment ≡ false → rule.needs_ack p segment ≡ needs_ack e segment
unfolding rule.needs_ack
needs_ack_is p e segment m unrefused =
    let k : ℕ = p.fetched in
    let n : ℕ = next e.receiving in
    let units : taken_units p ≡ n + k = next_is p e m.receives in
    ap (λ b. if b then rule.needs_ack_if_acceptable p segment else not (has_rst segment)) (accepts_is p e segment m)
    ∙ if_when (accepts e segment) _ _ _ _
    (λ acceptable.
    let z : first_of p.cisn segment ≡ first e segment +ℤ pos k = first_is p e segment m (or_left (accepts e segment) _ acceptable) in
    let place : int_eq (first_of p.cisn segment) (pos (taken_units p)) ≡ int_eq (first e segment) (pos n) =
    (λ i. int_eq (z i) (pos (units i))) ∙ point_shift n k (first e segment) in
    unrefused_by (has_rst segment) (has_syn segment) (rule.is_refused p segment) (nat_lt 0 (length_of segment) || rule.is_unsent_ack p segment)
    (nat_lt 0 (length_of segment) || is_unsent_ack e segment) _ _
    (ap (λ v. true && not (has_rst segment) && not (has_syn segment) && v) (misses_is p e segment m)
    ∙ ap (λ v. v && not (has_rst segment) && not (has_syn segment) && misses_syn e segment) (sym acceptable) ∙ unrefused)
    place (λ i. nat_lt 0 (length_of segment) || (has_ack segment && unsent_is p e segment m i)))
    (λ h. refl)

-- a list with something in it
is_some : List Segment → Bool
is_some [] = false
is_some (x ∷ xs) = true

cons_is_not_nil : (x : Segment) (xs : List Segment) → x ∷ xs ≡ [] → ⊥
unfolding is_some
cons_is_not_nil x xs h = false≢true (sym (ap is_some h))

-- a segment's RST
reset_reply_of : (b : Bool) (head : Head) (nothing : Option Head) → nothing ≡ None
    → reset_reply_segments (if b then Some head else nothing) ≡ (if b then reset_reply_segments (Some head) else [])
reset_reply_of true head nothing is = refl
reset_reply_of false head nothing is = ap reset_reply_segments is

segment_reset_reply : (p : Point) (e : Tcb) (segment : Segment) → Meets p e segment → has_begun e.name ≡ true → e.reset_reply ≡ None
    → reset_reply_out (received e segment) ≡ refusals e.local (Comes segment) p
unfolding reset_reply_out
segment_reset_reply p e segment m begun none =
    ap reset_reply_segments (reset_reply_is e segment begun m.bounds)
    ∙ reset_reply_of (is_refused e segment) (rst e segment segment.head.ack 0 4) e.reset_reply none
    ∙ ap (λ b. if b then reset_reply_segments (Some (rst e segment segment.head.ack 0 4)) else []) (sym (refuses_is p e segment m))

none_chosen : (b : Bool) (x : Segment) → (if b then x ∷ [] else []) ≡ [] → b ≡ false
none_chosen true x h = absurd (cons_is_not_nil x [] h)
none_chosen false x h = refl

-- what is pending once the news have come
pub ack_pending_is : (news : News) (p : Point) (e : Tcb) → has_begun e.name ≡ true → IsBetweenTurns e → StandsAt p e → IsUsualNews news e
    → refusals e.local news p ≡ [] → (arrived news e).ack_pending ≡ news_needs_ack news p
unfolding after_tick timer_ticked waited
ack_pending_is (Comes segment) p e begun between stands usual none =
    let m : Meets p e segment = record { receives = stands.receives; sends = stands.sends; sent = stands.sent; fetched_output = stands.fetched_output; bounds = between.bounds; usual = usual } in
    let unrefused : is_refused e segment ≡ false = sym (refuses_is p e segment m) ∙ none_chosen (refuses p segment) _ none in
    ack_pending_law e segment begun between.bounds usual between.ack_pending unrefused ∙ sym (needs_ack_is p e segment m unrefused)
ack_pending_is (Logged kept) p e begun between stands usual none = between.ack_pending
ack_pending_is Ticks p e begun between stands usual none = between.ack_pending
ack_pending_is Begins p e begun between stands usual none = between.ack_pending

-- the estimate after a segment
timing_is : (p : Point) (e : Tcb) (segment : Segment) (una : ℕ) → Meets p e segment → p.timing ≡ e.sending.timing
    → una ≡ acknowledged_after (Comes segment) p
    → timing_by e segment una ≡ timer.timing_noted (Comes segment) (resends (Comes segment) p) p (acknowledged_after (Comes segment) p)
unfolding timer.timing_noted
timing_is p e segment una m timing same =
    let measured : with_acknowledged (una - e.sending.una) e.sending.timing ≡ with_acknowledged (acknowledged_after (Comes segment) p - p.una) p.timing =
    λ i. with_acknowledged (same i - sym m.sends.una i) (sym timing i) in
    λ i. if sym (loss_is p e segment m) i then without_trip (measured i) else measured i

-- the three kinds of news
segment_arrives : (p : Point) (e : Tcb) (segment : Segment) → has_begun e.name ≡ true → IsBetweenTurns e → StandsAt p e → IsUsual e segment
    → Arrived (Comes segment) p e (received e segment)
segment_arrives p e segment begun between stands usual =
    let b : IsBounded e = between.bounds in
    let m : Meets p e segment = record { receives = stands.receives; sends = stands.sends; sent = stands.sent; fetched_output = stands.fetched_output; bounds = b; usual = usual } in
    let by : IsSentBy e segment (received e segment).sending = sending_law e segment begun b usual in
    let una : e.sending.una ≤ (received e segment).sending.una =
    omega (arith, by.una, rises (acknowledges e segment) e.sending.una (nat_abs (ack_at e segment))) in
    record {
      local = local_is e segment begun b;
      remote = remote_is e segment begun b;
      receives = received_receives p e segment begun m;
      sends = received_sends p e segment begun m (mss_is e segment begun b usual);
      sent = by.sent;
      bounds = bounded_by_segment e segment begun b usual;
      fin_last = fin_last_kept e.sending (received e segment).sending (fin_sent_is e segment begun b usual) by.closed by.sent b.order una by.held
          between.fin_last;
      reported = reported_by_segment e segment begun;
      timing = by.timing ∙ timing_is p e segment (received e segment).sending.una m stands.timing (by.una ∙ sym (una_is p e segment m));
      retransmission_due = retransmission_law e segment begun b usual ∙ false_or e.retransmission_due _ between.retransmission_due ∙ sym (loss_is p e segment m);
      probe = probe_is e segment begun b ∙ between.probe;
      probes = no_probe (received e segment) (probe_is e segment begun b ∙ between.probe);
      reset_reply = segment_reset_reply p e segment m begun between.reset_reply;
      target = target_is e segment begun b usual;
      una = una;
    }

nothing_arrives : (news : News) (p : Point) (e : Tcb) → IsBetweenTurns e → StandsAt p e → timer.is_tick news ≡ false
    → resends news p ≡ false → timer.timing_noted news (resends news p) p (acknowledged_after news p) ≡ p.timing → moved news p ≡ p
    → refusals e.local news p ≡ [] → Arrived news p e e
unfolding reset_reply_out
nothing_arrives news p e between stands still none timing same quiet =
    let P : Point → Type 0 = λ q. ReceivesAt q e in
    let Q : Point → Type 0 = λ q. SendsAt q e in
    record {
      local = refl;
      remote = refl;
      receives = subst P (sym same) stands.receives;
      sends = subst Q (sym same) stands.sends;
      sent = refl;
      bounds = between.bounds;
      fin_last = between.fin_last;
      reported = refl;
      timing = sym stands.timing ∙ sym timing;
      retransmission_due = between.retransmission_due ∙ (λ i. (sym still i && p.rest == 1 && is_unacknowledged e.sending) || sym none i);
      probe = between.probe ∙ sym (ap (λ v. v && p.rest == 1 && not (is_unacknowledged e.sending)) still);
      probes = no_probe e between.probe;
      reset_reply = ap reset_reply_segments between.reset_reply ∙ sym quiet;
      target = λ h. omega arith;
      una = omega arith;
    }

-- a tick touches the timer, its estimate and the congestion window alone
ticked_by : {X : Type 0} (g : Sending → X) (s : Sending) (b : Bool) (c : Congestion) (t t' : Timing) (interval rest left : ℕ)
    → (g (record s { congestion = c; timing = t; interval = interval; rest = rest }) ≡ g s) → (g (record s { timing = t'; rest = left }) ≡ g s)
    → g (if b then record s { congestion = c; timing = t; interval = interval; rest = rest } else record s { timing = t'; rest = left }) ≡ g s
ticked_by g s true c t t' interval rest left a b = a
ticked_by g s false c t t' interval rest left a b = b

tick_keeps : {X : Type 0} (g : Sending → X) (s : Sending)
    → ((c : Congestion) (t : Timing) (interval rest : ℕ) → g (record s { congestion = c; timing = t; interval = interval; rest = rest }) ≡ g s)
    → g (ticked s) ≡ g s
tick_keeps g s same = ticked_by g s (expires s) (congestion_expired s) _ _ _ _ _ (same _ _ _ _) (same s.congestion _ s.interval (s.rest - 1))

ticked_sends : (p : Point) (e : Tcb) (c : Congestion) → (ticked e.sending).congestion ≡ c → SendsAt p e → SendsAt (record p { congestion = c }) (after_tick e)
unfolding after_tick timer_ticked waited
ticked_sends p e c congestion s =
    let t : Sending = e.sending in
    let syn_acked : (ticked t).syn_acked ≡ t.syn_acked = tick_keeps (λ (q : Sending). q.syn_acked) t (λ c t i r. refl) in
    record {
      sisn = s.sisn ∙ sym (tick_keeps (λ (q : Sending). q.iss) t (λ c t i r. refl));
      mss = s.mss ∙ sym (tick_keeps (λ (q : Sending). q.mss) t (λ c t i r. refl));
      syn_acked = s.syn_acked ∙ sym syn_acked;
      una = s.una ∙ sym (tick_keeps (λ (q : Sending). q.una) t (λ c t i r. refl));
      edge = s.edge ∙ sym (tick_keeps (λ (q : Sending). q.edge) t (λ c t i r. refl));
      wl1 = λ h. s.wl1 (sym syn_acked ∙ h)
          ∙ ap (λ n. offset_of e.receiving.irs n +ℤ pos p.fetched) (sym (tick_keeps (λ (q : Sending). q.wl1) t (λ c t i r. refl)));
      wl2 = s.wl2 ∙ sym (tick_keeps (λ (q : Sending). q.wl2) t (λ c t i r. refl));
      congestion = sym congestion;
    }

ticked_receives : (p : Point) (e : Tcb) (c : Congestion) → ReceivesAt p e → ReceivesAt (record p { congestion = c }) (after_tick e)
unfolding after_tick timer_ticked waited
ticked_receives p e c r = record { cisn = r.cisn; limit = r.limit; read = r.read; long = r.long; unread = r.unread; fin = r.fin; early = r.early }

lost_is : (p : Point) (e : Tcb) → StandsAt p e → congestion_ticked e.sending ≡ congestion_after Ticks p
unfolding congestion_after
lost_is p e stands =
    let s : SendsAt p e = stands.sends in
    let first : law.is_first_expiry e.sending ≡ is_first_expiry p =
    λ i. if (sym stands.timing i).measures then not (sym stands.timing i).backed_off else sym stands.interval i == 1 in λ i.
    if sym stands.rest i == 1 && nat_lt (sym s.una i) (sym stands.sent i) && nat_lt (sym s.una i) (sym s.edge i)
    then with_expiry (sym s.mss i) (sym stands.sent i - sym s.una i) (first i) (sym s.congestion i) else sym s.congestion i

tick_arrives : (p : Point) (e : Tcb) → IsBetweenTurns e → StandsAt p e → Arrived Ticks p e (after_tick e)
unfolding after_tick timer_ticked waited taken_after early_after fin_after syn_acked_after acknowledged_after edge_after wl1_after wl2_after congestion_after
    is_third_duplicate is_partial_ack timer.timing_noted reset_reply_out
tick_arrives p e between stands =
    let t : Sending = e.sending in
    let runs_out : expires t ≡ timer.expires Ticks p = ap (λ n. n == 1) (sym stands.rest) in
    let lost : (ticked t).congestion ≡ congestion_after Ticks p = sending.ticked_law e between.bounds ∙ lost_is p e stands in
    let sent : (ticked t).sent ≡ t.sent = tick_keeps (λ (q : Sending). q.sent) t (λ c t i r. refl) in
    let una : (ticked t).una ≡ t.una = tick_keeps (λ (q : Sending). q.una) t (λ c t i r. refl) in
    let held : length (ticked t).held ≡ length t.held = tick_keeps (λ (q : Sending). length q.held) t (λ c t i r. refl) in
    record {
      local = refl;
      remote = refl;
      receives = ticked_receives p e _ stands.receives;
      sends = ticked_sends p e _ lost stands.sends;
      sent = sent;
      bounds = bounded_by_tick e between.bounds;
      fin_last = fin_last_kept t (ticked t) (tick_keeps (λ (q : Sending). q.fin_sent) t (λ c t i r. refl))
          (tick_keeps (λ (q : Sending). q.closed) t (λ c t i r. refl)) sent between.bounds.order (omega (arith, una)) (omega (arith, una, held)) between.fin_last;
      reported = refl;
      timing = sending.ticked_timing e
          ∙ (λ i. if sym stands.rest i == 1 then with_backoff (min 64 (2 * sym stands.interval i)) (sym stands.timing i) else with_tick (sym stands.timing i));
      retransmission_due = false_or e.retransmission_due _ between.retransmission_due ∙ ap (λ v. v && is_unacknowledged t) runs_out ∙ or_false _;
      probe = false_or e.probe _ between.probe ∙ ap (λ v. v && not (is_unacknowledged t)) runs_out;
      probes = probed_by_tick e between.probe between.bounds between.shut;
      reset_reply = ap reset_reply_segments between.reset_reply;
      target = λ h. omega (arith, tick_keeps target t (λ c t i r. refl));
      una = omega (arith, una);
    }

-- all kinds
pub arrives : (news : News) (p : Point) (e : Tcb) → has_begun e.name ≡ true → IsBetweenTurns e → StandsAt p e → IsUsualNews news e → Arrived news p e (arrived news e)
unfolding taken_after early_after fin_after syn_acked_after acknowledged_after edge_after wl1_after wl2_after congestion_after is_third_duplicate is_partial_ack
    timer.timing_noted
arrives (Comes segment) p e begun between stands usual = segment_arrives p e segment begun between stands usual
arrives (Logged kept) p e begun between stands usual = nothing_arrives (Logged kept) p e between stands refl refl refl refl refl
arrives Ticks p e begun between stands usual = tick_arrives p e between stands
arrives Begins p e begun between stands usual = nothing_arrives Begins p e between stands refl refl refl refl refl
