-- Every segment that leaves tells all that is taken and the window, and where these change a segment leaves.
use Rattle.std.proofs.Common.{◌≡◌, ℕ, zero, suc, ◌+◌, ◌-◌, Bool, true, false, not, List, [], ◌∷◌, ◌++◌, min, Option, None, inl, inr, ◌⊎◌, refl, sym, ap, subst, arith, length-drop, ◌∙◌}
use Rattle.std.specs.Prelude.{◌==◌, ◌&&◌, ◌||◌, nat_lt, if◌then◌else◌}
use Rattle.std.specs.List.{AllByRecursion}
use Rattle.std.proofs.lemmas.Bool.{false≢true}
use Rattle.ft_io.specs.declared.Addr.{Addr}
use Rattle.seq_arith.specs.Number.{number_at}
use Rattle.seq_arith.specs.Packet.{Segment, has_rst, has_ack}
use Rattle.segment_codec.specs.declared.Head.{Head}
use Rattle.ft_model.specs.News.{News}
use Rattle.ft_model.specs.News.News.{Comes, Logged, Ticks, Begins}
use Rattle.tcp_endpoint.specs.States.{is_closed, is_syn_sent, has_begun}
use Rattle.tcp_endpoint.specs.ReceiveHalf.{next, window, advertised_edge}
use Rattle.tcp_endpoint.specs.SendHalf.{in_flight, is_unacknowledged}
use Rattle.tcp_endpoint.specs.Tcb.{Tcb, listening, listening_measuring, connecting_measuring}
use Rattle.tcp_endpoint.specs.Output.{or_bare, head_at, opening_segment, text_at, fin_at, texts, reset_reply_segments, reset_reply_out, retransmitted_segment, retransmission_out, probes_text, probes_fin, probe_out, with_probe, new_length, text_out, with_text_sent, new_fin, fin_out, with_fin_out, full_out, after_full, is_ack_pending, bare_segment, leaving, with_advertised, with_turn_ended, flushed, with_timed}
use Rattle.tcp_endpoint.specs.UserCalls.{after_tick, timer_ticked, waited}
use Rattle.endpoint_laws.specs.Laws.{last_advertised, asks}
use Rattle.endpoint_laws.specs.Turn.{Call, Events, arrived, called, used, before_flush, turned, sent_in}
use Rattle.endpoint_laws.specs.Turn.Call.{Reads, Writes, Closes}
use Rattle.endpoint_laws.specs.Advertisement.{Advertises, is_reported, ReadsOnlyTaken, AcknowledgesAll}
use Rattle.endpoint_laws.proofs.AnswersAlone.{is_empty}
use Rattle.endpoint_laws.proofs.SegmentsLaw.{begun_answers, one_retransmission}
use Rattle.endpoint_laws.proofs.ReportedLaw.{leaving_by, reported_by_segment, reported_by_flush}
use Rattle.endpoint_laws.proofs.EndingLaw.{used_keeps, call_answers}
use Rattle.endpoint_laws.proofs.Rsts.{IsRst, Refuses, refuses_arrived, unbegun_same}
use Rattle.endpoint_laws.proofs.Calls.{begun_closing}
use Rattle.ft_io.proofs.Choices.{by_cases}
use Rattle.ft_model.proofs.Spoken.{or_bare_spoken}

-- a segment that tells it, and no RST
abbrev Reports : Tcb → Segment → Type 0
Reports u segment =
    (has_rst segment ≡ false) × (has_ack segment ≡ true) × (segment.head.ack ≡ number_at u.receiving.irs (next u.receiving))
    × (segment.head.window ≡ window u.receiving)

-- lists of segments of which each has a property
all_both : (P : Segment → Type 0) (first second : List Segment) → AllByRecursion P first → AllByRecursion P second → AllByRecursion P (first ++ second)
all_both P [] second a b = b
all_both P (segment ∷ first) second a b = (a.0, all_both P first second a.1 b)

all_weaker : (P Q : Segment → Type 0) → ((segment : Segment) → P segment → Q segment) → (segments : List Segment) → AllByRecursion P segments → AllByRecursion Q segments
all_weaker P Q weaker [] a = tt
all_weaker P Q weaker (segment ∷ segments) a = (weaker segment a.0, all_weaker P Q weaker segments a.1)

all_chosen : (P : Segment → Type 0) (chosen : Bool) (first second : List Segment) → AllByRecursion P first → AllByRecursion P second
    → AllByRecursion P (if chosen then first else second)
all_chosen P true first second a b = a
all_chosen P false first second a b = b

chosen_one : (P : Segment → Type 0) (chosen : Bool) (first second : Segment) → P first → P second → P (if chosen then first else second)
chosen_one P true first second a b = a
chosen_one P false first second a b = b

-- the segments that the flush builds: text, the FIN, and the first segment that is unacknowledged
text_reports : (u : Tcb) (place n : ℕ) → Reports u (text_at u place n)
unfolding text_at head_at
text_reports u place n = (refl, refl, refl, refl)

fin_reports : (u : Tcb) (place : ℕ) → Reports u (fin_at u place)
unfolding fin_at head_at
fin_reports u place = (refl, refl, refl, refl)

second_reports : (u : Tcb) (chosen : Bool) (first second : Segment) → chosen ≡ false → Reports u second → Reports u (if chosen then first else second)
second_reports u true first second h a = absurd (false≢true (sym h))
second_reports u false first second h a = a

opening_reports : (u : Tcb) → has_begun u.name ≡ true → Reports u (opening_segment u)
unfolding opening_segment head_at
opening_reports u begun = second_reports u (is_syn_sent u.name) _ _ (begun_answers u.name begun) (refl, refl, refl, refl)

retransmission_reports : (u : Tcb) → has_begun u.name ≡ true → Reports u (retransmitted_segment u)
unfolding retransmitted_segment
retransmission_reports u begun =
    chosen_one (Reports u) (not u.sending.syn_acked) _ _ (opening_reports u begun) (chosen_one (Reports u) _ _ _ (fin_reports u 0) (text_reports u 0 _))

texts_report : (count : ℕ) (u : Tcb) (place left : ℕ) → AllByRecursion (Reports u) (texts count u place left)
unfolding texts
texts_report zero u place left = tt
texts_report (suc count) u place left =
    all_chosen (Reports u) (nat_lt 0 left) _ _ (text_reports u place (min left u.sending.mss), texts_report count u (place + min left u.sending.mss) (left - min left u.sending.mss)) tt

-- the parts of what the flush sends
retransmission_out_reports : (u : Tcb) → has_begun u.name ≡ true → AllByRecursion (Reports u) (retransmission_out u)
unfolding retransmission_out
retransmission_out_reports u begun = all_chosen (Reports u) (u.retransmission_due && not (is_closed u.name) && is_unacknowledged u.sending) _ _ (retransmission_reports u begun, tt) tt

probe_out_reports : (u : Tcb) → AllByRecursion (Reports u) (probe_out u)
unfolding probe_out
probe_out_reports u =
    all_chosen (Reports u) (probes_text u) _ _ (text_reports u (in_flight u.sending) 1, tt) (all_chosen (Reports u) (probes_fin u) _ _ (fin_reports u (in_flight u.sending), tt) tt)

text_out_reports : (u : Tcb) → AllByRecursion (Reports u) (text_out u)
unfolding text_out
text_out_reports u = texts_report (new_length u) u (in_flight u.sending) (new_length u)

fin_out_reports : (u : Tcb) → AllByRecursion (Reports u) (fin_out u)
unfolding fin_out
fin_out_reports u = all_chosen (Reports u) (new_fin u) _ _ (fin_reports u (in_flight u.sending), tt) tt

-- what goes out before these parts changes the sending half alone
probed_text_reports : (u : Tcb) → AllByRecursion (Reports u) (text_out (with_probe u))
unfolding with_probe
probed_text_reports u = text_out_reports (with_probe u)

texted_fin_reports : (u : Tcb) → AllByRecursion (Reports u) (fin_out (with_text_sent (with_probe u)))
unfolding with_text_sent with_probe
texted_fin_reports u = fin_out_reports (with_text_sent (with_probe u))

bare_reports : (u : Tcb) → Reports u (bare_segment (after_full u))
unfolding bare_segment head_at after_full with_timed with_fin_out with_text_sent with_probe
bare_reports u = (refl, refl, refl, refl)

-- a RST answers, or nothing
rsts_advertise : (u : Tcb) (segments : List Segment) → AllByRecursion (λ segment. has_rst segment ≡ true) segments → AllByRecursion (Advertises u) segments
rsts_advertise u segments all = all_weaker (λ segment. has_rst segment ≡ true) (Advertises u) (λ segment is h. absurd (false≢true (sym h ∙ is))) segments all

reset_reply_advertises : (taken : ℕ) (u : Tcb) → Refuses taken u → AllByRecursion (Advertises u) (reset_reply_out u)
unfolding reset_reply_out
reset_reply_advertises taken u (inl none) =
    let P : Option Head → Type 0 = λ reset_reply. AllByRecursion (Advertises u) (reset_reply_segments reset_reply) in
    subst P (sym none) tt
reset_reply_advertises taken u (inr refused) = rsts_advertise u (reset_reply_segments u.reset_reply) refused.0

-- all that leaves
full_all : (u : Tcb) (P : Segment → Type 0) → ((segment : Segment) → Reports u segment → P segment) → has_begun u.name ≡ true → AllByRecursion P (reset_reply_out u)
    → AllByRecursion P (full_out u)
unfolding full_out
full_all u P weaker begun reset_reply =
    let part : (segments : List Segment) → AllByRecursion (Reports u) segments → AllByRecursion P segments = all_weaker (Reports u) P weaker in
    all_both P _ (fin_out (with_text_sent (with_probe u)))
    (all_both P _ (text_out (with_probe u))
    (all_both P _ (probe_out u) (all_both P (reset_reply_out u) (retransmission_out u) reset_reply (part (retransmission_out u) (retransmission_out_reports u begun))) (part (probe_out u) (probe_out_reports u)))
    (part (text_out (with_probe u)) (probed_text_reports u)))
    (part (fin_out (with_text_sent (with_probe u))) (texted_fin_reports u))

advertising : (u : Tcb) (segment : Segment) → Reports u segment → Advertises u segment
advertising u segment reports = λ h. (reports.1, reports.2, reports.3)

pub leaving_advertises : (u : Tcb) → has_begun u.name ≡ true → AllByRecursion (Advertises u) (reset_reply_out u) → AllByRecursion (Advertises u) (leaving u)
unfolding leaving
leaving_advertises u begun reset_reply =
    or_bare_spoken (Advertises u) (is_ack_pending (after_full u)) (bare_segment (after_full u)) (full_out u) (advertising u (bare_segment (after_full u)) (bare_reports u))
    (full_all u (Advertises u) (advertising u) begun reset_reply)

-- what the user's calls leave
pub reset_reply_used : (calls : List Call) (m : Tcb) → (used calls m).reset_reply ≡ m.reset_reply
reset_reply_used calls m = used_keeps (λ (t : Tcb). t.reset_reply) call_answers calls m

call_reports : (call : Call) (t : Tcb) → last_advertised (called call t) ≡ last_advertised t
call_reports (Reads n) t = refl
call_reports (Writes bytes) t = refl
call_reports Closes t = refl

pub begun_used : (calls : List Call) (m : Tcb) → has_begun m.name ≡ true → has_begun (used calls m).name ≡ true
begun_used [] m h = h
begun_used (Reads n ∷ calls) m h = begun_used calls (called (Reads n) m) h
begun_used (Writes bytes ∷ calls) m h = begun_used calls (called (Writes bytes) m) h
begun_used (Closes ∷ calls) m h = begun_used calls (called Closes m) (begun_closing m.name h)

next_used : (calls : List Call) (m : Tcb) → ReadsOnlyTaken calls m → next (used calls m).receiving ≡ next m.receiving
next_used [] m may = refl
next_used (Reads n ∷ calls) m may =
    let same : next (called (Reads n) m).receiving ≡ next m.receiving = omega (arith, may.0, length-drop n m.receiving.unread) in
    next_used calls (called (Reads n) m) may.1 ∙ same
next_used (Writes bytes ∷ calls) m may = next_used calls (called (Writes bytes) m) may
next_used (Closes ∷ calls) m may = next_used calls (called Closes m) may

refuses_used : (taken : ℕ) (calls : List Call) (m : Tcb) → ReadsOnlyTaken calls m → Refuses taken m → Refuses taken (used calls m)
refuses_used taken calls m may (inl none) = inl (reset_reply_used calls m ∙ none)
refuses_used taken calls m may (inr refused) =
    let P : Option Head → Type 0 = λ reset_reply. IsRst reset_reply in
    inr (subst P (sym (reset_reply_used calls m)) refused.0, next_used calls m may ∙ refused.1)

pub advertises_law : (news : News) (calls : List Call) (e : Tcb) → e.reset_reply ≡ None → ReadsOnlyTaken calls (arrived news e)
    → has_begun (before_flush news calls e).name ≡ true → AllByRecursion (Advertises (before_flush news calls e)) (sent_in news calls e)
advertises_law news calls e none may begun =
    let u : Tcb = before_flush news calls e in
    leaving_advertises u begun
    (reset_reply_advertises (next e.receiving) u (refuses_used (next e.receiving) calls (arrived news e) may (refuses_arrived news e none)))

-- what was last advertised stays, until the flush
reported_arrived : (news : News) (e : Tcb) → has_begun e.name ≡ true → last_advertised (arrived news e) ≡ last_advertised e
unfolding after_tick timer_ticked waited
reported_arrived (Comes segment) e begun = reported_by_segment e segment begun
reported_arrived (Logged kept) e begun = refl
reported_arrived Ticks e begun = refl
reported_arrived Begins e begun = refl

-- a segment goes out where what is taken or the edge isn't what was last advertised
some_bare : (bare : Segment) (segments : List Segment) → or_bare true bare segments ≡ [] → ⊥
some_bare bare [] h = cc
some_bare bare (segment ∷ segments) h = cc

asks_for_next : (ack_pending : Bool) (a b c d : ℕ) → (b ≡ a → ⊥) → (ack_pending || not (a == b) || not (c == d)) ≡ true
asks_for_next ack_pending a b c d other = grind (arith, other)

asks_for_edge : (ack_pending : Bool) (a b c d : ℕ) → (d ≡ c → ⊥) → (ack_pending || not (a == b) || not (c == d)) ≡ true
asks_for_edge ack_pending a b c d other = grind (arith, other)

asks_where_changed : (e u : Tcb) → last_advertised u ≡ (next e.receiving, advertised_edge e.receiving)
    → (next u.receiving ≡ next e.receiving → ⊥) ⊎ (advertised_edge u.receiving ≡ advertised_edge e.receiving → ⊥) → asks u.ack_pending u ≡ true
asks_where_changed e u receipt (inl other) =
    asks_for_next u.ack_pending u.last_ack_sent (next u.receiving) u.last_advertised_edge (advertised_edge u.receiving) (λ h. other (h ∙ ap (λ t. t.0) receipt))
asks_where_changed e u receipt (inr other) =
    asks_for_edge u.ack_pending u.last_ack_sent (next u.receiving) u.last_advertised_edge (advertised_edge u.receiving) (λ h. other (h ∙ ap (λ t. t.1) receipt))

-- and a segment goes out that is no RST
some_reported : (bare : Segment) (segments : List Segment) → has_rst bare ≡ false → AllByRecursion (λ segment. has_rst segment ≡ false) segments
    → is_reported (or_bare true bare segments) ≡ true
some_reported bare [] plain all = ap (λ b. not b || false) plain
some_reported bare (segment ∷ segments) plain all = ap (λ b. not b || is_reported segments) all.0

pub unanswered_reports : (u : Tcb) → has_begun u.name ≡ true → u.reset_reply ≡ None → asks u.ack_pending u ≡ true → is_reported (leaving u) ≡ true
unfolding reset_reply_out
unanswered_reports u begun none asked =
    let Plain : Segment → Type 0 = λ segment. has_rst segment ≡ false in
    let P : Option Head → Type 0 = λ reset_reply. AllByRecursion Plain (reset_reply_segments reset_reply) in
    ap is_reported (leaving_by u u.ack_pending begun refl ∙ ap (λ b. or_bare b (bare_segment (after_full u)) (full_out u)) asked)
    ∙ some_reported (bare_segment (after_full u)) (full_out u) (bare_reports u).0
    (full_all u Plain (λ segment reports. reports.0) begun (subst P (sym none) tt))

-- .. and where something goes out again
front_empty : (first second : List Segment) → first ++ second ≡ [] → first ≡ []
front_empty [] second h = refl
front_empty (segment ∷ first) second h = absurd (false≢true (ap is_empty h))

rest_empty : (first second : List Segment) → first ++ second ≡ [] → second ≡ []
rest_empty [] second h = h
rest_empty (segment ∷ first) second h = absurd (false≢true (ap is_empty h))

full_empty : (u : Tcb) → full_out u ≡ [] → retransmission_out u ≡ []
unfolding full_out
full_empty u h = rest_empty (reset_reply_out u) (retransmission_out u) (front_empty _ _ (front_empty _ _ (front_empty _ _ h)))

reported_by_some : (ack_pending : Bool) (bare : Segment) (segments : List Segment) → (segments ≡ [] → ⊥) → AllByRecursion (λ segment. has_rst segment ≡ false) segments
    → is_reported (or_bare ack_pending bare segments) ≡ true
reported_by_some ack_pending bare [] some all = absurd (some refl)
reported_by_some ack_pending bare (segment ∷ segments) some all = ap (λ b. not b || is_reported segments) all.0

pub retransmission_is_reported : (u : Tcb) → has_begun u.name ≡ true → u.reset_reply ≡ None → u.retransmission_due ≡ true → is_unacknowledged u.sending ≡ true → is_reported (leaving u) ≡ true
unfolding reset_reply_out leaving
retransmission_is_reported u begun none retransmission_due waits =
    let Plain : Segment → Type 0 = λ segment. has_rst segment ≡ false in
    let P : Option Head → Type 0 = λ reset_reply. AllByRecursion Plain (reset_reply_segments reset_reply) in
    reported_by_some (is_ack_pending (after_full u)) (bare_segment (after_full u)) (full_out u)
    (λ empty. false≢true (ap is_empty (sym (one_retransmission u begun retransmission_due waits) ∙ full_empty u empty)))
    (full_all u Plain (λ segment reports. reports.0) begun (subst P (sym none) tt))

-- so where more is taken no RST answers
unrefused : (taken : ℕ) (u : Tcb) → Refuses taken u → (next u.receiving ≡ taken → ⊥) → u.reset_reply ≡ None
unrefused taken u (inl none) changed = none
unrefused taken u (inr refused) changed = absurd (changed refused.1)

by_reason : (u e : Tcb) → has_begun u.name ≡ true → last_advertised u ≡ (next e.receiving, advertised_edge e.receiving) → Refuses (next e.receiving) u
    → (next u.receiving ≡ next e.receiving → ⊥) ⊎ ((u.reset_reply ≡ None) × (advertised_edge u.receiving ≡ advertised_edge e.receiving → ⊥))
    → is_reported (leaving u) ≡ true
by_reason u e begun receipt refuses (inl changed) =
    unanswered_reports u begun (unrefused (next e.receiving) u refuses changed) (asks_where_changed e u receipt (inl changed))
by_reason u e begun receipt refuses (inr moved) = unanswered_reports u begun moved.0 (asks_where_changed e u receipt (inr moved.1))

pub all_reported_law : (news : News) (calls : List Call) (e : Tcb) → has_begun e.name ≡ true → e.reset_reply ≡ None → last_advertised e ≡ (next e.receiving, advertised_edge e.receiving)
    → ReadsOnlyTaken calls (arrived news e) → has_begun (before_flush news calls e).name ≡ true
    → (next (before_flush news calls e).receiving ≡ next e.receiving → ⊥)
    ⊎ (((before_flush news calls e).reset_reply ≡ None) × (advertised_edge (before_flush news calls e).receiving ≡ advertised_edge e.receiving → ⊥))
    → is_reported (sent_in news calls e) ≡ true
all_reported_law news calls e begun none received_before may begun_after why =
    let m : Tcb = arrived news e in
    let u : Tcb = used calls m in
    let receipt : last_advertised u ≡ (next e.receiving, advertised_edge e.receiving) = used_keeps last_advertised call_reports calls m ∙ reported_arrived news e begun ∙ received_before in
    by_reason u e begun_after receipt (refuses_used (next e.receiving) calls m may (refuses_arrived news e none)) why

-- from turn to turn, whatever the limit and however much is written
record ReportsAll (e : Tcb) : Type 0 where
  reset_reply : e.reset_reply ≡ None
  receipt : has_begun e.name ≡ true → last_advertised e ≡ (next e.receiving, advertised_edge e.receiving)

reports_flushed : (u : Tcb) → ReportsAll (flushed u)
unfolding flushed with_turn_ended with_advertised after_full with_timed with_fin_out with_text_sent with_probe
reports_flushed u = record { reset_reply = refl; receipt = λ begun. reported_by_flush u begun }

turn_reported : (news : News) (calls : List Call) (e : Tcb) → ReportsAll e → ReadsOnlyTaken calls (arrived news e) → has_begun (before_flush news calls e).name ≡ true
    → (next (before_flush news calls e).receiving ≡ next e.receiving → ⊥) → is_reported (sent_in news calls e) ≡ true
turn_reported news calls e t may begun_after changed =
    by_cases (has_begun e.name)
    (λ begun. all_reported_law news calls e begun t.reset_reply (t.receipt begun) may begun_after (inl changed))
    (λ unbegun. absurd (changed (next_used calls (arrived news e) may ∙ unbegun_same news e unbegun)))

acknowledges_on : (turns : List Events) (e : Tcb) → ReportsAll e → AcknowledgesAll e turns
acknowledges_on [] e t = tt
acknowledges_on (turn ∷ turns) e t = (
  λ may begun. (advertises_law turn.news turn.calls e t.reset_reply may begun, turn_reported turn.news turn.calls e t may begun),
  acknowledges_on turns (turned turn.news turn.calls e) (reports_flushed (before_flush turn.news turn.calls e)),
)

opens_unreported : (measures : Bool) (local remote : Addr) (iss limit : ℕ)
    → ReportsAll (listening_measuring measures local iss limit) × ReportsAll (connecting_measuring measures local remote iss limit)
unfolding connecting_measuring listening_measuring listening
opens_unreported measures local remote iss limit =
    (record { reset_reply = refl; receipt = λ begun. absurd (false≢true begun) }, record { reset_reply = refl; receipt = λ begun. absurd (false≢true begun) })

pub acknowledges_law : (measures : Bool) (local remote : Addr) (iss limit : ℕ) (turns : List Events)
    → AcknowledgesAll (listening_measuring measures local iss limit) turns × AcknowledgesAll (connecting_measuring measures local remote iss limit) turns
acknowledges_law measures local remote iss limit turns =
    let t = opens_unreported measures local remote iss limit in (
      acknowledges_on turns (listening_measuring measures local iss limit) t.0,
      acknowledges_on turns (connecting_measuring measures local remote iss limit) t.1,
    )
