-- From the parts at a point to the parts at the point after a turn.
use Rattle.std.proofs.Common.{◌≡◌, ℕ, ◌≤◌, ◌+◌, ◌-◌, ◌*◌, ◌^◌, ◌⊎◌, inl, inr, ⊎_elim, Bool, true, false, not, None, List, [], ◌∷◌, ◌++◌, length, append-nil, take, drop, sum, min, max, refl, sym, ap, subst, arith, ◌∙◌}
use Rattle.std.specs.Prelude.{◌==◌, ◌&&◌, ◌||◌, nat_lt, nat_le, if◌then◌else◌}
use Rattle.std.proofs.lemmas.Bool.{false≢true, and_parts, and_right}
use Rattle.ft_io.specs.declared.Addr.{Addr}
use Rattle.tcp_rules.specs.Congestion.{Congestion}
use Rattle.seq_arith.specs.Packet.{Segment, has_syn, has_ack, has_rst}
use Rattle.seq_arith.specs.Offset.{one_if}
use Rattle.server_trait.specs.Service.{Machine, reference}
use Rattle.tcp_rules.specs.Timing.{Timing}
use Rattle.ft_model.specs.Answered.{answered_after, reads_answered_after}
use Rattle.ft_model.specs.Connection.{LiveTurn, sent_by}
use Rattle.ft_model.specs.ResetAndEnd.{reset_after, end_ticks_after}
use Rattle.ft_model.specs.Network.{Packet}
use Rattle.ft_model.specs.News.{News}
use Rattle.ft_model.specs.News.News.{Comes, Logged, Ticks, Begins}
use Rattle.ft_model.specs.PendingAck.{is_ack_pending, needs_ack, is_ack_due, is_delayed}
use Rattle.ft_model.specs.Point.{Point, taken_units, advertised_edge, answered_run, released, target, made, is_over, HoldsBehind}
use Rattle.ft_model.specs.Reads.{Makes, next_read, next_length, may_read}
use Rattle.ft_model.specs.Segments.{opens_with, repeats_syn, syn_ack, bare_segment, or_bare, segments_of, full_segments, resent, new_texts, new_fin, new_length, texts, fin_if_closed, is_unacknowledged, first_unacknowledged, probe}
use Rattle.ft_model.specs.Sending.{acknowledged_after, edge_after, congestion_after, is_third_duplicate, is_partial_ack, send_edge, sent_at_once, sent_after, resends, timing_after}
use Rattle.ft_model.specs.Taken.{taken_after, fin_after}
use Rattle.ft_model.specs.Timer.{interval_after, rest_after, must_run, timing_noted}
use Rattle.ft_model.proofs.Settled.{settled}
use Rattle.ft_model.proofs.TurnReports.{settled_reads}
use Rattle.tcp_endpoint.specs.declared.states.StateName.TheVariants.{Closed}
use Rattle.tcp_endpoint.specs.Output.{full_out, leaving, flushed}
use Rattle.tcp_endpoint.specs.ReceiveHalf as receiver
use Rattle.tcp_endpoint.specs.States.{has_begun, is_closed}
use Rattle.tcp_endpoint.specs.SendHalf.{Sending, bytes_end, expires, congestion_expired}
use Rattle.tcp_endpoint.specs.Tcb.{Tcb}
use Rattle.tcp_endpoint.specs.UserCalls.{after_tick, timer_ticked, waited, write_room, is_ended}
use Rattle.endpoint_laws.specs.Laws.{KeepsTime, IsBounded}
use Rattle.endpoint_laws.specs.Turn.{Call, IsUsualNews, arrived, before_flush}
use Rattle.endpoint_laws.proofs.Calls.{FinIsLast}
use Rattle.endpoint_laws.proofs.Arrivals.{Arrived, arrives}
use Rattle.endpoint_laws.proofs.TurnEnd.{flush_keeps}
use Rattle.endpoint_laws.proofs.EndingLaw.{named_law, reset_law, flushed_name}
use Rattle.north_wrap.specs.declared.read_record.ReadRecord.{ReadRecord}
use Rattle.north_wrap.specs.NorthState.{NorthState, lengths_of, Turns as NorthTurns}
use Rattle.north_wrap.specs.Refinement.{NorthStands, SocketStands, NorthTurn, given_more, given_text, off_socket, is_all_given}
use Rattle.north_wrap.proofs.WholeTurn.{whole_turn}
use Rattle.north_wrap.proofs.Logged.{answered_front}
use Rattle.ft_model.proofs.Services.{RunExtends, goes_refl, prefix_length}
use Rattle.connection_laws.specs.Inside.{inside}
use Rattle.connection_laws.specs.Traffic.{news_inside, passed, tcp_out, needs_ack_besides, leaves}
use Rattle.connection_laws.specs.Turn.{NewsFit, IsLater, TurnsInside}
use Rattle.connection_laws.specs.ClosedTcp.{StandsClosed, EndsInside, ProceedsClosed}
use Rattle.connection_laws.specs.OutputFeed.{tcp_reader, tcp_writer, Feeds, north_calls, FedBy}
use Rattle.connection_laws.specs.Parts.{StandsOpen, PartsStand, PartsRest, PartsTurn, north_after_news, repeats, adds, leaves_with}
use Rattle.connection_laws.proofs.Meets.{Moves, moves_inside_all, stays_inside, nothing_counts, is_syn_has, minus_none}
use Rattle.connection_laws.proofs.Sent.{nothing_new, same_lengths, syn_at, units_none}
use Rattle.connection_laws.proofs.Whole.{usual_news, turns_inside}
use Rattle.connection_laws.proofs.Delaying.{waits_none}
use Rattle.connection_laws.proofs.Outliving.{IsStill, still, outlives, opens_not, reads_rise, taken_stays, fin_stays}
use Rattle.connection_laws.proofs.TcpEnd.{unreset, flushed_reset, ends_inside, opens_not as opens_by_end}
use Rattle.connection_laws.proofs.SendBuffer.{KeepsOutput, news_keep}
use Rattle.connection_laws.proofs.Fed.{reading, answered_goes, fed_later, fed_arrived, fed_flushed, full_flushed, used_inside, from_start, north_calls_feed}
use Rattle.connection_laws.proofs.Reassembly.{behind_at}
use Rattle.connection_laws.proofs.Joining.{socket_laws, on_receipt, received_shut, socket_stands}
use Rattle.endpoint_laws.proofs.SegmentsLaw.{begun_open}
use Rattle.ft_io.proofs.Booleans.{second_of_three}
use Rattle.ft_io.proofs.Numbers.{not_less_itself}
use Rattle.ft_model.proofs.Turns.{all_is_sent}

-- the point after a turn, by the laws
pub goes : {S : Type 0} (service : Machine S) (server : Addr) (boot : ℕ) (news : News) (p : Point) (ks : List ℕ) → Makes service (reading p.lengths (settled service news p (p.lengths ++ ks))) ks
    → LiveTurn service server boot news p (settled service news p (p.lengths ++ ks)) (sent_by service server boot news p (settled service news p (p.lengths ++ ks)))
unfolding sent_after sent_at_once timing_noted timing_after interval_after rest_after must_run end_ticks_after
goes service server boot news p ks makes = record {
  same = record { key = refl; cisn = refl; sisn = refl; mss = refl; fetched = refl; fetched_output = refl; delays = refl; batches = refl };
  taken = refl;
  fin = refl;
  early = refl;
  answered = refl;
  reads_answered = refl;
  reads = record { news = ks; lengths = refl; makes = makes };
  syn_acked = refl;
  una = refl;
  edge = refl;
  wl1 = refl;
  wl2 = refl;
  congestion = refl;
  sent_units = refl;
  timing = refl;
  timestamping = refl;
  interval = refl;
  rest = refl;
  end_ticks = refl;
  reset = refl;
  packets = refl;
}

-- all that may be sent is sent
up_to : (s t e n : ℕ) → min t e ≤ max s (min t e) + n
up_to s t e n = omega arith

or_off : (a c o : Bool) → c ≡ false → (a || (c && o)) ≡ a
or_off true c o h = refl
or_off false c o h = ap (λ b. b && o) h

-- what the connection adds where TCP is CLOSED is what the law requires
besides_ack_pending : (o b r x y : Bool) → (((b || r) || ((((o || b) || r) || x) || y))) ≡ ((((o || b) || r) || x) || y)
besides_ack_pending true true r x y = refl
besides_ack_pending true false true x y = refl
besides_ack_pending true false false x y = refl
besides_ack_pending false true r x y = refl
besides_ack_pending false false true x y = refl
besides_ack_pending false false false x y = refl

any_ack_pending : (r x y : Bool) → (r || ((r || x) || y)) ≡ ((r || x) || y)
any_ack_pending true x y = refl
any_ack_pending false x y = refl

on_closed : (a c o : Bool) → c ≡ true → (a || o) ≡ o → (a || (c && o)) ≡ o
on_closed a true o h e = e
on_closed a false o h e = absurd (false≢true h)

all_due : {S : Type 0} (service : Machine S) (news : News) (p q : Point) → (needs_ack_besides service news p q || is_ack_due service news p q) ≡ is_ack_due service news p q
unfolding is_ack_due
all_due service (Comes segment) p q =
    besides_ack_pending (needs_ack p segment) (is_over service p && not (has_rst segment)) (nat_lt p.answered q.answered) (not (taken_units p == taken_units q)) (not (advertised_edge p == advertised_edge q))
all_due service (Logged kept) p q = any_ack_pending (nat_lt p.answered q.answered) (not (taken_units p == taken_units q)) (not (advertised_edge p == advertised_edge q))
all_due service Ticks p q = any_ack_pending (nat_lt p.answered q.answered) (not (taken_units p == taken_units q)) (not (advertised_edge p == advertised_edge q))
all_due service Begins p q = refl

pending_by : (d b due : Bool) → d ≡ false → (b || due) ≡ due → (b || (not d && due)) ≡ (not d && due)
pending_by true b due off is = absurd (false≢true (sym off))
pending_by false b due off is = is

all_ack_pending : {S : Type 0} (service : Machine S) (news : News) (p q : Point) → taken_units q ≡ taken_units p
    → (needs_ack_besides service news p q || is_ack_pending service news p q) ≡ is_ack_pending service news p q
unfolding is_ack_pending
all_ack_pending service news p q same =
    pending_by (is_delayed news p q) (needs_ack_besides service news p q) (is_ack_due service news p q) (waits_none (is_delayed news p q) news p q same refl)
    (all_due service news p q)

no_repeat : (news : News) (p : Point) → opens_with news p ≡ false → repeats news p ≡ false
no_repeat (Comes segment) p h = h
no_repeat (Logged kept) p h = refl
no_repeat Ticks p h = refl
no_repeat Begins p h = refl

-- TCP CLOSED: nothing is passed on, and no SYN is repeated
closed_leaves : {S : Type 0} (service : Machine S) (server : Addr) (delta : ℕ) (news : News) (p q : Point) (t : Tcb) → taken_units q ≡ taken_units p → t.name ≡ Closed → passed delta q (leaving t) ≡ [] → repeats news p ≡ false
    → segments_of service server news p q ≡ or_bare (is_ack_pending service news p q) (bare_segment server q) [] → leaves_with service server delta news p q t ≡ segments_of service server news p q
closed_leaves service server delta news p q t same closed silent none alone =
    let out : passed delta q (tcp_out news p q t) ≡ [] =
    ap (λ d. passed delta q (if d then full_out t else leaving t)) (waits_none (is_delayed news p q) news p q same refl) ∙ silent in
    (λ j. or_bare (on_closed (needs_ack_besides service news p q) (is_closed t.name) (is_ack_pending service news p q) (ap is_closed closed) (all_ack_pending service news p q same) j) (bare_segment server q)
    (out j ++ (if none j then syn_ack server q ∷ [] else []))) ∙ sym alone

-- a repeated SYN: TCP sends nothing, so that the kept SYN-ACK leaves alone
abbrev tail_of : List Segment → List Segment
tail_of [] = []
tail_of (x ∷ xs) = xs

none_new : (s t e t' e' r : ℕ) → min t e ≤ s → t' ≡ t → e' ≡ e → min (max s (min t' e')) r - s ≡ 0
none_new s t e t' e' r h a b = omega (arith, h, a, b)

no_fin : (s t e t' e' r : ℕ) → min t e ≤ s → t' ≡ t → e' ≡ e → (nat_lt r (max s (min t' e')) && nat_le s r) ≡ false
no_fin s t e t' e' r h a b = let m : max s (min t' e') ≡ s = omega (arith, h, a, b) in (λ j. nat_lt r (m j) && nat_le s r) ∙ apart r s
  where
    apart : (r s : ℕ) → (nat_lt r s && nat_le s r) ≡ false
    apart r s = grind arith

repeated_alone : {S : Type 0} (service : Machine S) (server : Addr) (boot : ℕ) (segment : Segment) (p q : Point) (sent : List Packet) (xs : List Segment) → KeepsTime p.timing → p.fetched ≤ length p.taken
    → min (target service p) (send_edge p) ≤ p.sent → repeats_syn p segment ≡ true → LiveTurn service server boot (Comes segment) p q sent
    → leaves service server (Comes segment) p q xs ≡ segments_of service server (Comes segment) p q → xs ≡ []
unfolding segments_of full_segments resent new_texts new_fin taken_after fin_after sent_at_once reads_answered_after acknowledged_after edge_after congestion_after is_third_duplicate is_partial_ack
repeated_alone service server boot segment p q sent xs keeps few rest opens l same =
    let none = nothing_counts p segment (is_syn_has (has_syn segment) (has_ack segment) (has_rst segment) (segment.head.seq == p.cisn) (taken_units p == 0) (p.una == 0) opens) in
    let m : Moves (Comes segment) p 0 0 Begins = stays_inside 0 0 p segment keeps none in
    let units = units_none (length p.taken) p.fin (second_of_three (syn_at p segment) (taken_units p == 0) (p.una == 0) opens) in
    let taken : q.taken ≡ p.taken = l.taken ∙ sym m.taken in
    let fin : q.fin ≡ p.fin = l.fin ∙ sym m.fin in
    let right : q.edge ≡ p.edge = l.edge ∙ minus_none (edge_after (Comes segment) p) p.edge (sym m.edge) in
    let una : q.una ≡ p.una = l.una ∙ minus_none (acknowledged_after (Comes segment) p) p.una (sym m.una) in
    let congestion : q.congestion ≡ p.congestion = l.congestion ∙ sym m.congestion in
    let edge : send_edge q ≡ send_edge p = λ j. min (right j) (una j + (congestion j).cwnd) in
    let again : resends (Comes segment) p ≡ false = sym m.again in
    let lens : q.lengths ≡ p.lengths = same_lengths service p q l.reads (ap length taken ∙ units.0) (l.same.fetched ∙ omega (arith, few, units.0)) (fin ∙ units.1) in
    let run : answered_run service q ≡ answered_run service p = λ j. reference service (taken j) (take (l.reads_answered j) (lens j)) in
    let target_is : target service q ≡ target service p = ap (λ r. length r.output + one_if r.closed) run in
    let long : new_length service p q ≡ 0 = none_new p.sent (target service p) (send_edge p) (target service q) (send_edge q) (released service q) rest target_is edge in
    let off : (nat_lt (released service q) (sent_at_once service p q) && nat_le p.sent (released service q)) ≡ false =
    no_fin p.sent (target service p) (send_edge p) (target service q) (send_edge q) (released service q) rest target_is edge in
    ap tail_of ((λ j. or_bare (needs_ack_besides service (Comes segment) p q) (bare_segment server q) ((if sym opens j then syn_ack server q ∷ [] else []) ++ xs))
    ∙ same
    ∙ (λ j. or_bare (is_ack_pending service (Comes segment) p q) (bare_segment server q)
    ((if opens j then syn_ack server q ∷ [] else [])
    ++ ((if again j then (if is_unacknowledged p q then first_unacknowledged service server p q else probe service server p q) else [])
    ++ (texts service server q (long j) p.sent (long j) ++ (if off j then fin_if_closed service server q else []))))))

-- TCP open: what it sends, passed on, is the law's but for what the connection adds
nothing_behind : (xs : List Segment) → xs ++ [] ≡ xs
nothing_behind xs = append-nil xs

by_repeat : {S : Type 0} (service : Machine S) (server : Addr) (boot delta : ℕ) (segment : Segment) (p q : Point) (sent : List Packet) (xs : List Segment) (b : Bool) → repeats_syn p segment ≡ b → KeepsTime p.timing
    → p.fetched ≤ length p.taken → min (target service p) (send_edge p) ≤ p.sent → LiveTurn service server boot (Comes segment) p q sent
    → leaves service server (Comes segment) p q xs ≡ segments_of service server (Comes segment) p q
    → or_bare (needs_ack_besides service (Comes segment) p q) (bare_segment server q) (xs ++ (if repeats_syn p segment then syn_ack server q ∷ [] else []))
    ≡ segments_of service server (Comes segment) p q
by_repeat service server boot delta segment p q sent xs true is keeps few rest l same =
    let none : xs ≡ [] = repeated_alone service server boot segment p q sent xs keeps few rest is l same in
    (λ j. or_bare (needs_ack_besides service (Comes segment) p q) (bare_segment server q) (none j ++ (if is j then syn_ack server q ∷ [] else [])))
    ∙ (λ j. or_bare (needs_ack_besides service (Comes segment) p q) (bare_segment server q) ((if sym is j then syn_ack server q ∷ [] else []) ++ sym none j)) ∙ same
by_repeat service server boot delta segment p q sent xs false is keeps few rest l same =
    (λ j. or_bare (needs_ack_besides service (Comes segment) p q) (bare_segment server q) (xs ++ (if is j then syn_ack server q ∷ [] else [])))
    ∙ ap (or_bare (needs_ack_besides service (Comes segment) p q) (bare_segment server q)) (nothing_behind xs)
    ∙ (λ j. or_bare (needs_ack_besides service (Comes segment) p q) (bare_segment server q) ((if sym is j then syn_ack server q ∷ [] else []) ++ xs)) ∙ same

by_news : {S : Type 0} (service : Machine S) (server : Addr) (boot delta : ℕ) (news : News) (p q : Point) (sent : List Packet) (xs : List Segment) → IsLater news p → KeepsTime p.timing
    → p.fetched ≤ length p.taken → min (target service p) (send_edge p) ≤ p.sent → LiveTurn service server boot news p q sent
    → leaves service server news p q xs ≡ segments_of service server news p q
    → or_bare (needs_ack_besides service news p q) (bare_segment server q) (xs ++ (if repeats news p then syn_ack server q ∷ [] else [])) ≡ segments_of service server news p q
by_news service server boot delta (Comes segment) p q sent xs later keeps few rest l same =
    by_repeat service server boot delta segment p q sent xs (repeats_syn p segment) refl keeps few rest l same
by_news service server boot delta (Logged kept) p q sent xs later keeps few rest l same = ap (or_bare (needs_ack_besides service (Logged kept) p q) (bare_segment server q)) (nothing_behind xs) ∙ same
by_news service server boot delta Ticks p q sent xs later keeps few rest l same = ap (or_bare (needs_ack_besides service Ticks p q) (bare_segment server q)) (nothing_behind xs) ∙ same
by_news service server boot delta Begins p q sent xs later keeps few rest l same =
    ap (or_bare true (bare_segment server q)) (nothing_behind xs)
    ∙ (λ j. or_bare true (bare_segment server q) ((if not (sym later j) then syn_ack server q ∷ [] else []) ++ xs)) ∙ same

open_leaves : {S : Type 0} (service : Machine S) (server : Addr) (boot delta : ℕ) (news : News) (p q : Point) (sent : List Packet) (t : Tcb) → has_begun t.name ≡ true → IsLater news p → KeepsTime p.timing
    → p.fetched ≤ length p.taken → min (target service p) (send_edge p) ≤ p.sent → LiveTurn service server boot news p q sent
    → leaves service server news p q (passed delta q (tcp_out news p q t)) ≡ segments_of service server news p q
    → leaves_with service server delta news p q t ≡ segments_of service server news p q
open_leaves service server boot delta news p q sent t begun later keeps few rest l same =
    (λ j. or_bare (or_off (needs_ack_besides service news p q) (is_closed t.name) (is_ack_pending service news p q) (begun_open t.name begun) j) (bare_segment server q)
    (passed delta q (tcp_out news p q t) ++ (if repeats news p then syn_ack server q ∷ [] else [])))
    ∙ by_news service server boot delta news p q sent (passed delta q (tcp_out news p q t)) later keeps few rest l same

-- what TCP is before and after its user's calls
pub record IsServed {S : Type 0} (service : Machine S) (u i delta given given' : ℕ) (news : News) (p q : Point) (old new : NorthState S) (calls : List Call) (e : Tcb) : Type 0 where
  pub before : PartsStand service u i delta given p old e
  pub fits : NewsFit p news
  pub later : IsLater news p
  pub unreset_then : reset_after news p ≡ false
  pub above_u : u ≤ released service q
  pub by : FedBy service u i q given' new calls (arrived (news_inside delta p news) e)
  pub north : NorthStands service q given' new

-- TCP after it, and what leaves
record IsDone {S : Type 0} (service : Machine S) (server : Addr) (u i delta : ℕ) (news : News) (p q : Point) (w : Tcb) : Type 0 where
  tcp : StandsOpen u i delta q (flushed w) ⊎ StandsClosed service u i delta q (flushed w)
  segments : leaves_with service server delta news p q w ≡ segments_of service server news p q
  closed : is_closed w.name ≡ true → (p.syn_acked ≡ true) × (taken_units q ≡ taken_units p)

done_open : {S : Type 0} (service : Machine S) (boot u i delta given given' : ℕ) (news : News) (p q : Point) (old new : NorthState S) (calls : List Call) (e : Tcb) (sent : List Packet) (b : Bool)
    → IsServed service u i delta given given' news p q old new calls e → LiveTurn service e.local boot news p q sent → StandsOpen u i delta p e
    → has_begun (before_flush (news_inside delta p news) calls e).name ≡ b
    → IsDone service e.local u i delta news p q (before_flush (news_inside delta p news) calls e)
done_open service boot u i delta given given' news p q old new calls e sent true s l st begun =
    let inner : News = news_inside delta p news in
    let t : TurnsInside service u i delta news p q calls e =
    turns_inside service boot u i delta news p q calls e sent st.stands (record { fits = s.fits; later = s.later; given = s.above_u; few = s.before.north.fetched; goes = l })
    (record { may = s.by.may; begun = begun; used = s.by.is_used }) in
    record {
      tcp = inl (record { stands = t.stands; named = named_law inner calls e st.stands.begun st.stands.between st.named });
      segments = open_leaves service e.local boot delta news p q sent (before_flush inner calls e) begun s.later st.stands.proceeds.timing s.before.north.fetched s.before.all_sent l t.segments;
      closed = λ h. absurd (false≢true (sym (begun_open (before_flush inner calls e).name begun) ∙ h));
    }
done_open service boot u i delta given given' news p q old new calls e sent false s l st ended =
    let inner : News = news_inside delta p news in
    let w : Tcb = before_flush inner calls e in
    let t : EndsInside service u i delta news p q calls e =
    ends_inside service boot u i delta news p q calls e sent st.stands st.named s.before.unreset s.unreset_then s.before.kept
    (record { fits = s.fits; later = s.later; given = s.above_u; few = s.before.north.fetched; goes = l }) (record { may = s.by.may; ended = ended; used = s.by.is_used }) in
    let none : opens_with news p ≡ false = opens_by_end u i delta p e news calls s.later st.stands.begun s.by.may ended in
    record {
      tcp = inr t.stands;
      segments = closed_leaves service e.local delta news p q w t.taken (sym (flushed_name w) ∙ t.stands.name) (ap (passed delta q) t.silent) (no_repeat news p none) t.segments;
      closed = λ h. (t.syn_acked, t.taken);
    }

done_closed : {S : Type 0} (service : Machine S) (boot u i delta given given' : ℕ) (news : News) (p q : Point) (old new : NorthState S) (calls : List Call) (e : Tcb) (sent : List Packet)
    → IsServed service u i delta given given' news p q old new calls e → LiveTurn service e.local boot news p q sent → StandsClosed service u i delta p e
    → IsDone service e.local u i delta news p q (before_flush (news_inside delta p news) calls e)
done_closed service boot u i delta given given' news p q old new calls e sent s l st =
    let w : Tcb = before_flush (news_inside delta p news) calls e in
    let t : ProceedsClosed service e.local u i delta news p q calls e =
    outlives service e.local boot u i delta news p q calls e sent st l (record { may = s.by.may; read = s.by.is_used.read }) in
    record {
      tcp = inr t.stands;
      segments = closed_leaves service e.local delta news p q w t.taken (sym (flushed_name w) ∙ t.stands.name) t.silent (no_repeat news p (opens_not news p (and_parts p.fin (nat_lt (released service p) p.una) st.over).0 st.syn_acked)) t.segments;
      closed = λ h. (t.syn_acked, t.taken);
    }

finish : {S : Type 0} (service : Machine S) (boot u i delta given given' : ℕ) (news : News) (p q : Point) (ks : List ℕ) (old new : NorthState S) (calls : List Call) (e t : Tcb)
    → t ≡ before_flush (news_inside delta p news) calls e → IsServed service u i delta given given' news p q old new calls e → q.lengths ≡ p.lengths ++ ks
    → LiveTurn service e.local boot news p q (sent_by service e.local boot news p q)
    → PartsTurn service e.local boot u i delta news p ks new t
finish service boot u i delta given given' news p q ks old new calls e t is s lengths l =
    let sent : List Packet = sent_by service e.local boot news p q in
    let w : Tcb = before_flush (news_inside delta p news) calls e in
    let done : IsDone service e.local u i delta news p q w =
    ⊎_elim (λ st. done_open service boot u i delta given given' news p q old new calls e sent (has_begun w.name) s l st refl)
    (λ st. done_closed service boot u i delta given given' news p q old new calls e sent s l st) s.before.tcp in
    subst (λ x. PartsTurn service e.local boot u i delta news p ks new x) (sym is)
    (record {
      after = q;
      given = given';
      lengths = lengths;
      goes = l;
      rest = record {
        stand = record {
          tcp = done.tcp;
          north = s.north;
          feeds = s.by.feeds;
          unreset = l.reset;
          kept = s.by.kept;
          shut = s.by.shut;
          all_sent = all_is_sent service e.local boot news p q sent l;
        };
        no_read = settled_reads service e.local boot news p q sent l;
        exact = s.by.exact;
        all_or_full = s.by.all_or_full;
      };
      segments = done.segments;
      closed = done.closed;
    })

-- TCP once the news have come, at the point that they lead to
record IsAt (u : ℕ) (q : Point) (e m : Tcb) : Type 0 where
  read : max q.fetched (sum q.lengths) ≡ m.receiving.read + q.fetched
  unread : drop (m.receiving.read + q.fetched) q.taken ≡ m.receiving.unread
  fin : q.fin ≡ m.receiving.fin
  long : length q.taken ≡ receiver.taken m.receiving + q.fetched
  bounds : IsBounded m
  last : FinIsLast m.sending
  keeps : KeepsOutput e.sending m.sending
  rises : e.sending.una ≤ m.sending.una
  flight : e.sending.sent ≤ e.sending.una + length e.sending.held + one_if e.sending.fin_sent
  kept : m.reset ≡ false
  enough : sum q.lengths ≤ length q.taken

at_open : {S : Type 0} (service : Machine S) (u i delta given : ℕ) (news : News) (p b : Point) (n : NorthState S) (e : Tcb) → PartsStand service u i delta given p n e → NewsFit p news
    → reset_after news p ≡ false → b.taken ≡ taken_after news p → b.fin ≡ fin_after news p → b.lengths ≡ p.lengths → b.fetched ≡ p.fetched
    → StandsOpen u i delta p e → IsAt u b e (arrived (news_inside delta p news) e)
at_open service u i delta given news p b n e stand fits off taken fin lengths fetched st =
    let inner : News = news_inside delta p news in
    let m : Tcb = arrived inner e in
    let usual : IsUsualNews inner e = usual_news u i delta p e news st.stands.proceeds st.stands.stands fits in
    let came : Arrived inner (inside u i p) e m = arrives inner (inside u i p) e st.stands.begun st.stands.between st.stands.stands usual in
    let moves : Moves news p u i inner = moves_inside_all u i delta p news st.stands.proceeds fits in
    let r = came.receives in
    let taken_is : taken_after inner (inside u i p) ≡ b.taken = moves.taken ∙ sym taken in
    let long : length b.taken ≡ receiver.taken m.receiving + b.fetched = ap length (sym taken_is) ∙ r.long ∙ ap (λ k. receiver.taken m.receiving + k) (sym fetched) in
    let read : max b.fetched (sum b.lengths) ≡ m.receiving.read + b.fetched = (λ j. max (fetched j) (sum (lengths j))) ∙ r.read ∙ ap (λ k. m.receiving.read + k) (sym fetched) in
    record {
      read = read;
      unread = (λ j. drop (m.receiving.read + fetched j) (sym taken_is j)) ∙ r.unread;
      fin = fin ∙ sym moves.fin ∙ r.fin;
      long = long;
      bounds = came.bounds;
      last = came.fin_last;
      keeps = news_keep inner e st.stands.begun st.stands.between.bounds usual;
      rises = came.una;
      flight = st.stands.between.bounds.flight;
      kept = reset_law inner [] e st.stands.begun ∙ (λ j. stand.kept j || unreset u i delta p e news st.stands stand.unreset fits off j);
      enough = omega (arith, long, read);
    }

at_closed : {S : Type 0} (service : Machine S) (u i delta given : ℕ) (news : News) (p b : Point) (n : NorthState S) (e : Tcb) → PartsStand service u i delta given p n e
    → b.taken ≡ taken_after news p → b.fin ≡ fin_after news p → b.lengths ≡ p.lengths → b.fetched ≡ p.fetched
    → StandsClosed service u i delta p e → IsAt u b e (arrived (news_inside delta p news) e)
at_closed service u i delta given news p b n e stand taken fin lengths fetched st =
    let inner : News = news_inside delta p news in
    let m : Tcb = arrived inner e in
    let s : IsStill e m = still inner e st.name in
    let over : p.fin ≡ true = (and_parts p.fin (nat_lt (released service p) p.una) st.over).0 in
    let r = st.receives in
    let behind : HoldsBehind p = behind_at p e r st.bounds in
    let taken_is : b.taken ≡ p.taken = taken ∙ taken_stays news p behind over in
    let long : length b.taken ≡ receiver.taken m.receiving + b.fetched = ap length taken_is ∙ r.long ∙ (λ j. receiver.taken (sym s.receiving j) + sym fetched j) in
    let read : max b.fetched (sum b.lengths) ≡ m.receiving.read + b.fetched =
    (λ j. max (fetched j) (sum (lengths j))) ∙ r.read ∙ (λ j. (sym s.receiving j).read + sym fetched j) in
    record {
      read = read;
      unread = (λ j. drop ((s.receiving j).read + fetched j) (taken_is j)) ∙ r.unread ∙ (λ j. (sym s.receiving j).unread);
      fin = fin ∙ fin_stays news p behind over ∙ sym over ∙ r.fin ∙ (λ j. (sym s.receiving j).fin);
      long = long;
      bounds = s.bounds st.bounds;
      last = s.last st.fin_last;
      keeps = s.keeps;
      rises = omega (arith, s.una);
      flight = st.bounds.flight;
      kept = s.kept ∙ stand.kept;
      enough = omega (arith, long, read);
    }

pub turns_together : {S : Type 0} (service : Machine S) (boot u i delta given : ℕ) (news : News) (p : Point) (old new : NorthState S) (reads : List ReadRecord) (e t : Tcb)
    → PartsStand service u i delta given p old e → NewsFit p news → IsLater news p → reset_after news p ≡ false
    → NorthTurns service.after tcp_reader tcp_writer (acknowledged_after news p) (north_after_news news old) (arrived (news_inside delta p news) e) reads new t → new.run.made ≤ 2 ^ 24
    → PartsTurn service e.local boot u i delta news p (lengths_of reads) new t
turns_together service boot u i delta given news p old new reads e t st fits later off turns few =
    let ks : List ℕ = lengths_of reads in
    let q : Point = settled service news p (p.lengths ++ ks) in
    let b : Point = reading p.lengths q in
    let m : Tcb = arrived (news_inside delta p news) e in
    let at : IsAt u b e m =
    ⊎_elim (λ o. at_open service u i delta given news p b old e st fits off refl refl refl refl o) (λ c. at_closed service u i delta given news p b old e st refl refl refl refl c) st.tcp in
    let enough : sum p.lengths ≤ length p.taken = st.north.enough in
    let run : RunExtends (answered_run service p) (answered_run service q) = answered_goes service news p q ks enough refl (reads_rise news p) refl in
    let run_b : RunExtends (answered_run service p) (answered_run service b) = answered_goes service news p b [] enough refl (reads_rise news p) (sym (append-nil p.lengths)) in
    let longer : released service p ≤ released service b = prefix_length _ _ run_b.output in
    let north : NorthStands service b given (north_after_news news old) = on_receipt service news p b given old refl refl refl refl st.north in
    let shut : m.sending.closed ≡ (north_after_news news old).shut = at.keeps.closed ∙ st.shut ∙ sym (received_shut news old) in
    let socket : SocketStands b (north_after_news news old) m.receiving.unread m.receiving.fin (is_ended m) = socket_stands b (north_after_news news old) m at.read at.unread at.fin at.kept shut in
    let turn : NorthTurn service tcp_reader tcp_writer b given (north_after_news news old) m reads new t =
    whole_turn service tcp_reader tcp_writer b given (acknowledged_after news p) (north_after_news news old) m reads new t socket_laws north socket refl (omega (arith, longer, st.feeds.low)) turns in
    let most : released service q ≤ 2 ^ 24 =
    (let less : released service q ≤ made service q = prefix_length _ _ (answered_front service q).output in omega (arith, less, turn.stands.run.made, few)) in
    let fed : Feeds service u q given m = fed_arrived service u q given e m at.keeps at.rises at.bounds.order at.flight (fed_later service u p q given e run st.feeds) in
    let by = north_calls_feed service u i given p.lengths q (north_after_news news old) new reads m t (record {
      fed = fed;
      bounds = at.bounds;
      last = at.last;
      kept = at.kept;
      shut = shut;
      taken_is = at.long;
      short = most;
    }) refl north turn in
    let calls : List Call = north_calls (given_text service b (write_room m) given) turn.closes (off_socket (length (north_after_news news old).rest) ks) in
    finish service boot u i delta given (given + given_more service b (write_room m) given) news p q ks old new calls e t by.0 (record {
      before = st;
      fits = fits;
      later = later;
      unreset_then = off;
      above_u = from_start u given (bytes_end e.sending) (released service q) st.feeds.until fed.low;
      by = by.1;
      north = turn.stands;
    }) refl (goes service e.local boot news p ks turn.makes)

-- a tick
held_ticked : (s : Sending) (b : Bool) (c : Congestion) (t w : Timing)
    → (if b then record s { congestion = c; timing = t; interval = min 64 (2 * s.interval); rest = min 64 (2 * s.interval) }
    else record s { timing = w; rest = s.rest - 1 }).held ≡ s.held
held_ticked s true c t w = refl
held_ticked s false c t w = refl

tick_holds : (e : Tcb) → (after_tick e).sending.held ≡ e.sending.held
unfolding after_tick timer_ticked waited
tick_holds e = held_ticked e.sending (expires e.sending) (congestion_expired e.sending) _ _

no_more : {S : Type 0} (service : Machine S) (p : Point) (lengths : List ℕ) → next_read service p ≡ None → Makes service (reading p.lengths (settled service Ticks p lengths)) []
unfolding taken_after fin_after acknowledged_after reads_answered_after next_length may_read
no_more service p lengths h = h

same_run : {S : Type 0} (service : Machine S) (p : Point) → answered_run service (settled service Ticks p (p.lengths ++ [])) ≡ answered_run service p
unfolding taken_after reads_answered_after
same_run service p = ap (λ l. reference service p.taken (take p.reads_answered l)) (append-nil p.lengths)

same_made : {S : Type 0} (service : Machine S) (p : Point) → made service (settled service Ticks p (p.lengths ++ [])) ≡ made service p
unfolding taken_after
same_made service p = ap (λ l. length (reference service p.taken l).output) (append-nil p.lengths)

still_live : (p : Point) → p.reset ≡ false → reset_after Ticks p ≡ false
unfolding reset_after
still_live p h = h

pub ticks_together : {S : Type 0} (service : Machine S) (boot u i delta given : ℕ) (p : Point) (n : NorthState S) (e : Tcb) → PartsRest service u i delta given p n e
    → PartsTurn service e.local boot u i delta Ticks p [] n (after_tick e)
ticks_together service boot u i delta given p n e r =
    let st : PartsStand service u i delta given p n e = r.stand in
    let q : Point = settled service Ticks p (p.lengths ++ []) in
    let b : Point = reading p.lengths q in
    let m : Tcb = after_tick e in
    let off : reset_after Ticks p ≡ false = still_live p st.unreset in
    let at : IsAt u b e m =
    ⊎_elim (λ o. at_open service u i delta given Ticks p b n e st tt off refl refl refl refl o) (λ c. at_closed service u i delta given Ticks p b n e st refl refl refl refl c) st.tcp in
    let run : answered_run service q ≡ answered_run service p = same_run service p in
    let released_is : released service p ≡ released service q = ap (λ x. length x.output) (sym run) in
    let proceeds : RunExtends (answered_run service p) (answered_run service q) = subst (RunExtends (answered_run service p)) (sym run) (goes_refl (answered_run service p)) in
    let fed : Feeds service u q given m = fed_arrived service u q given e m at.keeps at.rises at.bounds.order at.flight (fed_later service u p q given e proceeds st.feeds) in
    let shut : m.sending.closed ≡ n.shut = at.keeps.closed ∙ st.shut in
    let exact : n.shut ≡ is_all_given service q given = r.exact ∙ sym (λ j. (run j).closed && same_made service p j == given) in
    let full : (given ≡ released service q) ⊎ (length m.sending.held ≡ 65535) =
    ⊎_elim (λ g. inl (g ∙ released_is)) (λ h. inr (ap length (tick_holds e) ∙ h)) r.all_or_full in
    let read : max q.fetched (sum q.lengths) ≡ m.receiving.read + q.fetched = ap (λ l. max q.fetched (sum l)) (append-nil p.lengths) ∙ at.read in
    finish service boot u i delta given given Ticks p q [] n n [] e m refl (record {
      before = st;
      fits = tt;
      later = tt;
      unreset_then = off;
      above_u = from_start u given (bytes_end e.sending) (released service q) st.feeds.until fed.low;
      by = record {
        may = tt;
        is_used = used_inside service u i q given m fed (record { closed_is = shut ∙ exact; all_or_full = full }) read;
        feeds = fed_flushed service u q given m at.bounds fed;
        kept = flushed_reset m ∙ at.kept;
        shut = flush_keeps (λ (s : Sending). s.closed) m (record { sends = λ s n. refl; ends = λ s. refl; times = λ s t x y. refl }) ∙ shut;
        exact = exact;
        all_or_full = full_flushed service q given m full;
      };
      north = on_receipt service Ticks p q given n refl (append-nil p.lengths) refl refl st.north;
    }) refl (goes service e.local boot Ticks p [] (no_more service p (p.lengths ++ []) r.no_read))

-- at a tick no ACK waits for the log
ticks_delay_none : {S : Type 0} (service : Machine S) (p q : Point) (d : Bool) → p.delays ≡ d → is_ack_pending service Ticks p q ≡ is_ack_due service Ticks p q
unfolding is_ack_pending is_delayed
ticks_delay_none service p q false on = ap (λ d. not (is_delayed Ticks (record p { delays = d }) q) && is_ack_due service Ticks p q) on
ticks_delay_none service p q true on = ap (λ d. not (is_delayed Ticks (record p { delays = d }) q) && is_ack_due service Ticks p q) on

-- at a tick nothing is pending besides
ticks_need_no_ack : {S : Type 0} (service : Machine S) (server : Addr) (boot : ℕ) (p q : Point) (sent : List Packet) → LiveTurn service server boot Ticks p q sent → q.lengths ≡ p.lengths ++ []
    → is_ack_pending service Ticks p q ≡ false
unfolding is_ack_due answered_after taken_after fin_after
ticks_need_no_ack service server boot p q sent l lengths =
    ticks_delay_none service p q p.delays refl
    ∙ (λ j. ((false || nat_lt p.answered (l.answered j)) || not (taken_units p == taken_units q)) || not (advertised_edge p == advertised_edge q))
    ∙ (λ j. ((false || not_less_itself p.answered j) || not (taken_units p == taken_units q)) || not (advertised_edge p == advertised_edge q))
    ∙ nothing_new p q l.taken l.fin l.same.fetched (lengths ∙ append-nil p.lengths)

pub ticks_add_nothing : {S : Type 0} (service : Machine S) (server : Addr) (boot : ℕ) (p q : Point) (t : Tcb) (sent : List Packet) → LiveTurn service server boot Ticks p q sent
    → q.lengths ≡ p.lengths ++ [] → adds service Ticks p q t ≡ false
unfolding answered_after
ticks_add_nothing service server boot p q t sent l lengths =
    (λ j. (false || nat_lt p.answered (l.answered j)) || (is_closed t.name && is_ack_pending service Ticks p q))
    ∙ (λ j. (false || not_less_itself p.answered j) || and_right (is_closed t.name) (is_ack_pending service Ticks p q) (ticks_need_no_ack service server boot p q sent l lengths) j)
