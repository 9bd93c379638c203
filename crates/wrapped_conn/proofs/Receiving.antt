-- A segment's turn.
use Rattle.std.proofs.Common.{◌≡◌, ℕ, ◌≤◌, ◌+◌, ◌^◌, Bool, true, false, not, List, [], ◌∷◌, length, drop, max, refl, sym, ap, ap₂, subst, arith, ◌∙◌}
use Rattle.std.specs.Prelude.{◌==◌, ◌&&◌, ◌||◌, nat_lt, pos, if◌then◌else◌}
use Rattle.std.specs.Bool.{MatchBool}
use Rattle.tcp_rules.specs.Arrival.{int_eq}
use Rattle.seq_arith.specs.Offset.{first_of}
use Rattle.seq_arith.specs.Packet.{Segment, has_rst}
use Rattle.seq_arith.specs.Message.Body.{DoneMsg}
use Rattle.server_trait.specs.Service.{Machine}
use Rattle.ft_model.specs.Answered.{answered_after}
use Rattle.ft_model.specs.Copy.{copies as copies_by_law}
use Rattle.ft_model.specs.ResetAndEnd.{reset_after, dones as dones_by_law}
use Rattle.ft_model.specs.News.{News}
use Rattle.ft_model.specs.News.News.{Comes, Begins}
use Rattle.ft_model.specs.PendingAck.{is_ack_due, is_delayed as is_delayed_by_law, needs_ack as needs_ack_by_law}
use Rattle.ft_model.specs.Point.{Point, taken_units, advertised_edge, is_over}
use Rattle.ft_model.specs.Sending.{acknowledged_after}
use Rattle.ft_model.specs.Taken.{accepts}
use Rattle.ft_model.specs.Timestamps.{is_timely as timely_by_law}
use Rattle.tcp_rules.specs.Timestamping.{echo_after}
use Rattle.north_wrap.specs.declared.read_record.ReadRecord.{ReadRecord}
use Rattle.north_wrap.specs.NorthState.{lengths_of, Turns as NorthTurns}
use Rattle.south_wrap.specs.SouthState.{SouthState}
use Rattle.south_wrap.specs.Translation.{repeats_syn, inward, is_timely}
use Rattle.south_wrap.specs.SouthPoint.{south_at}
use Rattle.tcp_endpoint.specs.Arrival.{received}
use Rattle.tcp_endpoint.specs.Output.{flushed, packets}
use Rattle.tcp_endpoint.specs.States.{is_closed}
use Rattle.tcp_endpoint.specs.Tcb.{Tcb}
use Rattle.endpoint_laws.specs.Turn as endpoint
use Rattle.connection_laws.specs.Traffic.{news_inside, needs_ack_besides}
use Rattle.connection_laws.specs.Turn.{NewsFit}
use Rattle.connection_laws.specs.Parts.{PartsTurn, adds}
use Rattle.connection_laws.specs.PointNumbers.{PartsShow, NewsShow}
use Rattle.connection_laws.proofs.PointNumbers.{parts_show, news_show}
use Rattle.connection_laws.proofs.Together.{turns_together}
use Rattle.endpoint_laws.proofs.EndingLaw.{flushed_name}
use Rattle.wrapped_conn.specs.ConnState.{ConnState}
use Rattle.connection_laws.specs.OutputFeed.{tcp_reader, tcp_writer}
use Rattle.wrapped_conn.specs.Numbers.{una_units, logged_units, resets, needs_ack}
use Rattle.wrapped_conn.specs.Arrival.{arrived, reached, noted, stamped, before_segment}
use Rattle.wrapped_conn.specs.Output.{is_ack_pending, is_delayed, tcp_out, leaves, turn_ended}
use Rattle.wrapped_conn.specs.LoggerMessages.{copies, spelled}
use Rattle.wrapped_conn.specs.Turn.{CompletesTurn, Rests, ReportsDone, Receives, served, tcp_used, new_reads}
use Rattle.wrapped_conn.specs.Sound.{IsSound}
use Rattle.wrapped_conn.specs.Refinement.{Keeps, TcpShows, StandsLive, StandsReset, Stands, Leads}
use Rattle.wrapped_conn.proofs.Locals.{received_local}
use Rattle.wrapped_conn.proofs.Ended.{HasNews, carries_on}
use Rattle.wrapped_conn.proofs.NumbersAt.{NumbersAt, numbers_at, has_fin_is, una_is, news_una_is, tcp_shows, logged_is}
use Rattle.wrapped_conn.proofs.Owing.{ack_pending_same, due_where_closed, needs_ack_is}
use Rattle.wrapped_conn.proofs.Waits.{delayed_is}
use Rattle.wrapped_conn.proofs.Copies.{copies_is}
use Rattle.wrapped_conn.proofs.ResetTurn.{reset_point, resets_on, dones_are, still_unanswered}
use Rattle.ft_io.proofs.Choices.{by_cases}

-- TCP once the segment has come
abbrev tcp_reached : {S : Type 0} → Segment → Point → ConnState S → Tcb
tcp_reached segment p c = endpoint.arrived (news_inside c.south.delta p (Comes segment)) c.endpoint

reached_by : {S : Type 0} (b : Bool) (s : SouthState) (segment : Segment) (c : ConnState S)
    → (if b then c else record c { endpoint = received c.endpoint (inward s segment) }) ≡ record c { endpoint = endpoint.arrived (if b then Begins else Comes (inward s segment)) c.endpoint }
reached_by true s segment c = refl
reached_by false s segment c = refl

reached_is : {S : Type 0} (segment : Segment) (p : Point) (c : ConnState S) → c.south ≡ south_at c.south.delta p
    → reached segment (stamped segment c) ≡ record (stamped segment c) { endpoint = tcp_reached segment p c }
reached_is segment p c south =
    reached_by (repeats_syn c.south segment) c.south segment (stamped segment c)
    ∙ (λ j. record (stamped segment c) { endpoint = endpoint.arrived (if repeats_syn (south j) segment then Begins else Comes (inward (south j) segment)) c.endpoint })

arrived_local : (b : Bool) (segment : Segment) (e : Tcb) → (endpoint.arrived (if b then Begins else Comes segment) e).local ≡ e.local
arrived_local true segment e = refl
arrived_local false segment e = received_local e segment

reset_is : {S : Type 0} (service : Machine S) (p : Point) (c : ConnState S) (segment : Segment) → NumbersAt service p c → c.south.cisn ≡ p.cisn → p.reset ≡ false → reset_after (Comes segment) p ≡ resets c segment
unfolding reset_after
reset_is service p c segment n cisn unreset =
    (λ j. unreset j || (has_rst segment && int_eq (first_of p.cisn segment) (pos (taken_units p))))
    ∙ sym (λ j. has_rst segment && int_eq (first_of (cisn j) segment) (pos (n.units j)))

-- where the segment has come
abbrev come : {S : Type 0} → Segment → Point → ConnState S → ConnState S
come segment p c = noted (record (stamped segment c) { endpoint = tcp_reached segment p c })

-- its value counts for the wrapper where it does for the law
timely_is : (delta : ℕ) (p : Point) (segment : Segment) → is_timely (south_at delta p) segment ≡ timely_by_law p segment
unfolding timely_by_law accepts
timely_is delta p segment = refl

has_come : {S : Type 0} (service : Machine S) (p : Point) (c : ConnState S) (segment : Segment) → Keeps p c → StandsLive service p c → p.reset ≡ false
    → NewsShow c.south.delta (Comes segment) p c.north (tcp_reached segment p c) → c.north.run.made ≤ 2 ^ 24 → HasNews (Comes segment) p (come segment p c)
unfolding answered_after
has_come service p c segment keeps live unreset shown made =
    let m : Tcb = tcp_reached segment p c in
    let there : ConnState _ = record (stamped segment c) { endpoint = m } in
    record {
      key = keeps.key;
      south = λ j. record (keeps.south j) {
        taken = ((λ k. max (keeps.fetched k) c.north.read + length m.receiving.unread) ∙ sym shown.taken) j;
        fin = (has_fin_is m.name ∙ sym shown.fin) j;
        una = news_una_is (Comes segment) p there shown (ap (λ (s : SouthState). s.sisn) keeps.south) made j;
        timestamping =
            ((λ k. echo_after (keeps.south k).timestamping (is_timely (keeps.south k) segment) segment.head.timestamps)
            ∙ ap (λ b. echo_after p.timestamping b segment.head.timestamps) (timely_is c.south.delta p segment)) j;
      };
      fetched = keeps.fetched;
      end_ticks = keeps.end_ticks;
      four = keeps.four;
      reset = keeps.reset ∙ unreset;
      unanswered = keeps.unanswered;
      delays = keeps.delays;
      batches = keeps.batches;
      local = arrived_local (repeats_syn (south_at c.south.delta p) segment) (inward (south_at c.south.delta p) segment) c.endpoint ∙ live.local;
    }

same_answered : (a b : ℕ) → b ≡ a → nat_lt a b ≡ false
same_answered a b h = grind (arith, h)

pub off_differs : (a b : ℕ) → a ≡ b → not (a == b) ≡ false
off_differs a b h = grind (arith, h)

-- what the connection adds is what the law adds
ack_pending_is : {S : Type 0} (service : Machine S) (p q : Point) (t : Tcb) (c new : ConnState S) (segment : Segment) → NumbersAt service p c → NumbersAt service q new
    → c.south ≡ south_at c.south.delta p → new.endpoint.name ≡ t.name → q.answered ≡ p.answered → (is_closed t.name ≡ true → (p.syn_acked ≡ true) × (taken_units q ≡ taken_units p))
    → is_ack_pending (before_segment c segment) new ≡ adds service (Comes segment) p q t
unfolding is_ack_due
ack_pending_is service p q t c new segment n m south name answered closed =
    (λ j. (n.over j && not (has_rst segment)) || (is_closed (name j) && (needs_ack c segment || not (n.edge j == m.edge j))))
    ∙ ack_pending_same (is_over service p && not (has_rst segment)) (needs_ack c segment) (needs_ack_by_law p segment) (not (advertised_edge p == advertised_edge q)) (is_closed t.name) (nat_lt p.answered q.answered)
    (not (taken_units p == taken_units q)) (same_answered p.answered q.answered answered) (λ h. off_differs (taken_units p) (taken_units q) (sym (closed h).1)) (λ h. needs_ack_is service p c segment n south (closed h).0)
    ∙ ap (λ b. needs_ack_besides service (Comes segment) p q || b) (due_where_closed service (Comes segment) p q (is_closed t.name) (λ h. (closed h).1))

-- a segment that doesn't reset it
live_turn : {S : Type 0} (service : Machine S) (p : Point) (c new : ConnState S) (segment : Segment) (out messages : List (List ℕ)) → IsSound c → IsSound new → Keeps p c → StandsLive service p c
    → p.reset ≡ false → reset_after (Comes segment) p ≡ false → NewsFit p (Comes segment)
    → CompletesTurn service.after (before_segment c segment) (repeats_syn c.south segment) (copies (before_segment c segment) segment (come segment p c)) (come segment p c) new out messages
    → Leads service c.local c.boot (Comes segment) p new out messages
unfolding answered_after
live_turn service p c new segment out messages sound sound_new keeps live unreset off fits k =
    let news : News = Comes segment in
    let there : ConnState _ = come segment p c in
    let reads : List ReadRecord = new_reads there new in
    let t : Tcb = tcp_used there reads in
    let stand = live.parts.stand in
    let reported_before : PartsShow service c.south.delta p c.north c.endpoint = parts_show service live.u live.i c.south.delta live.given p c.north c.endpoint stand in
    let reported : NewsShow c.south.delta news p c.north (tcp_reached segment p c) = news_show service live.u live.i c.south.delta live.given news p c.north c.endpoint stand fits off in
    let made : c.north.run.made ≤ 2 ^ 24 = sound.parts.made in
    let sisn : c.south.sisn ≡ p.sisn = ap (λ (s : SouthState). s.sisn) keeps.south in
    let cisn : c.south.cisn ≡ p.cisn = ap (λ (s : SouthState). s.cisn) keeps.south in
    let h : HasNews news p there = has_come service p c segment keeps live unreset reported made in
    let una : una_units there ≡ acknowledged_after news p = news_una_is news p (record (stamped segment c) { endpoint = tcp_reached segment p c }) reported sisn made in
    let turns : NorthTurns service.after tcp_reader tcp_writer (acknowledged_after news p) c.north (tcp_reached segment p c) reads new.north t =
    subst (λ n. NorthTurns service.after tcp_reader tcp_writer n c.north (tcp_reached segment p c) reads new.north t) una k.north in
    let turn : PartsTurn service c.endpoint.local c.boot live.u live.i c.south.delta news p (lengths_of reads) new.north t =
    turns_together service c.boot live.u live.i c.south.delta live.given news p c.north new.north reads c.endpoint t stand fits tt off turns sound_new.parts.made in
    let here : PartsTurn service c.local c.boot live.u live.i c.south.delta news p (lengths_of reads) new.north t =
    subst (λ a. PartsTurn service a c.boot live.u live.i c.south.delta news p (lengths_of reads) new.north t) live.local turn in
    let q : Point = here.after in
    let numbers : NumbersAt service p c = numbers_at service c.south.delta p c reported_before keeps.fetched stand.north.read in
    let answered : q.answered ≡ p.answered = here.goes.answered in
    let key : there.key ≡ q.key = keeps.key ∙ sym here.goes.same.key in
    let copy : copies (before_segment c segment) segment there ≡ copies_by_law news p q =
    copies_is (before_segment c segment) segment p q there (record {
      cisn = cisn ∙ sym here.goes.same.cisn;
      south_answered = ap (λ (s : SouthState). s.answered) keeps.south ∙ sym answered;
      south_taken = ap (λ (s : SouthState). s.taken) h.south ∙ ap length (sym here.goes.taken);
      south_fin = ap (λ (s : SouthState). s.fin) h.south ∙ sym here.goes.fin;
      key = key;
      taken_before = numbers.bytes;
      fin_before = numbers.fin;
      una_before = una_is service p c reported_before sisn made;
      una = una ∙ sym here.goes.una;
      answered = logged_is c sound.answered ∙ ap (λ (s : SouthState). s.answered) keeps.south ∙ sym answered;
      bytes = ap (λ (s : SouthState). s.taken) h.south ∙ ap length (sym here.goes.taken);
      fin = ap (λ (s : SouthState). s.fin) h.south ∙ sym here.goes.fin;
      unread = (λ j. drop (max (keeps.fetched j) c.north.read) (here.goes.taken j)) ∙ reported.unread;
      behind = omega arith;
      batches = keeps.batches ∙ sym here.goes.same.batches;
    }) in
    let ack_pending : PartsShow service c.south.delta q new.north (flushed t) → is_ack_pending (before_segment c segment) (turn_ended (served new.north reads there)) ≡ adds service news p q t = λ shown.
    ack_pending_is service p q t c (turn_ended (served new.north reads there)) segment numbers
    (numbers_at service c.south.delta q (turn_ended (served new.north reads there)) shown (keeps.fetched ∙ sym here.goes.same.fetched) here.rest.stand.north.read) keeps.south (flushed_name t) answered here.closed in
    let logged : logged_units c ≡ p.answered = logged_is c sound.answered ∙ ap (λ (s : SouthState). s.answered) keeps.south in
    let waits : PartsShow service c.south.delta q new.north (flushed t) → is_delayed (before_segment c segment) (served new.north reads there) ≡ is_delayed_by_law news p q = λ shown.
    delayed_is service live.u live.i c.south.delta p q c (served new.north reads there) segment keeps.delays numbers
    (numbers_at service c.south.delta q (turn_ended (served new.north reads there)) shown (keeps.fetched ∙ sym here.goes.same.fetched) here.rest.stand.north.read) logged (logged ∙ sym answered)
    here.rest.stand.tcp in
    let goes_out = subst (λ (n : ConnState _). out ≡ packets (leaves (before_segment c segment) (repeats_syn c.south segment) n
    (tcp_out (before_segment c segment) (served new.north reads there)))) k.state k.goes_out in
    let leads : Leads service c.local c.boot news p (turn_ended (served new.north reads there)) out messages =
    carries_on service live.u live.i news p there new.north reads (before_segment c segment) (repeats_syn c.south segment) (copies (before_segment c segment) segment there) out messages h refl off sound_new.parts.made here
    there.north.reads k.north.reported ack_pending waits (λ j. repeats_syn (keeps.south j) segment) copy goes_out k.reported in
    subst (λ n. Leads service c.local c.boot news p n out messages) (sym k.state) leads

-- one that resets it
reset_turn : {S : Type 0} (service : Machine S) (p : Point) (c new : ConnState S) (segment : Segment) (out messages : List (List ℕ)) → IsSound c → Keeps p c → StandsLive service p c → p.reset ≡ false
    → reset_after (Comes segment) p ≡ true → ReportsDone (record c { reset = true }) new out messages → Leads service c.local c.boot (Comes segment) p new out messages
unfolding answered_after dones_by_law
reset_turn service p c new segment out messages sound keeps live unreset resets k =
    let shown : PartsShow service c.south.delta p c.north c.endpoint = parts_show service live.u live.i c.south.delta live.given p c.north c.endpoint live.parts.stand in
    let reported : TcpShows p c = tcp_shows service p c shown keeps.fetched live.parts.stand.north.read (ap (λ (s : SouthState). s.sisn) keeps.south) sound.parts.made in
    resets_on service c.local c.boot live.given (Comes segment) p c.north new out messages resets live.parts.stand.north (ap (λ (n : ConnState _). n.north) k.state)
    (subst (Keeps (reset_point (Comes segment) p)) (sym k.state)
    (record {
      key = keeps.key;
      south = keeps.south;
      fetched = keeps.fetched;
      end_ticks = keeps.end_ticks;
      four = keeps.four;
      reset = refl;
      unanswered = still_unanswered c.stage keeps.unanswered;
      delays = keeps.delays;
      batches = keeps.batches;
    }))
    (subst (TcpShows (reset_point (Comes segment) p)) (sym k.state) (record { taken = reported.taken; una = reported.una; sent = reported.sent }))
    k.goes_out
    (k.reported ∙ ap₂ (λ b xs. spelled b c.boot xs) keeps.batches (dones_are (record c { reset = true }) keeps.unanswered ∙ (λ j. DoneMsg (keeps.key j) ∷ []) ∙ sym (λ j. if (true && not (unreset j)) || (false && (true || p.end_ticks == 4)) then DoneMsg p.key ∷ [] else [])))

-- and one that comes after that
rests_turn : {S : Type 0} (service : Machine S) (p : Point) (c new : ConnState S) (segment : Segment) (out messages : List (List ℕ)) → Keeps p c → StandsReset service p c → p.reset ≡ true
    → Rests c new out messages → Leads service c.local c.boot (Comes segment) p new out messages
unfolding answered_after reset_after dones_by_law
rests_turn service p c new segment out messages keeps stands is_reset k =
    resets_on service c.local c.boot stands.given (Comes segment) p c.north new out messages (λ j. is_reset j || (has_rst segment && int_eq (first_of p.cisn segment) (pos (taken_units p)))) stands.north
    (ap (λ (n : ConnState _). n.north) k.state)
    (subst (Keeps (reset_point (Comes segment) p)) (sym k.state)
    (record {
      key = keeps.key;
      south = keeps.south;
      fetched = keeps.fetched;
      end_ticks = keeps.end_ticks;
      four = keeps.four;
      reset = keeps.reset ∙ is_reset;
      unanswered = keeps.unanswered;
      delays = keeps.delays;
      batches = keeps.batches;
    }))
    (subst (TcpShows (reset_point (Comes segment) p)) (sym k.state) (record { taken = stands.reported.taken; una = stands.reported.una; sent = stands.reported.sent }))
    k.goes_out
    (k.reported ∙ ap₂ (λ b xs. spelled b c.boot xs) keeps.batches (sym (λ j. if (true && not (is_reset j)) || (false && (true || p.end_ticks == 4)) then DoneMsg p.key ∷ [] else [])))

pub parts_live : {S : Type 0} (service : Machine S) (c : ConnState S) (p : Point) → Stands service c p → p.reset ≡ false → StandsLive service p c
parts_live service c p st off = subst (λ b. MatchBool b (StandsReset service p c) (StandsLive service p c)) off st.parts

pub parts_reset : {S : Type 0} (service : Machine S) (c : ConnState S) (p : Point) → Stands service c p → p.reset ≡ true → StandsReset service p c
parts_reset service c p st on = subst (λ b. MatchBool b (StandsReset service p c) (StandsLive service p c)) on st.parts

come_is : {S : Type 0} (segment : Segment) (p : Point) (c : ConnState S) → c.south ≡ south_at c.south.delta p → arrived segment c ≡ come segment p c
unfolding arrived
come_is segment p c south = ap (λ x. noted x) (reached_is segment p c south)

pub receives : {S : Type 0} (service : Machine S) (p : Point) (c new : ConnState S) (segment : Segment) (out messages : List (List ℕ)) → IsSound c → IsSound new → Stands service c p
    → NewsFit p (Comes segment) → Receives service.after segment c new out messages → Leads service c.local c.boot (Comes segment) p new out messages
receives service p c new segment out messages sound sound_new st fits r =
    let keeps = st.keeps in
    by_cases c.reset
    (λ on. let off_p : p.reset ≡ true = sym keeps.reset ∙ on in rests_turn service p c new segment out messages keeps (parts_reset service c p st off_p) off_p
    (subst (λ b. MatchBool b (Rests c new out messages)
    (MatchBool (resets c segment) (ReportsDone (record c { reset = true }) new out messages)
    (CompletesTurn service.after (before_segment c segment) (repeats_syn c.south segment) (copies (before_segment c segment) segment (arrived segment c)) (arrived segment c) new out messages))) on r))
    (λ off. let unreset : p.reset ≡ false = sym keeps.reset ∙ off in
    let live : StandsLive service p c = parts_live service c p st unreset in
    let shown : PartsShow service c.south.delta p c.north c.endpoint = parts_show service live.u live.i c.south.delta live.given p c.north c.endpoint live.parts.stand in
    let numbers : NumbersAt service p c = numbers_at service c.south.delta p c shown keeps.fetched live.parts.stand.north.read in
    let same : reset_after (Comes segment) p ≡ resets c segment = reset_is service p c segment numbers (ap (λ (s : SouthState). s.cisn) keeps.south) unreset in
    let later = subst (λ b. MatchBool b (Rests c new out messages)
    (MatchBool (resets c segment) (ReportsDone (record c { reset = true }) new out messages)
    (CompletesTurn service.after (before_segment c segment) (repeats_syn c.south segment) (copies (before_segment c segment) segment (arrived segment c)) (arrived segment c) new out messages))) off r in
    by_cases (resets c segment)
    (λ on. reset_turn service p c new segment out messages sound keeps live unreset (same ∙ on)
    (subst (λ b. MatchBool b (ReportsDone (record c { reset = true }) new out messages)
    (CompletesTurn service.after (before_segment c segment) (repeats_syn c.south segment) (copies (before_segment c segment) segment (arrived segment c)) (arrived segment c) new out messages)) on later))
    (λ none. live_turn service p c new segment out messages sound sound_new keeps live unreset (same ∙ none) fits
    (subst (λ x. CompletesTurn service.after (before_segment c segment) (repeats_syn c.south segment) (copies (before_segment c segment) segment x) x new out messages) (come_is segment p c keeps.south)
    (subst (λ b. MatchBool b (ReportsDone (record c { reset = true }) new out messages)
    (CompletesTurn service.after (before_segment c segment) (repeats_syn c.south segment) (copies (before_segment c segment) segment (arrived segment c)) (arrived segment c) new out messages)) none later))))
