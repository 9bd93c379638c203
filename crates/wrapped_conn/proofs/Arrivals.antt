-- A turn in which more is known to be logged, and the one in which a connection becomes live at the end of a restart.
use Rattle.std.proofs.Common.{◌≡◌, ℕ, ◌≤◌, ◌+◌, ◌^◌, Bool, true, false, not, List, [], ◌∷◌, max, refl, sym, ap, ap₂, subst, arith, ◌∙◌}
use Rattle.std.specs.Prelude.{◌==◌, ◌&&◌, ◌||◌, nat_lt, if◌then◌else◌}
use Rattle.std.specs.Bool.{MatchBool}
use Rattle.seq_arith.specs.Message.{Kept}
use Rattle.seq_arith.specs.Message.Body.{DoneMsg}
use Rattle.seq_arith.specs.Offset.{one_if}
use Rattle.server_trait.specs.Service.{Machine}
use Rattle.ft_model.specs.Answered.{answered_after}
use Rattle.ft_model.specs.ResetAndEnd.{reset_after, dones as dones_by_law}
use Rattle.ft_model.specs.News.{News}
use Rattle.ft_model.specs.News.News.{Logged, Begins}
use Rattle.ft_model.specs.PendingAck.{is_ack_due}
use Rattle.ft_model.specs.Point.{Point, taken_units, advertised_edge}
use Rattle.ft_model.specs.Sending.{acknowledged_after}
use Rattle.ft_model.specs.Taken.{taken_after, fin_after}
use Rattle.north_wrap.specs.declared.read_record.ReadRecord.{ReadRecord}
use Rattle.north_wrap.specs.NorthState.{lengths_of, answered_on, Turns as NorthTurns}
use Rattle.south_wrap.specs.SouthState.{SouthState}
use Rattle.tcp_endpoint.specs.Output.{flushed, packets}
use Rattle.tcp_endpoint.specs.States.{is_closed}
use Rattle.tcp_endpoint.specs.Tcb.{Tcb}
use Rattle.endpoint_laws.proofs.EndingLaw.{flushed_name}
use Rattle.connection_laws.specs.Traffic.{needs_ack_besides}
use Rattle.connection_laws.specs.Parts.{PartsTurn, adds, north_after_news as received_north}
use Rattle.connection_laws.specs.PointNumbers.{PartsShow}
use Rattle.connection_laws.proofs.PointNumbers.{parts_show}
use Rattle.connection_laws.proofs.Together.{turns_together}
use Rattle.wrapped_conn.specs.ConnState.{ConnState}
use Rattle.connection_laws.specs.OutputFeed.{tcp_reader, tcp_writer}
use Rattle.wrapped_conn.specs.Numbers.{una_units}
use Rattle.wrapped_conn.specs.Arrival.{before_other}
use Rattle.wrapped_conn.specs.Output.{is_ack_pending, tcp_out, leaves, turn_ended}
use Rattle.wrapped_conn.specs.LoggerMessages.{spelled}
use Rattle.wrapped_conn.specs.Turn.{CompletesTurn, Rests, OnReceipt, Starts, with_logged, is_news, served, tcp_used, new_reads}
use Rattle.wrapped_conn.specs.Sound.{IsSound}
use Rattle.wrapped_conn.specs.Refinement.{Keeps, TcpShows, StandsLive, StandsReset, Stands, StandsBefore, Leads}
use Rattle.wrapped_conn.proofs.Ended.{HasNews, carries_on}
use Rattle.wrapped_conn.proofs.NumbersAt.{NumbersAt, numbers_at, una_is}
use Rattle.wrapped_conn.proofs.Copies.{none_of_logged, none_of_begins}
use Rattle.wrapped_conn.proofs.Owing.{due_where_closed}
use Rattle.wrapped_conn.proofs.Waits.{none_delayed}
use Rattle.wrapped_conn.proofs.Receiving.{off_differs, parts_live, parts_reset}
use Rattle.wrapped_conn.proofs.ResetTurn.{reset_point, resets_on}
use Rattle.ft_io.proofs.Choices.{by_cases}

ack_pending_more : (r closed taken e : Bool) → (closed ≡ true → taken ≡ false) → (r || (closed && (false || e))) ≡ ((false || r) || (closed && (((false || r) || taken) || e)))
ack_pending_more true closed taken e h = refl
ack_pending_more false false taken e h = refl
ack_pending_more false true taken e h = ap (λ b. b || e) (sym (h refl))

raises : (answered units : ℕ) → nat_lt answered units ≡ nat_lt answered (max answered units)
raises answered units = grind arith

abbrev reported : {S : Type 0} → Kept → ConnState S → ConnState S
reported kept c = with_logged kept.length kept.fin kept.reads c

ack_pending_is : {S : Type 0} (service : Machine S) (p q : Point) (t : Tcb) (c new : ConnState S) (kept : Kept) → NumbersAt service p c → NumbersAt service q new
    → new.endpoint.name ≡ t.name → c.south.answered ≡ p.answered → q.answered ≡ max p.answered (kept.length + one_if kept.fin) → (is_closed t.name ≡ true → (p.syn_acked ≡ true) × (taken_units q ≡ taken_units p))
    → is_ack_pending (before_other (is_news kept.length kept.fin c) (reported kept c)) new ≡ adds service (Logged kept) p q t
unfolding is_ack_due answered_on
ack_pending_is service p q t c new kept n m name answered after closed =
    let more : is_news kept.length kept.fin c ≡ nat_lt p.answered q.answered =
    (λ j. nat_lt (answered j) (kept.length + one_if kept.fin)) ∙ raises p.answered (kept.length + one_if kept.fin) ∙ (λ j. nat_lt p.answered (sym after j)) in
    (λ j. more j || (is_closed (name j) && (false || not (n.edge j == m.edge j))))
    ∙ ack_pending_more (nat_lt p.answered q.answered) (is_closed t.name) (not (taken_units p == taken_units q)) (not (advertised_edge p == advertised_edge q)) (λ h. off_differs (taken_units p) (taken_units q) (sym (closed h).1))
    ∙ ap (λ b. needs_ack_besides service (Logged kept) p q || b) (due_where_closed service (Logged kept) p q (is_closed t.name) (λ h. (closed h).1))

has_received : {S : Type 0} (service : Machine S) (p : Point) (c : ConnState S) (kept : Kept) → Keeps p c → c.endpoint.local ≡ c.local → p.reset ≡ false → HasNews (Logged kept) p (reported kept c)
unfolding answered_after taken_after fin_after acknowledged_after
has_received service p c kept keeps local unreset = record {
  key = keeps.key;
  south = λ j. record (keeps.south j) { answered = max (keeps.south j).answered (kept.length + one_if kept.fin) };
  fetched = keeps.fetched;
  end_ticks = keeps.end_ticks;
  four = keeps.four;
  reset = keeps.reset ∙ unreset;
  unanswered = keeps.unanswered;
  delays = keeps.delays;
  batches = keeps.batches;
  local = local;
}

live_turn : {S : Type 0} (service : Machine S) (p : Point) (c new : ConnState S) (kept : Kept) (out messages : List (List ℕ)) → IsSound c → IsSound new → Keeps p c → StandsLive service p c
    → p.reset ≡ false → CompletesTurn service.after (before_other (is_news kept.length kept.fin c) (reported kept c)) false [] (reported kept c) new out messages
    → Leads service c.local c.boot (Logged kept) p new out messages
unfolding answered_after acknowledged_after reset_after
live_turn service p c new kept out messages sound sound_new keeps live unreset k =
    let news : News = Logged kept in
    let there : ConnState _ = reported kept c in
    let reads : List ReadRecord = new_reads there new in
    let t : Tcb = tcp_used there reads in
    let stand = live.parts.stand in
    let shown : PartsShow service c.south.delta p c.north c.endpoint = parts_show service live.u live.i c.south.delta live.given p c.north c.endpoint stand in
    let una : una_units there ≡ p.una = una_is service p c shown (ap (λ (s : SouthState). s.sisn) keeps.south) sound.parts.made in
    let turns : NorthTurns service.after tcp_reader tcp_writer (acknowledged_after news p) (received_north news c.north) c.endpoint reads new.north t =
    subst (λ n. NorthTurns service.after tcp_reader tcp_writer n there.north c.endpoint reads new.north t) una k.north in
    let turn : PartsTurn service c.endpoint.local c.boot live.u live.i c.south.delta news p (lengths_of reads) new.north t =
    turns_together service c.boot live.u live.i c.south.delta live.given news p c.north new.north reads c.endpoint t stand tt tt unreset turns sound_new.parts.made in
    let here : PartsTurn service c.local c.boot live.u live.i c.south.delta news p (lengths_of reads) new.north t =
    subst (λ a. PartsTurn service a c.boot live.u live.i c.south.delta news p (lengths_of reads) new.north t) live.local turn in
    let q : Point = here.after in
    let ack_pending : PartsShow service c.south.delta q new.north (flushed t) → is_ack_pending (before_other (is_news kept.length kept.fin c) there) (turn_ended (served new.north reads there)) ≡ adds service news p q t = λ after.
    ack_pending_is service p q t c (turn_ended (served new.north reads there)) kept (numbers_at service c.south.delta p c shown keeps.fetched stand.north.read)
    (numbers_at service c.south.delta q (turn_ended (served new.north reads there)) after (keeps.fetched ∙ sym here.goes.same.fetched) here.rest.stand.north.read) (flushed_name t)
    (ap (λ (s : SouthState). s.answered) keeps.south) here.goes.answered here.closed in
    let goes_out = subst (λ (n : ConnState _). out ≡ packets (leaves (before_other (is_news kept.length kept.fin c) there) false n
    (tcp_out (before_other (is_news kept.length kept.fin c) there) (served new.north reads there)))) k.state k.goes_out in
    let leads : Leads service c.local c.boot news p (turn_ended (served new.north reads there)) out messages =
    carries_on service live.u live.i news p there new.north reads (before_other (is_news kept.length kept.fin c) there) false [] out messages (has_received service p c kept keeps live.local unreset) refl unreset
    sound_new.parts.made here there.north.reads k.north.reported ack_pending
    (λ shown. none_delayed news p q (before_other (is_news kept.length kept.fin c) there) (served new.north reads there) refl refl) refl (sym (none_of_logged kept p q)) goes_out k.reported in
    subst (λ n. Leads service c.local c.boot news p n out messages) (sym k.state) leads

rests_turn : {S : Type 0} (service : Machine S) (p : Point) (c new : ConnState S) (kept : Kept) (out messages : List (List ℕ)) → Keeps p c → StandsReset service p c → p.reset ≡ true
    → Rests (reported kept c) new out messages → Leads service c.local c.boot (Logged kept) p new out messages
unfolding answered_after reset_after dones_by_law answered_on
rests_turn service p c new kept out messages keeps stands is_reset k =
    resets_on service c.local c.boot stands.given (Logged kept) p c.north new out messages is_reset stands.north (ap (λ (n : ConnState _). n.north) k.state)
    (subst (Keeps (reset_point (Logged kept) p)) (sym k.state)
    (record {
      key = keeps.key;
      south = λ j. record (keeps.south j) { answered = max (keeps.south j).answered (kept.length + one_if kept.fin) };
      fetched = keeps.fetched;
      end_ticks = keeps.end_ticks;
      four = keeps.four;
      reset = keeps.reset ∙ is_reset;
      unanswered = keeps.unanswered;
      delays = keeps.delays;
      batches = keeps.batches;
    }))
    (subst (TcpShows (reset_point (Logged kept) p)) (sym k.state) (record { taken = stands.reported.taken; una = stands.reported.una; sent = stands.reported.sent }))
    k.goes_out
    (k.reported ∙ ap₂ (λ b xs. spelled b c.boot xs) keeps.batches (sym (λ j. if (true && not (is_reset j)) || (false && (true || p.end_ticks == 4)) then DoneMsg p.key ∷ [] else [])))

pub on_receipt : {S : Type 0} (service : Machine S) (p : Point) (c new : ConnState S) (kept : Kept) (out messages : List (List ℕ)) → IsSound c → IsSound new → Stands service c p
    → OnReceipt service.after kept.length kept.fin kept.reads c new out messages → Leads service c.local c.boot (Logged kept) p new out messages
on_receipt service p c new kept out messages sound sound_new st r =
    by_cases c.reset
    (λ on. let is_reset : p.reset ≡ true = sym st.keeps.reset ∙ on in rests_turn service p c new kept out messages st.keeps (parts_reset service c p st is_reset) is_reset
    (subst (λ b. MatchBool b (Rests (reported kept c) new out messages)
    (CompletesTurn service.after (before_other (is_news kept.length kept.fin c) (reported kept c)) false [] (reported kept c) new out messages)) on r))
    (λ off. let unreset : p.reset ≡ false = sym st.keeps.reset ∙ off in live_turn service p c new kept out messages sound sound_new st.keeps (parts_live service c p st unreset) unreset
    (subst (λ b. MatchBool b (Rests (reported kept c) new out messages)
    (CompletesTurn service.after (before_other (is_news kept.length kept.fin c) (reported kept c)) false [] (reported kept c) new out messages)) off r))

-- it becomes live
has_begun : {S : Type 0} (p : Point) (c : ConnState S) → Keeps p c → c.endpoint.local ≡ c.local → p.reset ≡ false → HasNews Begins p c
unfolding answered_after taken_after fin_after acknowledged_after
has_begun p c keeps local unreset = record {
  key = keeps.key;
  south = keeps.south;
  fetched = keeps.fetched;
  end_ticks = keeps.end_ticks;
  four = keeps.four;
  reset = keeps.reset ∙ unreset;
  unanswered = keeps.unanswered;
  delays = keeps.delays;
  batches = keeps.batches;
  local = local;
}

pub begins_with : {S : Type 0} (service : Machine S) (u i : ℕ) (p : Point) (c new : ConnState S) (out messages : List (List ℕ)) → Keeps p c → c.endpoint.local ≡ c.local → p.reset ≡ false
    → new.north.run.made ≤ 2 ^ 24
    → PartsTurn service c.local c.boot u i c.south.delta Begins p (lengths_of (new_reads c new)) new.north (tcp_used c (new_reads c new))
    → CompletesTurn service.after (before_other true c) false [] c new out messages → Leads service c.local c.boot Begins p new out messages
unfolding reset_after
begins_with service u i p c new out messages keeps local unreset made here k =
    let reads : List ReadRecord = new_reads c new in
    let t : Tcb = tcp_used c reads in
    let goes_out = subst (λ (n : ConnState _). out ≡ packets (leaves (before_other true c) false n (tcp_out (before_other true c) (served new.north reads c)))) k.state k.goes_out in
    let leads : Leads service c.local c.boot Begins p (turn_ended (served new.north reads c)) out messages =
    carries_on service u i Begins p c new.north reads (before_other true c) false [] out messages (has_begun p c keeps local unreset) refl unreset made here c.north.reads k.north.reported (λ shown. refl)
    (λ shown. none_delayed Begins p here.after (before_other true c) (served new.north reads c) refl refl) refl (sym (none_of_begins p here.after))
    goes_out k.reported in
    subst (λ n. Leads service c.local c.boot Begins p n out messages) (sym k.state) leads

pub starts : {S : Type 0} (service : Machine S) (p : Point) (c new : ConnState S) (out messages : List (List ℕ)) → IsSound c → IsSound new → StandsBefore service c p
    → Starts service.after c new out messages → Leads service c.local c.boot Begins p new out messages
unfolding acknowledged_after reset_after
starts service p c new out messages sound sound_new st k =
    let reads : List ReadRecord = new_reads c new in
    let t : Tcb = tcp_used c reads in
    let keeps = st.keeps in
    let shown : PartsShow service c.south.delta p c.north c.endpoint = parts_show service st.u st.i c.south.delta st.given p c.north c.endpoint st.parts in
    let una : una_units c ≡ p.una = una_is service p c shown (ap (λ (s : SouthState). s.sisn) keeps.south) sound.parts.made in
    let turns : NorthTurns service.after tcp_reader tcp_writer p.una c.north c.endpoint reads new.north t = subst (λ n. NorthTurns service.after tcp_reader tcp_writer n c.north c.endpoint reads new.north t) una k.north in
    let turn : PartsTurn service c.endpoint.local c.boot st.u st.i c.south.delta Begins p (lengths_of reads) new.north t =
    turns_together service c.boot st.u st.i c.south.delta st.given Begins p c.north new.north reads c.endpoint t st.parts tt st.syn_acked st.parts.unreset turns sound_new.parts.made in
    begins_with service st.u st.i p c new out messages keeps st.local st.parts.unreset sound_new.parts.made
    (subst (λ a. PartsTurn service a c.boot st.u st.i c.south.delta Begins p (lengths_of reads) new.north t) st.local turn) k
