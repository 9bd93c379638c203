-- A tick.
use Rattle.std.proofs.Common.{◌≡◌, ℕ, ◌≤◌, ◌+◌, ◌^◌, Bool, true, false, not, List, [], ◌∷◌, ◌++◌, append-nil, length, sum, min, refl, sym, ap, ap₂, subst, arith, ◌∙◌}
use Rattle.std.specs.Prelude.{◌==◌, ◌&&◌, ◌||◌, nat_lt, nat_le, if◌then◌else◌}
use Rattle.std.specs.Bool.{MatchBool}
use Rattle.seq_arith.specs.Message.Body.{DoneMsg}
use Rattle.seq_arith.specs.Packet.{Segment}
use Rattle.server_trait.specs.Service.{Machine}
use Rattle.ft_model.specs.Answered.{answered_after}
use Rattle.ft_model.specs.Connection.{LiveTurn, ResetTurn, sent_by}
use Rattle.ft_model.specs.Copy.{copies as copies_by_law}
use Rattle.ft_model.specs.ResetAndEnd.{reset_after, end_ticks_after, dones as dones_by_law}
use Rattle.ft_model.specs.News.News.{Ticks}
use Rattle.ft_model.specs.Point.{Point, taken_units, acknowledgement, is_over as is_over_by_law}
use Rattle.ft_model.specs.Reads.{reads_reported, read_messages}
use Rattle.ft_model.specs.PendingAck.{is_delayed}
use Rattle.ft_model.specs.Segments as segments
use Rattle.ft_model.specs.Segments.{segments_of, bare_segment}
use Rattle.ft_model.specs.Sending.{acknowledged_after}
use Rattle.ft_model.specs.Taken.{taken_after, fin_after}
use Rattle.north_wrap.specs.Refinement.{NorthStands, messages_of}
use Rattle.north_wrap.proofs.ReadSequence.{reported_reads}
use Rattle.south_wrap.specs.SouthState.{SouthState}
use Rattle.south_wrap.specs.SouthPoint.{south_at}
use Rattle.tcp_endpoint.specs.Output.{full_out, leaving, flushed, packets}
use Rattle.tcp_endpoint.specs.Tcb.{Tcb}
use Rattle.tcp_endpoint.specs.UserCalls.{after_tick, waited, timer_ticked}
use Rattle.connection_laws.specs.Traffic.{tcp_out}
use Rattle.connection_laws.specs.Parts.{PartsTurn, adds, leaves_with}
use Rattle.connection_laws.proofs.Delaying.{waits_segment}
use Rattle.connection_laws.specs.PointNumbers.{PartsShow}
use Rattle.connection_laws.proofs.PointNumbers.{parts_show}
use Rattle.connection_laws.proofs.Together.{ticks_together, ticks_add_nothing}
use Rattle.wrapped_conn.specs.ConnState.{ConnState}
use Rattle.wrapped_conn.specs.Numbers.{logged_units, sent_units, outer_sent}
use Rattle.wrapped_conn.specs.Output.{passed, with_endpoint_flushed}
use Rattle.wrapped_conn.specs.LoggerMessages.{is_done, dones, spelled, with_done}
use Rattle.wrapped_conn.specs.Turn.{ticked, is_end_tick, counted, TicksLive, ReportsDone, Ticks as TicksOn}
use Rattle.wrapped_conn.specs.Sound.{IsSound}
use Rattle.wrapped_conn.specs.Refinement.{Keeps, TcpShows, StandsLive, StandsReset, Stands, Leads}
use Rattle.wrapped_conn.proofs.Locals.{flushed_local}
use Rattle.wrapped_conn.proofs.Ended.{units_of, few_units, spelled_by}
use Rattle.wrapped_conn.proofs.NumbersAt.{NumbersAt, numbers_at, logged_is}
use Rattle.wrapped_conn.proofs.Copies.{none_of_ticks}
use Rattle.wrapped_conn.proofs.Receiving.{parts_live, parts_reset}
use Rattle.wrapped_conn.proofs.ResetTurn.{reset_point, resets_on, dones_are, still_unanswered}
use Rattle.ft_io.proofs.Choices.{by_cases}

-- the south wrapper after the tick
south_ends : {S : Type 0} (service : Machine S) (p q : Point) (c : ConnState S) → Keeps p c → LiveTurn service c.local c.boot Ticks p q (sent_by service c.local c.boot Ticks p q)
    → q.lengths ≡ p.lengths ++ [] → PartsShow service c.south.delta q c.north (flushed (after_tick c.endpoint)) → c.north.run.made ≤ 2 ^ 24
    → (ticked c).south ≡ south_at c.south.delta q
unfolding answered_after taken_after fin_after acknowledged_after
south_ends service p q c keeps l lengths shown few =
    let sisn : c.south.sisn ≡ q.sisn = ap (λ (s : SouthState). s.sisn) keeps.south ∙ sym l.same.sisn in
    let flushed_now : ConnState _ = with_endpoint_flushed (record c { endpoint = after_tick c.endpoint }) in
    let units : sent_units flushed_now ≡ q.sent = units_of q.sisn c.south.sisn q.sent (outer_sent flushed_now) shown.sent_outside sisn (few_units q.sent c.north.run.made shown.few few) in
    let cisn : c.south.cisn ≡ q.cisn = ap (λ (s : SouthState). s.cisn) keeps.south ∙ sym l.same.cisn in
    let fetched : c.south.fetched ≡ q.fetched = ap (λ (s : SouthState). s.fetched) keeps.south ∙ sym l.same.fetched in
    let fetched_output : c.south.fetched_output ≡ q.fetched_output = ap (λ (s : SouthState). s.fetched_output) keeps.south ∙ sym l.same.fetched_output in
    let taken : c.south.taken ≡ length q.taken = ap (λ (s : SouthState). s.taken) keeps.south ∙ ap length (sym l.taken) in
    let fin : c.south.fin ≡ q.fin = ap (λ (s : SouthState). s.fin) keeps.south ∙ sym l.fin in
    let answered : c.south.answered ≡ q.answered = ap (λ (s : SouthState). s.answered) keeps.south ∙ sym l.answered in
    let read : c.south.read ≡ sum q.lengths = ap (λ (s : SouthState). s.read) keeps.south ∙ sym (ap sum (lengths ∙ append-nil p.lengths)) in
    let una : c.south.una ≡ q.una = ap (λ (s : SouthState). s.una) keeps.south ∙ sym l.una in
    let timestamping : c.south.timestamping ≡ q.timestamping = ap (λ (s : SouthState). s.timestamping) keeps.south ∙ sym l.timestamping in
    λ j. record {
      cisn = cisn j;
      sisn = sisn j;
      delta = c.south.delta;
      fetched = fetched j;
      fetched_output = fetched_output j;
      taken = taken j;
      fin = fin j;
      answered = answered j;
      read = read j;
      una = una j;
      sent = units j;
      timestamping = timestamping j;
    }

-- what leaves is what TCP sends
only_these : (b : Bool) (bare : Segment) (xs : List Segment) → b ≡ false → segments.or_bare b bare (xs ++ []) ≡ xs
only_these b bare [] off = λ j. if off j then bare ∷ [] else []
only_these b bare (x ∷ xs) off = append-nil (x ∷ xs)

leaves_is : {S : Type 0} (service : Machine S) (p q : Point) (c : ConnState S) → (ticked c).south ≡ south_at c.south.delta q → adds service Ticks p q (after_tick c.endpoint) ≡ false
    → passed (ticked c).south (leaving (after_tick c.endpoint)) ≡ leaves_with service c.local c.south.delta Ticks p q (after_tick c.endpoint)
leaves_is service p q c south none =
    let t : Tcb = after_tick c.endpoint in
    let at_once : leaving t ≡ tcp_out Ticks p q t = λ j. if sym (waits_segment (is_delayed Ticks p q) Ticks p q refl refl) j then full_out t else leaving t in
    (λ j. passed (south j) (at_once j))
    ∙ sym (only_these (adds service Ticks p q t) (bare_segment c.local q) (passed (south_at c.south.delta q) (tcp_out Ticks p q t)) none)

-- end ticks are counted as the law counts them
all_logged : (taken answered : ℕ) → nat_le taken answered ≡ (min taken answered == taken)
all_logged taken answered = grind arith

counts : (b : Bool) (n : ℕ) → n ≤ 4 → (if b && nat_lt n 4 then n + 1 else n) ≡ (if b then min 4 (n + 1) else n)
counts false n h = refl
counts true n h = grind (arith, h)

still_four : (b : Bool) (n : ℕ) → n ≤ 4 → (if b && nat_lt n 4 then n + 1 else n) ≤ 4
still_four false n h = h
still_four true n h = grind (arith, h)

end_tick_is : {S : Type 0} (service : Machine S) (q : Point) (x : ConnState S) → NumbersAt service q x → logged_units x ≡ q.answered
    → is_end_tick x ≡ (is_over_by_law service q && acknowledgement q == taken_units q)
end_tick_is service q x n logged = (λ j. n.over j && nat_le (n.units j) (logged j)) ∙ (λ j. is_over_by_law service q && all_logged (taken_units q) q.answered j)

end_ticks_are : {S : Type 0} (service : Machine S) (p q : Point) (x : ConnState S) → NumbersAt service q x → logged_units x ≡ q.answered → x.end_ticks ≡ p.end_ticks → x.end_ticks ≤ 4
    → (counted x).end_ticks ≡ end_ticks_after service Ticks p q
unfolding end_ticks_after
end_ticks_are service p q x n logged same four =
    counts (is_end_tick x) x.end_ticks four ∙ (λ j. if end_tick_is service q x n logged j then min 4 (same j + 1) else same j)

-- all reads that aren't known to be logged are told again, and then Done
reads_are : {S : Type 0} (service : Machine S) (p q : Point) (c : ConnState S) (given : ℕ) → NorthStands service q given c.north → c.key ≡ q.key → messages_of c.key c.north.reads ≡ reads_reported Ticks p q
unfolding reads_reported
reads_are service p q c given north key =
    (λ j. messages_of (key j) c.north.reads) ∙ reported_reads q.key q.reads_answered c.north.reads north.numbered ∙ ap (read_messages q.key q.reads_answered) north.reported

dones_reported : {S : Type 0} (p q : Point) (c : ConnState S) (n : ℕ) → is_done c.stage ≡ false → c.key ≡ q.key → q.reset ≡ false → n ≡ q.end_ticks
    → (if n == 4 then dones c else []) ≡ dones_by_law Ticks p q
unfolding dones_by_law
dones_reported p q c n off key unreset same =
    (λ j. if same j == 4 then dones_are c off j else [])
    ∙ (λ j. if q.end_ticks == 4 then DoneMsg (key j) ∷ [] else [])
    ∙ sym (λ j. if (unreset j && not p.reset) || (true && (unreset j || q.end_ticks == 4)) then DoneMsg q.key ∷ [] else [])

keeps_ended : {S : Type 0} (b : Bool) (q : Point) (x : ConnState S) → Keeps q x → Keeps q (if b then with_done x else x)
keeps_ended false q x k = k
keeps_ended true q x k = record {
  key = k.key;
  south = k.south;
  fetched = k.fetched;
  end_ticks = k.end_ticks;
  four = k.four;
  reset = k.reset;
  unanswered = still_unanswered x.stage k.unanswered;
  delays = k.delays;
  batches = k.batches;
}

live_ended : {S : Type 0} (service : Machine S) (b : Bool) (q : Point) (x : ConnState S) → StandsLive service q x → StandsLive service q (if b then with_done x else x)
live_ended service false q x k = k
live_ended service true q x k = record { u = k.u; i = k.i; given = k.given; parts = k.parts; local = k.local }

tick_local : (e : Tcb) → (after_tick e).local ≡ e.local
unfolding after_tick waited timer_ticked
tick_local e = refl

live_turn : {S : Type 0} (service : Machine S) (p : Point) (c new : ConnState S) (out messages : List (List ℕ)) → IsSound c → Keeps p c → StandsLive service p c → p.reset ≡ false
    → TicksLive c new out messages → Leads service c.local c.boot Ticks p new out messages
unfolding answered_after reset_after
live_turn service p c new out messages sound keeps live unreset tick =
    let t : Tcb = after_tick c.endpoint in
    let turn : PartsTurn service c.endpoint.local c.boot live.u live.i c.south.delta Ticks p [] c.north t = ticks_together service c.boot live.u live.i c.south.delta live.given p c.north c.endpoint live.parts in
    let k : PartsTurn service c.local c.boot live.u live.i c.south.delta Ticks p [] c.north t = subst (λ a. PartsTurn service a c.boot live.u live.i c.south.delta Ticks p [] c.north t) live.local turn in
    let q : Point = k.after in
    let l = k.goes in
    let x : ConnState _ = ticked c in
    let y : ConnState _ = counted x in
    let shown : PartsShow service c.south.delta q c.north (flushed t) = parts_show service live.u live.i c.south.delta k.given q c.north (flushed t) k.rest.stand in
    let made : c.north.run.made ≤ 2 ^ 24 = sound.parts.made in
    let south : x.south ≡ south_at c.south.delta q = south_ends service p q c keeps l k.lengths shown made in
    let key : c.key ≡ q.key = keeps.key ∙ sym l.same.key in
    let numbers : NumbersAt service q x = numbers_at service c.south.delta q x shown (keeps.fetched ∙ sym l.same.fetched) k.rest.stand.north.read in
    let logged : logged_units x ≡ q.answered = logged_is x sound.answered ∙ ap (λ (s : SouthState). s.answered) south in
    let ends : y.end_ticks ≡ q.end_ticks = end_ticks_are service p q x numbers logged keeps.end_ticks keeps.four ∙ sym l.end_ticks in
    let none : adds service Ticks p q t ≡ false = ticks_add_nothing service c.local c.boot p q t _ l k.lengths in
    let leave : passed x.south (leaving t) ≡ segments_of service c.local Ticks p q = leaves_is service p q c south none ∙ k.segments in
    let bodies : messages_of c.key c.north.reads ++ (if y.end_ticks == 4 then dones c else []) ≡ copies_by_law Ticks p q ++ (reads_reported Ticks p q ++ dones_by_law Ticks p q) =
    λ j. sym (none_of_ticks p q) j ++ (reads_are service p q c k.given k.rest.stand.north key j ++ dones_reported p q c y.end_ticks keeps.unanswered key l.reset ends j) in
    let keeps_on : Keeps q y = record {
      key = key;
      south = south;
      fetched = keeps.fetched ∙ sym l.same.fetched;
      end_ticks = ends;
      four = still_four (is_end_tick x) x.end_ticks keeps.four;
      reset = keeps.reset ∙ unreset ∙ sym l.reset;
      unanswered = keeps.unanswered;
      delays = keeps.delays ∙ sym l.same.delays;
      batches = keeps.batches ∙ sym l.same.batches;
    } in
    let live_on : StandsLive service q y = record { u = live.u; i = live.i; given = k.given; parts = k.rest; local = flushed_local t ∙ tick_local c.endpoint ∙ live.local } in
    let leads : Leads service c.local c.boot Ticks p (if y.end_ticks == 4 then with_done y else y) out messages = record {
      after = q;
      sent = sent_by service c.local c.boot Ticks p q;
      goes = subst (λ b. MatchBool b (ResetTurn c.boot Ticks p q (sent_by service c.local c.boot Ticks p q)) (LiveTurn service c.local c.boot Ticks p q (sent_by service c.local c.boot Ticks p q))) (sym unreset) l;
      stands = record {
        keeps = keeps_ended (y.end_ticks == 4) q y keeps_on;
        parts = subst (λ b. MatchBool b (StandsReset service q (if y.end_ticks == 4 then with_done y else y)) (StandsLive service q (if y.end_ticks == 4 then with_done y else y))) (sym l.reset)
            (live_ended service (y.end_ticks == 4) q y live_on);
      };
      spelled = spelled_by p.batches c.boot (segments_of service c.local Ticks p q) (copies_by_law Ticks p q ++ (reads_reported Ticks p q ++ dones_by_law Ticks p q)) _ out messages refl (tick.goes_out ∙ ap packets leave) (tick.reported ∙ ap₂ (λ b xs. spelled b c.boot xs) keeps.batches bodies);
    } in
    subst (λ n. Leads service c.local c.boot Ticks p n out messages) (sym tick.state) leads

reset_turn : {S : Type 0} (service : Machine S) (p : Point) (c new : ConnState S) (out messages : List (List ℕ)) → Keeps p c → StandsReset service p c → p.reset ≡ true
    → ReportsDone c new out messages → Leads service c.local c.boot Ticks p new out messages
unfolding answered_after reset_after dones_by_law
reset_turn service p c new out messages keeps stands is_reset k =
    resets_on service c.local c.boot stands.given Ticks p c.north new out messages is_reset stands.north (ap (λ (n : ConnState _). n.north) k.state)
    (subst (Keeps (reset_point Ticks p)) (sym k.state)
    (record {
      key = keeps.key;
      south = keeps.south;
      fetched = keeps.fetched;
      end_ticks = keeps.end_ticks;
      four = keeps.four;
      reset = keeps.reset ∙ is_reset;
      unanswered = still_unanswered c.stage keeps.unanswered;
      delays = keeps.delays;
      batches = keeps.batches;
    }))
    (subst (TcpShows (reset_point Ticks p)) (sym k.state) (record { taken = stands.reported.taken; una = stands.reported.una; sent = stands.reported.sent }))
    k.goes_out
    (k.reported ∙ ap₂ (λ b xs. spelled b c.boot xs) keeps.batches (dones_are c keeps.unanswered ∙ (λ j. DoneMsg (keeps.key j) ∷ []) ∙ sym (λ j. if (true && not (is_reset j)) || (true && (true || p.end_ticks == 4)) then DoneMsg p.key ∷ [] else [])))

pub ticks : {S : Type 0} (service : Machine S) (p : Point) (c new : ConnState S) (out messages : List (List ℕ)) → IsSound c → Stands service c p
    → TicksOn c new out messages → Leads service c.local c.boot Ticks p new out messages
ticks service p c new out messages sound st r =
    by_cases c.reset
    (λ on. let is_reset : p.reset ≡ true = sym st.keeps.reset ∙ on in reset_turn service p c new out messages st.keeps (parts_reset service c p st is_reset) is_reset
    (subst (λ b. MatchBool b (ReportsDone c new out messages) (TicksLive c new out messages)) on r))
    (λ off. let unreset : p.reset ≡ false = sym st.keeps.reset ∙ off in live_turn service p c new out messages sound st.keeps (parts_live service c p st unreset) unreset
    (subst (λ b. MatchBool b (ReportsDone c new out messages) (TicksLive c new out messages)) off r))
