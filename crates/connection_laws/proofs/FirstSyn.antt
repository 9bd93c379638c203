-- A new connection's TCP stands at the point inside from its SYN on, and its SYN-ACK is the law's.
use Rattle.tcp_rules.specs.declared.timestamping.Timestamping.{Timestamping}
use Rattle.std.proofs.Common.{◌≡◌, ℕ, ◌+◌, ◌-◌, ◌^◌, not, List, [], ◌∷◌, ◌++◌, length, min, max, refl, sym, ap, subst, arith, ◌∙◌}
use Rattle.std.specs.Prelude.{◌&&◌, ◌||◌, nat_lt, nat_le, if◌then◌else◌}
use Rattle.ft_io.specs.declared.Addr.{Addr}
use Rattle.tcp_rules.specs.Congestion.{initial_congestion, initial_window}
use Rattle.seq_arith.specs.Message.{Numbers}
use Rattle.seq_arith.specs.Packet.{Segment}
use Rattle.server_trait.specs.Service.{Machine}
use Rattle.tcp_rules.specs.Profile.{Profile}
use Rattle.tcp_rules.specs.Timing.{first_base, initial_timing, with_sent}
use Rattle.ft_model.specs.Answered.{answered_after, reads_answered_after}
use Rattle.ft_model.specs.Connection.{LiveTurn}
use Rattle.ft_model.specs.ResetAndEnd.{end_ticks_after}
use Rattle.ft_model.specs.Network.{Packet}
use Rattle.ft_model.specs.News.News.{Comes, Begins}
use Rattle.ft_model.specs.Opening.{point_opened}
use Rattle.ft_model.specs.Point.{Point, released, target}
use Rattle.ft_model.specs.Segments.{syn_ack, segments_of, full_segments, resent, new_texts, new_fin, new_length, texts, fin_if_closed}
use Rattle.ft_model.specs.Sending.{syn_acked_after, acknowledged_after, edge_after, wl1_after, wl2_after, is_third_duplicate, congestion_after, sent_after, sent_at_once, timing_after, is_partial_ack}
use Rattle.ft_model.specs.Taken.{taken_after, early_after, fin_after}
use Rattle.ft_model.specs.Timer.{timing_noted, must_run, interval_after, rest_after}
use Rattle.tcp_endpoint.specs.Arrival.{received}
use Rattle.tcp_endpoint.specs.Tcb.{Tcb, listening, listening_measuring}
use Rattle.endpoint_laws.specs.Turn.{Call, MayUse, turned, sent_in}
use Rattle.endpoint_laws.specs.Refinement.{BeginsAt, StandsAt, numbers_with, point_begun}
use Rattle.endpoint_laws.proofs.FirstPoint.{begins_law}
use Rattle.endpoint_laws.proofs.EndingLaw.{begun_named_law}
use Rattle.endpoint_laws.proofs.Listening.{listens_at_listen_measuring}
use Rattle.endpoint_laws.proofs.Timings.{initial_keeps}
use Rattle.connection_laws.specs.Inside.{inside, Proceeds}
use Rattle.connection_laws.specs.Traffic.{passed}
use Rattle.connection_laws.specs.FirstSyn.{MayOpen, opened_syn, listens_with, BeginsInside}
use Rattle.connection_laws.proofs.Sent.{same_lengths, nothing_at_once, never, nothing_long}
use Rattle.connection_laws.proofs.Spliced.{size_stays}
use Rattle.connection_laws.proofs.Leaving.{opening_is}
use Rattle.connection_laws.proofs.Again.{none_sent}

-- the point after the turn in which it becomes live
abbrev begun : Profile → Timestamping → Numbers → Point
begun profile timestamping numbers = record (point_opened profile timestamping numbers) { rest = first_base profile.measures }

begun_is : {State : Type 0} (service : Machine State) (profile : Profile) (timestamping : Timestamping) (server : Addr) (boot : ℕ) (numbers : Numbers) (q : Point) (sent : List Packet)
    → LiveTurn service server boot Begins (point_opened profile timestamping numbers) q sent → q ≡ begun profile timestamping numbers
unfolding taken_after early_after fin_after answered_after reads_answered_after syn_acked_after acknowledged_after edge_after wl1_after wl2_after congestion_after sent_after sent_at_once timing_after timing_noted interval_after rest_after must_run end_ticks_after
begun_is service profile timestamping server boot numbers q sent l =
    let lengths : q.lengths ≡ [] = same_lengths service (point_opened profile timestamping numbers) q l.reads (ap length l.taken) l.same.fetched l.fin in
    let sent_is : q.sent ≡ 0 = l.sent_units ∙ (λ j. max 0 (min (target service q) (min (l.edge j) (q.una + q.congestion.cwnd))) + 0) ∙ none_sent (target service q) (q.una + q.congestion.cwnd) in
    let once : max 0 (min (target service q) (min q.edge (q.una + q.congestion.cwnd))) ≡ 0 =
    (λ j. max 0 (min (target service q) (min (l.edge j) (q.una + q.congestion.cwnd)))) ∙ nothing_at_once (target service q) (q.una + q.congestion.cwnd) in
    let timing_is : q.timing ≡ initial_timing profile.measures =
    l.timing ∙ (λ j. if nat_lt 0 (once j) then with_sent (0 + 1 - q.una) (initial_timing profile.measures) else initial_timing profile.measures) in
    let rest_is : q.rest ≡ first_base profile.measures = l.rest ∙ (λ j. if not (l.syn_acked j) || nat_lt q.una (max q.sent (target service q)) then (timing_is j).base else 0) in
    λ j. record {
      key = l.same.key j;
      cisn = l.same.cisn j;
      sisn = l.same.sisn j;
      mss = l.same.mss j;
      fetched = l.same.fetched j;
      fetched_output = l.same.fetched_output j;
      taken = l.taken j;
      fin = l.fin j;
      early = l.early j;
      answered = l.answered j;
      lengths = lengths j;
      reads_answered = l.reads_answered j;
      una = l.una j;
      sent = sent_is j;
      edge = l.edge j;
      wl1 = l.wl1 j;
      wl2 = l.wl2 j;
      congestion = l.congestion j;
      syn_acked = l.syn_acked j;
      timing = timing_is j;
      timestamping = l.timestamping j;
      delays = l.same.delays j;
      batches = l.same.batches j;
      interval = (l.interval ∙ ap (λ t. t.base) timing_is) j;
      rest = rest_is j;
      end_ticks = l.end_ticks j;
      reset = l.reset j;
    }

-- it is the one to which the SYN leads
led_to : (profile : Profile) (timestamping : Timestamping) (local : Addr) (numbers : Numbers) → MayOpen numbers
    → inside 0 numbers.sisn (begun profile timestamping numbers) ≡ point_begun profile.measures [] (numbers_with numbers.cisn numbers.sisn (opened_syn local numbers))
led_to profile timestamping local numbers o =
    λ j. record (inside 0 numbers.sisn (begun profile timestamping numbers)) {
      mss = size_stays numbers.mss o.least o.most j;
      congestion = initial_congestion profile.measures (size_stays numbers.mss o.least o.most j);
    }

proceeds : (profile : Profile) (timestamping : Timestamping) (numbers : Numbers) → MayOpen numbers → Proceeds 0 numbers.sisn 0 (begun profile timestamping numbers)
proceeds profile timestamping numbers o = record {
  shift = refl;
  small = omega arith;
  sisn = o.sisn;
  delta_fits = omega arith;
  i_fits = o.sisn;
  una = omega arith;
  order = omega arith;
  sent = omega arith;
  edge = omega arith;
  wl2 = omega arith;
  timing = initial_keeps profile.measures;
  syn_unacked = λ h. (refl, refl, refl, refl, refl, refl, refl);
}

-- what leaves
syn_ack_alone : {State : Type 0} (service : Machine State) (profile : Profile) (timestamping : Timestamping) (local : Addr) (numbers : Numbers)
    → segments_of service local Begins (point_opened profile timestamping numbers) (begun profile timestamping numbers) ≡ syn_ack local (begun profile timestamping numbers) ∷ []
unfolding segments_of full_segments resent new_texts new_fin is_third_duplicate is_partial_ack sent_at_once
syn_ack_alone service profile timestamping local numbers =
    let p : Point = point_opened profile timestamping numbers in
    let q : Point = begun profile timestamping numbers in
    let once : sent_at_once service p q ≡ 0 = nothing_at_once (target service q) (0 + initial_window numbers.mss) in
    let long : new_length service p q ≡ 0 = (λ j. min (once j) (released service q) - 0) ∙ nothing_long (released service q) in
    (λ j. syn_ack local q ∷ (texts service local q (long j) 0 (long j) ++ (if nat_lt (released service q) (once j) && nat_le 0 (released service q) then fin_if_closed service local q else [])))
    ∙ (λ j. syn_ack local q ∷ (if never (released service q) j && nat_le 0 (released service q) then fin_if_closed service local q else []))

pub begins_inside : {State : Type 0} (service : Machine State) (profile : Profile) (timestamping : Timestamping) (boot : ℕ) (local : Addr) (numbers : Numbers) (q : Point) (calls : List Call) (sent : List Packet) → MayOpen numbers
    → MayUse calls (received (listens_with profile.measures local numbers) (opened_syn local numbers)) → LiveTurn service local boot Begins (point_opened profile timestamping numbers) q sent
    → BeginsInside service profile timestamping local numbers q calls
unfolding listening_measuring listening
begins_inside service profile timestamping boot local numbers q calls sent o may l =
    let e : Tcb = listens_with profile.measures local numbers in
    let syn : Segment = opened_syn local numbers in
    let t : Tcb = turned (Comes syn) calls e in
    let p : Point = point_begun profile.measures [] (numbers_with numbers.cisn numbers.sisn syn) in
    let listens = listens_at_listen_measuring profile.measures local numbers.sisn (2 ^ 24) in
    let b : BeginsAt p e syn calls = begins_law e numbers.sisn (2 ^ 24) numbers.cisn [] syn calls listens refl refl refl may in
    let q_is : q ≡ begun profile timestamping numbers = begun_is service profile timestamping local boot numbers q sent l in
    let at : StandsAt (inside 0 numbers.sisn (begun profile timestamping numbers)) t = subst (λ r. StandsAt r t) (sym (led_to profile timestamping local numbers o)) b.stands in
    let segments : sent_in (Comes syn) calls e ≡ syn_ack local (inside 0 numbers.sisn (begun profile timestamping numbers)) ∷ [] =
    b.segments ∙ ap (λ r. syn_ack local r ∷ []) (sym (led_to profile timestamping local numbers o)) in
    record {
      stands = record {
        begun = b.begun;
        between = b.between;
        stands = subst (λ r. StandsAt (inside 0 numbers.sisn r) t) (sym q_is) at;
        proceeds = subst (Proceeds 0 numbers.sisn 0) (sym q_is) (proceeds profile timestamping numbers o);
      };
      named = begun_named_law e numbers.sisn (2 ^ 24) syn calls listens refl;
      segments = subst (λ r. passed 0 r (sent_in (Comes syn) calls e) ≡ segments_of service local Begins (point_opened profile timestamping numbers) r) (sym q_is)
          (ap (passed 0 (begun profile timestamping numbers)) segments ∙ ap (λ s. s ∷ []) (opening_is local 0 numbers.sisn 0 (begun profile timestamping numbers) refl refl o.sisn) ∙ sym (syn_ack_alone service profile timestamping local numbers));
      alone = subst (λ r. segments_of service local Begins (point_opened profile timestamping numbers) r ≡ syn_ack local r ∷ []) (sym q_is) (syn_ack_alone service profile timestamping local numbers);
    }
