-- A fresh endpoint to which these segments are forged stands at the point of the entry.
use Rattle.std.proofs.Common.{◌≡◌, ℕ, ◌<◌, ◌≤◌, ◌+◌, ◌-◌, ◌^◌, Bool, true, false, List, [], ◌∷◌, length, take, drop, sum, min, max, refl, sym, ap, subst, arith, inl, ⊎_elim, ◌∙◌, zero, suc, ◌%◌}
use Rattle.std.specs.Prelude.{ℤ, pos, ◌-ℤ◌, ◌≤ℤ◌, ◌==◌, ◌&&◌, if◌then◌else◌, ◌||◌}
use Rattle.std.proofs.lemmas.Int.{ints}
use Rattle.std.proofs.lemmas.Bool.{false≢true}
use Rattle.ft_io.specs.declared.Addr.{Addr}
use Rattle.ft_io.specs.declared.Key.{Key}
use Rattle.seq_arith.specs.Number.{number_at}
use Rattle.tcp_rules.specs.Arrival.{int_eq}
use Rattle.tcp_rules.specs.Congestion.{initial_congestion}
use Rattle.tcp_endpoint.specs.ReceiveHalf.{next}
use Rattle.seq_arith.specs.Packet.{Segment}
use Rattle.seq_arith.proofs.Shifts.{offset_of_number}
use Rattle.server_trait.specs.Service.{Machine}
use Rattle.tcp_rules.specs.Profile.{Profile}
use Rattle.ft_model.specs.Offset.{one_if, first_of, ack_of}
use Rattle.ft_model.specs.Log.{Entry}
use Rattle.ft_model.specs.Point.{Point, answered_run}
use Rattle.ft_model.specs.News.News.{Comes}
use Rattle.ft_model.specs.Restart.{point_of, resumed_at}
use Rattle.tcp_endpoint.specs.States.{has_begun}
use Rattle.tcp_endpoint.specs.SendHalf.{Sending}
use Rattle.tcp_endpoint.specs.Tcb.{Tcb, listening, listening_measuring}
use Rattle.tcp_endpoint.specs.Arrival.{received, begun}
use Rattle.endpoint_laws.specs.Laws.{IsUsual, IsSentBy}
use Rattle.endpoint_laws.specs.Turn.{IsBetweenTurns, turned}
use Rattle.endpoint_laws.specs.ConnectionEnd.{IsNamedRightly}
use Rattle.endpoint_laws.specs.Refinement.{StandsAt, IsUsedAt, LeadsTo, BeginsAt, numbers_with, point_begun}
use Rattle.endpoint_laws.proofs.SendingLaw.{sending_law}
use Rattle.endpoint_laws.proofs.Timings.{itself_less}
use Rattle.endpoint_laws.proofs.Arrivals.{Arrived, arrives}
use Rattle.endpoint_laws.proofs.EndingLaw.{named_law, ending_law, begun_named_law, flushed_name}
use Rattle.endpoint_laws.proofs.TurnEnd.{flush_keeps}
use Rattle.endpoint_laws.proofs.Turns.{leads_law}
use Rattle.endpoint_laws.proofs.Listening.{listens_at_listen_measuring, begun_by}
use Rattle.endpoint_laws.proofs.FirstPoint.{begins_law}
use Rattle.endpoint_laws.proofs.Timings.{initial_keeps}
use Rattle.connection_laws.specs.Inside.{inside}
use Rattle.std.proofs.lemmas.List.{take_all}
use Rattle.server_trait.specs.Service.{reference}
use Rattle.ft_model.specs.Restart.{run_of}
use Rattle.north_wrap.specs.NorthState.{NorthState}
use Rattle.north_wrap.specs.Refinement.{HasReplayed}
use Rattle.north_wrap.proofs.Offline.{begins_here}
use Rattle.endpoint_laws.proofs.EndingLaw.{reset_law}
use Rattle.connection_laws.specs.Inside.{Proceeds}
use Rattle.connection_laws.specs.OutputFeed.{Feeds}
use Rattle.connection_laws.specs.Parts.{PartsStand}
use Rattle.connection_laws.specs.Splice.{delta_from}
use Rattle.connection_laws.proofs.TcpEnd.{flushed_reset}
use Rattle.connection_laws.specs.Splice.{ProceedsFrom, StandsAtEntry, forged_syn, forged_ack, forged_fin, connected_measuring, spliced_measuring}
use Rattle.connection_laws.proofs.Forged.{silent, IsForged, IsFresh, after_forged, forged_laws, run_is}
use Rattle.ft_io.proofs.Choices.{by_cases}
use Rattle.ft_io.proofs.Booleans.{false_by}
use Rattle.ft_io.proofs.Lists.{empty_of_length}

-- nothing is written, and the user hasn't closed
pub record IsIdle (s : Sending) : Type 0 where
  pub held : s.held ≡ []
  pub closed : s.closed ≡ false

-- where an endpoint stands between two forged segments
pub record Stood (p : Point) (e : Tcb) : Type 0 where
  pub begun : has_begun e.name ≡ true
  pub between : IsBetweenTurns e
  pub named : IsNamedRightly e
  pub stands : StandsAt p e
  pub idle : IsIdle e.sending
  pub kept : e.reset ≡ false

none_held : (una una' len len' : ℕ) → una ≡ 0 → len ≡ 0 → una' + len' ≡ max una' (una + len) → len' ≡ 0
none_held una una' len len' a b h = omega (arith, a, b, h)

not_over : (f a b : Bool) → a ≡ false → (f && (a && b)) ≡ true → ⊥
not_over true a b h k = false≢true ((sym (λ j. h j && b)) ∙ k)
not_over false a b h k = false≢true k

usual : (p : Point) (e : Tcb) (segment : Segment) (fin : Bool) → StandsAt p e → IsForged p segment fin → segment.head.seq < 2 ^ 32 → IsUsual e segment
usual p e segment fin st s seq =
    let at : ack_of e.sending.iss segment ≡ pos 0 = ap (λ n. ack_of n segment) (sym st.sends.sisn) ∙ s.back in
    record {
      near = λ h. subst (λ (z : ℤ). (pos 0 -ℤ pos (2 ^ 30 + 2 ^ 24)) ≤ℤ z) (sym at) (omega (arith, ints));
      seq = seq;
      window = omega (arith, s.window);
      text = omega (arith, ap length s.text);
    }

forged_turn : (p : Point) (e : Tcb) (segment : Segment) (fin : Bool) → Stood p e → IsFresh p → IsForged p segment fin → (fin ≡ true → length p.taken < 2 ^ 24)
    → segment.head.seq < 2 ^ 32 → Stood (after_forged fin p) (turned (Comes segment) [] e)
forged_turn p e segment fin t f s few seq =
    let us : IsUsual e segment = usual p e segment fin t.stands s seq in
    let u : Tcb = received e segment in
    let came : Arrived (Comes segment) p e u = arrives (Comes segment) p e t.begun t.between t.stands us in
    let by : IsSentBy e segment u.sending = sending_law e segment t.begun t.between.bounds us in
    let una : e.sending.una ≡ 0 = sym t.stands.sends.una ∙ f.una in
    let held : u.sending.held ≡ [] =
    empty_of_length u.sending.held (none_held e.sending.una u.sending.una (length e.sending.held) (length u.sending.held) una (ap length t.idle.held) by.held) in
    let closed : u.sending.closed ≡ false = by.closed ∙ t.idle.closed in
    let unsent : u.sending.fin_sent ≡ false = false_by u.sending.fin_sent u.sending.closed (λ h. (came.fin_last h).0) closed in
    let laws = forged_laws p segment fin f s few in
    let begun_after : has_begun u.name ≡ true =
    by_cases (has_begun u.name) (λ h. h)
    (λ h. ⊎_elim (λ k. absurd (false≢true (sym ((λ j. s.rst j && int_eq (first_of e.receiving.irs segment) (pos (next e.receiving)))) ∙ k)))
    (λ k. absurd (not_over u.receiving.fin u.sending.fin_sent (u.sending.una == u.sending.sent) unsent k))
    (ending_law (Comes segment) [] e t.begun t.between t.named h)) in
    let una_after : u.sending.una ≡ 0 = sym came.sends.una ∙ sym laws.una ∙ f.una in
    let user : IsUsedAt silent (after_forged fin p) u = record {
      read = came.receives.read;
      output = subst (λ (xs : List ℕ). take (length xs) (drop u.sending.una (answered_run silent (after_forged fin p)).output) ≡ xs) (sym held) refl;
      written = inl (record {
        written = (λ j. length (run_is p f.lengths j).output) ∙ sym (λ j. if unsent j then u.sending.sent - 1 else una_after j + length (held j));
        closed = (λ j. (run_is p f.lengths j).closed) ∙ sym closed;
      });
      answered = omega arith;
    } in
    let led : LeadsTo silent (Comes segment) p (after_forged fin p) e [] =
    leads_law silent (Comes segment) [] p (after_forged fin p) e t.begun t.between t.stands us tt begun_after laws user in
    record {
      begun = ap has_begun (flushed_name u) ∙ begun_after;
      between = led.between;
      named = named_law (Comes segment) [] e t.begun t.between t.named;
      stands = led.stands;
      idle = record {
        held = flush_keeps (λ (q : Sending). q.held) u (record { sends = λ x n. refl; ends = λ x. refl; times = λ x t j r. refl }) ∙ held;
        closed = flush_keeps (λ (q : Sending). q.closed) u (record { sends = λ x n. refl; ends = λ x. refl; times = λ x t j r. refl }) ∙ closed;
      };
      kept = flushed_reset u ∙ reset_law (Comes segment) [] e t.begun ∙ (λ j. t.kept j || (s.rst j && int_eq (first_of e.receiving.irs segment) (pos (next e.receiving))));
    }

abbrev begun_at : (measures : Bool) → Key → Addr → Entry → ℕ → Point
begun_at measures key local e i = point_begun measures e.bytes (numbers_with e.cisn i (forged_syn key local e.cisn (length e.bytes) e.mss))

syn_turn : {State : Type 0} (service : Machine State) (measures : Bool) (local : Addr) (e : Entry) (i : ℕ) → ProceedsFrom service e i
    → Stood (begun_at measures e.key local e i) (turned (Comes (forged_syn e.key local e.cisn (length e.bytes) e.mss)) [] (listening_measuring measures local i (2 ^ 24 - length e.bytes)))
unfolding listening_measuring listening begun
syn_turn service measures local e i g =
    let syn : Segment = forged_syn e.key local e.cisn (length e.bytes) e.mss in
    let limit : ℕ = 2 ^ 24 - length e.bytes in
    let l : Tcb = listening_measuring measures local i limit in
    let listens = listens_at_listen_measuring measures local i limit in
    let b : BeginsAt (begun_at measures e.key local e i) l syn [] = begins_law l i limit e.cisn e.bytes syn [] listens (omega (arith, g.short)) refl refl tt in
    let m : received l syn ≡ begun l syn = begun_by l syn refl refl in
    record {
      begun = b.begun;
      between = b.between;
      named = begun_named_law l i limit syn [] listens refl;
      stands = b.stands;
      idle = record {
        held = flush_keeps (λ (q : Sending). q.held) (received l syn) (record { sends = λ x n. refl; ends = λ x. refl; times = λ x t j r. refl }) ∙ ap (λ (t : Tcb). t.sending.held) m;
        closed = flush_keeps (λ (q : Sending). q.closed) (received l syn) (record { sends = λ x n. refl; ends = λ x. refl; times = λ x t j r. refl }) ∙ ap (λ (t : Tcb). t.sending.closed) m;
      };
      kept = flushed_reset (received l syn) ∙ ap (λ (t : Tcb). t.reset) m;
    }

begun_fresh : (measures : Bool) (local : Addr) (e : Entry) (i : ℕ) → IsFresh (begun_at measures e.key local e i)
begun_fresh measures local e i = record {
  fin = refl;
  early = refl;
  una = refl;
  sent = refl;
  edge = refl;
  wl2 = refl;
  lengths = refl;
  fetched = refl;
  wl1 = λ h. absurd (false≢true h);
  timed = refl;
  timestamping = refl;
  rest = λ h. absurd (false≢true h);
}

acked_fresh : (measures : Bool) (local : Addr) (e : Entry) (i : ℕ) → IsFresh (after_forged false (begun_at measures e.key local e i))
acked_fresh measures local e i = record {
  fin = refl;
  early = refl;
  una = refl;
  sent = refl;
  edge = refl;
  wl2 = refl;
  lengths = refl;
  fetched = refl;
  wl1 = λ h. refl;
  timed = refl;
  timestamping = refl;
  rest = λ h. refl;
}

ack_is_forged : {State : Type 0} (service : Machine State) (measures : Bool) (local : Addr) (e : Entry) (i : ℕ) → ProceedsFrom service e i → IsForged (begun_at measures e.key local e i) (forged_ack e.key local e.cisn (length e.bytes) i) false
ack_is_forged service measures local e i g = record {
  ack = refl;
  syn = refl;
  rst = refl;
  fin_is = refl;
  text = refl;
  window = refl;
  first = offset_of_number e.cisn (length e.bytes) (omega (arith, g.short));
  back = offset_of_number i 0 (omega arith);
}

fin_is_forged : {State : Type 0} (service : Machine State) (measures : Bool) (local : Addr) (e : Entry) (i : ℕ) → ProceedsFrom service e i
    → IsForged (after_forged false (begun_at measures e.key local e i)) (forged_fin e.key local e.cisn (length e.bytes) i) true
fin_is_forged service measures local e i g = record {
  ack = refl;
  syn = refl;
  rst = refl;
  fin_is = refl;
  text = refl;
  window = refl;
  first = offset_of_number e.cisn (length e.bytes) (omega (arith, g.short));
  back = offset_of_number i 0 (omega arith);
}

number_fits : (n k : ℕ) → number_at n k < 2 ^ 32
number_fits n k = omega arith

ack_turn : {State : Type 0} (service : Machine State) (measures : Bool) (local : Addr) (e : Entry) (i : ℕ) → ProceedsFrom service e i → Stood (after_forged false (begun_at measures e.key local e i)) (connected_measuring measures e.key local e.cisn (length e.bytes) e.mss i)
unfolding connected_measuring
ack_turn service measures local e i g =
    forged_turn (begun_at measures e.key local e i) _ (forged_ack e.key local e.cisn (length e.bytes) i) false (syn_turn service measures local e i g) (begun_fresh measures local e i) (ack_is_forged service measures local e i g)
    (λ h. absurd (false≢true h)) (number_fits e.cisn (length e.bytes))

whole : {State : Type 0} (service : Machine State) (measures : Bool) (local : Addr) (e : Entry) (i : ℕ) (fin : Bool) → ProceedsFrom service e i → (fin ≡ true → length e.bytes < 2 ^ 24)
    → Stood (record (after_forged fin (begun_at measures e.key local e i)) { fin = fin; answered = length e.bytes + one_if fin }) (spliced_measuring measures e.key local e.cisn (length e.bytes) e.mss i fin)
whole service measures local e i true g few =
    forged_turn (after_forged false (begun_at measures e.key local e i)) (connected_measuring measures e.key local e.cisn (length e.bytes) e.mss i) (forged_fin e.key local e.cisn (length e.bytes) i) true
    (ack_turn service measures local e i g) (acked_fresh measures local e i) (fin_is_forged service measures local e i g) few (number_fits e.cisn (length e.bytes))
whole service measures local e i false g few = ack_turn service measures local e i g

pub size_stays : (mss : ℕ) → 64 ≤ mss → mss ≤ 1460 → mss ≡ max 64 (min 1460 mss)
size_stays mss a b = omega (arith, a, b)

cut_read : (f s r : ℕ) → s ≤ f → max f 0 ≡ r + f → max f s ≡ r + f
cut_read f s r a b = omega (arith, a, b)

at_entry : {State : Type 0} (service : Machine State) (profile : Profile) (local : Addr) (e : Entry) (i : ℕ) (t : Tcb) → ProceedsFrom service e i
    → StandsAt (record (after_forged e.fin (begun_at profile.measures e.key local e i)) { fin = e.fin; answered = length e.bytes + one_if e.fin }) t
    → StandsAt (inside (resumed_at service e) i (point_of service profile e)) t
at_entry service profile local e i t g st =
    let u : ℕ = resumed_at service e in
    record {
      ip = st.ip;
      port = st.port;
      receives = record {
        cisn = st.receives.cisn;
        limit = st.receives.limit;
        read = cut_read (length e.bytes) (sum e.lengths) t.receiving.read g.cut st.receives.read;
        long = st.receives.long;
        unread = st.receives.unread;
        fin = st.receives.fin;
        early = st.receives.early;
      };
      sends = record {
        sisn = st.sends.sisn;
        mss = size_stays e.mss g.least g.most ∙ st.sends.mss;
        syn_acked = st.sends.syn_acked;
        una = itself_less u ∙ st.sends.una;
        edge = itself_less u ∙ st.sends.edge;
        wl1 = st.sends.wl1;
        wl2 = itself_less u ∙ st.sends.wl2;
        congestion = ap (initial_congestion profile.measures) (size_stays e.mss g.least g.most) ∙ st.sends.congestion;
      };
      sent = itself_less u ∙ st.sent;
      fetched_output = refl;
      interval = st.interval;
      rest = st.rest;
      timing = st.timing;
      delays = st.delays;
      timestamping = refl;
    }

-- nothing is written yet
none_left : (n : ℕ) (output : List ℕ) → drop n (take n output) ≡ []
none_left zero output = refl
none_left (suc n) [] = refl
none_left (suc n) (x ∷ output) = none_left n output

end_none : (f c : Bool) (una sent len u : ℕ) → (f ≡ true → c ≡ true) → c ≡ false → una ≡ 0 → len ≡ 0 → (if f then sent - 1 else una + len) + u ≡ u
end_none true c una sent len u last off a b = absurd (false≢true (sym off ∙ last refl))
end_none false c una sent len u last off a b = omega (arith, a, b)

fed_nothing : {State : Type 0} (service : Machine State) (profile : Profile) (local : Addr) (e : Entry) (i : ℕ) (t : Tcb) → IsBetweenTurns t → IsIdle t.sending → 0 ≡ t.sending.una
    → Feeds service (resumed_at service e) (point_of service profile e) (resumed_at service e) t
fed_nothing service profile local e i t between idle una =
    let u : ℕ = resumed_at service e in
    let output : List ℕ = (answered_run service (point_of service profile e)).output in
    let whole_output : output ≡ (run_of service e).output = ap (λ l. (reference service e.bytes l).output) (take_all (length e.lengths) e.lengths (omega arith)) in
    record {
      holds = idle.held ∙ sym (none_left u output) ∙ ap (λ n. drop n (take u output)) (omega (arith, una));
      until = end_none t.sending.fin_sent t.sending.closed t.sending.una t.sending.sent (length t.sending.held) u (λ h. (between.fin_last h).0) idle.closed (sym una) (ap length idle.held);
      low = subst (λ (l : List ℕ). u ≤ length l) (sym whole_output) (omega arith);
      queued = subst (λ (l : List ℕ). length l ≤ 65535) (sym idle.held) (omega arith);
    }

proceeds_from : {State : Type 0} (service : Machine State) (profile : Profile) (e : Entry) (i : ℕ) → ProceedsFrom service e i
    → Proceeds (resumed_at service e) i (delta_from service e i) (point_of service profile e)
proceeds_from service profile e i g = record {
  shift = back_again (resumed_at service e) i e.sisn g.i_fits;
  small = g.small;
  sisn = g.sisn;
  delta_fits = omega arith;
  i_fits = g.i_fits;
  una = omega arith;
  order = omega arith;
  sent = omega (arith, g.small);
  edge = omega arith;
  wl2 = omega arith;
  timing = initial_keeps profile.measures;
  syn_unacked = λ h. absurd (false≢true (sym h));
}
  where
    back_again : (u i sisn : ℕ) → i < 2 ^ 32 → (i + ((sisn + u) % 2 ^ 32 + 2 ^ 32 - i) % 2 ^ 32) % 2 ^ 32 ≡ (sisn + u) % 2 ^ 32
    back_again u i sisn h = omega (arith, h)

pub splices : {State : Type 0} (service : Machine State) (profile : Profile) (local : Addr) (e : Entry) (i : ℕ) → ProceedsFrom service e i
    → StandsAtEntry service profile e i (spliced_measuring profile.measures e.key local e.cisn (length e.bytes) e.mss i e.fin)
splices service profile local e i g =
    let t = whole service profile.measures local e i e.fin g g.fin in
    let tcb : Tcb = spliced_measuring profile.measures e.key local e.cisn (length e.bytes) e.mss i e.fin in
    let at = at_entry service profile local e i tcb g t.stands in
    record {
      tcp = record { stands = record { begun = t.begun; between = t.between; stands = at; proceeds = proceeds_from service profile e i g }; named = t.named };
      feeds = fed_nothing service profile local e i tcb t.between t.idle (sym (itself_less (resumed_at service e)) ∙ at.sends.una);
      kept = t.kept;
      open_still = t.idle.closed;
    }

-- with the north wrapper beside it that was replayed
pub splices_parts : {S : Type 0} (service : Machine S) (profile : Profile) (local : Addr) (e : Entry) (i : ℕ) (n : NorthState S) → ProceedsFrom service e i
    → HasReplayed service (point_of service profile e) (resumed_at service e) n
    → PartsStand service (resumed_at service e) i (delta_from service e i) (resumed_at service e) (point_of service profile e) n
    (spliced_measuring profile.measures e.key local e.cisn (length e.bytes) e.mss i e.fin)
splices_parts service profile local e i n g replayed =
    let t = splices service profile local e i g in
    record {
      tcp = inl t.tcp;
      north = begins_here service (point_of service profile e) (resumed_at service e) n replayed;
      feeds = t.feeds;
      unreset = refl;
      kept = t.kept;
      shut = t.open_still ∙ sym replayed.shut;
      all_sent = omega arith;
    }
