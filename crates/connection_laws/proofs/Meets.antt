-- A turn of a wrapped connection is, for the point inside, a turn by the laws of TCP.
use Rattle.std.proofs.Common.{◌≡◌, ℕ, ◌≤◌, ◌+◌, ◌-◌, ◌*◌, Bool, true, false, not, List, ◌++◌, length, min, max, refl, sym, ap, arith, append-nil, ◌∙◌}
use Rattle.std.specs.Prelude.{ℤ, pos, ◌==◌, ◌&&◌, ◌||◌, nat_abs, nat_lt, int_le, if◌then◌else◌}
use Rattle.std.proofs.lemmas.Bool.{false≢true}
use Rattle.ft_io.specs.declared.Addr.{Addr}
use Rattle.tcp_rules.specs.Arrival.{una_after}
use Rattle.tcp_rules.specs.Coming.{nothing_came, comes}
use Rattle.tcp_rules.specs.Congestion.{is_partial, with_new_data, is_third, with_duplicate, with_expiry}
use Rattle.seq_arith.specs.Packet.{Segment, has_syn, has_rst, has_ack}
use Rattle.server_trait.specs.Service.{Machine}
use Rattle.tcp_rules.specs.Timing.{with_acknowledged, without_trip, with_sent}
use Rattle.ft_model.specs.Offset.{first_of, ack_of, text_of, fin_of}
use Rattle.ft_model.specs.Point.{Point, taken_units, most, receive_edge, released, target}
use Rattle.ft_model.specs.News.{News}
use Rattle.ft_model.specs.News.News.{Comes, Logged, Ticks, Begins}
use Rattle.ft_model.specs.Network.{Packet}
use Rattle.ft_model.specs.Taken.{uses, acknowledges_unsent, counts, came, taken_after, early_after, fin_after}
use Rattle.ft_model.specs.Sending.{syn_acked_after, acknowledged_after, edge_after, wl1_after, wl2_after, is_duplicate, is_third_duplicate, is_partial_ack, resends, flight, congestion_after, sent_at_once, sent_after, timing_after, acknowledged_by, window_by, is_first_expiry}
use Rattle.ft_model.specs.Timer.{timing_noted, must_run, interval_after, rest_after, is_tick, expires, probes, is_set_anew}
use Rattle.ft_model.specs.Segments.{repeats_syn}
use Rattle.ft_model.specs.Connection.{LiveTurn}
use Rattle.ft_model.proofs.Stamped.{stays_off}
use Rattle.connection_laws.specs.Inside.{swallowing, inside, Proceeds}
use Rattle.connection_laws.specs.Traffic.{news_inside}
use Rattle.south_wrap.specs.Translation.{inward}
use Rattle.south_wrap.specs.SouthPoint.{south_at}
use Rattle.endpoint_laws.specs.Laws.{KeepsTime}
use Rattle.endpoint_laws.specs.Refinement.{MeetsLaws}
use Rattle.endpoint_laws.proofs.Timings.{acknowledged_none}
use Rattle.connection_laws.specs.Turn.{SegmentFits, NewsFit}
use Rattle.connection_laws.proofs.Swallowed.{inside_target}
use Rattle.connection_laws.proofs.Lowered.{LowersAt, lowers, moves, una_inside, moves_inside, edge_inside, wl2_inside, counts_inside, unsent_inside}
use Rattle.connection_laws.proofs.Duplicates.{duplicates, duplicates_inside, flight_inside, congestion_inside, partial_inside}
use Rattle.ft_io.proofs.Booleans.{or_false}
use Rattle.endpoint_laws.proofs.Timings.{itself_less}
use Rattle.endpoint_laws.proofs.Arrivals.{rises}

-- the fields of a point that an arriving segment moves
pub record Moves (news : News) (p : Point) (u i : ℕ) (inner : News) : Type 0 where
  pub taken : taken_after inner (inside u i p) ≡ taken_after news p
  pub fin : fin_after inner (inside u i p) ≡ fin_after news p
  pub early : early_after inner (inside u i p) ≡ early_after news p
  pub syn_acked : syn_acked_after inner (inside u i p) ≡ syn_acked_after news p
  pub una : acknowledged_after inner (inside u i p) ≡ acknowledged_after news p - u
  pub edge : edge_after inner (inside u i p) ≡ edge_after news p - u
  pub wl1 : wl1_after inner (inside u i p) ≡ wl1_after news p
  pub wl2 : wl2_after inner (inside u i p) ≡ wl2_after news p - u
  pub congestion : congestion_after inner (inside u i p) ≡ congestion_after news p
  pub again : resends inner (inside u i p) ≡ resends news p
  pub expires : expires inner (inside u i p) ≡ expires news p
  pub ticks : is_tick inner ≡ is_tick news
  -- the estimate, once SND.UNA is where the news lead it
  pub noted : timing_noted inner (resends inner (inside u i p)) (inside u i p) (acknowledged_after news p - u)
      ≡ timing_noted news (resends news p) p (acknowledged_after news p)

-- a segment that goes inside
counts_is : (u i delta : ℕ) (p : Point) (segment : Segment) → Proceeds u i delta p → LowersAt u i delta p segment
    → counts (inside u i p) (inward (south_at delta p) segment) ≡ counts p segment
unfolding counts uses
counts_is u i delta p segment g l =
    let acks = counts_inside u p.sent (most p) p.syn_acked (ack_of p.sisn segment) (ack_of i (inward (south_at delta p) segment)) (λ h. (g.syn_unacked h).0) l in
    let unsent = unsent_inside u i delta p segment g l in
    λ j. has_ack segment && not (has_syn segment) && not (has_rst segment) && uses p segment && acks j && not (unsent j)

-- .. so its text and FIN make the same of the stream
came_is : (u i delta : ℕ) (p : Point) (segment : Segment) → Proceeds u i delta p → LowersAt u i delta p segment
    → came (inside u i p) (inward (south_at delta p) segment) ≡ came p segment
unfolding came
came_is u i delta p segment g l =
    ap (λ b. if b then comes (length p.taken) (receive_edge p) p.fin p.early (first_of p.cisn segment) (text_of segment) (fin_of segment) else nothing_came p.early p.fin)
    (counts_is u i delta p segment g l)

both_less : (u a b : ℕ) → u ≤ a → a ≤ b → (b - u) - (a - u) ≡ b - a
both_less u a b h k = omega (arith, h, k)

comes_inside : (u i delta : ℕ) (p : Point) (segment : Segment) → Proceeds u i delta p → LowersAt u i delta p segment
    → Moves (Comes segment) p u i (Comes (inward (south_at delta p) segment))
unfolding taken_after early_after fin_after syn_acked_after acknowledged_after edge_after wl1_after wl2_after is_duplicate is_third_duplicate is_partial_ack congestion_after timing_noted
comes_inside u i delta p segment g l =
    let inner : Segment = inward (south_at delta p) segment in
    let ack : ℤ = ack_of p.sisn segment in
    let first : ℤ = first_of p.cisn segment in
    let textless : Bool = length (text_of segment) == 0 in
    let finless : Bool = not (fin_of segment) in
    let c : counts (inside u i p) inner ≡ counts p segment = counts_is u i delta p segment g l in
    let o : p.syn_acked ≡ false → u ≡ 0 = λ h. (g.syn_unacked h).0 in
    let k : came (inside u i p) inner ≡ came p segment = came_is u i delta p segment g l in
    let third : (duplicates (p.una - u) (p.sent - u) (p.edge - u) inner.head.window (counts (inside u i p) inner) textless finless (ack_of i inner) && is_third p.congestion)
    ≡ (duplicates p.una p.sent p.edge segment.head.window (counts p segment) textless finless ack && is_third p.congestion) =
    ap (λ b. b && is_third p.congestion)
    ((λ j. duplicates (p.una - u) (p.sent - u) (p.edge - u) inner.head.window (c j) textless finless (ack_of i inner))
    ∙ duplicates_inside u p.una p.sent (most p) p.edge segment.head.window (counts p segment) textless finless ack (ack_of i inner) g.una g.order g.edge l) in
    let part : (((counts (inside u i p) inner && int_le (pos 0) (ack_of i inner)) && nat_lt (p.una - u) (acknowledged_by (inside u i p) inner))
    && is_partial (acknowledged_by (inside u i p) inner - (p.una - u)) p.congestion)
    ≡ (((counts p segment && int_le (pos 0) ack) && nat_lt p.una (acknowledged_by p segment)) && is_partial (acknowledged_by p segment - p.una) p.congestion) =
    (λ j. ((c j && int_le (pos 0) (ack_of i inner)) && nat_lt (p.una - u) (acknowledged_by (inside u i p) inner))
    && is_partial (acknowledged_by (inside u i p) inner - (p.una - u)) p.congestion)
    ∙ partial_inside u p.una p.sent (most p) (counts p segment) ack (ack_of i inner) p.congestion g.una g.order l in
    let again : resends (Comes inner) (inside u i p) ≡ resends (Comes segment) p = λ j. third j || part j in
    let risen : p.una ≤ (if counts p segment && int_le (pos 0) ack then una_after p.una (acknowledged_by p segment) else p.una) =
    rises (counts p segment && int_le (pos 0) ack) p.una (acknowledged_by p segment) in
    let once_less_una : ((if counts p segment && int_le (pos 0) ack then una_after p.una (acknowledged_by p segment) else p.una) - u) - (p.una - u)
    ≡ (if counts p segment && int_le (pos 0) ack then una_after p.una (acknowledged_by p segment) else p.una) - p.una = both_less u p.una _ g.una risen in
    let m : moves (counts (inside u i p) inner) p.syn_acked (p.una - u) p.wl1 (p.wl2 - u) first (ack_of i inner) (p.sent - u)
    ≡ moves (counts p segment) p.syn_acked p.una p.wl1 p.wl2 first ack p.sent =
    (λ j. moves (c j) p.syn_acked (p.una - u) p.wl1 (p.wl2 - u) first (ack_of i inner) (p.sent - u))
    ∙ moves_inside u p.una p.sent (most p) (counts p segment) p.syn_acked p.wl1 p.wl2 first ack (ack_of i inner) g.una g.order g.wl2 o l in
    record {
      taken = ap (λ x. p.taken ++ x.added) k;
      fin = ap (λ x. x.fin) k;
      early = ap (λ x. x.early) k;
      syn_acked = λ j. p.syn_acked || c j;
      una = (λ j. if c j && int_le (pos 0) (ack_of i inner) then una_after (p.una - u) (min (nat_abs (ack_of i inner)) (p.sent - u)) else p.una - u)
          ∙ una_inside u p.una p.sent (most p) (counts p segment) ack (ack_of i inner) g.una g.order l;
      edge = (λ j. if m j then acknowledged_by (inside u i p) inner + window_by (inside u i p) inner else p.edge - u)
          ∙ edge_inside u p.una p.sent (most p) (counts p segment) p.syn_acked p.wl1 p.wl2 segment.head.window p.edge first ack (ack_of i inner) g.una g.order o l;
      wl1 = λ j. if m j then first else p.wl1;
      wl2 = (λ j. if m j then acknowledged_by (inside u i p) inner else p.wl2 - u)
          ∙ wl2_inside u p.una p.sent (most p) (counts p segment) p.syn_acked p.wl1 p.wl2 first ack (ack_of i inner) g.una g.order o l;
      congestion = (λ j. if (c j && int_le (pos 0) (ack_of i inner)) && nat_lt (p.una - u) (acknowledged_by (inside u i p) inner)
          then with_new_data p.mss (acknowledged_by (inside u i p) inner - (p.una - u)) p.congestion
          else (if duplicates (p.una - u) (p.sent - u) (p.edge - u) inner.head.window (c j) textless finless (ack_of i inner)
          then with_duplicate p.mss (flight (inside u i p)) p.congestion else p.congestion))
          ∙ congestion_inside u p.una p.sent (most p) p.edge segment.head.window p.mss (counts p segment) textless finless ack (ack_of i inner) p.congestion
          g.una g.order g.edge l;
      again = again;
      expires = refl;
      ticks = refl;
      noted = λ j. if again j then without_trip (with_acknowledged (once_less_una j) p.timing) else with_acknowledged (once_less_una j) p.timing;
    }

none_of : (a r c d e : Bool) → (a && false && r && c && d && e) ≡ false
none_of true r c d e = refl
none_of false r c d e = refl

-- what a SYN changes: nothing
pub nothing_counts : (p : Point) (segment : Segment) → has_syn segment ≡ true → counts p segment ≡ false
unfolding counts
nothing_counts p segment h =
    ap (λ b. has_ack segment && not b && not (has_rst segment) && uses p segment && (p.syn_acked || int_le (pos 0) (ack_of p.sisn segment))
    && not (acknowledges_unsent p segment)) h
    ∙ none_of (has_ack segment) (not (has_rst segment)) (uses p segment) (p.syn_acked || int_le (pos 0) (ack_of p.sisn segment)) (not (acknowledges_unsent p segment))

nothing_comes : (p : Point) (segment : Segment) → counts p segment ≡ false → came p segment ≡ nothing_came p.early p.fin
unfolding came
nothing_comes p segment c =
    ap (λ b. if b then comes (length p.taken) (receive_edge p) p.fin p.early (first_of p.cisn segment) (text_of segment) (fin_of segment) else nothing_came p.early p.fin) c

pub stays_inside : (u i : ℕ) (p : Point) (segment : Segment) → KeepsTime p.timing → counts p segment ≡ false → Moves (Comes segment) p u i Begins
unfolding taken_after early_after fin_after syn_acked_after acknowledged_after edge_after wl1_after wl2_after is_duplicate is_third_duplicate is_partial_ack congestion_after timing_noted
stays_inside u i p segment keeps c =
    let none : ℤ = first_of p.cisn segment in
    let k : came p segment ≡ nothing_came p.early p.fin = nothing_comes p segment c in
    let again : resends (Comes segment) p ≡ false =
    λ j. (duplicates p.una p.sent p.edge segment.head.window (c j) (length (text_of segment) == 0) (not (fin_of segment)) (ack_of p.sisn segment) && is_third p.congestion)
    || (((c j && int_le (pos 0) (ack_of p.sisn segment)) && nat_lt p.una (acknowledged_by p segment)) && is_partial (acknowledged_by p segment - p.una) p.congestion) in
    let still : (if counts p segment && int_le (pos 0) (ack_of p.sisn segment) then una_after p.una (acknowledged_by p segment) else p.una) ≡ p.una =
    λ j. if c j && int_le (pos 0) (ack_of p.sisn segment) then una_after p.una (acknowledged_by p segment) else p.una in
    record {
      taken = sym (ap (λ x. p.taken ++ x.added) k ∙ append-nil p.taken);
      fin = sym (ap (λ x. x.fin) k);
      early = sym (ap (λ x. x.early) k);
      syn_acked = or_false p.syn_acked ∙ sym (λ j. p.syn_acked || c j);
      una = sym (λ j. (if c j && int_le (pos 0) (ack_of p.sisn segment) then una_after p.una (acknowledged_by p segment) else p.una) - u);
      edge = sym (λ j. (if moves (c j) p.syn_acked p.una p.wl1 p.wl2 none (ack_of p.sisn segment) p.sent then acknowledged_by p segment + window_by p segment else p.edge) - u);
      wl1 = sym (λ j. if moves (c j) p.syn_acked p.una p.wl1 p.wl2 none (ack_of p.sisn segment) p.sent then none else p.wl1);
      wl2 = sym (λ j. (if moves (c j) p.syn_acked p.una p.wl1 p.wl2 none (ack_of p.sisn segment) p.sent then acknowledged_by p segment else p.wl2) - u);
      congestion = sym (λ j. if (c j && int_le (pos 0) (ack_of p.sisn segment)) && nat_lt p.una (acknowledged_by p segment)
          then with_new_data p.mss (acknowledged_by p segment - p.una) p.congestion
          else (if duplicates p.una p.sent p.edge segment.head.window (c j) (length (text_of segment) == 0) (not (fin_of segment)) (ack_of p.sisn segment)
          then with_duplicate p.mss (flight p) p.congestion else p.congestion));
      again = sym again;
      expires = refl;
      ticks = refl;
      noted = sym ((λ j. if again j then without_trip (with_acknowledged (still j - p.una) p.timing) else with_acknowledged (still j - p.una) p.timing)
          ∙ ap (λ n. with_acknowledged n p.timing) (itself_less p.una) ∙ acknowledged_none p.timing keeps);
    }

pub is_syn_has : (syn ack rst a b c : Bool) → ((syn && not ack && not rst) && a && b && c) ≡ true → syn ≡ true
is_syn_has true ack rst a b c h = refl
is_syn_has false ack rst a b c h = absurd (false≢true h)

-- a segment without ACK counts for nothing, whatever its field says
none_ack : (a r c d e f : Bool) → a ≡ false → (a && r && c && d && e && f) ≡ false
none_ack true r c d e f h = absurd (false≢true (sym h))
none_ack false r c d e f h = refl

pub unacknowledged : (p : Point) (segment : Segment) → has_ack segment ≡ false → counts p segment ≡ false
unfolding counts
unacknowledged p segment h =
    none_ack (has_ack segment) (not (has_syn segment)) (not (has_rst segment)) (uses p segment) (p.syn_acked || int_le (pos 0) (ack_of p.sisn segment))
    (not (acknowledges_unsent p segment)) h

pub minus_none : (a b : ℕ) → a - 0 ≡ b - 0 → a ≡ b
minus_none a b h = omega (arith, h)

-- the estimate stays on both sides
idle_noted : (u i delta : ℕ) (p : Point) (segment : Segment) → Moves (Comes segment) p u i Begins
    → Moves (Comes (inward (south_at delta p) segment)) (inside u i p) 0 i Begins
    → timing_noted (Comes (inward (south_at delta p) segment)) (resends (Comes (inward (south_at delta p) segment)) (inside u i p)) (inside u i p)
    (acknowledged_after (Comes segment) p - u)
    ≡ timing_noted (Comes segment) (resends (Comes segment) p) p (acknowledged_after (Comes segment) p)
unfolding acknowledged_after timing_noted
idle_noted u i delta p segment a b =
    let inner : Segment = inward (south_at delta p) segment in
    let there : acknowledged_after (Comes segment) p - u ≡ acknowledged_after (Comes inner) (inside u i p) =
    sym a.una ∙ minus_none (p.una - u) (acknowledged_after (Comes inner) (inside u i p)) b.una in
    ap (timing_noted (Comes inner) (resends (Comes inner) (inside u i p)) (inside u i p)) there ∙ sym b.noted ∙ a.noted

idle_inside : (u i delta : ℕ) (p : Point) (segment : Segment) → KeepsTime p.timing → has_ack segment ≡ false → Moves (Comes segment) p u i (Comes (inward (south_at delta p) segment))
unfolding taken_after early_after fin_after syn_acked_after acknowledged_after edge_after wl1_after wl2_after is_duplicate is_third_duplicate is_partial_ack congestion_after timing_noted
idle_inside u i delta p segment keeps h =
    let q : Point = inside u i p in
    let a : Moves (Comes segment) p u i Begins = stays_inside u i p segment keeps (unacknowledged p segment h) in
    let b : Moves (Comes (inward (south_at delta p) segment)) q 0 i Begins = stays_inside 0 i q (inward (south_at delta p) segment) keeps (unacknowledged q (inward (south_at delta p) segment) h) in
    record {
      taken = sym b.taken ∙ a.taken;
      fin = sym b.fin ∙ a.fin;
      early = sym b.early ∙ a.early;
      syn_acked = sym b.syn_acked ∙ a.syn_acked;
      una = minus_none _ (p.una - u) (sym b.una) ∙ a.una;
      edge = minus_none _ (p.edge - u) (sym b.edge) ∙ a.edge;
      wl1 = sym b.wl1 ∙ a.wl1;
      wl2 = minus_none _ (p.wl2 - u) (sym b.wl2) ∙ a.wl2;
      congestion = sym b.congestion ∙ a.congestion;
      again = sym b.again ∙ a.again;
      expires = refl;
      ticks = refl;
      noted = idle_noted u i delta p segment a b;
    }

comes_any : (u i delta : ℕ) (p : Point) (segment : Segment) (b : Bool) → has_ack segment ≡ b → Proceeds u i delta p → SegmentFits p segment
    → Moves (Comes segment) p u i (Comes (inward (south_at delta p) segment))
comes_any u i delta p segment true h g f = comes_inside u i delta p segment g (lowers u i delta p segment g f.ack (f.near h))
comes_any u i delta p segment false h g f = idle_inside u i delta p segment g.timing h

by_repeat : (u i delta : ℕ) (p : Point) (segment : Segment) (b : Bool) → repeats_syn p segment ≡ b → Proceeds u i delta p → SegmentFits p segment
    → Moves (Comes segment) p u i (if b then Begins else Comes (inward (south_at delta p) segment))
by_repeat u i delta p segment true h g f =
    stays_inside u i p segment g.timing (nothing_counts p segment
    (is_syn_has (has_syn segment) (has_ack segment) (has_rst segment) (segment.head.seq == p.cisn) (taken_units p == 0) (p.una == 0) h))
by_repeat u i delta p segment false h g f = comes_any u i delta p segment (has_ack segment) refl g f

-- differences
pub lt_less : (u a b : ℕ) → u ≤ a → nat_lt (a - u) (b - u) ≡ nat_lt a b
lt_less u a b h = grind (arith, h)

-- at a tick as much is lost
ticks_same : (u i : ℕ) (p : Point) → u ≤ p.una → congestion_after Ticks (inside u i p) ≡ congestion_after Ticks p
unfolding congestion_after
ticks_same u i p a =
    λ j. if p.rest == 1 && lt_less u p.una p.sent a j && lt_less u p.una p.edge a j
    then with_expiry p.mss (flight_inside u p.una p.sent a j) (is_first_expiry p) p.congestion
    else p.congestion

pub moves_inside_all : (u i delta : ℕ) (p : Point) (news : News) → Proceeds u i delta p → NewsFit p news → Moves news p u i (news_inside delta p news)
unfolding taken_after early_after fin_after syn_acked_after acknowledged_after edge_after wl1_after wl2_after is_duplicate is_third_duplicate is_partial_ack congestion_after timing_noted
moves_inside_all u i delta p (Comes segment) g f = by_repeat u i delta p segment (repeats_syn p segment) refl g f
moves_inside_all u i delta p (Logged kept) g f = record {
  taken = refl;
  fin = refl;
  early = refl;
  syn_acked = refl;
  una = refl;
  edge = refl;
  wl1 = refl;
  wl2 = refl;
  congestion = refl;
  again = refl;
  expires = refl;
  ticks = refl;
  noted = refl;
}
moves_inside_all u i delta p Ticks g f = record {
  taken = refl;
  fin = refl;
  early = refl;
  syn_acked = refl;
  una = refl;
  edge = refl;
  wl1 = refl;
  wl2 = refl;
  congestion = ticks_same u i p g.una;
  again = refl;
  expires = refl;
  ticks = refl;
  noted = refl;
}
moves_inside_all u i delta p Begins g f = record {
  taken = refl;
  fin = refl;
  early = refl;
  syn_acked = refl;
  una = refl;
  edge = refl;
  wl1 = refl;
  wl2 = refl;
  congestion = refl;
  again = refl;
  expires = refl;
  ticks = refl;
  noted = refl;
}

-- the end of what may be sent is u less, whether that is the right edge or the end of the congestion window
pub once_less : (u a t e una cwnd : ℕ) → u ≤ a → u ≤ una → max (a - u) (min (t - u) (min (e - u) (una - u + cwnd))) ≡ max a (min t (min e (una + cwnd))) - u
once_less u a t e una cwnd h k = omega (arith, h, k)

sent_less : (u a t e una cwnd : ℕ) (b : Bool) → u ≤ a → u ≤ una
    → max (a - u) (min (t - u) (min (e - u) (una - u + cwnd))) + (if b then 1 else 0) ≡ max a (min t (min e (una + cwnd))) + (if b then 1 else 0) - u
sent_less u a t e una cwnd true h k = omega (arith, h, k)
sent_less u a t e una cwnd false h k = omega (arith, h, k)

runs_less : (u a s t : ℕ) → u ≤ a → nat_lt (a - u) (max (s - u) (t - u)) ≡ nat_lt a (max s t)
runs_less u a s t h = grind (arith, h)

place_less : (u s a : ℕ) → u ≤ s → u ≤ a → s - u + 1 - (a - u) ≡ s + 1 - a
place_less u s a h k = omega (arith, h, k)

pub laws_inside : {State : Type 0} (service : Machine State) (server : Addr) (boot u i delta : ℕ) (news : News) (p q : Point) (sent : List Packet)
    → Proceeds u i delta p → NewsFit p news → u ≤ q.una → u ≤ released service q → LiveTurn service server boot news p q sent
    → MeetsLaws (swallowing u service) (news_inside delta p news) (inside u i p) (inside u i q)
unfolding sent_after sent_at_once timing_after interval_after rest_after must_run
laws_inside service server boot u i delta news p q sent g f above given l =
    let inner : News = news_inside delta p news in
    let m : Moves news p u i inner = moves_inside_all u i delta p news g f in
    let target_is : target (swallowing u service) (inside u i q) ≡ target service q - u = inside_target service u i q given in
    let probe : probes inner (inside u i p) ≡ probes news p = (λ j. m.expires j && p.syn_acked && not (lt_less u p.una p.sent g.una j)) in
    let anew : is_set_anew (inside u i p) (inside u i q) ≡ is_set_anew p q = (λ j. p.rest == 0 || (lt_less u p.una q.una g.una j || (q.syn_acked && not p.syn_acked))) in
    let runs : must_run (swallowing u service) (inside u i q) ≡ must_run service q =
    (λ j. not q.syn_acked || nat_lt (q.una - u) (max (q.sent - u) (target_is j))) ∙ ap (λ b. not q.syn_acked || b) (runs_less u q.una q.sent (target service q) above) in
    let once : sent_at_once (swallowing u service) (inside u i p) (inside u i q) ≡ sent_at_once service p q - u =
    (λ j. max (p.sent - u) (min (target_is j) (min (q.edge - u) (q.una - u + q.congestion.cwnd)))) ∙ once_less u p.sent (target service q) q.edge q.una q.congestion.cwnd
    (omega (arith, g.una, g.order)) above in
    let first : nat_lt (p.sent - u) (sent_at_once (swallowing u service) (inside u i p) (inside u i q)) ≡ nat_lt p.sent (sent_at_once service p q) =
    ap (nat_lt (p.sent - u)) once ∙ lt_less u p.sent (sent_at_once service p q) (omega (arith, g.una, g.order)) in
    let place : p.sent - u + 1 - (q.una - u) ≡ p.sent + 1 - q.una = place_less u p.sent q.una (omega (arith, g.una, g.order)) above in
    let noted : timing_noted inner (resends inner (inside u i p)) (inside u i p) (q.una - u) ≡ timing_noted news (resends news p) p q.una =
    (λ j. timing_noted inner (resends inner (inside u i p)) (inside u i p) (l.una j - u)) ∙ m.noted ∙ (λ j. timing_noted news (resends news p) p (sym l.una j)) in
    let timing : timing_after (swallowing u service) inner (inside u i p) (inside u i q) ≡ timing_after service news p q =
    λ j. if first j then with_sent (place j) (noted j) else noted j in
    let ticks : interval_after inner (inside u i p) (inside u i q) ≡ interval_after news p q =
    λ j. if anew j then q.timing.base else (if m.expires j then min 64 (2 * p.interval) else p.interval) in
    record {
      same = record { key = l.same.key; cisn = l.same.cisn; sisn = refl; mss = l.same.mss; fetched = l.same.fetched; fetched_output = refl; delays = refl; batches = refl };
      taken = l.taken ∙ sym m.taken;
      fin = l.fin ∙ sym m.fin;
      early = l.early ∙ sym m.early;
      syn_acked = l.syn_acked ∙ sym m.syn_acked;
      una = ap (λ n. n - u) l.una ∙ sym m.una;
      edge = ap (λ n. n - u) l.edge ∙ sym m.edge;
      wl1 = l.wl1 ∙ sym m.wl1;
      wl2 = ap (λ n. n - u) l.wl2 ∙ sym m.wl2;
      congestion = l.congestion ∙ sym m.congestion;
      sent = ap (λ n. n - u) l.sent_units
          ∙ sym ((λ j. max (p.sent - u) (min (target_is j) (min (q.edge - u) (q.una - u + q.congestion.cwnd))) + (if probe j then 1 else 0))
          ∙ sent_less u p.sent (target service q) q.edge q.una q.congestion.cwnd (probes news p) (omega (arith, g.una, g.order)) above);
      timing = l.timing ∙ sym timing;
      timestamping = sym (stays_off inner (inside u i p) refl);
      interval = l.interval ∙ sym ticks;
      rest = l.rest ∙ sym (λ j. if runs j
          then (if anew j || m.expires j then ticks j else (if m.ticks j then p.rest - 1 else p.rest))
          else 0);
    }
