-- After a turn output goes on as before it.
use Rattle.std.proofs.Common.{◌≡◌, ℕ, ◌≤◌, ◌+◌, ◌%◌, ◌^◌, Bool, true, false, not, List, min, max, refl, sym, ap, arith, ◌∙◌}
use Rattle.std.specs.Prelude.{pos, ◌&&◌, nat_abs, nat_lt, int_le, if◌then◌else◌}
use Rattle.std.proofs.lemmas.Bool.{or_parts}
use Rattle.ft_io.specs.declared.Addr.{Addr}
use Rattle.tcp_rules.specs.Arrival.{una_after}
use Rattle.seq_arith.specs.Packet.{Segment, has_ack}
use Rattle.server_trait.specs.Service.{Machine}
use Rattle.endpoint_laws.specs.Laws.{KeepsTime}
use Rattle.ft_model.specs.Offset.{first_of, ack_of}
use Rattle.ft_model.specs.Point.{Point, most, target}
use Rattle.ft_model.specs.News.{News}
use Rattle.ft_model.specs.News.News.{Comes, Logged, Ticks, Begins}
use Rattle.ft_model.specs.Network.{Packet}
use Rattle.ft_model.specs.Taken.{counts, taken_after, early_after, fin_after}
use Rattle.ft_model.specs.Sending.{syn_acked_after, acknowledged_after, edge_after, wl2_after, sent_at_once, sent_after, acknowledged_by, window_by}
use Rattle.ft_model.specs.Timer.{probes, expires}
use Rattle.ft_model.specs.Connection.{LiveTurn}
use Rattle.connection_laws.specs.Inside.{Proceeds}
use Rattle.south_wrap.specs.Translation.{inward}
use Rattle.south_wrap.specs.SouthPoint.{south_at}
use Rattle.connection_laws.specs.Turn.{SegmentFits, NewsFit}
use Rattle.connection_laws.proofs.Lowered.{LowersAt, lowers, moves, used_by}
use Rattle.connection_laws.proofs.Meets.{Moves, stays_inside, unacknowledged, minus_none}
use Rattle.ft_io.proofs.Booleans.{middle_false}

una_rises : (c : Bool) (una ack sent : ℕ) → una ≤ sent → (una ≤ (if c then una_after una (min ack sent) else una)) × ((if c then una_after una (min ack sent) else una) ≤ sent)
una_rises true una ack sent h = (grind (arith, h), grind (arith, h))
una_rises false una ack sent h = (omega arith, h)

above_if : (u : ℕ) (b : Bool) (x y : ℕ) → (b ≡ true → u ≤ x) → u ≤ y → u ≤ (if b then x else y)
above_if u true x y h t = h refl
above_if u false x y h t = t

-- the edge and SND.WL2 don't fall below where output goes on
pub record Stays (u : ℕ) (news : News) (p : Point) : Type 0 where
  pub una : u ≤ acknowledged_after news p
  pub most : acknowledged_after news p ≤ p.sent
  edge : u ≤ edge_after news p
  wl2 : u ≤ wl2_after news p

by_ack : (u i delta : ℕ) (segment : Segment) (b : Bool) → has_ack segment ≡ b → (p : Point) → Proceeds u i delta p → SegmentFits p segment → Stays u (Comes segment) p
unfolding acknowledged_after edge_after wl2_after
by_ack u i delta segment true h p g f =
    let l : LowersAt u i delta p segment = lowers u i delta p segment g f.ack (f.near h) in
    let c : Bool = counts p segment in
    let m : Bool = moves c p.syn_acked p.una p.wl1 p.wl2 (first_of p.cisn segment) (ack_of p.sisn segment) p.sent in
    let rises = una_rises (c && int_le (pos 0) (ack_of p.sisn segment)) p.una (nat_abs (ack_of p.sisn segment)) p.sent g.order in
    let from : m ≡ true → u ≤ acknowledged_by p segment =
    (λ t. (used_by u p.una p.sent (most p) c p.syn_acked p.wl1 p.wl2 segment.head.window (first_of p.cisn segment) (ack_of p.sisn segment) (ack_of i (inward (south_at delta p) segment)) g.una g.order (λ h. (g.syn_unacked h).0) l t).from) in
    record {
      una = omega (arith, rises.0, g.una);
      most = rises.1;
      edge = above_if u m (acknowledged_by p segment + window_by p segment) p.edge (λ t. omega (arith, from t)) g.edge;
      wl2 = above_if u m (acknowledged_by p segment) p.wl2 from g.wl2;
    }
by_ack u i delta segment false h p g f =
    let m : Moves (Comes segment) p 0 i Begins = stays_inside 0 i p segment g.timing (unacknowledged p segment h) in
    let una : p.una ≡ acknowledged_after (Comes segment) p = minus_none p.una (acknowledged_after (Comes segment) p) m.una in
    let edge : p.edge ≡ edge_after (Comes segment) p = minus_none p.edge (edge_after (Comes segment) p) m.edge in
    let wl2 : p.wl2 ≡ wl2_after (Comes segment) p = minus_none p.wl2 (wl2_after (Comes segment) p) m.wl2 in
    record { una = omega (arith, g.una, una); most = omega (arith, g.order, una); edge = omega (arith, g.edge, edge); wl2 = omega (arith, g.wl2, wl2) }

pub stays : (u i delta : ℕ) (news : News) (p : Point) → Proceeds u i delta p → NewsFit p news → Stays u news p
unfolding acknowledged_after edge_after wl2_after
stays u i delta (Comes segment) p g f = by_ack u i delta segment (has_ack segment) refl p g f
stays u i delta (Logged kept) p g f = record { una = g.una; most = g.order; edge = g.edge; wl2 = g.wl2 }
stays u i delta Ticks p g f = record { una = g.una; most = g.order; edge = g.edge; wl2 = g.wl2 }
stays u i delta Begins p g f = record { una = g.una; most = g.order; edge = g.edge; wl2 = g.wl2 }

-- until an acknowledgement counts nothing changes
record Same (news : News) (p : Point) : Type 0 where
  syn_acked : p.syn_acked ≡ false
  taken : taken_after news p ≡ p.taken
  fin : fin_after news p ≡ p.fin
  early : early_after news p ≡ p.early
  edge : edge_after news p ≡ p.edge

same : (i : ℕ) (news : News) (p : Point) → KeepsTime p.timing → syn_acked_after news p ≡ false → Same news p
unfolding syn_acked_after taken_after early_after fin_after edge_after
same i (Comes segment) p keeps h =
    let k = or_parts p.syn_acked (counts p segment) h in
    let m : Moves (Comes segment) p 0 i Begins = stays_inside 0 i p segment keeps k.1 in
    record { syn_acked = k.0; taken = sym m.taken; fin = sym m.fin; early = sym m.early; edge = sym (minus_none p.edge (edge_after (Comes segment) p) m.edge) }
same i (Logged kept) p keeps h = record { syn_acked = h; taken = refl; fin = refl; early = refl; edge = refl }
same i Ticks p keeps h = record { syn_acked = h; taken = refl; fin = refl; early = refl; edge = refl }
same i Begins p keeps h = record { syn_acked = h; taken = refl; fin = refl; early = refl; edge = refl }

pub none_sent : (t e : ℕ) → max 0 (min t (min 0 e)) + 0 ≡ 0
none_sent t e = omega arith

pub proceeds_again : {State : Type 0} (service : Machine State) (server : Addr) (boot u i delta : ℕ) (news : News) (p q : Point) (sent : List Packet)
    → Proceeds u i delta p → NewsFit p news → LiveTurn service server boot news p q sent → q.sent ≤ 2 ^ 25 + 1 → KeepsTime q.timing → Proceeds u i delta q
unfolding sent_after sent_at_once
proceeds_again service server boot u i delta news p q sent g f l few keeps =
    let s : Stays u news p = stays u i delta news p g f in
    record {
      shift = g.shift ∙ ap (λ n. (n + u) % 2 ^ 32) (sym l.same.sisn);
      small = g.small;
      sisn = omega (arith, g.sisn, l.same.sisn);
      delta_fits = g.delta_fits;
      i_fits = g.i_fits;
      una = omega (arith, l.una, s.una);
      order = omega (arith, l.una, s.most, l.sent_units);
      sent = few;
      edge = omega (arith, l.edge, s.edge);
      wl2 = omega (arith, l.wl2, s.wl2);
      timing = keeps;
      syn_unacked = λ h.
          let k : Same news p = same i news p g.timing (sym l.syn_acked ∙ h) in
          let o = g.syn_unacked k.syn_acked in
          let edge : q.edge ≡ 0 = l.edge ∙ k.edge ∙ o.2 in
          let probe : probes news p ≡ false = middle_false (expires news p) p.syn_acked (not (nat_lt p.una p.sent)) k.syn_acked in (
            o.0,
            l.sent_units ∙ (λ j. max (o.1 j) (min (target service q) (min (edge j) (q.una + q.congestion.cwnd))) + (if probe j then 1 else 0))
                ∙ none_sent (target service q) (q.una + q.congestion.cwnd),
            edge,
            l.taken ∙ k.taken ∙ o.3,
            l.fin ∙ k.fin ∙ o.4,
            l.early ∙ k.early ∙ o.5,
            l.same.fetched ∙ o.6,
          );
    }
