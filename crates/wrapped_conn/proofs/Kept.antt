-- What news and the end of a turn leave of TCP, whatever comes.
use Rattle.std.proofs.Common.{◌≡◌, ℕ, ◌<◌, ◌≤◌, ◌+◌, ◌-◌, ◌^◌, Bool, true, false, List, ◌++◌, length, length-append, drop, max, refl, sym, subst, arith, ◌∙◌}
use Rattle.std.specs.Prelude.{ℤ, nat_abs, if◌then◌else◌}
use Rattle.std.proofs.lemmas.Int.{ints}
use Rattle.std.proofs.lemmas.Bool.{false≢true}
use Rattle.seq_arith.specs.Number.{offset_of}
use Rattle.tcp_rules.specs.Arrival.{is_new_ack}
use Rattle.tcp_rules.specs.Coming.{Came, StandsBehind}
use Rattle.tcp_rules.proofs.Coming.{stays_behind, comes_within}
use Rattle.tcp_rules.specs.Congestion.{Congestion, with_new_data, IsOpen}
use Rattle.tcp_rules.proofs.Congested.{new_data_open, duplicate_open}
use Rattle.tcp_buffers.specs.Near.{IsNearFirst}
use Rattle.tcp_endpoint.specs.declared.states.StateName.{StateName}
use Rattle.tcp_endpoint.specs.declared.states.StateName.TheVariants.{Closed, Listen, SynSent, SynReceived, Established, FinWait1, FinWait2, CloseWait, Closing, LastAck, TimeWait}
use Rattle.tcp_endpoint.specs.States.{is_listen, after_syn_acked, after_fin, after_fin_acked}
use Rattle.tcp_endpoint.specs.ReceiveHalf.{Receiving, taken, receive_edge, came, with_came, with_segment}
use Rattle.tcp_endpoint.specs.SendHalf.{Sending, with_syn_acked, acknowledged, moves_edge, timing_acknowledged, in_flight, duplicated, untimed_if}
use Rattle.tcp_endpoint.specs.Tcb.{Tcb}
use Rattle.ft_io.proofs.Choices.{holds_either_way}
use Rattle.tcp_rules.specs.Timing.{with_acknowledged}
use Rattle.endpoint_laws.specs.Laws.{KeepsTime, Bounds}
use Rattle.endpoint_laws.proofs.Timings.{choice_within, acknowledged_keeps, trip_keeps, by_ack_lost, duplicate_lost}
use Rattle.endpoint_laws.proofs.SendingLaw.{held_field}
use Rattle.wrapped_conn.specs.Sound.{has_peer, IsSoundTcp}
use Rattle.endpoint_laws.proofs.Bounding.{new_within, moved_within, near_of_choice, not_less}

-- a TCP that has gone on from another one, and no call of its user
pub record ProceedsFrom (e t : Tcb) : Type 0 where
  pub sound : IsSoundTcp t
  pub read : t.receiving.read ≡ e.receiving.read
  pub limit : t.receiving.limit ≡ e.receiving.limit
  pub more : length e.receiving.unread ≤ length t.receiving.unread
  pub iss : t.sending.iss ≡ e.sending.iss
  pub mss : t.sending.mss ≡ e.sending.mss
  pub closed : t.sending.closed ≡ e.sending.closed
  pub sent : e.sending.sent ≤ t.sending.sent
  pub held : e.sending.closed ≡ false → t.sending.una + length t.sending.held ≤ e.sending.una + length e.sending.held

pub stays : (e : Tcb) → IsSoundTcp e → ProceedsFrom e e
stays e s = record { sound = s; read = refl; limit = refl; more = omega arith; iss = refl; mss = refl; closed = refl; sent = omega arith; held = λ h. omega arith }

pub goes_if : (b : Bool) (e x y : Tcb) → ProceedsFrom e x → ProceedsFrom e y → ProceedsFrom e (if b then x else y)
goes_if true e x y p q = p
goes_if false e x y p q = q

pub goes_when : (b : Bool) (e x y : Tcb) → (b ≡ true → ProceedsFrom e x) → (b ≡ false → ProceedsFrom e y) → ProceedsFrom e (if b then x else y)
goes_when true e x y p q = p refl
goes_when false e x y p q = q refl

-- the states that follow have a peer too
pub fin_has_peer : (name : StateName) → has_peer name ≡ true → has_peer (after_fin name) ≡ true
fin_has_peer Closed h = refl
fin_has_peer Listen h = h
fin_has_peer SynSent h = h
fin_has_peer SynReceived h = refl
fin_has_peer Established h = refl
fin_has_peer FinWait1 h = refl
fin_has_peer FinWait2 h = refl
fin_has_peer CloseWait h = refl
fin_has_peer Closing h = refl
fin_has_peer LastAck h = refl
fin_has_peer TimeWait h = refl

pub acked_has_peer : (name : StateName) → has_peer name ≡ true → has_peer (after_fin_acked name) ≡ true
acked_has_peer Closed h = refl
acked_has_peer Listen h = h
acked_has_peer SynSent h = h
acked_has_peer SynReceived h = refl
acked_has_peer Established h = refl
acked_has_peer FinWait1 h = refl
acked_has_peer FinWait2 h = refl
acked_has_peer CloseWait h = refl
acked_has_peer Closing h = refl
acked_has_peer LastAck h = refl
acked_has_peer TimeWait h = refl

pub syn_acked_has_peer : (closed : Bool) → has_peer (after_syn_acked closed) ≡ true
syn_acked_has_peer true = refl
syn_acked_has_peer false = refl

pub not_listen : (name : StateName) → has_peer name ≡ true → is_listen name ≡ false
not_listen Closed h = refl
not_listen Listen h = absurd (false≢true h)
not_listen SynSent h = refl
not_listen SynReceived h = refl
not_listen Established h = refl
not_listen FinWait1 h = refl
not_listen FinWait2 h = refl
not_listen CloseWait h = refl
not_listen Closing h = refl
not_listen LastAck h = refl
not_listen TimeWait h = refl

-- what is held comes after the bytes taken
abbrev HoldsBehind : Receiving → Type 0
HoldsBehind r = StandsBehind (taken r) (receive_edge r) r.fin r.early

-- the receiving half after a segment's text and FIN
pub record TakesOn (r t : Receiving) : Type 0 where
  pub irs : t.irs ≡ r.irs
  pub read : t.read ≡ r.read
  pub limit : t.limit ≡ r.limit
  pub more : length r.unread ≤ length t.unread
  pub within : HoldsBehind r → taken t ≤ t.limit
  pub buffered : HoldsBehind r → length t.unread ≤ 65535
  pub behind : HoldsBehind r → HoldsBehind t

pub takes_segment : (r : Receiving) (first : ℤ) (text : List ℕ) (fin : Bool) → TakesOn r (with_segment r first text fin)
unfolding with_came
takes_segment r first text fin =
    let c : Came = came r first text fin in
    let size : length (r.unread ++ c.added) ≡ length r.unread + length c.added = length-append r.unread c.added in
    let most : HoldsBehind r → taken r + length c.added ≤ receive_edge r = comes_within (taken r) (receive_edge r) r.fin r.early first text fin in
    record {
      irs = refl;
      read = refl;
      limit = refl;
      more = omega (arith, size);
      within = λ h. omega (arith, size, most h);
      buffered = λ h. omega (arith, size, most h);
      behind = λ h.
          let order : taken r ≤ receive_edge r = omega (arith, h.text) in
          let P : ℕ → Type 0 = λ n. StandsBehind n (receive_edge r) c.fin c.early in
          let same : taken r + length c.added ≡ r.read + length (r.unread ++ c.added) = omega (arith, size) in
          subst P same (stays_behind (taken r) (receive_edge r) r.fin r.early first text fin order h);
    }

-- a later acknowledgement leaves the congestion window open
used_open : (new : Bool) (mss units : ℕ) (c : Congestion) → IsOpen mss c → IsOpen mss (if new then with_new_data mss units c else c)
used_open true mss units c o = new_data_open mss units c o
used_open false mss units c o = o

new_up : (una sent : ℕ) (z : ℤ) → is_new_ack una sent z ≡ true → una ≤ nat_abs z
new_up una sent z h = grind (arith, ints, h)

pub later_bounds : (r : Receiving) (s : Sending) (seq window : ℕ) (z : ℤ) → Bounds r s → IsNearFirst (offset_of r.irs seq) → seq < 2 ^ 32 → window ≤ 65535 → s.syn_acked ≡ true
    → Bounds r (acknowledged s seq z window)
unfolding acknowledged
later_bounds r s seq window z b near fits small is_syn_acked =
    let una : ℕ = if is_new_ack s.una s.sent z then nat_abs z else s.una in
    let una_sent : una ≤ s.sent = new_within s.una s.sent z b.order in
    let kept : una + length (if is_new_ack s.una s.sent z then drop (nat_abs z - s.una) s.held else s.held) ≡ max una (s.una + length s.held) =
    held_field s.una s.sent z s.held b.order in
    let moved : moves_edge s seq z ≡ true → (nat_abs z ≤ una) × (nat_abs z ≤ s.sent) = λ h. moved_within s.una s.sent z _ h in
    let time : KeepsTime (timing_acknowledged s z) =
    holds_either_way KeepsTime (is_new_ack s.una s.sent z) (with_acknowledged (nat_abs z - s.una) s.timing) s.timing (acknowledged_keeps (nat_abs z - s.una) s.timing b.timing) b.timing in
    record {
      limit = b.limit;
      taken = b.taken;
      early = b.early;
      order = una_sent;
      syn_unacked = b.syn_unacked;
      shut = λ h. absurd (false≢true (sym h ∙ is_syn_acked));
      flight = omega (arith, kept, b.flight);
      written = omega (arith, kept, b.written, una_sent, b.sent);
      sent = b.sent;
      wl1 = λ h. near_of_choice r.irs seq s.wl1 (moves_edge s seq z) near (b.wl1 is_syn_acked);
      wl1_fits = choice_within seq s.wl1 (2 ^ 32 - 1) (moves_edge s seq z) (λ h. omega (arith, fits)) b.wl1_fits;
      wl2 = choice_within (nat_abs z) s.wl2 una (moves_edge s seq z) (λ h. (moved h).0) (omega (arith, b.wl2, not_less s.una s.sent z));
      edge = choice_within (nat_abs z + window) s.edge (2 ^ 24 + 2 ^ 16 + 1) (moves_edge s seq z) (λ h. grind (arith, moved h, b.sent)) b.edge;
      reach = choice_within (nat_abs z + window) s.edge (una + 65535) (moves_edge s seq z) (λ h. omega (arith, (moved h).0, small)) (omega (arith, b.reach, not_less s.una s.sent z));
      congestion = used_open (is_new_ack s.una s.sent z) s.mss (nat_abs z - s.una) s.congestion b.congestion;
      lost = by_ack_lost (is_new_ack s.una s.sent z) false s.mss s.una (nat_abs z) s.sent s.congestion b.lost (new_up s.una s.sent z);
      timing = time;
      interval = holds_either_way (λ (n : ℕ). 1 ≤ n) (is_new_ack s.una s.sent z) (timing_acknowledged s z).base s.interval time.base b.interval;
    }

-- and so does a duplicate
pub duplicated_bounds : (r : Receiving) (s : Sending) → Bounds r s → Bounds r (duplicated s)
duplicated_bounds r s b = record {
  limit = b.limit;
  taken = b.taken;
  early = b.early;
  order = b.order;
  syn_unacked = b.syn_unacked;
  shut = b.shut;
  flight = b.flight;
  written = b.written;
  sent = b.sent;
  wl1 = b.wl1;
  wl1_fits = b.wl1_fits;
  wl2 = b.wl2;
  edge = b.edge;
  reach = b.reach;
  congestion = duplicate_open s.mss (in_flight s) s.congestion b.congestion;
  lost = duplicate_lost s.mss (in_flight s) s.congestion b.lost;
  timing = b.timing;
  interval = b.interval;
}

-- what is retransmitted isn't timed
pub untimed_bounds : (again : Bool) (r : Receiving) (s : Sending) → Bounds r s → Bounds r (untimed_if again s)
untimed_bounds again r s b = record {
  limit = b.limit;
  taken = b.taken;
  early = b.early;
  order = b.order;
  syn_unacked = b.syn_unacked;
  shut = b.shut;
  flight = b.flight;
  written = b.written;
  sent = b.sent;
  wl1 = b.wl1;
  wl1_fits = b.wl1_fits;
  wl2 = b.wl2;
  edge = b.edge;
  reach = b.reach;
  congestion = b.congestion;
  lost = b.lost;
  timing = trip_keeps again s.timing b.timing;
  interval = b.interval;
}

-- what is held, where no FIN is sent
pub held_stays : (s : Sending) (seq window : ℕ) (z : ℤ) → s.una ≤ s.sent → s.sent ≤ s.una + length s.held
    → (acknowledged s seq z window).una + length (acknowledged s seq z window).held ≤ s.una + length s.held
unfolding acknowledged
held_stays s seq window z order flight = omega (arith, held_field s.una s.sent z s.held order, new_within s.una s.sent z order)

-- and what an acknowledgement doesn't touch
pub kept_fields : (s : Sending) (seq window : ℕ) (z : ℤ) → ((acknowledged s seq z window).iss ≡ s.iss) × ((acknowledged s seq z window).closed ≡ s.closed)
    × ((acknowledged s seq z window).fin_sent ≡ s.fin_sent) × ((acknowledged s seq z window).sent ≡ s.sent) × ((acknowledged s seq z window).mss ≡ s.mss)
unfolding acknowledged
kept_fields s seq window z = (refl, refl, refl, refl, refl)

-- the first acknowledgement
pub first_bounds : (r : Receiving) (s : Sending) (seq window : ℕ) → Bounds r s → IsNearFirst (offset_of r.irs seq) → seq < 2 ^ 32 → window ≤ 65535 → s.syn_acked ≡ false
    → Bounds r (with_syn_acked s seq window)
first_bounds r s seq window b near fits small syn_unacked =
    let una : s.una ≡ 0 = omega (arith, b.order, b.syn_unacked syn_unacked) in
    record {
      limit = b.limit;
      taken = b.taken;
      early = b.early;
      order = omega arith;
      syn_unacked = λ h. refl;
      shut = λ h. absurd (false≢true (sym h));
      flight = omega arith;
      written = omega (arith, b.written, una);
      sent = omega arith;
      wl1 = λ h. near;
      wl1_fits = omega (arith, fits);
      wl2 = omega arith;
      edge = omega (arith, small);
      reach = omega (arith, small);
      congestion = b.congestion;
      lost = omega (arith, b.lost, b.syn_unacked syn_unacked);
      timing = b.timing;
      interval = b.timing.base;
    }
