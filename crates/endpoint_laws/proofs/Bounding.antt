-- The bounds on an endpoint's offsets are kept.
use Rattle.std.proofs.Common.{◌≡◌, ℕ, ◌<◌, ◌≤◌, ◌+◌, ◌-◌, ◌*◌, ◌^◌, Bool, true, false, not, List, ◌++◌, length, length-append, length-drop, drop, max, min, Option, Some, None, refl, sym, ap, subst, arith, ◌∙◌}
use Rattle.std.specs.Prelude.{ℤ, pos, ◌==◌, ◌&&◌, nat_abs, nat_lt, int_le, if◌then◌else◌}
use Rattle.std.proofs.lemmas.Int.{ints}
use Rattle.std.proofs.lemmas.Bool.{false≢true}
use Rattle.seq_arith.specs.Number.{offset_of}
use Rattle.tcp_rules.specs.Arrival.{int_eq, is_new_ack}
use Rattle.tcp_rules.specs.Coming.{Came, StandsBehind}
use Rattle.seq_arith.proofs.Gaps.{offset_leads}
use Rattle.tcp_rules.specs.Congestion.{Congestion, with_new_data, with_duplicate, with_expiry, IsOpen}
use Rattle.tcp_rules.proofs.Congested.{opens, new_data_open, duplicate_open, expiry_open}
use Rattle.tcp_rules.specs.Timing.{Timing, with_sent as with_unit_sent}
use Rattle.seq_arith.specs.Packet.{Segment, segment_size, has_syn, has_rst, has_ack}
use Rattle.ft_io.specs.declared.Addr.{Addr}
use Rattle.seq_arith.specs.Offset.{one_if, text_of, fin_of}
use Rattle.tcp_buffers.specs.Near.{IsNearFirst}
use Rattle.tcp_endpoint.specs.declared.states.StateName.{StateName}
use Rattle.tcp_endpoint.specs.declared.states.StateName.TheVariants.{Listen, SynSent}
use Rattle.tcp_endpoint.specs.States.{has_begun}
use Rattle.tcp_endpoint.specs.ReceiveHalf.{Receiving, taken, receive_edge, came, with_came, with_segment, read_out}
use Rattle.tcp_endpoint.specs.SendHalf.{Sending, with_segment_size, with_syn_acked, acknowledged, moves_edge, send_edge, sendable, expires, is_lost, ticked, timed, with_sent, with_fin_sent, with_unit_timed, timing_acknowledged, in_flight, IsShort}
use Rattle.tcp_endpoint.specs.Tcb.{Tcb, listening, listening_measuring, connecting, connecting_measuring}
use Rattle.tcp_endpoint.specs.Arrival.{first, ack_at, received, received_in, in_listen, begun, with_reset_reply, answered, in_syn_sent}
use Rattle.tcp_endpoint.specs.Output.{probes_text, probes_fin, with_probe, with_text_sent, new_fin, with_fin_out, with_timed, after_full, with_advertised, is_timed, with_turn_ended, flushed}
use Rattle.tcp_endpoint.specs.UserCalls.{after_tick, timer_ticked, waited, after_read, after_write}
use Rattle.endpoint_laws.specs.Laws.{counts, acknowledges, is_duplicate, congestion_by, timing_by, taken_by, KeepsTime, Bounds, IsBounded, IsUsual}
use Rattle.endpoint_laws.proofs.TakenLaw.{taken_law, counted}
use Rattle.endpoint_laws.proofs.SendingLaw.{new_test, sending_is, held_field, near_of_counts}
use Rattle.endpoint_laws.proofs.Timings.{choice_within, initial_keeps, acknowledged_keeps, tick_keeps, trip_keeps, backoff_keeps, unit_keeps, by_ack_lost, expiry_lost}
use Rattle.tcp_rules.proofs.Coming.{stays_behind, comes_within, behind_within, behind_up, nothing_behind}
use Rattle.ft_io.proofs.Booleans.{left_true, right_true}
use Rattle.ft_io.proofs.Choices.{holds_either_way}

-- what is held comes after the bytes taken
abbrev pub HoldsBehind : Receiving → Type 0
HoldsBehind r = StandsBehind (taken r) (receive_edge r) r.fin r.early

pub bounded_is_short : (e : Tcb) → IsBounded e → IsShort e.sending
bounded_is_short e b = record { sent = grind (arith, b.sent); wl2 = grind (arith, b.wl2, b.order, b.sent) }

some_base : (measures : Bool) → 1 ≤ (if measures then 10 else 1)
some_base true = omega arith
some_base false = omega arith

pub bounded_at_listen_measuring : (measures : Bool) (local : Addr) (iss limit : ℕ) → limit ≤ 2 ^ 24 → IsBounded (listening_measuring measures local iss limit)
unfolding listening_measuring listening
bounded_at_listen_measuring measures local iss limit small = record {
  limit = grind arith;
  taken = omega arith;
  early = nothing_behind 0 (min 65535 (min limit (2 ^ 30))) false (omega arith);
  order = omega arith;
  syn_unacked = λ h. refl;
  shut = λ h. refl;
  flight = omega arith;
  written = omega arith;
  sent = omega arith;
  wl1 = λ h. absurd (false≢true h);
  wl1_fits = omega arith;
  wl2 = omega arith;
  edge = omega arith;
  reach = omega arith;
  congestion = opens measures 536 (omega arith);
  lost = omega arith;
  timing = initial_keeps measures;
  interval = some_base measures;
}

pub bounded_at_listen : (local : Addr) (iss limit : ℕ) → limit ≤ 2 ^ 24 → IsBounded (listening local iss limit)
unfolding listening_measuring listening
bounded_at_listen local iss limit small = bounded_at_listen_measuring false local iss limit small

-- a segment has room for text, whatever the peer's SYN offers
some_size : (mss : Option ℕ) → 1 ≤ segment_size mss
some_size (Some mss) = omega arith
some_size None = omega arith

-- the bounds say nothing of a peer's number before the SYN is acknowledged
syn_unacked_irs : (r : Receiving) (s : Sending) (irs mss : ℕ) → 1 ≤ mss → s.syn_acked ≡ false → Bounds r s
    → Bounds (record r { irs = irs }) (with_segment_size mss s)
syn_unacked_irs r s irs mss some syn_unacked b = record {
  limit = b.limit;
  taken = b.taken;
  early = b.early;
  order = b.order;
  syn_unacked = b.syn_unacked;
  shut = b.shut;
  flight = b.flight;
  written = b.written;
  sent = b.sent;
  wl1 = λ h. absurd (false≢true (sym syn_unacked ∙ h));
  wl1_fits = b.wl1_fits;
  wl2 = b.wl2;
  edge = b.edge;
  reach = b.reach;
  congestion = opens s.congestion.recovers mss some;
  lost = omega arith;
  timing = b.timing;
  interval = b.interval;
}

bounded_if : (b : Bool) (x y : Tcb) → IsBounded x → IsBounded y → IsBounded (if b then x else y)
bounded_if true x y on off = on
bounded_if false x y on off = off

in_listen_bounded : (e : Tcb) (p : Segment) → e.sending.syn_acked ≡ false → IsBounded e → IsBounded (in_listen e p)
unfolding in_listen begun with_reset_reply
in_listen_bounded e p syn_unacked b =
    let begins : IsBounded (begun e p) = syn_unacked_irs e.receiving e.sending _ _ (some_size p.head.mss) syn_unacked b in
    bounded_if (has_rst p) _ _ b (bounded_if (has_ack p) _ _ b (bounded_if (has_syn p) _ _ begins b))

pub bounded_in_listen : (e : Tcb) (p : Segment) → e.name ≡ Listen → e.sending.syn_acked ≡ false → IsBounded e → IsBounded (received e p)
unfolding received
bounded_in_listen e p name syn_unacked b =
    let P : StateName → Type 0 = λ n. IsBounded (received_in n e p) in subst P (sym name) (in_listen_bounded e p syn_unacked b)

-- a segment: the receiving half
pub record StaysWithin (before after : Receiving) : Type 0 where
  pub irs : after.irs ≡ before.irs
  pub limit : after.limit ≡ before.limit
  pub taken : taken before ≤ before.limit → HoldsBehind before → taken after ≤ after.limit
  pub behind : HoldsBehind before → HoldsBehind after

pub came_within : (r : Receiving) (first : ℤ) (text : List ℕ) (fin : Bool) → StaysWithin r (with_segment r first text fin)
unfolding with_came
came_within r first text fin =
    let c : Came = came r first text fin in
    let size : taken (with_segment r first text fin) ≡ taken r + length c.added = omega (arith, length-append r.unread c.added) in
    record {
      irs = refl;
      limit = refl;
      taken = λ h behind. let most = comes_within (taken r) (receive_edge r) r.fin r.early first text fin behind in omega (arith, size, most);
      behind = λ behind.
          let order : taken r ≤ receive_edge r = behind_within (taken r) (receive_edge r) r.fin r.early behind in
          let P : ℕ → Type 0 = λ n. StandsBehind n (receive_edge r) c.fin c.early in
          subst P (sym size) (stays_behind (taken r) (receive_edge r) r.fin r.early first text fin order behind);
    }

pub taken_within : (e : Tcb) (p : Segment) → StaysWithin e.receiving (taken_by e p)
unfolding taken_by
taken_within e p =
    holds_either_way (λ (r : Receiving). StaysWithin e.receiving r) (counts e p) (with_segment e.receiving (first e p) (text_of p) (fin_of p)) e.receiving
    (came_within e.receiving (first e p) (text_of p) (fin_of p)) (record { irs = refl; limit = refl; taken = λ h behind. h; behind = λ behind. behind })

-- the congestion window and the threshold stay above 0
by_duplicate_open : (duplicate : Bool) (mss flight : ℕ) (c : Congestion) → IsOpen mss c → IsOpen mss (if duplicate then with_duplicate mss flight c else c)
by_duplicate_open true mss flight c o = duplicate_open mss flight c o
by_duplicate_open false mss flight c o = o

by_ack_open : (new duplicate : Bool) (mss units flight : ℕ) (c : Congestion) → IsOpen mss c
    → IsOpen mss (if new then with_new_data mss units c else (if duplicate then with_duplicate mss flight c else c))
by_ack_open true duplicate mss units flight c o = new_data_open mss units c o
by_ack_open false duplicate mss units flight c o = by_duplicate_open duplicate mss flight c o

by_segment_open : (e : Tcb) (p : Segment) → IsBounded e → IsOpen e.sending.mss (congestion_by e p)
by_segment_open e p b =
    by_ack_open (acknowledges e p && nat_lt e.sending.una (nat_abs (ack_at e p))) (is_duplicate e p) e.sending.mss _ _ e.sending.congestion b.congestion

less_up : (m n : ℕ) → nat_lt m n ≡ true → m ≤ n
less_up m n h = grind arith

by_segment_lost : (e : Tcb) (p : Segment) → IsBounded e → IsUsual e p → counts e p ≡ true
    → (congestion_by e p).lost ≤ e.sending.sent - (if is_new_ack e.sending.una e.sending.sent (ack_at e p) then nat_abs (ack_at e p) else e.sending.una)
by_segment_lost e p b usual does_count =
    let s : Sending = e.sending in
    let ack : ℕ = nat_abs (ack_at e p) in
    let new : Bool = acknowledges e p && nat_lt s.una ack in
    let is_new : is_new_ack s.una s.sent (ack_at e p) ≡ new =
    new_test s.una s.sent (ack_at e p) (counted e p does_count).sent ∙ ap (λ v. v && int_le (pos 0) (ack_at e p) && nat_lt s.una ack) (sym does_count) in
    subst (λ (v : Bool). (congestion_by e p).lost ≤ s.sent - (if v then ack else s.una)) (sym is_new)
    (by_ack_lost new (is_duplicate e p) s.mss s.una ack s.sent s.congestion b.lost (λ h. less_up s.una ack (right_true (acknowledges e p) (nat_lt s.una ack) h)))

-- the estimate, and the interval
by_segment_keeps : (e : Tcb) (p : Segment) (una : ℕ) → IsBounded e → KeepsTime (timing_by e p una)
by_segment_keeps e p una b = trip_keeps _ _ (acknowledged_keeps (una - e.sending.una) e.sending.timing b.timing)

choice_some : (x y : ℕ) (b : Bool) → 1 ≤ x → 1 ≤ y → 1 ≤ (if b then x else y)
choice_some x y true p q = p
choice_some x y false p q = q

acknowledged_some : (s : Sending) (z : ℤ) → KeepsTime s.timing → 1 ≤ (timing_acknowledged s z).base
acknowledged_some s z k =
    holds_either_way (λ (t : Timing). 1 ≤ t.base) (is_new_ack s.una s.sent z) _ s.timing (acknowledged_keeps (nat_abs z - s.una) s.timing k).base k.base

-- the sending half, for a later acknowledgement
pub new_within : (una sent : ℕ) (z : ℤ) → una ≤ sent → (if is_new_ack una sent z then nat_abs z else una) ≤ sent
new_within una sent z h = grind (arith, ints)

pub moved_within : (una sent : ℕ) (z : ℤ) (c : Bool) → (int_le (pos una) z && int_le z (pos sent) && c) ≡ true
    → (nat_abs z ≤ (if is_new_ack una sent z then nat_abs z else una)) × (nat_abs z ≤ sent)
moved_within una sent z c h = (grind (arith, ints), grind (arith, ints))

pub near_of_choice : (irs x y : ℕ) (b : Bool) → IsNearFirst (offset_of irs x) → IsNearFirst (offset_of irs y) → IsNearFirst (offset_of irs (if b then x else y))
near_of_choice irs x y true p q = p
near_of_choice irs x y false p q = q

pub not_less : (una sent : ℕ) (z : ℤ) → una ≤ (if is_new_ack una sent z then nat_abs z else una)
not_less una sent z = grind (arith, ints)

later_bounds : (r : Receiving) (s : Sending) (seq window : ℕ) (z : ℤ) (c : Congestion) (t : Timing) → Bounds r s → IsOpen s.mss c
    → c.lost ≤ s.sent - (if is_new_ack s.una s.sent z then nat_abs z else s.una) → KeepsTime t → IsNearFirst (offset_of r.irs seq)
    → seq < 2 ^ 32 → window ≤ 65535 → s.syn_acked ≡ true → (r' : Receiving) → r'.limit ≤ 2 ^ 24 → taken r' ≤ r'.limit → HoldsBehind r' → r'.irs ≡ r.irs
    → Bounds r' (record (acknowledged s seq z window) { congestion = c; timing = t })
unfolding acknowledged
later_bounds r s seq window z c t b wide few keeps near fits small is_syn_acked r' limit within behind irs =
    let una : ℕ = if is_new_ack s.una s.sent z then nat_abs z else s.una in
    let una_sent : una ≤ s.sent = new_within s.una s.sent z b.order in
    let kept : una + length (if is_new_ack s.una s.sent z then drop (nat_abs z - s.una) s.held else s.held) ≡ max una (s.una + length s.held) =
    held_field s.una s.sent z s.held b.order in
    let moved : moves_edge s seq z ≡ true → (nat_abs z ≤ una) × (nat_abs z ≤ s.sent) = λ h. moved_within s.una s.sent z _ h in
    record {
      limit = limit;
      taken = within;
      early = behind;
      order = una_sent;
      syn_unacked = b.syn_unacked;
      shut = λ h. absurd (false≢true (sym h ∙ is_syn_acked));
      flight = omega (arith, kept, b.flight);
      written = omega (arith, kept, b.written, una_sent, b.sent);
      sent = b.sent;
      wl1 = λ h. let P : ℕ → Type 0 = λ n. IsNearFirst (offset_of n (if moves_edge s seq z then seq else s.wl1)) in
          subst P (sym irs) (near_of_choice r.irs seq s.wl1 (moves_edge s seq z) near (b.wl1 is_syn_acked));
      wl1_fits = choice_within seq s.wl1 (2 ^ 32 - 1) (moves_edge s seq z) (λ h. omega (arith, fits)) b.wl1_fits;
      wl2 = choice_within (nat_abs z) s.wl2 una (moves_edge s seq z) (λ h. (moved h).0) (omega (arith, b.wl2, not_less s.una s.sent z));
      edge = choice_within (nat_abs z + window) s.edge (2 ^ 24 + 2 ^ 16 + 1) (moves_edge s seq z) (λ h. grind (arith, moved h, b.sent)) b.edge;
      reach = choice_within (nat_abs z + window) s.edge (una + 65535) (moves_edge s seq z) (λ h. omega (arith, (moved h).0, small)) (omega (arith, b.reach, not_less s.una s.sent z));
      congestion = wide;
      lost = few;
      timing = keeps;
      interval = choice_some (timing_acknowledged s z).base s.interval (is_new_ack s.una s.sent z) (acknowledged_some s z b.timing) b.interval;
    }

first_bounds : (r : Receiving) (s : Sending) (seq window : ℕ) → Bounds r s → IsNearFirst (offset_of r.irs seq) → seq < 2 ^ 32 → window ≤ 65535 → s.syn_acked ≡ false
    → (r' : Receiving) → r'.limit ≤ 2 ^ 24 → taken r' ≤ r'.limit → HoldsBehind r' → r'.irs ≡ r.irs → Bounds r' (with_syn_acked s seq window)
first_bounds r s seq window b near fits small syn_unacked r' limit within behind irs =
    let una : s.una ≡ 0 = omega (arith, b.order, b.syn_unacked syn_unacked) in
    record {
      limit = limit;
      taken = within;
      early = behind;
      order = omega arith;
      syn_unacked = λ h. refl;
      shut = λ h. absurd (false≢true (sym h));
      flight = omega arith;
      written = omega (arith, b.written, una);
      sent = omega arith;
      wl1 = λ h. let P : ℕ → Type 0 = λ n. IsNearFirst (offset_of n seq) in subst P (sym irs) near;
      wl1_fits = omega (arith, fits);
      wl2 = omega arith;
      edge = omega (arith, small);
      reach = omega (arith, small);
      congestion = b.congestion;
      lost = omega (arith, b.lost, b.syn_unacked syn_unacked);
      timing = b.timing;
      interval = b.timing.base;
    }

pub other_bounds : (r : Receiving) (s : Sending) → Bounds r s → (r' : Receiving) → r'.limit ≤ 2 ^ 24 → taken r' ≤ r'.limit → HoldsBehind r' → r'.irs ≡ r.irs → Bounds r' s
other_bounds r s b r' limit within behind irs = record {
  limit = limit;
  taken = within;
  early = behind;
  order = b.order;
  syn_unacked = b.syn_unacked;
  shut = b.shut;
  flight = b.flight;
  written = b.written;
  sent = b.sent;
  wl1 = λ h. let P : ℕ → Type 0 = λ n. IsNearFirst (offset_of n s.wl1) in subst P (sym irs) (b.wl1 h);
  wl1_fits = b.wl1_fits;
  wl2 = b.wl2;
  edge = b.edge;
  reach = b.reach;
  congestion = b.congestion;
  lost = b.lost;
  timing = b.timing;
  interval = b.interval;
}

chosen_bounds : (r : Receiving) (x y z : Sending) (c o : Bool) → (c ≡ true → o ≡ true → Bounds r x) → (c ≡ true → o ≡ false → Bounds r y) → Bounds r z
    → Bounds r (if c then (if o then x else y) else z)
chosen_bounds r x y z true true p q s = p refl refl
chosen_bounds r x y z true false p q s = q refl refl
chosen_bounds r x y z false o p q s = s

pub bounded_by_segment : (e : Tcb) (p : Segment) → has_begun e.name ≡ true → IsBounded e → IsUsual e p → IsBounded (received e p)
bounded_by_segment e p begun b usual =
    let r' : Receiving = taken_by e p in
    let w : StaysWithin e.receiving r' = taken_within e p in
    let limit : r'.limit ≤ 2 ^ 24 = omega (arith, w.limit, b.limit) in
    let within : taken r' ≤ r'.limit = w.taken b.taken b.early in
    let behind : HoldsBehind r' = w.behind b.early in
    let bounds = chosen_bounds r' _ _ _ (counts e p) e.sending.syn_acked
    (λ does h. later_bounds e.receiving e.sending p.head.seq p.head.window (ack_at e p) (congestion_by e p) _ b (by_segment_open e p b) (by_segment_lost e p b usual does)
    (by_segment_keeps e p _ b)
    (near_of_counts e p b usual does) usual.seq usual.window h r' limit within behind w.irs)
    (λ does h. first_bounds e.receiving e.sending p.head.seq p.head.window b (near_of_counts e p b usual does) usual.seq usual.window h r' limit within behind w.irs)
    (other_bounds e.receiving e.sending b r' limit within behind w.irs) in
    let P : Receiving → Type 0 = λ r. Bounds r (received e p).sending in
    let Q : Sending → Type 0 = λ s. Bounds r' s in
    subst P (sym (taken_law e p begun b usual)) (subst Q (sym (sending_is e p begun b usual)) bounds)

-- the end of a turn
sent_more : (r : Receiving) (s : Sending) (n : ℕ) → Bounds r s → s.sent + n ≤ s.una + length s.held + one_if s.fin_sent → s.sent + n ≤ 2 ^ 24 + one_if s.fin_sent
    → (s.syn_acked ≡ false → n ≡ 0) → Bounds r (with_sent s n)
sent_more r s n b flight sent syn_unacked = record {
  limit = b.limit;
  taken = b.taken;
  early = b.early;
  order = omega (arith, b.order);
  syn_unacked = λ h. omega (arith, b.syn_unacked h, syn_unacked h);
  shut = b.shut;
  flight = flight;
  written = b.written;
  sent = sent;
  wl1 = b.wl1;
  wl1_fits = b.wl1_fits;
  wl2 = b.wl2;
  edge = b.edge;
  reach = b.reach;
  congestion = b.congestion;
  lost = omega (arith, b.lost);
  timing = b.timing;
  interval = b.interval;
}

fin_more : (r : Receiving) (s : Sending) → Bounds r s → s.fin_sent ≡ false → s.syn_acked ≡ true → Bounds r (with_fin_sent s)
fin_more r s b unsent is_syn_acked =
    let flight : s.sent ≤ s.una + length s.held = omega (arith, b.flight, ap one_if unsent) in
    let written : s.una + length s.held ≤ 2 ^ 24 = omega (arith, b.written, ap one_if unsent) in
    record {
      limit = b.limit;
      taken = b.taken;
      early = b.early;
      order = omega (arith, b.order);
      syn_unacked = λ h. absurd (false≢true (sym h ∙ is_syn_acked));
      shut = λ h. absurd (false≢true (sym h ∙ is_syn_acked));
      flight = omega (arith, flight);
      written = omega (arith, written);
      sent = omega (arith, flight, written);
      wl1 = b.wl1;
      wl1_fits = b.wl1_fits;
      wl2 = b.wl2;
      edge = b.edge;
      reach = b.reach;
      congestion = b.congestion;
      lost = omega (arith, b.lost);
      timing = b.timing;
      interval = b.interval;
    }

timer_bounds : (r : Receiving) (s : Sending) (c : Congestion) (t : Timing) (interval rest : ℕ) → Bounds r s → IsOpen s.mss c → c.lost ≤ s.sent - s.una
    → KeepsTime t → 1 ≤ interval → Bounds r (record s { congestion = c; timing = t; interval = interval; rest = rest })
timer_bounds r s c t interval rest b wide few keeps some = record {
  limit = b.limit;
  taken = b.taken;
  early = b.early;
  order = b.order;
  syn_unacked = b.syn_unacked;
  shut = b.shut;
  flight = b.flight;
  written = b.written;
  sent = b.sent;
  wl1 = b.wl1;
  wl1_fits = b.wl1_fits;
  wl2 = b.wl2;
  edge = b.edge;
  reach = b.reach;
  congestion = wide;
  lost = few;
  timing = keeps;
  interval = some;
}

bounds_if : (r : Receiving) (b : Bool) (x y : Sending) → (b ≡ true → Bounds r x) → (b ≡ false → Bounds r y) → Bounds r (if b then x else y)
bounds_if r true x y p q = p refl
bounds_if r false x y p q = q refl

expired_open : (lost : Bool) (mss flight : ℕ) (first : Bool) (c : Congestion) → IsOpen mss c → IsOpen mss (if lost then with_expiry mss flight first c else c)
expired_open true mss flight first c o = expiry_open mss flight first c o
expired_open false mss flight first c o = o

expired_lost : (lost : Bool) (mss flight : ℕ) (first : Bool) (c : Congestion) → c.lost ≤ flight → (if lost then with_expiry mss flight first c else c).lost ≤ flight
expired_lost true mss flight first c few = expiry_lost mss flight first c
expired_lost false mss flight first c few = few

longer : (n : ℕ) → 1 ≤ n → 1 ≤ min 64 (2 * n)
longer n some = omega (arith, some)

ticked_bounds : (r : Receiving) (s : Sending) → Bounds r s → Bounds r (ticked s)
ticked_bounds r s b =
    bounds_if r (expires s) _ _
    (λ h. timer_bounds r s _ _ _ _ b (expired_open (is_lost s) s.mss _ _ s.congestion b.congestion) (expired_lost (is_lost s) s.mss _ _ s.congestion b.lost)
    (backoff_keeps (min 64 (2 * s.interval)) s.timing (longer s.interval b.interval) b.timing) (longer s.interval b.interval))
    (λ h. timer_bounds r s _ _ _ _ b b.congestion b.lost (tick_keeps s.timing b.timing) b.interval)

pub bounded_by_tick : (e : Tcb) → IsBounded e → IsBounded (after_tick e)
unfolding after_tick timer_ticked waited
bounded_by_tick e b = ticked_bounds e.receiving e.sending b

-- reading moves the receive edge up, and leaves the end of the bytes taken where it is
read_behind : (r : Receiving) (n : ℕ) → n ≤ length r.unread → HoldsBehind r → HoldsBehind (read_out r n)
read_behind r n some behind =
    let same : taken (read_out r n) ≡ taken r = omega (arith, some, length-drop n r.unread) in
    let P : ℕ → Type 0 = λ k. StandsBehind k (receive_edge (read_out r n)) r.fin r.early in
    subst P (sym same) (behind_up (taken r) (receive_edge r) (receive_edge (read_out r n)) r.fin r.early (omega arith) behind)

pub bounded_by_read : (e : Tcb) (n : ℕ) → n ≤ length e.receiving.unread → IsBounded e → IsBounded (after_read e n)
bounded_by_read e n some b =
    other_bounds e.receiving e.sending b (after_read e n).receiving b.limit (omega (arith, b.taken, length-drop n e.receiving.unread))
    (read_behind e.receiving n some b.early) refl

pub bounded_by_more : (e : Tcb) (bytes : List ℕ) → e.sending.una + length e.sending.held + length bytes ≤ 2 ^ 24 + one_if e.sending.fin_sent → IsBounded e
    → IsBounded (after_write e bytes)
bounded_by_more e bytes few b =
    let more : length (e.sending.held ++ bytes) ≡ length e.sending.held + length bytes = length-append e.sending.held bytes in
    record {
      limit = b.limit;
      taken = b.taken;
      early = b.early;
      order = b.order;
      syn_unacked = b.syn_unacked;
      shut = b.shut;
      flight = omega (arith, more, b.flight);
      written = omega (arith, more, few);
      sent = b.sent;
      wl1 = b.wl1;
      wl1_fits = b.wl1_fits;
      wl2 = b.wl2;
      edge = b.edge;
      reach = b.reach;
      congestion = b.congestion;
      lost = b.lost;
      timing = b.timing;
      interval = b.interval;
    }

pub bounded_by_write : (e : Tcb) (bytes : List ℕ) → e.sending.una + length e.sending.held + length bytes ≤ 2 ^ 24 → IsBounded e → IsBounded (after_write e bytes)
bounded_by_write e bytes few b = bounded_by_more e bytes (omega (arith, few)) b

both : (P : Bool → Type 0) (b : Bool) → P true → P false → P b
both P true p q = p
both P false p q = q

pub two_more_off : (t u : Bool) → (false && t && u) ≡ true → false ≡ true
two_more_off t u h = h

two_off : (d t : Bool) → (false && not d && t) ≡ true → false ≡ true
two_off d t h = h

pub three_off : (c d t : Bool) → (false && c && d && t) ≡ true → false ≡ true
three_off c d t h = h

pub four_off : (b c d t : Bool) → (false && b && c && d && t) ≡ true → false ≡ true
four_off b c d t h = h

-- what the tests of a flush say
pub text_facts : (a b c d t : Bool) → (a && b && c && not d && t) ≡ true → (c ≡ true) × (d ≡ false) × (t ≡ true)
text_facts true true true false t h = (refl, refl, h)
text_facts true true true true t h = absurd (false≢true h)
text_facts true true false d t h = absurd (false≢true (two_off d t h))
text_facts true false c d t h = absurd (false≢true (three_off c d t h))
text_facts false b c d t h = absurd (false≢true (four_off b c d t h))

fin_facts : (a b c d t u : Bool) → (a && b && c && not d && t && u) ≡ true → (c ≡ true) × (d ≡ false)
fin_facts a b c d t u h = let f = text_facts a b c d t (left_true (a && b && c && not d && t) u h) in (f.0, f.1)

new_fin_facts : (a b c d t u : Bool) → (a && (b && c && not d && t && u)) ≡ true → (b ≡ true) × (d ≡ false)
new_fin_facts true true true false t u h = (refl, refl)
new_fin_facts true true true true t u h = absurd (false≢true (two_more_off t u h))
new_fin_facts true true false d t u h = absurd (false≢true (three_off (not d) t u h))
new_fin_facts true false c d t u h = absurd (false≢true (four_off c (not d) t u h))
new_fin_facts false b c d t u h = absurd (false≢true h)

probe_bounds : (e : Tcb) → IsBounded e → IsBounded (with_probe e)
unfolding with_probe
probe_bounds e b =
    let s : Sending = e.sending in
    bounds_if e.receiving (probes_text e) _ _
    (λ h. let f = text_facts e.probe (has_begun e.name) s.syn_acked s.fin_sent (nat_lt (s.sent - s.una) (length s.held)) h in
    let room : s.sent + 1 ≤ s.una + length s.held = grind (arith, f.2, b.order) in
    sent_more e.receiving s 1 b (omega arith) (omega (arith, b.written, ap one_if f.1)) (λ syn_unacked. absurd (false≢true (sym syn_unacked ∙ f.0))))
    (λ h. bounds_if e.receiving (probes_fin e) _ _
    (λ k. let f = fin_facts e.probe (has_begun e.name) s.syn_acked s.fin_sent (not (nat_lt (s.sent - s.una) (length s.held))) s.closed k in
    fin_more e.receiving s b f.1 f.0)
    (λ k. b))

sendable_within : (syn_acked fin_sent : Bool) (una len edge sent : ℕ) → sent ≤ una + len + one_if fin_sent
    → sent + (if syn_acked && not fin_sent then min (una + len) edge - sent else 0) ≤ una + len + one_if fin_sent
sendable_within true true una len edge sent h = omega arith
sendable_within true false una len edge sent h = omega arith
sendable_within false fin_sent una len edge sent h = omega arith

sendable_short : (syn_acked fin_sent : Bool) (una len edge sent : ℕ) → una + len ≤ 2 ^ 24 + one_if fin_sent → sent ≤ 2 ^ 24 + one_if fin_sent
    → sent + (if syn_acked && not fin_sent then min (una + len) edge - sent else 0) ≤ 2 ^ 24 + one_if fin_sent
sendable_short true true una len edge sent w h = omega arith
sendable_short true false una len edge sent w h = omega arith
sendable_short false fin_sent una len edge sent w h = omega arith

sendable_none : (syn_acked fin_sent : Bool) (n : ℕ) → syn_acked ≡ false → (if syn_acked && not fin_sent then n else 0) ≡ 0
sendable_none true fin_sent n h = absurd (false≢true (sym h))
sendable_none false fin_sent n h = refl

text_bounds : (e : Tcb) → IsBounded e → IsBounded (with_text_sent e)
unfolding with_text_sent
text_bounds e b =
    let s : Sending = e.sending in
    let sent_by : Bool → Type 0 = λ v. Bounds e.receiving (with_sent s (if v then sendable s else 0)) in
    both sent_by (has_begun e.name)
    (sent_more e.receiving s (sendable s) b (sendable_within s.syn_acked s.fin_sent s.una (length s.held) (send_edge s) s.sent b.flight)
    (sendable_short s.syn_acked s.fin_sent s.una (length s.held) (send_edge s) s.sent b.written b.sent) (sendable_none s.syn_acked s.fin_sent _))
    (sent_more e.receiving s 0 b (omega (arith, b.flight)) (omega (arith, b.sent)) (λ h. refl))

fin_bounds : (e : Tcb) → IsBounded e → IsBounded (with_fin_out e)
unfolding with_fin_out
fin_bounds e b =
    let s : Sending = e.sending in
    bounds_if e.receiving (new_fin e) _ _
    (λ h. let f = new_fin_facts (has_begun e.name) s.syn_acked s.closed s.fin_sent (s.sent == s.una + length s.held) (nat_lt s.sent (send_edge s)) h in
    fin_more e.receiving s b f.1 f.0)
    (λ h. b)

timed_bounds : (r : Receiving) (s : Sending) (runs : Bool) → Bounds r s → Bounds r (timed runs s)
timed_bounds r s runs b =
    bounds_if r runs _ _
    (λ h. bounds_if r (s.rest == 0) _ _ (λ k. timer_bounds r s _ _ _ _ b b.congestion b.lost b.timing b.timing.base) (λ k. b))
    (λ h. timer_bounds r s _ _ _ _ b b.congestion b.lost b.timing b.timing.base)

some_more : (n : ℕ) → 1 ≤ n + 1
some_more n = omega arith

trip_bounds : (r : Receiving) (s : Sending) (place : ℕ) → Bounds r s → Bounds r (with_unit_timed place s)
trip_bounds r s place b =
    timer_bounds r s s.congestion (with_unit_timed place s).timing s.interval s.rest b b.congestion b.lost
    (holds_either_way KeepsTime (nat_lt place (in_flight s)) (with_unit_sent (place + 1) s.timing) s.timing
    (unit_keeps (place + 1) s.timing (some_more place) b.timing) b.timing)
    b.interval

pub bounded_by_flush : (e : Tcb) → IsBounded e → IsBounded (flushed e)
unfolding flushed with_turn_ended with_advertised after_full with_timed
bounded_by_flush e b =
    let sent : Tcb = with_fin_out (with_text_sent (with_probe e)) in
    let after : Tcb = with_timed (in_flight (with_probe e).sending) sent in
    let bounds : IsBounded sent = fin_bounds _ (text_bounds _ (probe_bounds e b)) in
    timed_bounds after.receiving after.sending (is_timed after) (trip_bounds sent.receiving sent.sending (in_flight (with_probe e).sending) bounds)

-- an active open
pub bounded_at_connect_measuring : (measures : Bool) (local remote : Addr) (iss limit : ℕ) → limit ≤ 2 ^ 24
    → IsBounded (connecting_measuring measures local remote iss limit)
unfolding connecting_measuring listening_measuring listening
bounded_at_connect_measuring measures local remote iss limit small = bounded_at_listen_measuring measures local iss limit small

pub bounded_at_connect : (local remote : Addr) (iss limit : ℕ) → limit ≤ 2 ^ 24 → IsBounded (connecting local remote iss limit)
unfolding connecting listening
bounded_at_connect local remote iss limit small = bounded_at_listen local iss limit small

-- the peer's SYN stands at -1
syn_near : (seq : ℕ) → seq < 2 ^ 32 → IsNearFirst (offset_of seq seq)
syn_near seq fits = (omega (arith, ints, offset_leads seq seq fits), omega (arith, ints, offset_leads seq seq fits))

answered_bounds : (r : Receiving) (s : Sending) (seq window mss : ℕ) → Bounds r s → 1 ≤ mss → seq < 2 ^ 32 → window ≤ 65535 → s.syn_acked ≡ false
    → Bounds (record r { irs = seq }) (with_syn_acked (with_segment_size mss s) seq window)
answered_bounds r s seq window mss b some fits small syn_unacked =
    let una : s.una ≡ 0 = omega (arith, b.order, b.syn_unacked syn_unacked) in
    record {
      limit = b.limit;
      taken = b.taken;
      early = b.early;
      order = omega arith;
      syn_unacked = λ h. refl;
      shut = λ h. absurd (false≢true (sym h));
      flight = omega arith;
      written = omega (arith, b.written, una);
      sent = omega arith;
      wl1 = λ h. syn_near seq fits;
      wl1_fits = omega (arith, fits);
      wl2 = omega arith;
      edge = omega (arith, small);
      reach = omega (arith, small);
      congestion = opens s.congestion.recovers mss some;
      lost = omega arith;
      timing = b.timing;
      interval = b.timing.base;
    }

in_syn_sent_bounded : (e : Tcb) (p : Segment) → e.sending.syn_acked ≡ false → IsBounded e → p.head.seq < 2 ^ 32 → p.head.window ≤ 65535 → IsBounded (in_syn_sent e p)
unfolding in_syn_sent answered with_reset_reply
in_syn_sent_bounded e p syn_unacked b fits small =
    let yes : IsBounded (answered e p) = answered_bounds e.receiving e.sending p.head.seq p.head.window _ b (some_size p.head.mss) fits small syn_unacked in
    bounded_if (has_ack p) _ _
    (bounded_if (int_eq (ack_at e p) (pos 0)) _ _ (bounded_if (has_rst p) _ _ b (bounded_if (has_syn p) _ _ yes b)) (bounded_if (has_rst p) _ _ b b))
    b

pub bounded_in_syn_sent : (e : Tcb) (p : Segment) → e.name ≡ SynSent → e.sending.syn_acked ≡ false → IsBounded e → p.head.seq < 2 ^ 32 → p.head.window ≤ 65535
    → IsBounded (received e p)
unfolding received
bounded_in_syn_sent e p name syn_unacked b fits small =
    let P : StateName → Type 0 = λ n. IsBounded (received_in n e p) in subst P (sym name) (in_syn_sent_bounded e p syn_unacked b fits small)
