-- The checks on a segment, one by one, acknowledge what the law Sending says, and send again what it says. A tick loses what it says.
use Rattle.std.proofs.Common.{◌≡◌, ℕ, ◌<◌, ◌≤◌, ◌+◌, ◌-◌, ◌^◌, Bool, true, false, not, List, length, length-drop, drop, max, min, refl, sym, ap, subst, arith, ◌∙◌}
use Rattle.std.specs.Prelude.{ℤ, pos, ◌≤ℤ◌, ◌==◌, ◌&&◌, ◌||◌, nat_abs, nat_lt, nat_le, int_lt, int_le, if◌then◌else◌}
use Rattle.std.proofs.lemmas.Int.{ints}
use Rattle.std.proofs.lemmas.Bool.{false≢true}
use Rattle.seq_arith.specs.Number.{offset_of, precedes}
use Rattle.tcp_rules.specs.Arrival.{int_eq, is_new_ack, una_after, updates_window}
use Rattle.seq_arith.specs.Packet.{Segment, has_fin, has_syn, has_rst, has_ack}
use Rattle.seq_arith.specs.Offset.{text_of, fin_of, length_of}
use Rattle.tcp_rules.specs.Congestion.{Congestion, is_partial, with_new_data, is_third, with_duplicate, with_expiry}
use Rattle.tcp_rules.specs.Timing.{Timing, with_acknowledged, without_trip}
use Rattle.tcp_buffers.specs.Near.{IsNearFirst, is_ahead}
use Rattle.tcp_buffers.proofs.NumbersShow.{between_is, same_is}
use Rattle.tcp_endpoint.specs.States.{after_syn_acked, after_fin, after_fin_acked, has_begun}
use Rattle.tcp_endpoint.specs.ReceiveHalf.{Receiving, taken, next, advertised_edge}
use Rattle.tcp_endpoint.specs.SendHalf.{Sending, with_syn_acked, acknowledged, timing_acknowledged, duplicated, untimed_if, answered_by, fin_acked, moves_edge, expires}
use Rattle.tcp_endpoint.specs.SendHalf as sender
use Rattle.tcp_endpoint.specs.Tcb.{Tcb}
use Rattle.tcp_endpoint.specs.Arrival.{first, ack_at, with_ack_pending_if, entering, with_text_and_fin, with_fin_acked, with_first_ack, is_bare, with_ack_used, with_ack, with_time_wait_restarted, in_others, received, with_reset_reply}
use Rattle.tcp_endpoint.specs.UserCalls.{after_tick, timer_ticked, waited}
use Rattle.endpoint_laws.specs.Laws.{counts, acknowledges, uses_window, is_duplicate, shows_loss, timing_by, congestion_by, is_first_expiry, congestion_ticked, timing_ticked, IsSentBy, IsBounded, IsUsual}
use Rattle.tcp_endpoint.proofs.Places.{near_of_usable}
use Rattle.endpoint_laws.proofs.TakenLaw.{same_if, if_when, by_checks, begun_is, Aside, at_ack, proceeds, others_part, segment_taken, few_sent, text_whole, fin_whole, IsCounted, counted, chosen_is}
use Rattle.endpoint_laws.proofs.Timings.{acknowledged_none, measured, itself_less}
use Rattle.ft_io.proofs.Booleans.{or_false, and_false}
use Rattle.ft_io.proofs.Choices.{of_if}

text_part : (e : Tcb) (p : Segment) → (with_text_and_fin e p).sending ≡ e.sending
unfolding with_text_and_fin
text_part e p =
    let taking : Tcb = record e { receiving = segment_taken e p }
    in of_if (λ (t : Tcb). t.sending) (taking.receiving.fin && not e.receiving.fin) (entering (after_fin e.name) taking) taking
    ∙ same_if (taking.receiving.fin && not e.receiving.fin) e.sending

acked_part : (e : Tcb) → (with_fin_acked e).sending ≡ e.sending
unfolding with_fin_acked
acked_part e =
    of_if (λ (t : Tcb). t.sending) (fin_acked e.sending) (entering (after_fin_acked e.name) e) e ∙ same_if (fin_acked e.sending) e.sending

-- what an acknowledgement makes of the sending half, once the SYN is acknowledged
abbrev pub answered_at : Tcb → Segment → Sending
answered_at e p = answered_by e.sending (is_bare p) p.head.seq (ack_at e p) p.head.window

later_ack_part : (e : Tcb) (p : Segment) → (with_ack e p).sending ≡ (if is_ahead e.sending.sent (ack_at e p) then e.sending else answered_at e p)
unfolding with_ack with_ack_used
later_ack_part e p =
    let used : Tcb = with_ack_used e p in
    let ahead : Bool = is_ahead e.sending.sent (ack_at e p) in
    of_if (λ (t : Tcb). t.sending) ahead (with_ack_pending_if true e) (with_text_and_fin (with_fin_acked used) p)
    ∙ ap (λ s. if ahead then e.sending else s) (text_part (with_fin_acked used) p ∙ acked_part used)

first_ack_part : (e : Tcb) (p : Segment)
    → (with_first_ack e p).sending ≡ (if int_eq (ack_at e p) (pos 0) then with_syn_acked e.sending p.head.seq p.head.window else e.sending)
unfolding with_first_ack with_reset_reply
first_ack_part e p =
    let opening : Tcb = record e { name = after_syn_acked e.sending.closed; sending = with_syn_acked e.sending p.head.seq p.head.window }
    in of_if (λ (t : Tcb). t.sending) (int_eq (ack_at e p) (pos 0)) (with_text_and_fin opening p) (with_reset_reply e p)
    ∙ ap (λ x. if int_eq (ack_at e p) (pos 0) then x else e.sending) (text_part opening p)

sending_aside : Aside (λ (e : Tcb). e.sending)
unfolding with_time_wait_restarted
sending_aside = record { with_reset = λ e. refl; pending = λ b e. refl; waiting = λ e p. refl }

checks_use : (e : Tcb) (p : Segment)
    → (in_others e p).sending
    ≡ by_checks (proceeds e p) (has_rst p) (has_syn p) (has_ack p) e.sending.syn_acked
    (int_eq (ack_at e p) (pos 0)) (is_ahead e.sending.sent (ack_at e p)) (answered_at e p) (with_syn_acked e.sending p.head.seq p.head.window) e.sending
unfolding with_time_wait_restarted
checks_use e p =
    others_part (λ (t : Tcb). t.sending) e p sending_aside ∙ if_when (proceeds e p) _ _ _ _
    (λ goes. if_when (has_rst p) _ _ _ _ (λ h. refl)
    (λ no_rst. if_when (has_syn p) _ _ _ _ (λ h. refl)
    (λ no_syn. if_when (has_ack p) _ _ _ _
    (λ is_ack. if_when e.sending.syn_acked _ _ _ _
    (λ h. later_ack_part (at_ack e p) p)
    (λ h. first_ack_part (at_ack e p) p))
    (λ h. refl))))
    (λ h. refl)

-- the fields of an acknowledgement that was sent, of a connection whose SYN is acknowledged
una_field : (una sent : ℕ) (z : ℤ) → z ≤ℤ pos sent
    → (if is_new_ack una sent z then nat_abs z else una) ≡ (if int_le (pos 0) z then una_after una (nat_abs z) else una)
una_field una sent z h = grind (arith, ints)

window_test : (una sent wl2 : ℕ) (z : ℤ) (later same : Bool) → z ≤ℤ pos sent
    → (int_le (pos una) z && int_le z (pos sent) && (later || (same && nat_le wl2 (nat_abs z))))
    ≡ (int_le (pos 0) z && (false || (nat_le una (nat_abs z) && (later || (same && nat_le wl2 (nat_abs z))))))
window_test una sent wl2 z later same h = grind (arith, ints)

pub held_field : (una sent : ℕ) (z : ℤ) (held : List ℕ) → una ≤ sent
    → (if is_new_ack una sent z then nat_abs z else una) + length (if is_new_ack una sent z then drop (nat_abs z - una) held else held)
    ≡ max (if is_new_ack una sent z then nat_abs z else una) (una + length held)
held_field una sent z held h = grind (arith, ints, length-drop {A = ℕ})

offset_of_choice : (irs x y : ℕ) (b : Bool) → offset_of irs (if b then x else y) ≡ (if b then offset_of irs x else offset_of irs y)
offset_of_choice irs x y true = refl
offset_of_choice irs x y false = refl

length_by : (rst syn fin : Bool) (n : ℕ) → n ≤ 65535 → (if rst then 0 else (if syn then 1 else n + (if fin then 1 else 0))) ≤ 2 ^ 16
length_by true syn fin n h = omega arith
length_by false true fin n h = omega arith
length_by false false true n h = omega arith
length_by false false false n h = omega arith

next_by : (fin : Bool) (t limit : ℕ) → limit ≤ 2 ^ 24 → t ≤ limit → t + (if fin then 1 else 0) ≤ 2 ^ 30 + 1
next_by true t limit small within = omega arith
next_by false t limit small within = omega arith

pub next_near : (r : Receiving) → r.limit ≤ 2 ^ 24 → taken r ≤ r.limit → next r ≤ 2 ^ 30 + 1
next_near r small within = next_by r.fin (taken r) r.limit small within

window_by : (read limit len k : ℕ) → min (read + 65535) limit + k - (read + len + k) ≤ 2 ^ 16
window_by read limit len k = omega arith

pub window_short : (r : Receiving) → advertised_edge r - next r ≤ 2 ^ 16
window_short r = window_by r.read r.limit (length r.unread) (if r.fin then 1 else 0)

-- a segment has at most 2^16 numbers
pub length_short : (p : Segment) → length p.payload ≤ 65535 → length_of p ≤ 2 ^ 16
length_short p h = length_by (has_rst p) (has_syn p) (has_fin p) (length p.payload) h

-- what counts is used by its place, and so begins near
pub near_of_counts : (e : Tcb) (p : Segment) → IsBounded e → IsUsual e p → counts e p ≡ true → IsNearFirst (first e p)
near_of_counts e p bounded usual does_count =
    near_of_usable (next e.receiving) (advertised_edge e.receiving - next e.receiving) (first e p) (length_of p)
    (next_near e.receiving bounded.limit bounded.taken) (window_short e.receiving) (length_short p usual.text) (counted e p does_count).used

-- the test on a window, as the law says it
abbrev is_newer : Tcb → Segment → Bool
is_newer e p = updates_window e.sending.una (offset_of e.receiving.irs e.sending.wl1) e.sending.wl2 (first e p) (nat_abs (ack_at e p))

window_is_used : (e : Tcb) (p : Segment) → IsBounded e → IsUsual e p → e.sending.syn_acked ≡ true → counts e p ≡ true
    → moves_edge e.sending p.head.seq (ack_at e p) ≡ uses_window e p
window_is_used e p bounded usual is_syn_acked does_count =
    let s : Sending = e.sending in
    let z : ℤ = ack_at e p in
    let irs : ℕ = e.receiving.irs in
    let seq : ℕ = p.head.seq in
    let wl1_fits : s.wl1 < 2 ^ 32 = omega (arith, bounded.wl1_fits) in
    let near : IsNearFirst (first e p) = near_of_counts e p bounded usual does_count in
    let later : precedes s.wl1 seq ≡ int_lt (offset_of irs s.wl1) (offset_of irs seq) = between_is irs s.wl1 seq wl1_fits usual.seq (bounded.wl1 is_syn_acked) near in
    let same : (s.wl1 == seq) ≡ int_eq (offset_of irs s.wl1) (offset_of irs seq) = same_is irs s.wl1 seq wl1_fits usual.seq (bounded.wl1 is_syn_acked) near in
    ap (λ b. int_le (pos s.una) z && int_le z (pos s.sent) && (b || (s.wl1 == seq && nat_le s.wl2 (nat_abs z)))) later
    ∙ ap (λ b. int_le (pos s.una) z && int_le z (pos s.sent) && (int_lt (offset_of irs s.wl1) (offset_of irs seq) || (b && nat_le s.wl2 (nat_abs z)))) same
    ∙ window_test s.una s.sent s.wl2 z (int_lt (offset_of irs s.wl1) (offset_of irs seq)) (int_eq (offset_of irs s.wl1) (offset_of irs seq)) (counted e p does_count).sent
    ∙ ap (λ b. (b && int_le (pos 0) z) && (false || is_newer e p)) (sym does_count)
    ∙ ap (λ o. (counts e p && int_le (pos 0) z) && (not o || is_newer e p)) (sym is_syn_acked)

-- a duplicate, in the words of the law
same_place : (una : ℕ) (z : ℤ) → int_eq z (pos una) ≡ (int_le (pos 0) z && nat_abs z == una)
same_place una z = grind (arith, ints)

duplicate_tests : (a l f n : Bool) → ((l && f) && (a && n)) ≡ (a && l && f && n)
duplicate_tests true l f n = refl
duplicate_tests false l f n = and_false (l && f)

duplicate_is : (e : Tcb) (p : Segment) → counts e p ≡ true
    → sender.is_duplicate e.sending (is_bare p) (ack_at e p) p.head.window ≡ is_duplicate e p
unfolding sender.is_duplicate
duplicate_is e p does_count =
    let s : Sending = e.sending in
    let z : ℤ = ack_at e p in
    let c : IsCounted e p = counted e p does_count in
    let reached : Bool = nat_abs z + p.head.window == s.edge in
    ap (λ b. is_bare p && b && nat_lt s.una s.sent && reached) (same_place s.una z)
    ∙ ap (λ b. b && nat_lt s.una s.sent && reached) (duplicate_tests (int_le (pos 0) z) (length p.payload == 0) (not (has_fin p)) (nat_abs z == s.una))
    ∙ (λ i. sym does_count i && int_le (pos 0) z && length (sym (text_whole p c.no_syn c.no_rst) i) == 0 && not (sym (fin_whole p c.no_syn c.no_rst) i)
    && nat_abs z == s.una && nat_lt s.una s.sent && reached)

-- what acknowledges something new, in the words of the law, is no duplicate
pub new_test : (una sent : ℕ) (z : ℤ) → z ≤ℤ pos sent → is_new_ack una sent z ≡ (int_le (pos 0) z && nat_lt una (nat_abs z))
new_test una sent z h = grind (arith, ints)

not_new : (bare late reached : Bool) (una sent : ℕ) (z : ℤ) → (bare && int_eq z (pos una) && late && reached) ≡ true → is_new_ack una sent z ≡ false
not_new bare late reached una sent z h = grind (arith, ints)

congestion_chosen : {X : Type 0} (duplicate new : Bool) (una ack : ℕ) (f : ℕ → X → X) (x y : X) → (duplicate ≡ true → new ≡ false)
    → (if duplicate then f (if new then ack else una) (if new then x else y) else (if new then x else y))
    ≡ (if new then x else (if duplicate then f una y else y))
congestion_chosen true true una ack f x y never = absurd (false≢true (sym (never refl)))
congestion_chosen true false una ack f x y never = refl
congestion_chosen false true una ack f x y never = refl
congestion_chosen false false una ack f x y never = refl

-- a duplicate changes the congestion window, a loss the estimate, and nothing else changes
answered_alone : (duplicate loss : Bool) (s : Sending)
    → untimed_if loss (if duplicate then duplicated s else s)
    ≡ record s {
      congestion = (untimed_if loss (if duplicate then duplicated s else s)).congestion;
      timing = (untimed_if loss (if duplicate then duplicated s else s)).timing;
    }
answered_alone true loss s = refl
answered_alone false loss s = refl

-- the endpoint with an acknowledgement used, by its congestion window, by the estimate and by what is due again
abbrev pub used_with : Tcb → Segment → Congestion → Timing → Bool → Tcb
used_with e p congestion timing retransmission_due = record e {
  sending = record (acknowledged e.sending p.head.seq (ack_at e p) p.head.window) { congestion = congestion; timing = timing };
  retransmission_due = retransmission_due;
}

pub used_is : (e : Tcb) (p : Segment)
    → with_ack_used e p ≡ used_with e p (answered_at e p).congestion (answered_at e p).timing (with_ack_used e p).retransmission_due
unfolding with_ack_used answered_by
used_is e p =
    let used : Sending = acknowledged e.sending p.head.seq (ack_at e p) p.head.window in
    let retransmission_due : Bool = (with_ack_used e p).retransmission_due in
    ap (λ s. record e { sending = s; retransmission_due = retransmission_due })
    (answered_alone (sender.is_duplicate e.sending (is_bare p) (ack_at e p) p.head.window) (sender.shows_loss e.sending (is_bare p) (ack_at e p) p.head.window) used)

-- .. to what the law says
answered_congestion : (e : Tcb) (p : Segment) → counts e p ≡ true
    → (answered_at e p).congestion ≡ congestion_by e p
unfolding answered_by acknowledged sender.is_duplicate
answered_congestion e p does_count =
    let s : Sending = e.sending in
    let z : ℤ = ack_at e p in
    let used : Sending = acknowledged s p.head.seq z p.head.window in
    let duplicate : Bool = sender.is_duplicate s (is_bare p) z p.head.window in
    let grown : Congestion = with_new_data s.mss (nat_abs z - s.una) s.congestion in
    let after_duplicate : Congestion = with_duplicate s.mss (s.sent - s.una) s.congestion in
    let is_new : is_new_ack s.una s.sent z ≡ (acknowledges e p && nat_lt s.una (nat_abs z)) =
    new_test s.una s.sent z (counted e p does_count).sent ∙ ap (λ b. b && int_le (pos 0) z && nat_lt s.una (nat_abs z)) (sym does_count) in
    of_if (λ (t : Sending). t.congestion) duplicate (duplicated used) used
    ∙ congestion_chosen duplicate (is_new_ack s.una s.sent z) s.una (nat_abs z) (λ u c. with_duplicate s.mss (s.sent - u) c) grown s.congestion
    (not_new (is_bare p) (nat_lt s.una s.sent) (nat_abs z + p.head.window == s.edge) s.una s.sent z)
    ∙ (λ i. if is_new i then grown else (if duplicate_is e p does_count i then after_duplicate else s.congestion))

-- what a segment that counts makes of the sending half: all but the congestion window and the estimate goes by the acknowledgement alone
abbrev pub later_by : Tcb → Segment → Sending
later_by e p =
    record (acknowledged e.sending p.head.seq (ack_at e p) p.head.window) {
      congestion = congestion_by e p;
      timing = timing_by e p (acknowledged e.sending p.head.seq (ack_at e p) p.head.window).una;
    }

-- whether an acknowledgement acknowledges something new, and whether it shows a loss
new_is : (e : Tcb) (p : Segment) → counts e p ≡ true
    → is_new_ack e.sending.una e.sending.sent (ack_at e p) ≡ (acknowledges e p && nat_lt e.sending.una (nat_abs (ack_at e p)))
new_is e p does_count =
    new_test e.sending.una e.sending.sent (ack_at e p) (counted e p does_count).sent
    ∙ ap (λ b. b && int_le (pos 0) (ack_at e p) && nat_lt e.sending.una (nat_abs (ack_at e p))) (sym does_count)

loss_is : (e : Tcb) (p : Segment) → counts e p ≡ true → sender.shows_loss e.sending (is_bare p) (ack_at e p) p.head.window ≡ shows_loss e p
unfolding sender.shows_loss
loss_is e p does_count = λ i.
    (duplicate_is e p does_count i && is_third e.sending.congestion)
    || (new_is e p does_count i && is_partial (nat_abs (ack_at e p) - e.sending.una) e.sending.congestion)

-- the estimate, as the law says it
answered_timing : (e : Tcb) (p : Segment) → IsBounded e → counts e p ≡ true
    → (answered_at e p).timing ≡ timing_by e p (acknowledged e.sending p.head.seq (ack_at e p) p.head.window).una
unfolding answered_by acknowledged
answered_timing e p bounded does_count =
    let s : Sending = e.sending in
    let z : ℤ = ack_at e p in
    let used : Sending = acknowledged s p.head.seq z p.head.window in
    let duplicate : Bool = sender.is_duplicate s (is_bare p) z p.head.window in
    let same : (if duplicate then duplicated used else used).timing ≡ with_acknowledged ((if is_new_ack s.una s.sent z then nat_abs z else s.una) - s.una) s.timing =
    of_if (λ (t : Sending). t.timing) duplicate (duplicated used) used ∙ same_if duplicate (timing_acknowledged s z)
    ∙ measured (is_new_ack s.una s.sent z) s.una (nat_abs z) s.timing bounded.timing in
    λ i. if loss_is e p does_count i then without_trip (same i) else same i

answered_is : (e : Tcb) (p : Segment) → IsBounded e → counts e p ≡ true → answered_at e p ≡ later_by e p
unfolding answered_by
answered_is e p bounded does_count =
    let used : Sending = acknowledged e.sending p.head.seq (ack_at e p) p.head.window in
    answered_alone (sender.is_duplicate e.sending (is_bare p) (ack_at e p) p.head.window) (sender.shows_loss e.sending (is_bare p) (ack_at e p) p.head.window) used
    ∙ (λ i. record used { congestion = answered_congestion e p does_count i; timing = answered_timing e p bounded does_count i })

abbrev pub used_by : Tcb → Segment → Sending
used_by e p = if e.sending.syn_acked then later_by e p else with_syn_acked e.sending p.head.seq p.head.window

-- the sending half after a segment, whole
pub sending_is : (e : Tcb) (p : Segment) → has_begun e.name ≡ true → IsBounded e → IsUsual e p
    → (received e p).sending ≡ (if counts e p then used_by e p else e.sending)
unfolding received
sending_is e p begun bounded usual =
    let opened : Sending = with_syn_acked e.sending p.head.seq p.head.window in
    ap (λ (t : Tcb). t.sending) (begun_is e.name e p begun) ∙ checks_use e p
    ∙ chosen_is e p (answered_at e p) opened e.sending bounded usual
    ∙ if_when (counts e p) _ _ e.sending e.sending
    (λ does_count. ap (λ s. if e.sending.syn_acked then s else opened) (answered_is e p bounded does_count)) (λ h. refl)

later_law : (e : Tcb) (p : Segment) → IsBounded e → IsUsual e p → e.sending.syn_acked ≡ true → counts e p ≡ true
    → IsSentBy e p (later_by e p)
unfolding acknowledged
later_law e p bounded usual is_syn_acked does_count =
    let s : Sending = e.sending in
    let z : ℤ = ack_at e p in
    let used : moves_edge s p.head.seq z ≡ uses_window e p = window_is_used e p bounded usual is_syn_acked does_count in
    record {
      iss = refl;
      syn_acked = is_syn_acked ∙ sym (ap (λ b. b || counts e p) is_syn_acked);
      una = una_field s.una s.sent z (counted e p does_count).sent ∙ ap (λ b. if b && int_le (pos 0) z then una_after s.una (nat_abs z) else s.una) (sym does_count);
      sent = refl;
      edge = ap (λ b. if b then nat_abs z + p.head.window else s.edge) used;
      wl1 = offset_of_choice e.receiving.irs p.head.seq s.wl1 (moves_edge s p.head.seq z) ∙ ap (λ b. if b then first e p else offset_of e.receiving.irs s.wl1) used;
      wl2 = ap (λ b. if b then nat_abs z else s.wl2) used;
      congestion = refl;
      timing = refl;
      held = held_field s.una s.sent z s.held bounded.order;
      closed = refl;
    }

zero_abs : (z : ℤ) (n : ℕ) → z ≤ℤ pos n → n ≡ 0 → int_le (pos 0) z ≡ true → nat_abs z ≡ 0
zero_abs z n h none up = grind (arith, ints)

una_zero : (una a : ℕ) → una ≡ 0 → a ≡ 0 → 0 ≡ una_after una a
una_zero una a u z = grind arith

none_above : (a b : ℕ) → b ≡ 0 → nat_lt a b ≡ false
none_above a b none = grind (arith, none)

-- nothing new is acknowledged, and nothing is in flight
quiet : {X : Type 0} (new acked text fin place late edge : Bool) (x y z : X) → new ≡ false → late ≡ false
    → (if acked && new then x else (if acked && text && fin && place && late && edge then y else z)) ≡ z
quiet new acked text fin place late edge x y z none nothing =
    (λ i. if acked && none i then x else (if acked && text && fin && place && nothing i && edge then y else z))
    ∙ (λ i. if and_false acked i then x else (if and_false (acked && text && fin && place) i && edge then y else z))

-- where none has counted before, nothing is in flight
first_is_none : (e : Tcb) (p : Segment) → IsBounded e → e.sending.syn_acked ≡ false → is_duplicate e p ≡ false
first_is_none e p bounded syn_unacked =
    let s : Sending = e.sending in
    let before : Bool = acknowledges e p && length (text_of p) == 0 && not (fin_of p) && nat_abs (ack_at e p) == s.una in
    let edge : Bool = nat_abs (ack_at e p) + p.head.window == s.edge in
    ap (λ b. before && b && edge) (none_above s.una s.sent (bounded.syn_unacked syn_unacked)) ∙ ap (λ b. b && edge) (and_false before)

-- what doesn't count is no duplicate
uncounted_is_none : (e : Tcb) (p : Segment) → counts e p ≡ false → is_duplicate e p ≡ false
uncounted_is_none e p no_count =
    let s : Sending = e.sending in
    let ack : ℕ = nat_abs (ack_at e p) in
    let up : Bool = int_le (pos 0) (ack_at e p) in
    ap (λ b. b && up && length (text_of p) == 0 && not (fin_of p) && ack == s.una && nat_lt s.una s.sent && ack + p.head.window == s.edge) no_count

-- what acknowledges nothing new and is no duplicate shows no loss, and the estimate stays
no_loss : (e : Tcb) (p : Segment) → is_duplicate e p ≡ false → (acknowledges e p && nat_lt e.sending.una (nat_abs (ack_at e p))) ≡ false → shows_loss e p ≡ false
no_loss e p none old = λ i. (none i && is_third e.sending.congestion) || (old i && is_partial (nat_abs (ack_at e p) - e.sending.una) e.sending.congestion)

timing_stays : (e : Tcb) (p : Segment) (una : ℕ) → IsBounded e → shows_loss e p ≡ false → una - e.sending.una ≡ 0 → e.sending.timing ≡ timing_by e p una
timing_stays e p una bounded none still =
    let measured_by : Timing = with_acknowledged (una - e.sending.una) e.sending.timing in
    sym (ap (λ b. if b then without_trip measured_by else measured_by) none ∙ ap (λ n. with_acknowledged n e.sending.timing) still
    ∙ acknowledged_none e.sending.timing bounded.timing)

-- where none has counted before, there is no loss
first_no_loss : (e : Tcb) (p : Segment) → IsBounded e → e.sending.syn_acked ≡ false → counts e p ≡ true → shows_loss e p ≡ false
first_no_loss e p bounded syn_unacked does_count =
    let c : IsCounted e p = counted e p does_count in
    let zero : nat_abs (ack_at e p) ≡ 0 = zero_abs (ack_at e p) e.sending.sent c.sent (bounded.syn_unacked syn_unacked) (c.acks_syn syn_unacked) in
    no_loss e p (first_is_none e p bounded syn_unacked)
    (ap (λ b. acknowledges e p && b) (none_above e.sending.una (nat_abs (ack_at e p)) zero) ∙ and_false (acknowledges e p))

other_no_loss : (e : Tcb) (p : Segment) → counts e p ≡ false → shows_loss e p ≡ false
other_no_loss e p no_count =
    no_loss e p (uncounted_is_none e p no_count)
    (ap (λ b. b && int_le (pos 0) (ack_at e p) && nat_lt e.sending.una (nat_abs (ack_at e p))) no_count)

zero_less : (una : ℕ) → 0 - una ≡ 0
zero_less una = omega arith

first_law : (e : Tcb) (p : Segment) → IsBounded e → e.sending.syn_acked ≡ false → counts e p ≡ true
    → IsSentBy e p (with_syn_acked e.sending p.head.seq p.head.window)
first_law e p bounded syn_unacked does_count =
    let s : Sending = e.sending in
    let z : ℤ = ack_at e p in
    let c : IsCounted e p = counted e p does_count in
    let none : s.sent ≡ 0 = bounded.syn_unacked syn_unacked in
    let una : s.una ≡ 0 = omega (arith, bounded.order) in
    let acked : acknowledges e p ≡ true = ap (λ b. b && int_le (pos 0) z) does_count ∙ c.acks_syn syn_unacked in
    let zero : nat_abs z ≡ 0 = zero_abs z s.sent c.sent none (c.acks_syn syn_unacked) in
    let reached : p.head.window ≡ nat_abs z + p.head.window = omega (arith, zero) in
    let used : uses_window e p ≡ true = ap (λ b. b && (not s.syn_acked || is_newer e p)) acked ∙ ap (λ o. true && (not o || is_newer e p)) syn_unacked in
    record {
      iss = refl;
      syn_acked = sym (ap (λ b. b || counts e p) syn_unacked ∙ does_count);
      una = una_zero s.una (nat_abs z) una zero ∙ ap (λ b. if b then una_after s.una (nat_abs z) else s.una) (sym acked);
      sent = sym none;
      edge = reached ∙ ap (λ b. if b then nat_abs z + p.head.window else s.edge) (sym used);
      wl1 = ap (λ b. if b then first e p else offset_of e.receiving.irs s.wl1) (sym used);
      wl2 = sym zero ∙ ap (λ b. if b then nat_abs z else s.wl2) (sym used);
      congestion = sym (quiet (nat_lt s.una (nat_abs z)) (acknowledges e p) (length (text_of p) == 0) (not (fin_of p)) (nat_abs z == s.una)
          (nat_lt s.una s.sent) (nat_abs z + p.head.window == s.edge) _ _ s.congestion (none_above s.una (nat_abs z) zero) (none_above s.una s.sent none));
      timing = timing_stays e p 0 bounded (first_no_loss e p bounded syn_unacked does_count) (zero_less s.una);
      held = omega (arith, una);
      closed = refl;
    }

other_law : (e : Tcb) (p : Segment) → IsBounded e → counts e p ≡ false → IsSentBy e p e.sending
other_law e p bounded no_count =
    let s : Sending = e.sending in
    let z : ℤ = ack_at e p in
    let unused : uses_window e p ≡ false = ap (λ b. (b && int_le (pos 0) z) && (not s.syn_acked || is_newer e p)) no_count in
    record {
      iss = refl;
      syn_acked = or_false s.syn_acked ∙ ap (λ b. s.syn_acked || b) (sym no_count);
      una = ap (λ b. if b && int_le (pos 0) z then una_after s.una (nat_abs z) else s.una) (sym no_count);
      sent = refl;
      edge = ap (λ b. if b then nat_abs z + p.head.window else s.edge) (sym unused);
      wl1 = ap (λ b. if b then first e p else offset_of e.receiving.irs s.wl1) (sym unused);
      wl2 = ap (λ b. if b then nat_abs z else s.wl2) (sym unused);
      congestion = (λ i. if sym no_count i && int_le (pos 0) z && nat_lt s.una (nat_abs z)
          then with_new_data s.mss (nat_abs z - s.una) s.congestion
          else (if sym (uncounted_is_none e p no_count) i then with_duplicate s.mss (s.sent - s.una) s.congestion else s.congestion));
      timing = timing_stays e p s.una bounded (other_no_loss e p no_count) (itself_less s.una);
      held = omega arith;
      closed = refl;
    }

by_count : (e : Tcb) (p : Segment) (c o : Bool) → (c ≡ true → o ≡ true → IsSentBy e p (later_by e p))
    → (c ≡ true → o ≡ false → IsSentBy e p (with_syn_acked e.sending p.head.seq p.head.window)) → (c ≡ false → IsSentBy e p e.sending)
    → IsSentBy e p (if c then (if o then later_by e p else with_syn_acked e.sending p.head.seq p.head.window) else e.sending)
by_count e p true true later first_one other = later refl refl
by_count e p true false later first_one other = first_one refl refl
by_count e p false o later first_one other = other refl

pub sending_law : (e : Tcb) (p : Segment) → has_begun e.name ≡ true → IsBounded e → IsUsual e p → IsSentBy e p (received e p).sending
sending_law e p begun bounded usual =
    let P : Sending → Type 0 = λ s. IsSentBy e p s
    in subst P (sym (sending_is e p begun bounded usual))
    (by_count e p (counts e p) e.sending.syn_acked
    (λ does_count is_syn_acked. later_law e p bounded usual is_syn_acked does_count)
    (λ does_count syn_unacked. first_law e p bounded syn_unacked does_count)
    (λ no_count. other_law e p bounded no_count))

-- what is due again
text_retransmission : (e : Tcb) (p : Segment) → (with_text_and_fin e p).retransmission_due ≡ e.retransmission_due
unfolding with_text_and_fin
text_retransmission e p =
    let taking : Tcb = record e { receiving = segment_taken e p }
    in of_if (λ (t : Tcb). t.retransmission_due) (taking.receiving.fin && not e.receiving.fin) (entering (after_fin e.name) taking) taking
    ∙ same_if (taking.receiving.fin && not e.receiving.fin) e.retransmission_due

acked_retransmission : (e : Tcb) → (with_fin_acked e).retransmission_due ≡ e.retransmission_due
unfolding with_fin_acked
acked_retransmission e = of_if (λ (t : Tcb). t.retransmission_due) (fin_acked e.sending) (entering (after_fin_acked e.name) e) e ∙ same_if (fin_acked e.sending) e.retransmission_due

abbrev later_retransmission : Tcb → Segment → Bool
later_retransmission e p = e.retransmission_due || sender.shows_loss e.sending (is_bare p) (ack_at e p) p.head.window

later_ack_retransmission : (e : Tcb) (p : Segment)
    → (with_ack e p).retransmission_due ≡ (if is_ahead e.sending.sent (ack_at e p) then e.retransmission_due else later_retransmission e p)
unfolding with_ack with_ack_used
later_ack_retransmission e p =
    let used : Tcb = with_ack_used e p in
    let ahead : Bool = is_ahead e.sending.sent (ack_at e p) in
    of_if (λ (t : Tcb). t.retransmission_due) ahead (with_ack_pending_if true e) (with_text_and_fin (with_fin_acked used) p)
    ∙ ap (λ b. if ahead then e.retransmission_due else b) (text_retransmission (with_fin_acked used) p ∙ acked_retransmission used)

first_ack_retransmission : (e : Tcb) (p : Segment) → (with_first_ack e p).retransmission_due ≡ e.retransmission_due
unfolding with_first_ack with_reset_reply
first_ack_retransmission e p =
    let opening : Tcb = record e { name = after_syn_acked e.sending.closed; sending = with_syn_acked e.sending p.head.seq p.head.window }
    in of_if (λ (t : Tcb). t.retransmission_due) (int_eq (ack_at e p) (pos 0)) (with_text_and_fin opening p) (with_reset_reply e p)
    ∙ ap (λ b. if int_eq (ack_at e p) (pos 0) then b else e.retransmission_due) (text_retransmission opening p)
    ∙ same_if (int_eq (ack_at e p) (pos 0)) e.retransmission_due

retransmission_aside : Aside (λ (e : Tcb). e.retransmission_due)
unfolding with_time_wait_restarted
retransmission_aside = record { with_reset = λ e. refl; pending = λ b e. refl; waiting = λ e p. refl }

checks_repeat : (e : Tcb) (p : Segment)
    → (in_others e p).retransmission_due
    ≡ by_checks (proceeds e p) (has_rst p) (has_syn p) (has_ack p) e.sending.syn_acked (int_eq (ack_at e p) (pos 0)) (is_ahead e.sending.sent (ack_at e p))
    (later_retransmission e p) e.retransmission_due e.retransmission_due
unfolding with_time_wait_restarted
checks_repeat e p =
    others_part (λ (t : Tcb). t.retransmission_due) e p retransmission_aside ∙ if_when (proceeds e p) _ _ _ _
    (λ goes. if_when (has_rst p) _ _ _ _ (λ h. refl)
    (λ no_rst. if_when (has_syn p) _ _ _ _ (λ h. refl)
    (λ no_syn. if_when (has_ack p) _ _ _ _
    (λ is_ack. if_when e.sending.syn_acked _ _ _ _
    (λ h. later_ack_retransmission (at_ack e p) p)
    (λ h. first_ack_retransmission (at_ack e p) p ∙ sym (same_if (int_eq (ack_at e p) (pos 0)) e.retransmission_due)))
    (λ h. refl))))
    (λ h. refl)

none_due : (e : Tcb) (p : Segment) → shows_loss e p ≡ false → e.retransmission_due ≡ (e.retransmission_due || shows_loss e p)
none_due e p none = or_false e.retransmission_due ∙ ap (λ b. e.retransmission_due || b) (sym none)

pub retransmission_law : (e : Tcb) (p : Segment) → has_begun e.name ≡ true → IsBounded e → IsUsual e p → (received e p).retransmission_due ≡ (e.retransmission_due || shows_loss e p)
unfolding received
retransmission_law e p begun bounded usual =
    let goal : Bool = e.retransmission_due || shows_loss e p in
    ap (λ (t : Tcb). t.retransmission_due) (begun_is e.name e p begun) ∙ checks_repeat e p
    ∙ chosen_is e p (later_retransmission e p) e.retransmission_due e.retransmission_due bounded usual
    ∙ if_when (counts e p) _ goal _ goal
    (λ does_count. if_when e.sending.syn_acked _ goal _ goal
    (λ h. ap (λ b. e.retransmission_due || b) (loss_is e p does_count))
    (λ h. none_due e p (first_no_loss e p bounded h does_count)) ∙ same_if e.sending.syn_acked goal)
    (λ no_count. none_due e p (other_no_loss e p no_count))
    ∙ same_if (counts e p) goal

-- the right edge stands so near that numbers tell whether it is beyond SND.UNA
precedes_is : (una edge : ℕ) → una ≤ 2 ^ 24 + 1 → edge ≤ 2 ^ 24 + 2 ^ 16 + 1 → precedes una edge ≡ nat_lt una edge
precedes_is una edge few near = grind arith

lost_by : {X : Type 0} (expires flies reached : Bool) (x y : X)
    → (if expires then (if flies && reached then x else y) else y) ≡ (if expires && flies && reached then x else y)
lost_by true flies reached x y = refl
lost_by false flies reached x y = refl

-- where the timer expires, what is in flight is taken for lost
pub ticked_law : (e : Tcb) → IsBounded e → (after_tick e).sending.congestion ≡ congestion_ticked e.sending
unfolding after_tick timer_ticked waited
ticked_law e b =
    let s : Sending = e.sending in
    let few : s.una ≤ 2 ^ 24 + 1 = omega (arith, b.order, few_sent s.fin_sent s.sent b.sent) in
    let lost : Congestion = with_expiry s.mss (s.sent - s.una) (is_first_expiry s) s.congestion in
    of_if (λ (t : Sending). t.congestion) (expires s) _ _
    ∙ lost_by (expires s) (nat_lt s.una s.sent) (precedes s.una s.edge) lost s.congestion
    ∙ ap (λ v. if expires s && nat_lt s.una s.sent && v then lost else s.congestion) (precedes_is s.una s.edge few b.edge)

-- .. and the interval is backed off
pub ticked_timing : (e : Tcb) → (after_tick e).sending.timing ≡ timing_ticked e.sending
unfolding after_tick timer_ticked waited
ticked_timing e = of_if (λ (t : Sending). t.timing) (expires e.sending) _ _
