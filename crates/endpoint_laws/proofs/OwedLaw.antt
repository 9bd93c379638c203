-- The checks on a segment, one by one, owe an answer where the law Owed says.
use Rattle.std.proofs.Common.{◌≡◌, ℕ, Bool, true, false, not, refl, sym, ap, arith, ◌∙◌}
use Rattle.std.specs.Prelude.{ℤ, pos, ◌==◌, ◌&&◌, ◌||◌, nat_lt, int_lt, if◌then◌else◌}
use Rattle.std.proofs.lemmas.Int.{ints}
use Rattle.std.proofs.lemmas.Bool.{false≢true, and_parts}
use Rattle.tcp_rules.specs.Arrival.{int_eq, is_acceptable, is_at_right_edge, is_acceptable_or_at_edge, is_allowed_at_zero, is_beyond}
use Rattle.seq_arith.specs.Packet.{Segment, has_syn, has_rst, has_ack}
use Rattle.seq_arith.specs.Offset.{length_of}
use Rattle.tcp_buffers.specs.Near.{is_ahead}
use Rattle.tcp_endpoint.specs.States.{after_syn_acked, after_fin, after_fin_acked, has_begun}
use Rattle.tcp_endpoint.specs.ReceiveHalf.{next, window}
use Rattle.tcp_endpoint.specs.SendHalf.{with_syn_acked, fin_acked}
use Rattle.tcp_endpoint.specs.Tcb.{Tcb}
use Rattle.tcp_endpoint.specs.Arrival.{first, ack_at, with_ack_pending_if, with_reset, entering, with_text_and_fin, with_fin_acked, with_first_ack, with_ack_used, with_ack, check_ack, check_syn, check_rst, with_time_wait_restarted, check_sequence, in_others, received, with_reset_reply}
use Rattle.tcp_endpoint.specs.Arrival as check
use Rattle.endpoint_laws.specs.Laws.{accepts, acknowledges_unsent, misses_syn, is_refused, is_unsent_ack, needs_ack_if_acceptable, needs_ack, IsBounded, IsUsual}
use Rattle.endpoint_laws.proofs.TakenLaw.{same_if, if_when, begun_is, at_ack, proceeds, segment_taken, ahead_at, accepts_same}
use Rattle.ft_io.proofs.Booleans.{or_other, or_false, and_true, and_false, left_false, right_false, false_or}
use Rattle.ft_io.proofs.Choices.{by_cases, of_if}

text_part : (e : Tcb) (p : Segment) → (with_text_and_fin e p).ack_pending ≡ e.ack_pending
unfolding with_text_and_fin
text_part e p =
    let taking : Tcb = record e { receiving = segment_taken e p } in
    of_if (λ (t : Tcb). t.ack_pending) (taking.receiving.fin && not e.receiving.fin) (entering (after_fin e.name) taking) taking
    ∙ same_if (taking.receiving.fin && not e.receiving.fin) e.ack_pending

-- what the end of the other side's FIN leaves
acked_ack_pending : (e : Tcb) → (with_fin_acked e).ack_pending ≡ e.ack_pending
unfolding with_fin_acked
acked_ack_pending e = of_if (λ (t : Tcb). t.ack_pending) (fin_acked e.sending) (entering (after_fin_acked e.name) e) e ∙ same_if (fin_acked e.sending) e.ack_pending

-- an answer stays owed, and another test may owe it
owed_if : (test owed more : Bool) → (if test then owed || more else owed) ≡ (owed || (test && more))
owed_if true owed more = refl
owed_if false owed more = or_false owed

later_ack_part : (e : Tcb) (p : Segment) → (with_ack e p).ack_pending ≡ (e.ack_pending || is_ahead e.sending.sent (ack_at e p))
unfolding with_ack with_ack_used
later_ack_part e p =
    let used : Tcb = with_ack_used e p in
    let ahead : Bool = is_ahead e.sending.sent (ack_at e p) in
    of_if (λ (t : Tcb). t.ack_pending) ahead (with_ack_pending_if true e) (with_text_and_fin (with_fin_acked used) p)
    ∙ ap (λ b. if ahead then e.ack_pending || true else b) (text_part (with_fin_acked used) p ∙ acked_ack_pending used)
    ∙ owed_if ahead e.ack_pending true ∙ ap (λ b. e.ack_pending || b) (and_true ahead)

first_ack_part : (e : Tcb) (p : Segment) → int_eq (ack_at e p) (pos 0) ≡ true → (with_first_ack e p).ack_pending ≡ e.ack_pending
unfolding with_first_ack
first_ack_part e p is_syn =
    let opening : Tcb = record e { name = after_syn_acked e.sending.closed; sending = with_syn_acked e.sending p.head.seq p.head.window }
    in ap (λ b. (if b then with_text_and_fin opening p else with_reset_reply e p).ack_pending) is_syn ∙ text_part opening p

-- what acknowledges just the SYN is neither below nor beyond it
at_syn : (sent : ℕ) (ack : ℤ) → int_eq ack (pos 0) ≡ true → (int_lt ack (pos 0) || is_beyond sent ack) ≡ false
at_syn sent ack h = grind (arith, ints)

-- with ACK, while it isn't refused
ack_part : (e : Tcb) (p : Segment) → is_ahead e.sending.sent (ack_at e p) ≡ acknowledges_unsent e p
    → (e.sending.syn_acked ≡ false → int_eq (ack_at e p) (pos 0) ≡ true)
    → (if e.sending.syn_acked then (with_ack e p).ack_pending else (with_first_ack e p).ack_pending) ≡ (e.ack_pending || acknowledges_unsent e p)
ack_part e p far syn =
    let owed : Bool = e.ack_pending || acknowledges_unsent e p in
    if_when e.sending.syn_acked (with_ack e p).ack_pending owed (with_first_ack e p).ack_pending owed
    (λ h. later_ack_part e p ∙ ap (λ b. e.ack_pending || b) far)
    (λ h. first_ack_part e p (syn h) ∙ or_false e.ack_pending
    ∙ ap (λ b. e.ack_pending || b) (sym (right_false (int_lt (ack_at e p) (pos 0)) (acknowledges_unsent e p) (at_syn e.sending.sent (ack_at e p) (syn h)))))
    ∙ same_if e.sending.syn_acked owed

reset_ack_pending : (o q : Bool) → o ≡ false → (if q then o else o || true) ≡ not q
reset_ack_pending o true none = none
reset_ack_pending o false none = ap (λ v. v || true) none

syn_by : (sent : ℕ) (ack : ℤ) → sent ≡ 0 → (int_lt ack (pos 0) || is_beyond sent ack) ≡ false → int_eq ack (pos 0) ≡ true
syn_by sent ack none met = grind (arith, ints)

is_syn_ack : (e : Tcb) (p : Segment) → IsBounded e → misses_syn e p ≡ false → has_ack p ≡ true → e.sending.syn_acked ≡ false → int_eq (ack_at e p) (pos 0) ≡ true
is_syn_ack e p b met is_ack syn_unacked =
    let other : Bool = int_lt (ack_at e p) (pos 0) || acknowledges_unsent e p in
    syn_by e.sending.sent (ack_at e p) (b.syn_unacked syn_unacked)
    (sym (ap (λ v. not v && has_ack p && other) syn_unacked ∙ ap (λ v. true && v && other) is_ack) ∙ met)

-- an acceptable segment with neither SYN nor RST
plain_ack_pending : (e : Tcb) (p : Segment) → IsBounded e → IsUsual e p → e.ack_pending ≡ false → misses_syn e p ≡ false
    → (check_ack (at_ack e p) p).ack_pending ≡ (nat_lt 0 (length_of p) || is_unsent_ack e p)
unfolding check_ack with_time_wait_restarted
plain_ack_pending e p b usual none met =
    let e1 : Tcb = at_ack e p in
    of_if (λ (t : Tcb). t.ack_pending) (has_ack p) (if e1.sending.syn_acked then with_ack e1 p else with_first_ack e1 p) e1
    ∙ ap (λ x. if has_ack p then x else e1.ack_pending) (of_if (λ (t : Tcb). t.ack_pending) e1.sending.syn_acked (with_ack e1 p) (with_first_ack e1 p))
    ∙ if_when (has_ack p) _ (e1.ack_pending || acknowledges_unsent e p) e1.ack_pending e1.ack_pending
    (λ is_ack. ack_part e1 p (ahead_at e p b usual is_ack) (is_syn_ack e p b met is_ack)) (λ no_ack. refl)
    ∙ owed_if (has_ack p) e1.ack_pending (acknowledges_unsent e p)
    ∙ ap (λ v. v || is_unsent_ack e p) (false_or e.ack_pending (nat_lt 0 (length_of p)) none)

-- what isn't refused, though it is acceptable and has neither SYN nor RST
met_of : (acceptable rst syn misses : Bool) → (acceptable && not rst && not syn && misses) ≡ false → acceptable ≡ true → rst ≡ false → syn ≡ false → misses ≡ false
met_of true false false misses h a r s = h
met_of true false true misses h a r s = absurd (false≢true (sym s))
met_of true true syn misses h a r s = absurd (false≢true (sym r))
met_of false rst syn misses h a r s = absurd (false≢true a)

-- a segment without length at the next number is acceptable where the window is zero, so one that is only allowed has length, and no RST
place_has_length : (next window : ℕ) (first : ℤ) (len : ℕ) → is_acceptable next window first len ≡ false → (window == 0 && int_eq first (pos next)) ≡ true → nat_lt 0 len ≡ true
place_has_length next window first len h at = grind (arith, ints)

allowed_has_length : (next window : ℕ) (first : ℤ) (len : ℕ) → is_acceptable_or_at_edge next window first len ≡ false → is_allowed_at_zero next window first ≡ true
    → nat_lt 0 len ≡ true
unfolding is_allowed_at_zero
allowed_has_length next window first len h at =
    place_has_length next window first len (left_false (is_acceptable next window first len) (is_at_right_edge next window first len) h) at

no_rst_of : (rst : Bool) (n : ℕ) → nat_lt 0 (if rst then 0 else n) ≡ true → rst ≡ false
no_rst_of true n h = absurd (false≢true h)
no_rst_of false n h = refl

-- what is allowed acknowledges nothing but the SYN, while that is unacknowledged
allowed_by : (o ack k other : Bool) → (o || k) ≡ true → (k ≡ true → other ≡ false) → (not o && ack && other) ≡ false
allowed_by true ack k other h none = refl
allowed_by false ack true other h none = ap (λ v. ack && v) (none refl) ∙ and_false ack
allowed_by false ack false other h none = absurd (false≢true h)

-- the checks after the first, of an acceptable segment, ..
acceptable_ack_pending : (e : Tcb) (p : Segment) → IsBounded e → IsUsual e p → e.ack_pending ≡ false → is_refused e p ≡ false → accepts e p ≡ true
    → (check_rst (with_time_wait_restarted e p) p).ack_pending ≡ needs_ack_if_acceptable e p
unfolding check_rst check_syn with_time_wait_restarted
acceptable_ack_pending e p b usual none unrefused h =
    let e0 : Tcb = with_time_wait_restarted e p in
    let at_next : Bool = int_eq (first e p) (pos (next e.receiving)) in
    of_if (λ (t : Tcb). t.ack_pending) (has_rst p) (if at_next then with_reset e0 else with_ack_pending_if true e0) (check_syn e0 p)
    ∙ if_when (has_rst p) _ (not at_next) _ _
    (λ is_rst. of_if (λ (t : Tcb). t.ack_pending) at_next (with_reset e0) (with_ack_pending_if true e0) ∙ reset_ack_pending e.ack_pending at_next none)
    (λ no_rst. of_if (λ (t : Tcb). t.ack_pending) (has_syn p) (with_ack_pending_if true e0) (check_ack (at_ack e p) p)
    ∙ if_when (has_syn p) _ true _ _ (λ is_syn. false_or e.ack_pending true none) (λ no_syn. plain_ack_pending e p b usual none
    (met_of (accepts e p) (has_rst p) (has_syn p) (misses_syn e p) unrefused h no_rst no_syn)))

-- .. and of one that is only allowed: its length calls for an answer
allowed_ack_pending : (e : Tcb) (p : Segment) → IsBounded e → IsUsual e p → e.ack_pending ≡ false → check.accepts e p ≡ false → check.is_allowed e p ≡ true
    → (check_rst (with_time_wait_restarted e p) p).ack_pending ≡ not (has_rst p)
unfolding check_rst check_syn with_time_wait_restarted check.accepts check.is_allowed
allowed_ack_pending e p b usual none unacceptable allowed =
    let e0 : Tcb = with_time_wait_restarted e p in
    let at_next : Bool = int_eq (first e p) (pos (next e.receiving)) in
    let two = and_parts (is_allowed_at_zero (next e.receiving) (window e.receiving) (first e p)) (e.sending.syn_acked || int_eq (ack_at e p) (pos 0)) allowed in
    let some : nat_lt 0 (length_of p) ≡ true = allowed_has_length (next e.receiving) (window e.receiving) (first e p) (length_of p) unacceptable two.0 in
    let no_rst : has_rst p ≡ false = no_rst_of (has_rst p) _ some in
    let met : misses_syn e p ≡ false =
    allowed_by e.sending.syn_acked (has_ack p) (int_eq (ack_at e p) (pos 0)) (int_lt (ack_at e p) (pos 0) || acknowledges_unsent e p) two.1 (at_syn e.sending.sent (ack_at e p)) in
    ap (λ v. (if v then (if at_next then with_reset e0 else with_ack_pending_if true e0) else check_syn e0 p).ack_pending) no_rst
    ∙ of_if (λ (t : Tcb). t.ack_pending) (has_syn p) (with_ack_pending_if true e0) (check_ack (at_ack e p) p)
    ∙ if_when (has_syn p) _ true _ true (λ is_syn. false_or e.ack_pending true none)
    (λ no_syn. plain_ack_pending e p b usual none met ∙ ap (λ v. v || is_unsent_ack e p) some)
    ∙ same_if (has_syn p) true ∙ ap not (sym no_rst)

-- a segment that goes on
further_ack_pending : (e : Tcb) (p : Segment) → IsBounded e → IsUsual e p → e.ack_pending ≡ false → is_refused e p ≡ false → proceeds e p ≡ true
    → (check_rst (with_time_wait_restarted e p) p).ack_pending ≡ needs_ack e p
further_ack_pending e p b usual none unrefused goes =
    by_cases (check.accepts e p)
    (λ h. let is : accepts e p ≡ true = sym (accepts_same e p) ∙ h in
    acceptable_ack_pending e p b usual none unrefused is ∙ ap (λ v. if v then needs_ack_if_acceptable e p else not (has_rst p)) (sym is))
    (λ h. allowed_ack_pending e p b usual none h (or_other (check.accepts e p) (check.is_allowed e p) h goes)
    ∙ ap (λ v. if v then needs_ack_if_acceptable e p else not (has_rst p)) (sym h ∙ accepts_same e p))

pub ack_pending_law : (e : Tcb) (p : Segment) → has_begun e.name ≡ true → IsBounded e → IsUsual e p → e.ack_pending ≡ false → is_refused e p ≡ false
    → (received e p).ack_pending ≡ needs_ack e p
unfolding received in_others check_sequence with_time_wait_restarted check.accepts check.is_allowed
ack_pending_law e p begun b usual none unrefused =
    let e0 : Tcb = with_time_wait_restarted e p in
    ap (λ (t : Tcb). t.ack_pending) (begun_is e.name e p begun)
    ∙ of_if (λ (t : Tcb). t.ack_pending) (proceeds e p) (check_rst e0 p) (with_ack_pending_if (not (has_rst p)) e0)
    ∙ if_when (proceeds e p) _ (needs_ack e p) _ (needs_ack e p) (λ goes. further_ack_pending e p b usual none unrefused goes)
    (λ stays. false_or e.ack_pending (not (has_rst p)) none
    ∙ ap (λ v. if v then needs_ack_if_acceptable e p else not (has_rst p)) (sym (left_false (check.accepts e p) (check.is_allowed e p) stays) ∙ accepts_same e p))
    ∙ same_if (proceeds e p) (needs_ack e p)
