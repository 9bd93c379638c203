-- The RST that answers a segment, and what a segment leaves of what else is due.
use Rattle.std.proofs.Common.{◌≡◌, ℕ, Bool, true, false, not, Some, refl, sym, ap, arith, ◌∙◌}
use Rattle.std.specs.Prelude.{ℤ, pos, ◌&&◌, ◌||◌, nat_lt, int_lt, if◌then◌else◌}
use Rattle.tcp_rules.specs.Arrival.{int_eq, is_allowed_at_zero, is_beyond}
use Rattle.seq_arith.specs.Packet.{Segment, has_syn, has_rst, has_ack}
use Rattle.seq_arith.specs.Offset.{length_of}
use Rattle.std.proofs.lemmas.Int.{ints}
use Rattle.ft_io.proofs.Choices.{of_if}
use Rattle.tcp_buffers.specs.Near.{is_ahead}
use Rattle.tcp_endpoint.specs.declared.states.StateName.{StateName}
use Rattle.tcp_endpoint.specs.States.{after_syn_acked, after_fin, after_fin_acked, has_begun}
use Rattle.tcp_endpoint.specs.ReceiveHalf.{Receiving, next, window}
use Rattle.tcp_endpoint.specs.SendHalf.{Sending, with_syn_acked, fin_acked}
use Rattle.tcp_endpoint.specs.Tcb.{Tcb}
use Rattle.tcp_endpoint.specs.Arrival.{first, ack_at, rst, with_reset, with_ack_pending_if, entering, with_text_and_fin, with_fin_acked, with_first_ack, with_ack_used, with_ack, with_time_wait_restarted, received, with_reset_reply}
use Rattle.tcp_endpoint.specs.Arrival as check
use Rattle.endpoint_laws.specs.Laws.{accepts, acknowledges_unsent, misses_syn, is_refused, IsBounded}
use Rattle.endpoint_laws.proofs.TakenLaw.{same_if, if_when, begun_is, Aside, at_ack, others_part, segment_taken, accepts_same}

-- a part of the endpoint that only the checks on state, numbers and buffers leave
pub record Beside {X : Type 0} (f : Tcb → X) : Type 0 where
  pub aside : Aside f
  pub text : (e : Tcb) (p : Segment) → f (with_text_and_fin e p) ≡ f e
  pub acked : (e : Tcb) → f (with_fin_acked e) ≡ f e
  pub using : (e : Tcb) (p : Segment) → f (with_ack_used e p) ≡ f e
  pub opening : (e : Tcb) (p : Segment) → f (record e { name = after_syn_acked e.sending.closed; sending = with_syn_acked e.sending p.head.seq p.head.window }) ≡ f e

pub later_part : {X : Type 0} (f : Tcb → X) (e : Tcb) (p : Segment) → Beside f → f (with_ack e p) ≡ f e
unfolding with_ack
later_part f e p b =
    let used : Tcb = with_ack_used e p in
    let beyond : Bool = is_ahead e.sending.sent (ack_at e p) in
    of_if f beyond (with_ack_pending_if true e) (with_text_and_fin (with_fin_acked used) p)
    ∙ if_when beyond (f (with_ack_pending_if true e)) (f e) (f (with_text_and_fin (with_fin_acked used) p)) (f e)
    (λ h. b.aside.pending true e) (λ h. b.text (with_fin_acked used) p ∙ b.acked used ∙ b.using e p)
    ∙ same_if beyond (f e)

-- .. but for a first acknowledgement of anything but the SYN, which is refused
first_part : {X : Type 0} (f : Tcb → X) (e : Tcb) (p : Segment) → Beside f
    → f (with_first_ack e p) ≡ (if int_eq (ack_at e p) (pos 0) then f e else f (with_reset_reply e p))
unfolding with_first_ack
first_part f e p b =
    let opening : Tcb = record e { name = after_syn_acked e.sending.closed; sending = with_syn_acked e.sending p.head.seq p.head.window } in
    let is_syn : Bool = int_eq (ack_at e p) (pos 0) in
    of_if f is_syn (with_text_and_fin opening p) (with_reset_reply e p)
    ∙ ap (λ x. if is_syn then x else f (with_reset_reply e p)) (b.text opening p ∙ b.opening e p)

-- a segment that goes on for its place at a window of zero is answered by no RST
off_zero : {X : Type 0} (z rst syn ack o k : Bool) (x y : X)
    → (if z && (o || k) then (if rst then x else (if syn then x else (if ack then (if o then x else (if k then x else y)) else x))) else x) ≡ x
off_zero z true syn ack o k x y = same_if (z && (o || k)) x
off_zero z false true ack o k x y = same_if (z && (o || k)) x
off_zero z false false false o k x y = same_if (z && (o || k)) x
off_zero z false false true true k x y = same_if (z && true) x
off_zero z false false true false true x y = same_if (z && true) x
off_zero true false false true false false x y = refl
off_zero false false false true false false x y = refl

-- by all checks, in the law's one test
refused_by : {X : Type 0} (acceptable at_zero rst syn ack syn_acked acked misses : Bool) (x y : X) → (ack ≡ true → syn_acked ≡ false → acked ≡ not misses) → (ack ≡ false → misses ≡ false) → (syn_acked ≡ true → misses ≡ false)
    → (if acceptable || (at_zero && (syn_acked || acked)) then (if rst then x else (if syn then x else (if ack then (if syn_acked then x else (if acked then x else y)) else x))) else x)
    ≡ (if acceptable && not rst && not syn && misses then y else x)
refused_by true z true syn ack syn_acked acked misses x y same p q = refl
refused_by true z false true ack syn_acked acked misses x y same p q = refl
refused_by true z false false false syn_acked acked misses x y same p q = ap (λ v. if v then y else x) (sym (p refl))
refused_by true z false false true true acked misses x y same p q = ap (λ v. if v then y else x) (sym (q refl))
refused_by true z false false true false acked true x y same p q = ap (λ v. if v then x else y) (same refl refl)
refused_by true z false false true false acked false x y same p q = ap (λ v. if v then x else y) (same refl refl)
refused_by false z rst syn ack syn_acked acked misses x y same p q = off_zero z rst syn ack syn_acked acked x y

off_middle : (a b : Bool) → (a && false && b) ≡ false
off_middle true b = refl
off_middle false b = refl

abbrev acknowledges_other : Tcb → Segment → Bool
acknowledges_other e p = int_lt (ack_at e p) (pos 0) || acknowledges_unsent e p

no_ack_misses : (e : Tcb) (p : Segment) → has_ack p ≡ false → misses_syn e p ≡ false
no_ack_misses e p h = ap (λ v. not e.sending.syn_acked && v && acknowledges_other e p) h ∙ off_middle (not e.sending.syn_acked) (acknowledges_other e p)

syn_acked_misses : (e : Tcb) (p : Segment) → e.sending.syn_acked ≡ true → misses_syn e p ≡ false
syn_acked_misses e p h = ap (λ v. not v && has_ack p && acknowledges_other e p) h

exactly : (sent : ℕ) (ack : ℤ) → sent ≡ 0 → int_eq ack (pos 0) ≡ not (not false && true && (int_lt ack (pos 0) || is_beyond sent ack))
exactly sent ack none = grind (arith, ints)

-- while the SYN is unacknowledged, an acknowledgement meets it or misses it
meets_or_misses : (e : Tcb) (p : Segment) → IsBounded e → has_ack p ≡ true → e.sending.syn_acked ≡ false → int_eq (ack_at e p) (pos 0) ≡ not (misses_syn e p)
meets_or_misses e p b is_ack syn_unacked =
    exactly e.sending.sent (ack_at e p) (b.syn_unacked syn_unacked)
    ∙ ap (λ v. not (not v && true && acknowledges_other e p)) (sym syn_unacked)
    ∙ ap (λ v. not (not e.sending.syn_acked && v && acknowledges_other e p)) (sym is_ack)

-- what the checks leave of such a part
pub beside_is : {X : Type 0} (f : Tcb → X) (e : Tcb) (p : Segment) → Beside f → has_begun e.name ≡ true → IsBounded e
    → f (received e p) ≡ (if is_refused e p then f (with_reset_reply (at_ack e p) p) else f e)
unfolding received with_time_wait_restarted check.is_allowed
beside_is {X = X} f e p b begun bounded =
    let e1 : Tcb = at_ack e p in
    let back : f e1 ≡ f e = b.aside.pending (nat_lt 0 (length_of p)) (with_time_wait_restarted e p) ∙ b.aside.waiting e p in
    let refused : X = f (with_reset_reply e1 p) in
    let is_syn : Bool = int_eq (ack_at e p) (pos 0) in
    ap f (begun_is e.name e p begun) ∙ others_part f e p b.aside
    ∙ (λ i. if accepts_same e p i || check.is_allowed e p
    then (if has_rst p then f e else (if has_syn p then f e
    else (if has_ack p then (if e.sending.syn_acked then (later_part f e1 p b ∙ back) i else (first_part f e1 p b ∙ ap (λ x. if is_syn then x else refused) back) i) else f e)))
    else f e)
    ∙ refused_by (accepts e p) (is_allowed_at_zero (next e.receiving) (window e.receiving) (first e p)) (has_rst p) (has_syn p) (has_ack p) e.sending.syn_acked is_syn
    (misses_syn e p) (f e) refused (meets_or_misses e p bounded) (no_ack_misses e p) (syn_acked_misses e p)

-- such parts: the RST that answers, what else is due in the turn, what was last advertised, and the numbers of the connection
text_of : {X : Type 0} (f : Tcb → X) (e : Tcb) (p : Segment) → ((r : Tcb) → (name : StateName) → f (entering name r) ≡ f r)
    → f (record e { receiving = segment_taken e p }) ≡ f e → f (with_text_and_fin e p) ≡ f e
unfolding with_text_and_fin
text_of f e p enters same =
    let taking : Tcb = record e { receiving = segment_taken e p } in
    let fin : Bool = taking.receiving.fin && not e.receiving.fin in
    of_if f fin (entering (after_fin e.name) taking) taking
    ∙ ap (λ x. if fin then x else f taking) (enters taking (after_fin e.name)) ∙ same_if fin (f taking) ∙ same

acked_of : {X : Type 0} (f : Tcb → X) (e : Tcb) → ((r : Tcb) → (name : StateName) → f (entering name r) ≡ f r) → f (with_fin_acked e) ≡ f e
unfolding with_fin_acked
acked_of f e enters =
    of_if f (fin_acked e.sending) (entering (after_fin_acked e.name) e) e
    ∙ ap (λ x. if fin_acked e.sending then x else f e) (enters e (after_fin_acked e.name)) ∙ same_if (fin_acked e.sending) (f e)

-- what neither state, buffers, numbers, the pending acknowledgement nor the one that is due again have a part in
pub record IsApart {X : Type 0} (f : Tcb → X) : Type 0 where
  pub waits : (e : Tcb) (ticks : ℕ) → f (record e { wait = ticks }) ≡ f e
  pub enters : (e : Tcb) (name : StateName) (ticks : ℕ) → f (record e { name = name; wait = ticks }) ≡ f e
  pub dies : (e : Tcb) → f (with_reset e) ≡ f e
  pub needs_ack : (e : Tcb) (ack_pending : Bool) → f (record e { ack_pending = ack_pending }) ≡ f e
  pub takes : (e : Tcb) (receiving : Receiving) → f (record e { receiving = receiving }) ≡ f e
  pub uses : (e : Tcb) (sending : Sending) (retransmission_due : Bool) → f (record e { sending = sending; retransmission_due = retransmission_due }) ≡ f e
  pub opens : (e : Tcb) (name : StateName) (sending : Sending) → f (record e { name = name; sending = sending }) ≡ f e

pub apart_beside : {X : Type 0} (f : Tcb → X) → IsApart f → Beside f
unfolding with_time_wait_restarted with_ack_used
apart_beside f a = record {
  aside = record { with_reset = a.dies; pending = λ b e. a.needs_ack e (e.ack_pending || b); waiting = λ e p. a.waits e _ };
  text = λ e p. text_of f e p (λ r name. a.enters r name _) (a.takes e _);
  acked = λ e. acked_of f e (λ r name. a.enters r name _);
  using = λ e p. a.uses e _ _;
  opening = λ e p. a.opens e _ _;
}

pub reset_reply_apart : IsApart (λ (t : Tcb). t.reset_reply)
reset_reply_apart = record {
  waits = λ e n. refl;
  enters = λ e m n. refl;
  dies = λ e. refl;
  needs_ack = λ e o. refl;
  takes = λ e r. refl;
  uses = λ e s b. refl;
  opens = λ e m s. refl;
}

pub reset_reply_is : (e : Tcb) (p : Segment) → has_begun e.name ≡ true → IsBounded e
    → (received e p).reset_reply ≡ (if is_refused e p then Some (rst e p p.head.ack 0 4) else e.reset_reply)
unfolding with_reset_reply with_time_wait_restarted
reset_reply_is e p begun b = beside_is (λ t. t.reset_reply) e p (apart_beside (λ t. t.reset_reply) reset_reply_apart) begun b
