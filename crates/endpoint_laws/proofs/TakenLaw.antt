-- The checks on a segment, one by one, take what the law Taken says.
use Rattle.std.proofs.Common.{◌≡◌, ℕ, ◌≤◌, ◌+◌, ◌-◌, ◌^◌, Bool, true, false, not, refl, sym, ap, arith, ◌∙◌}
use Rattle.std.specs.Prelude.{ℤ, pos, ◌-ℤ◌, ◌≤ℤ◌, ◌&&◌, ◌||◌, nat_lt, int_le, if◌then◌else◌}
use Rattle.std.proofs.lemmas.Int.{ints}
use Rattle.std.proofs.lemmas.Bool.{false≢true, and_parts}
use Rattle.std.proofs.Math.Bool.{and_assoc}
use Rattle.seq_arith.specs.Number.{offset_of}
use Rattle.tcp_rules.specs.Arrival.{int_eq, is_acceptable_or_at_edge, is_allowed_at_zero, is_usable, is_beyond}
use Rattle.seq_arith.specs.Packet.{Segment, has_fin, has_syn, has_rst, has_ack}
use Rattle.seq_arith.specs.Offset.{one_if, length_of, text_of, fin_of}
use Rattle.tcp_buffers.specs.Near.{is_ahead}
use Rattle.tcp_endpoint.specs.declared.states.StateName.{StateName}
use Rattle.tcp_endpoint.specs.declared.states.StateName.TheVariants.{Closed, Listen, SynSent, SynReceived, Established, FinWait1, FinWait2, CloseWait, Closing, LastAck, TimeWait}
use Rattle.tcp_endpoint.specs.States.{after_syn_acked, after_fin, after_fin_acked, has_begun}
use Rattle.tcp_endpoint.specs.ReceiveHalf.{Receiving, next, advertised_edge, window, with_segment}
use Rattle.tcp_endpoint.specs.SendHalf.{with_syn_acked, fin_acked}
use Rattle.tcp_endpoint.specs.Tcb.{Tcb}
use Rattle.tcp_endpoint.specs.Arrival.{first, ack_at, with_ack_pending_if, with_reset, entering, with_text_and_fin, with_fin_acked, with_first_ack, with_ack_used, with_ack, check_ack, check_syn, check_rst, with_time_wait_restarted, check_sequence, in_others, received_in, received, with_reset_reply}
use Rattle.tcp_endpoint.specs.Arrival as check
use Rattle.endpoint_laws.specs.Laws.{accepts, uses, acknowledges_unsent, counts, taken_by, IsBounded, IsUsual}
use Rattle.ft_io.proofs.Booleans.{not_true, and_true, or_other}
use Rattle.ft_io.proofs.Choices.{of_if}

pub same_if : {X : Type 0} (b : Bool) (x : X) → (if b then x else x) ≡ x
same_if true x = refl
same_if false x = refl

-- the first check lets a segment go on to the others
abbrev pub proceeds : Tcb → Segment → Bool
proceeds e p = check.accepts e p || check.is_allowed e p

-- what the checks choose, by their tests in the order of the checks
abbrev pub by_checks : {X : Type 0} → (goes rst syn ack syn_acked acks_syn ahead : Bool) → X → X → X → X
by_checks goes rst syn ack syn_acked acks_syn ahead later first_one other =
    if goes
    then (if rst then other else (if syn then other
    else (if ack then (if syn_acked then (if ahead then other else later) else (if acks_syn then first_one else other)) else other)))
    else other

-- in a connection that has begun, the checks of 3.10.7.4 are made
pub begun_is : (name : StateName) (e : Tcb) (p : Segment) → has_begun name ≡ true → received_in name e p ≡ in_others e p
begun_is Closed e p h = absurd (false≢true h)
begun_is Listen e p h = absurd (false≢true h)
begun_is SynSent e p h = absurd (false≢true h)
begun_is SynReceived e p h = refl
begun_is Established e p h = refl
begun_is FinWait1 e p h = refl
begun_is FinWait2 e p h = refl
begun_is CloseWait e p h = refl
begun_is Closing e p h = refl
begun_is LastAck e p h = refl
begun_is TimeWait e p h = refl

pub if_when : {X : Type 0} (b : Bool) (x x' y y' : X) → (b ≡ true → x ≡ x') → (b ≡ false → y ≡ y') → (if b then x else y) ≡ (if b then x' else y')
if_when true x x' y y' on off = on refl
if_when false x x' y y' on off = off refl

-- near our stream, only what is beyond what was sent is ahead of it
pub ahead_is : (sent : ℕ) (ack : ℤ) → sent ≤ 2 ^ 24 + 1 → (pos 0 -ℤ pos (2 ^ 30 + 2 ^ 24)) ≤ℤ ack → is_ahead sent ack ≡ is_beyond sent ack
ahead_is sent ack few near = grind (arith, ints)

pub few_sent : (f : Bool) (sent : ℕ) → sent ≤ 2 ^ 24 + one_if f → sent ≤ 2 ^ 24 + 1
few_sent true sent h = h
few_sent false sent h = omega (arith, h)

pub ahead_at : (e : Tcb) (p : Segment) → IsBounded e → IsUsual e p → has_ack p ≡ true → is_ahead e.sending.sent (ack_at e p) ≡ acknowledges_unsent e p
ahead_at e p b usual is_ack = ahead_is e.sending.sent (ack_at e p) (few_sent e.sending.fin_sent e.sending.sent b.sent) (usual.near is_ack)

-- the text and the FIN that the checks take
abbrev pub segment_taken : Tcb → Segment → Receiving
segment_taken e p = with_segment e.receiving (first e p) p.payload (has_fin p)

-- a part of the endpoint that neither the state nor what is pending touches
pub record Aside {X : Type 0} (f : Tcb → X) : Type 0 where
  pub with_reset : (e : Tcb) → f (with_reset e) ≡ f e
  pub pending : (b : Bool) (e : Tcb) → f (with_ack_pending_if b e) ≡ f e
  pub waiting : (e : Tcb) (p : Segment) → f (with_time_wait_restarted e p) ≡ f e

place_part : {X : Type 0} (f : Tcb → X) (e : Tcb) (p : Segment) → Aside f → f (check_sequence e p) ≡ (if proceeds e p then f (check_rst e p) else f e)
unfolding check_sequence
place_part f e p aside =
    of_if f (proceeds e p) (check_rst e p) (with_ack_pending_if (not (has_rst p)) e)
    ∙ ap (λ x. if proceeds e p then f (check_rst e p) else x) (aside.pending (not (has_rst p)) e)

reset_part : {X : Type 0} (f : Tcb → X) (e : Tcb) (b : Bool) → Aside f → f (if b then with_reset e else with_ack_pending_if true e) ≡ f e
reset_part f e true aside = aside.with_reset e
reset_part f e false aside = aside.pending true e

rst_part : {X : Type 0} (f : Tcb → X) (e : Tcb) (p : Segment) → Aside f → f (check_rst e p) ≡ (if has_rst p then f e else f (check_syn e p))
unfolding check_rst
rst_part f e p aside =
    of_if f (has_rst p) (if int_eq (first e p) (pos (next e.receiving)) then with_reset e else with_ack_pending_if true e) (check_syn e p)
    ∙ ap (λ x. if has_rst p then x else f (check_syn e p)) (reset_part f e (int_eq (first e p) (pos (next e.receiving))) aside)

syn_part : {X : Type 0} (f : Tcb → X) (e : Tcb) (p : Segment) → Aside f
    → f (check_syn e p) ≡ (if has_syn p then f e else f (check_ack (with_ack_pending_if (nat_lt 0 (length_of p)) e) p))
unfolding check_syn
syn_part f e p aside =
    of_if f (has_syn p) (with_ack_pending_if true e) (check_ack (with_ack_pending_if (nat_lt 0 (length_of p)) e) p)
    ∙ ap (λ x. if has_syn p then x else f (check_ack (with_ack_pending_if (nat_lt 0 (length_of p)) e) p)) (aside.pending true e)

ack_part : {X : Type 0} (f : Tcb → X) (e : Tcb) (p : Segment)
    → f (check_ack e p) ≡ (if has_ack p then (if e.sending.syn_acked then f (with_ack e p) else f (with_first_ack e p)) else f e)
unfolding check_ack
ack_part f e p =
    of_if f (has_ack p) (if e.sending.syn_acked then with_ack e p else with_first_ack e p) e
    ∙ ap (λ x. if has_ack p then x else f e) (of_if f e.sending.syn_acked (with_ack e p) (with_first_ack e p))

-- the endpoint that the fifth check meets
abbrev pub at_ack : Tcb → Segment → Tcb
at_ack e p = with_ack_pending_if (nat_lt 0 (length_of p)) (with_time_wait_restarted e p)

pub others_part : {X : Type 0} (f : Tcb → X) (e : Tcb) (p : Segment) → Aside f
    → f (in_others e p)
    ≡ (if proceeds e p
    then (if has_rst p then f e else (if has_syn p then f e else (if has_ack p then (if e.sending.syn_acked then f (with_ack (at_ack e p) p) else f (with_first_ack (at_ack e p) p)) else f e)))
    else f e)
unfolding in_others with_time_wait_restarted check.accepts check.is_allowed
others_part f e p aside =
    let e0 : Tcb = with_time_wait_restarted e p in
    place_part f e0 p aside ∙ if_when (proceeds e p) _ _ _ _
    (λ goes. rst_part f e0 p aside ∙ if_when (has_rst p) _ _ _ _
    (λ h. aside.waiting e p)
    (λ no_rst. syn_part f e0 p aside ∙ if_when (has_syn p) _ _ _ _
    (λ h. aside.waiting e p)
    (λ no_syn. ack_part f (at_ack e p) p ∙ if_when (has_ack p) _ _ _ _
    (λ h. refl)
    (λ h. aside.pending (nat_lt 0 (length_of p)) e0 ∙ aside.waiting e p))))
    (λ stays. aside.waiting e p)

-- the receiving half, step by step
text_part : (e : Tcb) (p : Segment) → (with_text_and_fin e p).receiving ≡ segment_taken e p
unfolding with_text_and_fin
text_part e p =
    let taking : Tcb = record e { receiving = segment_taken e p }
    in of_if (λ (t : Tcb). t.receiving) (taking.receiving.fin && not e.receiving.fin) (entering (after_fin e.name) taking) taking
    ∙ same_if (taking.receiving.fin && not e.receiving.fin) taking.receiving

pub acked_part : (e : Tcb) → (with_fin_acked e).receiving ≡ e.receiving
unfolding with_fin_acked
acked_part e =
    of_if (λ (t : Tcb). t.receiving) (fin_acked e.sending) (entering (after_fin_acked e.name) e) e ∙ same_if (fin_acked e.sending) e.receiving

later_ack_part : (e : Tcb) (p : Segment) → (with_ack e p).receiving ≡ (if is_ahead e.sending.sent (ack_at e p) then e.receiving else segment_taken e p)
unfolding with_ack with_ack_used
later_ack_part e p =
    let used : Tcb = with_ack_used e p in
    let ahead : Bool = is_ahead e.sending.sent (ack_at e p) in
    of_if (λ (t : Tcb). t.receiving) ahead (with_ack_pending_if true e) (with_text_and_fin (with_fin_acked used) p)
    ∙ ap (λ r. if ahead then e.receiving else r)
    (text_part (with_fin_acked used) p ∙ ap (λ r. with_segment r (offset_of r.irs p.head.seq) p.payload (has_fin p)) (acked_part used))

first_ack_part : (e : Tcb) (p : Segment) → (with_first_ack e p).receiving ≡ (if int_eq (ack_at e p) (pos 0) then segment_taken e p else e.receiving)
unfolding with_first_ack with_reset_reply
first_ack_part e p =
    let opening : Tcb = record e { name = after_syn_acked e.sending.closed; sending = with_syn_acked e.sending p.head.seq p.head.window }
    in of_if (λ (t : Tcb). t.receiving) (int_eq (ack_at e p) (pos 0)) (with_text_and_fin opening p) (with_reset_reply e p)
    ∙ ap (λ x. if int_eq (ack_at e p) (pos 0) then x else e.receiving) (text_part opening p)

receiving_aside : Aside (λ (e : Tcb). e.receiving)
unfolding with_time_wait_restarted
receiving_aside = record { with_reset = λ e. refl; pending = λ b e. refl; waiting = λ e p. refl }

checks_take : (e : Tcb) (p : Segment)
    → (in_others e p).receiving
    ≡ by_checks (proceeds e p) (has_rst p) (has_syn p) (has_ack p) e.sending.syn_acked
    (int_eq (ack_at e p) (pos 0)) (is_ahead e.sending.sent (ack_at e p)) (segment_taken e p) (segment_taken e p) e.receiving
unfolding with_time_wait_restarted
checks_take e p =
    others_part (λ (t : Tcb). t.receiving) e p receiving_aside ∙ if_when (proceeds e p) _ _ _ _
    (λ goes. if_when (has_rst p) _ _ _ _ (λ h. refl)
    (λ no_rst. if_when (has_syn p) _ _ _ _ (λ h. refl)
    (λ no_syn. if_when (has_ack p) _ _ _ _
    (λ is_ack. if_when e.sending.syn_acked _ _ _ _
    (λ h. later_ack_part (at_ack e p) p)
    (λ h. first_ack_part (at_ack e p) p))
    (λ h. refl))))
    (λ h. refl)

-- a segment with RST or SYN, or without ACK, doesn't count
off_rst : {X : Type 0} (ack syn used acked sent : Bool) (x y : X) → y ≡ (if ack && not syn && not true && used && acked && sent then x else y)
off_rst true true used acked sent x y = refl
off_rst true false used acked sent x y = refl
off_rst false syn used acked sent x y = refl

off_syn : {X : Type 0} (ack used acked sent : Bool) (x y : X) → y ≡ (if ack && not true && not false && used && acked && sent then x else y)
off_syn true used acked sent x y = refl
off_syn false used acked sent x y = refl

-- one that does, by whether an acknowledgement has counted before
later_by_law : {X : Type 0} (acceptable at_zero ahead : Bool) (x y : X)
    → (if acceptable || (at_zero && true) then (if ahead then y else x) else y) ≡ (if (acceptable || at_zero) && true && not ahead then x else y)
later_by_law true at_zero true x y = refl
later_by_law true at_zero false x y = refl
later_by_law false true true x y = refl
later_by_law false true false x y = refl
later_by_law false false ahead x y = refl

first_by_law : {X : Type 0} (acceptable at_zero acks_syn : Bool) (x y : X)
    → (if acceptable || (at_zero && acks_syn) then (if acks_syn then x else y) else y) ≡ (if (acceptable || at_zero) && acks_syn then x else y)
first_by_law true at_zero acks_syn x y = refl
first_by_law false true true x y = refl
first_by_law false true false x y = refl
first_by_law false false acks_syn x y = refl

-- the choice of the checks, in the law's one test
pub by_law : {X : Type 0} (acceptable at_zero rst syn ack syn_acked acks_syn ahead acked unsent : Bool) (x x' y : X) → (ack ≡ true → ahead ≡ unsent)
    → (syn_acked ≡ false → acks_syn ≡ (acked && not unsent))
    → by_checks (acceptable || (at_zero && (syn_acked || acks_syn))) rst syn ack syn_acked acks_syn ahead x x' y
    ≡ (if ack && not syn && not rst && (acceptable || at_zero) && (syn_acked || acked) && not unsent then (if syn_acked then x else x') else y)
by_law a z true syn ack o k h q u x x' y far same = same_if (a || (z && (o || k))) y ∙ off_rst ack syn (a || z) (o || q) (not u) (if o then x else x') y
by_law a z false true ack o k h q u x x' y far same = same_if (a || (z && (o || k))) y ∙ off_syn ack (a || z) (o || q) (not u) (if o then x else x') y
by_law a z false false true true k h q u x x' y far same = later_by_law a z h x y ∙ ap (λ b. if (a || z) && true && not b then x else y) (far refl)
by_law a z false false true false k h q u x x' y far same =
    first_by_law a z k x' y ∙ ap (λ b. if (a || z) && b then x' else y) (same refl) ∙ ap (λ b. if b then x' else y) (sym (and_assoc (a || z) q (not u)))
by_law a z false false false o k h q u x x' y far same = same_if (a || (z && (o || k))) y

-- the window is what is advertised beyond RCV.NXT
pub window_is : (r : Receiving) → advertised_edge r - next r ≡ window r
window_is r = grind arith

-- without SYN and RST all text and the FIN count
pub text_whole : (p : Segment) → has_syn p ≡ false → has_rst p ≡ false → text_of p ≡ p.payload
text_whole p no_syn no_rst = rw (no_syn, no_rst) refl

pub fin_whole : (p : Segment) → has_syn p ≡ false → has_rst p ≡ false → fin_of p ≡ has_fin p
fin_whole p no_syn no_rst = rw (no_syn, no_rst) (and_true (has_fin p))

-- with the SYN alone sent, only its acknowledgement is neither below nor beyond
syn_only : (sent : ℕ) (ack : ℤ) → sent ≡ 0 → int_eq ack (pos 0) ≡ (int_le (pos 0) ack && not (is_beyond sent ack))
syn_only sent ack none = grind (arith, ints)

not_beyond : (sent : ℕ) (ack : ℤ) → is_beyond sent ack ≡ false → ack ≤ℤ pos sent
not_beyond sent ack h = grind (arith, ints)

-- what a segment that counts is, test by test
pub record IsCounted (e : Tcb) (p : Segment) : Type 0 where
  pub ack : has_ack p ≡ true
  pub no_syn : has_syn p ≡ false
  pub no_rst : has_rst p ≡ false
  pub used : uses e p ≡ true
  pub acks_syn : e.sending.syn_acked ≡ false → int_le (pos 0) (ack_at e p) ≡ true
  pub sent : ack_at e p ≤ℤ pos e.sending.sent

pub counted : (e : Tcb) (p : Segment) → counts e p ≡ true → IsCounted e p
counted e p h =
    let plain : Bool = has_ack p && not (has_syn p) && not (has_rst p) in
    let acked : Bool = e.sending.syn_acked || int_le (pos 0) (ack_at e p) in
    let sent = and_parts (plain && uses e p && acked) (not (acknowledges_unsent e p)) h in
    let used = and_parts (plain && uses e p) acked sent.0 in
    let flags = and_parts plain (uses e p) used.0 in
    let no_rst = and_parts (has_ack p && not (has_syn p)) (not (has_rst p)) flags.0 in
    let no_syn = and_parts (has_ack p) (not (has_syn p)) no_rst.0 in
    record {
      ack = no_syn.0;
      no_syn = not_true (has_syn p) no_syn.1;
      no_rst = not_true (has_rst p) no_rst.1;
      used = flags.1;
      acks_syn = λ first. or_other e.sending.syn_acked (int_le (pos 0) (ack_at e p)) first used.1;
      sent = not_beyond e.sending.sent (ack_at e p) (not_true (acknowledges_unsent e p) sent.1);
    }

-- the first check goes by the law's words
pub accepts_same : (e : Tcb) (p : Segment) → check.accepts e p ≡ accepts e p
unfolding check.accepts
accepts_same e p = λ i. is_acceptable_or_at_edge (next e.receiving) (sym (window_is e.receiving) i) (first e p) (length_of p)

-- what the checks choose, in the words of the law
pub chosen_is : {X : Type 0} (e : Tcb) (p : Segment) (later first_one other : X) → IsBounded e → IsUsual e p
    → by_checks (proceeds e p) (has_rst p) (has_syn p) (has_ack p) e.sending.syn_acked (int_eq (ack_at e p) (pos 0)) (is_ahead e.sending.sent (ack_at e p)) later first_one other
    ≡ (if counts e p then (if e.sending.syn_acked then later else first_one) else other)
unfolding check.accepts check.is_allowed
chosen_is {X = X} e p later first_one other bounded usual =
    let acked : Bool = int_le (pos 0) (ack_at e p) in
    let chosen : ℕ → X = λ w.
    if has_ack p && not (has_syn p) && not (has_rst p) && is_usable (next e.receiving) w (first e p) (length_of p) && (e.sending.syn_acked || acked)
    && not (acknowledges_unsent e p)
    then (if e.sending.syn_acked then later else first_one)
    else other in
    by_law (check.accepts e p) (is_allowed_at_zero (next e.receiving) (window e.receiving) (first e p)) (has_rst p) (has_syn p) (has_ack p) e.sending.syn_acked
    (int_eq (ack_at e p) (pos 0)) (is_ahead e.sending.sent (ack_at e p)) acked (acknowledges_unsent e p) later first_one other
    (ahead_at e p bounded usual) (λ syn_unacked. syn_only e.sending.sent (ack_at e p) (bounded.syn_unacked syn_unacked))
    ∙ ap chosen (sym (window_is e.receiving))

pub taken_law : (e : Tcb) (p : Segment) → has_begun e.name ≡ true → IsBounded e → IsUsual e p → (received e p).receiving ≡ taken_by e p
unfolding received taken_by
taken_law e p begun bounded usual =
    let r : Receiving = e.receiving in
    ap (λ (t : Tcb). t.receiving) (begun_is e.name e p begun) ∙ checks_take e p
    ∙ chosen_is e p (segment_taken e p) (segment_taken e p) r bounded usual
    ∙ if_when (counts e p) _ _ r r
    (λ h. let c : IsCounted e p = counted e p h in
    same_if e.sending.syn_acked (segment_taken e p)
    ∙ (λ i. with_segment r (first e p) (sym (text_whole p c.no_syn c.no_rst) i) (sym (fin_whole p c.no_syn c.no_rst) i))) (λ h. refl)
