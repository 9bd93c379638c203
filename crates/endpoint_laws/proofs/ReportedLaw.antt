-- What was last advertised, when a segment without data goes out, and where a probe is right.
use Rattle.std.proofs.Common.{◌≡◌, ℕ, ◌≤◌, ◌+◌, ◌-◌, Bool, true, false, not, List, ◌++◌, length, length-append, max, min, refl, sym, ap, arith, ◌∙◌}
use Rattle.std.specs.Prelude.{pos, ◌==◌, ◌&&◌, ◌||◌, nat_lt, if◌then◌else◌}
use Rattle.std.proofs.lemmas.Bool.{false≢true, and_parts}
use Rattle.tcp_rules.specs.Arrival.{int_eq}
use Rattle.tcp_rules.specs.Congestion.{Congestion}
use Rattle.tcp_rules.specs.Timing.{Timing}
use Rattle.seq_arith.specs.Packet.{Segment, has_syn, has_rst, has_ack}
use Rattle.seq_arith.specs.Offset.{one_if}
use Rattle.tcp_buffers.specs.Near.{is_ahead}
use Rattle.tcp_endpoint.specs.States.{after_syn_acked, after_fin, after_fin_acked, is_syn_sent, has_begun}
use Rattle.tcp_endpoint.specs.ReceiveHalf.{next, advertised_edge}
use Rattle.tcp_endpoint.specs.SendHalf.{Sending, with_syn_acked, fin_acked, congestion_expired, target, send_edge, sendable, sends_fin, must_run, timed, expires, ticked, with_sent, with_fin_sent}
use Rattle.tcp_endpoint.specs.Tcb.{Tcb}
use Rattle.tcp_endpoint.specs.Arrival.{ack_at, with_ack_pending_if, entering, with_text_and_fin, with_fin_acked, with_first_ack, with_ack_used, with_ack, with_time_wait_restarted, received, with_reset_reply}
use Rattle.tcp_endpoint.specs.Output.{or_bare, is_ack_pending, bare_segment, full_out, leaving, probes_text, probes_fin, with_probe, with_text_sent, with_fin_out, after_full, with_advertised, is_timed, with_turn_ended, flushed, with_timed}
use Rattle.tcp_endpoint.specs.UserCalls.{after_tick, timer_ticked, waited, after_write}
use Rattle.endpoint_laws.specs.Laws.{is_refused, needs_ack, last_advertised, asks, IsBounded, IsUsual, ProbesRightly, IsShut}
use Rattle.endpoint_laws.proofs.TakenLaw.{same_if, if_when, begun_is, proceeds, Aside, at_ack, others_part, segment_taken}
use Rattle.endpoint_laws.proofs.OwedLaw.{ack_pending_law}
use Rattle.endpoint_laws.proofs.Bounding.{text_facts, two_more_off, three_off, four_off}
use Rattle.endpoint_laws.proofs.TurnLaw.{after_steps, sent_law, timed_sent, by_probe}
use Rattle.ft_io.proofs.Booleans.{or_other}
use Rattle.ft_io.proofs.Choices.{of_if}

-- a turn's end sends a segment without data where one is pending
pub leaving_by : (u : Tcb) (ack_pending : Bool) → has_begun u.name ≡ true → u.ack_pending ≡ ack_pending
    → leaving u ≡ or_bare (asks ack_pending u) (bare_segment (after_full u)) (full_out u)
unfolding leaving is_ack_pending after_full with_timed with_fin_out with_text_sent with_probe
leaving_by u ack_pending begun is =
    ap (λ b. or_bare (b && asks u.ack_pending u) (bare_segment (after_full u)) (full_out u)) begun
    ∙ ap (λ o. or_bare (asks o u) (bare_segment (after_full u)) (full_out u)) is

pub bare_law : (e u : Tcb) (p : Segment) → has_begun e.name ≡ true → has_begun u.name ≡ true → IsBounded e → IsUsual e p → e.ack_pending ≡ false
    → is_refused e p ≡ false → u.ack_pending ≡ (received e p).ack_pending
    → leaving u ≡ or_bare (asks (needs_ack e p) u) (bare_segment (after_full u)) (full_out u)
bare_law e u p begun begun_after b usual none unrefused ack_pending =
    leaving_by u (needs_ack e p) begun_after (ack_pending ∙ ack_pending_law e p begun b usual none unrefused)

-- what is advertised
advertised_by : (b : Bool) (x y m n : ℕ) → b ≡ true → ◌≡◌ {A = ℕ × ℕ} ((if b then x else m), (if b then y else n)) (x, y)
advertised_by true x y m n h = refl
advertised_by false x y m n h = absurd (false≢true h)

pub reported_by_flush : (e : Tcb) → has_begun e.name ≡ true → last_advertised (flushed e) ≡ (next e.receiving, advertised_edge e.receiving)
unfolding flushed with_turn_ended with_advertised after_full with_timed with_fin_out with_text_sent with_probe
reported_by_flush e begun = advertised_by (has_begun e.name) (next e.receiving) (advertised_edge e.receiving) e.last_ack_sent e.last_advertised_edge begun

text_part : (e : Tcb) (p : Segment) → last_advertised (with_text_and_fin e p) ≡ last_advertised e
unfolding with_text_and_fin
text_part e p =
    let taking : Tcb = record e { receiving = segment_taken e p }
    in of_if last_advertised (taking.receiving.fin && not e.receiving.fin) (entering (after_fin e.name) taking) taking
    ∙ same_if (taking.receiving.fin && not e.receiving.fin) (last_advertised e)

acked_part : (e : Tcb) → last_advertised (with_fin_acked e) ≡ last_advertised e
unfolding with_fin_acked
acked_part e = of_if last_advertised (fin_acked e.sending) (entering (after_fin_acked e.name) e) e ∙ same_if (fin_acked e.sending) (last_advertised e)

later_ack_part : (e : Tcb) (p : Segment) → last_advertised (with_ack e p) ≡ last_advertised e
unfolding with_ack with_ack_used
later_ack_part e p =
    let used : Tcb = with_ack_used e p in
    let beyond : Bool = is_ahead e.sending.sent (ack_at e p) in
    of_if last_advertised beyond (with_ack_pending_if true e) (with_text_and_fin (with_fin_acked used) p)
    ∙ if_when beyond (last_advertised e) (last_advertised e) (last_advertised (with_text_and_fin (with_fin_acked used) p)) (last_advertised e) (λ h. refl) (λ h. text_part (with_fin_acked used) p ∙ acked_part used)
    ∙ same_if beyond (last_advertised e)

first_ack_part : (e : Tcb) (p : Segment) → last_advertised (with_first_ack e p) ≡ last_advertised e
unfolding with_first_ack with_reset_reply
first_ack_part e p =
    let opening : Tcb = record e { name = after_syn_acked e.sending.closed; sending = with_syn_acked e.sending p.head.seq p.head.window } in
    let is_syn : Bool = int_eq (ack_at e p) (pos 0) in
    of_if last_advertised is_syn (with_text_and_fin opening p) (with_reset_reply e p)
    ∙ if_when is_syn (last_advertised (with_text_and_fin opening p)) (last_advertised e) (last_advertised e) (last_advertised e) (λ h. text_part opening p) (λ h. refl)
    ∙ same_if is_syn (last_advertised e)

reported_aside : Aside last_advertised
unfolding with_time_wait_restarted
reported_aside = record { with_reset = λ e. refl; pending = λ b e. refl; waiting = λ e p. refl }

all_same : (a b c d o : Bool) (x y z : ℕ × ℕ) → x ≡ z → y ≡ z
    → (if a then (if b then z else (if c then z else (if d then (if o then x else y) else z))) else z) ≡ z
all_same true true c d o x y z p q = refl
all_same true false true d o x y z p q = refl
all_same true false false true true x y z p q = p
all_same true false false true false x y z p q = q
all_same true false false false o x y z p q = refl
all_same false b c d o x y z p q = refl

pub reported_by_segment : (e : Tcb) (p : Segment) → has_begun e.name ≡ true → last_advertised (received e p) ≡ last_advertised e
unfolding received with_time_wait_restarted
reported_by_segment e p begun =
    ap last_advertised (begun_is e.name e p begun) ∙ others_part last_advertised e p reported_aside
    ∙ all_same (proceeds e p) (has_rst p) (has_syn p) (has_ack p) e.sending.syn_acked
    (last_advertised (with_ack (at_ack e p) p)) (last_advertised (with_first_ack (at_ack e p) p)) (last_advertised e) (later_ack_part (at_ack e p) p) (first_ack_part (at_ack e p) p)

-- a probe is due where the timer expires with all acknowledged
off_right : (a : Bool) → (a && false) ≡ true → false ≡ true
off_right true h = h
off_right false h = h

expiry : (rest una sent : ℕ) (o : Bool) → ((rest == 1) && not (not o || nat_lt una sent)) ≡ true → una ≤ sent → (1 ≤ rest) × (o ≡ true) × (una ≡ sent)
expiry rest una sent true h order = (grind arith, refl, grind arith)
expiry rest una sent false h order = absurd (false≢true (off_right (rest == 1) h))

-- all that was sent is acknowledged, and what waits has no room
abbrev Stuck : Sending → Type 0
Stuck s = (s.una ≡ s.sent) × (s.edge ≤ s.sent) × (s.sent + 1 ≤ target s) × (s.syn_acked ≡ true)

stuck_ticked : (b : Bool) (s : Sending) (c : Congestion) (t t' : Timing) (i r n : ℕ) → Stuck s
    → Stuck (if b then record s { congestion = c; timing = t; interval = i; rest = r } else record s { timing = t'; rest = n })
stuck_ticked true s c t t' i r n h = h
stuck_ticked false s c t t' i r n h = h

pub probed_by_tick : (e : Tcb) → e.probe ≡ false → IsBounded e → IsShut e.sending → ProbesRightly (after_tick e)
unfolding after_tick timer_ticked waited
probed_by_tick e none b shut =
    let s : Sending = e.sending in
    let due : Bool = expires s && not (not s.syn_acked || nat_lt s.una s.sent) in
    let right : (e.probe || due) ≡ true → Stuck (ticked s) = λ h.
    let x = expiry s.rest s.una s.sent s.syn_acked (or_other e.probe due none h) b.order in
    stuck_ticked (expires s) s (congestion_expired s) _ _ _ _ _ (x.2, shut.edge x.0 x.1 x.2, shut.waits x.0 x.1 x.2, x.1) in
    record { all_acked = λ h. (right h).0; shut = λ h. (right h).1; waits = λ h. (right h).2; syn_acked = λ h. (right h).3 }

more_waits : (f c : Bool) (una sent : ℕ) (held bytes : List ℕ) → sent + 1 ≤ (if f then sent else una + length held + one_if c)
    → sent + 1 ≤ (if f then sent else una + length (held ++ bytes) + one_if c)
more_waits true c una sent held bytes h = h
more_waits false c una sent held bytes h = omega (arith, h, length-append held bytes)

pub shut_by_write : (e : Tcb) (bytes : List ℕ) → IsShut e.sending → IsShut (after_write e bytes).sending
shut_by_write e bytes shut = record {
  edge = shut.edge;
  waits = λ r o a. more_waits e.sending.fin_sent e.sending.closed e.sending.una e.sending.sent e.sending.held bytes (shut.waits r o a);
}

add_none : (m n : ℕ) → n ≡ 0 → m + n ≡ m
add_none m n h = omega arith

sendable_off : (o : Bool) (n : ℕ) → (if o && not true then n else 0) ≡ 0
sendable_off true n = refl
sendable_off false n = refl

probe_fin_facts : (a b c d t u : Bool) → (a && b && c && not d && t && u) ≡ true → (d ≡ false) × (u ≡ true) × (t ≡ true)
probe_fin_facts a b c d t u h =
    let f = and_parts (a && b && c && not d && t) u h in
    let g = text_facts a b c d t f.0 in (g.1, f.1, g.2)

-- a turn's end leaves the target
text_target : (s : Sending) (n : ℕ) (f : Bool) → s.fin_sent ≡ f → (f ≡ true → n ≡ 0) → target (with_sent s n) ≡ target s
text_target s n true is none =
    ap (λ v. if v then s.sent + n else s.una + length s.held + one_if s.closed) is ∙ add_none s.sent n (none refl)
    ∙ sym (ap (λ v. if v then s.sent else s.una + length s.held + one_if s.closed) is)
text_target s n false is none =
    ap (λ v. if v then s.sent + n else s.una + length s.held + one_if s.closed) is ∙ sym (ap (λ v. if v then s.sent else s.una + length s.held + one_if s.closed) is)

fin_target : (s : Sending) → s.closed ≡ true → s.fin_sent ≡ false → s.sent ≡ s.una + length s.held → target (with_fin_sent s) ≡ target s
fin_target s is_closed unsent at_end =
    ap (λ n. n + 1) at_end ∙ ap (λ c. s.una + length s.held + one_if c) (sym is_closed)
    ∙ sym (ap (λ v. if v then s.sent else s.una + length s.held + one_if s.closed) unsent)

target_of_if : (b : Bool) (x y : Sending) (n : ℕ) → (b ≡ true → target x ≡ n) → (b ≡ false → target y ≡ n) → target (if b then x else y) ≡ n
target_of_if true x y n p q = p refl
target_of_if false x y n p q = q refl

sends_facts : (o c d t u : Bool) → (o && c && not d && t && u) ≡ true → (c ≡ true) × (d ≡ false) × (t ≡ true)
sends_facts true true false true u h = (refl, refl, refl)
sends_facts true true false false u h = absurd (false≢true h)
sends_facts true true true t u h = absurd (false≢true (two_more_off t u h))
sends_facts true false d t u h = absurd (false≢true (three_off (not d) t u h))
sends_facts false c d t u h = absurd (false≢true (four_off c (not d) t u h))

at_end : (una sent len : ℕ) → (sent == una + len) ≡ true → sent ≡ una + len
at_end una sent len h = grind arith

probe_end : (una sent len : ℕ) (f t : Bool) → t ≡ not (nat_lt (sent - una) len) → t ≡ true → f ≡ false → una ≤ sent → sent ≤ una + len + one_if f → sent ≡ una + len
probe_end una sent len true t is on unsent order flight = absurd (false≢true (sym unsent))
probe_end una sent len false t is on unsent order flight = grind (arith, is, on)

sendable_of_fin : (s : Sending) → s.fin_sent ≡ true → sendable s ≡ 0
sendable_of_fin s sent = ap (λ v. if s.syn_acked && not v then min (s.una + length s.held) (send_edge s) - s.sent else 0) sent ∙ sendable_off s.syn_acked _

new_target : (s : Sending) → target (after_steps true false false s) ≡ target s
new_target s =
    let texted : Sending = with_sent s (sendable s) in
    let text : target texted ≡ target s = text_target s (sendable s) s.fin_sent refl (λ h. sendable_of_fin s h) in
    target_of_if (sends_fin texted) (with_fin_sent texted) texted (target s)
    (λ h. let f = sends_facts texted.syn_acked texted.closed texted.fin_sent (texted.sent == texted.una + length texted.held)
    (nat_lt texted.sent (send_edge texted)) h in
    fin_target texted f.0 f.1 (at_end texted.una texted.sent (length texted.held) f.2) ∙ text)
    (λ h. text)

pub after_probe : (e : Tcb) → has_begun e.name ≡ true → IsBounded e → (pt pf : Bool) → probes_text e ≡ pt → probes_fin e ≡ pf
    → target (after_steps true pt pf e.sending) ≡ target e.sending
after_probe e begun b true pf is_text is_fin =
    let s : Sending = e.sending in
    let f = text_facts e.probe (has_begun e.name) s.syn_acked s.fin_sent (nat_lt (s.sent - s.una) (length s.held)) is_text in
    new_target (with_sent s 1) ∙ text_target s 1 s.fin_sent refl (λ h. absurd (false≢true (sym f.1 ∙ h)))
after_probe e begun b false true is_text is_fin =
    let s : Sending = e.sending in
    let f = probe_fin_facts e.probe (has_begun e.name) s.syn_acked s.fin_sent (not (nat_lt (s.sent - s.una) (length s.held))) s.closed is_fin in
    new_target (with_fin_sent s)
    ∙ fin_target s f.1 f.0 (probe_end s.una s.sent (length s.held) s.fin_sent (not (nat_lt (s.sent - s.una) (length s.held))) refl f.2 f.0 b.order b.flight)
after_probe e begun b false false is_text is_fin = new_target e.sending

una_of_if : (b : Bool) (x y : Sending) (n : ℕ) → x.una ≡ n → y.una ≡ n → (if b then x else y).una ≡ n
una_of_if true x y n p q = p
una_of_if false x y n p q = q

edge_of_if : (b : Bool) (x y : Sending) (n : ℕ) → x.edge ≡ n → y.edge ≡ n → (if b then x else y).edge ≡ n
edge_of_if true x y n p q = p
edge_of_if false x y n p q = q

-- the fields that no step of a flush touches
pub una_kept : (pt pf : Bool) (s : Sending) → (after_steps true pt pf s).una ≡ s.una
una_kept pt pf s =
    let probed : Sending = if pt then with_sent s 1 else (if pf then with_fin_sent s else s) in
    let is : probed.una ≡ s.una = una_of_if pt (with_sent s 1) (if pf then with_fin_sent s else s) s.una refl (una_of_if pf (with_fin_sent s) s s.una refl refl) in
    let texted : Sending = with_sent probed (sendable probed)
    in una_of_if (sends_fin texted) (with_fin_sent texted) texted s.una is is

edge_kept : (pt pf : Bool) (s : Sending) → (after_steps true pt pf s).edge ≡ s.edge
edge_kept pt pf s =
    let probed : Sending = if pt then with_sent s 1 else (if pf then with_fin_sent s else s) in
    let is : probed.edge ≡ s.edge = edge_of_if pt (with_sent s 1) (if pf then with_fin_sent s else s) s.edge refl (edge_of_if pf (with_fin_sent s) s s.edge refl refl) in
    let texted : Sending = with_sent probed (sendable probed)
    in edge_of_if (sends_fin texted) (with_fin_sent texted) texted s.edge is is

-- with all acknowledged and something waiting, nothing was sent, for want of room below the right edge: the congestion window always leaves some
stuck_by : (una before sent target edge cwnd p : ℕ) → una ≤ before → 1 ≤ cwnd → sent ≡ max before (min target (min edge (una + cwnd))) + p → una ≡ sent
    → sent + 1 ≤ target → edge ≤ sent
stuck_by una before sent target edge cwnd p order wide is acked waits = omega arith

must_wait : (o : Bool) (una sent target : ℕ) → (not o || nat_lt una (max sent target)) ≡ true → o ≡ true → una ≡ sent → sent + 1 ≤ target
must_wait true una sent target h syn_acked acked = grind arith
must_wait false una sent target h syn_acked acked = absurd (false≢true syn_acked)

shut_of : (a : Sending) (edge : ℕ) (s : Sending) → must_run a ≡ true → a.edge ≡ edge → (a.una ≡ a.sent → a.sent + 1 ≤ target a → edge ≤ a.sent)
    → s.syn_acked ≡ a.syn_acked → s.una ≡ a.una → s.sent ≡ a.sent → s.edge ≡ a.edge → target s ≡ target a → IsShut s
shut_of a edge s must is stuck syn_acked una sent same_edge same_target =
    let waits : s.syn_acked ≡ true → s.una ≡ s.sent → a.sent + 1 ≤ target a = λ o acked.
    must_wait a.syn_acked a.una a.sent (target a) must (sym syn_acked ∙ o) (sym una ∙ acked ∙ sent)
    in record {
      edge = λ r o acked. omega (arith, stuck (sym una ∙ acked ∙ sent) (waits o acked), is, same_edge, sent);
      waits = λ r o acked. omega (arith, waits o acked, sent, same_target);
    }

started : (b : Bool) (n : ℕ) (a : Sending) (edge : ℕ) → must_run a ≡ true → a.edge ≡ edge → (a.una ≡ a.sent → a.sent + 1 ≤ target a → edge ≤ a.sent)
    → IsShut (if b then record a { interval = n; rest = n } else a)
started true n a edge must is stuck = shut_of a edge (record a { interval = n; rest = n }) must is stuck refl refl refl refl refl
started false n a edge must is stuck = shut_of a edge a must is stuck refl refl refl refl refl

-- the timer runs only where it must
shut_timed : (runs : Bool) (a : Sending) (edge : ℕ) → (runs ≡ true → must_run a ≡ true) → a.edge ≡ edge
    → (a.una ≡ a.sent → a.sent + 1 ≤ target a → edge ≤ a.sent) → IsShut (timed runs a)
shut_timed true a edge runs is stuck = started (a.rest == 0) a.timing.base a edge (runs refl) is stuck
shut_timed false a edge runs is stuck = record { edge = λ r. absurd (omega arith); waits = λ r. absurd (omega arith) }

pub shut_by_flush : (e : Tcb) → has_begun e.name ≡ true → IsBounded e → ProbesRightly e → IsShut (flushed e).sending
unfolding flushed with_turn_ended with_advertised after_full with_timed with_fin_out with_text_sent with_probe
shut_by_flush e begun b right =
    let s : Sending = e.sending in
    let after : Tcb = after_full e in
    let a : Sending = after.sending in
    let runs : Bool = is_timed after in
    let same : after_steps (has_begun e.name) (probes_text e) (probes_fin e) s ≡ after_steps true (probes_text e) (probes_fin e) s =
    by_probe e (probes_text e) (probes_fin e) refl refl begun in
    let una : a.una ≡ s.una = ap (λ (q : Sending). q.una) same ∙ una_kept (probes_text e) (probes_fin e) s in
    let edge : a.edge ≡ s.edge = ap (λ (q : Sending). q.edge) same ∙ edge_kept (probes_text e) (probes_fin e) s in
    let goal : target a ≡ target s = ap target same ∙ after_probe e begun b (probes_text e) (probes_fin e) refl refl in
    let sent : a.sent ≡ max s.sent (min (target s) (send_edge s)) + one_if e.probe = sym (timed_sent runs a) ∙ sent_law e begun b right in
    shut_timed runs a s.edge
    (λ h. (and_parts (has_begun after.name || is_syn_sent after.name) (must_run a) h).1)
    edge
    (λ acked waits. stuck_by s.una s.sent a.sent (target s) s.edge s.congestion.cwnd (one_if e.probe) b.order b.congestion.window sent
    (sym una ∙ acked) (omega (arith, waits, goal)))
