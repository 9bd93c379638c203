-- The checks on a segment, one by one, in an established connection: the client machine makes the same of it as TCP.
use Rattle.std.proofs.Common.{◌≡◌, ℕ, ◌≤◌, ◌+◌, ◌-◌, ◌^◌, Bool, true, false, not, [], length, refl, sym, ap, subst, arith, ◌∙◌}
use Rattle.std.specs.Prelude.{ℤ, pos, ◌-ℤ◌, ◌≤ℤ◌, ◌&&◌, ◌||◌, nat_lt, int_lt, if◌then◌else◌}
use Rattle.std.proofs.lemmas.Bool.{false≢true}
use Rattle.std.proofs.lemmas.Int.{ints}
use Rattle.tcp_rules.specs.Arrival.{int_eq, is_acceptable, is_at_right_edge, is_allowed_at_zero, is_usable}
use Rattle.tcp_rules.specs.Coming.{comes}
use Rattle.tcp_rules.specs.Congestion.{Congestion}
use Rattle.tcp_rules.specs.Timing.{Timing}
use Rattle.seq_arith.specs.Offset.{length_of, first_of, ack_of, text_of, fin_of, one_if}
use Rattle.seq_arith.specs.Packet.{Segment, has_fin, has_syn, has_rst, has_ack}
use Rattle.tcp_buffers.specs.Near.{is_ahead}
use Rattle.tcp_endpoint.specs.declared.states.StateName.{StateName}
use Rattle.tcp_endpoint.specs.declared.states.StateName.TheVariants.{Closed}
use Rattle.tcp_endpoint.specs.States.{after_fin, after_fin_acked}
use Rattle.tcp_endpoint.specs.ReceiveHalf.{Receiving, next, taken, window, receive_edge, with_segment}
use Rattle.tcp_endpoint.specs.SendHalf.{Sending, acknowledged, is_duplicate, shows_loss, duplicated, untimed_if, answered_by, fin_acked}
use Rattle.tcp_endpoint.specs.Tcb.{Tcb}
use Rattle.tcp_endpoint.specs.Arrival.{first, ack_at, with_ack_pending_if, with_reset, entering, with_text_and_fin, with_fin_acked, with_first_ack, is_bare, with_ack_used, with_ack, check_ack, check_syn, check_rst, with_time_wait_restarted, accepts, is_allowed, check_sequence, in_others}
use Rattle.ft_model.specs.Client as machine
use Rattle.ft_model.specs.Client.{Client, is_live, is_open, is_ended, holds, next_of, room_of}
use Rattle.ft_model.specs.Client.ClientKind.{Live}
use Rattle.ft_model.specs.declared.phase.Phase.TheVariants.{Reset}
use Rattle.peer_client.specs.Refinement.{OnReceipt, Sends}
use Rattle.peer_client.proofs.Comes.{both_if, Receipt, segment_received, ack_sends}
use Rattle.ft_io.proofs.Booleans.{left_true, right_true, and_true}
use Rattle.ft_io.proofs.Choices.{holds_if}
use Rattle.endpoint_laws.proofs.EndingLaw.{acceptable_at}
use Rattle.endpoint_laws.proofs.TakenLaw.{ahead_is}

-- an endpoint and the machine after some of the checks, with those before them
pub record AfterChecks (e : Tcb) (c : Client) (written : ℕ) (t : Tcb) (d : Client) : Type 0 where
  pub local : t.local ≡ e.local
  pub remote : t.remote ≡ e.remote
  pub iss : t.sending.iss ≡ e.sending.iss
  pub syn_acked : t.sending.syn_acked ≡ e.sending.syn_acked
  pub reset : t.reset ≡ e.reset
  pub reset_reply : t.reset_reply ≡ e.reset_reply
  pub last_ack_sent : t.last_ack_sent ≡ e.last_ack_sent
  pub last_advertised_edge : t.last_advertised_edge ≡ e.last_advertised_edge
  pub read : t.receiving.read ≡ e.receiving.read
  pub limit : t.receiving.limit ≡ e.receiving.limit
  pub grows : taken e.receiving ≤ taken t.receiving
  pub fin : e.receiving.fin ≡ true → t.receiving.fin ≡ true
  pub on_receipt : OnReceipt t.receiving d
  pub sends : Sends t.sending written d
  pub same : d ≡ record c { phase = d.phase; acknowledged = d.acknowledged; accepted = d.accepted; early = d.early }
  pub phase : is_open d.phase ≡ true

-- what may go on before a segment comes
pub record Before (e : Tcb) (c : Client) (written : ℕ) : Type 0 where
  pub on_receipt : OnReceipt e.receiving c
  pub sends : Sends e.sending written c
  pub iss : e.sending.iss ≡ c.isn
  pub phase : is_open c.phase ≡ true
  pub edge : c.edge ≡ receive_edge e.receiving
  pub syn_acked : e.sending.syn_acked ≡ true
  pub kind : c.kind ≡ Live

kept : (e : Tcb) (c : Client) (written : ℕ) (name : StateName) (ack_pending : Bool) (wait : ℕ) → Before e c written
    → AfterChecks e c written (record e { name = name; ack_pending = ack_pending; wait = wait }) c
kept e c written name ack_pending wait b = record {
  local = refl;
  remote = refl;
  iss = refl;
  syn_acked = refl;
  reset = refl;
  reset_reply = refl;
  last_ack_sent = refl;
  last_advertised_edge = refl;
  read = refl;
  limit = refl;
  grows = omega arith;
  fin = λ k. k;
  on_receipt = b.on_receipt;
  sends = b.sends;
  same = refl;
  phase = b.phase;
}

-- a duplicate acknowledgement, and one that shows a loss, change congestion control and the estimate alone
answered_is : (s : Sending) (bare : Bool) (seq room : ℕ) (ack : ℤ)
    → record (acknowledged s seq ack room) { congestion = (answered_by s bare seq ack room).congestion; timing = (answered_by s bare seq ack room).timing }
    ≡ answered_by s bare seq ack room
unfolding answered_by
answered_is s bare seq room ack =
    let again : Bool = shows_loss s bare ack room in
    holds_if (λ (t : Sending). record (acknowledged s seq ack room) { congestion = t.congestion; timing = (untimed_if again t).timing } ≡ untimed_if again t) (is_duplicate s bare ack room)
    (duplicated (acknowledged s seq ack room)) (acknowledged s seq ack room) (λ _. refl) (λ _. refl)

-- an acknowledgement that isn't beyond, whether it is a duplicate or not, and whatever goes out again for it
acknowledged_kept : (e : Tcb) (c : Client) (written : ℕ) (name : StateName) (ack_pending retransmission_due : Bool) (wait seq room : ℕ) (ack : ℤ) (after : Congestion) (time : Timing)
    → Before e c written → int_lt (pos e.sending.sent) ack ≡ false
    → AfterChecks e c written (record e { name = name; ack_pending = ack_pending; retransmission_due = retransmission_due; wait = wait; sending = record (acknowledged e.sending seq ack room) { congestion = after; timing = time } })
    (machine.with_ack c ack)
unfolding acknowledged
acknowledged_kept e c written name ack_pending retransmission_due wait seq room ack after time b sent = record {
  local = refl;
  remote = refl;
  iss = refl;
  syn_acked = refl;
  reset = refl;
  reset_reply = refl;
  last_ack_sent = refl;
  last_advertised_edge = refl;
  read = refl;
  limit = refl;
  grows = omega arith;
  fin = λ k. k;
  on_receipt = record {
    sisn = b.on_receipt.sisn;
    limit = b.on_receipt.limit;
    count = b.on_receipt.count;
    rest = b.on_receipt.rest;
    fin = b.on_receipt.fin;
    early = b.on_receipt.early;
    behind = b.on_receipt.behind;
    within = b.on_receipt.within;
    queued = b.on_receipt.queued;
  };
  sends = ack_sends e.sending seq ack room written c after time sent b.sends;
  same = refl;
  phase = b.phase;
}

ack_kept : (e : Tcb) (c : Client) (written : ℕ) (name : StateName) (ack_pending retransmission_due bare : Bool) (wait seq room : ℕ) (ack : ℤ) → Before e c written
    → int_lt (pos e.sending.sent) ack ≡ false
    → AfterChecks e c written (record e { name = name; ack_pending = ack_pending; retransmission_due = retransmission_due; wait = wait; sending = answered_by e.sending bare seq ack room }) (machine.with_ack c ack)
ack_kept e c written name ack_pending retransmission_due bare wait seq room ack b sent =
    subst (λ (s : Sending). AfterChecks e c written (record e { name = name; ack_pending = ack_pending; retransmission_due = retransmission_due; wait = wait; sending = s }) (machine.with_ack c ack))
    (answered_is e.sending bare seq room ack)
    (acknowledged_kept e c written name ack_pending retransmission_due wait seq room ack (answered_by e.sending bare seq ack room).congestion
    (answered_by e.sending bare seq ack room).timing b sent)

-- text and FIN
sends_received : (s : Sending) (written : ℕ) (d d' : Client) → d' ≡ record d { phase = d'.phase; accepted = d'.accepted; early = d'.early } → Sends s written d → Sends s written d'
sends_received s written d d' same h =
    subst (λ (x : Client). Sends s written x) (sym same) (record {
      sent = h.sent;
      acknowledged = h.acknowledged;
      held = h.held;
      order = h.order;
      wl2 = h.wl2;
      within = h.within;
      script = h.script;
      text = h.text;
      ended = h.ended;
      shut = h.shut;
      least = h.least;
      most = h.most;
    })

received_kept : (e : Tcb) (c : Client) (written : ℕ) (x : Tcb) (d d' : Client) (r : Receiving) (name : StateName) (ack_pending : Bool) (wait : ℕ) → AfterChecks e c written x d
    → Receipt x.receiving d r d' → AfterChecks e c written (record x { receiving = r; name = name; ack_pending = ack_pending; wait = wait }) d'
received_kept e c written x d d' r name ack_pending wait k h = record {
  local = k.local;
  remote = k.remote;
  iss = k.iss;
  syn_acked = k.syn_acked;
  reset = k.reset;
  reset_reply = k.reset_reply;
  last_ack_sent = k.last_ack_sent;
  last_advertised_edge = k.last_advertised_edge;
  read = h.read ∙ k.read;
  limit = h.limit ∙ k.limit;
  grows = omega (arith, k.grows, h.grows);
  fin = λ f. h.keeps (k.fin f);
  on_receipt = h.on_receipt;
  sends = sends_received x.sending written d d' h.same k.sends;
  same = h.same
      ∙ (λ i. record (k.same i) { phase = d'.phase; accepted = d'.accepted; early = d'.early })
      ∙ (λ i. record c { phase = d'.phase; acknowledged = ap (λ (y : Client). y.acknowledged) (sym h.same) i; accepted = d'.accepted; early = d'.early });
  phase = h.phase;
}

text_kept : (e : Tcb) (c : Client) (written : ℕ) (x : Tcb) (d : Client) (p : Segment) → has_syn p ≡ false → has_rst p ≡ false → d.kind ≡ Live → d.edge ≡ receive_edge x.receiving
    → AfterChecks e c written x d
    → AfterChecks e c written (with_text_and_fin x p) (machine.with_added d (machine.came d p))
unfolding with_text_and_fin
text_kept e c written x d p syn rst kind edge k =
    let z : ℤ = first x p in
    let r : Receiving = with_segment x.receiving z p.payload (has_fin p) in
    let text : p.payload ≡ text_of p = λ i. if sym syn i || sym rst i then [] else p.payload in
    let fin : has_fin p ≡ fin_of p = sym (and_true (has_fin p)) ∙ (λ i. has_fin p && not (sym syn i || sym rst i)) in
    let d' : Client = machine.with_added d (machine.came d p) in
    let args : machine.with_added d (comes (length d.accepted) d.edge (is_ended d.phase) (holds d.kind d.early) z p.payload (has_fin p)) ≡ d' =
    λ i. machine.with_added d (comes (length d.accepted) d.edge (is_ended d.phase) (holds d.kind d.early) (first_of (sym k.on_receipt.sisn i) p) (text i) (fin i)) in
    let h : Receipt x.receiving d r d' =
    subst (λ (y : Client). Receipt x.receiving d r y) args (segment_received x.receiving d z p.payload (has_fin p) k.on_receipt kind k.phase edge) in
    let taking : Tcb = record x { receiving = r } in
    holds_if (λ (t : Tcb). AfterChecks e c written t d') (r.fin && not x.receiving.fin) (entering (after_fin x.name) taking) taking
    (λ _. received_kept e c written x d d' r (after_fin x.name) x.ack_pending (entering (after_fin x.name) taking).wait k h)
    (λ _. received_kept e c written x d d' r x.name x.ack_pending x.wait k h)

-- fifth check
pub few_sent : (s : Sending) (written : ℕ) (c : Client) (b : Bool) → s.fin_sent ≡ b → Sends s written c → s.sent ≤ 2 ^ 24 + 1
few_sent s written c true k h = omega (arith, (h.ended k).1, h.within, h.script)
few_sent s written c false k h = omega (arith, h.text k, h.within, h.script)

acked_kept : (e : Tcb) (c : Client) (written : ℕ) (e1 : Tcb) (ack_pending : Bool) (wait : ℕ) (p : Segment) → e1 ≡ record e { ack_pending = ack_pending; wait = wait } → has_syn p ≡ false → has_rst p ≡ false
    → (pos 0 -ℤ pos (2 ^ 30)) ≤ℤ ack_of c.isn p → Before e c written → AfterChecks e c written (with_ack e1 p) (machine.used c p)
unfolding with_ack with_ack_used with_fin_acked
acked_kept e c written e1 ack_pending wait p is syn rst near b =
    let near_at : (pos 0 -ℤ pos (2 ^ 30)) ≤ℤ ack_at e p = subst (λ n. (pos 0 -ℤ pos (2 ^ 30)) ≤ℤ ack_of n p) (sym b.iss) near in
    let e2 : Tcb = record e { ack_pending = ack_pending; wait = wait } in
    let retransmission_due : Bool = e.retransmission_due || shows_loss e.sending (is_bare p) (ack_at e p) p.head.window in
    let m : Tcb = record e2 { sending = answered_by e.sending (is_bare p) p.head.seq (ack_at e p) p.head.window; retransmission_due = retransmission_due } in
    let few : e.sending.sent ≤ 2 ^ 24 + 1 = few_sent e.sending written c e.sending.fin_sent refl b.sends in
    let ahead : is_ahead e.sending.sent (ack_at e p) ≡ int_lt (pos e.sending.sent) (ack_at e p) = ahead_is e.sending.sent (ack_at e p) few (omega (arith, ints, near_at)) in
    let later : ℕ → Client = λ n. machine.with_added (machine.with_ack c (ack_of n p)) (machine.came c p) in
    subst (λ (t : Tcb). AfterChecks e c written (with_ack t p) (machine.used c p)) (sym is)
    (both_if (λ (t : Tcb) (d : Client). AfterChecks e c written t d) (is_ahead e.sending.sent (ack_at e p)) (int_lt (pos c.sent) (ack_of c.isn p)) (with_ack_pending_if true e2) _ c (later c.isn)
    (ahead ∙ (λ i. int_lt (pos (sym b.sends.sent i)) (ack_of (b.iss i) p)))
    (λ k. kept e c written e.name (ack_pending || true) wait b)
    (λ k.
    let within : int_lt (pos e.sending.sent) (ack_at e p) ≡ false = sym ahead ∙ k in
    subst (λ n. AfterChecks e c written (with_text_and_fin (if fin_acked m.sending then entering (after_fin_acked m.name) m else m) p) (later n)) b.iss
    (holds_if (λ (x : Tcb). AfterChecks e c written (with_text_and_fin x p) (later e.sending.iss)) (fin_acked m.sending) (entering (after_fin_acked m.name) m) m
    (λ q. text_kept e c written (entering (after_fin_acked m.name) m) (machine.with_ack c (ack_at e p)) p syn rst b.kind b.edge
    (ack_kept e c written (after_fin_acked e.name) ack_pending retransmission_due (is_bare p) (entering (after_fin_acked m.name) m).wait p.head.seq p.head.window (ack_at e p) b within))
    (λ q. text_kept e c written m (machine.with_ack c (ack_at e p)) p syn rst b.kind b.edge
    (ack_kept e c written e.name ack_pending retransmission_due (is_bare p) wait p.head.seq p.head.window (ack_at e p) b within)))))

-- a SYN and a segment without ACK change nothing of this
syn_or_ack : (P : Tcb → Client → Type 0) (syn ack : Bool) (a x y : Tcb) (c u : Client) → P a c → P y c → (syn ≡ false → ack ≡ true → P x u)
    → P (if syn then a else (if ack then x else y)) (if syn || not ack then c else u)
syn_or_ack P true ack a x y c u h g k = h
syn_or_ack P false true a x y c u h g k = k refl refl
syn_or_ack P false false a x y c u h g k = g

-- once the SYN is acknowledged TCP looks at a segment further where the machine may use it
abbrev used_by : Tcb → Segment → Bool
used_by e p = is_usable (next e.receiving) (window e.receiving) (first e p) (length_of p)

looks_further : (e : Tcb) (p : Segment) → e.sending.syn_acked ≡ true → (accepts e p || is_allowed e p) ≡ used_by e p
unfolding accepts is_allowed
looks_further e p acked =
    let zero : Bool = is_allowed_at_zero (next e.receiving) (window e.receiving) (first e p) in
    ap (λ b. accepts e p || (zero && (b || int_eq (ack_at e p) (pos 0)))) acked ∙ ap (λ b. accepts e p || b) (and_true zero)

used_alike : (e : Tcb) (c : Client) (written : ℕ) (p : Segment) → Before e c written → used_by e p ≡ machine.may_use c p
used_alike e c written p b =
    let usable : Bool = is_usable (next_of c) (room_of c) (first_of c.sisn p) (length_of p) in
    let acceptable : Bool = is_acceptable (next_of c) (room_of c) (first_of c.sisn p) (length_of p) in
    (λ i. is_usable (sym b.on_receipt.count i + one_if (sym b.on_receipt.fin i)) (sym b.edge i - sym b.on_receipt.count i) (first_of (sym b.on_receipt.sisn i) p) (length_of p))
    ∙ (λ i. if is_live (sym b.kind i) then usable else acceptable)

at_alike : (e : Tcb) (c : Client) (written : ℕ) (p : Segment) → Before e c written
    → int_eq (first e p) (pos (next e.receiving)) ≡ int_eq (first_of c.sisn p) (pos (next_of c))
at_alike e c written p b = λ i. int_eq (first_of (sym b.on_receipt.sisn i) p) (pos (sym b.on_receipt.count i + one_if (sym b.on_receipt.fin i)))

pub others_kept : (e : Tcb) (c : Client) (written : ℕ) (p : Segment) → (has_rst p && int_eq (first e p) (pos (next e.receiving))) ≡ false
    → (has_ack p ≡ true → (pos 0 -ℤ pos (2 ^ 30)) ≤ℤ ack_of c.isn p) → Before e c written → AfterChecks e c written (in_others e p) (machine.arrived c p)
unfolding in_others check_sequence check_rst check_syn check_ack with_time_wait_restarted
others_kept e c written p unreset near b =
    let P : Tcb → Client → Type 0 = λ t d. AfterChecks e c written t d in
    let e0 : Tcb = with_time_wait_restarted e p in
    let takes : Bool = nat_lt 0 (length_of p) in
    both_if P (accepts e0 p || is_allowed e0 p) (machine.may_use c p) (check_rst e0 p) (with_ack_pending_if (not (has_rst p)) e0) _ c
    (looks_further e0 p b.syn_acked ∙ used_alike e c written p b)
    (λ used. both_if P (has_rst p) (has_rst p) _ (check_syn e0 p) _ _ refl
    (λ rst. both_if P (int_eq (first e p) (pos (next e.receiving))) (int_eq (first_of c.sisn p) (pos (next_of c))) (with_reset e0) (with_ack_pending_if true e0) (record c { phase = Reset }) c
    (at_alike e c written p b)
    (λ k. absurd (false≢true (sym unreset ∙ (λ i. rst i && k i))))
    (λ k. kept e c written e.name (e.ack_pending || true) e0.wait b))
    (λ rst. syn_or_ack P (has_syn p) (has_ack p) (with_ack_pending_if true e0) _ (with_ack_pending_if takes e0) c (machine.used c p)
    (kept e c written e.name (e.ack_pending || true) e0.wait b)
    (kept e c written e.name (e.ack_pending || takes) e0.wait b)
    (λ syn ack. holds_if (λ (t : Tcb). P t (machine.used c p)) e.sending.syn_acked (with_ack (with_ack_pending_if takes e0) p) (with_first_ack (with_ack_pending_if takes e0) p)
    (λ k. acked_kept e c written (with_ack_pending_if takes e0) (e.ack_pending || takes) e0.wait p refl syn rst (near ack) b)
    (λ k. absurd (false≢true (sym k ∙ b.syn_acked))))))
    (λ unused. kept e c written e.name (e.ack_pending || not (has_rst p)) e0.wait b)

-- a RST at exactly the next number
pub record Resets (e : Tcb) (c : Client) (t : Tcb) (d : Client) : Type 0 where
  pub name : t.name ≡ Closed
  pub reset : t.reset ≡ true
  pub reset_reply : t.reset_reply ≡ e.reset_reply
  pub phase : d.phase ≡ Reset
  pub receiving : t.receiving ≡ e.receiving
  pub accepted : d.accepted ≡ c.accepted

rst_length : (p : Segment) → has_rst p ≡ true → length_of p ≡ 0
rst_length p h = ap (λ b. if b then 0 else (if has_syn p then 1 else length p.payload + one_if (has_fin p))) h

pub others_reset : (e : Tcb) (c : Client) (written : ℕ) (p : Segment) → (has_rst p && int_eq (first e p) (pos (next e.receiving))) ≡ true → Before e c written
    → Resets e c (in_others e p) (machine.arrived c p)
unfolding in_others check_sequence check_rst with_time_wait_restarted
others_reset e c written p resets b =
    let P : Tcb → Client → Type 0 = λ t d. Resets e c t d in
    let rst : has_rst p ≡ true = left_true (has_rst p) (int_eq (first e p) (pos (next e.receiving))) resets in
    let at : int_eq (first e p) (pos (next e.receiving)) ≡ true = right_true (has_rst p) (int_eq (first e p) (pos (next e.receiving))) resets in
    let e0 : Tcb = with_time_wait_restarted e p in
    let n : ℕ = next e.receiving in
    let w : ℕ = window e.receiving in
    let z : ℤ = first e p in
    let in_window : is_acceptable n w z (length_of p) ≡ true = ap (is_acceptable n w z) (rst_length p rst) ∙ acceptable_at n w z at in
    let used : used_by e p ≡ true = λ i. (in_window i || is_at_right_edge n w z (length_of p)) || is_allowed_at_zero n w z in
    let e0 : Tcb = with_time_wait_restarted e p in
    both_if P (accepts e0 p || is_allowed e0 p) (machine.may_use c p) (check_rst e0 p) (with_ack_pending_if (not (has_rst p)) e0) _ c
    (looks_further e0 p b.syn_acked ∙ used_alike e c written p b)
    (λ used. both_if P (has_rst p) (has_rst p) _ (check_syn e0 p) _ _ refl
    (λ k. both_if P (int_eq (first e p) (pos (next e.receiving))) (int_eq (first_of c.sisn p) (pos (next_of c))) (with_reset e0) (with_ack_pending_if true e0) (record c { phase = Reset }) c
    (at_alike e c written p b)
    (λ q. record { name = refl; reset = refl; reset_reply = refl; phase = refl; receiving = refl; accepted = refl })
    (λ q. absurd (false≢true (sym q ∙ at))))
    (λ k. absurd (false≢true (sym k ∙ rst))))
    (λ k. absurd (false≢true (sym k ∙ looks_further e0 p b.syn_acked ∙ used)))
