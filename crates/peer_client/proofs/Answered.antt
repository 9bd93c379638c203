-- A segment or a tick comes to a live client whose SYN is unanswered.
use Rattle.std.proofs.Common.{◌≡◌, inl, inr, ℕ, ◌<◌, ◌≤◌, ◌+◌, ◌%◌, ◌^◌, Bool, true, false, not, Option, None, Some, take, drop, refl, sym, ap, subst, arith, ◌∙◌}
use Rattle.std.specs.Prelude.{ℤ, pos, ◌==◌, ◌&&◌, ◌||◌, nat_lt, if◌then◌else◌}
use Rattle.std.proofs.lemmas.Int.{ints}
use Rattle.std.proofs.lemmas.Bool.{false≢true}
use Rattle.ft_io.specs.declared.Addr.{Addr}
use Rattle.seq_arith.specs.Number.{number_at, offset_of}
use Rattle.tcp_rules.specs.Arrival.{int_eq}
use Rattle.seq_arith.specs.Offset.{ack_of}
use Rattle.seq_arith.specs.Packet.{Segment, segment_size, has_syn, has_rst, has_ack}
use Rattle.seq_arith.proofs.Gaps.{offset_leads}
use Rattle.segment_codec.specs.declared.Head.{Head}
use Rattle.tcp_endpoint.specs.declared.states.StateName.TheVariants.{Closed}
use Rattle.tcp_endpoint.specs.States.{is_closed, is_time_wait}
use Rattle.tcp_endpoint.specs.SendHalf.{Sending, expires}
use Rattle.tcp_endpoint.specs.Tcb.{Tcb}
use Rattle.tcp_endpoint.specs.Arrival.{ack_at, with_reset, answered, with_reset_reply, in_syn_sent, received}
use Rattle.tcp_endpoint.specs.UserCalls.{after_tick, timer_ticked, waited}
use Rattle.ft_model.specs.Client as machine
use Rattle.ft_model.specs.Client.{Client, is_new, is_opening, is_ended, is_open}
use Rattle.ft_model.specs.declared.phase.Phase.TheVariants as phases
use Rattle.endpoint_laws.proofs.Connecting.{received_by}
use Rattle.peer_client.specs.declared.live.ClientEnd.TheVariants as ends
use Rattle.peer_client.specs.Live.{LiveState, is_of, end_of, first_end, reached, ticked}
use Rattle.peer_client.specs.Refinement.{IsSame, AnswersBy, Waits, IsWaiting, IsConnected, IsReset, RunsBeside}
use Rattle.peer_client.proofs.Comes.{both_if}
use Rattle.peer_client.proofs.News.{ticked_sends, ticked_same}
use Rattle.ft_io.proofs.Booleans.{left_true, right_true}
use Rattle.ft_io.proofs.Numbers.{equal_of_test, test_of_equal}

-- the number that acknowledges the SYN
same_tests : (a b : Bool) → (a ≡ true → b ≡ true) → (b ≡ true → a ≡ true) → a ≡ b
same_tests true b there back = sym (there refl)
same_tests false true there back = back refl
same_tests false false there back = refl

zero_of : (z : ℤ) → int_eq z (pos 0) ≡ true → z ≡ pos 0
zero_of z h = grind (arith, ints, h)

is_zero : (z : ℤ) → z ≡ pos 0 → int_eq z (pos 0) ≡ true
is_zero z h = ap (λ y. int_eq y (pos 0)) h

zero_at : (isn n : ℕ) → n < 2 ^ 32 → int_eq (offset_of isn n) (pos 0) ≡ (n == number_at isn 0)
zero_at isn n fits =
    let l = offset_leads isn n fits in
    let first : (isn + 1) % 2 ^ 32 < 2 ^ 32 = omega arith in
    let plus : isn + 1 + 0 ≡ isn + 1 = omega arith in
    let same : number_at isn 0 ≡ (isn + 1) % 2 ^ 32 = ap (λ k. k % 2 ^ 32) plus in
    same_tests (int_eq (offset_of isn n) (pos 0)) (n == number_at isn 0)
    (λ h. let z : offset_of isn n ≡ pos 0 = zero_of (offset_of isn n) h in
    test_of_equal n (number_at isn 0) (omega (arith, ints, z, l.leads, fits, first, same)))
    (λ h. let is : n ≡ number_at isn 0 = equal_of_test n (number_at isn 0) h in
    is_zero (offset_of isn n) (omega (arith, ints, is, l.leads, l.low, l.high, first, same)))

-- nothing changes
unchanged : (l : LiveState) (c : Client) → IsWaiting l c → Waits (record l { outcome = first_end l.outcome (end_of l.tcb) }) c
unchanged l c h =
    let w : Waits l c = h.waits in
    let same : IsSame l c = w.agrees.same in
    record {
      agrees = record {
        same = record {
          kind = same.kind;
          ip = same.ip;
          port = same.port;
          server = same.server;
          script = same.script;
          isn = same.isn;
          local = same.local;
          remote = same.remote;
        };
        on_receipt = w.agrees.on_receipt;
        sends = w.agrees.sends;
      };
      name = w.name;
      phase = w.phase;
      due = w.due;
      syn_acked = w.syn_acked;
      closed = w.closed;
      nothing_sent = w.nothing_sent;
      nothing_taken = w.nothing_taken;
      unreset = w.unreset;
      probe = w.probe;
      reset_reply = subst (λ (a : Option Head). AnswersBy (record l { outcome = first_end l.outcome (end_of l.tcb) }) c a) (sym h.reset_reply) tt;
      edge = w.edge;
      reported = w.reported;
      outcome = (λ i. first_end (w.outcome i) (if w.unreset i then Some ends.Reset else (if is_time_wait (w.name i) || is_closed (w.name i) then Some ends.Closed else None)));
    }

-- a wrong acknowledgement is refused
refuses : (l : LiveState) (c : Client) (p : Segment) → IsWaiting l c → is_of l.local l.server p ≡ true → p.head.ack < 2 ^ 32
    → (p.head.ack == number_at c.isn 0) ≡ false → Waits (record l { tcb = with_reset_reply l.tcb p; outcome = first_end l.outcome (end_of (with_reset_reply l.tcb p)) }) c
unfolding with_reset_reply
refuses l c p h from fits wrong =
    let w : Waits l c = h.waits in
    let same : IsSame l c = w.agrees.same in
    let by_source : ((p.head.src == l.server.ip) && (p.head.sport == l.server.port) && (p.head.dst == l.local.ip)) ≡ true =
    left_true ((p.head.src == l.server.ip) && (p.head.sport == l.server.port) && (p.head.dst == l.local.ip)) (p.head.dport == l.local.port) from in
    let by_ports : ((p.head.src == l.server.ip) && (p.head.sport == l.server.port)) ≡ true =
    left_true ((p.head.src == l.server.ip) && (p.head.sport == l.server.port)) (p.head.dst == l.local.ip) by_source in
    record {
      agrees = record {
        same = record {
          kind = same.kind;
          ip = same.ip;
          port = same.port;
          server = same.server;
          script = same.script;
          isn = same.isn;
          local = same.local;
          remote = same.remote;
        };
        on_receipt = w.agrees.on_receipt;
        sends = w.agrees.sends;
      };
      name = w.name;
      phase = w.phase;
      due = w.due;
      syn_acked = w.syn_acked;
      closed = w.closed;
      nothing_sent = w.nothing_sent;
      nothing_taken = w.nothing_taken;
      unreset = w.unreset;
      probe = w.probe;
      reset_reply = (
        ap is_opening h.phase,
        record {
          src = ap (λ (a : Addr). a.ip) same.local;
          dst = equal_of_test p.head.src l.server.ip (left_true (p.head.src == l.server.ip) (p.head.sport == l.server.port) by_ports);
          sport = ap (λ (a : Addr). a.port) same.local;
          dport = equal_of_test p.head.sport l.server.port (right_true (p.head.src == l.server.ip) (p.head.sport == l.server.port) by_ports);
          seq = fits;
          wrong = wrong;
          ack = refl;
          flags = refl;
          window = refl;
          mss = refl;
          timestamps = refl;
        },
      );
      edge = w.edge;
      reported = w.reported;
      outcome = (λ i. first_end (w.outcome i) (if w.unreset i then Some ends.Reset else (if is_time_wait (w.name i) || is_closed (w.name i) then Some ends.Closed else None)));
    }

-- a RST that acknowledges the SYN
resets : (l : LiveState) (c : Client) → IsWaiting l c
    → IsReset (record l { tcb = with_reset l.tcb; outcome = first_end l.outcome (end_of (with_reset l.tcb)) }) (record c { phase = phases.Reset })
resets l c h = record {
  phase = refl;
  name = refl;
  reset = refl;
  reset_reply = h.reset_reply;
  outcome = ap (λ o. first_end o (Some ends.Reset)) h.waits.outcome;
  receipt = record { count = h.waits.agrees.on_receipt.count; rest = h.waits.agrees.on_receipt.rest };
}

-- a SYN that does so
size_least : (mss : Option ℕ) → 64 ≤ segment_size mss
size_least None = omega arith
size_least (Some mss) = omega arith

size_most : (mss : Option ℕ) → segment_size mss ≤ 1460
size_most None = omega arith
size_most (Some mss) = omega arith

opens : (l : LiveState) (c : Client) (p : Segment) → IsWaiting l c
    → IsConnected (record l { tcb = answered l.tcb p; outcome = first_end l.outcome (end_of (answered l.tcb p)) }) (record c { phase = phases.Established; sisn = p.head.seq })
unfolding answered
opens l c p h =
    let w : Waits l c = h.waits in
    let same : IsSame l c = w.agrees.same in
    let s = w.agrees.sends in
    let r = w.agrees.on_receipt in
    let none : l.tcb.sending.una ≡ 0 = omega (arith, s.order, w.nothing_sent) in
    let fin : l.tcb.receiving.fin ≡ false = sym r.fin ∙ ap is_ended h.phase in
    let unsent : l.tcb.sending.fin_sent ≡ true → ⊥ = λ k. false≢true (sym w.closed ∙ (s.ended k).0) in
    record {
      agrees = record {
        same = record {
          kind = same.kind;
          ip = same.ip;
          port = same.port;
          server = same.server;
          script = same.script;
          isn = same.isn;
          local = same.local;
          remote = same.remote;
        };
        on_receipt = record {
          sisn = refl;
          limit = r.limit;
          count = r.count;
          rest = r.rest;
          fin = sym fin;
          early = r.early;
          behind = r.behind;
          within = r.within;
          queued = r.queued;
        };
        sends = record {
          sent = s.sent ∙ w.nothing_sent;
          acknowledged = s.acknowledged ∙ none;
          held = s.held ∙ ap (λ n. drop n (take l.written c.script)) none;
          order = omega arith;
          wl2 = omega arith;
          within = s.within;
          script = s.script;
          text = λ k. omega arith;
          ended = λ k. absurd (unsent k);
          shut = λ k. absurd (false≢true (sym w.closed ∙ k));
          least = size_least p.head.mss;
          most = size_most p.head.mss;
        };
      };
      syn_acked = refl;
      phase = refl;
      named = (refl, w.closed, fin);
      over = λ k. absurd (false≢true (sym k));
      unreset = w.unreset;
      reset_reply = h.reset_reply;
      edge = w.edge;
      reported = inl refl;
      outcome = (λ i. first_end (w.outcome i) (if w.unreset i then Some ends.Reset else None));
    }

-- a segment comes
syn_sent_comes : (l : LiveState) (c : Client) (p : Segment) → IsWaiting l c → is_of l.local l.server p ≡ true → p.head.ack < 2 ^ 32
    → RunsBeside (record l { tcb = in_syn_sent l.tcb p; outcome = first_end l.outcome (end_of (in_syn_sent l.tcb p)) }) (machine.opened_by c p)
unfolding in_syn_sent
syn_sent_comes l c p h from fits =
    let R : Tcb → Client → Type 0 = λ t d. RunsBeside (record l { tcb = t; outcome = first_end l.outcome (end_of t) }) d in
    let e : Tcb = l.tcb in
    let zero : Bool = int_eq (ack_at e p) (pos 0) in
    let right : Bool = p.head.ack == number_at c.isn 0 in
    let same : zero ≡ right = (λ i. int_eq (ack_of (sym h.waits.agrees.same.isn i) p) (pos 0)) ∙ zero_at c.isn p.head.ack fits in
    let good : Tcb = if has_rst p then with_reset e else (if has_syn p then answered e p else e) in
    let bad : Tcb = if has_rst p then e else with_reset_reply e p in
    let good_client : Client = if has_rst p then record c { phase = phases.Reset } else (if has_syn p then record c { phase = phases.Established; sisn = p.head.seq } else c) in
    by_ack R (has_ack p) zero right same good bad e good_client c (inl (unchanged l c h))
    (both_if R (has_rst p) (has_rst p) (with_reset e) _ (record c { phase = phases.Reset }) _ refl (λ k. inr (inr (resets l c h)))
    (λ k. both_if R (has_syn p) (has_syn p) (answered e p) e (record c { phase = phases.Established; sisn = p.head.seq }) c refl (λ q. inr (inl (opens l c p h)))
    (λ q. inl (unchanged l c h))))
    (λ wrong. refused (has_rst p) wrong)
  where
    by_ack : (R : Tcb → Client → Type 0) (ack zero right : Bool) → zero ≡ right → (good bad e : Tcb) (d c : Client) → R e c → R good d → (right ≡ false → R bad c)
        → R (if ack then (if zero then good else bad) else e) (if ack && right then d else c)
    by_ack R true true true same good bad e d c none on off = on
    by_ack R true true false same good bad e d c none on off = absurd (false≢true (sym same))
    by_ack R true false true same good bad e d c none on off = absurd (false≢true same)
    by_ack R true false false same good bad e d c none on off = off refl
    by_ack R false zero right same good bad e d c none on off = none

    refused : (rst : Bool) → (p.head.ack == number_at c.isn 0) ≡ false
        → RunsBeside (record l { tcb = if rst then l.tcb else with_reset_reply l.tcb p; outcome = first_end l.outcome (end_of (if rst then l.tcb else with_reset_reply l.tcb p)) }) c
    refused true wrong = inl (unchanged l c h)
    refused false wrong = inl (refuses l c p h from fits wrong)

opening_is : (c : Client) (p : Segment) → c.phase ≡ phases.Opening → machine.received c p ≡ machine.opened_by c p
opening_is c p h = ap (λ q. if is_opening q then machine.opened_by c p else (if is_open c.phase then machine.arrived c p else c)) h

pub answer_comes : (l : LiveState) (c : Client) (p : Segment) → IsWaiting l c → is_of l.local l.server p ≡ true → p.head.ack < 2 ^ 32
    → RunsBeside (reached l p) (machine.received c p)
answer_comes l c p h from fits =
    let R : Tcb → Client → Type 0 = λ t d. RunsBeside (record l { tcb = t; outcome = first_end l.outcome (end_of t) }) d in
    subst (λ (d : Client). R (received l.tcb p) d) (sym (opening_is c p h.phase))
    (subst (λ (t : Tcb). R t (machine.opened_by c p)) (sym (received_by l.tcb p h.waits.name)) (syn_sent_comes l c p h from fits))

-- a tick passes
off_by_syn_acked : (b : Bool) (x : Bool) → (b && not (true || x)) ≡ false
off_by_syn_acked true x = refl
off_by_syn_acked false x = refl

pub tick_waits : (l : LiveState) (c : Client) → IsWaiting l c → Waits (ticked l) c
unfolding after_tick timer_ticked waited
tick_waits l c h =
    let w : Waits l c = h.waits in
    let same : IsSame l c = w.agrees.same in
    let s : Sending = l.tcb.sending in
    record {
      agrees = record {
        same = record {
          kind = same.kind;
          ip = same.ip;
          port = same.port;
          server = same.server;
          script = same.script;
          isn = same.isn ∙ sym (ticked_same (λ (x : Sending). x.iss) (λ k t a b x. refl) s);
          local = same.local;
          remote = same.remote;
        };
        on_receipt = w.agrees.on_receipt;
        sends = ticked_sends s l.written c w.agrees.sends;
      };
      name = ap (λ n. if is_time_wait n && nat_lt l.tcb.wait 2 then Closed else n) w.name;
      phase = w.phase;
      due = λ k. absurd (false≢true (ap is_new (sym h.phase ∙ k)));
      syn_acked = ticked_same (λ (x : Sending). x.syn_acked) (λ k t a b x. refl) s ∙ w.syn_acked;
      closed = ticked_same (λ (x : Sending). x.closed) (λ k t a b x. refl) s ∙ w.closed;
      nothing_sent = ticked_same (λ (x : Sending). x.sent) (λ k t a b x. refl) s ∙ w.nothing_sent;
      nothing_taken = w.nothing_taken;
      unreset = w.unreset;
      probe = (λ i. w.probe i || (expires s && not (not (w.syn_acked i) || nat_lt s.una s.sent))) ∙ off_by_syn_acked (expires s) (nat_lt s.una s.sent);
      reset_reply = subst (λ (a : Option Head). AnswersBy (ticked l) c a) (sym h.reset_reply) tt;
      edge = w.edge;
      reported = w.reported;
      outcome = w.outcome;
    }
