-- What a turn's news make of an established connection: a segment or a tick leads TCP and the client machine on together.
use Rattle.std.proofs.Common.{◌≡◌, ◌⊎◌, inl, inr, ℕ, ◌+◌, ◌-◌, ◌*◌, ◌^◌, Bool, true, false, None, Some, length, drop, min, refl, sym, ap, subst, arith, ◌∙◌}
use Rattle.std.specs.Prelude.{pos, ◌-ℤ◌, ◌≤ℤ◌, ◌&&◌, ◌||◌, if◌then◌else◌}
use Rattle.std.proofs.lemmas.Bool.{false≢true}
use Rattle.tcp_rules.specs.Arrival.{int_eq}
use Rattle.tcp_rules.specs.Congestion.{Congestion}
use Rattle.tcp_rules.specs.Timing.{Timing, with_tick, with_backoff}
use Rattle.seq_arith.specs.Offset.{ack_of, one_if}
use Rattle.seq_arith.specs.Packet.{Segment, has_rst, has_ack}
use Rattle.tcp_endpoint.specs.States.{has_begun, is_closed, is_time_wait}
use Rattle.tcp_endpoint.specs.ReceiveHalf.{Receiving, next, receive_edge}
use Rattle.tcp_endpoint.specs.SendHalf.{Sending, expires, congestion_expired}
use Rattle.tcp_endpoint.specs.SendHalf as half
use Rattle.tcp_endpoint.specs.Tcb.{Tcb}
use Rattle.tcp_endpoint.specs.Arrival.{first, in_others, received}
use Rattle.tcp_endpoint.specs.UserCalls.{after_tick, timer_ticked, waited}
use Rattle.ft_model.specs.Client as machine
use Rattle.ft_model.specs.Client.{Client, is_opening, is_open}
use Rattle.ft_model.specs.declared.phase.Phase.{Phase}
use Rattle.ft_model.specs.declared.phase.Phase.TheVariants as phases
use Rattle.endpoint_laws.proofs.TakenLaw.{begun_is}
use Rattle.endpoint_laws.proofs.EndingLaw.{FollowsAt, named_at, received_follows, tick_follows}
use Rattle.peer_client.specs.declared.live.ClientEnd.TheVariants as ends
use Rattle.peer_client.specs.Live.{LiveState, end_of, first_end, reached, ticked}
use Rattle.peer_client.specs.Refinement.{IsSame, OnReceipt, Sends, Reported, IsConnected, IsStanding, HasReceived, IsReset, is_reset}
use Rattle.peer_client.proofs.Named.{follows_of, over_at, ends_alike}
use Rattle.peer_client.proofs.Arrives.{Before, AfterChecks, Resets, others_kept, others_reset}
use Rattle.ft_io.proofs.Choices.{holds_if}

not_opening : (phase : Phase) → is_open phase ≡ true → is_opening phase ≡ false
not_opening phases.New h = refl
not_opening phases.Opening h = absurd (false≢true h)
not_opening phases.Established h = refl
not_opening phases.Ended h = refl
not_opening phases.Reset h = refl

pub not_reset : (phase : Phase) → is_open phase ≡ true → is_reset phase ≡ false
not_reset phases.New h = refl
not_reset phases.Opening h = refl
not_reset phases.Established h = refl
not_reset phases.Ended h = refl
not_reset phases.Reset h = absurd (false≢true h)

-- the machine makes the checks too
arrived_is : (c : Client) (p : Segment) → is_open c.phase ≡ true → machine.received c p ≡ machine.arrived c p
arrived_is c p h =
    (λ i. if not_opening c.phase h i then machine.opened_by c p else (if is_open c.phase then machine.arrived c p else c))
    ∙ ap (λ b. if b then machine.arrived c p else c) h

others_is : (e : Tcb) (p : Segment) → has_begun e.name ≡ true → received e p ≡ in_others e p
unfolding received
others_is e p begun = begun_is e.name e p begun

edge_kept : (e : Tcb) (c : Client) (written : ℕ) (t : Tcb) (d : Client) → AfterChecks e c written t d → c.edge ≡ receive_edge e.receiving → d.edge ≡ receive_edge t.receiving
edge_kept e c written t d k edge = ap (λ (x : Client). x.edge) k.same ∙ edge ∙ (λ i. min (sym k.read i + 65535) (sym k.limit i))

reported_kept : (e : Tcb) (c : Client) (written : ℕ) (t : Tcb) (d : Client) → AfterChecks e c written t d → Reported e c → Reported t d
reported_kept e c written t d k h = record {
  bytes = h.bytes;
  fin = h.fin;
  next_is = k.last_ack_sent ∙ h.next_is;
  edge_is = k.last_advertised_edge ∙ h.edge_is ∙ ap (λ (x : Client). x.edge + one_if h.fin) (sym k.same);
  bytes_taken = omega (arith, h.bytes_taken, k.grows);
  fin_taken = λ f. k.fin (h.fin_taken f);
}

before_of : (l : LiveState) (c : Client) → IsStanding l c → Before l.tcb c l.written
before_of l c h = record {
  on_receipt = h.stands.agrees.on_receipt;
  sends = h.stands.agrees.sends;
  iss = sym h.stands.agrees.same.isn;
  phase = h.stands.phase;
  edge = h.edge;
  syn_acked = h.stands.syn_acked;
  kind = h.stands.agrees.same.kind;
}

kept_stands : (l : LiveState) (c : Client) (t : Tcb) (d : Client) → IsStanding l c → l.outcome ≡ None → AfterChecks l.tcb c l.written t d → FollowsAt t
    → IsConnected (record l { tcb = t; outcome = first_end l.outcome (end_of t) }) d
kept_stands l c t d h none k follows =
    let same : IsSame l c = h.stands.agrees.same in
    record {
      agrees = record {
        same = record {
          kind = ap (λ (x : Client). x.kind) k.same ∙ same.kind;
          ip = ap (λ (x : Client). x.key.ip) k.same ∙ same.ip;
          port = ap (λ (x : Client). x.key.port) k.same ∙ same.port;
          server = ap (λ (x : Client). x.server) k.same ∙ same.server;
          script = ap (λ (x : Client). x.script) k.same ∙ same.script;
          isn = ap (λ (x : Client). x.isn) k.same ∙ same.isn ∙ sym k.iss;
          local = k.local ∙ same.local;
          remote = k.remote ∙ same.remote;
        };
        on_receipt = k.on_receipt;
        sends = k.sends;
      };
      syn_acked = k.syn_acked ∙ h.stands.syn_acked;
      phase = k.phase;
      named = named_at t follows;
      over = over_at t follows;
      unreset = k.reset ∙ h.stands.unreset;
      reset_reply = k.reset_reply ∙ h.stands.reset_reply;
      edge = omega (arith, edge_kept l.tcb c l.written t d k h.edge);
      reported = inr (reported_kept l.tcb c l.written t d k h.reported);
      outcome = ap (λ o. first_end o (end_of t)) none
          ∙ ends_alike t l.written d follows (k.reset ∙ h.stands.unreset) (not_reset d.phase k.phase) k.on_receipt.fin k.sends;
    }

received_still : (r r' : Receiving) (c d : Client) → r' ≡ r → d.accepted ≡ c.accepted → OnReceipt r c → HasReceived r' d
received_still r r' c d same accepted h = subst (λ (q : Receiving). HasReceived q d) (sym same) (record {
  count = ap length accepted ∙ h.count;
  rest = ap (drop r.read) accepted ∙ h.rest;
})

reset_due : (l : LiveState) (e t : Tcb) (c d : Client) → l.outcome ≡ None → e.reset_reply ≡ None → OnReceipt e.receiving c → Resets e c t d
    → IsReset (record l { tcb = t; outcome = first_end l.outcome (end_of t) }) d
reset_due l e t c d none reset_reply h r = record {
  phase = r.phase;
  name = r.name;
  reset = r.reset;
  reset_reply = r.reset_reply ∙ reset_reply;
  outcome = ap (λ o. first_end o (end_of t)) none ∙ ap (λ b. if b then Some ends.Reset else (if is_time_wait t.name || is_closed t.name then Some ends.Closed else None)) r.reset;
  receipt = received_still e.receiving t.receiving c d r.receiving r.accepted h;
}

-- a segment comes
pub segment_comes : (l : LiveState) (c : Client) (p : Segment) → IsStanding l c → l.outcome ≡ None
    → (has_ack p ≡ true → (pos 0 -ℤ pos (2 ^ 30)) ≤ℤ ack_of c.isn p) → IsConnected (reached l p) (machine.received c p) ⊎ IsReset (reached l p) (machine.received c p)
segment_comes l c p h none near =
    let e : Tcb = l.tcb in
    let b : Before e c l.written = before_of l c h in
    let R : Tcb → Client → Type 0 = λ t d. IsConnected (record l { tcb = t; outcome = first_end l.outcome (end_of t) }) d
    ⊎ IsReset (record l { tcb = t; outcome = first_end l.outcome (end_of t) }) d in
    subst (λ (d : Client). R (received e p) d) (sym (arrived_is c p h.stands.phase))
    (subst (λ (t : Tcb). R t (machine.arrived c p)) (sym (others_is e p h.begun)) (by_rst (has_rst p && int_eq (first e p) (pos (next e.receiving))) refl))
  where
    by_rst : (resets : Bool) → (has_rst p && int_eq (first l.tcb p) (pos (next l.tcb.receiving))) ≡ resets
        → IsConnected (record l { tcb = in_others l.tcb p; outcome = first_end l.outcome (end_of (in_others l.tcb p)) }) (machine.arrived c p)
        ⊎ IsReset (record l { tcb = in_others l.tcb p; outcome = first_end l.outcome (end_of (in_others l.tcb p)) }) (machine.arrived c p)
    by_rst true is = inr (reset_due l l.tcb (in_others l.tcb p) c (machine.arrived c p) none h.stands.reset_reply h.stands.agrees.on_receipt (others_reset l.tcb c l.written p is (before_of l c h)))
    by_rst false is =
        inl (kept_stands l c (in_others l.tcb p) (machine.arrived c p) h none (others_kept l.tcb c l.written p is near (before_of l c h))
        (subst (λ (t : Tcb). FollowsAt t) (others_is l.tcb p h.begun) (received_follows l.tcb p h.begun is (follows_of l c h.stands))))

-- a tick passes
retimed : (s : Sending) (written : ℕ) (after : Congestion) (time : Timing) (interval rest : ℕ) (c : Client) → Sends s written c
    → Sends (record s { congestion = after; timing = time; interval = interval; rest = rest }) written c
retimed s written after time interval rest c h = record {
  sent = h.sent;
  acknowledged = h.acknowledged;
  held = h.held;
  order = h.order;
  wl2 = h.wl2;
  within = h.within;
  script = h.script;
  text = h.text;
  ended = h.ended;
  shut = h.shut;
  least = h.least;
  most = h.most;
}

-- what holds of a sender whatever its timer and its congestion control are holds after a tick
by_tick : (P : Sending → Type 0) (s : Sending)
    → ((after : Congestion) (time : Timing) (interval rest : ℕ) → P (record s { congestion = after; timing = time; interval = interval; rest = rest }))
    → P (half.ticked s)
by_tick P s all =
    let twice : ℕ = min 64 (2 * s.interval) in
    holds_if P (expires s) (record s { congestion = congestion_expired s; timing = with_backoff twice s.timing; interval = twice; rest = twice })
    (record s { timing = with_tick s.timing; rest = s.rest - 1 })
    (λ k. all (congestion_expired s) (with_backoff twice s.timing) twice twice) (λ k. all s.congestion (with_tick s.timing) s.interval (s.rest - 1))

pub ticked_sends : (s : Sending) (written : ℕ) (c : Client) → Sends s written c → Sends (half.ticked s) written c
ticked_sends s written c h = by_tick (λ (t : Sending). Sends t written c) s (λ after time interval rest. retimed s written after time interval rest c h)

pub ticked_same : {X : Type 0} (g : Sending → X)
    (steady : (after : Congestion) (time : Timing) (interval rest : ℕ) (s : Sending) → g (record s { congestion = after; timing = time; interval = interval; rest = rest }) ≡ g s)
    (s : Sending)
    → g (half.ticked s) ≡ g s
ticked_same g steady s = by_tick (λ (t : Sending). g t ≡ g s) s (λ after time interval rest. steady after time interval rest s)

pub tick_passes : (l : LiveState) (c : Client) → IsStanding l c → IsConnected (ticked l) c
unfolding after_tick timer_ticked waited
tick_passes l c h =
    let same : IsSame l c = h.stands.agrees.same in
    let t : Tcb = after_tick l.tcb in
    let follows : FollowsAt t = tick_follows l.tcb (follows_of l c h.stands) in
    record {
      agrees = record {
        same = record {
          kind = same.kind;
          ip = same.ip;
          port = same.port;
          server = same.server;
          script = same.script;
          isn = same.isn ∙ sym (ticked_same (λ (s : Sending). s.iss) (λ k t a b s. refl) l.tcb.sending);
          local = same.local;
          remote = same.remote;
        };
        on_receipt = h.stands.agrees.on_receipt;
        sends = ticked_sends l.tcb.sending l.written c h.stands.agrees.sends;
      };
      syn_acked = ticked_same (λ (s : Sending). s.syn_acked) (λ k t a b s. refl) l.tcb.sending ∙ h.stands.syn_acked;
      phase = h.stands.phase;
      named = named_at t follows;
      over = over_at t follows;
      unreset = h.stands.unreset;
      reset_reply = h.stands.reset_reply;
      edge = h.stands.edge;
      reported = inr (record {
        bytes = h.reported.bytes;
        fin = h.reported.fin;
        next_is = h.reported.next_is;
        edge_is = h.reported.edge_is;
        bytes_taken = h.reported.bytes_taken;
        fin_taken = h.reported.fin_taken;
      });
      outcome = h.stands.outcome;
    }
