-- Every call of a live client keeps the client machine beside it.
use Rattle.std.proofs.Common.{◌≡◌, ◌⊎◌, inl, inr, ℕ, ◌≤◌, ◌+◌, ◌^◌, Bool, true, false, Option, None, Some, List, [], length, length-drop, drop, drop-drop, min, refl, sym, ap, subst, arith, ◌∙◌}
use Rattle.std.specs.Prelude.{◌<◌, ◌==◌, ◌&&◌, Result, Ok, Err, if◌then◌else◌}
use Rattle.std.proofs.lemmas.Bool.{false≢true}
use Rattle.seq_arith.specs.Packet.{Segment}
use Rattle.seq_arith.specs.declared.BadPacket.{BadPacket}
use Rattle.segment_codec.specs.declared.Head.{Head}
use Rattle.tcp_endpoint.specs.declared.states.StateName.TheVariants.{Closed}
use Rattle.tcp_endpoint.specs.States.{has_begun, after_close}
use Rattle.tcp_endpoint.specs.ReceiveHalf.{Receiving, read_out}
use Rattle.tcp_endpoint.specs.SendHalf.{IsShort}
use Rattle.tcp_endpoint.specs.Tcb.{Tcb}
use Rattle.tcp_rules.specs.Timestamping.{timestamps_sent}
use Rattle.tcp_endpoint.specs.UserCalls.{closing}
use Rattle.tcp_endpoint.specs.Output.{reset_reply_segments, with_probe, with_text_sent, with_fin_out, with_timed, after_full, with_advertised, with_turn_ended, flushed}
use Rattle.ft_model.specs.Client as machine
use Rattle.ft_model.specs.Client.{Client, is_ended}
use Rattle.endpoint_laws.proofs.AnswersAlone.{closed_sends}
use Rattle.ft_model.specs.Client.ClientKind.{Live}
use Rattle.ft_model.specs.declared.phase.Phase.TheVariants as phases
use Rattle.peer_client.specs.declared.live.ClientEnd.{ClientEnd}
use Rattle.peer_client.specs.declared.live.ClientEnd.TheVariants as ends
use Rattle.peer_client.specs.Live.{LiveState, is_of, reached, met, arrivals, ticked, unread, handed, given_up, supplied, closes, before_flush, sent_by_tcp, sent_by, tcp_turned, turned}
use Rattle.peer_client.specs.Stamping.{StampState, as_read, all_stamped, after_sending, EchoFits}
use Rattle.peer_client.specs.Refinement.{AreMoves, IsSame, AnswersBy, Waits, IsConnected, OnReceipt, HasReceived, IsReset, RestsBeside, IsBetween, RunsBeside, IsDue, is_for_client, AcksNear, AckFits, Moves, outcome_of, is_reset, receiving, handed_out}
use Rattle.peer_client.proofs.Named.{over_at, acked_at}
use Rattle.peer_client.proofs.Arrives.{few_sent}
use Rattle.peer_client.proofs.TurnEnds.{ready, turn_ends, closed_leaves, follows_before}
use Rattle.peer_client.proofs.News.{segment_comes, tick_passes, not_reset}
use Rattle.peer_client.proofs.Opens.{waits_end}
use Rattle.peer_client.proofs.Answered.{answer_comes, tick_waits}
use Rattle.ft_io.proofs.Choices.{holds_if}
use Rattle.peer_client.proofs.Leaves.{pair_if}
use Rattle.peer_client.proofs.Carries.{carried_moves, nothing_carried, sending_fits}

-- between two turns nothing is due
reported_due : (l : LiveState) (c : Client) → RestsBeside l c → RunsBeside l c
reported_due l c (inl h) = inl h.waits
reported_due l c (inr h) = inr (inl h.stands)

-- what was handed out, and the timestamps, change nothing of this
same_but : (l : LiveState) (c : Client) (n : ℕ) (s : StampState) → IsSame l c → IsSame (record l { seen = n; stamps = s }) c
same_but l c n s h = record { kind = h.kind; ip = h.ip; port = h.port; server = h.server; script = h.script; isn = h.isn; local = h.local; remote = h.remote }

answers_but : (l : LiveState) (c : Client) (n : ℕ) (s : StampState) (reset_reply : Option Head) → AnswersBy l c reset_reply → AnswersBy (record l { seen = n; stamps = s }) c reset_reply
answers_but l c n s None h = tt
answers_but l c n s (Some head) h = (
  h.0,
  record {
    src = h.1.src;
    dst = h.1.dst;
    sport = h.1.sport;
    dport = h.1.dport;
    seq = h.1.seq;
    wrong = h.1.wrong;
    ack = h.1.ack;
    flags = h.1.flags;
    window = h.1.window;
    mss = h.1.mss;
    timestamps = h.1.timestamps;
  },
)

waits_but : (l : LiveState) (c : Client) (n : ℕ) (s : StampState) → Waits l c → Waits (record l { seen = n; stamps = s }) c
waits_but l c n s h = record {
  agrees = record { same = same_but l c n s h.agrees.same; on_receipt = h.agrees.on_receipt; sends = h.agrees.sends };
  name = h.name;
  phase = h.phase;
  due = h.due;
  syn_acked = h.syn_acked;
  closed = h.closed;
  nothing_sent = h.nothing_sent;
  nothing_taken = h.nothing_taken;
  unreset = h.unreset;
  probe = h.probe;
  reset_reply = answers_but l c n s l.tcb.reset_reply h.reset_reply;
  edge = h.edge;
  reported = h.reported;
  outcome = h.outcome;
}

stands_but : (l : LiveState) (c : Client) (n : ℕ) (s : StampState) → IsConnected l c → IsConnected (record l { seen = n; stamps = s }) c
stands_but l c n s h = record {
  agrees = record { same = same_but l c n s h.agrees.same; on_receipt = h.agrees.on_receipt; sends = h.agrees.sends };
  syn_acked = h.syn_acked;
  phase = h.phase;
  named = h.named;
  over = h.over;
  unreset = h.unreset;
  reset_reply = h.reset_reply;
  edge = h.edge;
  reported = h.reported;
  outcome = h.outcome;
}

runs_but : (l : LiveState) (c : Client) (n : ℕ) (s : StampState) → RunsBeside l c → RunsBeside (record l { seen = n; stamps = s }) c
runs_but l c n s (inl h) = inl (waits_but l c n s h)
runs_but l c n s (inr (inl h)) = inr (inl (stands_but l c n s h))
runs_but l c n s (inr (inr h)) =
    inr (inr (record { phase = h.phase; name = h.name; reset = h.reset; reset_reply = h.reset_reply; outcome = h.outcome; receipt = h.receipt }))

rests_but : (l : LiveState) (c : Client) (n : ℕ) (s : StampState) → RestsBeside l c → RestsBeside (record l { seen = n; stamps = s }) c
rests_but l c n s (inl h) = inl (record { waits = waits_but l c n s h.waits; phase = h.phase; retransmission_due = h.retransmission_due; reset_reply = h.reset_reply })
rests_but l c n s (inr h) = inr (record { stands = stands_but l c n s h.stands; begun = h.begun; edge = h.edge; reported = h.reported })

stamps_beside : (l : LiveState) (c : Client) (s : StampState) → RunsBeside l c → RunsBeside (record l { stamps = s }) c
stamps_beside l c s h = runs_but l c l.seen s h

stamps_between : (l : LiveState) (c : Client) (s : StampState) → RestsBeside l c → RestsBeside (record l { stamps = s }) c
stamps_between l c s h = rests_but l c l.seen s h

-- bytes come. A packet of the client's own connection is near
is_for : (l : LiveState) (c : Client) (p : Segment) → IsSame l c → is_of l.local l.server p ≡ true → is_for_client c p ≡ true
is_for l c p h from = (λ i. is_of (record { ip = h.ip i; port = h.port i }) (h.server i) p) ∙ from

of_connection : (l : LiveState) (c : Client) (p : Segment) → RestsBeside l c → l.outcome ≡ None → AcksNear c (Ok p) → p.head.ack < 2 ^ 32 → is_of l.local l.server p ≡ true
    → RunsBeside (met l p) (machine.received c p)
of_connection l c p h none near fits from = stamps_beside (reached l (as_read l.stamps p)) (machine.received c p) (met l p).stamps (by_state h)
  where
    by_state : RestsBeside l c → RunsBeside (reached l (as_read l.stamps p)) (machine.received c p)
    by_state (inl w) = answer_comes l c (as_read l.stamps p) w from fits
    by_state (inr s) = inr (segment_comes l c (as_read l.stamps p) s none (near (is_for l c p s.stands.agrees.same from)))

-- beside it stands the machine, and what it notes has 32 bits
pub received_due : (l : LiveState) (c : Client) (r : Result Segment BadPacket) → IsBetween l c → l.outcome ≡ None → AcksNear c r → AckFits r
    → EchoFits (arrivals l r).stamps.timestamping → IsDue (arrivals l r) (receiving l c r)
received_due l c (Err bad) h none near fits echo = (echo, reported_due l c h.1)
received_due l c (Ok p) h none near fits echo = (
  echo,
  pair_if (λ (m : LiveState) (d : Client). RunsBeside m d) (is_of l.local l.server p) (met l p) l (machine.received c p) c
      (λ from. of_connection l c p h.1 none near fits from) (λ other. reported_due l c h.1),
)

-- numbers tell the order of offsets
pub short_between : (l : LiveState) (c : Client) → IsBetween l c → IsShort l.tcb.sending
short_between l c (echo, inl h) =
    let s = h.waits.agrees.sends in
    record { sent = omega (arith, h.waits.nothing_sent); wl2 = omega (arith, h.waits.nothing_sent, s.wl2) }
short_between l c (echo, inr h) =
    let s = h.stands.agrees.sends in
    let few : l.tcb.sending.sent ≤ 2 ^ 24 + 1 = few_sent l.tcb.sending l.written c l.tcb.sending.fin_sent refl s in
    record { sent = omega (arith, few); wl2 = omega (arith, few, s.wl2) }

-- a tick passes
pub tick_due : (l : LiveState) (c : Client) → IsBetween l c → IsDue (ticked l) c
tick_due l c (echo, inl h) = (echo, inl (tick_waits l c h))
tick_due l c (echo, inr h) = (echo, inr (inl (tick_passes l c h)))

-- a turn ends
abbrev is_none : Option ClientEnd → Bool
is_none None = true
is_none (Some end) = false

ended_outcome : (c : Client) → is_reset c.phase ≡ false → (is_ended c.phase && c.acknowledged == length c.script + 1) ≡ true → outcome_of c ≡ Some ends.Closed
ended_outcome c unreset through =
    ap (λ b. if b then Some ends.Reset else (if is_ended c.phase && c.acknowledged == length c.script + 1 then Some ends.Closed else None)) unreset
    ∙ ap (λ b. if b then Some ends.Closed else None) through

-- what is left stays where the turn ends
read_received : (r : Receiving) (c : Client) (n : ℕ) → n ≤ length r.unread → HasReceived r c → HasReceived (read_out r n) c
read_received r c n few h = record {
  count = omega (arith, h.count, length-drop n r.unread, few);
  rest = sym (drop-drop n r.read c.accepted) ∙ ap (drop n) h.rest;
}

-- what TCP sends: moves of the machine, which goes on beside the client
record MovesTcp (l : LiveState) (c : Client) : Type 0 where
  later : Client
  moves : AreMoves c (sent_by_tcp l) later
  receipt : HasReceived (tcp_turned l).tcb.receiving later
  proceeds : (tcp_turned l).outcome ≡ None → RestsBeside (tcp_turned l) later
  live : (c.kind ≡ Live) ⊎ (sent_by_tcp l ≡ [])

turned_received : (l : LiveState) (c : Client) → HasReceived l.tcb.receiving c → HasReceived (tcp_turned l).tcb.receiving c
unfolding flushed with_turn_ended with_advertised after_full with_timed with_fin_out with_text_sent with_probe
turned_received l c h =
    let m : LiveState = supplied (given_up l) in
    holds_if (λ (t : Tcb). HasReceived t.receiving c) (closes m) (closing m.tcb) m.tcb
    (λ k. read_received l.tcb.receiving c (min l.seen (length l.tcb.receiving.unread)) (omega arith) h)
    (λ k. read_received l.tcb.receiving c (min l.seen (length l.tcb.receiving.unread)) (omega arith) h)

received_from : (r : Receiving) (c : Client) → OnReceipt r c → HasReceived r c
received_from r c h = record { count = h.count; rest = h.rest }

stands_ends : (l : LiveState) (c : Client) → IsConnected l c → (begun : Bool) → has_begun (before_flush l).tcb.name ≡ begun → MovesTcp l c
stands_ends l c h true begun =
    let t = turn_ends l c h begun in
    record {
      later = t.later;
      moves = t.moves;
      receipt = received_from (tcp_turned l).tcb.receiving t.later t.standing.stands.agrees.on_receipt;
      proceeds = λ none. inr t.standing;
      live = inl h.agrees.same.kind;
    }
stands_ends l c h false begun =
    let u : Tcb = (before_flush l).tcb in
    let r = ready l c h in
    let over = over_at u (follows_before l c h) begun in
    let through : (is_ended c.phase && c.acknowledged == length c.script + 1) ≡ true =
    (λ i. r.on_receipt.fin i && sym (acked_at u.sending (before_flush l).written c r.sends) i) ∙ over.2 in
    let outcome : l.outcome ≡ Some ends.Closed = h.outcome ∙ ended_outcome c (not_reset c.phase h.phase) through in
    record {
      later = c;
      moves = subst (λ (xs : List Segment). AreMoves c xs c) (sym (closed_leaves l c h begun)) refl;
      receipt = turned_received l c (received_from l.tcb.receiving c h.agrees.on_receipt);
      proceeds = λ none. absurd (false≢true (ap is_none (sym outcome ∙ none)));
      live = inl h.agrees.same.kind;
    }

reset_ends : (l : LiveState) (c : Client) → IsReset l c → MovesTcp l c
reset_ends l c h =
    let m : LiveState = supplied (given_up l) in
    let name : (before_flush l).tcb.name ≡ Closed =
    holds_if (λ (t : Tcb). t.name ≡ Closed) (closes m) (closing m.tcb) m.tcb (λ k. ap after_close h.name) (λ k. h.name) in
    let reset_reply : (before_flush l).tcb.reset_reply ≡ None =
    holds_if (λ (t : Tcb). t.reset_reply ≡ None) (closes m) (closing m.tcb) m.tcb (λ k. h.reset_reply) (λ k. h.reset_reply) in
    let nothing : sent_by_tcp l ≡ [] = closed_sends (before_flush l).tcb name ∙ ap reset_reply_segments reset_reply in
    record {
      later = c;
      moves = subst (λ (xs : List Segment). AreMoves c xs c) (sym nothing) refl;
      receipt = turned_received l c h.receipt;
      proceeds = λ none. absurd (false≢true (ap is_none (sym h.outcome ∙ none)));
      live = inr nothing;
    }

tcp_moves : (l : LiveState) (c : Client) → RunsBeside l c → MovesTcp l c
tcp_moves l c (inl h) =
    let o = waits_end l c h in
    record {
      later = o.later;
      moves = o.moves;
      receipt = received_from (tcp_turned l).tcb.receiving o.later o.waiting.waits.agrees.on_receipt;
      proceeds = λ none. inl o.waiting;
      live = inl h.agrees.same.kind;
    }
tcp_moves l c (inr (inl h)) = stands_ends l c h (has_begun (before_flush l).tcb.name) refl
tcp_moves l c (inr (inr h)) = reset_ends l c h

-- with timestamps they are moves too
all_move : (l : LiveState) (c d : Client) → EchoFits l.stamps.timestamping → (c.kind ≡ Live) ⊎ (sent_by_tcp l ≡ []) → AreMoves c (sent_by_tcp l) d → AreMoves c (sent_by l) d
all_move l c d echo (inl live) h = carried_moves l.stamps.timestamping (sent_by_tcp l) c d live echo h
all_move l c d echo (inr none) h =
    subst (λ (xs : List Segment). AreMoves c xs d)
    (none ∙ sym (nothing_carried (timestamps_sent l.stamps.timestamping)) ∙ ap (all_stamped (timestamps_sent l.stamps.timestamping)) (sym none)) h

pub flush_moves : (l : LiveState) (c : Client) → IsDue l c → Moves (turned l) (sent_by l) c
flush_moves l c (echo, h) =
    let m : MovesTcp l c = tcp_moves l c h in
    record {
      later = m.later;
      moves = all_move l c m.later echo m.live m.moves;
      receipt = m.receipt;
      proceeds = λ none. (sending_fits (sent_by_tcp l) l.stamps echo, stamps_between (tcp_turned l) m.later (after_sending (sent_by_tcp l) l.stamps) (m.proceeds none));
    }

-- what is handed out
pub received_of : (l : LiveState) (c : Client) → IsDue l c → HasReceived l.tcb.receiving c
received_of l c (echo, inl h) = record { count = h.agrees.on_receipt.count; rest = h.agrees.on_receipt.rest }
received_of l c (echo, inr (inl h)) = record { count = h.agrees.on_receipt.count; rest = h.agrees.on_receipt.rest }
received_of l c (echo, inr (inr h)) = h.receipt

pub unread_received : (l : LiveState) (c : Client) → HasReceived l.tcb.receiving c → unread l ≡ drop (handed_out l) c.accepted
unread_received l c h = ap (drop l.seen) (sym h.rest) ∙ drop-drop l.seen l.tcb.receiving.read c.accepted

pub unread_is : (l : LiveState) (c : Client) → IsDue l c → unread l ≡ drop (handed_out l) c.accepted
unread_is l c h = unread_received l c (received_of l c h)

pub due_handed : (l : LiveState) (c : Client) (n : ℕ) → IsDue l c → IsDue (handed l n) c
due_handed l c n h = (h.0, runs_but l c (l.seen + n) l.stamps h.1)

pub between_handed : (l : LiveState) (c : Client) (n : ℕ) → IsBetween l c → IsBetween (handed l n) c
between_handed l c n h = (h.0, rests_but l c (l.seen + n) l.stamps h.1)

-- the outcome is the machine's
waiting_outcome : (c : Client) → (c.phase ≡ phases.New) ⊎ (c.phase ≡ phases.Opening) → None ≡ outcome_of c
waiting_outcome c (inl h) =
    ap (λ p. if is_reset p then Some ends.Reset else (if is_ended p && c.acknowledged == length c.script + 1 then Some ends.Closed else None)) (sym h)
waiting_outcome c (inr h) =
    ap (λ p. if is_reset p then Some ends.Reset else (if is_ended p && c.acknowledged == length c.script + 1 then Some ends.Closed else None)) (sym h)

pub due_outcome : (l : LiveState) (c : Client) → IsDue l c → l.outcome ≡ outcome_of c
due_outcome l c (echo, inl h) = h.outcome ∙ waiting_outcome c h.phase
due_outcome l c (echo, inr (inl h)) = h.outcome
due_outcome l c (echo, inr (inr h)) =
    h.outcome
    ∙ ap (λ p. if is_reset p then Some ends.Reset else (if is_ended p && c.acknowledged == length c.script + 1 then Some ends.Closed else None)) (sym h.phase)
