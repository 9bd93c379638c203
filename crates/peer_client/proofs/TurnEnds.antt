-- The end of a turn of an established connection: what was handed out is given up, the script goes on, and what leaves are moves.
use Rattle.std.proofs.Common.{◌≡◌, ◌⊎◌, inl, inr, ℕ, ◌≤◌, ◌+◌, ◌-◌, Bool, true, false, None, List, [], ◌∷◌, ◌++◌, append-nil, length, length-drop, length-take, take, drop, drop-drop, min, refl, sym, ap, subst, arith, ◌∙◌}
use Rattle.std.specs.Prelude.{◌==◌, ◌||◌, nat_le, if◌then◌else◌}
use Rattle.std.proofs.lemmas.Bool.{false≢true}
use Rattle.std.proofs.lemmas.List.{take-append-drop, drop-append-le, take-take, drop-take, take_min}
use Rattle.tcp_rules.specs.Coming.{StandsBehind}
use Rattle.seq_arith.specs.Offset.{one_if}
use Rattle.tcp_rules.proofs.Coming.{behind_up}
use Rattle.tcp_endpoint.specs.States.{has_begun}
use Rattle.tcp_endpoint.specs.ReceiveHalf.{Receiving, next, taken, receive_edge, advertised_edge, read_out}
use Rattle.tcp_rules.specs.Timing.{Timing}
use Rattle.tcp_endpoint.specs.SendHalf.{Sending, timed}
use Rattle.tcp_endpoint.specs.Tcb.{Tcb}
use Rattle.tcp_endpoint.specs.Output.{reset_reply_segments, is_timed, with_advertised, with_turn_ended, flushed}
use Rattle.tcp_endpoint.specs.UserCalls.{closing, write_room}
use Rattle.ft_model.specs.Client.{Client, is_open}
use Rattle.endpoint_laws.specs.Turn.{Call, used}
use Rattle.endpoint_laws.specs.Turn.Call.{Reads, Writes, Closes}
use Rattle.endpoint_laws.proofs.EndingLaw.{FollowsAt, used_follows, flush_follows, named_at}
use Rattle.endpoint_laws.proofs.AnswersAlone.{closed_sends}
use Rattle.peer_client.specs.Live.{LiveState, given_up, next_part, supplied, closes, shut, before_flush, sent_by_tcp, tcp_turned}
use Rattle.peer_client.specs.Refinement.{AreMoves, IsSame, OnReceipt, Sends, Reported, IsConnected, IsStanding}
use Rattle.peer_client.proofs.Spoken.{grown, Speaks}
use Rattle.peer_client.proofs.Leaves.{at_end, IsWithin, Flushes, Left, leaves}
use Rattle.peer_client.proofs.Named.{follows_of, over_at}
use Rattle.ft_io.proofs.Booleans.{right_true}
use Rattle.ft_io.proofs.Choices.{holds_if}
use Rattle.ft_io.proofs.Numbers.{at_most_of_test}

-- bytes that are read
pub read_edge : (r : Receiving) (n : ℕ) → receive_edge r ≤ receive_edge (read_out r n)
read_edge r n = omega arith

read_taken : (r : Receiving) (n : ℕ) → n ≤ length r.unread → taken (read_out r n) ≡ taken r
read_taken r n few = omega (arith, length-drop n r.unread, few)

pub read_behind : (r : Receiving) (n : ℕ) → n ≤ length r.unread → StandsBehind (taken r) (receive_edge r) r.fin r.early
    → StandsBehind (taken (read_out r n)) (receive_edge (read_out r n)) r.fin r.early
read_behind r n few h =
    behind_up (taken (read_out r n)) (receive_edge r) (receive_edge (read_out r n)) r.fin r.early (read_edge r n)
    (subst (λ (k : ℕ). StandsBehind k (receive_edge r) r.fin r.early) (sym (read_taken r n few)) h)

pub read_receives : (r : Receiving) (c : Client) (n : ℕ) → n ≤ length r.unread → OnReceipt r c → OnReceipt (read_out r n) c
read_receives r c n few h =
    let left : length (drop n r.unread) ≡ length r.unread - n = length-drop n r.unread in
    record {
      sisn = h.sisn;
      limit = h.limit;
      count = omega (arith, h.count, left, few);
      rest = sym (drop-drop n r.read c.accepted) ∙ ap (drop n) h.rest;
      fin = h.fin;
      early = h.early;
      behind = read_behind r n few h.behind;
      within = omega (arith, h.within, left, few);
      queued = omega (arith, h.queued, left);
    }

-- bytes of the script that are written
take_on : (n m : ℕ) (xs : List ℕ) → n ≤ length xs → take (n + m) xs ≡ take n xs ++ take m (drop n xs)
take_on n m xs few =
    sym (take-append-drop n (take (n + m) xs))
    ∙ (λ i. take-take n (n + m) xs (omega arith) i ++ drop-take n m xs i)

-- as many of a list as it has
take_len : (n : ℕ) (xs : List ℕ) → take (length (take n xs)) xs ≡ take n xs
take_len n xs = ap (λ k. take k xs) (length-take n xs) ∙ take_min n xs

unfinished : (s : Sending) (written : ℕ) (c : Client) (b : Bool) → s.fin_sent ≡ b → s.closed ≡ false → Sends s written c → s.fin_sent ≡ false
unfinished s written c true is k h = absurd (false≢true (sym k ∙ (h.ended is).0))
unfinished s written c false is k h = is

held_on : (s : Sending) (written room : ℕ) (c : Client) (b : Bool) → s.closed ≡ b → (s.closed ≡ true → room ≡ 0) → Sends s written c
    → s.held ++ take room (drop written c.script) ≡ drop s.una (take (written + length (take room (drop written c.script))) c.script)
held_on s written room c true k full h =
    let nothing : take room (drop written c.script) ≡ [] = ap (λ n. take n (drop written c.script)) (full k) in
    let same : written ≡ written + length (take room (drop written c.script)) = omega (arith, ap length nothing) in
    (λ i. s.held ++ nothing i) ∙ append-nil s.held ∙ h.held ∙ ap (λ n. drop s.una (take n c.script)) same
held_on s written room c false k full h =
    let part : List ℕ = take room (drop written c.script) in
    let un : s.una ≤ length (take written c.script) =
    omega (arith, length-take written c.script, h.within, h.order, h.text (unfinished s written c s.fin_sent refl k h)) in
    (λ i. h.held i ++ part)
    ∙ sym (drop-append-le s.una (take written c.script) part un)
    ∙ ap (drop s.una) ((λ i. take written c.script ++ sym (take_len room (drop written c.script)) i) ∙ sym (take_on written (length part) c.script h.within))

pub write_sends : (s : Sending) (written room : ℕ) (c : Client) → (s.closed ≡ true → room ≡ 0) → Sends s written c
    → Sends (record s { held = s.held ++ take room (drop written c.script) }) (written + length (take room (drop written c.script))) c
write_sends s written room c full h =
    let part : List ℕ = take room (drop written c.script) in
    let some : length part ≤ length c.script - written = omega (arith, length-take room (drop written c.script), length-drop written c.script) in
    let none : s.closed ≡ true → length part ≡ 0 = λ k. omega (arith, length-take room (drop written c.script), full k) in
    record {
      sent = h.sent;
      acknowledged = h.acknowledged;
      held = held_on s written room c s.closed refl full h;
      order = h.order;
      wl2 = h.wl2;
      within = omega (arith, some, h.within);
      script = h.script;
      text = λ k. omega (arith, h.text k);
      ended = λ k. ((h.ended k).0, omega (arith, (h.ended k).1, none (h.ended k).0));
      shut = λ k. omega (arith, h.shut k, none k);
      least = h.least;
      most = h.most;
    }

-- the calls before the flush, as the endpoint's user's
abbrev pub calls_of : LiveState → List Call
calls_of l =
    Reads (min l.seen (length l.tcb.receiving.unread)) ∷ Writes (next_part (given_up l)) ∷ (if closes (supplied (given_up l)) then Closes ∷ [] else [])

used_if : (b : Bool) (e : Tcb) → used (if b then Closes ∷ [] else []) e ≡ (if b then closing e else e)
used_if true e = refl
used_if false e = refl

calls_are : (l : LiveState) → used (calls_of l) l.tcb ≡ (before_flush l).tcb
calls_are l = used_if (closes (supplied (given_up l))) (supplied (given_up l)).tcb

pub room_none : (closed reset : Bool) (n : ℕ) → closed ≡ true → (if closed || reset then 0 else n) ≡ 0
room_none closed reset n k = ap (λ b. if b || reset then 0 else n) k

close_sends : (s : Sending) (written : ℕ) (c : Client) → written ≡ length c.script → Sends s written c → Sends (record s { closed = true }) written c
close_sends s written c whole h = record {
  sent = h.sent;
  acknowledged = h.acknowledged;
  held = h.held;
  order = h.order;
  wl2 = h.wl2;
  within = h.within;
  script = h.script;
  text = h.text;
  ended = λ k. (refl, (h.ended k).1);
  shut = λ k. whole;
  least = h.least;
  most = h.most;
}

-- what stands before the flush
pub record Ready (l : LiveState) (c : Client) (u : Tcb) (written : ℕ) : Type 0 where
  pub local : u.local ≡ l.local
  pub remote : u.remote ≡ l.server
  pub iss : u.sending.iss ≡ c.isn
  pub syn_acked : u.sending.syn_acked ≡ true
  pub on_receipt : OnReceipt u.receiving c
  pub sends : Sends u.sending written c
  pub reset_reply : u.reset_reply ≡ None
  pub unreset : u.reset ≡ false
  pub edge : c.edge ≤ receive_edge u.receiving
  pub reported : (u.ack_pending ≡ true) ⊎ Reported u c

reported_read : (u : Tcb) (c : Client) (n : ℕ) → n ≤ length u.receiving.unread → (u.ack_pending ≡ true) ⊎ Reported u c
    → (u.ack_pending ≡ true) ⊎ Reported (record u { receiving = read_out u.receiving n }) c
reported_read u c n few (inl ack_pending) = inl ack_pending
reported_read u c n few (inr t) = inr (record {
  bytes = t.bytes;
  fin = t.fin;
  next_is = t.next_is;
  edge_is = t.edge_is;
  bytes_taken = omega (arith, t.bytes_taken, read_taken u.receiving n few);
  fin_taken = t.fin_taken;
})

reported_as : (u v : Tcb) (c : Client) → v.ack_pending ≡ u.ack_pending → v.last_ack_sent ≡ u.last_ack_sent → v.last_advertised_edge ≡ u.last_advertised_edge → v.receiving ≡ u.receiving
    → (u.ack_pending ≡ true) ⊎ Reported u c → (v.ack_pending ≡ true) ⊎ Reported v c
reported_as u v c ack_pending next edge receiving (inl h) = inl (ack_pending ∙ h)
reported_as u v c ack_pending next edge receiving (inr t) = inr (record {
  bytes = t.bytes;
  fin = t.fin;
  next_is = next ∙ t.next_is;
  edge_is = edge ∙ t.edge_is;
  bytes_taken = subst (λ (r : Receiving). t.bytes ≤ taken r) (sym receiving) t.bytes_taken;
  fin_taken = λ k. ap (λ (r : Receiving). r.fin) receiving ∙ t.fin_taken k;
})

ready_supplied : (l : LiveState) (c : Client) → IsConnected l c → Ready l c (supplied (given_up l)).tcb (supplied (given_up l)).written
ready_supplied l c h =
    let n : ℕ = min l.seen (length l.tcb.receiving.unread) in
    let few : n ≤ length l.tcb.receiving.unread = omega arith in
    let u : Tcb = (given_up l).tcb in
    let room : ℕ = write_room u in
    let full : u.sending.closed ≡ true → room ≡ 0 = λ k. room_none u.sending.closed u.reset (65535 - length u.sending.held) k in
    let S : List ℕ → Type 0 = λ script.
    Sends (record u.sending { held = u.sending.held ++ take room (drop l.written script) }) (l.written + length (take room (drop l.written script))) c in
    record {
      local = h.agrees.same.local;
      remote = h.agrees.same.remote;
      iss = sym h.agrees.same.isn;
      syn_acked = h.syn_acked;
      on_receipt = read_receives l.tcb.receiving c n few h.agrees.on_receipt;
      sends = subst S h.agrees.same.script (write_sends u.sending l.written room c full h.agrees.sends);
      reset_reply = h.reset_reply;
      unreset = h.unreset;
      edge = omega (arith, h.edge, read_edge l.tcb.receiving n);
      reported = reported_as u (supplied (given_up l)).tcb c refl refl refl refl (reported_read l.tcb c n few h.reported);
    }

ready_shut : (l : LiveState) (c : Client) (m : LiveState) → m.script ≡ c.script → Ready l c m.tcb m.written → Ready l c (shut m).tcb m.written
ready_shut l c m script h =
    holds_if (λ (t : Tcb). Ready l c t m.written) (closes m) (closing m.tcb) m.tcb
    (λ k. record {
      local = h.local;
      remote = h.remote;
      iss = h.iss;
      syn_acked = h.syn_acked;
      on_receipt = h.on_receipt;
      sends = close_sends m.tcb.sending m.written c
          (omega (arith, h.sends.within, at_most_of_test (length m.script) m.written (right_true (has_begun m.tcb.name) (nat_le (length m.script) m.written) k), ap length script)) h.sends;
      reset_reply = h.reset_reply;
      unreset = h.unreset;
      edge = h.edge;
      reported = reported_as m.tcb (closing m.tcb) c refl refl refl refl h.reported;
    })
    (λ k. h)

pub ready : (l : LiveState) (c : Client) → IsConnected l c → Ready l c (before_flush l).tcb (before_flush l).written
ready l c h = ready_shut l c (supplied (given_up l)) (sym h.agrees.same.script) (ready_supplied l c h)

-- the timer changes nothing else
pub timed_same : {X : Type 0} (g : Sending → X) (steady : (interval rest : ℕ) (s : Sending) → g (record s { interval = interval; rest = rest }) ≡ g s)
    (runs : Bool) (s : Sending) → g (timed runs s) ≡ g s
timed_same g steady true s = holds_if (λ (t : Sending). g t ≡ g s) (s.rest == 0) (record s { interval = s.timing.base; rest = s.timing.base }) s
    (λ k. steady s.timing.base s.timing.base s) (λ k. refl)
timed_same g steady false s = steady s.timing.base 0 s

retimed_sends : (interval rest : ℕ) (s : Sending) (written : ℕ) (c : Client) → Sends s written c → Sends (record s { interval = interval; rest = rest }) written c
retimed_sends interval rest s written c h = record {
  sent = h.sent;
  acknowledged = h.acknowledged;
  held = h.held;
  order = h.order;
  wl2 = h.wl2;
  within = h.within;
  script = h.script;
  text = h.text;
  ended = h.ended;
  shut = h.shut;
  least = h.least;
  most = h.most;
}

pub timed_sends : (runs : Bool) (s : Sending) (written : ℕ) (c : Client) → Sends s written c → Sends (timed runs s) written c
timed_sends true s written c h =
    holds_if (λ (t : Sending). Sends t written c) (s.rest == 0) (record s { interval = s.timing.base; rest = s.timing.base }) s
    (λ k. retimed_sends s.timing.base s.timing.base s written c h) (λ k. h)
timed_sends false s written c h = retimed_sends s.timing.base 0 s written c h

-- what has been sent more
sent_more : (u : Tcb) (c : Client) (written sent : ℕ) (fin : Bool) (time : Timing) (edge : ℕ) → IsWithin u c written sent fin → u.sending.sent ≤ sent → Sends u.sending written c
    → Sends (at_end u sent fin time).sending written (grown c sent edge)
sent_more u c written sent fin time edge w more h = record {
  sent = refl;
  acknowledged = h.acknowledged;
  held = h.held;
  order = w.order;
  wl2 = omega (arith, h.wl2, more);
  within = h.within;
  script = h.script;
  text = w.text;
  ended = w.ended;
  shut = h.shut;
  least = h.least;
  most = h.most;
}

same_receives : (r : Receiving) (c : Client) (sent edge : ℕ) → OnReceipt r c → OnReceipt r (grown c sent edge)
same_receives r c sent edge h =
    record {
      sisn = h.sisn;
      limit = h.limit;
      count = h.count;
      rest = h.rest;
      fin = h.fin;
      early = h.early;
      behind = h.behind;
      within = h.within;
      queued = h.queued;
    }

pub speaks_of : (l : LiveState) (c : Client) (u : Tcb) (written : ℕ) → IsSame l c → is_open c.phase ≡ true → Ready l c u written
    → Speaks u c written (receive_edge u.receiving)
speaks_of l c u written same phase r = record {
  ip = ap (λ a. a.ip) r.local ∙ sym same.ip;
  port = ap (λ a. a.port) r.local ∙ sym same.port;
  server = r.remote ∙ sym same.server;
  isn = r.iss;
  sisn = sym r.on_receipt.sisn;
  units = λ i. sym r.on_receipt.count i + one_if (sym r.on_receipt.fin i);
  stands = phase;
  edge_is = omega (arith, r.on_receipt.count, r.on_receipt.within, r.on_receipt.queued);
  small = omega arith;
  una = r.sends.acknowledged;
  held = r.sends.held;
  within = r.sends.within;
}

-- the turn of a connection that goes on
pub record Turned (l : LiveState) (c : Client) : Type 0 where
  pub later : Client
  pub moves : AreMoves c (sent_by_tcp l) later
  pub standing : IsStanding (tcp_turned l) later

pub follows_before : (l : LiveState) (c : Client) → IsConnected l c → FollowsAt (before_flush l).tcb
follows_before l c h = subst FollowsAt (calls_are l) (used_follows (calls_of l) l.tcb (follows_of l c h))

begun_reported : (u : Tcb) (sent : ℕ) (fin : Bool) (time : Timing) (c : Client) → has_begun u.name ≡ true
    → Reported (with_turn_ended (at_end u sent fin time)) (grown c sent (receive_edge u.receiving))
unfolding with_turn_ended with_advertised
begun_reported u sent fin time c begun = record {
  bytes = taken u.receiving;
  fin = u.receiving.fin;
  next_is = ap (λ b. if b then next u.receiving else u.last_ack_sent) begun;
  edge_is = ap (λ b. if b then advertised_edge u.receiving else u.last_advertised_edge) begun;
  bytes_taken = omega arith;
  fin_taken = λ k. k;
}

turn_ended_stands : (l : LiveState) (c : Client) (sent : ℕ) (fin : Bool) (time : Timing) → IsConnected l c → has_begun (before_flush l).tcb.name ≡ true
    → IsWithin (before_flush l).tcb c (before_flush l).written sent fin → (before_flush l).tcb.sending.sent ≤ sent
    → FollowsAt (with_turn_ended (at_end (before_flush l).tcb sent fin time))
    → IsStanding (record (before_flush l) { tcb = with_turn_ended (at_end (before_flush l).tcb sent fin time) }) (grown c sent (receive_edge (before_flush l).tcb.receiving))
unfolding with_turn_ended with_advertised
turn_ended_stands l c sent fin time h begun w more follows =
    let u : Tcb = (before_flush l).tcb in
    let edge : ℕ = receive_edge u.receiving in
    let r = ready l c h in
    let q : Sending = (at_end u sent fin time).sending in
    let runs : Bool = is_timed (at_end u sent fin time) in
    let t : Tcb = with_turn_ended (at_end u sent fin time) in
    record {
      stands = record {
        agrees = record {
          same = record {
            kind = h.agrees.same.kind;
            ip = h.agrees.same.ip;
            port = h.agrees.same.port;
            server = h.agrees.same.server;
            script = h.agrees.same.script;
            isn = sym (timed_same (λ (s : Sending). s.iss) (λ a b s. refl) runs q ∙ r.iss);
            local = r.local;
            remote = r.remote;
          };
          on_receipt = same_receives u.receiving c sent edge r.on_receipt;
          sends = timed_sends runs q (before_flush l).written (grown c sent edge) (sent_more u c (before_flush l).written sent fin time edge w more r.sends);
        };
        syn_acked = timed_same (λ (s : Sending). s.syn_acked) (λ a b s. refl) runs q ∙ r.syn_acked;
        phase = h.phase;
        named = named_at t follows;
        over = over_at t follows;
        unreset = r.unreset;
        reset_reply = refl;
        edge = omega arith;
        reported = inr (begun_reported u sent fin time c begun);
        outcome = h.outcome;
      };
      begun = begun;
      edge = refl;
      reported = begun_reported u sent fin time c begun;
    }

pub turn_ends : (l : LiveState) (c : Client) → IsConnected l c → has_begun (before_flush l).tcb.name ≡ true → Turned l c
unfolding flushed
turn_ends l c h begun =
    let u : Tcb = (before_flush l).tcb in
    let w : ℕ = (before_flush l).written in
    let edge : ℕ = receive_edge u.receiving in
    let r = ready l c h in
    let f : Flushes u c w edge = record {
      speaks = speaks_of l c u w h.agrees.same h.phase r;
      syn_acked = r.syn_acked;
      least = r.sends.least;
      most = r.sends.most;
      shut = r.sends.shut;
      reset_reply = r.reset_reply;
    } in
    let within : IsWithin u c w u.sending.sent u.sending.fin_sent = record { order = r.sends.order; text = r.sends.text; ended = r.sends.ended } in
    let left : Left u c w edge = leaves u c w edge begun f within r.sends.sent r.edge refl r.reported in
    let P : Tcb → Type 0 = λ v. IsStanding (record (before_flush l) { tcb = with_turn_ended v }) (grown c left.sent edge) in
    record {
      later = grown c left.sent edge;
      moves = left.moves;
      standing = subst P (sym left.is)
          (turn_ended_stands l c left.sent left.fin left.timing h begun left.within left.more
          (subst (λ (v : Tcb). FollowsAt (with_turn_ended v)) left.is (flush_follows u (follows_before l c h))));
    }

-- in CLOSED nothing leaves
pub closed_leaves : (l : LiveState) (c : Client) → IsConnected l c → has_begun (before_flush l).tcb.name ≡ false → sent_by_tcp l ≡ []
closed_leaves l c h none =
    let u : Tcb = (before_flush l).tcb in
    closed_sends u (over_at u (follows_before l c h) none).0 ∙ ap reset_reply_segments (ready l c h).reset_reply
