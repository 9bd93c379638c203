-- What the user's calls in a turn leave of an endpoint: all but the bytes that wait to be read and to be sent, and the close.
use Rattle.std.proofs.Common.{◌≡◌, ℕ, ◌≤◌, ◌+◌, ◌-◌, ◌^◌, Bool, true, false, not, List, [], ◌∷◌, ◌++◌, length, length-append, length-drop, drop, drop-drop, max, refl, sym, ap, arith, ◌∙◌}
use Rattle.std.specs.Prelude.{◌||◌, nat_lt, if◌then◌else◌}
use Rattle.std.proofs.lemmas.Bool.{false≢true}
use Rattle.seq_arith.specs.Offset.{one_if}
use Rattle.tcp_endpoint.specs.declared.states.StateName.{StateName}
use Rattle.tcp_endpoint.specs.declared.states.StateName.TheVariants.{Closed, Listen, SynSent, SynReceived, Established, FinWait1, FinWait2, CloseWait, Closing, LastAck, TimeWait}
use Rattle.tcp_endpoint.specs.States.{after_close, has_begun}
use Rattle.tcp_endpoint.specs.ReceiveHalf.{taken}
use Rattle.tcp_endpoint.specs.SendHalf.{Sending, target, must_run}
use Rattle.tcp_endpoint.specs.Tcb.{Tcb}
use Rattle.endpoint_laws.specs.Laws.{IsBounded, ProbesRightly, IsShut, last_advertised}
use Rattle.endpoint_laws.specs.Turn.{Call, called, used, MayCall, MayUse}
use Rattle.endpoint_laws.specs.Turn.Call.{Reads, Writes, Closes}
use Rattle.endpoint_laws.proofs.Bounding.{bounded_by_read, bounded_by_more}

-- a FIN is sent last, after all that was written, by a user who has closed
abbrev pub FinIsLast : Sending → Type 0
FinIsLast s = s.fin_sent ≡ true → (s.closed ≡ true) × (1 ≤ s.sent) × (length s.held ≡ s.sent - 1 - s.una)

-- the sending half of u is that of m, but for what was written and the close
pub record SendsAs (m u : Sending) : Type 0 where
  pub iss : u.iss ≡ m.iss
  pub syn_acked : u.syn_acked ≡ m.syn_acked
  pub una : u.una ≡ m.una
  pub sent : u.sent ≡ m.sent
  pub edge : u.edge ≡ m.edge
  pub wl1 : u.wl1 ≡ m.wl1
  pub wl2 : u.wl2 ≡ m.wl2
  pub congestion : u.congestion ≡ m.congestion
  pub timing : u.timing ≡ m.timing
  pub fin_sent : u.fin_sent ≡ m.fin_sent
  pub mss : u.mss ≡ m.mss
  pub interval : u.interval ≡ m.interval
  pub rest : u.rest ≡ m.rest
  pub closed : m.closed ≡ true → u.closed ≡ true
  pub held : m.closed ≡ true → length u.held ≡ length m.held
  pub target : target m ≤ target u

-- u is m, but for the user's calls
pub record IsUsed (m u : Tcb) : Type 0 where
  pub local : u.local ≡ m.local
  pub remote : u.remote ≡ m.remote
  pub irs : u.receiving.irs ≡ m.receiving.irs
  pub limit : u.receiving.limit ≡ m.receiving.limit
  pub taken : taken u.receiving ≡ taken m.receiving
  pub fin : u.receiving.fin ≡ m.receiving.fin
  pub early : u.receiving.early ≡ m.receiving.early
  pub unread : (all : List ℕ) (fetched : ℕ) → drop (m.receiving.read + fetched) all ≡ m.receiving.unread → drop (u.receiving.read + fetched) all ≡ u.receiving.unread
  pub sends : SendsAs m.sending u.sending
  pub reported : last_advertised u ≡ last_advertised m
  pub ack_pending : u.ack_pending ≡ m.ack_pending
  pub retransmission_due : u.retransmission_due ≡ m.retransmission_due
  pub probe : u.probe ≡ m.probe
  pub reset_reply : u.reset_reply ≡ m.reset_reply
  pub begun : has_begun m.name ≡ true → has_begun u.name ≡ true

sends_same : (s : Sending) → SendsAs s s
sends_same s = record {
  iss = refl;
  syn_acked = refl;
  una = refl;
  sent = refl;
  edge = refl;
  wl1 = refl;
  wl2 = refl;
  congestion = refl;
  timing = refl;
  fin_sent = refl;
  mss = refl;
  interval = refl;
  rest = refl;
  closed = λ h. h;
  held = λ h. refl;
  target = omega arith;
}

sends_on : (m n u : Sending) → SendsAs m n → SendsAs n u → SendsAs m u
sends_on m n u a b = record {
  iss = b.iss ∙ a.iss;
  syn_acked = b.syn_acked ∙ a.syn_acked;
  una = b.una ∙ a.una;
  sent = b.sent ∙ a.sent;
  edge = b.edge ∙ a.edge;
  wl1 = b.wl1 ∙ a.wl1;
  wl2 = b.wl2 ∙ a.wl2;
  congestion = b.congestion ∙ a.congestion;
  timing = b.timing ∙ a.timing;
  fin_sent = b.fin_sent ∙ a.fin_sent;
  mss = b.mss ∙ a.mss;
  interval = b.interval ∙ a.interval;
  rest = b.rest ∙ a.rest;
  closed = λ h. b.closed (a.closed h);
  held = λ h. b.held (a.closed h) ∙ a.held h;
  target = omega (arith, a.target, b.target);
}

-- bytes or a close only add to what is to be sent
target_grows : (f c c' : Bool) (una len len' sent : ℕ) → len ≤ len' → (c ≡ true → c' ≡ true)
    → (if f then sent else una + len + one_if c) ≤ (if f then sent else una + len' + one_if c')
target_grows true c c' una len len' sent more keeps = omega arith
target_grows false true true una len len' sent more keeps = omega (arith, more)
target_grows false true false una len len' sent more keeps = absurd (false≢true (keeps refl))
target_grows false false c' una len len' sent more keeps = omega (arith, more)

sends_written : (s : Sending) (held : List ℕ) (closed : Bool) → length s.held ≤ length held → (s.closed ≡ true → closed ≡ true)
    → (s.closed ≡ true → length held ≡ length s.held) → SendsAs s (record s { held = held; closed = closed })
sends_written s held closed more keeps same = record {
  iss = refl;
  syn_acked = refl;
  una = refl;
  sent = refl;
  edge = refl;
  wl1 = refl;
  wl2 = refl;
  congestion = refl;
  timing = refl;
  fin_sent = refl;
  mss = refl;
  interval = refl;
  rest = refl;
  closed = keeps;
  held = same;
  target = target_grows s.fin_sent s.closed closed s.una (length s.held) (length held) s.sent more keeps;
}

pub begun_closing : (name : StateName) → has_begun name ≡ true → has_begun (after_close name) ≡ true
begun_closing Closed h = h
begun_closing Listen h = absurd (false≢true h)
begun_closing SynSent h = absurd (false≢true h)
begun_closing SynReceived h = refl
begun_closing Established h = refl
begun_closing FinWait1 h = refl
begun_closing FinWait2 h = refl
begun_closing CloseWait h = refl
begun_closing Closing h = refl
begun_closing LastAck h = refl
begun_closing TimeWait h = refl

used_same : (m : Tcb) → IsUsed m m
used_same m = record {
  local = refl;
  remote = refl;
  irs = refl;
  limit = refl;
  taken = refl;
  fin = refl;
  early = refl;
  unread = λ all fetched h. h;
  sends = sends_same m.sending;
  reported = refl;
  ack_pending = refl;
  retransmission_due = refl;
  probe = refl;
  reset_reply = refl;
  begun = λ h. h;
}

used_on : (m n u : Tcb) → IsUsed m n → IsUsed n u → IsUsed m u
used_on m n u a b = record {
  local = b.local ∙ a.local;
  remote = b.remote ∙ a.remote;
  irs = b.irs ∙ a.irs;
  limit = b.limit ∙ a.limit;
  taken = b.taken ∙ a.taken;
  fin = b.fin ∙ a.fin;
  early = b.early ∙ a.early;
  unread = λ all fetched h. b.unread all fetched (a.unread all fetched h);
  sends = sends_on m.sending n.sending u.sending a.sends b.sends;
  reported = b.reported ∙ a.reported;
  ack_pending = b.ack_pending ∙ a.ack_pending;
  retransmission_due = b.retransmission_due ∙ a.retransmission_due;
  probe = b.probe ∙ a.probe;
  reset_reply = b.reset_reply ∙ a.reset_reply;
  begun = λ h. b.begun (a.begun h);
}

-- what is read goes on after what was read before
read_on : (n read fetched : ℕ) (all unread : List ℕ) → drop (read + fetched) all ≡ unread → drop (read + n + fetched) all ≡ drop n unread
read_on n read fetched all unread h =
    let places : read + n + fetched ≡ read + fetched + n = omega arith
    in ap (λ k. drop k all) places ∙ sym (drop-drop n (read + fetched) all) ∙ ap (drop n) h

-- nothing is written once the user has closed
none_behind : (c r : Bool) (len bytes : ℕ) {all : ℕ} → c ≡ true → bytes ≤ (if c || r then 0 else 65535 - len) → all ≡ len + bytes → all ≡ len
none_behind true r len bytes h room is = omega (arith, room, is)
none_behind false r len bytes h room is = absurd (false≢true h)

-- one call
used_call : (call : Call) (m : Tcb) → MayCall call m → IsUsed m (called call m)
used_call (Reads n) m may = record {
  local = refl;
  remote = refl;
  irs = refl;
  limit = refl;
  taken = omega (arith, may, length-drop n m.receiving.unread);
  fin = refl;
  early = refl;
  unread = λ all fetched h. read_on n m.receiving.read fetched all m.receiving.unread h;
  sends = sends_same m.sending;
  reported = refl;
  ack_pending = refl;
  retransmission_due = refl;
  probe = refl;
  reset_reply = refl;
  begun = λ h. h;
}
used_call (Writes bytes) m may = record {
  local = refl;
  remote = refl;
  irs = refl;
  limit = refl;
  taken = refl;
  fin = refl;
  early = refl;
  unread = λ all fetched h. h;
  sends = sends_written m.sending (m.sending.held ++ bytes) m.sending.closed (omega (arith, length-append m.sending.held bytes)) (λ h. h)
      (λ h. none_behind m.sending.closed m.reset (length m.sending.held) (length bytes) h may.0 (length-append m.sending.held bytes));
  reported = refl;
  ack_pending = refl;
  retransmission_due = refl;
  probe = refl;
  reset_reply = refl;
  begun = λ h. h;
}
used_call Closes m may = record {
  local = refl;
  remote = refl;
  irs = refl;
  limit = refl;
  taken = refl;
  fin = refl;
  early = refl;
  unread = λ all fetched h. h;
  sends = sends_written m.sending m.sending.held true (omega arith) (λ h. refl) (λ h. refl);
  reported = refl;
  ack_pending = refl;
  retransmission_due = refl;
  probe = refl;
  reset_reply = refl;
  begun = begun_closing m.name;
}

-- after a FIN nothing is written, and else the stream has room
written_within : (f c r : Bool) (una len sent bytes : ℕ) → una + len ≤ 2 ^ 24 + one_if f → (f ≡ true → c ≡ true)
    → bytes ≤ (if c || r then 0 else 65535 - len) → (if f then sent - 1 else una + len) + bytes ≤ 2 ^ 24 → una + len + bytes ≤ 2 ^ 24 + one_if f
written_within true true r una len sent bytes written ends room few = omega (arith, written, room)
written_within true false r una len sent bytes written ends room few = absurd (false≢true (ends refl))
written_within false c r una len sent bytes written ends room few = omega (arith, few)

bounded_call : (call : Call) (m : Tcb) → MayCall call m → FinIsLast m.sending → IsBounded m → IsBounded (called call m)
bounded_call (Reads n) m may last b = bounded_by_read m n may b
bounded_call (Writes bytes) m may last b =
    let s : Sending = m.sending in
    bounded_by_more m bytes
    (written_within s.fin_sent s.closed m.reset s.una (length s.held) s.sent (length bytes) b.written (λ h. (last h).0) may.0 may.1) b
bounded_call Closes m may last b = record {
  limit = b.limit;
  taken = b.taken;
  early = b.early;
  order = b.order;
  syn_unacked = b.syn_unacked;
  shut = b.shut;
  flight = b.flight;
  written = b.written;
  sent = b.sent;
  lost = b.lost;
  timing = b.timing;
  interval = b.interval;
  wl1 = b.wl1;
  wl1_fits = b.wl1_fits;
  wl2 = b.wl2;
  edge = b.edge;
  reach = b.reach;
  congestion = b.congestion;
}

pub last_used : (m u : Sending) → SendsAs m u → FinIsLast m → FinIsLast u
last_used m u a last = λ h.
    let before = last (sym a.fin_sent ∙ h) in (
      a.closed before.0,
      omega (arith, before.1, a.sent),
      a.held before.0 ∙ before.2 ∙ (λ i. sym a.sent i - 1 - sym a.una i),
    )

-- any number of calls
pub used_is : (calls : List Call) (m : Tcb) → MayUse calls m → IsUsed m (used calls m)
used_is [] m may = used_same m
used_is (call ∷ calls) m may =
    used_on m (called call m) (used calls (called call m)) (used_call call m may.0) (used_is calls (called call m) may.1)

pub bounded_used : (calls : List Call) (m : Tcb) → MayUse calls m → FinIsLast m.sending → IsBounded m → IsBounded (used calls m)
bounded_used [] m may last b = b
bounded_used (call ∷ calls) m may last b =
    bounded_used calls (called call m) may.1 (last_used m.sending (called call m).sending (used_call call m may.0).sends last)
    (bounded_call call m may.0 last b)

pub shut_used : (m u : Sending) → SendsAs m u → IsShut m → IsShut u
shut_used m u a shut = record {
  edge = λ r o acked. let h : m.edge ≤ m.sent = shut.edge (omega (arith, r, a.rest)) (sym a.syn_acked ∙ o) (sym a.una ∙ acked ∙ a.sent) in omega (arith, h, a.edge, a.sent);
  waits = λ r o acked. let h : m.sent + 1 ≤ target m = shut.waits (omega (arith, r, a.rest)) (sym a.syn_acked ∙ o) (sym a.una ∙ acked ∙ a.sent) in omega (arith, h, a.target, a.sent);
}

pub probes_used : (m u : Tcb) → IsUsed m u → ProbesRightly m → ProbesRightly u
probes_used m u a right = record {
  all_acked = λ h. a.sends.una ∙ right.all_acked (sym a.probe ∙ h) ∙ sym a.sends.sent;
  shut = λ h. let k : m.sending.edge ≤ m.sending.sent = right.shut (sym a.probe ∙ h) in omega (arith, k, a.sends.edge, a.sends.sent);
  waits = λ h. let k : m.sending.sent + 1 ≤ target m.sending = right.waits (sym a.probe ∙ h) in omega (arith, k, a.sends.target, a.sends.sent);
  syn_acked = λ h. a.sends.syn_acked ∙ right.syn_acked (sym a.probe ∙ h);
}

-- what must be timed must be still
run_grows : (o : Bool) (una sent m u : ℕ) → m ≤ u → (not o || nat_lt una (max sent m)) ≡ true → (not o || nat_lt una (max sent u)) ≡ true
run_grows true una sent m u more h = grind arith
run_grows false una sent m u more h = refl

pub runs_used : (m u : Sending) → SendsAs m u → must_run m ≡ true → must_run u ≡ true
runs_used m u a h =
    (λ i. not (a.syn_acked i) || nat_lt (a.una i) (max (a.sent i) (target u))) ∙ run_grows m.syn_acked m.una m.sent (target m) (target u) a.target h
