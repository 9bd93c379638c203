-- An endpoint in LISTEN stays as `listen` made it until a SYN comes, but for what its user has written.
use Rattle.std.proofs.Common.{◌≡◌, ℕ, ◌≤◌, ◌+◌, ◌^◌, Bool, true, false, not, List, [], ◌∷◌, ◌++◌, length, length-append, min, None, refl, sym, ap, subst, arith, ◌∙◌}
use Rattle.std.specs.Prelude.{◌&&◌, if◌then◌else◌}
use Rattle.std.proofs.lemmas.Bool.{false≢true}
use Rattle.ft_io.specs.declared.Addr.{Addr}
use Rattle.seq_arith.specs.Packet.{Segment, has_syn, has_rst, has_ack}
use Rattle.tcp_rules.proofs.Coming.{nothing_behind}
use Rattle.tcp_rules.proofs.Congested.{opens}
use Rattle.ft_model.specs.News.{News}
use Rattle.ft_model.specs.News.News.{Comes, Logged, Ticks, Begins}
use Rattle.ft_model.specs.Opening.{is_syn}
use Rattle.tcp_rules.specs.Timing.{with_tick}
use Rattle.tcp_endpoint.specs.declared.states.StateName.{StateName}
use Rattle.tcp_endpoint.specs.declared.states.StateName.TheVariants.{Closed, Listen}
use Rattle.tcp_endpoint.specs.States.{after_close, is_closed}
use Rattle.tcp_endpoint.specs.ReceiveHalf.{Receiving, receiving_up_to, read_out}
use Rattle.tcp_endpoint.specs.SendHalf.{Sending, sending_measuring, bytes_end}
use Rattle.tcp_endpoint.specs.Tcb.{Tcb, kept_limit, listening, listening_measuring}
use Rattle.tcp_endpoint.specs.Arrival.{received, received_in, in_listen, begun, with_reset_reply}
use Rattle.tcp_endpoint.specs.Output.{with_advertised, with_turn_ended, with_fin_out, with_probe, with_text_sent, after_full, flushed, with_timed}
use Rattle.tcp_endpoint.specs.UserCalls.{after_tick, timer_ticked, waited}
use Rattle.endpoint_laws.specs.Laws.{Bounds, IsBounded}
use Rattle.endpoint_laws.specs.Turn.{Call, MayCall, MayUse, arrived, called, used, before_flush, turned}
use Rattle.endpoint_laws.specs.Turn.Call.{Reads, Writes, Closes}
use Rattle.endpoint_laws.specs.PassiveOpen.{IsListening, brings_syn}
use Rattle.endpoint_laws.proofs.Timings.{initial_keeps}

-- a passive open listens
pub listens_at_listen : (local : Addr) (iss limit : ℕ) → IsListening iss limit (listening local iss limit)
unfolding listening
listens_at_listen local iss limit = record {
  name = refl;
  receiving = refl;
  sending = refl;
  written = omega arith;
  ack_pending = refl;
  retransmission_due = refl;
  probe = refl;
  reset_reply = refl;
}

pub listens_at_listen_measuring : (measures : Bool) (local : Addr) (iss limit : ℕ) → IsListening iss limit (listening_measuring measures local iss limit)
unfolding listening_measuring listening
listens_at_listen_measuring measures local iss limit = record {
  name = refl;
  receiving = refl;
  sending = refl;
  written = omega arith;
  ack_pending = refl;
  retransmission_due = refl;
  probe = refl;
  reset_reply = refl;
}

-- an endpoint that listens is within the bounds
unsent_bounds : (measures : Bool) (iss limit : ℕ) (held : List ℕ) → limit ≤ 2 ^ 24 → length held ≤ 2 ^ 24
    → Bounds (receiving_up_to (kept_limit limit)) (record (sending_measuring measures iss) { held = held })
unsent_bounds measures iss limit held small written = record {
  limit = omega (arith, small);
  taken = omega arith;
  early = nothing_behind 0 (min 65535 (kept_limit limit)) false (omega arith);
  order = omega arith;
  syn_unacked = λ h. refl;
  shut = λ h. refl;
  flight = omega arith;
  written = omega (arith, written);
  sent = omega arith;
  wl1 = λ h. absurd (false≢true h);
  wl1_fits = omega arith;
  wl2 = omega arith;
  edge = omega arith;
  reach = omega arith;
  congestion = opens measures 536 (omega arith);
  lost = omega arith;
  timing = initial_keeps measures;
  interval = (initial_keeps measures).base;
}

pub bounded_listening : (iss limit : ℕ) (e : Tcb) → limit ≤ 2 ^ 24 → IsListening iss limit e → IsBounded e
bounded_listening iss limit e small l =
    let P : Receiving → Type 0 = λ r. Bounds r e.sending in
    let Q : Sending → Type 0 = λ s. Bounds (receiving_up_to (kept_limit limit)) s in
    subst P (sym l.receiving) (subst Q (sym l.sending) (unsent_bounds e.sending.timing.measures iss limit e.sending.held small l.written))

-- the same within a turn, where a RST may be due
pub record Listens (local : Addr) (iss limit : ℕ) (u : Tcb) : Type 0 where
  pub local_is : u.local ≡ local
  pub name : u.name ≡ Listen
  pub receiving : u.receiving ≡ receiving_up_to (kept_limit limit)
  pub sending : u.sending ≡ record (sending_measuring u.sending.timing.measures iss) { held = u.sending.held }
  pub written : length u.sending.held ≤ 2 ^ 24
  pub probe : u.probe ≡ false

listens_between : (iss limit : ℕ) (e : Tcb) → IsListening iss limit e → Listens e.local iss limit e
listens_between iss limit e l = record { local_is = refl; name = l.name; receiving = l.receiving; sending = l.sending; written = l.written; probe = l.probe }

-- a segment that is no SYN
listens_by : (local : Addr) (iss limit : ℕ) (syn ack rst : Bool) (refused syn_acked e : Tcb) → (syn && not ack && not rst) ≡ false → Listens local iss limit refused
    → Listens local iss limit e → Listens local iss limit (if rst then e else (if ack then refused else (if syn then syn_acked else e)))
listens_by local iss limit syn ack true refused syn_acked e none r l = l
listens_by local iss limit syn true false refused syn_acked e none r l = r
listens_by local iss limit true false false refused syn_acked e none r l = absurd (false≢true (sym none))
listens_by local iss limit false false false refused syn_acked e none r l = l

listens_refusing : (local : Addr) (iss limit : ℕ) (e : Tcb) (p : Segment) → Listens local iss limit e → Listens local iss limit (with_reset_reply e p)
unfolding with_reset_reply
listens_refusing local iss limit e p l =
    record { local_is = l.local_is; name = l.name; receiving = l.receiving; sending = l.sending; written = l.written; probe = l.probe }

listens_in : (local : Addr) (iss limit : ℕ) (e : Tcb) (p : Segment) → (has_syn p && not (has_ack p) && not (has_rst p)) ≡ false → Listens local iss limit e
    → Listens local iss limit (in_listen e p)
unfolding in_listen
listens_in local iss limit e p none l =
    listens_by local iss limit (has_syn p) (has_ack p) (has_rst p) (with_reset_reply e p) (begun e p) e none (listens_refusing local iss limit e p l) l

-- a tick, where the timer doesn't run
pub listening_is : (iss limit : ℕ) (e : Tcb) → IsListening iss limit e
    → e ≡ record e {
      name = Listen;
      receiving = receiving_up_to (kept_limit limit);
      sending = record (sending_measuring e.sending.timing.measures iss) { held = e.sending.held };
      ack_pending = false;
      retransmission_due = false;
      probe = false;
      reset_reply = None;
    }
listening_is iss limit e l = λ i.
    record e { name = l.name i; receiving = l.receiving i; sending = l.sending i; ack_pending = l.ack_pending i; retransmission_due = l.retransmission_due i; probe = l.probe i; reset_reply = l.reset_reply i }

listens_ticked : (iss limit : ℕ) (e : Tcb) → IsListening iss limit e → Listens e.local iss limit (after_tick e)
unfolding after_tick timer_ticked waited with_tick
listens_ticked iss limit e l =
    let P : Tcb → Type 0 = λ t. Listens e.local iss limit (after_tick t) in
    subst P (sym (listening_is iss limit e l)) (record { local_is = refl; name = refl; receiving = refl; sending = refl; written = l.written; probe = refl })

-- what comes
pub listens_arrived : (iss limit : ℕ) (news : News) (e : Tcb) → brings_syn news ≡ false → IsListening iss limit e → Listens e.local iss limit (arrived news e)
unfolding received
listens_arrived iss limit (Comes segment) e none l =
    let P : StateName → Type 0 = λ n. Listens e.local iss limit (received_in n e segment) in
    subst P (sym l.name) (listens_in e.local iss limit e segment none (listens_between iss limit e l))
listens_arrived iss limit (Logged kept) e none l = listens_between iss limit e l
listens_arrived iss limit Ticks e none l = listens_ticked iss limit e l
listens_arrived iss limit Begins e none l = listens_between iss limit e l

-- a user who closes leaves LISTEN for good
closed_by_call : (call : Call) (m : Tcb) → m.name ≡ Closed → (called call m).name ≡ Closed
closed_by_call (Reads n) m h = h
closed_by_call (Writes bytes) m h = h
closed_by_call Closes m h = ap after_close h

-- CLOSED stays so whatever the user does
pub closed_by_calls : (calls : List Call) (m : Tcb) → m.name ≡ Closed → (used calls m).name ≡ Closed
closed_by_calls [] m h = h
closed_by_calls (call ∷ calls) m h = closed_by_calls calls (called call m) (closed_by_call call m h)

not_both : (name : StateName) → name ≡ Closed → name ≡ Listen → ⊥
not_both name closed listens = false≢true (ap is_closed (sym listens ∙ closed))

-- the other calls read nothing, and add to what is written
pub read_none : (limit n : ℕ) → n ≤ length (receiving_up_to limit).unread → read_out (receiving_up_to limit) n ≡ receiving_up_to limit
read_none limit n none =
    let nothing : n ≡ 0 = omega (arith, none) in ap (read_out (receiving_up_to limit)) nothing

listens_called : (local : Addr) (iss limit : ℕ) (call : Call) (calls : List Call) (m : Tcb) → MayCall call m → (used calls (called call m)).name ≡ Listen
    → Listens local iss limit m → Listens local iss limit (called call m)
listens_called local iss limit (Reads n) calls m may still l =
    let P : Receiving → Type 0 = λ r. n ≤ length r.unread in
    record {
      local_is = l.local_is;
      name = l.name;
      receiving = ap (λ r. read_out r n) l.receiving ∙ read_none (kept_limit limit) n (subst P l.receiving may);
      sending = l.sending;
      written = l.written;
      probe = l.probe;
    }
listens_called local iss limit (Writes bytes) calls m may still l =
    let P : Sending → Type 0 = λ s. bytes_end s + length bytes ≤ 2 ^ 24 in
    let few : bytes_end (record (sending_measuring m.sending.timing.measures iss) { held = m.sending.held }) + length bytes ≤ 2 ^ 24 = subst P l.sending may.1 in
    record {
      local_is = l.local_is;
      name = l.name;
      receiving = l.receiving;
      sending = ap (λ (s : Sending). record s { held = m.sending.held ++ bytes }) l.sending;
      written = omega (arith, few, length-append m.sending.held bytes);
      probe = l.probe;
    }
listens_called local iss limit Closes calls m may still l =
    absurd (not_both (used calls (called Closes m)).name (closed_by_calls calls (called Closes m) (ap after_close l.name)) still)

listens_used : (local : Addr) (iss limit : ℕ) (calls : List Call) (m : Tcb) → MayUse calls m → (used calls m).name ≡ Listen → Listens local iss limit m
    → Listens local iss limit (used calls m)
listens_used local iss limit [] m may still l = l
listens_used local iss limit (call ∷ calls) m may still l =
    listens_used local iss limit calls (called call m) may.1 still (listens_called local iss limit call calls m may.0 still l)

-- the flush sends that RST and leaves the rest
listens_flushed : (local : Addr) (iss limit : ℕ) (u : Tcb) → Listens local iss limit u → IsListening iss limit (flushed u) × ((flushed u).local ≡ local)
unfolding flushed with_turn_ended with_advertised after_full with_timed with_fin_out with_text_sent with_probe
listens_flushed local iss limit u l =
    let still : Tcb = record u { name = Listen; receiving = receiving_up_to (kept_limit limit); sending = record (sending_measuring u.sending.timing.measures iss) { held = u.sending.held }; probe = false } in
    let same : u ≡ still = λ i. record u { name = l.name i; receiving = l.receiving i; sending = l.sending i; probe = l.probe i } in
    let P : Tcb → Type 0 = λ t. IsListening iss limit (flushed t) in (
      subst P (sym same) (record {
        name = refl;
        receiving = refl;
        sending = refl;
        written = l.written;
        ack_pending = refl;
        retransmission_due = refl;
        probe = refl;
        reset_reply = refl;
      }),
      l.local_is,
    )

pub listening_law : (iss limit : ℕ) (news : News) (calls : List Call) (e : Tcb) → IsListening iss limit e → brings_syn news ≡ false → MayUse calls (arrived news e)
    → (before_flush news calls e).name ≡ Listen → IsListening iss limit (turned news calls e) × ((turned news calls e).local ≡ e.local)
listening_law iss limit news calls e l none may still =
    listens_flushed e.local iss limit (used calls (arrived news e))
    (listens_used e.local iss limit calls (arrived news e) may still (listens_arrived iss limit news e none l))

-- what a SYN is
off_one : (rst : Bool) → (false && not rst) ≡ true → false ≡ true
off_one rst h = h

off_two : (ack rst : Bool) → (false && not ack && not rst) ≡ true → false ≡ true
off_two ack rst h = h

syn_facts : (syn ack rst : Bool) → (syn && not ack && not rst) ≡ true → (syn ≡ true) × (ack ≡ false) × (rst ≡ false)
syn_facts true false false h = (refl, refl, refl)
syn_facts true false true h = absurd (false≢true h)
syn_facts true true rst h = absurd (false≢true (off_one rst h))
syn_facts false ack rst h = absurd (false≢true (off_two ack rst h))

-- LISTEN takes the SYN
in_listen_by : (e : Tcb) (syn : Segment) → is_syn syn ≡ true → in_listen e syn ≡ begun e syn
unfolding in_listen
in_listen_by e syn is =
    let f = syn_facts (has_syn syn) (has_ack syn) (has_rst syn) is in
    λ i. if f.2 i then e else (if f.1 i then with_reset_reply e syn else (if f.0 i then begun e syn else e))

pub begun_by : (e : Tcb) (syn : Segment) → e.name ≡ Listen → is_syn syn ≡ true → received e syn ≡ begun e syn
unfolding received
begun_by e syn name is = ap (λ n. received_in n e syn) name ∙ in_listen_by e syn is
