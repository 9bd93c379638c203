-- Before its SYN is answered a live client sends its SYN and refuses wrong acknowledgements, as the client machine may.
use Rattle.std.proofs.Common.{◌≡◌, ◌⊎◌, inl, inr, ℕ, ◌<◌, ◌≤◌, ◌+◌, ◌-◌, ◌^◌, Bool, true, false, not, Option, None, Some, List, [], ◌∷◌, ◌++◌, length, length-drop, take, drop, max, min, refl, sym, ap, subst, arith, ◌∙◌}
use Rattle.std.specs.Prelude.{◌&&◌, ◌||◌, nat_lt, nat_le, if◌then◌else◌}
use Rattle.std.proofs.lemmas.Bool.{false≢true}
use Rattle.ft_io.specs.declared.Addr.{Addr}
use Rattle.seq_arith.specs.Packet.{Segment}
use Rattle.tcp_rules.proofs.Coming.{nothing_behind}
use Rattle.segment_codec.specs.Value.{said}
use Rattle.segment_codec.specs.declared.Head.{Head}
use Rattle.tcp_endpoint.specs.declared.states.StateName.TheVariants.{SynSent}
use Rattle.tcp_endpoint.specs.States.{has_begun}
use Rattle.tcp_endpoint.specs.ReceiveHalf.{Receiving, window, receive_edge, read_out}
use Rattle.tcp_rules.specs.Profile.{Profile}
use Rattle.tcp_rules.specs.Timing.{Timing}
use Rattle.tcp_endpoint.specs.SendHalf.{Sending, in_flight, with_unit_timed}
use Rattle.tcp_endpoint.specs.Tcb.{Tcb, connecting_measuring, listening, listening_measuring}
use Rattle.tcp_endpoint.specs.UserCalls.{closing, write_room}
use Rattle.tcp_endpoint.specs.Output.{head_at, opening_segment, retransmission_out, retransmitted_segment, reset_reply_out, reset_reply_segments, probe_out, with_probe, text_out, texts, with_text_sent, fin_out, with_fin_out, full_out, with_timed, after_full, is_ack_pending, leaving, is_timed, with_advertised, with_turn_ended, flushed}
use Rattle.ft_model.specs.Client.{Client, IsMove, new_client, is_new, is_opening, is_ended, is_live}
use Rattle.ft_model.specs.Client.ClientKind.{Live}
use Rattle.ft_model.specs.Client.Move.{Syn, Refuse}
use Rattle.ft_model.specs.declared.phase.Phase.{Phase}
use Rattle.ft_model.specs.declared.phase.Phase.TheVariants as phases
use Rattle.peer_client.specs.Live.{LiveState, new_live_in, given_up, supplied, closes, before_flush, sent_by_tcp, tcp_turned}
use Rattle.peer_client.specs.Refinement.{AreMoves, IsSame, Sends, Refuses, AnswersBy, Waits, IsWaiting}
use Rattle.peer_client.proofs.Spoken.{moves_on}
use Rattle.peer_client.proofs.TurnEnds.{read_receives, write_sends, room_none, timed_sends, timed_same}

-- at the start
pub starts : (profile : Profile) (local server : Addr) (isn : ℕ) (script : List ℕ) → length script ≤ 2 ^ 24
    → Waits (new_live_in profile local server isn script) (new_client Live server (record { ip = local.ip; port = local.port }) isn script)
unfolding connecting_measuring listening listening_measuring
starts profile local server isn script short = record {
  agrees = record {
    same = record { kind = refl; ip = refl; port = refl; server = refl; script = refl; isn = refl; local = refl; remote = refl };
    on_receipt = record {
      sisn = refl;
      limit = omega arith;
      count = refl;
      rest = refl;
      fin = refl;
      early = refl;
      behind = nothing_behind 0 (min 65535 (2 ^ 24)) false (omega arith);
      within = omega arith;
      queued = omega arith;
    };
    sends = record {
      sent = refl;
      acknowledged = refl;
      held = refl;
      order = omega arith;
      wl2 = omega arith;
      within = omega arith;
      script = short;
      text = λ k. omega arith;
      ended = λ k. absurd (false≢true k);
      shut = λ k. absurd (false≢true k);
      least = omega arith;
      most = omega arith;
    };
  };
  name = refl;
  phase = inl refl;
  due = λ k. refl;
  syn_acked = refl;
  closed = refl;
  nothing_sent = refl;
  nothing_taken = refl;
  unreset = refl;
  probe = refl;
  reset_reply = tt;
  edge = omega arith;
  reported = λ k. absurd (false≢true (ap is_opening k));
  outcome = refl;
}

-- before the flush
supplied_waits : (l : LiveState) (c : Client) → Waits l c → Waits (supplied (given_up l)) c
supplied_waits l c h =
    let n : ℕ = min l.seen (length l.tcb.receiving.unread) in
    let few : n ≤ length l.tcb.receiving.unread = omega arith in
    let none : n ≡ 0 = omega (arith, few, h.nothing_taken) in
    let u : Tcb = (given_up l).tcb in
    let room : ℕ = write_room u in
    let full : u.sending.closed ≡ true → room ≡ 0 = λ k. room_none u.sending.closed u.reset (65535 - length u.sending.held) k in
    let S : List ℕ → Type 0 = λ script.
    Sends (record u.sending { held = u.sending.held ++ take room (drop l.written script) }) (l.written + length (take room (drop l.written script))) c in
    let same : IsSame l c = h.agrees.same in
    let edge : receive_edge (read_out l.tcb.receiving n) ≡ receive_edge l.tcb.receiving = omega (arith, none) in
    record {
      agrees = record {
        same = record {
          kind = same.kind;
          ip = same.ip;
          port = same.port;
          server = same.server;
          script = same.script;
          isn = same.isn;
          local = same.local;
          remote = same.remote;
        };
        on_receipt = read_receives l.tcb.receiving c n few h.agrees.on_receipt;
        sends = subst S same.script (write_sends u.sending l.written room c full h.agrees.sends);
      };
      name = h.name;
      phase = h.phase;
      due = h.due;
      syn_acked = h.syn_acked;
      closed = h.closed;
      nothing_sent = h.nothing_sent;
      nothing_taken = omega (arith, h.nothing_taken, length-drop n l.tcb.receiving.unread, none);
      unreset = h.unreset;
      probe = h.probe;
      reset_reply = answers_still l (supplied (given_up l)) c l.tcb.reset_reply refl refl h.reset_reply;
      edge = omega (arith, h.edge, edge);
      reported = λ k. h.reported k ∙ sym edge;
      outcome = h.outcome;
    }
  where
    answers_still : (l m : LiveState) (c : Client) (reset_reply : Option Head) → l.local ≡ m.local → l.server ≡ m.server → AnswersBy l c reset_reply → AnswersBy m c reset_reply
    answers_still l m c None a b h = tt
    answers_still l m c (Some head) a b h = (
      h.0,
      record {
        src = h.1.src ∙ ap (λ (x : Addr). x.ip) a;
        dst = h.1.dst ∙ ap (λ (x : Addr). x.ip) b;
        sport = h.1.sport ∙ ap (λ (x : Addr). x.port) a;
        dport = h.1.dport ∙ ap (λ (x : Addr). x.port) b;
        seq = h.1.seq;
        wrong = h.1.wrong;
        ack = h.1.ack;
        flags = h.1.flags;
        window = h.1.window;
        mss = h.1.mss;
        timestamps = h.1.timestamps;
      },
    )

still_open : (l : LiveState) (c : Client) → Waits (supplied (given_up l)) c → before_flush l ≡ supplied (given_up l)
still_open l c h =
    let m : LiveState = supplied (given_up l) in
    let off : closes m ≡ false = ap (λ n. has_begun n && nat_le (length m.script) m.written) h.name in
    λ i. record m { tcb = if off i then closing m.tcb else m.tcb }

-- an endpoint in SYN-SENT, by what is due
abbrev syn_sent : Tcb → Bool → Option Head → Tcb
syn_sent u retransmission_due reset_reply = record u { name = SynSent; retransmission_due = retransmission_due; probe = false; reset_reply = reset_reply; sending = record u.sending { syn_acked = false } }

abbrev syn_if : Bool → Tcb → List Segment
syn_if retransmission_due u = if retransmission_due then opening_segment u ∷ [] else []

syn_sent_leaves : (u : Tcb) (retransmission_due : Bool) (reset_reply : Option Head)
    → leaving (syn_sent u retransmission_due reset_reply) ≡ reset_reply_segments reset_reply ++ syn_if retransmission_due (syn_sent u retransmission_due reset_reply)
unfolding leaving full_out reset_reply_out retransmission_out retransmitted_segment probe_out with_probe text_out texts with_text_sent fin_out is_ack_pending after_full with_timed with_fin_out
syn_sent_leaves u true None = refl
syn_sent_leaves u false None = refl
syn_sent_leaves u true (Some head) = refl
syn_sent_leaves u false (Some head) = refl

syn_sent_is : (l : LiveState) (c : Client) → Waits l c → l.tcb ≡ syn_sent l.tcb l.tcb.retransmission_due l.tcb.reset_reply
syn_sent_is l c h = λ i. record l.tcb { name = h.name i; probe = h.probe i; sending = record l.tcb.sending { syn_acked = h.syn_acked i } }

-- the refusal is a move
abbrev refused : Client → ℕ → Client
refused c edge = record c { edge = edge }

refuse_move : (l : LiveState) (c : Client) (head : Head) → Waits l c → is_opening c.phase ≡ true → Refuses l c head
    → IsMove c (record { head = said head; payload = [] }) c
refuse_move l c head h opening r =
    let none : max c.edge (length c.accepted + 0) ≡ c.edge = omega (arith, h.agrees.on_receipt.count, h.nothing_taken) in
    record {
      move = Refuse head.seq.0;
      window = 0;
      may = (λ i. is_live (h.agrees.same.kind i) && opening i && (nat_lt head.seq.0 (2 ^ 32) && not (r.wrong i))) ∙ in_range head.seq.0 r.seq;
      fits = refl;
      timestamps = None;
      carries = refl;
      segment_is = λ i. record {
        head = record {
          src = (r.src ∙ sym h.agrees.same.ip) i;
          dst = (r.dst ∙ ap (λ (a : Addr). a.ip) (sym h.agrees.same.server)) i;
          sport = (r.sport ∙ sym h.agrees.same.port) i;
          dport = (r.dport ∙ ap (λ (a : Addr). a.port) (sym h.agrees.same.server)) i;
          seq = head.seq.0;
          ack = r.ack i;
          flags = r.flags i;
          window = r.window i;
          mss = r.mss i;
          timestamps = r.timestamps i;
        };
        payload = [];
      };
      after_is = λ i. refused c (sym none i);
    }
  where
    in_range : (n : ℕ) → n < 2 ^ 32 → (true && true && (nat_lt n (2 ^ 32) && true)) ≡ true
    in_range n h = grind arith

-- the SYN is a move
abbrev opened_at : Client → ℕ → Client
opened_at c edge = record c { phase = phases.Opening; edge = edge }

may_begin : (phase : Phase) → (phase ≡ phases.New) ⊎ (phase ≡ phases.Opening) → (is_new phase || is_opening phase) ≡ true
may_begin phase (inl h) = ap (λ p. is_new p || is_opening p) h
may_begin phase (inr h) = ap (λ p. is_new p || is_opening p) h

syn_move : (l : LiveState) (c : Client) → Waits l c → IsMove c (opening_segment (syn_sent l.tcb true l.tcb.reset_reply)) (opened_at c (receive_edge l.tcb.receiving))
unfolding opening_segment head_at
syn_move l c h =
    let r : Receiving = l.tcb.receiving in
    let most : max c.edge (length c.accepted + window r) ≡ receive_edge r =
    omega (arith, h.agrees.on_receipt.count, h.agrees.on_receipt.within, h.agrees.on_receipt.queued, h.edge) in
    record {
      move = Syn (Some 1460);
      window = window r;
      may = λ i. (is_live (h.agrees.same.kind i) && true) && may_begin c.phase h.phase i && true;
      fits = below_is (window r) (omega (arith));
      timestamps = None;
      carries = refl;
      segment_is = λ i. record {
        head = record {
          src = (ap (λ (a : Addr). a.ip) h.agrees.same.local ∙ sym h.agrees.same.ip) i;
          dst = (ap (λ (a : Addr). a.ip) (h.agrees.same.remote ∙ sym h.agrees.same.server)) i;
          sport = (ap (λ (a : Addr). a.port) h.agrees.same.local ∙ sym h.agrees.same.port) i;
          dport = (ap (λ (a : Addr). a.port) (h.agrees.same.remote ∙ sym h.agrees.same.server)) i;
          seq = sym h.agrees.same.isn i;
          ack = 0;
          flags = 2;
          window = window r;
          mss = Some 1460;
          timestamps = None;
        };
        payload = [];
      };
      after_is = λ i. opened_at c (sym most i);
    }
  where
    below_is : (n : ℕ) → n < 2 ^ 16 → nat_lt n (2 ^ 16) ≡ true
    below_is n h = grind arith

-- what answers and the SYN, one after another
answered_moves : (l : LiveState) (c : Client) (reset_reply : Option Head) → Waits l c → AnswersBy l c reset_reply → AreMoves c (reset_reply_segments reset_reply) c
answered_moves l c None h a = refl
answered_moves l c (Some head) h a = (c, refuse_move l c head h a.0 a.1, refl)

opening_is : (phase : Phase) → (phase ≡ phases.New) ⊎ (phase ≡ phases.Opening) → (phase ≡ phases.New → ⊥) → phase ≡ phases.Opening
opening_is phase (inl h) never = absurd (never h)
opening_is phase (inr h) never = h

syn_moves : (l : LiveState) (c : Client) (retransmission_due : Bool) → l.tcb.retransmission_due ≡ retransmission_due → Waits l c
    → AreMoves c (syn_if retransmission_due (syn_sent l.tcb retransmission_due l.tcb.reset_reply)) (opened_at c (receive_edge l.tcb.receiving))
syn_moves l c true is h = (opened_at c (receive_edge l.tcb.receiving), syn_move l c h, refl)
syn_moves l c false is h =
    let phase : c.phase ≡ phases.Opening = opening_is c.phase h.phase (λ k. false≢true (sym is ∙ h.due k)) in
    λ i. record c { phase = sym phase i; edge = sym (h.reported phase) i }

-- what leaves
waits_leave : (m : LiveState) (c : Client) → Waits m c → AreMoves c (leaving m.tcb) (opened_at c (receive_edge m.tcb.receiving))
waits_leave m c h =
    let d : Client = opened_at c (receive_edge m.tcb.receiving) in
    let out : leaving m.tcb ≡ reset_reply_segments m.tcb.reset_reply ++ syn_if m.tcb.retransmission_due (syn_sent m.tcb m.tcb.retransmission_due m.tcb.reset_reply) =
    ap leaving (syn_sent_is m c h) ∙ syn_sent_leaves m.tcb m.tcb.retransmission_due m.tcb.reset_reply in
    subst (λ (xs : List Segment). AreMoves c xs d) (sym out)
    (moves_on c c d (reset_reply_segments m.tcb.reset_reply) (syn_if m.tcb.retransmission_due (syn_sent m.tcb m.tcb.retransmission_due m.tcb.reset_reply)) (answered_moves m c m.tcb.reset_reply h h.reset_reply)
    (syn_moves m c m.tcb.retransmission_due refl h))

-- and how it stands then
abbrev syn_timing : Tcb → Timing
syn_timing u = (with_unit_timed (in_flight u.sending) (record u.sending { syn_acked = false; sent = u.sending.sent + 0 })).timing

syn_sent_flushed : (u : Tcb) (retransmission_due : Bool) (reset_reply : Option Head)
    → flushed (syn_sent u retransmission_due reset_reply) ≡ with_turn_ended (record (syn_sent u retransmission_due reset_reply) { sending = record u.sending { syn_acked = false; sent = u.sending.sent + 0; timing = syn_timing u } })
unfolding flushed after_full with_timed with_fin_out with_text_sent with_probe
syn_sent_flushed u retransmission_due reset_reply = refl

turn_ended_waits : (m : LiveState) (c : Client) → Waits m c
    → IsWaiting (record m { tcb = with_turn_ended (record (syn_sent m.tcb m.tcb.retransmission_due m.tcb.reset_reply) { sending = record m.tcb.sending { syn_acked = false; sent = m.tcb.sending.sent + 0; timing = syn_timing m.tcb } }) })
    (opened_at c (receive_edge m.tcb.receiving))
unfolding with_turn_ended with_advertised
turn_ended_waits m c h =
    let d : Client = opened_at c (receive_edge m.tcb.receiving) in
    let q : Sending = record m.tcb.sending { syn_acked = false; sent = m.tcb.sending.sent + 0; timing = syn_timing m.tcb } in
    let t : Tcb = record (syn_sent m.tcb m.tcb.retransmission_due m.tcb.reset_reply) { sending = q } in
    let runs : Bool = is_timed t in
    let s = h.agrees.sends in
    let sends : Sends q m.written d = record {
      sent = omega (arith, s.sent);
      acknowledged = s.acknowledged;
      held = s.held;
      order = omega (arith, s.order);
      wl2 = omega (arith, s.wl2);
      within = s.within;
      script = s.script;
      text = λ k. omega (arith, s.text k);
      ended = λ k. absurd (false≢true (sym h.closed ∙ (s.ended k).0));
      shut = s.shut;
      least = s.least;
      most = s.most;
    } in
    record {
      waits = record {
        agrees = record {
          same = record {
            kind = h.agrees.same.kind;
            ip = h.agrees.same.ip;
            port = h.agrees.same.port;
            server = h.agrees.same.server;
            script = h.agrees.same.script;
            isn = h.agrees.same.isn ∙ sym (timed_same (λ (x : Sending). x.iss) (λ a b x. refl) runs q);
            local = h.agrees.same.local;
            remote = h.agrees.same.remote;
          };
          on_receipt = record {
            sisn = h.agrees.on_receipt.sisn;
            limit = h.agrees.on_receipt.limit;
            count = h.agrees.on_receipt.count;
            rest = h.agrees.on_receipt.rest;
            fin = unended c.phase h.phase ∙ h.agrees.on_receipt.fin;
            early = h.agrees.on_receipt.early;
            behind = h.agrees.on_receipt.behind;
            within = h.agrees.on_receipt.within;
            queued = h.agrees.on_receipt.queued;
          };
          sends = timed_sends runs q m.written d sends;
        };
        name = refl;
        phase = inr refl;
        due = λ k. absurd (false≢true (ap is_new k));
        syn_acked = timed_same (λ (x : Sending). x.syn_acked) (λ a b x. refl) runs q;
        closed = timed_same (λ (x : Sending). x.closed) (λ a b x. refl) runs q ∙ h.closed;
        nothing_sent = timed_same (λ (x : Sending). x.sent) (λ a b x. refl) runs q ∙ omega (arith, h.nothing_sent);
        nothing_taken = h.nothing_taken;
        unreset = h.unreset;
        probe = refl;
        reset_reply = tt;
        edge = omega arith;
        reported = λ k. refl;
        outcome = h.outcome;
      };
      phase = refl;
      retransmission_due = refl;
      reset_reply = refl;
    }
  where
    unended : (phase : Phase) → (phase ≡ phases.New) ⊎ (phase ≡ phases.Opening) → false ≡ is_ended phase
    unended phase (inl k) = ap is_ended (sym k)
    unended phase (inr k) = ap is_ended (sym k)

pub record Opened (l : LiveState) (c : Client) : Type 0 where
  pub later : Client
  pub moves : AreMoves c (sent_by_tcp l) later
  pub waiting : IsWaiting (tcp_turned l) later

pub waits_end : (l : LiveState) (c : Client) → Waits l c → Opened l c
waits_end l c h =
    let m : LiveState = supplied (given_up l) in
    let w : Waits m c = supplied_waits l c h in
    let d : Client = opened_at c (receive_edge m.tcb.receiving) in
    let stays : before_flush l ≡ m = still_open l c w in
    let after : flushed m.tcb ≡ with_turn_ended (record (syn_sent m.tcb m.tcb.retransmission_due m.tcb.reset_reply) { sending = record m.tcb.sending { syn_acked = false; sent = m.tcb.sending.sent + 0; timing = syn_timing m.tcb } }) =
    ap flushed (syn_sent_is m c w) ∙ syn_sent_flushed m.tcb m.tcb.retransmission_due m.tcb.reset_reply in
    record {
      later = d;
      moves = subst (λ (x : LiveState). AreMoves c (leaving x.tcb) d) (sym stays) (waits_leave m c w);
      waiting = subst (λ (x : LiveState). IsWaiting (record x { tcb = flushed x.tcb }) d) (sym stays)
          (subst (λ (t : Tcb). IsWaiting (record m { tcb = t }) d) (sym after) (turn_ended_waits m c w));
    }
