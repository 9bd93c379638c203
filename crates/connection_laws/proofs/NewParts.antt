-- The start of a new connection: its parts stand at the point to which the SYN leads.
use Rattle.tcp_rules.specs.declared.timestamping.Timestamping.{Timestamping}
use Rattle.std.proofs.Common.{◌≡◌, ℕ, ◌≤◌, ◌+◌, ◌-◌, ◌^◌, inl, Bool, false, List, [], ◌∷◌, ◌++◌, length, drop, take, max, refl, sym, ap, subst, arith, ◌∙◌}
use Rattle.std.specs.Prelude.{◌&&◌, ◌||◌, if◌then◌else◌}
use Rattle.std.proofs.lemmas.Bool.{false≢true}
use Rattle.ft_io.specs.declared.Addr.{Addr}
use Rattle.seq_arith.specs.Message.{Numbers}
use Rattle.seq_arith.specs.Packet.{Segment}
use Rattle.server_trait.specs.Service.{Machine}
use Rattle.tcp_rules.specs.Profile.{Profile}
use Rattle.ft_model.specs.News.News.{Begins}
use Rattle.ft_model.specs.Opening.{point_opened}
use Rattle.ft_model.specs.PendingAck.{is_delayed, is_ack_pending}
use Rattle.ft_model.specs.Point.{Point, released, made}
use Rattle.ft_model.specs.Segments.{segments_of, syn_ack, bare_segment, or_bare}
use Rattle.ft_model.specs.Sending.{acknowledged_after}
use Rattle.ft_model.specs.Taken.{taken_after, fin_after}
use Rattle.ft_model.proofs.Services.{prefix_length}
use Rattle.ft_model.proofs.Settled.{settled}
use Rattle.ft_model.proofs.TurnReports.{settled_reads}
use Rattle.ft_model.proofs.Turns.{all_is_sent}
use Rattle.tcp_endpoint.specs.Arrival.{received, begun}
use Rattle.tcp_endpoint.specs.Output.{full_out, leaving}
use Rattle.tcp_endpoint.specs.States.{has_begun, is_closed}
use Rattle.tcp_endpoint.specs.Tcb.{Tcb, listening, listening_measuring}
use Rattle.tcp_endpoint.specs.UserCalls.{write_room, is_ended}
use Rattle.endpoint_laws.specs.Laws.{IsBounded}
use Rattle.endpoint_laws.specs.Turn.{Call, used}
use Rattle.endpoint_laws.proofs.Bounding.{bounded_at_listen_measuring, bounded_in_listen}
use Rattle.endpoint_laws.proofs.Calls.{FinIsLast}
use Rattle.endpoint_laws.proofs.EndingLaw.{flushed_name}
use Rattle.endpoint_laws.proofs.Listening.{begun_by}
use Rattle.north_wrap.specs.declared.read_record.ReadRecord.{ReadRecord}
use Rattle.north_wrap.specs.NorthState.{NorthState, lengths_of, Turns as NorthTurns}
use Rattle.north_wrap.specs.Refinement.{NorthStands, SocketStands, NorthTurn, given_more, given_text, off_socket}
use Rattle.north_wrap.proofs.Logged.{answered_front}
use Rattle.north_wrap.proofs.WholeTurn.{whole_turn}
use Rattle.connection_laws.specs.Traffic.{passed, tcp_out, needs_ack_besides}
use Rattle.connection_laws.specs.FirstSyn.{MayOpen, BeginsInside, opened_syn, listens_with}
use Rattle.connection_laws.specs.OutputFeed.{tcp_reader, tcp_writer, Feeds, north_calls}
use Rattle.connection_laws.specs.Parts.{PartsTurn}
use Rattle.connection_laws.proofs.Delaying.{waits_segment}
use Rattle.connection_laws.proofs.FirstSyn.{begins_inside}
use Rattle.connection_laws.proofs.Fed.{reading, north_calls_feed}
use Rattle.connection_laws.proofs.Joining.{socket_laws, on_receipt, socket_stands}
use Rattle.connection_laws.proofs.Together.{goes}
use Rattle.endpoint_laws.proofs.SegmentsLaw.{begun_open}

-- TCP once its SYN has come: nothing is read, written or sent
record IsFreshTcp (m : Tcb) : Type 0 where
  read : m.receiving.read ≡ 0
  unread : m.receiving.unread ≡ []
  fin : m.receiving.fin ≡ false
  held : m.sending.held ≡ []
  una : m.sending.una ≡ 0
  fin_sent : m.sending.fin_sent ≡ false
  closed : m.sending.closed ≡ false
  kept : m.reset ≡ false

fresh_tcp : (measures : Bool) (local : Addr) (numbers : Numbers) → IsFreshTcp (received (listens_with measures local numbers) (opened_syn local numbers))
unfolding begun listening_measuring listening
fresh_tcp measures local numbers =
    subst IsFreshTcp (sym (begun_by (listens_with measures local numbers) (opened_syn local numbers) refl refl))
    (record { read = refl; unread = refl; fin = refl; held = refl; una = refl; fin_sent = refl; closed = refl; kept = refl })

fed_none : {S : Type 0} (service : Machine S) (q : Point) (m : Tcb) → IsFreshTcp m → Feeds service 0 q 0 m
fed_none service q m f = record {
  holds = f.held ∙ sym (λ j. drop (f.una j + 0) (take 0 []));
  until = λ j. (if f.fin_sent j then m.sending.sent - 1 else f.una j + length (f.held j)) + 0;
  low = omega arith;
  queued = subst (λ (l : List ℕ). length l ≤ 65535) (sym f.held) (omega arith);
}

listens : (measures : Bool) (local : Addr) (numbers : Numbers) → IsBounded (received (listens_with measures local numbers) (opened_syn local numbers))
unfolding listening_measuring listening
listens measures local numbers =
    bounded_in_listen (listens_with measures local numbers) (opened_syn local numbers) refl refl (bounded_at_listen_measuring measures local numbers.sisn (2 ^ 24) (omega arith))

alone_or : (ack_pending : Bool) (bare x : Segment) (xs ys : List Segment) → xs ≡ ys → ys ≡ x ∷ [] → or_bare ack_pending bare (xs ++ []) ≡ ys
alone_or ack_pending bare x xs ys a b = (λ j. or_bare ack_pending bare ((a ∙ b) j ++ [])) ∙ sym b

at_none : (n : ℕ) → n ≡ 0 → max 0 0 ≡ n + 0
at_none n h = omega (arith, h)

pub starts_together : {S : Type 0} (service : Machine S) (profile : Profile) (timestamping : Timestamping) (boot : ℕ) (local : Addr) (numbers : Numbers) (old new : NorthState S) (reads : List ReadRecord) (t : Tcb) → MayOpen numbers
    → NorthStands service (point_opened profile timestamping numbers) 0 old → old.shut ≡ false
    → NorthTurns service.after tcp_reader tcp_writer 0 old (received (listens_with profile.measures local numbers) (opened_syn local numbers)) reads new t → new.run.made ≤ 2 ^ 24
    → PartsTurn service local boot 0 numbers.sisn 0 Begins (point_opened profile timestamping numbers) (lengths_of reads) new t
unfolding taken_after fin_after acknowledged_after
starts_together service profile timestamping boot local numbers old new reads t o st open_still turns few =
    let ks : List ℕ = lengths_of reads in
    let p : Point = point_opened profile timestamping numbers in
    let q : Point = settled service Begins p ks in
    let b : Point = reading [] q in
    let m : Tcb = received (listens_with profile.measures local numbers) (opened_syn local numbers) in
    let f : IsFreshTcp m = fresh_tcp profile.measures local numbers in
    let north : NorthStands service b 0 old = on_receipt service Begins p b 0 old refl refl refl refl st in
    let socket : SocketStands b old m.receiving.unread m.receiving.fin (is_ended m) =
    socket_stands b old m (at_none m.receiving.read f.read) (ap (λ n. drop (n + 0) []) f.read ∙ sym f.unread) (sym f.fin) f.kept (f.closed ∙ sym open_still) in
    let turn : NorthTurn service tcp_reader tcp_writer b 0 old m reads new t =
    whole_turn service tcp_reader tcp_writer b 0 0 old m reads new t socket_laws north socket refl (omega arith) turns in
    let most : released service q ≤ 2 ^ 24 =
    (let less : released service q ≤ made service q = prefix_length _ _ (answered_front service q).output in omega (arith, less, turn.stands.run.made, few)) in
    let last : FinIsLast m.sending = λ h. absurd (false≢true (sym f.fin_sent ∙ h)) in
    let by = north_calls_feed service 0 numbers.sisn 0 [] q old new reads m t (record {
      fed = fed_none service q m f;
      bounds = listens profile.measures local numbers;
      last = last;
      kept = f.kept;
      shut = f.closed ∙ sym open_still;
      taken_is = sym (λ j. f.read j + length (f.unread j) + 0);
      short = most;
    }) refl north turn in
    let calls : List Call = north_calls (given_text service b (write_room m) 0) turn.closes (off_socket (length old.rest) ks) in
    let t1 : Tcb = used calls m in
    let at_once : tcp_out Begins p q t1 ≡ leaving t1 =
    λ j. if waits_segment (is_delayed Begins p q) Begins p q refl refl j then full_out t1 else leaving t1 in
    let l = goes service local boot Begins p ks turn.makes in
    let begins : BeginsInside service profile timestamping local numbers q calls = begins_inside service profile timestamping boot local numbers q calls _ o by.1.may l in
    subst (λ x. PartsTurn service local boot 0 numbers.sisn 0 Begins p ks new x) (sym by.0)
    (record {
      after = q;
      given = 0 + given_more service b (write_room m) 0;
      lengths = refl;
      goes = l;
      rest = record {
        stand = record {
          tcp = inl (record { stands = begins.stands; named = begins.named });
          north = turn.stands;
          feeds = by.1.feeds;
          unreset = refl;
          kept = by.1.kept;
          shut = by.1.shut;
          all_sent = all_is_sent service local boot Begins p q _ l;
        };
        no_read = settled_reads service local boot Begins p q _ l;
        exact = by.1.exact;
        all_or_full = by.1.all_or_full;
      };
      segments = alone_or (needs_ack_besides service Begins p q || (is_closed (used calls m).name && is_ack_pending service Begins p q)) (bare_segment local q) (syn_ack local q)
          (passed 0 q (tcp_out Begins p q t1)) (segments_of service local Begins p q) (ap (passed 0 q) at_once ∙ begins.segments) begins.alone;
      closed = λ h. absurd (false≢true (sym (begun_open (used calls m).name (ap has_begun (sym (flushed_name (used calls m))) ∙ begins.stands.begun)) ∙ h));
    })
