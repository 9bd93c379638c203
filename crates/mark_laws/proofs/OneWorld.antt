-- A moment with marks is determined by the event and by the world before it, and what was sent stays.
use Rattle.std.proofs.Common.{◌≡◌, ℕ, Result, Ok, Err, refl, sym, ap, ap₂, ◌∙◌, subst, Option, Some, None, List, ◌++◌, map}
use Rattle.seq_arith.specs.Packet.{Segment}
use Rattle.seq_arith.specs.PacketGrammar as segments
use Rattle.seq_arith.specs.Damage.{flipped}
use Rattle.seq_arith.specs.declared.BadPacket.{BadPacket}
use Rattle.ft_io.specs.declared.Key.{Key}
use Rattle.tcp_rules.specs.Profile.{grammar_of}
use Rattle.ft_model.specs.Client.{Client, Move}
use Rattle.ft_model.specs.Client.Move.{Syn, Text, Fin as Fin_move, Acknowledge, Rst}
use Rattle.ft_model.specs.Client.{move_asked}
use Rattle.ft_model.specs.Legal.{IsScripted}
use Rattle.ft_model.specs.Network.{Packet, destination_of}
use Rattle.ft_model.specs.Network.Packet.{To_server, To_client, To_logger, From_logger}
use Rattle.ft_model.specs.Node.Input.{Packet_comes, Message_comes, Tick_comes}
use Rattle.ft_model.specs.World.{World, ClientReceives, ClientReads, Happens, client_at, segment_or_noise}
use Rattle.ft_model.specs.declared.event.Event.{Event}
use Rattle.ft_model.specs.declared.event.Event.TheVariants.{Boot, Crash, Tick, Deliver, Flip, Begin, Send, Fin, Ack, Reset, Stop}
use Rattle.ft_model.proofs.Lists.{some_is}
use Rattle.mark_laws.specs.MarkedLog.{AnyMessage, after_mark, after_message}
use Rattle.mark_laws.specs.MarkedLog.AnyMessage.{About_mark, Of_log}
use Rattle.mark_laws.specs.MarkedNode.{Marker, MarkedNode, MarkedInput, booted_to_mark}
use Rattle.mark_laws.specs.MarkedNode.MarkedInput.{Plain_comes, Mark_comes}
use Rattle.mark_laws.specs.MarkedWorld.{Parcel, MarkedWorld, MarkedHappens, Elsewhere, ParcelComes, ComesAs, LogReceives, LogReads, ServerTurn, ServerMoves, usual, seen, parcel_of, bytes_of, said_by, input_of, bytes_reported, lengths_reported}
use Rattle.mark_laws.specs.MarkedWorld.Parcel.{Usual, Mark_sent, Mark_answered}
use Rattle.mark_laws.proofs.OneTurn.{marked_turn_once}
use Rattle.mark_laws.proofs.Strip.{usual_of}

module _ {State : Type 0} (by : Marker State) where
  server_by : (input : MarkedInput) (o : Option MarkedNode) (before w x : MarkedWorld) (s t : List Parcel) → ServerTurn by input o before s w → ServerTurn by input o before t x → w ≡ x
  server_by input None before w x s t p q = p.1 ∙ (ap (λ (ps : List Parcel). record before { parcels = before.parcels ++ ps }) (p.0 ∙ sym q.0) ∙ sym q.1)
  server_by input (Some node) before w x s t p q =
      let once = marked_turn_once by (bytes_reported before.log.log input) (lengths_reported before.log.log input) node p.0 q.0 input p.1 q.1 p.2 q.2 in
      let sent : s ≡ t = p.3 ∙ (ap (map parcel_of) once.0 ∙ sym q.3) in
      p.4 ∙ (ap₂ (λ (n : MarkedNode) (ps : List Parcel). record before { node = Some n; parcels = before.parcels ++ ps }) once.1 sent ∙ sym q.4)

  server_once : (input : MarkedInput) (before w x : MarkedWorld) (s t : List Parcel) → ServerMoves by input before s w → ServerMoves by input before t x → w ≡ x
  server_once input before w x s t p q = server_by input before.node before w x s t p q

  log_once : (message : AnyMessage) (before w x : MarkedWorld) (s t : List Parcel) → LogReceives message before s w → LogReceives message before t x → w ≡ x
  log_once (Of_log message) before w x s t p q =
      p.1 ∙ (ap (λ (ps : List Parcel). record before { log = after_message before.log message; parcels = before.parcels ++ ps }) (p.0 ∙ sym q.0) ∙ sym q.1)
  log_once (About_mark message) before w x s t p q =
      p.1 ∙ (ap (λ (ps : List Parcel). record before { log = after_mark before.log message; parcels = before.parcels ++ ps }) (p.0 ∙ sym q.0) ∙ sym q.1)

  reads_once : (o : Option AnyMessage) (before w x : MarkedWorld) (s t : List Parcel) → LogReads o before s w → LogReads o before t x → w ≡ x
  reads_once (Some message) before w x s t p q = log_once message before w x s t p q
  reads_once None before w x s t p q = p.1 ∙ (ap (λ (ps : List Parcel). record before { parcels = before.parcels ++ ps }) (p.0 ∙ sym q.0) ∙ sym q.1)

  -- what only clients do, by their clients and what is sent
  elsewhere_once : (Goes : World → List Packet → World → Type 0) (before w x : MarkedWorld) (s t : List Parcel) (p : Elsewhere Goes before s w) (q : Elsewhere Goes before t x) → w.clients ≡ x.clients → p.0 ≡ q.0 → w ≡ x
  elsewhere_once Goes before w x s t p q clients packets =
      p.3
      ∙ (ap₂ (λ (cs : List Client) (ps : List Parcel). record before { clients = cs; parcels = before.parcels ++ ps }) clients (p.1 ∙ (ap (map Usual) packets ∙ sym q.1)) ∙ sym q.3)

  receives_once : (key : Key) (segment : Segment) (before w x : MarkedWorld) (s t : List Parcel) → Elsewhere (ClientReceives key segment) before s w → Elsewhere (ClientReceives key segment) before t x → w ≡ x
  receives_once key segment before w x s t p q =
      elsewhere_once (ClientReceives key segment) before w x s t p q (ap (λ (v : World). v.clients) p.2.1 ∙ sym (ap (λ (v : World). v.clients) q.2.1)) (p.2.0 ∙ sym q.2.0)

  client_reads_once : (key : Key) (r : Result Segment BadPacket) (before w x : MarkedWorld) (s t : List Parcel) → Elsewhere (ClientReads key r) before s w → Elsewhere (ClientReads key r) before t x → w ≡ x
  client_reads_once key (Ok segment) before w x s t p q = receives_once key segment before w x s t p q
  client_reads_once key (Err why) before w x s t p q =
      elsewhere_once (ClientReads key (Err why)) before w x s t p q (ap (λ (v : World). v.clients) p.2.1 ∙ sym (ap (λ (v : World). v.clients) q.2.1)) (p.2.0 ∙ sym q.2.0)

  comes_once : (parcel : Parcel) (before w x : MarkedWorld) (s t : List Parcel) → ParcelComes by parcel before s w → ParcelComes by parcel before t x → w ≡ x
  comes_once (Usual (To_server segment)) before w x s t p q = server_once (Plain_comes (Packet_comes segment)) before w x s t p q
  comes_once (Usual (To_client segment)) before w x s t p q = receives_once (destination_of segment) segment before w x s t p q
  comes_once (Usual (To_logger message)) before w x s t p q = log_once (Of_log message) before w x s t p q
  comes_once (Usual (From_logger message)) before w x s t p q = server_once (Plain_comes (Message_comes message)) before w x s t p q
  comes_once (Mark_sent message) before w x s t p q = log_once (About_mark message) before w x s t p q
  comes_once (Mark_answered message) before w x s t p q = server_once (Mark_comes message) before w x s t p q

  changed_once : (parcel : Parcel) (bytes : List ℕ) (before w x : MarkedWorld) (s t : List Parcel) → ComesAs by parcel bytes before s w → ComesAs by parcel bytes before t x → w ≡ x
  changed_once (Usual (To_server segment)) bytes before w x s t p q = server_once (Plain_comes (segment_or_noise (segments.reading bytes))) before w x s t p q
  changed_once (Usual (To_client segment)) bytes before w x s t p q = client_reads_once (destination_of segment) (segments.reading bytes) before w x s t p q
  changed_once (Usual (To_logger message)) bytes before w x s t p q = reads_once (said_by (grammar_of before.profile) bytes) before w x s t p q
  changed_once (Usual (From_logger message)) bytes before w x s t p q = server_once (input_of (said_by (grammar_of before.profile) bytes)) before w x s t p q
  changed_once (Mark_sent message) bytes before w x s t p q = reads_once (said_by (grammar_of before.profile) bytes) before w x s t p q
  changed_once (Mark_answered message) bytes before w x s t p q = server_once (input_of (said_by (grammar_of before.profile) bytes)) before w x s t p q

  by_script : (event : Event) (number : ℕ) (move : Move) (before w x : MarkedWorld) (s t : List Parcel) → move_asked event ≡ Some (number, move)
      → (p : Elsewhere (λ v. Happens by.service v event) before s w) → (q : Elsewhere (λ v. Happens by.service v event) before t x)
      → (m : (c : Client) × (client_at before.clients number ≡ Some c))
      → IsScripted (seen before) event (usual s) (seen w) → IsScripted (seen before) event (usual t) (seen x) → w ≡ x
  by_script event number move before w x s t asks p q m a b =
      let one = a number move m.0 asks m.1 in
      let other = b number move m.0 asks m.1 in
      elsewhere_once (λ v. Happens by.service v event) before w x s t p q (one.1 ∙ sym other.1)
      (sym (usual_of p.0) ∙ (sym (ap usual p.1) ∙ (one.0 ∙ (sym other.0 ∙ (ap usual q.1 ∙ usual_of q.0)))))

  pub marked_once : (event : Event) (before w x : MarkedWorld) (s t : List Parcel) → MarkedHappens by before event s w → MarkedHappens by before event t x
      → IsScripted (seen before) event (usual s) (seen w) → IsScripted (seen before) event (usual t) (seen x) → w ≡ x
  marked_once (Boot boot isn) before w x s t p q a b =
      p.3 ∙ (ap (λ (ps : List Parcel). record before { boot = boot; node = Some (booted_to_mark before.server before.profile boot isn); parcels = before.parcels ++ ps }) (p.2 ∙ sym q.2) ∙ sym q.3)
  marked_once Crash before w x s t p q a b = p.2 ∙ (ap (λ (ps : List Parcel). record before { node = None; parcels = before.parcels ++ ps }) (p.1 ∙ sym q.1) ∙ sym q.2)
  marked_once Tick before w x s t p q a b = server_once (Plain_comes Tick_comes) before w x s t p.1 q.1
  marked_once (Deliver number) before w x s t p q a b =
      let same : p.0 ≡ q.0 = some_is p.0 q.0 (sym p.1 ∙ q.1) in
      comes_once q.0 before w x s t (subst (λ parcel. ParcelComes by parcel before s w) same p.2) q.2
  marked_once (Flip number bit) before w x s t p q a b =
      let same : p.0 ≡ q.0 = some_is p.0 q.0 (sym p.1 ∙ q.1) in
      changed_once q.0 (flipped bit (bytes_of (grammar_of before.profile) q.0)) before w x s t (subst (λ parcel. ComesAs by parcel (flipped bit (bytes_of (grammar_of before.profile) parcel)) before s w) same p.2.comes) q.2.comes
  marked_once (Begin client window) before w x s t p q a b = by_script (Begin client window) client (Syn None) before w x s t refl p q (p.2.client, p.2.is_there) a b
  marked_once (Send client from len) before w x s t p q a b = by_script (Send client from len) client (Text from len) before w x s t refl p q (p.2.client, p.2.is_there) a b
  marked_once (Fin client) before w x s t p q a b = by_script (Fin client) client Fin_move before w x s t refl p q (p.2.client, p.2.is_there) a b
  marked_once (Ack client window) before w x s t p q a b = by_script (Ack client window) client Acknowledge before w x s t refl p q (p.2.client, p.2.is_there) a b
  marked_once (Reset client) before w x s t p q a b = by_script (Reset client) client Rst before w x s t refl p q (p.2.client, p.2.is_there) a b
  marked_once (Stop part) before w x s t p q a b = absurd p.2

  -- what was sent stays
  server_on : (input : MarkedInput) (o : Option MarkedNode) (before w : MarkedWorld) (s : List Parcel) → ServerTurn by input o before s w → w.parcels ≡ before.parcels ++ s
  server_on input None before w s p = ap (λ (v : MarkedWorld). v.parcels) p.1
  server_on input (Some node) before w s p = ap (λ (v : MarkedWorld). v.parcels) p.4

  log_on : (message : AnyMessage) (before w : MarkedWorld) (s : List Parcel) → LogReceives message before s w → w.parcels ≡ before.parcels ++ s
  log_on (Of_log message) before w s p = ap (λ (v : MarkedWorld). v.parcels) p.1
  log_on (About_mark message) before w s p = ap (λ (v : MarkedWorld). v.parcels) p.1

  reads_on : (o : Option AnyMessage) (before w : MarkedWorld) (s : List Parcel) → LogReads o before s w → w.parcels ≡ before.parcels ++ s
  reads_on (Some message) before w s p = log_on message before w s p
  reads_on None before w s p = ap (λ (v : MarkedWorld). v.parcels) p.1

  comes_on : (parcel : Parcel) (before w : MarkedWorld) (s : List Parcel) → ParcelComes by parcel before s w → w.parcels ≡ before.parcels ++ s
  comes_on (Usual (To_server segment)) before w s p = server_on (Plain_comes (Packet_comes segment)) before.node before w s p
  comes_on (Usual (To_client segment)) before w s p = ap (λ (v : MarkedWorld). v.parcels) p.3
  comes_on (Usual (To_logger message)) before w s p = log_on (Of_log message) before w s p
  comes_on (Usual (From_logger message)) before w s p = server_on (Plain_comes (Message_comes message)) before.node before w s p
  comes_on (Mark_sent message) before w s p = log_on (About_mark message) before w s p
  comes_on (Mark_answered message) before w s p = server_on (Mark_comes message) before.node before w s p

  changed_on : (parcel : Parcel) (bytes : List ℕ) (before w : MarkedWorld) (s : List Parcel) → ComesAs by parcel bytes before s w → w.parcels ≡ before.parcels ++ s
  changed_on (Usual (To_server segment)) bytes before w s p = server_on (Plain_comes (segment_or_noise (segments.reading bytes))) before.node before w s p
  changed_on (Usual (To_client segment)) bytes before w s p = ap (λ (v : MarkedWorld). v.parcels) p.3
  changed_on (Usual (To_logger message)) bytes before w s p = reads_on (said_by (grammar_of before.profile) bytes) before w s p
  changed_on (Usual (From_logger message)) bytes before w s p = server_on (input_of (said_by (grammar_of before.profile) bytes)) before.node before w s p
  changed_on (Mark_sent message) bytes before w s p = reads_on (said_by (grammar_of before.profile) bytes) before w s p
  changed_on (Mark_answered message) bytes before w s p = server_on (input_of (said_by (grammar_of before.profile) bytes)) before.node before w s p

  pub marked_proceeds : (event : Event) (before w : MarkedWorld) (s : List Parcel) → MarkedHappens by before event s w → w.parcels ≡ before.parcels ++ s
  marked_proceeds (Boot boot isn) before w s p = ap (λ (v : MarkedWorld). v.parcels) p.3
  marked_proceeds Crash before w s p = ap (λ (v : MarkedWorld). v.parcels) p.2
  marked_proceeds Tick before w s p = server_on (Plain_comes Tick_comes) before.node before w s p.1
  marked_proceeds (Deliver number) before w s p = comes_on p.0 before w s p.2
  marked_proceeds (Flip number bit) before w s p = changed_on p.0 (flipped bit (bytes_of (grammar_of before.profile) p.0)) before w s p.2.comes
  marked_proceeds event before w s p = ap (λ (v : MarkedWorld). v.parcels) p.3
