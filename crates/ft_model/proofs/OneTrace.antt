-- A schedule has at most one legal trace: what a moment does is determined by the event and by the world before it.
use Rattle.std.proofs.Common.{◌≡◌, ℕ, refl, sym, ap, ◌∙◌, subst, Option, Some, None, Result, Ok, Err, List, [], ◌∷◌, ◌++◌, length, drop}
use Rattle.std.proofs.Math.Seq.{drop-append_seam}
use Rattle.std.proofs.lemmas.List.{same_from_push}
use Rattle.ft_io.specs.declared.Key.{Key}
use Rattle.seq_arith.specs.Packet.{Segment}
use Rattle.seq_arith.specs.Message.{Message}
use Rattle.seq_arith.specs.PacketGrammar as segments
use Rattle.seq_arith.specs.MessageGrammar as messages
use Rattle.seq_arith.specs.Damage.{flipped}
use Rattle.seq_arith.specs.declared.BadPacket.{BadPacket}
use Rattle.seq_arith.specs.declared.kinds.BadMsg.{BadMsg}
use Rattle.tcp_rules.specs.Profile.{grammar_of}
use Rattle.ft_model.specs.Wire.{wire_by}
use Rattle.server_trait.specs.Service.{Machine}
use Rattle.ft_model.specs.Client.{Move, move_asked, received}
use Rattle.ft_model.specs.Log.{log_after}
use Rattle.ft_model.specs.Client.Move.{Syn, Text, Acknowledge, Rst}
use Rattle.ft_model.specs.Client.Move.{Fin as Fin_move}
use Rattle.ft_model.specs.Network.{Packet, destination_of}
use Rattle.ft_model.specs.Network.Packet.{To_server, To_client, To_logger, From_logger}
use Rattle.ft_model.specs.Node.{Node, Input, booted}
use Rattle.ft_model.specs.Node.Input.{Packet_comes, Message_comes, Tick_comes}
use Rattle.ft_model.specs.Schedule.{kind_of}
use Rattle.ft_model.specs.World.{World, Moment, ServerTurn, ServerMoves, ClientReads, LogReads, segment_or_noise, message_or_noise, DeliveredAs, Flipped, Delivered, Moves, Happens, Joint, world_after, events_of, with_client}
use Rattle.ft_model.specs.Legal.{start_of, IsScripted, IsAllowed, AllAllowed, IsLegalFor}
use Rattle.ft_model.specs.declared.event.Event.{Event}
use Rattle.ft_model.specs.declared.event.Event.TheVariants.{Boot, Crash, Tick, Deliver, Flip, Begin, Send, Fin, Ack, Reset, Stop}
use Rattle.ft_model.specs.declared.schedule.Schedule.{Schedule}
use Rattle.ft_model.proofs.TurnOnce.{turn_once}
use Rattle.ft_model.proofs.Lists.{some_is}

segment_in : Segment → List Packet → Segment
segment_in other (To_server segment ∷ packets) = segment
segment_in other _ = other

pub one_sent : (s t : Segment) → To_server s ∷ [] ≡ To_server t ∷ [] → s ≡ t
unfolding segment_in
one_sent s t e = ap (segment_in s) e

none_pushed : {A : Type 0} (xs : List A) (x : A) → [] ≡ xs ++ x ∷ [] → ⊥
none_pushed [] x e = cc
none_pushed (y ∷ xs) x e = cc

module _ {State : Type 0} (service : Machine State) where
  server_once : (input : Input) (before : World) (w x : World) (s t : List Packet)
      → ServerMoves service input before s w → ServerMoves service input before t x → w ≡ x
  server_once input before w x s t p q =
      let once : (w.node ≡ x.node) × (s ≡ t) = turns_once before.node w.node x.node p.0 q.0 in
      p.1 ∙ (ap (λ n. record before { node = n; packets = before.packets ++ s }) once.0
      ∙ (ap (λ ps. record before { node = x.node; packets = before.packets ++ ps }) once.1 ∙ sym q.1))
    where
      turns_once : (node after other : Option Node) → ServerTurn service input node s after → ServerTurn service input node t other → (after ≡ other) × (s ≡ t)
      turns_once None after other a b = (a.1 ∙ sym b.1, a.0 ∙ sym b.0)
      turns_once (Some node) after other a b =
          let once : (a.0 ≡ b.0) × (s ≡ t) = turn_once service node a.0 b.0 input s t a.2 b.2 in
          (a.1 ∙ (ap Some once.0 ∙ sym b.1), once.1)

  delivery_once : (packet : Packet) (before : World) (w x : World) (s t : List Packet)
      → Delivered service before packet s w → Delivered service before packet t x → w ≡ x
  delivery_once (To_server segment) before w x s t p q = server_once (Packet_comes segment) before w x s t p q
  delivery_once (From_logger message) before w x s t p q = server_once (Message_comes message) before w x s t p q
  delivery_once (To_client segment) before w x s t p q =
      p.1 ∙ (ap (λ ps. record before { clients = with_client (destination_of segment) (λ c. received c segment) before.clients; packets = before.packets ++ ps }) (p.0 ∙ sym q.0) ∙ sym q.1)
  delivery_once (To_logger message) before w x s t p q =
      p.1 ∙ (ap (λ ps. record before { log = log_after before.log message; packets = before.packets ++ ps }) (p.0 ∙ sym q.0) ∙ sym q.1)

  client_reads_once : (key : Key) (r : Result Segment BadPacket) (before w x : World) (s t : List Packet) → ClientReads key r before s w → ClientReads key r before t x → w ≡ x
  client_reads_once key (Ok segment) before w x s t p q =
      p.1 ∙ (ap (λ ps. record before { clients = with_client key (λ c. received c segment) before.clients; packets = before.packets ++ ps }) (p.0 ∙ sym q.0) ∙ sym q.1)
  client_reads_once key (Err why) before w x s t p q = p.1 ∙ (ap (λ ps. record before { packets = before.packets ++ ps }) (p.0 ∙ sym q.0) ∙ sym q.1)

  log_reads_once : (r : Result Message BadMsg) (before w x : World) (s t : List Packet) → LogReads r before s w → LogReads r before t x → w ≡ x
  log_reads_once (Ok message) before w x s t p q =
      p.1 ∙ (ap (λ ps. record before { log = log_after before.log message; packets = before.packets ++ ps }) (p.0 ∙ sym q.0) ∙ sym q.1)
  log_reads_once (Err why) before w x s t p q = p.1 ∙ (ap (λ ps. record before { packets = before.packets ++ ps }) (p.0 ∙ sym q.0) ∙ sym q.1)

  changed_once : (packet : Packet) (bytes : List ℕ) (before w x : World) (s t : List Packet)
      → DeliveredAs service before packet bytes s w → DeliveredAs service before packet bytes t x → w ≡ x
  changed_once (To_server segment) bytes before w x s t p q = server_once (segment_or_noise (segments.reading bytes)) before w x s t p q
  changed_once (To_client segment) bytes before w x s t p q = client_reads_once (destination_of segment) (segments.reading bytes) before w x s t p q
  changed_once (To_logger message) bytes before w x s t p q = log_reads_once (messages.reading_by (grammar_of before.profile) bytes) before w x s t p q
  changed_once (From_logger message) bytes before w x s t p q = server_once (message_or_noise (messages.reading_by (grammar_of before.profile) bytes)) before w x s t p q

  -- clients that make one move stand alike, and so does their world
  move_once : (number : ℕ) (before w x : World) (s t : List Packet) → Moves before number s w → Moves before number t x → s ≡ t → w.clients ≡ x.clients → w ≡ x
  move_once number before w x s t p q sent clients =
      let alike : with_client p.client.key (λ _. p.later) before.clients ≡ with_client q.client.key (λ _. q.later) before.clients =
      sym (ap (λ v. v.clients) p.after_is) ∙ (clients ∙ ap (λ v. v.clients) q.after_is) in
      p.after_is
      ∙ (ap (λ cs. record before { clients = cs; packets = before.packets ++ s }) alike
      ∙ (ap (λ ps. record before { clients = with_client q.client.key (λ _. q.later) before.clients; packets = before.packets ++ ps }) sent ∙ sym q.after_is))

  by_script : (event : Event) (number : ℕ) (move : Move) (before w x : World) (s t : List Packet) → move_asked event ≡ Some (number, move)
      → Moves before number s w → Moves before number t x → IsScripted before event s w → IsScripted before event t x → w ≡ x
  by_script event number move before w x s t asks p q a b =
      let one = a number move p.client asks p.is_there in
      let other = b number move p.client asks p.is_there in
      move_once number before w x s t p q (one.0 ∙ sym other.0) (one.1 ∙ sym other.1)

  pub happens_once : (event : Event) (before w x : World) (s t : List Packet) → Happens service before event s w → Happens service before event t x
      → IsScripted before event s w → IsScripted before event t x → w ≡ x
  happens_once (Boot boot isn) before w x s t p q a b =
      p.3 ∙ (ap (λ ps. record before { boot = boot; node = Some (booted before.server before.profile boot isn); packets = before.packets ++ ps }) (p.2 ∙ sym q.2) ∙ sym q.3)
  happens_once Crash before w x s t p q a b = p.2 ∙ (ap (λ ps. record before { node = None; packets = before.packets ++ ps }) (p.1 ∙ sym q.1) ∙ sym q.2)
  happens_once Tick before w x s t p q a b = server_once Tick_comes before w x s t p.1 q.1
  happens_once (Deliver number) before w x s t p q a b =
      let same : p.0 ≡ q.0 = some_is p.0 q.0 (sym p.1 ∙ q.1) in
      delivery_once q.0 before w x s t (subst (λ packet. Delivered service before packet s w) same p.2) q.2
  happens_once (Flip number bit) before w x s t p q a b =
      let same : p.0 ≡ q.0 = some_is p.0 q.0 (sym p.1 ∙ q.1) in
      let f : Flipped service before q.0 bit s w = subst (λ packet. Flipped service before packet bit s w) same p.2 in
      changed_once q.0 (flipped bit (wire_by (grammar_of before.profile) q.0).bytes) before w x s t f.comes q.2.comes
  happens_once (Begin client window) before w x s t p q a b = by_script (Begin client window) client (Syn None) before w x s t refl p q a b
  happens_once (Send client from len) before w x s t p q a b = by_script (Send client from len) client (Text from len) before w x s t refl p q a b
  happens_once (Fin client) before w x s t p q a b = by_script (Fin client) client Fin_move before w x s t refl p q a b
  happens_once (Ack client window) before w x s t p q a b = by_script (Ack client window) client Acknowledge before w x s t refl p q a b
  happens_once (Reset client) before w x s t p q a b = by_script (Reset client) client Rst before w x s t refl p q a b
  happens_once (Stop part) before w x s t p q a b = absurd p

  -- what was sent stays
  pub proceeds : (event : Event) (before w : World) (s : List Packet) → Happens service before event s w → w.packets ≡ before.packets ++ s
  proceeds (Boot boot isn) before w s p = ap (λ v. v.packets) p.3
  proceeds Crash before w s p = ap (λ v. v.packets) p.2
  proceeds Tick before w s p = ap (λ v. v.packets) p.1.1
  proceeds (Deliver number) before w s p = delivered_on p.0 p.2
    where
      delivered_on : (packet : Packet) → Delivered service before packet s w → w.packets ≡ before.packets ++ s
      delivered_on (To_server segment) d = ap (λ v. v.packets) d.1
      delivered_on (To_client segment) d = ap (λ v. v.packets) d.1
      delivered_on (To_logger message) d = ap (λ v. v.packets) d.1
      delivered_on (From_logger message) d = ap (λ v. v.packets) d.1
  proceeds (Flip number bit) before w s p = changed_on p.0 (flipped bit (wire_by (grammar_of before.profile) p.0).bytes) p.2.comes
    where
      client_on : (key : Key) (r : Result Segment BadPacket) → ClientReads key r before s w → w.packets ≡ before.packets ++ s
      client_on key (Ok segment) d = ap (λ v. v.packets) d.1
      client_on key (Err why) d = ap (λ v. v.packets) d.1

      log_on : (r : Result Message BadMsg) → LogReads r before s w → w.packets ≡ before.packets ++ s
      log_on (Ok message) d = ap (λ v. v.packets) d.1
      log_on (Err why) d = ap (λ v. v.packets) d.1

      changed_on : (packet : Packet) (bytes : List ℕ) → DeliveredAs service before packet bytes s w → w.packets ≡ before.packets ++ s
      changed_on (To_server segment) bytes d = ap (λ v. v.packets) d.1
      changed_on (To_client segment) bytes d = client_on (destination_of segment) (segments.reading bytes) d
      changed_on (To_logger message) bytes d = log_on (messages.reading_by (grammar_of before.profile) bytes) d
      changed_on (From_logger message) bytes d = ap (λ v. v.packets) d.1
  proceeds (Begin client window) before w s p = ap (λ v. v.packets) p.after_is
  proceeds (Send client from len) before w s p = ap (λ v. v.packets) p.after_is
  proceeds (Fin client) before w s p = ap (λ v. v.packets) p.after_is
  proceeds (Ack client window) before w s p = ap (λ v. v.packets) p.after_is
  proceeds (Reset client) before w s p = ap (λ v. v.packets) p.after_is
  proceeds (Stop part) before w s p = absurd p

  sent_once : (event : Event) (before w x : World) (s t : List Packet) → Happens service before event s w → Happens service before event t x → w ≡ x → s ≡ t
  sent_once event before w x s t p q e =
      let all : before.packets ++ s ≡ before.packets ++ t = sym (proceeds event before w s p) ∙ (ap (λ v. v.packets) e ∙ proceeds event before x t q) in
      sym (drop-append_seam before.packets s) ∙ (ap (drop (length before.packets)) all ∙ drop-append_seam before.packets t)

  -- two moments of one event, from one world on, are the same
  pub moment_once : (before : World) (m n : Moment) → m.event ≡ n.event → Happens service before m.event m.sent m.world → Happens service before n.event n.sent n.world
      → IsAllowed before m → IsAllowed before n → m ≡ n
  moment_once before m n e p q a b =
      let p' : Happens service before n.event m.sent m.world = subst (λ x. Happens service before x m.sent m.world) e p in
      let scripted : IsScripted before n.event m.sent m.world = subst (λ x. IsScripted before x m.sent m.world) e a.scripted in
      let world : m.world ≡ n.world = happens_once n.event before m.world n.world m.sent n.sent p' q scripted b.scripted in
      let sent : m.sent ≡ n.sent = sent_once n.event before m.world n.world m.sent n.sent p' q world in
      ap (λ x. record { event = x; sent = m.sent; world = m.world }) e
      ∙ (ap (λ x. record { event = n.event; sent = x; world = m.world }) sent ∙ ap (λ x. record { event = n.event; sent = n.sent; world = x }) world)

  pub traces_once : (start : World) (trace other : List Moment) → Joint service start trace → Joint service start other → AllAllowed start trace → AllAllowed start other
      → events_of trace ≡ events_of other → trace ≡ other
  traces_once start [] [] j k a b e = refl
  traces_once start [] (n ∷ others) j k a b e = absurd (none_pushed (events_of others) n.event e)
  traces_once start (m ∷ earlier) [] j k a b e = absurd (none_pushed (events_of earlier) m.event (sym e))
  traces_once start (m ∷ earlier) (n ∷ others) j k a b e =
      let same : (events_of earlier ≡ events_of others) × (m.event ≡ n.event) = same_from_push (events_of earlier) (events_of others) m.event n.event e in
      let before : earlier ≡ others = traces_once start earlier others j.0 k.0 a.0 b.0 same.0 in
      let last : m ≡ n =
      moment_once (world_after start others) m n same.1 (subst (λ t. Happens service (world_after start t) m.event m.sent m.world) before j.1) k.1
      (subst (λ t. IsAllowed (world_after start t) m) before a.1) b.1 in
      ap (λ x. x ∷ earlier) last ∙ ap (λ t. n ∷ t) before

pub legal_once : {State : Type 0} (service : ℕ → Machine State) (schedule : Schedule) (events : List Event) (trace other : List Moment)
    → IsLegalFor service schedule events trace → IsLegalFor service schedule events other → trace ≡ other
legal_once service schedule events trace other a b =
    traces_once (service (kind_of schedule.service)) (start_of schedule) trace other a.joint b.joint a.allowed b.allowed (a.events_are ∙ sym b.events_are)
