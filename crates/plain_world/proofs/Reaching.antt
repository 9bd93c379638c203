-- A packet, as it is or with a changed bit, reaches its addressee.
use Rattle.std.proofs.Common.{◌≡◌, ◌∙◌, sym, ap, ap₂, subst, refl, ℕ, ◌*◌, ◌<◌, true, true≢false, arith, Option, Some, is_some, option_map, option_to_list, Result, Ok, Err, IsErr, List, [], ◌++◌, length}
use Rattle.ft_io.specs.declared.Addr.{Addr}
use Rattle.ft_io.specs.declared.Key.{Key}
use Rattle.seq_arith.specs.Packet.{Segment}
use Rattle.seq_arith.specs.Message.{Message}
use Rattle.seq_arith.specs.PacketGrammar as segments
use Rattle.seq_arith.specs.MessageGrammar as messages
use Rattle.seq_arith.specs.Damage.{flipped}
use Rattle.seq_arith.specs.declared.BadPacket.{BadPacket}
use Rattle.seq_arith.specs.declared.kinds.BadMsg.{BadMsg}
use Rattle.seq_arith.specs.declared.kinds.Grammar.{Grammar}
use Rattle.seq_arith.specs.declared.kinds.Grammar.TheVariants.{Wide}
use Rattle.seq_arith.proofs.Spelling.{spelling_is_read}
use Rattle.seq_arith.proofs.MessageSpelling.{message_is_read}
use Rattle.seq_arith.proofs.Refused.{flipped_packet_is_refused, flipped_is_refused_by}
use Rattle.server_trait.specs.Service.{Machine}
use Rattle.tcp_rules.specs.Profile.{Profile, grammar_of}
use Rattle.ft_model.specs.Client.{Client, received}
use Rattle.ft_model.specs.Lawful.{fence}
use Rattle.ft_model.specs.Log.{Log, log_after, answer_to}
use Rattle.ft_model.specs.Network.{Packet, source_of, destination_of}
use Rattle.ft_model.specs.Network.Packet.{To_server, To_client, To_logger, From_logger}
use Rattle.ft_model.specs.Node.{Input}
use Rattle.ft_model.specs.Node.Input.{Packet_comes, Message_comes, Noise_comes}
use Rattle.ft_model.specs.Wire.{Wire, wire_by, HasWireBy, CanBeSent, CanBeWrittenBy}
use Rattle.ft_model.specs.Wire.Party.{A_client, The_server, The_logger}
use Rattle.ft_model.specs.World.{World, ServerTurn, ServerMoves, ClientReads, LogReads, Delivered, DeliveredAs, Flipped, segment_or_noise, message_or_noise, with_client}
use Rattle.plain_packets.specs.Sent.{Appends, kept_wire, CanBeKept}
use Rattle.plain_packets.proofs.Sent.{appends_same}
use Rattle.plain_world.specs.NodeTurns.{SendsBy}
use Rattle.plain_world.specs.Values.{NodeState, node_in}
use Rattle.plain_world.specs.Premises.{IsFree, PassesBy}
use Rattle.plain_world.specs.Turns.{StaysReady, Serves, Brings, BringsFlipped}
use Rattle.plain_world.specs.WorldState.{ActorsState, node_of, world_with, OfKind, IsServedUp}

-- whose sender is a client is a segment to the server
sent_by_client : (P : Packet → Type 0) (wire : Wire) (key : Key) (packet : Packet) → A_client key ≡ wire.from → wire ≡ kept_wire packet
    → ((s : Segment) → wire ≡ kept_wire (To_server s) → P (To_server s)) → P packet
sent_by_client P wire key (To_server s) from is f = f s is
sent_by_client P wire key (To_client s) from is f = let e : A_client key ≡ The_server = from ∙ ap (λ w. w.from) is in absurd (cc)
sent_by_client P wire key (To_logger m) from is f = let e : A_client key ≡ The_server = from ∙ ap (λ w. w.from) is in absurd (cc)
sent_by_client P wire key (From_logger m) from is f = let e : A_client key ≡ The_logger = from ∙ ap (λ w. w.from) is in absurd (cc)

-- whose receiver is a client is a segment to it
goes_to_client : (P : Packet → Type 0) (wire : Wire) (key : Key) (packet : Packet) → A_client key ≡ wire.to → wire ≡ kept_wire packet
    → ((s : Segment) → wire ≡ kept_wire (To_client s) → P (To_client s)) → P packet
goes_to_client P wire key (To_server s) to is f = let e : A_client key ≡ The_server = to ∙ ap (λ w. w.to) is in absurd (cc)
goes_to_client P wire key (To_client s) to is f = f s is
goes_to_client P wire key (To_logger m) to is f = let e : A_client key ≡ The_logger = to ∙ ap (λ w. w.to) is in absurd (cc)
goes_to_client P wire key (From_logger m) to is f = let e : A_client key ≡ The_server = to ∙ ap (λ w. w.to) is in absurd (cc)

goes_to_logger : (P : Packet → Type 0) (wire : Wire) (packet : Packet) → The_logger ≡ wire.to → wire ≡ kept_wire packet
    → ((m : Message) → wire ≡ kept_wire (To_logger m) → P (To_logger m)) → P packet
goes_to_logger P wire (To_server s) to is f = let e : The_logger ≡ The_server = to ∙ ap (λ w. w.to) is in absurd (cc)
goes_to_logger P wire (To_client s) to is f = let e : The_logger ≡ A_client (destination_of s) = to ∙ ap (λ w. w.to) is in absurd (cc)
goes_to_logger P wire (To_logger m) to is f = f m is
goes_to_logger P wire (From_logger m) to is f = let e : The_logger ≡ The_server = to ∙ ap (λ w. w.to) is in absurd (cc)

sent_by_logger : (P : Packet → Type 0) (wire : Wire) (packet : Packet) → The_logger ≡ wire.from → wire ≡ kept_wire packet
    → ((m : Message) → wire ≡ kept_wire (From_logger m) → P (From_logger m)) → P packet
sent_by_logger P wire (To_server s) from is f = let e : The_logger ≡ A_client (source_of s) = from ∙ ap (λ w. w.from) is in absurd (cc)
sent_by_logger P wire (To_client s) from is f = let e : The_logger ≡ The_server = from ∙ ap (λ w. w.from) is in absurd (cc)
sent_by_logger P wire (To_logger m) from is f = let e : The_logger ≡ The_server = from ∙ ap (λ w. w.from) is in absurd (cc)
sent_by_logger P wire (From_logger m) from is f = f m is

-- what was written is read
ok_segment : (x y : Segment) → ◌≡◌ {A = Result Segment BadPacket} (Ok x) (Ok y) → x ≡ y
ok_segment x y e = cc

ok_message : (x y : Message) → ◌≡◌ {A = Result Message BadMsg} (Ok x) (Ok y) → x ≡ y
ok_message x y e = cc

segment_read : (wire : Wire) (segment s : Segment) → segments.reading wire.bytes ≡ Ok segment → wire.bytes ≡ segments.spelling s → CanBeSent s → segment ≡ s
segment_read wire segment s read is can = ok_segment segment s (sym read ∙ ap segments.reading is ∙ spelling_is_read s can.0)

message_read : (wire : Wire) (message m : Message) → messages.reading_by Wide wire.bytes ≡ Ok message → wire.bytes ≡ messages.spelling_by Wide m → CanBeWrittenBy Wide m → message ≡ m
message_read wire message m read is can = ok_message message m (sym read ∙ ap (messages.reading_by Wide) is ∙ message_is_read m can.0)

-- the world in which only these are other
others_stay : {State : Type 0} (server : Addr) (profile : Profile) (boot : ℕ) (ps : List Packet) (before after : ActorsState State) → after.clients ≡ before.clients → after.log ≡ before.log
    → world_with server profile boot ps after ≡ record (world_with server profile boot ps before) { node = node_of after.node }
others_stay server profile boot ps before after clients log =
    ap₂ (λ cs l. let w : World = record { server = server; profile = profile; clients = cs; log = l; packets = ps; boot = boot; node = node_of after.node } in w) clients log

-- a server that does nothing is as ready as before
pub stays_ready : {State : Type 0} (service : ℕ → Machine State) (before after : Option (NodeState State)) → after ≡ before → IsServedUp service before → StaysReady service before after
stays_ready service before after same served =
    subst (StaysReady service before) (sym same) (record { same_kind = λ kind is. is; served = served; few = omega arith })

-- no input of a legal trace fences
pub passed_over : {State : Type 0} (service : ℕ → Machine State) (input : Input) (before : Option (NodeState State)) (n : NodeState State) (wires : List _) → before ≡ Some n
    → IsServedUp service before → is_some (fence (node_in n) input) ≡ true → Serves service input before (Some n) wires wires
passed_over service input before n wires is served fences = record {
  ready = stays_ready service before (Some n) (sym is) served;
  turn = λ kind of free. absurd (true≢false (sym fences ∙ ap is_some (free (node_in n) (ap node_of is))));
}

module _ {State : Type 0} (service : ℕ → Machine State) (wire : Wire) (before after : ActorsState State) (old new : List Wire) where
  -- the server takes its turn on it
  moves_on : (kind : ℕ) (server : Addr) (profile : Profile) (boot : ℕ) (packets : List Packet) (input : Input) → after.clients ≡ before.clients → after.log ≡ before.log
      → SendsBy (λ sent. ServerTurn (service kind) input (node_of before.node) sent (node_of after.node)) old new
      → SendsBy (λ sent. ServerMoves (service kind) input (world_with server profile boot packets before) sent (world_with server profile boot (packets ++ sent) after)) old new
  moves_on kind server profile boot packets input clients log s = record {
    sent = s.sent;
    lawful = (s.lawful, others_stay server profile boot (packets ++ s.sent) before after clients log);
    packets = s.packets;
  }

  pub to_server : (key : Key) (segment : Segment) → A_client key ≡ wire.from → segments.reading wire.bytes ≡ Ok segment → after.clients ≡ before.clients → after.log ≡ before.log
      → Serves service (Packet_comes segment) before.node after.node old new → Brings service wire before after old new
  to_server key segment from read clients log serves = record {
    ready = serves.ready;
    reaches = λ kind server profile boot packets packet of is can passes.
        sent_by_client
        (λ p. CanBeKept p → PassesBy p (node_of before.node) → SendsBy (λ sent. Delivered (service kind) (world_with server profile boot packets before) p sent (world_with server profile boot (packets ++ sent) after)) old new)
        wire key packet from is
        (λ s same sendable free.
        let e : segment ≡ s = segment_read wire segment s read (ap (λ w. w.bytes) same) sendable in
        subst (λ x. SendsBy (λ sent. ServerMoves (service kind) (Packet_comes x) (world_with server profile boot packets before) sent (world_with server profile boot (packets ++ sent) after)) old new) e
        (moves_on kind server profile boot packets (Packet_comes segment) clients log (serves.turn kind of (subst (λ x. IsFree (Packet_comes x) (node_of before.node)) (sym e) free))))
        can passes;
  }

  pub from_logger : (message : Message) → The_logger ≡ wire.from → messages.reading_by Wide wire.bytes ≡ Ok message → after.clients ≡ before.clients → after.log ≡ before.log
      → Serves service (Message_comes message) before.node after.node old new → Brings service wire before after old new
  from_logger message from read clients log serves = record {
    ready = serves.ready;
    reaches = λ kind server profile boot packets packet of is can passes.
        sent_by_logger
        (λ p. CanBeKept p → PassesBy p (node_of before.node) → SendsBy (λ sent. Delivered (service kind) (world_with server profile boot packets before) p sent (world_with server profile boot (packets ++ sent) after)) old new)
        wire packet from is
        (λ m same sendable free.
        let e : message ≡ m = message_read wire message m read (ap (λ w. w.bytes) same) sendable in
        subst (λ x. SendsBy (λ sent. ServerMoves (service kind) (Message_comes x) (world_with server profile boot packets before) sent (world_with server profile boot (packets ++ sent) after)) old new) e
        (moves_on kind server profile boot packets (Message_comes message) clients log (serves.turn kind of (subst (λ x. IsFree (Message_comes x) (node_of before.node)) (sym e) free))))
        can passes;
  }

  pub to_client : (key : Key) (segment : Segment) → A_client key ≡ wire.to → segments.reading wire.bytes ≡ Ok segment → after.clients ≡ with_client key (λ c. received c segment) before.clients
      → after.log ≡ before.log → after.node ≡ before.node → IsServedUp service before.node → new ≡ old → Brings service wire before after old new
  to_client key segment to read clients log node served same = record {
    ready = stays_ready service before.node after.node node served;
    reaches = λ kind server profile boot packets packet of is can passes.
        goes_to_client (λ p. CanBeKept p → SendsBy (λ sent. Delivered (service kind) (world_with server profile boot packets before) p sent (world_with server profile boot (packets ++ sent) after)) old new) wire key packet to is
        (λ s here sendable.
        let e : segment ≡ s = segment_read wire segment s read (ap (λ w. w.bytes) here) sendable in
        let whose : A_client key ≡ A_client (destination_of s) = to ∙ ap (λ w. w.to) here in
        let k : key ≡ destination_of s = cc in
        let now : after.clients ≡ with_client (destination_of s) (λ c. received c s) before.clients = clients ∙ ap₂ (λ x y. with_client x (λ c. received c y) before.clients) k e in
        record {
          sent = [];
          lawful = (refl, all_three server profile boot (packets ++ []) _ now log (ap node_of node));
          packets = appends_same old new same;
        })
        can;
  }
    where
      all_three : (server : Addr) (profile : Profile) (boot : ℕ) (ps : List Packet) (cs : List Client) → after.clients ≡ cs → after.log ≡ before.log → node_of after.node ≡ node_of before.node
          → world_with server profile boot ps after ≡ record (world_with server profile boot ps before) { clients = cs }
      all_three server profile boot ps cs c l n =
          ap₂ (λ xs y. let w : World = record { server = server; profile = profile; clients = xs; log = y; packets = ps; boot = boot; node = node_of after.node } in w) c l
          ∙ ap (λ z. let w : World = record { server = server; profile = profile; clients = cs; log = before.log; packets = ps; boot = boot; node = z } in w) n

  pub to_logger : (message : Message) → The_logger ≡ wire.to → messages.reading_by Wide wire.bytes ≡ Ok message → after.log ≡ log_after before.log message → after.clients ≡ before.clients
      → after.node ≡ before.node → IsServedUp service before.node → Appends old new (option_to_list (option_map From_logger (answer_to before.log message))) → Brings service wire before after old new
  to_logger message to read log clients node served answers = record {
    ready = stays_ready service before.node after.node node served;
    reaches = λ kind server profile boot packets packet of is can passes.
        goes_to_logger (λ p. CanBeKept p → SendsBy (λ sent. Delivered (service kind) (world_with server profile boot packets before) p sent (world_with server profile boot (packets ++ sent) after)) old new) wire packet to is
        (λ m here sendable.
        let e : message ≡ m = message_read wire message m read (ap (λ w. w.bytes) here) sendable in
        record {
          sent = option_to_list (option_map From_logger (answer_to before.log m));
          lawful = (refl, all_three server profile boot _ _ (log ∙ ap (log_after before.log) e) clients (ap node_of node));
          packets = subst (λ x. Appends old new (option_to_list (option_map From_logger (answer_to before.log x)))) e answers;
        })
        can;
  }
    where
      all_three : (server : Addr) (profile : Profile) (boot : ℕ) (ps : List Packet) (l : Log) → after.log ≡ l → after.clients ≡ before.clients → node_of after.node ≡ node_of before.node
          → world_with server profile boot ps after ≡ record (world_with server profile boot ps before) { log = l }
      all_three server profile boot ps l e c n =
          ap₂ (λ xs y. let w : World = record { server = server; profile = profile; clients = xs; log = y; packets = ps; boot = boot; node = node_of after.node } in w) c e
          ∙ ap (λ z. let w : World = record { server = server; profile = profile; clients = before.clients; log = l; packets = ps; boot = boot; node = z } in w) n

  -- what can't be read was never sent
  never : ((packet : Packet) → wire ≡ kept_wire packet → CanBeKept packet → ⊥) → after ≡ before → IsServedUp service before.node → Brings service wire before after old new
  never out same served = record {
    ready = stays_ready service before.node after.node (ap (λ a. a.node) same) served;
    reaches = λ kind server profile boot packets packet of is can passes. absurd (out packet is can);
  }

  pub no_segment_from : (key : Key) (bad : BadPacket) → A_client key ≡ wire.from → segments.reading wire.bytes ≡ Err bad → after ≡ before → IsServedUp service before.node
      → Brings service wire before after old new
  no_segment_from key bad from read same served =
      never (λ packet is can. sent_by_client (λ p. CanBeKept p → ⊥) wire key packet from is
      (λ s here sendable. let e : ◌≡◌ {A = Result Segment BadPacket} (Err bad) (Ok s) = sym read ∙ ap (λ w. segments.reading w.bytes) here ∙ spelling_is_read s sendable.0 in absurd (cc)) can) same served

  pub no_segment_to : (key : Key) (bad : BadPacket) → A_client key ≡ wire.to → segments.reading wire.bytes ≡ Err bad → after ≡ before → IsServedUp service before.node
      → Brings service wire before after old new
  no_segment_to key bad to read same served =
      never (λ packet is can. goes_to_client (λ p. CanBeKept p → ⊥) wire key packet to is
      (λ s here sendable. let e : ◌≡◌ {A = Result Segment BadPacket} (Err bad) (Ok s) = sym read ∙ ap (λ w. segments.reading w.bytes) here ∙ spelling_is_read s sendable.0 in absurd (cc)) can) same served

  pub no_message_from : (bad : BadMsg) → The_logger ≡ wire.from → messages.reading_by Wide wire.bytes ≡ Err bad → after ≡ before → IsServedUp service before.node
      → Brings service wire before after old new
  no_message_from bad from read same served =
      never (λ packet is can. sent_by_logger (λ p. CanBeKept p → ⊥) wire packet from is
      (λ m here sendable. let e : ◌≡◌ {A = Result Message BadMsg} (Err bad) (Ok m) = sym read ∙ ap (λ w. messages.reading_by Wide w.bytes) here ∙ message_is_read m sendable.0 in absurd (cc)) can) same served

  pub no_message_to : (bad : BadMsg) → The_logger ≡ wire.to → messages.reading_by Wide wire.bytes ≡ Err bad → after ≡ before → IsServedUp service before.node
      → Brings service wire before after old new
  no_message_to bad to read same served =
      never (λ packet is can. goes_to_logger (λ p. CanBeKept p → ⊥) wire packet to is
      (λ m here sendable. let e : ◌≡◌ {A = Result Message BadMsg} (Err bad) (Ok m) = sym read ∙ ap (λ w. messages.reading_by Wide w.bytes) here ∙ message_is_read m sendable.0 in absurd (cc)) can) same served

  -- With a changed bit: nothing can be read
  segment_is_noise : (r : Result Segment BadPacket) → IsErr r → segment_or_noise r ≡ Noise_comes
  segment_is_noise (Err why) h = refl
  segment_is_noise (Ok segment) h = absurd (true≢false (sym h))

  message_is_noise : (r : Result Message BadMsg) → IsErr r → message_or_noise r ≡ Noise_comes
  message_is_noise (Err why) h = refl
  message_is_noise (Ok message) h = absurd (true≢false (sym h))

  segment_lost : (s : Segment) (bit : ℕ) → CanBeSent s → bit < 8 * length (segments.spelling s) → IsErr (segments.reading (flipped bit (segments.spelling s)))
  segment_lost s bit can within = flipped_packet_is_refused bit (segments.spelling s) s (spelling_is_read s can.0) within

  message_lost : (grammar : Grammar) (m : Message) (bit : ℕ) → CanBeWrittenBy grammar m → bit < 8 * length (messages.spelling_by grammar m)
      → IsErr (messages.reading_by grammar (flipped bit (messages.spelling_by grammar m)))
  message_lost grammar m bit can within = flipped_is_refused_by grammar bit (messages.spelling_by grammar m) m (message_is_read m can.0) within

  flips_so : (kind : ℕ) (server : Addr) (profile : Profile) (boot : ℕ) (packets : List Packet) (packet : Packet) (bit : ℕ)
      → HasWireBy (grammar_of profile) packet → bit < 8 * length (wire_by (grammar_of profile) packet).bytes
      → SendsBy (λ sent. DeliveredAs (service kind) (world_with server profile boot packets before) packet (flipped bit (wire_by (grammar_of profile) packet).bytes) sent (world_with server profile boot (packets ++ sent) after)) old new
      → SendsBy (λ sent. Flipped (service kind) (world_with server profile boot packets before) packet bit sent (world_with server profile boot (packets ++ sent) after)) old new
  flips_so kind server profile boot packets packet bit can within s = record { sent = s.sent; lawful = record { wire = can; within = within; comes = s.lawful }; packets = s.packets }

  noise_moves : (kind : ℕ) (server : Addr) (profile : Profile) (boot : ℕ) (packets : List Packet) (input : Input) → input ≡ Noise_comes → after.clients ≡ before.clients → after.log ≡ before.log
      → OfKind kind before.node → Serves service Noise_comes before.node after.node old new
      → SendsBy (λ sent. ServerMoves (service kind) input (world_with server profile boot packets before) sent (world_with server profile boot (packets ++ sent) after)) old new
  noise_moves kind server profile boot packets input is clients log of serves =
      subst (λ x. SendsBy (λ sent. ServerMoves (service kind) x (world_with server profile boot packets before) sent (world_with server profile boot (packets ++ sent) after)) old new) (sym is)
      (moves_on kind server profile boot packets Noise_comes clients log (serves.turn kind of (λ node up. refl)))

  pub noise_to_server : (key : Key) → A_client key ≡ wire.from → after.clients ≡ before.clients → after.log ≡ before.log
      → Serves service Noise_comes before.node after.node old new → BringsFlipped service wire before after old new
  noise_to_server key from clients log serves = record {
    ready = serves.ready;
    reaches = λ kind server profile boot packets packet bit of is can within.
        sent_by_client
        (λ p. HasWireBy (grammar_of profile) p → bit < 8 * length (wire_by (grammar_of profile) p).bytes → SendsBy (λ sent. Flipped (service kind) (world_with server profile boot packets before) p bit sent (world_with server profile boot (packets ++ sent) after)) old new)
        wire key packet from is
        (λ s here sendable inside.
        flips_so kind server profile boot packets (To_server s) bit sendable inside
        (noise_moves kind server profile boot packets (segment_or_noise (segments.reading (flipped bit (segments.spelling s)))) (segment_is_noise _ (segment_lost s bit sendable inside)) clients log of serves))
        can within;
  }

  pub noise_from_logger : The_logger ≡ wire.from → after.clients ≡ before.clients → after.log ≡ before.log
      → Serves service Noise_comes before.node after.node old new → BringsFlipped service wire before after old new
  noise_from_logger from clients log serves = record {
    ready = serves.ready;
    reaches = λ kind server profile boot packets packet bit of is can within.
        sent_by_logger
        (λ p. HasWireBy (grammar_of profile) p → bit < 8 * length (wire_by (grammar_of profile) p).bytes → SendsBy (λ sent. Flipped (service kind) (world_with server profile boot packets before) p bit sent (world_with server profile boot (packets ++ sent) after)) old new)
        wire packet from is
        (λ m here sendable inside.
        flips_so kind server profile boot packets (From_logger m) bit sendable inside
        (noise_moves kind server profile boot packets (message_or_noise (messages.reading_by (grammar_of profile) (flipped bit (messages.spelling_by (grammar_of profile) m)))) (message_is_noise _ (message_lost (grammar_of profile) m bit sendable inside)) clients log of serves))
        can within;
  }

  client_lost : (kind : ℕ) (server : Addr) (profile : Profile) (boot : ℕ) (packets : List Packet) (key : Key) (r : Result Segment BadPacket) → IsErr r → after ≡ before
      → ClientReads key r (world_with server profile boot packets before) [] (world_with server profile boot (packets ++ []) after)
  client_lost kind server profile boot packets key (Err bad) h same = (refl, ap (world_with server profile boot (packets ++ [])) same)
  client_lost kind server profile boot packets key (Ok segment) h same = absurd (true≢false (sym h))

  log_lost : (kind : ℕ) (server : Addr) (profile : Profile) (boot : ℕ) (packets : List Packet) (r : Result Message BadMsg) → IsErr r → after ≡ before
      → LogReads r (world_with server profile boot packets before) [] (world_with server profile boot (packets ++ []) after)
  log_lost kind server profile boot packets (Err bad) h same = (refl, ap (world_with server profile boot (packets ++ [])) same)
  log_lost kind server profile boot packets (Ok message) h same = absurd (true≢false (sym h))

  pub noise_to_client : (key : Key) → A_client key ≡ wire.to → after ≡ before → IsServedUp service before.node → new ≡ old → BringsFlipped service wire before after old new
  noise_to_client key to same served quiet = record {
    ready = stays_ready service before.node after.node (ap (λ a. a.node) same) served;
    reaches = λ kind server profile boot packets packet bit of is can within.
        goes_to_client
        (λ p. HasWireBy (grammar_of profile) p → bit < 8 * length (wire_by (grammar_of profile) p).bytes → SendsBy (λ sent. Flipped (service kind) (world_with server profile boot packets before) p bit sent (world_with server profile boot (packets ++ sent) after)) old new)
        wire key packet to is
        (λ s here sendable inside.
        flips_so kind server profile boot packets (To_client s) bit sendable inside
        (record { sent = []; lawful = client_lost kind server profile boot packets (destination_of s) _ (segment_lost s bit sendable inside) same; packets = appends_same old new quiet }))
        can within;
  }

  pub noise_to_logger : The_logger ≡ wire.to → after ≡ before → IsServedUp service before.node → new ≡ old → BringsFlipped service wire before after old new
  noise_to_logger to same served quiet = record {
    ready = stays_ready service before.node after.node (ap (λ a. a.node) same) served;
    reaches = λ kind server profile boot packets packet bit of is can within.
        goes_to_logger
        (λ p. HasWireBy (grammar_of profile) p → bit < 8 * length (wire_by (grammar_of profile) p).bytes → SendsBy (λ sent. Flipped (service kind) (world_with server profile boot packets before) p bit sent (world_with server profile boot (packets ++ sent) after)) old new)
        wire packet to is
        (λ m here sendable inside.
        flips_so kind server profile boot packets (To_logger m) bit sendable inside
        (record { sent = []; lawful = log_lost kind server profile boot packets _ (message_lost (grammar_of profile) m bit sendable inside) same; packets = appends_same old new quiet }))
        can within;
  }
