-- A moment of a trace by its actor: the log, the server, a client. All deliveries and ticks to a server are one case.
use Rattle.std.proofs.Common.{◌<◌, true≢false, ◌*◌, sym, subst, ⊎_elim, inl, inr, ◌⊎◌, length, append-nil, Result, Ok, Err, IsErr, ◌≡◌, ℕ, zero, suc, refl, ap, ◌∙◌, option_map, option_to_list, Option, Some, None, List, [], ◌∷◌, ◌++◌}
use Rattle.std.specs.List.{AllByRecursion}
use Rattle.seq_arith.specs.Packet.{Segment}
use Rattle.seq_arith.specs.Message.{Message}
use Rattle.seq_arith.specs.PacketGrammar as segments
use Rattle.seq_arith.specs.MessageGrammar as messages
use Rattle.seq_arith.specs.Damage.{flipped}
use Rattle.seq_arith.specs.declared.BadPacket.{BadPacket}
use Rattle.seq_arith.specs.declared.kinds.BadMsg.{BadMsg}
use Rattle.seq_arith.proofs.Spelling.{spelling_is_read}
use Rattle.seq_arith.proofs.MessageSpelling.{message_is_read}
use Rattle.seq_arith.proofs.Refused.{flipped_packet_is_refused, flipped_is_refused_by}
use Rattle.ft_io.specs.declared.Key.{Key}
use Rattle.seq_arith.specs.declared.kinds.Grammar.{Grammar}
use Rattle.tcp_rules.specs.Profile.{grammar_of}
use Rattle.ft_model.specs.Wire.{CanBeSent, CanBeWrittenBy}
use Rattle.server_trait.specs.Service.{Machine}
use Rattle.ft_model.specs.Client.{received}
use Rattle.ft_model.specs.Log.{Log, log_after, answer_to}
use Rattle.ft_model.specs.Network.{Packet, packet_at, destination_of}
use Rattle.ft_model.specs.Network.Packet.{To_server, To_client, To_logger, From_logger}
use Rattle.ft_model.specs.Node.{Node, Input, booted}
use Rattle.ft_model.specs.Node.Input.{Packet_comes, Message_comes, Noise_comes, Tick_comes}
use Rattle.ft_model.specs.Lawful.{LawfulTurn, hello}
use Rattle.ft_model.specs.World.{World, Moment, IsNextBoot, NothingHappens, segment_or_noise, message_or_noise, ClientReads, LogReads, Flipped, ServerMoves, ServerTurn, Delivered, Moves, Happens, Joint, IsStart, world_after, with_client}
use Rattle.ft_model.specs.declared.event.Event.{Event}
use Rattle.ft_model.specs.declared.event.Event.TheVariants.{Boot, Crash, Tick, Deliver, Flip, Begin, Send, Fin, Ack, Reset, Stop}
use Rattle.ft_model.proofs.Lists.{all_slice_get, none_is_some}

-- the packet was sent before
abbrev pub IsUnderWay : World → Packet → Type 0
IsUnderWay w packet = (number : ℕ) × (packet_at w.packets number ≡ Some packet)

-- what comes to the server was sent before
abbrev pub IsBrought : World → Input → Type 0
IsBrought w (Packet_comes segment) = IsUnderWay w (To_server segment)
IsBrought w (Message_comes message) = IsUnderWay w (From_logger message)
IsBrought w Noise_comes = Unit {0}
IsBrought w Tick_comes = Unit {0}

abbrev pub answers : Log → Message → List Packet
answers log message = option_to_list (option_map From_logger (answer_to log message))

pub data Happened {State : Type 0} (service : Machine State) (before : World) (sent : List Packet) (after : World) : Type 0 where
  log_received : (message : Message) → IsUnderWay before (To_logger message) → sent ≡ answers before.log message
      → after ≡ record before { log = log_after before.log message; packets = before.packets ++ sent } → Happened service before sent after
  client_received : (segment : Segment) → IsUnderWay before (To_client segment) → sent ≡ []
      → after ≡ record before { clients = with_client (destination_of segment) (λ c. received c segment) before.clients; packets = before.packets ++ sent } → Happened service before sent after
  client_moved : (number : ℕ) → Moves before number sent after → Happened service before sent after
  server_turned : (input : Input) (node later : Node) → IsBrought before input → before.node ≡ Some node → LawfulTurn service node input sent later
      → after ≡ record before { node = Some later; packets = before.packets ++ sent } → Happened service before sent after
  server_booted : (boot isn : ℕ) → before.node ≡ None → IsNextBoot before boot → sent ≡ hello (booted before.server before.profile boot isn)
      → after ≡ record before { boot = boot; node = Some (booted before.server before.profile boot isn); packets = before.packets ++ sent } → Happened service before sent after
  server_down : sent ≡ [] → after ≡ record before { node = None; packets = before.packets ++ sent } → Happened service before sent after

turned : {State : Type 0} (service : Machine State) (input : Input) (before : World) (sent : List Packet) (after : World) (node : Option Node)
    → IsBrought before input → before.node ≡ node → ServerTurn service input node sent after.node
    → after ≡ record before { node = after.node; packets = before.packets ++ sent } → Happened service before sent after
turned service input before sent after None brought e t a =
    server_down t.0 (a ∙ ap (λ n. record before { node = n; packets = before.packets ++ sent }) t.1)
turned service input before sent after (Some node) brought e t a =
    server_turned input node t.0 brought e t.2 (a ∙ ap (λ n. record before { node = n; packets = before.packets ++ sent }) t.1)

delivered : {State : Type 0} (service : Machine State) (before : World) (packet : Packet) (sent : List Packet) (after : World)
    → IsUnderWay before packet → Delivered service before packet sent after → Happened service before sent after
delivered service before (To_server segment) sent after u d = turned service (Packet_comes segment) before sent after before.node u refl d.0 d.1
delivered service before (To_client segment) sent after u d = client_received segment u d.0 d.1
delivered service before (To_logger message) sent after u d = log_received message u d.0 d.1
delivered service before (From_logger message) sent after u d = turned service (Message_comes message) before sent after before.node u refl d.0 d.1

-- nothing is sent, and nothing changes
abbrev pub IsQuiet : World → List Packet → World → Type 0
IsQuiet before sent after = (sent ≡ []) × (after ≡ before)

quiet : (before : World) (sent : List Packet) (after : World) → NothingHappens before sent after → IsQuiet before sent after
quiet before sent after n = (n.0, n.1 ∙ (ap (λ ps. record before { packets = before.packets ++ ps }) n.0 ∙ ap (λ ps. record before { packets = ps }) (append-nil before.packets)))

-- a packet with a changed bit is noise
pub bit_changed : (bit : ℕ) (segment : Segment) → CanBeSent segment → bit < 8 * length (segments.spelling segment) → IsErr (segments.reading (flipped bit (segments.spelling segment)))
bit_changed bit segment w h = flipped_packet_is_refused bit (segments.spelling segment) segment (spelling_is_read segment w.0) h

pub message_bit_changed : (grammar : Grammar) (bit : ℕ) (message : Message) → CanBeWrittenBy grammar message → bit < 8 * length (messages.spelling_by grammar message)
    → IsErr (messages.reading_by grammar (flipped bit (messages.spelling_by grammar message)))
message_bit_changed grammar bit message w h = flipped_is_refused_by grammar bit (messages.spelling_by grammar message) message (message_is_read message w.0) h

pub segment_is_noise : (r : Result Segment BadPacket) → IsErr r → segment_or_noise r ≡ Noise_comes
segment_is_noise (Err why) h = refl
segment_is_noise (Ok segment) h = absurd (true≢false (sym h))

pub message_is_noise : (r : Result Message BadMsg) → IsErr r → message_or_noise r ≡ Noise_comes
message_is_noise (Err why) h = refl
message_is_noise (Ok message) h = absurd (true≢false (sym h))

client_quiet : (key : Key) (r : Result Segment BadPacket) (before : World) (sent : List Packet) (after : World) → IsErr r → ClientReads key r before sent after → IsQuiet before sent after
client_quiet key (Err why) before sent after h n = quiet before sent after n
client_quiet key (Ok segment) before sent after h n = absurd (true≢false (sym h))

log_quiet : (r : Result Message BadMsg) (before : World) (sent : List Packet) (after : World) → IsErr r → LogReads r before sent after → IsQuiet before sent after
log_quiet (Err why) before sent after h n = quiet before sent after n
log_quiet (Ok message) before sent after h n = absurd (true≢false (sym h))

-- .. and so is a message to the log
pub flip_is_quiet : {State : Type 0} (service : Machine State) (before : World) (message : Message) (bit : ℕ) (sent : List Packet) (after : World)
    → Flipped service before (To_logger message) bit sent after → IsQuiet before sent after
flip_is_quiet service before message bit sent after f = log_quiet _ before sent after (message_bit_changed (grammar_of before.profile) bit message f.wire f.within) f.comes

-- what can't be read may come, and nothing happens
pub nothing_read : (r : Result Message BadMsg) (before : World) → IsErr r → LogReads r before [] (record before { packets = before.packets ++ [] })
nothing_read (Err why) before h = (refl, refl)
nothing_read (Ok message) before h = absurd (true≢false (sym h))

noise_comes : {State : Type 0} (service : Machine State) (before : World) (sent : List Packet) (after : World) (input : Input) → input ≡ Noise_comes
    → ServerMoves service input before sent after → Happened service before sent after
noise_comes service before sent after input e m =
    let x : ServerMoves service Noise_comes before sent after = subst (λ i. ServerMoves service i before sent after) e m in
    turned service Noise_comes before sent after before.node tt refl x.0 x.1

flips : {State : Type 0} (service : Machine State) (before : World) (packet : Packet) (bit : ℕ) (sent : List Packet) (after : World)
    → Flipped service before packet bit sent after → Happened service before sent after ⊎ IsQuiet before sent after
flips service before (To_server segment) bit sent after f =
    inl (noise_comes service before sent after _ (segment_is_noise _ (bit_changed bit segment f.wire f.within)) f.comes)
flips service before (To_client segment) bit sent after f = inr (client_quiet (destination_of segment) _ before sent after (bit_changed bit segment f.wire f.within) f.comes)
flips service before (To_logger message) bit sent after f = inr (log_quiet _ before sent after (message_bit_changed (grammar_of before.profile) bit message f.wire f.within) f.comes)
flips service before (From_logger message) bit sent after f =
    inl (noise_comes service before sent after _ (message_is_noise _ (message_bit_changed (grammar_of before.profile) bit message f.wire f.within)) f.comes)

-- no client and no log is changed by it
flip_keeps : {State : Type 0} (service : Machine State) (before : World) (packet : Packet) (bit : ℕ) (sent : List Packet) (after : World)
    → Flipped service before packet bit sent after → (after.clients ≡ before.clients) × (after.log ≡ before.log)
flip_keeps service before (To_server segment) bit sent after f = (ap (λ w. w.clients) f.comes.1, ap (λ w. w.log) f.comes.1)
flip_keeps service before (To_client segment) bit sent after f =
    let q = client_quiet (destination_of segment) _ before sent after (bit_changed bit segment f.wire f.within) f.comes in (ap (λ w. w.clients) q.1, ap (λ w. w.log) q.1)
flip_keeps service before (To_logger message) bit sent after f =
    let q = flip_is_quiet service before message bit sent after f in (ap (λ w. w.clients) q.1, ap (λ w. w.log) q.1)
flip_keeps service before (From_logger message) bit sent after f = (ap (λ w. w.clients) f.comes.1, ap (λ w. w.log) f.comes.1)

pub flipped_keeps : {State : Type 0} (service : Machine State) (before : World) (number bit : ℕ) (sent : List Packet) (after : World)
    → Happens service before (Flip number bit) sent after → (after.clients ≡ before.clients) × (after.log ≡ before.log)
flipped_keeps service before number bit sent after h = flip_keeps service before h.0 bit sent after h.2

-- what happens has one of these actors, or is nothing
pub happened : {State : Type 0} (service : Machine State) (before : World) (event : Event) (sent : List Packet) (after : World)
    → Happens service before event sent after → Happened service before sent after ⊎ IsQuiet before sent after
happened service before (Boot boot isn) sent after h = inl (server_booted boot isn h.0 h.1 h.2 h.3)
happened service before Crash sent after h = inl (server_down h.1 h.2)
happened service before Tick sent after h = inl (turned service Tick_comes before sent after before.node tt refl h.1.0 h.1.1)
happened service before (Deliver number) sent after h = inl (delivered service before h.0 sent after (number, h.1) h.2)
happened service before (Flip number bit) sent after h = flips service before h.0 bit sent after h.2
happened service before (Begin client window) sent after h = inl (client_moved client h)
happened service before (Send client from len) sent after h = inl (client_moved client h)
happened service before (Fin client) sent after h = inl (client_moved client h)
happened service before (Ack client window) sent after h = inl (client_moved client h)
happened service before (Reset client) sent after h = inl (client_moved client h)
happened service before (Stop part) sent after h = absurd h

-- what holds of all packets sent holds of one that is delivered
pub all_sent : (P : Packet → Type 0) (w : World) (packet : Packet) → AllByRecursion P w.packets → IsUnderWay w packet → P packet
all_sent P w packet a (zero, e) = none_is_some packet e
all_sent P w packet a (suc n, e) = all_slice_get P w.packets n packet a e

-- what holds at a start, and stays in every moment, holds after every trace
pub holds_after : {State : Type 0} (service : Machine State) (P : World → Type 0) (start : World)
    → (IsStart start → P start) → ((before : World) (sent : List Packet) (after : World) → P before → Happened service before sent after → P after)
    → (trace : List Moment) → Joint service start trace → P (world_after start trace)
holds_after service P start first step [] j = first j
holds_after service P start first step (moment ∷ earlier) j =
    let before = holds_after service P start first step earlier j.0 in
    ⊎_elim (λ h. step (world_after start earlier) moment.sent moment.world before h) (λ q. subst P (sym q.1) before)
    (happened service (world_after start earlier) moment.event moment.sent moment.world j.1)
