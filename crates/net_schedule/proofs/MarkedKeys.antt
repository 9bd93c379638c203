-- With marks: the clients keep the keys with which they started.
use Rattle.std.proofs.Common.{◌≡◌, ◌∙◌, ap, refl, ⊎_elim, ℕ, Option, Some, None, List, [], ◌∷◌}
use Rattle.std.specs.Prelude.{Result, Ok, Err}
use Rattle.ft_io.specs.declared.Key.{Key}
use Rattle.seq_arith.specs.Packet.{Segment}
use Rattle.seq_arith.specs.PacketGrammar as segments
use Rattle.seq_arith.specs.declared.BadPacket.{BadPacket}
use Rattle.seq_arith.specs.Damage.{flipped}
use Rattle.tcp_rules.specs.Profile.{grammar_of}
use Rattle.ft_model.specs.Client.{received}
use Rattle.ft_model.specs.Network.{Packet, destination_of}
use Rattle.ft_model.specs.Network.Packet.{To_server, To_client, To_logger, From_logger}
use Rattle.ft_model.specs.World.{World as Seen, ClientReceives, ClientReads, Happens, segment_or_noise}
use Rattle.ft_model.specs.declared.event.Event.{Event}
use Rattle.ft_model.specs.declared.event.Event.TheVariants.{Boot, Crash, Tick, Deliver, Flip}
use Rattle.ft_model.proofs.FaithfulKept.{received_same}
use Rattle.ft_model.proofs.Happened.{happened}
use Rattle.ft_model.proofs.ClientKeys.{keys_in, keys_stay}
use Rattle.mark_laws.specs.MarkedLog.{AnyMessage}
use Rattle.mark_laws.specs.MarkedLog.AnyMessage.{About_mark, Of_log}
use Rattle.mark_laws.specs.MarkedNode.{Marker, MarkedNode, MarkedInput}
use Rattle.mark_laws.specs.MarkedNode.MarkedInput.{Plain_comes, Mark_comes}
use Rattle.ft_model.specs.Node.Input.{Packet_comes, Message_comes, Tick_comes}
use Rattle.mark_laws.specs.MarkedWorld.{Parcel, MarkedWorld, MarkedMoment, MarkedJoint, MarkedHappens, Elsewhere, ServerTurn, LogReceives, LogReads, ParcelComes, ComesAs, bytes_of, seen, said_by, input_of, marked_after}
use Rattle.mark_laws.specs.MarkedWorld.Parcel.{Usual, Mark_sent, Mark_answered}
use Rattle.net_schedule.proofs.Trace.{step_keeps}

abbrev Keeps : MarkedWorld → MarkedWorld → Type 0
Keeps before after = keys_in after.clients ≡ keys_in before.clients

server_keeps : {State : Type 0} (by : Marker State) (input : MarkedInput) (before : MarkedWorld) (sent : List Parcel) (after : MarkedWorld) (o : Option MarkedNode)
    → ServerTurn by input o before sent after → Keeps before after
server_keeps by input before sent after None t = ap (λ (w : MarkedWorld). keys_in w.clients) t.1
server_keeps by input before sent after (Some node) t = ap (λ (w : MarkedWorld). keys_in w.clients) t.4

log_keeps : (message : AnyMessage) (before : MarkedWorld) (sent : List Parcel) (after : MarkedWorld) → LogReceives message before sent after → Keeps before after
log_keeps (Of_log message) before sent after t = ap (λ (w : MarkedWorld). keys_in w.clients) t.1
log_keeps (About_mark message) before sent after t = ap (λ (w : MarkedWorld). keys_in w.clients) t.1

reads_keep : (o : Option AnyMessage) (before : MarkedWorld) (sent : List Parcel) (after : MarkedWorld) → LogReads o before sent after → Keeps before after
reads_keep (Some message) before sent after t = log_keeps message before sent after t
reads_keep None before sent after t = ap (λ (w : MarkedWorld). keys_in w.clients) t.1

client_keeps : (key : Key) (segment : Segment) (before : Seen) (sent : List Packet) (after : Seen) → ClientReceives key segment before sent after → keys_in after.clients ≡ keys_in before.clients
client_keeps key segment before sent after t =
    ap (λ (w : Seen). keys_in w.clients) t.1 ∙ keys_stay key (λ c. received c segment) before.clients (λ c h. (received_same c segment).key)

client_reads_keep : (key : Key) (r : Result Segment BadPacket) (before : Seen) (sent : List Packet) (after : Seen) → ClientReads key r before sent after → keys_in after.clients ≡ keys_in before.clients
client_reads_keep key (Ok segment) before sent after t = client_keeps key segment before sent after t
client_reads_keep key (Err why) before sent after t = ap (λ (w : Seen). keys_in w.clients) t.1

comes_keeps : {State : Type 0} (by : Marker State) (parcel : Parcel) (before : MarkedWorld) (sent : List Parcel) (after : MarkedWorld) → ParcelComes by parcel before sent after → Keeps before after
comes_keeps by (Usual (To_server segment)) before sent after t = server_keeps by (Plain_comes (Packet_comes segment)) before sent after before.node t
comes_keeps by (Usual (To_client segment)) before sent after t = client_keeps (destination_of segment) segment (seen before) t.0 (seen after) t.2
comes_keeps by (Usual (To_logger message)) before sent after t = log_keeps (Of_log message) before sent after t
comes_keeps by (Usual (From_logger message)) before sent after t = server_keeps by (Plain_comes (Message_comes message)) before sent after before.node t
comes_keeps by (Mark_sent message) before sent after t = log_keeps (About_mark message) before sent after t
comes_keeps by (Mark_answered message) before sent after t = server_keeps by (Mark_comes message) before sent after before.node t

as_keeps : {State : Type 0} (by : Marker State) (parcel : Parcel) (bytes : List ℕ) (before : MarkedWorld) (sent : List Parcel) (after : MarkedWorld) → ComesAs by parcel bytes before sent after → Keeps before after
as_keeps by (Usual (To_server segment)) bytes before sent after t = server_keeps by (Plain_comes (segment_or_noise (segments.reading bytes))) before sent after before.node t
as_keeps by (Usual (To_client segment)) bytes before sent after t = client_reads_keep (destination_of segment) (segments.reading bytes) (seen before) t.0 (seen after) t.2
as_keeps by (Usual (To_logger message)) bytes before sent after t = reads_keep (said_by (grammar_of before.profile) bytes) before sent after t
as_keeps by (Usual (From_logger message)) bytes before sent after t = server_keeps by (input_of (said_by (grammar_of before.profile) bytes)) before sent after before.node t
as_keeps by (Mark_sent message) bytes before sent after t = reads_keep (said_by (grammar_of before.profile) bytes) before sent after t
as_keeps by (Mark_answered message) bytes before sent after t = server_keeps by (input_of (said_by (grammar_of before.profile) bytes)) before sent after before.node t

event_keeps : {State : Type 0} (by : Marker State) (event : Event) (before : MarkedWorld) (sent : List Parcel) (after : MarkedWorld)
    → Elsewhere (λ w. Happens by.service w event) before sent after → Keeps before after
event_keeps by event before sent after t =
    ⊎_elim (λ h. step_keeps by.service (seen before) (seen before) t.0 (seen after) refl h) (λ q. ap (λ (w : Seen). keys_in w.clients) q.1)
    (happened by.service (seen before) event t.0 (seen after) t.2)

moment_keeps : {State : Type 0} (by : Marker State) (event : Event) (before : MarkedWorld) (sent : List Parcel) (after : MarkedWorld) → MarkedHappens by before event sent after → Keeps before after
moment_keeps by (Boot boot isn) before sent after t = ap (λ (w : MarkedWorld). keys_in w.clients) t.3
moment_keeps by Crash before sent after t = ap (λ (w : MarkedWorld). keys_in w.clients) t.2
moment_keeps by Tick before sent after t = server_keeps by (Plain_comes Tick_comes) before sent after before.node t.1
moment_keeps by (Deliver number) before sent after t = comes_keeps by t.0 before sent after t.2
moment_keeps by (Flip number bit) before sent after t = as_keeps by t.0 (flipped bit (bytes_of (grammar_of before.profile) t.0)) before sent after t.2.comes
moment_keeps by event before sent after t = event_keeps by event before sent after t

pub marked_keys_after : {State : Type 0} (by : Marker State) (start : MarkedWorld) (trace : List MarkedMoment) → MarkedJoint by start trace
    → keys_in (marked_after start trace).clients ≡ keys_in start.clients
marked_keys_after by start [] j = refl
marked_keys_after by start (moment ∷ earlier) j =
    moment_keeps by moment.event (marked_after start earlier) moment.sent moment.world j.1 ∙ marked_keys_after by start earlier j.0
