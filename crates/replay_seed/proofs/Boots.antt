-- The largest boot number of a world changes where the server boots, and nowhere else.
use Rattle.std.proofs.Common.{◌≡◌, ◌∙◌, ℕ, ◌+◌, ap, Result, Ok, Err, List, arith}
use Rattle.ft_io.specs.declared.Key.{Key}
use Rattle.seq_arith.specs.Packet.{Segment}
use Rattle.seq_arith.specs.Message.{Message}
use Rattle.seq_arith.specs.PacketGrammar as segments
use Rattle.seq_arith.specs.MessageGrammar as messages
use Rattle.seq_arith.specs.declared.BadPacket.{BadPacket}
use Rattle.seq_arith.specs.declared.kinds.BadMsg.{BadMsg}
use Rattle.server_trait.specs.Service.{Machine}
use Rattle.tcp_rules.specs.Profile.{grammar_of}
use Rattle.ft_model.specs.Network.{Packet, destination_of}
use Rattle.ft_model.specs.Network.Packet.{To_server, To_client, To_logger, From_logger}
use Rattle.ft_model.specs.World.{World, Happens, Delivered, DeliveredAs, ClientReads, LogReads}
use Rattle.ft_model.specs.declared.event.Event.{Event}
use Rattle.ft_model.specs.declared.event.Event.TheVariants.{Boot, Crash, Tick, Deliver, Flip, Begin, Send, Fin, Ack, Reset, Stop}
use Rattle.seq_arith.specs.Offset.{one_if}
use Rattle.replay_seed.specs.SummaryText.{is_boot}

delivered : {State : Type 0} (service : Machine State) (before : World) (packet : Packet) (sent : List Packet) (after : World)
    → Delivered service before packet sent after → after.boot ≡ before.boot
delivered service before (To_server segment) sent after d = ap (λ w. w.boot) d.1
delivered service before (To_client segment) sent after d = ap (λ w. w.boot) d.1
delivered service before (To_logger message) sent after d = ap (λ w. w.boot) d.1
delivered service before (From_logger message) sent after d = ap (λ w. w.boot) d.1

client_reads : (key : Key) (r : Result Segment BadPacket) (before : World) (sent : List Packet) (after : World) → ClientReads key r before sent after → after.boot ≡ before.boot
client_reads key (Ok segment) before sent after d = ap (λ w. w.boot) d.1
client_reads key (Err why) before sent after d = ap (λ w. w.boot) d.1

log_reads : (r : Result Message BadMsg) (before : World) (sent : List Packet) (after : World) → LogReads r before sent after → after.boot ≡ before.boot
log_reads (Ok message) before sent after d = ap (λ w. w.boot) d.1
log_reads (Err why) before sent after d = ap (λ w. w.boot) d.1

changed : {State : Type 0} (service : Machine State) (before : World) (packet : Packet) (bytes : List ℕ) (sent : List Packet) (after : World)
    → DeliveredAs service before packet bytes sent after → after.boot ≡ before.boot
changed service before (To_server segment) bytes sent after d = ap (λ w. w.boot) d.1
changed service before (To_client segment) bytes sent after d = client_reads (destination_of segment) (segments.reading bytes) before sent after d
changed service before (To_logger message) bytes sent after d = log_reads (messages.reading_by (grammar_of before.profile) bytes) before sent after d
changed service before (From_logger message) bytes sent after d = ap (λ w. w.boot) d.1

-- a boot has the next number
abbrev pub HasNextBoot : World → Event → Type 0
HasNextBoot w (Boot boot isn) = boot ≡ w.boot + 1
HasNextBoot w _ = Unit {0}

same : (before after : World) → after.boot ≡ before.boot → after.boot ≡ before.boot + 0
same before after e = omega (arith, e)

pub boot_after : {State : Type 0} (service : Machine State) (before : World) (event : Event) (sent : List Packet) (after : World)
    → HasNextBoot before event → Happens service before event sent after → after.boot ≡ before.boot + one_if (is_boot event)
boot_after service before (Boot boot isn) sent after n h = ap (λ w. w.boot) h.3 ∙ n
boot_after service before Crash sent after n h = same before after (ap (λ w. w.boot) h.2)
boot_after service before Tick sent after n h = same before after (ap (λ w. w.boot) h.1.1)
boot_after service before (Deliver number) sent after n h = same before after (delivered service before h.0 sent after h.2)
boot_after service before (Flip number bit) sent after n h = same before after (changed service before h.0 _ sent after h.2.comes)
boot_after service before (Begin client window) sent after n h = same before after (ap (λ w. w.boot) h.after_is)
boot_after service before (Send client from len) sent after n h = same before after (ap (λ w. w.boot) h.after_is)
boot_after service before (Fin client) sent after n h = same before after (ap (λ w. w.boot) h.after_is)
boot_after service before (Ack client window) sent after n h = same before after (ap (λ w. w.boot) h.after_is)
boot_after service before (Reset client) sent after n h = same before after (ap (λ w. w.boot) h.after_is)
boot_after service before (Stop part) sent after n h = absurd h
