-- No client acknowledges output that was never made: the unfailing server makes it by the logged reads. So an acknowledgement of more comes from somebody who
-- guesses (RFC 5961, 1).
use Rattle.std.specs.Prelude.{◌≡◌, ◌≤ℤ◌, pos, true, false, Some}
use Rattle.ft_io.specs.Key.{key_eq}
use Rattle.seq_arith.specs.Packet.{has_ack}
use Rattle.server_trait.specs.Service.{Machine}
use Rattle.ft_model.specs.Offset.{ack_of}
use Rattle.ft_model.specs.Log.{Entry, Log, entry_of}
use Rattle.ft_model.specs.Network.{Packet, source_of}
use Rattle.ft_model.specs.Network.Packet.{To_server, To_client, To_logger, From_logger}
use Rattle.ft_model.specs.Point.{Point}
use Rattle.ft_model.specs.Taken.{acknowledges_unsent}
use Rattle.ft_model.specs.Restart.{output_units}

-- a segment of a client acknowledges, in offsets of the logged connection, at most the units of output of its entry
abbrev pub AcknowledgesMade : {State : Type 0} → Machine State → Log → Packet → Type 0
AcknowledgesMade service log (To_server segment) =
    has_ack segment ≡ true → (e : Entry) × (entry_of (source_of segment) log ≡ Some e) × (ack_of e.sisn segment ≤ℤ pos (output_units service e))
AcknowledgesMade service log (To_client segment) = Unit {0}
AcknowledgesMade service log (To_logger message) = Unit {0}
AcknowledgesMade service log (From_logger message) = Unit {0}

-- a segment of this connection's client acknowledges nothing that was never sent
abbrev pub AcknowledgesSent : Point → Packet → Type 0
AcknowledgesSent p (To_server segment) = key_eq (source_of segment) p.key ≡ true → has_ack segment ≡ true → acknowledges_unsent p segment ≡ false
AcknowledgesSent p (To_client segment) = Unit {0}
AcknowledgesSent p (To_logger message) = Unit {0}
AcknowledgesSent p (From_logger message) = Unit {0}
