-- No false reset: a RST ends a connection for good, so none may be sent to a client whose connection the log keeps (RFC 9293, 3.5.2: a RST answers a segment of
-- a connection that doesn't exist; FT-TCP, INFOCOM 2001: a connection outlives the server's crash).
use Rattle.std.specs.Prelude.{◌≡◌, IfSome, true}
use Rattle.seq_arith.specs.Packet.{has_rst}
use Rattle.ft_model.specs.Log.{Log, entry_of}
use Rattle.ft_model.specs.Network.{Packet, destination_of}
use Rattle.ft_model.specs.Network.Packet.{To_server, To_client, To_logger, From_logger}

-- no RST is sent to a client whose entry is in the log and not done
abbrev pub ResetsNoLogged : Log → Packet → Type 0
ResetsNoLogged log (To_client segment) = has_rst segment ≡ true → IfSome (entry_of (destination_of segment) log) (λ e. e.done ≡ true)
ResetsNoLogged log (To_server segment) = Unit {0}
ResetsNoLogged log (To_logger message) = Unit {0}
ResetsNoLogged log (From_logger message) = Unit {0}
