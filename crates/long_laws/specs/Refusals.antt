-- Which packets may be refusals. A live client that is opening answers a SYN-ACK that acknowledges no SYN of its own by a RST with that number (RFC 9293,
-- 3.10.7.3), wherever that lies.
use Rattle.std.specs.Prelude.{Bool, false, ◌&&◌, List}
use Rattle.std.specs.List.{list_any}
use Rattle.ft_io.specs.declared.Key.{Key}
use Rattle.ft_io.specs.Key.{key_eq}
use Rattle.seq_arith.specs.Packet.{has_rst}
use Rattle.ft_model.specs.Client.{Client, is_live}
use Rattle.ft_model.specs.Network.{source_of}
use Rattle.ft_model.specs.Node.{Input}
use Rattle.ft_model.specs.Node.Input.{Packet_comes, Message_comes, Noise_comes, Tick_comes}

-- a live client has this address and port
abbrev pub has_live : Key → List Client → Bool
has_live key clients = list_any (λ c. key_eq c.key key && is_live c.kind) clients

-- only a RST from where a live client is may be a refusal
abbrev pub may_refuse : List Client → Input → Bool
may_refuse clients (Packet_comes segment) = has_rst segment && has_live (source_of segment) clients
may_refuse clients (Message_comes message) = false
may_refuse clients Noise_comes = false
may_refuse clients Tick_comes = false
