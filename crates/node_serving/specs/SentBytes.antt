-- What the node sends, as bytes with an addressee.
use Rattle.std.specs.Prelude.{◌≡◌, ℕ, List, ◌++◌, map}
use Rattle.std.specs.List.{AllByRecursion}
use Rattle.ft_io.specs.declared.Key.{Key}
use Rattle.seq_arith.specs.declared.kinds.Grammar.{Grammar}
use Rattle.ft_model.specs.Network.{Packet}
use Rattle.ft_model.specs.Wire.{Wire, Party, wire_by, HasWireBy}
use Rattle.ft_model.specs.Wire.Party.{A_client, The_server, The_logger}
use Rattle.node_serving.specs.declared.out_packet.To.{To}
use Rattle.node_serving.specs.declared.out_packet.To.TheVariants.{Client, Logger}

abbrev pub party_of : To → Party
party_of (Client key) = A_client key
party_of Logger = The_logger

abbrev pub sent_to : To → List ℕ → Wire
sent_to to bytes = record { from = The_server; to = party_of to; bytes = bytes }

abbrev pub segment_to : Key → List ℕ → Wire
segment_to key bytes = sent_to (Client key) bytes

abbrev pub message_to_logger : List ℕ → Wire
message_to_logger bytes = sent_to Logger bytes

-- what one connection sends in a turn: its segments, then its messages
abbrev pub wires_of : Key → (segments messages : List (List ℕ)) → List Wire
wires_of key segments messages = map (segment_to key) segments ++ map message_to_logger messages

-- these packets are sent, after what was sent before, each in its one spelling in this grammar
pub record ArePut (grammar : Grammar) (packets : List Packet) (old new : List Wire) : Type 0 where
  pub wires : new ≡ old ++ map (wire_by grammar) packets
  pub spelled : AllByRecursion (HasWireBy grammar) packets
