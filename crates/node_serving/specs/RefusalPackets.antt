-- The segments that the node itself sends, as packets.
use Rattle.std.specs.Prelude.{List, map}
use Rattle.seq_arith.specs.Packet.{Segment}
use Rattle.seq_arith.specs.declared.kinds.Grammar.{Grammar}
use Rattle.ft_model.specs.Network.Packet.{To_client}
use Rattle.ft_model.specs.Wire.{Wire}
use Rattle.node_serving.specs.SentBytes.{ArePut}

-- these segments to clients are sent, after what was sent before. A segment is written alike whatever the grammar of messages is
pub record AreSent (segments : List Segment) (old new : List Wire) : Type 0 where
  pub each : (grammar : Grammar) → ArePut grammar (map To_client segments) old new
