-- The held text and FIN that a turn takes, as one part of the client's stream.
use Rattle.std.specs.Prelude.{false}
use Rattle.seq_arith.specs.Message.{Part}
use Rattle.seq_arith.specs.Packet.{Segment}
use Rattle.ft_model.specs.Copy.{further_start, further_text, takes_held_fin}
use Rattle.ft_model.specs.Point.{Point}

abbrev pub further_part : (before after : Point) → Segment → Part
further_part before after segment = record {
  key = after.key;
  offset = further_start before after segment;
  acked = after.una;
  fin = takes_held_fin before after segment;
  more = false;
  bytes = further_text before after segment;
}
