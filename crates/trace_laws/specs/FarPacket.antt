-- A packet that no client sends: a pure ACK with a sequence number 2^31 past the stream's start, in flight to a live connection.
use Rattle.std.specs.Prelude.{[], ◌∷◌}
use Rattle.seq_arith.specs.Packet.{Segment}
use Rattle.ft_model.specs.Network.Packet.{To_server}
use Rattle.ft_model.specs.World.{Moment}
use Rattle.ft_model.specs.declared.event.Event.TheVariants.{Ack}
use Rattle.ft_model.specs.WorkedRuns.Common.{client_segment}
use Rattle.ft_model.specs.WorkedRuns.FirstPath.{moment, moment_10}

abbrev pub far : Segment
far = client_segment 16 2147484649 5001 65535 []

-- the client of the first path, whose connection is live, sends it
abbrev pub wrong : Moment
wrong = moment (Ack 1 65535) (To_server far ∷ []) moment_10.world
