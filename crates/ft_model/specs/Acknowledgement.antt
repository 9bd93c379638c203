-- What the laws Acknowledgement and Window promise of a turn's packets: every segment to the client reports what is taken and answered, and a turn without a
-- segment has nothing new to report. So after each turn the last report to the client is up to date.
use Rattle.std.specs.Prelude.{◌≡◌, Bool, true, false, List}
use Rattle.std.specs.List.{AllByRecursion, list_any}
use Rattle.seq_arith.specs.Number.{number_at}
use Rattle.ft_model.specs.Network.{Packet}
use Rattle.ft_model.specs.Network.Packet.{To_server, To_client, To_logger, From_logger}
use Rattle.ft_model.specs.Point.{Point, acknowledgement, window}

abbrev pub is_segment : Packet → Bool
is_segment (To_client segment) = true
is_segment (To_server segment) = false
is_segment (To_logger message) = false
is_segment (From_logger message) = false

-- a segment to the client has the acknowledgement and the window of the point
abbrev pub Reports : Point → Packet → Type 0
Reports p (To_client segment) = (segment.head.ack ≡ number_at p.cisn (acknowledgement p)) × (segment.head.window ≡ window p)
Reports p (To_server segment) = Unit {0}
Reports p (To_logger message) = Unit {0}
Reports p (From_logger message) = Unit {0}

pub record IsReported (before after : Point) (sent : List Packet) : Type 0 where
  pub all : AllByRecursion (Reports after) sent
  pub silent : list_any is_segment sent ≡ false → (acknowledgement after ≡ acknowledgement before) × (window after ≡ window before)
