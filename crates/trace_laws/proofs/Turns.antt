-- What one turn of a connection gives.
use Rattle.std.proofs.Common.{take}
use Rattle.server_trait.specs.Service.{Machine}
use Rattle.ft_model.specs.Growth.{IsPrefix}
use Rattle.ft_model.specs.Point.{Point, answered_run, whole_run}
use Rattle.ft_model.proofs.Lists.{take_first}
use Rattle.ft_model.proofs.Services.{reads_proceed}

pub answered_front : {State : Type 0} (service : Machine State) (p : Point) → IsPrefix (answered_run service p).output (whole_run service p).output
answered_front service p = (reads_proceed service p.taken (take p.reads_answered p.lengths) p.lengths (take_first p.reads_answered p.lengths)).output
