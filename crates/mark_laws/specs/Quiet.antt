-- When a connection is quiet, so that its service's state can be logged in place of the reads that led to it.
use Rattle.std.specs.Prelude.{◌≡◌, ◌==◌, Bool, false, ◌&&◌, not, length}
use Rattle.seq_arith.specs.Mark.{Mark}
use Rattle.server_trait.specs.Service.{Machine}
use Rattle.server_trait.specs.Saved.{Writing}
use Rattle.ft_model.specs.Point.{Point, made, whole_run, bytes_read}
use Rattle.mark_laws.specs.MarkedLog.{has_closing}

-- every read is known to be logged, all output is acknowledged, the closing read isn't made, and the service hasn't closed
pub record IsQuiet {State : Type 0} (service : Machine State) (p : Point) : Type 0 where
  pub answered : p.reads_answered ≡ length p.lengths
  pub acknowledged : p.una ≡ made service p
  pub reads_on : has_closing p.lengths ≡ false
  pub running : (whole_run service p).closed ≡ false

-- whether a point is quiet
abbrev pub is_quiet : {State : Type 0} → Machine State → Point → Bool
is_quiet service p = p.reads_answered == length p.lengths && p.una == made service p && not (has_closing p.lengths) && not (whole_run service p).closed

-- the mark of a quiet point
abbrev pub mark_of : {State : Type 0} → Machine State → Writing State → Point → Mark
mark_of service writing p =
    record { reads = length p.lengths; length = bytes_read p; made = made service p; state = writing.form (whole_run service p).state }
