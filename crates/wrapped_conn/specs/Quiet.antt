-- When a connection is quiet, and what is read from it then: the numbers of its point's mark.
use Rattle.std.specs.Prelude.{◌≡◌, ◌==◌, Bool, ◌&&◌, not, Option, Some, None, length, if◌then◌else◌}
use Rattle.server_trait.specs.Service.{Machine}
use Rattle.ft_model.specs.Point.{Point, made, bytes_read}
use Rattle.mark_laws.specs.Quiet.{IsQuiet}
use Rattle.wrapped_conn.specs.declared.quiet.Quiet.{Quiet}
use Rattle.wrapped_conn.specs.ConnState.{ConnState}
use Rattle.wrapped_conn.specs.Numbers.{una_units}

-- every read is known to be logged, all output is acknowledged, and the service hasn't closed
abbrev pub is_quiet : {S : Type 0} → ConnState S → Bool
is_quiet c = length c.north.reads == 0 && una_units c == c.north.run.made && not c.north.run.closed

abbrev pub quiet_in : {S : Type 0} → ConnState S → Option Quiet
quiet_in c = if is_quiet c then Some (record { reads = c.north.count; length = c.north.read; made = c.north.run.made }) else None

-- the numbers of a point's mark
abbrev pub quiet_at : {S : Type 0} → Machine S → Point → Quiet
quiet_at service p = record { reads = length p.lengths; length = bytes_read p; made = made service p }

-- they are returned where the point is quiet, and only there
pub record ReportsQuiet {S : Type 0} (service : Machine S) (p : Point) (reported : Option Quiet) : Type 0 where
  pub there : IsQuiet service p → reported ≡ Some (quiet_at service p)
  pub only_there : (quiet : Quiet) → reported ≡ Some quiet → IsQuiet service p
