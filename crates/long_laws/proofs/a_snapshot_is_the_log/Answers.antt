use Rattle.long_laws.proofs.a_snapshot_is_the_log.Goals as goal
use Rattle.long_laws.proofs.Snapshots.{snapshot_made}

pub returns : goal.returns
returns c = λ log messages ordered snapshot. snapshot_made log messages ordered snapshot
