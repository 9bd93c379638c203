use Rattle.std.proofs.Common.{refl}
use Rattle.long_laws.specs.Snapshot.{last_data}
use Rattle.log_snapshot.proofs.excluded.a_snapshot_without_what_is_acknowledged.Goals as goal

pub returns : goal.returns
returns c = (last_data c.args.entry.now, refl, c.write_state.ensures)
