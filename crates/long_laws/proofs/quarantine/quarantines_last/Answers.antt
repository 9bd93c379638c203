use Rattle.long_laws.proofs.QuarantineLasts.{all_have_waited, all_age}
use Rattle.long_laws.proofs.quarantine.quarantines_last.Goals as goal

pub returns-clause-forgets : goal.returns-clause-forgets
returns-clause-forgets c = all_have_waited

pub returns-clause-ages : goal.returns-clause-ages
returns-clause-ages c = all_age
