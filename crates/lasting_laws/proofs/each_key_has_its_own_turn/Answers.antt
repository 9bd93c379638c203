use Rattle.server_trait.specs.Service.{machine}
use Rattle.long_laws.specs.LongTrace.{places_at}
use Rattle.lasting_laws.proofs.ByKey.{quarantine_by_key, quarantines_differ, key_went}
use Rattle.lasting_laws.proofs.each_key_has_its_own_turn.Goals as goal

pub returns-clause-quarantine : goal.returns-clause-quarantine
returns-clause-quarantine g c = λ node input later qs. quarantine_by_key node input qs later

pub returns-clause-one_each : goal.returns-clause-one_each
returns-clause-one_each g c = λ node input later qs. quarantines_differ node input qs (places_at later)

pub returns-clause-place : goal.returns-clause-place
returns-clause-place g c = λ kind node input. key_went (machine (g.S.Service.started kind) g.S.Service.after g.S.Service.greeting) node input
