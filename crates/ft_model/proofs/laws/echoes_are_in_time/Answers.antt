use Rattle.ft_model.proofs.Stamped.{none_echoed, late_changes_none}
use Rattle.ft_model.proofs.laws.echoes_are_in_time.Goals as goal

pub returns-clause-restored : goal.returns-clause-restored
returns-clause-restored g c = λ kind profile entry. none_echoed profile.timestamps entry.mss

pub returns-clause-late : goal.returns-clause-late
returns-clause-late g c = late_changes_none
