use Rattle.trace_laws.proofs.what_is_kept_is_the_log.Goals as goal
use Rattle.trace_laws.proofs.Folds.{kept_alone}

pub returns : goal.returns
returns c = λ log messages kept k. kept_alone log messages kept k
