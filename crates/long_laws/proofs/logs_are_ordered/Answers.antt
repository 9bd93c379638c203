use Rattle.long_laws.proofs.logs_are_ordered.Goals as goal
use Rattle.long_laws.proofs.Ordered.{folds_ordered}

pub returns : goal.returns
returns c = λ messages. folds_ordered messages
