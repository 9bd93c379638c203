use Rattle.twin_laws.specs.Pair.{new_pair, pair_over}
use Rattle.twin_laws.proofs.Steps.{start, acts, stands_over}
use Rattle.twin_laws.proofs.two_loggers_act_as_one.Goals as goal

pub returns : goal.returns
returns c = λ deliveries. acts (pair_over new_pair deliveries) (stands_over new_pair deliveries start)
