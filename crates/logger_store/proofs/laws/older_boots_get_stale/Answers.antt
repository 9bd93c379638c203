use Rattle.ft_model.proofs.Grows.{fenced_for_good}
use Rattle.logger_store.proofs.Fence.{stale_for_good}
use Rattle.logger_store.proofs.laws.older_boots_get_stale.Goals as goal

pub returns-clause-unchanged : goal.returns-clause-unchanged
returns-clause-unchanged c = λ log later hello message is grows older. fenced_for_good log later hello message is grows older

pub returns-clause-stale : goal.returns-clause-stale
returns-clause-stale c = λ log later hello message is grows older asks. stale_for_good log later hello message is grows older asks
