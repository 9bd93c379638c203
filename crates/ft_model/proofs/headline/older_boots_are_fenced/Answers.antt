use Rattle.ft_model.proofs.Grows.{fenced_for_good}
use Rattle.ft_model.proofs.headline.older_boots_are_fenced.Goals as goal

pub returns : goal.returns
returns c = λ log later hello message is_hello grows older. fenced_for_good log later hello message is_hello grows older
