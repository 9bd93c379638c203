use Rattle.kept_log.proofs.laws.what_stands_is_opened.Goals as goal
use Rattle.kept_log.proofs.Lives.{stands_whole}

pub returns : goal.returns
returns c = λ file made bodies stands torn. stands_whole file made bodies stands torn
