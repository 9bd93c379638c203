use Rattle.kept_log.proofs.laws.a_life_keeps_its_rounds.Goals as goal
use Rattle.kept_log.proofs.Lives.{life_keeps}

pub returns : goal.returns
returns c = λ file left made bodies rounds last calls done small whole f l brings. life_keeps file left made bodies rounds last calls done small whole f l brings
