use Rattle.kept_log.proofs.laws.a_first_life_keeps_its_rounds.Goals as goal
use Rattle.kept_log.proofs.Lives.{first_life_keeps}

pub returns : goal.returns
returns c = λ left made rounds last done time small f l brings. first_life_keeps left made rounds last done time small f l brings
