use Rattle.long_laws.proofs.done_keys_come_again.Goals as goal
use Rattle.long_laws.proofs.Again.{comes_again}

pub returns : goal.returns
returns a = λ w c down done new own. comes_again w c down done new own
