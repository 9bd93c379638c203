use Rattle.twin_laws.proofs.CatchingUp.{what_waits_comes_up, forwards_repeated, forwards_when_full}
use Rattle.twin_laws.proofs.what_waits_is_forwarded_again.Goals as goal

pub returns-clause-arrives : goal.returns-clause-arrives
returns-clause-arrives c = what_waits_comes_up

pub returns-clause-repeated : goal.returns-clause-repeated
returns-clause-repeated c = forwards_repeated

pub returns-clause-full : goal.returns-clause-full
returns-clause-full c = forwards_when_full
