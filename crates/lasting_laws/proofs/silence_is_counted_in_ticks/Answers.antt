use Rattle.lasting_laws.proofs.Watches.{receipt}
use Rattle.lasting_laws.proofs.silence_is_counted_in_ticks.Goals as goal

pub returns-clause-receipt : goal.returns-clause-receipt
returns-clause-receipt c = receipt
