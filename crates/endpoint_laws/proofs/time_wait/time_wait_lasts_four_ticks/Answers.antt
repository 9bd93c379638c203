use Rattle.endpoint_laws.proofs.Waiting.{wait_law}
use Rattle.endpoint_laws.proofs.time_wait.time_wait_lasts_four_ticks.Goals as goal

pub returns : goal.returns
returns c = λ news calls turns e begun between named out there. wait_law news calls turns e begun between named out there
