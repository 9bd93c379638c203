use Rattle.long_laws.proofs.refused.entries_that_are_not_done_are_not_recycled.Goals as goal
use Rattle.long_laws.proofs.RefusedSteps.{not_recycled, not_done}

pub returns : goal.returns
returns c = record { always = λ key w e found undone may. not_recycled key w e found undone may; worked = not_done }
