use Rattle.std.proofs.Common.{refl}
use Rattle.ft_model.specs.Log.{answer_to, log_after}
use Rattle.mark_laws.specs.MarkedLog.{answer_above}
use Rattle.mark_laws.proofs.worked_questions_are_answered_above.Goals as goal

pub returns-clause-bytes_below : goal.returns-clause-bytes_below
unfolding answer_above answer_to log_after
returns-clause-bytes_below c = refl

pub returns-clause-bytes : goal.returns-clause-bytes
unfolding answer_above answer_to log_after
returns-clause-bytes c = refl

pub returns-clause-lengths_below : goal.returns-clause-lengths_below
unfolding answer_above answer_to log_after
returns-clause-lengths_below c = refl

pub returns-clause-lengths : goal.returns-clause-lengths
unfolding answer_above answer_to log_after
returns-clause-lengths c = refl
