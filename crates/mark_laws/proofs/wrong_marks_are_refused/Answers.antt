use Rattle.mark_laws.proofs.WrongMarks as wrong
use Rattle.mark_laws.proofs.wrong_marks_are_refused.Goals as goal

pub returns-clause-unacknowledged : goal.returns-clause-unacknowledged
returns-clause-unacknowledged c = wrong.unacknowledged

pub returns-clause-second : goal.returns-clause-second
returns-clause-second c = wrong.second

pub returns-clause-once_answered : goal.returns-clause-once_answered
returns-clause-once_answered c = wrong.once_answered
