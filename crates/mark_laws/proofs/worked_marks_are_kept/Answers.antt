use Rattle.std.proofs.Common.{refl}
use Rattle.mark_laws.specs.MarkedLog.{after_mark, answer_to_mark}
use Rattle.mark_laws.proofs.worked_marks_are_kept.Goals as goal

pub returns-clause-kept : goal.returns-clause-kept
unfolding after_mark
returns-clause-kept c = refl

pub returns-clause-answer : goal.returns-clause-answer
unfolding after_mark answer_to_mark
returns-clause-answer c = refl

pub returns-clause-fewer : goal.returns-clause-fewer
unfolding after_mark
returns-clause-fewer c = refl

pub returns-clause-fewer_answer : goal.returns-clause-fewer_answer
unfolding after_mark answer_to_mark
returns-clause-fewer_answer c = refl

pub returns-clause-other_sum : goal.returns-clause-other_sum
unfolding after_mark
returns-clause-other_sum c = refl

pub returns-clause-other_answer : goal.returns-clause-other_answer
unfolding after_mark answer_to_mark
returns-clause-other_answer c = refl

pub returns-clause-beyond : goal.returns-clause-beyond
unfolding after_mark
returns-clause-beyond c = refl

pub returns-clause-held : goal.returns-clause-held
unfolding after_mark answer_to_mark
returns-clause-held c = refl
