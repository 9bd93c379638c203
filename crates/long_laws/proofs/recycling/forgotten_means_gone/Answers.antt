use Rattle.std.proofs.Common.{refl}
use Rattle.long_laws.specs.Forgetting.{forget, forgotten_message}
use Rattle.long_laws.proofs.ForgetLog.{forgotten_means_gone, gone_means_forgotten, not_done_no_answer, answers_older, answers_newer, answers_nothing}
use Rattle.long_laws.proofs.recycling.forgotten_means_gone.Goals as goal

pub returns-clause-only : goal.returns-clause-only
returns-clause-only c = forgotten_means_gone

pub returns-clause-always : goal.returns-clause-always
returns-clause-always c = gone_means_forgotten

pub returns-clause-not_done : goal.returns-clause-not_done
returns-clause-not_done c = not_done_no_answer

pub returns-clause-older : goal.returns-clause-older
returns-clause-older c = λ log boot n older. answers_older log (forget boot n) refl older

pub returns-clause-newer : goal.returns-clause-newer
returns-clause-newer c = answers_newer

pub returns-clause-answers : goal.returns-clause-answers
returns-clause-answers c = λ log boot n. answers_nothing log (forgotten_message boot n) refl
