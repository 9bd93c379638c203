use Rattle.std.proofs.Common.{refl}
use Rattle.long_laws.specs.Forgetting.{after_forget, answer_to_forget}
use Rattle.long_laws.proofs.worked.worked_forgets_recycle_once.Goals as goal

pub returns : goal.returns
unfolding after_forget answer_to_forget
returns c = record { recycles = refl; answer = refl; early = refl; early_answer = refl; late = refl; late_answer = refl }
