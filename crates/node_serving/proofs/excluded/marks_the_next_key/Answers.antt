use Rattle.std.proofs.lemmas.Result.{on_ok_weaker}
use Rattle.node_serving.proofs.excluded.marks_the_next_key.Goals as goal

pub returns : goal.returns
returns g c = on_ok_weaker c.mark_key.result (λ h. h.others c.args.other c.requires.other) c.mark_key.ensures.alone
