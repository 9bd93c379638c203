use Rattle.std.proofs.lemmas.Result.{on_ok_weaker}
use Rattle.lasting_world.specs.Around.{kept_around}
use Rattle.lasting_world.proofs.Answering.{reports_log}
use Rattle.lasting_world.proofs.surroundings.Surroundings.deliver_to_log.Goals as goal

pub returns : goal.returns
returns c =
    on_ok_weaker c.keep_answer.result
    (λ st. reports_log c.args.bytes.now _ (kept_around c.args.self.now) (kept_around c.take.new.self) _ c.in_ok-take.ensures.taken c.in_ok-take.ensures.answer st) c.keep_answer.ensures
