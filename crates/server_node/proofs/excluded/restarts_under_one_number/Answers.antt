use Rattle.std.proofs.lemmas.Result.{on_ok_weaker}
use Rattle.server_node.proofs.excluded.restarts_under_one_number.Goals as goal

pub returns : goal.returns
returns g c =
    on_ok_weaker c.restore.result
    (λ turns standing f earlier first is live sound fresh before. (turns standing f earlier first is (λ _. sound) fresh before).numbers.0 live) c.restore.ensures.turn
