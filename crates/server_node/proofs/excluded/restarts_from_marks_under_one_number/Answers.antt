use Rattle.std.proofs.lemmas.Result.{on_ok_weaker}
use Rattle.server_node.proofs.excluded.restarts_from_marks_under_one_number.Goals as goal

pub returns : goal.returns
returns g c =
    on_ok_weaker c.restore_marked.result
    (λ turns every standing marking f earlier first is live sound bytes fresh before.
    (turns every standing marking f earlier first is (λ _. sound) bytes fresh before).numbers.0 live) c.restore_marked.ensures.turn
