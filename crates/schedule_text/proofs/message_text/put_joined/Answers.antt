use Rattle.std.proofs.Common.{rules}
use Rattle.std.proofs.lemmas.Result.{on_ok_weaker}
use Rattle.schedule_text.proofs.Lengths.{joined_more, two_first}
use Rattle.schedule_text.proofs.message_text.put_joined.Goals as goal

pub returns-clause-ok : goal.returns-clause-ok
returns-clause-ok c =
    on_ok_weaker c.put_others.result
    (λ e. joined_more c.args.lens.now _ _ _ _ _ _ _ (two_first c.args.lens.now (search rules)) c.length_of.ensures c.in_ok-put_digits.ensures.ok e)
    c.put_others.ensures.ok
