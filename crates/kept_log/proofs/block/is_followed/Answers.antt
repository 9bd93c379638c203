use Rattle.std.proofs.Common.{◌≡◌, length, arith, rules}
use Rattle.kept_log.proofs.Starts.{none_followed}
use Rattle.kept_log.proofs.block.is_followed.Goals as goal

pub returns-clause-none : goal.returns-clause-none
returns-clause-none c = λ same.
    let salt : length c.args.tip.now.salt ≡ 16 = search rules in
    none_followed c.args.tip.now c.args.bytes.now salt (λ at few mark. c.loop-at.invariant at (omega (arith, few, c.loop-at-test.false, c.loop-at.auto.at-end)) mark)
