use Rattle.std.proofs.Common.{arith}
use Rattle.reincarnate.proofs.Questions.{list_askable}
use Rattle.reincarnate.proofs.fetching.Fetching.question_for_next.Goals as goal

pub returns-then-index-from-clause-sendable : goal.returns-then-index-from-clause-sendable
returns-then-index-from-clause-sendable g c =
    let few = c.self.invariant.1 in
    list_askable c.fetched-index.result (grind (arith, c.if-index-from.true, c.from.ensures, few))
