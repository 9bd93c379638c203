use Rattle.reincarnate.proofs.Questions.{hello_askable}
use Rattle.reincarnate.proofs.asked.Asked.question.Goals as goal

pub returns-clause-sendable : goal.returns-clause-sendable
returns-clause-sendable c = λ grammar. hello_askable grammar c.self.inside.boot c.self.invariant c.fit_boot.ensures
