use Rattle.reincarnate.proofs.fetching.Fetching.ask_log.Goals as goal

pub returns-in-Some-clause-sendable : goal.returns-in-Some-clause-sendable
returns-in-Some-clause-sendable g c = λ grammar. c.in-Some.ensures.sendable grammar c.self.inside.boot c.self.invariant.0 c.fit_boot.ensures
