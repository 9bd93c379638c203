use Rattle.std.proofs.Common.{◌∙◌}
use Rattle.server_trait.specs.Service.{machine}
use Rattle.reincarnate.proofs.MarkLaw.{any_asked_is}
use Rattle.reincarnate.proofs.fetching.Fetching.question.Goals as goal

pub returns-clause-law : goal.returns-clause-law
returns-clause-law g c so_far st =
    c.ask.ensures.value ∙ any_asked_is (machine (g.S.Service.started c.args.self.now.kind) g.S.Service.after g.S.Service.greeting) c.args.self.now so_far st
