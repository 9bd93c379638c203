use Rattle.std.proofs.Common.{◌∙◌}
use Rattle.server_trait.specs.Service.{machine}
use Rattle.reincarnate.specs.Questions.{entries_of}
use Rattle.reincarnate.proofs.AnswerLaw.{heads_found}
use Rattle.reincarnate.proofs.fetching.Fetching.known.Goals as goal

pub returns-clause-law : goal.returns-clause-law
returns-clause-law g c fetched st =
    c.head_of.ensures ∙ heads_found (machine (g.S.Service.started c.args.self.now.kind) g.S.Service.after g.S.Service.greeting) c.args.key fetched (entries_of c.args.self.now) st.entries
