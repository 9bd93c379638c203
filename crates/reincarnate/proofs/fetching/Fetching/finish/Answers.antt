use Rattle.std.proofs.Common.{◌∙◌, ◌++◌, ap, subst, sym, reverse}
use Rattle.std.specs.Option.{option_to_list}
use Rattle.server_trait.specs.Service.{machine}
use Rattle.reincarnate.specs.Refinement.{StandsWhole}
use Rattle.reincarnate.proofs.EntriesLaw.{finished}
use Rattle.reincarnate.proofs.fetching.Fetching.finish.Goals as goal

pub returns-clause-law : goal.returns-clause-law
returns-clause-law g c fetched st =
    subst (StandsWhole (machine (g.S.Service.started c.args.self.kind) g.S.Service.after g.S.Service.greeting) (reverse fetched))
    (sym (c.begin.ensures ∙ ap (λ s. reverse s.earlier ++ option_to_list s.newest) c.self.view_is))
    (finished (machine (g.S.Service.started c.args.self.kind) g.S.Service.after g.S.Service.greeting) c.args.self fetched c.requires st)
