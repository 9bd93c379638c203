use Rattle.server_trait.specs.Service.{machine}
use Rattle.reincarnate.proofs.EntriesLaw.{first_stands}
use Rattle.reincarnate.proofs.entries.Entries.advance.Goals as goal

pub returns-clause-law : goal.returns-clause-law
returns-clause-law g c fresh fetched st =
    first_stands (machine fresh g.S.Service.after g.S.Service.greeting) fetched c.args.self.now c.take_first.new.self c.take_first.result st c.take_first.ensures.value c.take_first.ensures.rest
