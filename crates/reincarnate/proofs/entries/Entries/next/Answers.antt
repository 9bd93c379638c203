use Rattle.server_trait.specs.Service.{machine}
use Rattle.reincarnate.proofs.EntriesLaw.{next_stands}
use Rattle.reincarnate.proofs.entries.Entries.next.Goals as goal

pub returns-clause-law : goal.returns-clause-law
returns-clause-law g c fresh fetched st =
    next_stands (machine fresh g.S.Service.after g.S.Service.greeting) fetched c.args.self.now c.take_next.new.self c.take_next.result st c.take_next.ensures.value c.take_next.ensures.rest
