use Rattle.journal_laws.proofs.Dying.{in_opening}
use Rattle.journal_laws.proofs.an_opening_takes_nothing.Goals as goal

pub returns : goal.returns
returns c = λ heeded file made bodies opening done tip log left whole has f l brings. in_opening heeded file made bodies opening done tip log left whole has f l brings
