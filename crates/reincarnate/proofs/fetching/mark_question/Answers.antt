use Rattle.reincarnate.proofs.Questions.{ask_spellable}
use Rattle.reincarnate.proofs.fetching.mark_question.Goals as goal

pub returns-clause-sendable : goal.returns-clause-sendable
returns-clause-sendable c = ask_spellable c.args.boot c.args.key c.requires c.fit_boot.ensures c.fit_key.ensures
