use Rattle.journal_laws.proofs.Dying.{after_opening}
use Rattle.journal_laws.proofs.what_was_answered_is_there.Goals as goal

pub returns : goal.returns
returns c = λ heeded begins file opening torn start local rounds done left starts empty all f l brings.
    after_opening heeded begins file opening torn start local rounds done left starts empty all f l brings
