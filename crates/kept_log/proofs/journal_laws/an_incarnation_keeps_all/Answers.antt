use Rattle.kept_log.proofs.journal_laws.an_incarnation_keeps_all.Goals as goal
use Rattle.kept_log.proofs.Deaths.{keeps_all}

pub returns : goal.returns
returns c = λ file left made bodies kept last done stands small f l brings. keeps_all file left made bodies kept last done stands small f l brings
