use Rattle.std.proofs.Common.{◌≡◌, ◌∙◌, sym}
use Rattle.kept_log.proofs.Blocks.{front_push}
use Rattle.kept_log.proofs.journal_laws.what_is_kept_stays.Goals as goal

pub returns : goal.returns
returns c = λ made bodies body left l. l ∙ sym (front_push made bodies body)
