use Rattle.std.proofs.Common.{◌≡◌, ◌∙◌}
use Rattle.kept_log.proofs.journal_laws.mending_keeps_the_blocks.Goals as goal
use Rattle.kept_log.proofs.Deaths.{mended, mended_rests}

pub returns-clause-any_moment : goal.returns-clause-any_moment
returns-clause-any_moment c = λ file left made bodies done stands f l brings. mended file (λ c. c ≡ file) made bodies stands (λ c is. is) done left f l brings

pub returns-clause-rests : goal.returns-clause-rests
returns-clause-rests c = λ file left made bodies stands l.
    let rest = mended_rests file (λ c. c ≡ file) made bodies stands (λ c is. is) in
    rest.only left l ∙ rest.is
