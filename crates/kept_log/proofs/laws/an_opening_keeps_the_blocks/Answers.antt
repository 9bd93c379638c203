use Rattle.std.proofs.Common.{◌∙◌}
use Rattle.kept_log.proofs.laws.an_opening_keeps_the_blocks.Goals as goal
use Rattle.kept_log.proofs.Lives.{opened_rests, opening_keeps}

pub returns-clause-rests : goal.returns-clause-rests
returns-clause-rests c = λ file left made bodies calls whole l.
    let rest = opened_rests file made bodies calls whole in
    rest.only left l ∙ rest.is

pub returns-clause-any_moment : goal.returns-clause-any_moment
returns-clause-any_moment c = λ file left made bodies calls done whole f l brings. opening_keeps file left made bodies calls done whole f l brings
