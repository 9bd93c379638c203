use Rattle.tcp_rules.proofs.ComingKeeps.{comes_shut, comes_ended, comes_bare}
use Rattle.tcp_rules.proofs.laws.nothing_comes.Goals as goal

pub returns-clause-shut : goal.returns-clause-shut
returns-clause-shut c = comes_shut

pub returns-clause-ended : goal.returns-clause-ended
returns-clause-ended c = comes_ended

pub returns-clause-bare : goal.returns-clause-bare
returns-clause-bare c = comes_bare
