use Rattle.tcp_rules.proofs.ComingKeeps.{behind_within, stays_behind, comes_within, fin_within}
use Rattle.tcp_rules.proofs.laws.coming_keeps_to_the_edge.Goals as goal

pub returns-clause-behind : goal.returns-clause-behind
returns-clause-behind c n edge fin early first text has_fin s = stays_behind n edge fin early first text has_fin (behind_within n edge fin early s) s

pub returns-clause-bytes : goal.returns-clause-bytes
returns-clause-bytes c = comes_within

pub returns-clause-fin : goal.returns-clause-fin
returns-clause-fin c = fin_within
