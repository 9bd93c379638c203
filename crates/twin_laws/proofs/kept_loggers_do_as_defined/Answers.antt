use Rattle.twin_laws.proofs.StoredParts.{head_does_so, tail_does_so}
use Rattle.twin_laws.proofs.kept_loggers_do_as_defined.Goals as goal

pub returns-clause-head : goal.returns-clause-head
returns-clause-head c = head_does_so

pub returns-clause-tail : goal.returns-clause-tail
returns-clause-tail c = tail_does_so
