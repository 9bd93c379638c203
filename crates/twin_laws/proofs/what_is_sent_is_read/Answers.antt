use Rattle.twin_laws.proofs.Asking.{forward_is_read, got_is_read}
use Rattle.twin_laws.proofs.what_is_sent_is_read.Goals as goal

pub returns-clause-forward : goal.returns-clause-forward
returns-clause-forward c = forward_is_read

pub returns-clause-got : goal.returns-clause-got
returns-clause-got c = got_is_read
