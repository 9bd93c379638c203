use Rattle.kept_log.proofs.laws.a_file_has_one_log.Goals as goal
use Rattle.kept_log.proofs.Once.{one_log}

pub returns : goal.returns
returns c = λ file made time bodies others messages more calls called whole kept found also. one_log file made time bodies others messages more calls called whole kept found also
