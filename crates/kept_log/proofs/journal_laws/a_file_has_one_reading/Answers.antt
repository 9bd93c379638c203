use Rattle.kept_log.proofs.journal_laws.a_file_has_one_reading.Goals as goal
use Rattle.kept_log.proofs.OneReading.{reads_once}

pub returns : goal.returns
returns c = λ file made time bodies others small also a b. reads_once file made time bodies others small also a b
