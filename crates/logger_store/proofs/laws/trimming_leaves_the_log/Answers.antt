use Rattle.logger_store.proofs.LeftLogs.{trim_left}
use Rattle.logger_store.proofs.laws.trimming_leaves_the_log.Goals as goal

pub returns : goal.returns
returns c = λ t log i bytes reads left in_trims may within. trim_left t log i bytes reads left in_trims may within
