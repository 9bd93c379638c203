use Rattle.std.proofs.Common.{refl}
use Rattle.logger_store.proofs.LeftLogs.{after_left, none_trimmed, more_acknowledged}
use Rattle.logger_store.proofs.laws.trimmed_logs_follow.Goals as goal

pub returns-clause-first : goal.returns-clause-first
returns-clause-first c = record { boot = refl; entries = none_trimmed 64 }

pub returns-clause-acknowledged : goal.returns-clause-acknowledged
returns-clause-acknowledged c = λ t log key units left. more_acknowledged t log key units left

pub returns-clause-next : goal.returns-clause-next
returns-clause-next c = λ t log message left. after_left t log message left
