use Rattle.ft_model.proofs.worked_runs.crash_before_syn_ack_is_lawful.Goals as goal
use Rattle.ft_model.proofs.CrashBeforeSynAck.{restart_is_lawful}

pub returns : goal.returns
returns c = restart_is_lawful
