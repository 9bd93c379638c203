use Rattle.ft_model.proofs.worked_runs.segment_while_restarting_is_lawful.Goals as goal
use Rattle.ft_model.proofs.SegmentWhileRestarting.{restart_is_lawful}

pub returns : goal.returns
returns c = restart_is_lawful
