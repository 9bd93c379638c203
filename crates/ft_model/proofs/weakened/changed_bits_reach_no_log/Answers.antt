use Rattle.ft_model.proofs.ChangedBit as changed
use Rattle.ft_model.proofs.weakened.changed_bits_reach_no_log.Goals as goal

pub returns : goal.returns
returns c = record { wrong_once = changed.wrong_once; not_the_clients = changed.not_the_clients }
