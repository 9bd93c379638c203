use Rattle.ft_model.proofs.laws.shut_windows_pass_acknowledgements.Goals as goal
use Rattle.ft_model.proofs.ShutWindow.{shut_uses, shut_takes, shut_needs_ack}

pub returns-clause-used : goal.returns-clause-used
returns-clause-used c = shut_uses

pub returns-clause-not_taken : goal.returns-clause-not_taken
returns-clause-not_taken c = shut_takes

pub returns-clause-ack_pending : goal.returns-clause-ack_pending
returns-clause-ack_pending c = shut_needs_ack
