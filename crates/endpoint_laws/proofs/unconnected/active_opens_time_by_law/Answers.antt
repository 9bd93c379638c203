use Rattle.endpoint_laws.proofs.NoConnection.{syn_sent_times_law}
use Rattle.endpoint_laws.proofs.unconnected.active_opens_time_by_law.Goals as goal

pub returns : goal.returns
returns c = λ iss limit news calls e connecting may still. syn_sent_times_law iss limit news calls e connecting may still
