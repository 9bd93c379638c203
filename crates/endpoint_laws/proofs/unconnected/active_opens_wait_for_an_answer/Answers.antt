use Rattle.endpoint_laws.proofs.NoConnection.{syn_sent_states_law}
use Rattle.endpoint_laws.proofs.unconnected.active_opens_wait_for_an_answer.Goals as goal

pub returns : goal.returns
returns c = λ iss limit news e connecting. syn_sent_states_law iss limit news e connecting
