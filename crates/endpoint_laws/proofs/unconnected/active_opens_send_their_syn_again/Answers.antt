use Rattle.endpoint_laws.proofs.NoConnection.{syn_sent_sends_law}
use Rattle.endpoint_laws.proofs.unconnected.active_opens_send_their_syn_again.Goals as goal

pub returns : goal.returns
returns c = λ iss limit news calls e connecting may unbegun. syn_sent_sends_law iss limit news calls e connecting may unbegun
