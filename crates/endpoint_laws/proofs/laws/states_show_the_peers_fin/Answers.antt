use Rattle.tcp_endpoint.specs.SendHalf.{fin_acked}
use Rattle.endpoint_laws.proofs.Ends.{fin_by_name}
use Rattle.endpoint_laws.proofs.laws.states_show_the_peers_fin.Goals as goal

pub returns : goal.returns
returns c = λ e begun named. fin_by_name e.name e.sending.syn_acked e.sending.closed e.receiving.fin (fin_acked e.sending) begun named
