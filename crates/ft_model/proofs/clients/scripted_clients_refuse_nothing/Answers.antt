use Rattle.ft_model.proofs.ClientKinds.{refuses_nothing, offers_nothing, live_refuses}
use Rattle.ft_model.proofs.clients.scripted_clients_refuse_nothing.Goals as goal

pub returns : goal.returns
returns c = record { refusal = refuses_nothing; offer = offers_nothing; live = live_refuses }
