use Rattle.std.proofs.Common.{refl}
use Rattle.ft_model.specs.Network.Packet.{To_logger}
use Rattle.journal_laws.proofs.an_answer_is_a_delivery.Goals as goal

pub returns : goal.returns
returns g c = λ kind number world message is. (To_logger message, is, (refl, refl))
