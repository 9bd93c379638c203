use Rattle.std.proofs.Common.{refl}
use Rattle.ft_model.specs.Reads.{may_read}
use Rattle.ft_model.specs.Timer.{interval_after, rest_after}
use Rattle.plain_connection.proofs.laws.plain_turns_are_the_models.Goals as goal

pub returns : goal.returns
unfolding interval_after rest_after may_read
returns g c = record { interval = λ news before after. refl; rest = λ kind news before after. refl; reads = λ kind p. refl }
