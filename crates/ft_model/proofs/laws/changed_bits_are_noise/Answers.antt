use Rattle.server_trait.specs.Service.{machine}
use Rattle.ft_model.proofs.Happened.{flipped_keeps}
use Rattle.ft_model.proofs.laws.changed_bits_are_noise.Goals as goal

pub returns : goal.returns
returns g c = λ kind number bit before after sent h. flipped_keeps (machine (g.S.Service.started kind) g.S.Service.after g.S.Service.greeting) before number bit sent after h
