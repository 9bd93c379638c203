use Rattle.server_trait.specs.Service.{machine}
use Rattle.std.proofs.Common.{refl}
use Rattle.ft_model.specs.Node.Input.{Packet_comes, Noise_comes, Tick_comes}
use Rattle.lasting_lives.proofs.Kept.{calm_lives}
use Rattle.lasting_lives.proofs.laws.what_is_known_stays_true.Goals as goal

pub returns-clause-packet : goal.returns-clause-packet
returns-clause-packet g c = λ kind n segment later opened places sent lives at was now turn st. calm_lives (machine (g.S.Service.started kind) g.S.Service.after g.S.Service.greeting) n (Packet_comes segment) later opened places sent lives at refl was now turn st

pub returns-clause-noise : goal.returns-clause-noise
returns-clause-noise g c = λ kind n later opened places sent lives at was now turn st. calm_lives (machine (g.S.Service.started kind) g.S.Service.after g.S.Service.greeting) n Noise_comes later opened places sent lives at refl was now turn st

pub returns-clause-tick : goal.returns-clause-tick
returns-clause-tick g c = λ kind n later opened places sent lives at was now turn st. calm_lives (machine (g.S.Service.started kind) g.S.Service.after g.S.Service.greeting) n Tick_comes later opened places sent lives at refl was now turn st
