use Rattle.std.proofs.Common.{refl}
use Rattle.server_trait.specs.Service.{machine}
use Rattle.ft_model.specs.Node.Input.{Packet_comes}
use Rattle.lasting_lives.proofs.Released.{lives_released}
use Rattle.lasting_lives.proofs.laws.what_is_known_outlasts_a_packet.Goals as goal

pub returns : goal.returns
returns g c = λ kind n segment next opened places sent lives at was turn st.
    lives_released (machine (g.S.Service.started kind) g.S.Service.after g.S.Service.greeting) n (Packet_comes segment) next opened places sent lives at refl was turn st
