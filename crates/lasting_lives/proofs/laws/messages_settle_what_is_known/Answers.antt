use Rattle.server_trait.specs.Service.{machine}
use Rattle.lasting_lives.proofs.Reported.{reported_lives}
use Rattle.lasting_lives.proofs.laws.messages_settle_what_is_known.Goals as goal

pub returns : goal.returns
returns g c = λ kind n message later opened places sent lives next ends at was now unfenced turn ended settles st.
    reported_lives (machine (g.S.Service.started kind) g.S.Service.after g.S.Service.greeting) n message later opened places sent lives next ends at was now unfenced turn ended settles st
