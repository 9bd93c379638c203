use Rattle.server_trait.specs.Service.{machine}
use Rattle.lasting_lives.proofs.Restarted.{restart_ends}
use Rattle.lasting_lives.proofs.laws.restarts_end_with_what_is_known.Goals as goal

pub returns : goal.returns
returns g c = λ kind n message later count opened fetched places sent mid next at unfenced serves d turn empty noted restored_so.
    restart_ends (machine (g.S.Service.started kind) g.S.Service.after g.S.Service.greeting) n message later count opened fetched places sent mid next at unfenced serves d turn empty noted restored_so
