use Rattle.ft_model.specs.Legal.{machines}
use Rattle.ft_model.proofs.Readable.{legal_readable}
use Rattle.ft_model.proofs.report.legal_turns_are_readable.Goals as goal

pub returns : goal.returns
returns g c = λ schedule trace fits l.
    legal_readable (machines g.S.Service.started g.S.Service.after g.S.Service.greeting) (λ kind. (g.met.S.Service.greets_shortly (g.S.Service.started kind), g.met.S.Service.is_short)) g.met.S.Service.writes_bytes schedule trace fits l
