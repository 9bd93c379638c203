use Rattle.server_trait.specs.Service.{machine}
use Rattle.mark_laws.proofs.MarksSent.{is_quiet_there, quiet_where_it_is}
use Rattle.mark_laws.proofs.marking.quiet_points_are_found.Goals as goal

pub returns : goal.returns
returns g c = λ fresh p. (quiet_where_it_is (machine fresh g.S.Service.after g.S.Service.greeting) p, is_quiet_there (machine fresh g.S.Service.after g.S.Service.greeting) p)
