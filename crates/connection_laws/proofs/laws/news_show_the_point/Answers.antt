use Rattle.server_trait.specs.Service.{machine}
use Rattle.connection_laws.proofs.PointNumbers.{news_show}
use Rattle.connection_laws.proofs.laws.news_show_the_point.Goals as goal

pub returns : goal.returns
returns g c = λ fresh u i delta given news p n e stand fits off. news_show (machine fresh g.S.Service.after g.S.Service.greeting) u i delta given news p n e stand fits off
