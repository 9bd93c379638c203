use Rattle.std.proofs.Common.{ap, ◌∙◌}
use Rattle.server_trait.specs.Service.{machine}
use Rattle.wrapped_conn.proofs.Quieting.{service_is}
use Rattle.wrapped_conn.proofs.conn.Conn.service.Goals as goal

pub returns-clause-law : goal.returns-clause-law
returns-clause-law g c = λ fresh p st.
    c.service.ensures.value ∙ (ap (λ x. x.north.run.service) c.self.view_is ∙ service_is (machine fresh g.S.Service.after g.S.Service.greeting) p c.args.self.now st)
