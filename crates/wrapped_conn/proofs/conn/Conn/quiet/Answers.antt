use Rattle.std.proofs.Common.{sym, subst}
use Rattle.server_trait.specs.Service.{machine}
use Rattle.wrapped_conn.specs.Quiet.{ReportsQuiet}
use Rattle.wrapped_conn.proofs.Quieting.{reports_quiet}
use Rattle.wrapped_conn.proofs.conn.Conn.quiet.Goals as goal

pub returns-clause-law : goal.returns-clause-law
returns-clause-law g c = λ fresh p sound st.
    subst (ReportsQuiet (machine fresh g.S.Service.after g.S.Service.greeting) p) (sym c.numbers_if_quiet.ensures)
    (reports_quiet (machine fresh g.S.Service.after g.S.Service.greeting) p c.args.self.now g.met.S.Service.closes sound st)
