use Rattle.long_laws.proofs.done.done_means_over_in_long_traces.Goals as goal
use Rattle.server_trait.specs.Service.{machine}
use Rattle.long_laws.proofs.DoneLong.{long_over, recycled_over}

pub returns : goal.returns
returns g c = record {
  now = λ kind start trace joint. long_over (machine (g.S.Service.started kind) g.S.Service.after g.S.Service.greeting) (g.met.S.Service.greets_shortly (g.S.Service.started kind), g.met.S.Service.is_short) start trace joint;
  recycled = λ kind start moment earlier key joint is e found.
      recycled_over (machine (g.S.Service.started kind) g.S.Service.after g.S.Service.greeting) (g.met.S.Service.greets_shortly (g.S.Service.started kind), g.met.S.Service.is_short) start moment earlier key joint is e found;
}
