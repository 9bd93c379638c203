use Rattle.server_trait.specs.Service.{machine}
use Rattle.twin_laws.proofs.Flattening.{flattens}
use Rattle.twin_laws.proofs.TraceBytes.{is_sent, is_paired}
use Rattle.twin_laws.proofs.flat_traces_show_all.Goals as goal

pub returns-clause-world : goal.returns-clause-world
returns-clause-world g c = λ kind start trace is. (flattens (machine (g.S.Service.started kind) g.S.Service.after g.S.Service.greeting) start trace is).world

pub returns-clause-sent : goal.returns-clause-sent
returns-clause-sent g c = λ kind number start trace packet is at. is_sent (machine (g.S.Service.started kind) g.S.Service.after g.S.Service.greeting) start trace number packet is at

pub returns-clause-pair : goal.returns-clause-pair
returns-clause-pair g c = λ kind start trace is. is_paired (machine (g.S.Service.started kind) g.S.Service.after g.S.Service.greeting) start trace is
