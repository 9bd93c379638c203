use Rattle.ft_model.specs.Legal.{machines}
use Rattle.ft_model.proofs.WiresDetermine.{trace_reported}
use Rattle.ft_model.proofs.wire.wires_determine_traces.Goals as goal

pub returns : goal.returns
returns g c = λ grammar schedule other trace also named same l k e. trace_reported (machines g.S.Service.started g.S.Service.after g.S.Service.greeting) grammar schedule other trace also named same l k e
