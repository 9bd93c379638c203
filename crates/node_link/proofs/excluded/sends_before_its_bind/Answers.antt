use Rattle.std.proofs.Common.{subst}
use Rattle.std.specs.Prelude.{IfErr}
use Rattle.std.proofs.lemmas.Result.{on_ok_weaker}
use Rattle.ft_model.specs.Legal.{machines}
use Rattle.node_link.specs.ServerLife.{ServerStops}
use Rattle.node_link.specs.ServerTurns.{server_calls}
use Rattle.node_link.proofs.excluded.sends_before_its_bind.Goals as goal

pub returns-clause-bound : goal.returns-clause-bound
returns-clause-bound g c = on_ok_weaker c.run_server.result (λ is. (server_calls c.args.role.now.loggers is.at_boot is.turns, is.reports)) c.run_server.ensures.done

pub returns-clause-unreported : goal.returns-clause-unreported
returns-clause-unreported g c = λ failed.
    (subst (λ r. IfErr r (ServerStops (machines g.S.Service.started g.S.Service.after g.S.Service.greeting) c.args.role.now (g.L.Link.reported c.args.link.now) (g.L.Link.reported c.run_server.new.link)
    (g.O.Sink.taken c.args.out.now) (g.O.Sink.taken c.run_server.new.out))) failed c.run_server.ensures.stops).0
