-- Each turn is lawful: each equation computes.
use Rattle.std.proofs.Common.{refl}
use Rattle.tcp_rules.specs.Profile.{plain}
use Rattle.ft_model.specs.News.News.{Comes}
use Rattle.ft_model.specs.Node.{booted}
use Rattle.ft_model.specs.Lawful.{Lawful, hello}
use Rattle.ft_model.specs.WorkedRuns.Common.{echo, server}
use Rattle.ft_model.specs.WorkedRuns.ClientKnowsMore as run
use Rattle.ft_model.specs.WorkedRuns.RestartFromHello as start
use Rattle.ft_model.proofs.RestartFromHello.{Turns, asks_entry, asks_lengths, asks_bytes, serves_again}
use Rattle.ft_model.proofs.Turns.{laws, goes, serves}

restart_5 : Turns echo start.serves_again.node run.restart_5
unfolding laws
restart_5 = serves echo 2 900000 run.restart_5.input start.restarted start.resumed run.restart_5.sent refl refl refl (start.resumed, refl, goes echo server 2 (Comes run.known) start.restarted start.resumed run.restart_5.sent refl refl refl refl)

restart_6 : Turns echo run.restart_5.node run.restart_6
unfolding laws
restart_6 = serves echo 2 900000 run.restart_6.input start.resumed start.acknowledged run.restart_6.sent refl refl refl (start.acknowledged, refl, goes echo server 2 (Comes run.known) start.resumed start.acknowledged run.restart_6.sent refl refl refl refl)

pub restart_is_lawful : Lawful echo server plain 2 900000 (hello (booted server plain 2 900000)) run.restart_turns
restart_is_lawful = (refl, ((((((tt, asks_entry echo), asks_lengths echo), asks_bytes echo), serves_again), restart_5), restart_6))
