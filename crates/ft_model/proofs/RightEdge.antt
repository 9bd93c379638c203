-- Each turn is lawful: each equation computes.
use Rattle.std.proofs.Common.{refl}
use Rattle.tcp_rules.specs.Profile.{plain}
use Rattle.ft_model.specs.News.News.{Comes}
use Rattle.ft_model.specs.Node.{booted}
use Rattle.ft_model.specs.Lawful.{Lawful, hello}
use Rattle.ft_model.specs.WorkedRuns.Common.{echo, server}
use Rattle.ft_model.specs.WorkedRuns.ZeroWindow as before
use Rattle.ft_model.specs.WorkedRuns.RightEdge as run
use Rattle.ft_model.proofs.Turns.{laws, goes, serves}
use Rattle.ft_model.proofs.ZeroWindow.{Happens, probe_1, probe_2, probe_3, probe_4}

edge_5 : Happens before.probe_4.node run.edge_5
unfolding laws
edge_5 = serves echo 1 5000 run.edge_5.input before.opened run.given run.edge_5.sent refl refl refl (run.given, refl, goes echo server 1 (Comes run.bare) before.opened run.given run.edge_5.sent refl refl refl refl)

edge_6 : Happens run.edge_5.node run.edge_6
unfolding laws
edge_6 = serves echo 1 5000 run.edge_6.input run.given run.given run.edge_6.sent refl refl refl (run.given, refl, goes echo server 1 (Comes run.reset) run.given run.given run.edge_6.sent refl refl refl refl)

beyond_5 : Happens before.probe_4.node run.beyond_5
unfolding laws
beyond_5 = serves echo 1 5000 run.beyond_5.input before.opened before.opened run.beyond_5.sent refl refl refl (before.opened, refl, goes echo server 1 (Comes run.beyond) before.opened before.opened run.beyond_5.sent refl refl refl refl)

pub edge_is_lawful : Lawful echo server plain 1 5000 (hello (booted server plain 1 5000)) run.edge_turns
edge_is_lawful = (refl, ((((((tt, probe_1), probe_2), probe_3), probe_4), edge_5), edge_6))

pub beyond_is_lawful : Lawful echo server plain 1 5000 (hello (booted server plain 1 5000)) run.beyond_turns
beyond_is_lawful = (refl, (((((tt, probe_1), probe_2), probe_3), probe_4), beyond_5))
