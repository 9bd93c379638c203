use Rattle.std.proofs.Common.{refl}
use Rattle.ft_model.specs.Legal.{machines}
use Rattle.server_trait.specs.Service.{no_greeting}
use Rattle.twin_laws.proofs.WorkedStop.{is_legal, survivor, stopped, flat_is}
use Rattle.twin_laws.proofs.worked_stop_is_legal.Goals as goal

pub returns-clause-legal : goal.returns-clause-legal
returns-clause-legal g c = is_legal (machines g.S.Service.started g.S.Service.after no_greeting)

pub returns-clause-serving : goal.returns-clause-serving
returns-clause-serving g c = survivor

pub returns-clause-stopped : goal.returns-clause-stopped
returns-clause-stopped g c = stopped

pub returns-clause-node : goal.returns-clause-node
returns-clause-node g c = refl

pub returns-clause-flat : goal.returns-clause-flat
returns-clause-flat g c = flat_is
