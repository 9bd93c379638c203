use Rattle.server_trait.specs.Service.{machine}
use Rattle.north_wrap.proofs.Offline.{begins_here}
use Rattle.north_wrap.proofs.laws.it_begins_where_it_was_replayed.Goals as goal

pub returns : goal.returns
returns g c fresh p given n h = begins_here (machine fresh g.S.Service.after g.S.Service.greeting) p given n h
