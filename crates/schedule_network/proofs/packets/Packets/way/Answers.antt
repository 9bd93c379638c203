use Rattle.std.proofs.Common.{arith}
use Rattle.schedule_network.proofs.Numbered.{none_at}
use Rattle.schedule_network.proofs.packets.Packets.way.Goals as goal

pub returns-then-n-eq0 : goal.returns-then-n-eq0
returns-then-n-eq0 c = none_at c.args.self.now.ways c.args.n (omega arith)
