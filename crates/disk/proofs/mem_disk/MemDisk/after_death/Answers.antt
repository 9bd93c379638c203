use Rattle.disk.proofs.Deaths.{may_be_left}
use Rattle.disk.proofs.mem_disk.MemDisk.after_death.Goals as goal

pub returns-clause-may_be : goal.returns-clause-may_be
returns-clause-may_be c = may_be_left c.args.death c.args.self.now.first c.in_ok-left.left.items c.args.self.now.calls c.in_ok-left.ensures
