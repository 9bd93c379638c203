use Rattle.std.proofs.Common.{ap, arith}
use Rattle.tcp_rules.specs.Early.{run_count}
use Rattle.tcp_buffers.specs.Queue.{Queue}
use Rattle.tcp_buffers.proofs.QueueFields.{run_count_shown}
use Rattle.tcp_buffers.proofs.receive_queue.RecvQueue.few.Goals as goal

pub returns : goal.returns
returns c = omega (arith, ap (λ (q : Queue). run_count q.early) c.self.view_is, run_count_shown c.self.inside.bytes.items c.self.inside.in_order c.self.inside.early c.self.invariant.1, c.is_empty-none.ensures.few)
