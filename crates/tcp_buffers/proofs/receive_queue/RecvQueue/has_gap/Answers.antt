use Rattle.std.proofs.Common.{ap, ◌∙◌, sym, drop}
use Rattle.tcp_rules.specs.Early.{front_run}
use Rattle.tcp_buffers.specs.Queue.{Queue}
use Rattle.tcp_buffers.proofs.Marked.{front_is_open}
use Rattle.tcp_buffers.proofs.receive_queue.RecvQueue.has_gap.Goals as goal

pub returns : goal.returns
returns c =
    ap (λ (q : Queue). front_run q.early) (sym c.self.view_is)
    ∙ front_is_open c.self.inside.early (drop c.self.inside.in_order c.self.inside.bytes.items) c.self.invariant.1.apart
