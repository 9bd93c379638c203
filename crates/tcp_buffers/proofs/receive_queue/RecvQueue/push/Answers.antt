use Rattle.std.proofs.Common.{ap, length, ◌∙◌, sym, eqb-true}
use Rattle.tcp_buffers.specs.Queue.{Queue}
use Rattle.tcp_buffers.proofs.QueueFields.{held_none}
use Rattle.tcp_buffers.proofs.receive_queue.RecvQueue.push.Goals as goal

pub append-requires : goal.append-requires
append-requires c =
    ap (λ (q : Queue). length q.early) (sym c.self.view_is)
    ∙ held_none c.self.inside.bytes.items c.self.inside.in_order c.self.inside.early c.self.invariant.1 (eqb-true _ _ (sym c.is_empty.ensures.none ∙ c.if-is_empty.true))
