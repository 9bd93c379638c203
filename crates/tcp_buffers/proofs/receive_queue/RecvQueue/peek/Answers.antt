use Rattle.std.proofs.Common.{◌++◌, ap, length, ◌∙◌, take, drop}
use Rattle.std.specs.Prelude.{min}
use Rattle.tcp_buffers.specs.Queue.{Queue}
use Rattle.tcp_buffers.proofs.QueueFields.{peek_is}
use Rattle.tcp_buffers.proofs.receive_queue.RecvQueue.peek.Goals as goal

pub returns-clause-bytes : goal.returns-clause-bytes
returns-clause-bytes c =
    peek_is c.self.inside.bytes.items c.args.out.now c.copy_behind.new.out c.self.inside.in_order c.args.from c.min-most.result c.copy_behind.result c.self.invariant.1.within
    (c.min-most.ensures ∙ ap (λ k. min k (length c.args.out.now)) c.saturating_sub.ensures) c.copy_behind.ensures.count c.copy_behind.ensures.bytes
    ∙ ap (λ (q : Queue). take c.copy_behind.result (drop c.args.from q.unread) ++ drop c.copy_behind.result c.args.out.now) c.self.view_is
