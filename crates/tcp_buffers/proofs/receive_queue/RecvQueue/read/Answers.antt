use Rattle.std.proofs.Common.{◌-◌, ap, arith, ◌∙◌, take, drop, length-take}
use Rattle.tcp_buffers.specs.Queue.{Queue}
use Rattle.tcp_buffers.specs.Runs.{marked}
use Rattle.tcp_buffers.proofs.QueueFields.{read_shown}
use Rattle.tcp_buffers.proofs.receive_queue.RecvQueue.read.Goals as goal

pub returns-clause-state : goal.returns-clause-state
returns-clause-state c =
    ap (λ l. record { unread = take (c.self.inside.in_order - c.read_into-count.result) l; early = marked 0 c.self.inside.early (drop (c.self.inside.in_order - c.read_into-count.result) l) }) (ap (λ b. b.items) c.read_into-count.ensures.items)
    ∙ read_shown c.self.inside.bytes.items c.self.inside.in_order c.read_into-count.result c.self.inside.early (omega (arith, c.read_into-count.ensures.count, c.min-most.ensures, length-take c.min-most.result c.args.buf.now)) c.self.invariant.1.within
    ∙ ap (λ (q : Queue). record q { unread = drop c.read_into-count.result q.unread }) c.self.view_is
