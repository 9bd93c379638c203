use Rattle.std.proofs.Common.{◌-◌, ap, ◌∙◌, sym, drop, length, length-drop}
use Rattle.std.specs.Prelude.{nat_lt}
use Rattle.tcp_rules.specs.Early.{holds_some}
use Rattle.tcp_buffers.specs.Queue.{Queue}
use Rattle.tcp_buffers.proofs.Marked.{marked_length}
use Rattle.tcp_buffers.proofs.QueueFields.{held_up_to}
use Rattle.tcp_buffers.proofs.receive_queue.RecvQueue.held_to.Goals as goal

pub returns-clause-held : goal.returns-clause-held
returns-clause-held c k =
    ap (λ (q : Queue). holds_some (drop k q.early)) (sym c.self.view_is)
    ∙ held_up_to c.self.inside.bytes.items c.self.inside.in_order c.self.inside.early k c.self.invariant.1
    ∙ ap (λ n. nat_lt k (n - c.self.inside.in_order)) (sym c.len.ensures.len)

pub returns-clause-places : goal.returns-clause-places
returns-clause-places c =
    ap (λ n. n - c.self.inside.in_order) c.len.ensures.len ∙ sym (length-drop c.self.inside.in_order c.self.inside.bytes.items)
    ∙ sym (marked_length 0 c.self.inside.early (drop c.self.inside.in_order c.self.inside.bytes.items)) ∙ ap (λ (q : Queue). length q.early) c.self.view_is
