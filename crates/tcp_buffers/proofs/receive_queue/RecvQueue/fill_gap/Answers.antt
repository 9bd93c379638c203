use Rattle.std.proofs.Common.{ap, arith, length, ◌∙◌}
use Rattle.tcp_buffers.specs.Queue.{pushed, added_by}
use Rattle.tcp_buffers.proofs.QueueFields.{gap_filled}
use Rattle.tcp_buffers.proofs.receive_queue.RecvQueue.fill_gap.Goals as goal

pub overflow_add-self : goal.overflow_add-self
overflow_add-self c =
    let one = gap_filled c.self.inside.bytes.items c.args.bytes.now c.overwrite.new.queue.items c.self.inside.in_order c.min-fitting.result c.grow-grown.result c.self.inside.early c.grow-grown.new.self c.self.invariant.1
    c.min-fitting.ensures c.overwrite.ensures.items c.grow-grown.ensures.grown c.grow-grown.ensures.left in
    omega (arith, one.keeps.within, one.keeps.most)

pub invariant_of-self : goal.invariant_of-self
invariant_of-self c =
    let one = gap_filled c.self.inside.bytes.items c.args.bytes.now c.overwrite.new.queue.items c.self.inside.in_order c.min-fitting.result c.grow-grown.result c.self.inside.early c.grow-grown.new.self c.self.invariant.1
    c.min-fitting.ensures c.overwrite.ensures.items c.grow-grown.ensures.grown c.grow-grown.ensures.left in
    (c.overwrite.ensures.room, one.keeps)

pub returns-clause-count : goal.returns-clause-count
returns-clause-count c =
    let one = gap_filled c.self.inside.bytes.items c.args.bytes.now c.overwrite.new.queue.items c.self.inside.in_order c.min-fitting.result c.grow-grown.result c.self.inside.early c.grow-grown.new.self c.self.invariant.1
    c.min-fitting.ensures c.overwrite.ensures.items c.grow-grown.ensures.grown c.grow-grown.ensures.left in
    one.count ∙ ap (λ q. length (added_by c.args.bytes.now q)) c.self.view_is

pub returns-clause-state : goal.returns-clause-state
returns-clause-state c =
    let one = gap_filled c.self.inside.bytes.items c.args.bytes.now c.overwrite.new.queue.items c.self.inside.in_order c.min-fitting.result c.grow-grown.result c.self.inside.early c.grow-grown.new.self c.self.invariant.1
    c.min-fitting.ensures c.overwrite.ensures.items c.grow-grown.ensures.grown c.grow-grown.ensures.left in
    one.view ∙ ap (pushed c.args.bytes.now) c.self.view_is
