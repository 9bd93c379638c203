use Rattle.std.proofs.Common.{◌-◌, ℕ, ap, length, ◌∙◌}
use Rattle.std.specs.Prelude.{min}
use Rattle.tcp_buffers.specs.Queue.{Queue, pushed, added_by}
use Rattle.tcp_buffers.proofs.QueueFields.{appended_so}
use Rattle.tcp_buffers.proofs.receive_queue.RecvQueue.append.Goals as goal

pub returns-clause-count : goal.returns-clause-count
returns-clause-count c =
    let none = ap (λ (q : Queue). length q.early) c.self.view_is ∙ c.requires in
    let full = ap (λ (k : ℕ). min (length c.args.bytes.now) (k - length c.self.inside.bytes.items)) c.self.invariant.0 in
    let one = appended_so c.self.inside.bytes.items c.args.bytes.now c.fill_from_slice-count.new.self.items c.self.inside.in_order c.fill_from_slice-count.result c.self.inside.early c.self.invariant.1 none
    (c.fill_from_slice-count.ensures.count ∙ full) (ap (λ b. b.items) c.fill_from_slice-count.ensures.items) in
    one.count ∙ ap (λ q. length (added_by c.args.bytes.now q)) c.self.view_is

pub returns-clause-state : goal.returns-clause-state
returns-clause-state c =
    let none = ap (λ (q : Queue). length q.early) c.self.view_is ∙ c.requires in
    let full = ap (λ (k : ℕ). min (length c.args.bytes.now) (k - length c.self.inside.bytes.items)) c.self.invariant.0 in
    let one = appended_so c.self.inside.bytes.items c.args.bytes.now c.fill_from_slice-count.new.self.items c.self.inside.in_order c.fill_from_slice-count.result c.self.inside.early c.self.invariant.1 none
    (c.fill_from_slice-count.ensures.count ∙ full) (ap (λ b. b.items) c.fill_from_slice-count.ensures.items) in
    one.view ∙ ap (pushed c.args.bytes.now) c.self.view_is
