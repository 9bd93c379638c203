use Rattle.std.proofs.Common.{ap, ◌∙◌}
use Rattle.tcp_buffers.proofs.QueueFields.{empty_keeps, empty_shown}
use Rattle.tcp_buffers.proofs.receive_queue.RecvQueue.clear.Goals as goal

pub invariant_of-self : goal.invariant_of-self
invariant_of-self c = (ap (λ b. b.capacity) c.clear.ensures ∙ c.self.invariant.0, empty_keeps c.clear.new.self.items c.new-self-inside.result (ap (λ b. b.items) c.clear.ensures) c.new-self-inside.ensures)

pub returns : goal.returns
returns c = empty_shown c.clear.new.self.items c.new-self-inside.result (ap (λ b. b.items) c.clear.ensures)
