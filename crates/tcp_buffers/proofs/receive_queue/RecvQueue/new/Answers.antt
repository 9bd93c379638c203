use Rattle.std.proofs.Common.{ap}
use Rattle.tcp_buffers.proofs.QueueFields.{empty_keeps, empty_shown}
use Rattle.tcp_buffers.proofs.receive_queue.RecvQueue.new.Goals as goal

pub invariant_of-result : goal.invariant_of-result
invariant_of-result c = (ap (λ b. b.capacity) c.in_ok-bytes.ensures, empty_keeps c.in_ok-bytes.bytes.items c.new.result (ap (λ b. b.items) c.in_ok-bytes.ensures) c.new.ensures)

pub returns : goal.returns
returns c = empty_shown c.in_ok-bytes.bytes.items c.new.result (ap (λ b. b.items) c.in_ok-bytes.ensures)
