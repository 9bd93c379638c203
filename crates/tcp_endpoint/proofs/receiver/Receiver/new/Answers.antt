use Rattle.std.proofs.Common.{arith}
use Rattle.tcp_endpoint.proofs.Reassembly.{keeps_none}
use Rattle.tcp_endpoint.proofs.receiver.Receiver.new.Goals as goal

pub invariant_of-result : goal.invariant_of-result
invariant_of-result c = keeps_none c.args.queue c.min.result c.requires (omega (arith, c.min.ensures))
