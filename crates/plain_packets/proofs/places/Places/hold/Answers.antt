use Rattle.std.proofs.Common.{arith}
use Rattle.plain_packets.proofs.Runs.{no_runs, nothing_held}
use Rattle.plain_packets.proofs.places.Places.hold.Goals as goal

pub returns-then-is_empty : goal.returns-then-is_empty
returns-then-is_empty c = nothing_held c.args.at c.args.bytes.now c.args.self.now (grind (arith, c.is_empty.ensures, c.if-is_empty.true))

pub invariant_of-self-in-Err : goal.invariant_of-self-in-Err
invariant_of-self-in-Err c = no_runs _ c.clear.ensures.items
