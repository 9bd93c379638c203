use Rattle.std.proofs.Common.{subst}
use Rattle.wrapped_conn.proofs.Sendable.{HasLowLength, length_low}
use Rattle.wrapped_conn.proofs.conn.Conn.on_msg.Goals as goal

pub receive-requires-clause-most : goal.receive-requires-clause-most
receive-requires-clause-most g c = subst HasLowLength c.in-Stable.is (length_low _ c.args.m.now.boot c.args.m.now.body c.requires.sendable)

pub receive-requires-in-Reads-clause-most : goal.receive-requires-in-Reads-clause-most
receive-requires-in-Reads-clause-most g c = subst HasLowLength c.in-Reads.is (length_low _ c.args.m.now.boot c.args.m.now.body c.requires.sendable)
