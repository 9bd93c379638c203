use Rattle.connection_script.proofs.Alike.{in_each}
use Rattle.node_bench.proofs.connection.server.Server.on_answer.Goals as goal

pub on_msg-requires-clause-sendable : goal.on_msg-requires-clause-sendable
on_msg-requires-clause-sendable c = in_each _ c.in-Ok.m c.in-Ok.ensures.sendable
