use Rattle.connection_script.proofs.Alike.{in_each}
use Rattle.connection_script.proofs.peers.receive.Goals as goal

pub on_msg-requires-clause-sendable : goal.on_msg-requires-clause-sendable
on_msg-requires-clause-sendable c = in_each _ c.in-Ok.m c.in-Ok.ensures.sendable
