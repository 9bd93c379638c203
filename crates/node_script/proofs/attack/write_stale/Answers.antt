use Rattle.std.proofs.Common.{rules}
use Rattle.node_script.proofs.Sendable.{stale_sendable}
use Rattle.node_script.proofs.attack.write_stale.Goals as goal

pub write_msg-requires-clause-sendable : goal.write_msg-requires-clause-sendable
write_msg-requires-clause-sendable c = stale_sendable _ _ (search rules) (search rules) (search rules)
