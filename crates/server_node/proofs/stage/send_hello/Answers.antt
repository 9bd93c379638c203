use Rattle.std.proofs.Common.{rules}
use Rattle.node_serving.specs.Identity.{grammar_in}
use Rattle.node_serving.proofs.Sendable.{hello_reports}
use Rattle.server_node.proofs.stage.send_hello.Goals as goal

pub send_message-requires-clause-sendable : goal.send_message-requires-clause-sendable
send_message-requires-clause-sendable c = hello_reports (grammar_in c.args.who) c.args.who.boot c.requires (search rules)
