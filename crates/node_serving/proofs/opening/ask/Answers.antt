use Rattle.std.proofs.Common.{rules}
use Rattle.node_serving.specs.Identity.{grammar_in}
use Rattle.node_serving.proofs.Sendable.{open_reports}
use Rattle.node_serving.proofs.opening.ask.Goals as goal

pub send_message-requires-clause-sendable : goal.send_message-requires-clause-sendable
send_message-requires-clause-sendable c =
    open_reports (grammar_in c.args.who) c.args.who.boot c.args.key c.args.opening.cisn.0 c.args.opening.sisn.0 c.args.opening.mss c.requires.boot (search rules) (search rules) (search rules) (search rules) (search rules)
    c.requires.least c.requires.most
