use Rattle.std.proofs.Common.{◌∙◌, option_map, ap, sym}
use Rattle.logger_wire.specs.Value.{message_of}
use Rattle.server_node.proofs.Questions.{question_is_bare}
use Rattle.node_serving.specs.Identity.{grammar_in}
use Rattle.server_node.proofs.restarting.ask.Goals as goal

pub send_message-requires-clause-bare : goal.send_message-requires-clause-bare
send_message-requires-clause-bare g c = question_is_bare c.args.fetching.now (message_of c.in-Some.question) (ap (option_map message_of) (sym c.in-Some.is) ∙ c.question_of.ensures.value)

pub send_message-requires-clause-sendable : goal.send_message-requires-clause-sendable
send_message-requires-clause-sendable g c = c.in-Some.ensures.sendable (grammar_in c.args.who)
