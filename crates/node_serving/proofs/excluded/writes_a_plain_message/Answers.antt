use Rattle.std.proofs.Common.{◌∙◌, ◌++◌, ◌∷◌, [], ap}
use Rattle.std.proofs.lemmas.Result.{on_ok_weaker}
use Rattle.seq_arith.specs.MessageGrammar.{spelling_by}
use Rattle.logger_wire.specs.Value.{message_of}
use Rattle.tcp_rules.specs.Profile.{grammar_of}
use Rattle.tcp_rules.specs.Profiles.{profile_of}
use Rattle.node_serving.specs.SentBytes.{message_to_logger}
use Rattle.node_serving.proofs.excluded.writes_a_plain_message.Goals as goal

pub returns : goal.returns
returns c = on_ok_weaker c.send_message.result
    (λ sent. sent.wires
    ∙ ap (λ profile. c.args.turn.now.sent.items ++ message_to_logger (spelling_by (grammar_of (profile_of profile)) (message_of c.args.message.now)) ∷ []) c.requires.profile)
    c.send_message.ensures
