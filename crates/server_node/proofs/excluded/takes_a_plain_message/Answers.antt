use Rattle.std.proofs.Common.{◌∙◌, ap}
use Rattle.seq_arith.specs.declared.kinds.Grammar.TheVariants as grammars
use Rattle.seq_arith.specs.MessageGrammar.{reading_by}
use Rattle.tcp_rules.specs.Profile.{grammar_of}
use Rattle.tcp_rules.specs.Profiles.{profile_of}
use Rattle.server_node.proofs.OtherGrammar.{refuses_the_other, plain_is_not_wide}
use Rattle.server_node.proofs.excluded.takes_a_plain_message.Goals as goal

pub returns : goal.returns
returns c = refuses_the_other grammars.Plain grammars.Wide c.args.bytes.now c.read_message.result plain_is_not_wide c.requires.plain
    (c.read_message.ensures.value ∙ ap (λ profile. reading_by (grammar_of (profile_of profile)) c.args.bytes.now) c.requires.profile)
