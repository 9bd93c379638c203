use Rattle.std.proofs.Common.{◌∙◌, ap}
use Rattle.seq_arith.specs.declared.kinds.Grammar.TheVariants as grammars
use Rattle.seq_arith.specs.MessageGrammar.{reading_by}
use Rattle.tcp_rules.specs.Profile.{grammar_of}
use Rattle.tcp_rules.specs.Profiles.{profile_of}
use Rattle.server_node.proofs.OtherGrammar.{refuses_the_other, wide_is_not_plain}
use Rattle.server_node.proofs.excluded.takes_a_wide_message.Goals as goal

pub returns : goal.returns
returns c = refuses_the_other grammars.Wide grammars.Plain c.args.bytes.now c.read_message.result wide_is_not_plain c.requires.wide
    (c.read_message.ensures.value ∙ ap (λ profile. reading_by (grammar_of (profile_of profile)) c.args.bytes.now) c.requires.profile)
