use Rattle.std.proofs.Common.{rules, ap₂, ◌∙◌}
use Rattle.clap.specs.Simple.{with_rule}
use Rattle.link_parts.proofs.Commanding.{with_next}
use Rattle.link_parts.proofs.options.command.Goals as goal

pub loop-option-preserved : goal.loop-option-preserved
loop-option-preserved c =
    c.in_ok-command.ensures.shape c.arg.ensures.local ∙ ap₂ with_rule c.loop-option.invariant c.arg.ensures.rule ∙ with_next c.args.options.now c.loop-option.option-index _ c.loop-option-test.true (search rules)
