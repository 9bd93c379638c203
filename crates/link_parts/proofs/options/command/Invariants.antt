use Rattle.std.proofs.Common.{◌≡◌, take}
use Rattle.clap.specs.Simple.{app_of}
use Rattle.link_parts.specs.Commands.{options_app}
use Rattle.link_parts.proofs.options.command.Given as goal

-- the command has the options so far
abbrev pub invariant-loop-option : goal.invariant-loop-option
invariant-loop-option l = app_of l.command ≡ options_app (take l.option-index l.options)
