-- The options of a role as a command of `clap`.
use Rattle.std.specs.Prelude.{true, Some, List, map, codes}
use Rattle.clap.specs.Walk.{Rule}
use Rattle.clap.specs.Simple.{App, new_rule, new_app, on_top}
use Rattle.clap.specs.declared.builder.action.ArgAction.TheVariants.{Set}
use Rattle.link_parts.specs.declared.options.OptionName.{OptionName}
use Rattle.link_parts.specs.Options.{name_of, is_required}

-- an option that takes one value
abbrev pub option_rule : OptionName → Rule
option_rule o = record (new_rule (name_of o)) { long = Some (name_of o); action = Some Set; required = is_required o }

-- a command of nothing but these options: no program's name before the words, no help and no version
abbrev pub options_app : List OptionName → App
options_app options =
    on_top (λ s. record s {
      no_binary_name = true;
      disable_help_flag = true;
      disable_version_flag = true;
      rules = map option_rule options;
    }) (new_app (codes "ftnode"))
