-- The words of a logger that keeps its log in a journal: those of a logger, and `--journal FILE`; with `--begin yes` it makes that file, and `--compact BYTES`
-- says from which length on a shorter one replaces it.
use Rattle.std.specs.Prelude.{ℕ, ◌^◌, Bool, Option, Some, None, List, [], ◌∷◌, codes, if◌then◌else◌}
use Rattle.std.specs.Option.{option_and_then}
use Rattle.std.specs.Str.{bytes_eq}
use Rattle.link_parts.specs.declared.options.OptionName.{OptionName}
use Rattle.link_parts.specs.declared.options.OptionName.TheVariants as option
use Rattle.link_parts.specs.declared.role.LoggerRole.{LoggerRole}
use Rattle.link_parts.specs.Options.{Text, Use, allowed_uses, value_of}
use Rattle.link_parts.specs.Roles.{is_name, logger_in, number_or, yes_in}
use Rattle.journal_parts.specs.declared.role.JournalRole.{JournalRole}

abbrev pub journal_options : List OptionName
journal_options =
    option.Local ∷ option.Turns ∷ option.Times ∷ option.Journal ∷ option.Begin ∷ option.Compact ∷ option.Profile ∷ option.Forget ∷ []

abbrev pub journal_from : Option LoggerRole → Option Text → Option Bool → Option ℕ → Option JournalRole
journal_from (Some logger) (Some journal) (Some begins) (Some compact) = Some (record {
  logger = logger;
  journal = journal;
  begins = begins;
  compact = compact;
})
journal_from _ _ _ _ = None

-- the longest file that isn't replaced: 64 MiB, or 4,096 to 2^40 bytes
abbrev pub compact_by : Option Text → Option ℕ
compact_by word = number_or 4096 (2 ^ 40) 67108864 word

abbrev pub file_of : Text → Option Text
file_of word = if is_name word then Some word else None

abbrev pub journal_in : List Use → Option JournalRole
journal_in uses = journal_from (logger_in uses) (option_and_then file_of (value_of uses option.Journal)) (yes_in (value_of uses option.Begin))
    (compact_by (value_of uses option.Compact))

-- the role that words name, if they are those of a logger with a journal. All other words are `node`'s
unfoldable pub journal_of : List Text → Option JournalRole
journal_of [] = None
journal_of (name ∷ words) = if bytes_eq name (codes "logger") then option_and_then journal_in (allowed_uses journal_options words) else None
