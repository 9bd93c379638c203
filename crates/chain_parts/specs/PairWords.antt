-- The words of a logger of a pair: those of a logger, `--part head` or `--part tail`, and `--other ADDRESS`. And those of the process that informs a logger
-- that it serves alone: `alone`, `--local ADDRESS` and `--to ADDRESS`.
use Rattle.std.specs.Prelude.{Option, Some, None, option_map, List, [], ◌∷◌, codes, if◌then◌else◌}
use Rattle.std.specs.Option.{option_and_then}
use Rattle.std.specs.Str.{bytes_eq}
use Rattle.ft_io.specs.declared.Addr.{Addr}
use Rattle.link_parts.specs.declared.options.OptionName.{OptionName}
use Rattle.link_parts.specs.declared.options.OptionName.TheVariants as option
use Rattle.link_parts.specs.declared.role.LoggerRole.{LoggerRole}
use Rattle.link_parts.specs.Options.{Text, Use, allowed_uses, value_of}
use Rattle.link_parts.specs.Roles.{addr_at, logger_in}
use Rattle.twin_laws.specs.declared.part.Part.{Part}
use Rattle.twin_laws.specs.declared.part.Part.TheVariants as parts
use Rattle.chain_parts.specs.declared.pair_role.PartRole.{PartRole}
use Rattle.chain_parts.specs.declared.pair_role.AloneRole.{AloneRole}
use Rattle.chain_parts.specs.declared.pair_role.TwinRole.{TwinRole}
use Rattle.chain_parts.specs.declared.pair_role.TwinRole.TheVariants.{Logger, Alone}

abbrev pub part_named : Text → Option Part
part_named name = if bytes_eq name (codes "head") then Some parts.Head else (if bytes_eq name (codes "tail") then Some parts.Tail else None)

abbrev pub part_at : List Use → OptionName → Option Part
part_at uses o = option_and_then part_named (value_of uses o)

abbrev pub part_from : Option LoggerRole → Option Part → Option Addr → Option PartRole
part_from (Some logger) (Some part) (Some other) = Some (record { logger = logger; part = part; other = other })
part_from _ _ _ = None

abbrev pub part_in : List Use → Option PartRole
part_in uses = part_from (logger_in uses) (part_at uses option.Part) (addr_at uses option.Other)

abbrev pub alone_from : Option Addr → Option Addr → Option AloneRole
alone_from (Some local) (Some to) = Some (record { local = local; to = to })
alone_from _ _ = None

abbrev pub alone_in : List Use → Option AloneRole
alone_in uses = alone_from (addr_at uses option.Local) (addr_at uses option.To)

-- the options of a logger of a pair
abbrev pub part_options : List OptionName
part_options = option.Local ∷ option.Turns ∷ option.Times ∷ option.Part ∷ option.Other ∷ option.Profile ∷ []

abbrev pub alone_options : List OptionName
alone_options = option.Local ∷ option.To ∷ []

unfoldable pub part_of : List Text → Option TwinRole
part_of words = option_map Logger (option_and_then part_in (allowed_uses part_options words))

unfoldable pub alone_of : List Text → Option TwinRole
alone_of words = option_map Alone (option_and_then alone_in (allowed_uses alone_options words))

-- what words ask for, where they are allowed as such. All other words are those of a single logger, or of another role
unfoldable pub twin_of : List Text → Option TwinRole
twin_of [] = None
twin_of (name ∷ words) =
    if bytes_eq name (codes "logger") then part_of words
    else (if bytes_eq name (codes "alone") then alone_of words
    else None)
