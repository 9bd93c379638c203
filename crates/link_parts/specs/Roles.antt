-- A role as words: its name, then its options. Each value is spelled as in a schedule's text.
use Rattle.std.specs.Prelude.{ℕ, ◌*◌, ◌^◌, ◌-◌, Bool, true, false, not, Option, Some, None, is_none, option_map, List, [], ◌∷◌, codes, if◌then◌else◌, ◌==◌}
use Rattle.std.specs.Option.{option_and_then}
use Rattle.std.specs.Str.{bytes_eq}
use Rattle.ft_io.specs.declared.Addr.{Addr}
use Rattle.tcp_rules.specs.declared.profile.Profile.{Profile}
use Rattle.tcp_rules.specs.declared.profile.Profile.TheVariants.{Plain, Wan}
use Rattle.ft_model.specs.declared.schedule.ServiceKind.{ServiceKind}
use Rattle.ft_model.specs.declared.schedule.Script.{Script}
use Rattle.ft_model.specs.Spelling.{addr_of, number_of, service_of, script_of}
use Rattle.link_parts.specs.declared.options.OptionName.{OptionName}
use Rattle.link_parts.specs.declared.options.OptionName.TheVariants as option
use Rattle.link_parts.specs.declared.role.Loggers.{Loggers}
use Rattle.link_parts.specs.declared.role.ServerRole.{ServerRole}
use Rattle.link_parts.specs.declared.role.LoggerRole.{LoggerRole}
use Rattle.link_parts.specs.declared.role.ClientRole.{ClientRole}
use Rattle.link_parts.specs.declared.role.PairRole.{PairRole}
use Rattle.link_parts.specs.declared.role.NodeRole.{NodeRole}
use Rattle.link_parts.specs.declared.role.NodeRole.TheVariants.{Server, Logger, Client, Pair}
use Rattle.link_parts.specs.Options.{Text, Use, allowed_uses, value_of}

-- the values of options, where their words spell them
abbrev pub addr_at : List Use → OptionName → Option Addr
addr_at uses o = option_and_then addr_of (value_of uses o)

abbrev pub number_at : ℕ → ℕ → List Use → OptionName → Option ℕ
number_at least most uses o = option_and_then (number_of least most) (value_of uses o)

abbrev pub service_at : List Use → OptionName → Option ServiceKind
service_at uses o = option_and_then service_of (value_of uses o)

-- a script may be left out
abbrev pub script_in : Option Text → Option (Option Script)
script_in None = Some None
script_in (Some word) = option_map Some (script_of word)

abbrev pub script_at : List Use → OptionName → Option (Option Script)
script_at uses o = script_in (value_of uses o)

-- a second logger may be left out
abbrev pub second_in : Option Text → Option (Option Addr)
second_in None = Some None
second_in (Some word) = option_map Some (addr_of word)

-- a profile is `plain` or `wan`. If it is left out, it is the plain one
abbrev pub profile_spelled : Text → Option Profile
profile_spelled word = if bytes_eq word (codes "plain") then Some Plain else (if bytes_eq word (codes "wan") then Some Wan else None)

abbrev pub profile_in : Option Text → Option Profile
profile_in None = Some Plain
profile_in (Some word) = profile_spelled word

abbrev pub profile_at : List Use → Option Profile
profile_at uses = profile_in (value_of uses option.Profile)

abbrev pub loggers_from : Option Addr → Option (Option Addr) → Option Loggers
loggers_from (Some first) (Some second) = Some (record { first = first; second = second })
loggers_from _ _ = None

abbrev pub loggers_in : List Use → Option Loggers
loggers_in uses = loggers_from (addr_at uses option.Logger) (second_in (value_of uses option.SecondLogger))

-- a word names a program or a file if it isn't empty and doesn't begin with `-`
abbrev pub is_name : Text → Bool
is_name [] = false
is_name (first ∷ rest) = not (first == 45)

abbrev pub program_of : Text → Option Text
program_of word = if is_name word then Some word else None

abbrev pub program_at : List Use → OptionName → Option Text
program_at uses o = option_and_then program_of (value_of uses o)

abbrev pub isn_in : List Use → Option ℕ
isn_in uses = number_at 0 (2 ^ 32 - 1) uses option.Isn

abbrev pub turns_in : List Use → Option ℕ
turns_in uses = number_at 1 1000000 uses option.Turns

-- a number that may be left out
abbrev pub number_or : (least most usual : ℕ) → Option Text → Option ℕ
number_or least most usual None = Some usual
number_or least most usual (Some word) = number_of least most word

-- a server or a logger takes its turns so many times: once, if `--times` is left out
abbrev pub times_in : Option Text → Option ℕ
times_in None = Some 1
times_in (Some word) = number_of 1 4000000000000 word

abbrev pub all_turns : Option ℕ → Option ℕ → Option ℕ
all_turns (Some turns) (Some times) = Some (turns * times)
all_turns _ _ = None

abbrev pub all_turns_in : List Use → Option ℕ
all_turns_in uses = all_turns (turns_in uses) (times_in (value_of uses option.Times))

abbrev pub server_from : Option ServiceKind → Option Addr → Option Loggers → Option ℕ → Option ℕ → Option ℕ → Option Profile → Option ServerRole
server_from service (Some local) (Some loggers) (Some boot) (Some isn) (Some turns) (Some profile) =
    Some (record { local = local; loggers = loggers; service = service; boot = boot; isn = isn; turns = turns; profile = profile })
server_from _ _ _ _ _ _ _ = None

abbrev pub server_with : List Use → Option ServiceKind → Option ServerRole
server_with uses service =
    server_from service (addr_at uses option.Local) (loggers_in uses) (number_at 1 (2 ^ 64 - 1) uses option.Boot) (isn_in uses) (all_turns_in uses)
    (profile_at uses)

abbrev pub server_in : List Use → Option ServerRole
server_in uses = option_and_then (λ service. server_with uses (Some service)) (service_at uses option.Service)

-- a server of a program with a service of its own
abbrev pub own_server_in : List Use → Option ServerRole
own_server_in uses = server_with uses None

-- an option that has no other value than `yes` may be left out
abbrev pub yes_in : Option Text → Option Bool
yes_in None = Some false
yes_in (Some word) = if bytes_eq word (codes "yes") then Some true else None

abbrev pub logger_from : Option Addr → Option ℕ → Option Profile → Option Bool → Option LoggerRole
logger_from (Some local) (Some turns) (Some profile) (Some forgets) =
    Some (record { local = local; turns = turns; profile = profile; forgets = forgets })
logger_from _ _ _ _ = None

-- its log forgets if `--forget yes` says so
abbrev pub logger_in : List Use → Option LoggerRole
logger_in uses = logger_from (addr_at uses option.Local) (all_turns_in uses) (profile_at uses) (yes_in (value_of uses option.Forget))

abbrev pub client_from : Option Addr → Option Addr → Option ℕ → Option ℕ → Option (Option Script) → Option Profile → Option ClientRole
client_from (Some local) (Some server) (Some isn) (Some turns) (Some script) (Some profile) =
    Some (record { local = local; server = server; isn = isn; turns = turns; script = script; profile = profile })
client_from _ _ _ _ _ _ = None

abbrev pub client_in : List Use → Option ClientRole
client_in uses =
    client_from (addr_at uses option.Local) (addr_at uses option.Server) (isn_in uses) (turns_in uses) (script_at uses option.Script) (profile_at uses)

abbrev pub pair_from : Option Text → Option ℕ → Option ℕ → Option ℕ → Option ℕ → Option PairRole
pair_from (Some program) (Some base) (Some first) (Some second) (Some turns) =
    Some (record { program = program; base = base; first = first; second = second; turns = turns })
pair_from _ _ _ _ _ = None

-- the two ports after the base are ports too
abbrev pub pair_in : List Use → Option PairRole
pair_in uses =
    pair_from (program_at uses option.Program) (number_at 1 65533 uses option.Base)
    (number_at 1 1000000 uses option.First) (number_at 1 1000000 uses option.Second) (turns_in uses)

-- the options of each role of `node`
abbrev pub server_options : List OptionName
server_options = option.Local ∷ option.Logger ∷ option.SecondLogger ∷ option.Service ∷ option.Boot ∷ option.Isn ∷ option.Turns ∷ []

abbrev pub logger_options : List OptionName
logger_options = option.Local ∷ option.Turns ∷ []

abbrev pub client_options : List OptionName
client_options = option.Local ∷ option.Server ∷ option.Isn ∷ option.Turns ∷ option.Script ∷ []

abbrev pub pair_options : List OptionName
pair_options = option.Program ∷ option.Base ∷ option.First ∷ option.Second ∷ option.Turns ∷ []

-- in a process that isn't `node`, a server and a logger may take their turns several times, each role may have a profile, and a logger may forget. A server of
-- a service of one's own names none
abbrev pub lasting_server_options : List OptionName
lasting_server_options =
    option.Local ∷ option.Logger ∷ option.SecondLogger ∷ option.Service ∷ option.Boot ∷ option.Isn ∷ option.Turns ∷ option.Times ∷ option.Profile ∷ []

abbrev pub own_server_options : List OptionName
own_server_options =
    option.Local ∷ option.Logger ∷ option.SecondLogger ∷ option.Boot ∷ option.Isn ∷ option.Turns ∷ option.Times ∷ option.Profile ∷ []

abbrev pub lasting_logger_options : List OptionName
lasting_logger_options = option.Local ∷ option.Turns ∷ option.Times ∷ option.Profile ∷ option.Forget ∷ []

abbrev pub lasting_client_options : List OptionName
lasting_client_options = option.Local ∷ option.Server ∷ option.Isn ∷ option.Turns ∷ option.Script ∷ option.Profile ∷ []

unfoldable pub server_of : List OptionName → List Text → Option NodeRole
server_of options words = option_map Server (option_and_then server_in (allowed_uses options words))

unfoldable pub own_server_of : List Text → Option NodeRole
own_server_of words = option_map Server (option_and_then own_server_in (allowed_uses own_server_options words))

unfoldable pub logger_of : List OptionName → List Text → Option NodeRole
logger_of options words = option_map Logger (option_and_then logger_in (allowed_uses options words))

unfoldable pub client_of : List OptionName → List Text → Option NodeRole
client_of options words = option_map Client (option_and_then client_in (allowed_uses options words))

unfoldable pub pair_of : List Text → Option NodeRole
pair_of words = option_map Pair (option_and_then pair_in (allowed_uses pair_options words))

-- the role that words ask for, where they are allowed
unfoldable pub role_of : List Text → Option NodeRole
role_of [] = None
role_of (name ∷ words) =
    if bytes_eq name (codes "server") then server_of server_options words
    else (if bytes_eq name (codes "logger") then logger_of logger_options words
    else (if bytes_eq name (codes "client") then client_of client_options words
    else (if bytes_eq name (codes "pair") then pair_of words
    else None)))

-- the same in a process that isn't `node`
unfoldable pub lasting_role_of : List Text → Option NodeRole
lasting_role_of [] = None
lasting_role_of (name ∷ words) =
    if bytes_eq name (codes "server") then server_of lasting_server_options words
    else (if bytes_eq name (codes "logger") then logger_of lasting_logger_options words
    else (if bytes_eq name (codes "client") then client_of lasting_client_options words
    else (if bytes_eq name (codes "pair") then pair_of words
    else None)))

-- and where its service is its own: a server or a logger
unfoldable pub own_role_of : List Text → Option NodeRole
own_role_of [] = None
own_role_of (name ∷ words) =
    if bytes_eq name (codes "server") then own_server_of words
    else (if bytes_eq name (codes "logger") then logger_of lasting_logger_options words
    else None)

abbrev pub is_pair : Option NodeRole → Bool
is_pair (Some (Pair role)) = true
is_pair _ = false

-- a client whose words give no script
abbrev pub reads_input : Option NodeRole → Bool
reads_input (Some (Client role)) = is_none role.script
reads_input _ = false
