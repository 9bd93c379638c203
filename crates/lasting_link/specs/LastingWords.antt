-- The words of a server that lasts: those of a server with one logger, and `--forget TICKS`, its quarantine; `--silence TICKS` says after how long a silence a
-- client is asked for a sign of life.
use Rattle.std.specs.Prelude.{◌≤◌, ℕ, Option, Some, None, List, [], ◌∷◌, codes, if◌then◌else◌}
use Rattle.std.specs.Option.{option_and_then}
use Rattle.std.specs.Str.{bytes_eq}
use Rattle.ft_model.specs.Spelling.{number_of}
use Rattle.link_parts.specs.declared.options.OptionName.{OptionName}
use Rattle.link_parts.specs.declared.options.OptionName.TheVariants as option
use Rattle.link_parts.specs.declared.role.ServerRole.{ServerRole}
use Rattle.link_parts.specs.Options.{Text, Use, allowed_uses, value_of}
use Rattle.link_parts.specs.Ranges.{ServerInRange}
use Rattle.link_parts.specs.Roles.{number_at, server_in, own_server_in}
use Rattle.lasting_node.specs.declared.patience.Patience.{Patience}
use Rattle.lasting_link.specs.declared.role.LastingRole.{LastingRole}

abbrev pub forget_options : List OptionName
forget_options =
    option.Local ∷ option.Logger ∷ option.Service ∷ option.Boot ∷ option.Isn ∷ option.Turns ∷ option.Times ∷ option.Profile ∷ option.Forget
    ∷ option.Silence ∷ []

-- a server of a service of one's own names none
abbrev pub own_forget_options : List OptionName
own_forget_options =
    option.Local ∷ option.Logger ∷ option.Boot ∷ option.Isn ∷ option.Turns ∷ option.Times ∷ option.Profile ∷ option.Forget ∷ option.Silence ∷ []

-- a quarantine of 1 to 1,000,000 ticks. A server that lasts names it
abbrev pub wait_in : List Use → Option ℕ
wait_in uses = number_at 1 1000000 uses option.Forget

-- 1 to 100,000,000 ticks; a silent client is never asked if they are left out
abbrev pub silence_in : Option Text → Option ℕ
silence_in None = Some 0
silence_in (Some word) = number_of 1 100000000 word

abbrev pub patience_from : Option ℕ → Option ℕ → Option Patience
patience_from (Some wait) (Some silence) = Some (record { wait = wait; silence = silence })
patience_from _ _ = None

abbrev pub patience_in : List Use → Option Patience
patience_in uses = patience_from (wait_in uses) (silence_in (value_of uses option.Silence))

abbrev pub lasting_from : Option ServerRole → Option Patience → Option LastingRole
lasting_from (Some server) (Some patience) = Some (record { server = server; patience = patience })
lasting_from _ _ = None

abbrev pub lasting_in : List Use → Option LastingRole
lasting_in uses = lasting_from (server_in uses) (patience_in uses)

abbrev pub own_lasting_in : List Use → Option LastingRole
own_lasting_in uses = lasting_from (own_server_in uses) (patience_in uses)

-- the role that words name, if they are those of a server that lasts
unfoldable pub lasting_of : List Text → Option LastingRole
lasting_of [] = None
lasting_of (name ∷ words) = if bytes_eq name (codes "server") then option_and_then lasting_in (allowed_uses forget_options words) else None

-- .. and in a program with a service of its own
unfoldable pub own_lasting_of : List Text → Option LastingRole
own_lasting_of [] = None
own_lasting_of (name ∷ words) = if bytes_eq name (codes "server") then option_and_then own_lasting_in (allowed_uses own_forget_options words) else None

-- its numbers are in their ranges
pub record IsPatient (patience : Patience) : Type 0 where
  pub wait : 1 ≤ patience.wait
  pub silence : patience.silence ≤ 100000000

pub record LastingInRange (role : LastingRole) : Type 0 where
  pub server : ServerInRange role.server
  pub patience : IsPatient role.patience
