-- The options of a role, after the role's word: in any order, each as the two words `--NAME` and value or as the one word `--NAME=VALUE`.
use Rattle.std.specs.Prelude.{◌≡◌, ℕ, Bool, true, false, ◌&&◌, ◌||◌, not, Option, Some, None, is_some, option_map, option_and_then, List, [], ◌∷◌}
use Rattle.std.specs.Prelude.{◌++◌, find, codes, if◌then◌else◌}
use Rattle.std.specs.List.{list_any}
use Rattle.std.specs.Str.{bytes_eq}
use Rattle.clap.specs.Lexer.{long_of, short_of}
use Rattle.clap.specs.Matches.{found_of, first_value}
use Rattle.clap.specs.declared.parser.matches.ArgMatches.{ArgMatches}
use Rattle.link_parts.specs.declared.options.OptionName.{OptionName}
use Rattle.link_parts.specs.declared.options.OptionName.TheVariants.{Local, Logger, SecondLogger, Server, Service, Boot, Isn, Turns, Times, Script}
use Rattle.link_parts.specs.declared.options.OptionName.TheVariants.{Program, Base, First, Second, Journal, Begin, Compact, Part, Other, To, Profile, Forget}
use Rattle.link_parts.specs.declared.options.OptionName.TheVariants.{Silence}

abbrev pub Text : Type 0
Text = List ℕ

-- one use of an option
pub record Use : Type 0 where
  pub name : Text
  pub value : Text

abbrev pub name_of : OptionName → Text
name_of Local = codes "local"
name_of Logger = codes "logger"
name_of SecondLogger = codes "second"
name_of Server = codes "server"
name_of Service = codes "service"
name_of Boot = codes "boot"
name_of Isn = codes "isn"
name_of Turns = codes "turns"
name_of Times = codes "times"
name_of Script = codes "script"
name_of Program = codes "program"
name_of Base = codes "base"
name_of First = codes "first"
name_of Second = codes "second"
name_of Journal = codes "journal"
name_of Begin = codes "begin"
name_of Compact = codes "compact"
name_of Part = codes "part"
name_of Other = codes "other"
name_of To = codes "to"
name_of Profile = codes "profile"
name_of Forget = codes "forget"
name_of Silence = codes "silence"

-- an option that its role requires
abbrev pub is_required : OptionName → Bool
is_required Script = false
is_required SecondLogger = false
is_required Times = false
is_required Begin = false
is_required Compact = false
is_required Profile = false
is_required Forget = false
is_required Silence = false
is_required _ = true

-- `--`, or a word other than `-` that begins with exactly one hyphen
abbrev pub is_stray : Text → Bool
is_stray word = bytes_eq word (45 ∷ 45 ∷ []) || is_some (short_of word)

-- a value in a word of its own is `-`, or doesn't begin with a hyphen
abbrev pub is_value : Text → Bool
is_value word = not (is_stray word) && not (is_some (long_of word))

abbrev pub with_use : Text → Text → Option (List Use) → Option (List Use)
with_use name value later = option_map (λ uses. record { name = name; value = value } ∷ uses) later

abbrev pub by_option : Option (Text × Option Text) → (Text → Option (List Use)) → Option (List Use) → Option (List Use)
by_option None waiting later = None
by_option (Some (name, Some value)) waiting later = with_use name value later
by_option (Some (name, None)) waiting later = waiting name

-- the uses that words spell, in their order; after `--NAME` (where a name is given) the first word is its value
unfoldable pub uses_after : Option Text → List Text → Option (List Use)
uses_after None [] = Some []
uses_after None (word ∷ words) = by_option (long_of word) (λ name. uses_after (Some name) words) (uses_after None words)
uses_after (Some name) [] = None
uses_after (Some name) (value ∷ words) = if is_value value then with_use name value (uses_after None words) else None

abbrev pub is_used : Text → List Use → Bool
is_used name uses = list_any (λ u. bytes_eq u.name name) uses

abbrev pub is_among : List OptionName → Text → Bool
is_among options name = is_some (find (λ o. bytes_eq (name_of o) name) options)

-- each use is of an option of the role that no use before it names
unfoldable pub are_new : List OptionName → List Use → List Use → Bool
are_new options before [] = true
are_new options before (u ∷ uses) = (is_among options u.name && not (is_used u.name before)) && are_new options (before ++ u ∷ []) uses

abbrev pub lacks : List OptionName → List Use → Bool
lacks options uses = list_any (λ o. is_required o && not (is_used (name_of o) uses)) options

abbrev pub if_allowed : List OptionName → List Use → Option (List Use)
if_allowed options uses = if are_new options [] uses && not (lacks options uses) then Some uses else None

-- the uses of a role's options that words spell, where they are allowed
abbrev pub allowed_uses : List OptionName → List Text → Option (List Use)
allowed_uses options words = option_and_then (if_allowed options) (uses_after None words)

-- the value of an option
abbrev pub value_of : List Use → OptionName → Option Text
value_of uses o = option_map (λ u. u.value) (find (λ u. bytes_eq u.name (name_of o)) uses)

-- what `clap` found has the values of these uses
abbrev pub HasValues : List Use → ArgMatches → Type 0
HasValues uses m = (o : OptionName) → first_value (found_of m) (name_of o) ≡ value_of uses o

-- there are matches exactly where there are uses, and they have the same values
abbrev pub Gives : Option (List Use) → Option ArgMatches → Type 0
Gives allowed None = allowed ≡ None
Gives allowed (Some m) = (uses : List Use) × (allowed ≡ Some uses) × HasValues uses m
