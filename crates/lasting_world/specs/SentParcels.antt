-- What was sent up to the end of a trace, as the code's world stores it.
use Rattle.std.specs.Prelude.{◌≡◌, ℕ, Some, List}
use Rattle.seq_arith.specs.declared.kinds.Grammar.{Grammar}
use Rattle.tcp_rules.specs.Profile.{grammar_of}
use Rattle.tcp_rules.specs.Profiles.{profile_of}
use Rattle.ft_model.specs.declared.schedule.Schedule.{Schedule}
use Rattle.ft_model.specs.declared.way.Way.{Way}
use Rattle.lasting_laws.specs.LastingWorld.{Parcel, bytes_of}
use Rattle.schedule_network.specs.AtNumber.{at_number}
use Rattle.schedule_network.specs.StoredPackets.{Carried}
use Rattle.lasting_unseen.specs.Written.{IsWritten}
use Rattle.lasting_world.specs.NetworkStands.{IsWayOf}

-- the grammar in which server and log write their messages
abbrev pub run_grammar : Schedule → Grammar
run_grammar schedule = grammar_of (profile_of schedule.profile)

-- this direction and these bytes are those of a parcel
pub record IsStoredParcel (grammar : Grammar) (way : Way) (bytes : List ℕ) : Type 0 where
  pub parcel : Parcel
  pub goes : IsWayOf parcel way
  pub spells : bytes ≡ bytes_of grammar parcel
  pub written : IsWritten grammar parcel

-- whatever is stored is a parcel
abbrev pub KeepsAllLasting : Schedule → Carried → Type 0
KeepsAllLasting schedule kept =
    (number : ℕ) (way : Way) (bytes : List ℕ) → at_number kept.ways number ≡ Some way → at_number kept.bytes number ≡ Some bytes
    → IsStoredParcel (run_grammar schedule) way bytes
