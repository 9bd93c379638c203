-- What a server sends, as the network stores it.
use Rattle.std.specs.Prelude.{◌≡◌, List, ◌++◌, map}
use Rattle.std.specs.List.{AllByRecursion}
use Rattle.seq_arith.specs.declared.kinds.Grammar.{Grammar}
use Rattle.ft_model.specs.Wire.{Wire, wire_by}
use Rattle.ft_model.specs.Wire.Party.{The_server, The_logger}
use Rattle.long_laws.specs.ForgetGrammar as forgets
use Rattle.lasting_laws.specs.LastingReport.{way_of_lasting}
use Rattle.lasting_laws.specs.LastingWorld.{Parcel, LastingWorld, grammar_in, with_sent}
use Rattle.lasting_laws.specs.LastingWorld.Parcel.{Usual, Forget_sent, Forgotten_sent}
use Rattle.lasting_node.specs.Turns.{forget_wire}
use Rattle.lasting_unseen.specs.Written.{IsWritten}
use Rattle.lasting_world.specs.Around.{KeptAround, AroundStands}

-- a parcel as bytes, with its sender and its receiver
abbrev pub wire_of_parcel : Grammar → Parcel → Wire
wire_of_parcel grammar (Usual packet) = wire_by grammar packet
wire_of_parcel grammar (Forget_sent message) = forget_wire message
wire_of_parcel grammar (Forgotten_sent message) = record { from = The_logger; to = The_server; bytes = forgets.spelling message }

-- these parcels are stored behind all others
pub record StoresAll (w : LastingWorld) (parcels : List Parcel) (before after : KeptAround) : Type 0 where
  pub stands : AroundStands (with_sent parcels w) after
  pub ways : after.network.packets.ways ≡ before.network.packets.ways ++ map (way_of_lasting w.guests) parcels
  pub profile : after.profile ≡ before.profile

-- what is sent so is stored, whichever parcels it spells
abbrev pub StoresWires : List Wire → (before after : KeptAround) → Type 0
StoresWires wires before after =
    (w : LastingWorld) (parcels : List Parcel) → AroundStands w before → wires ≡ map (wire_of_parcel (grammar_in w)) parcels
    → AllByRecursion (IsWritten (grammar_in w)) parcels → StoresAll w parcels before after
