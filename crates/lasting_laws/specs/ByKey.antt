-- What a turn does at one key: which quarantine the key then has, and what becomes of the key's place.
use Rattle.std.specs.Prelude.{◌≡◌, Option, Some, None, List}
use Rattle.ft_io.specs.declared.Key.{Key}
use Rattle.server_trait.specs.Service.{Machine}
use Rattle.ft_model.specs.Network.{Packet}
use Rattle.ft_model.specs.Node.{Node, Place, Input, place_at}
use Rattle.ft_model.specs.Node.Place.{Ended}
use Rattle.ft_model.specs.ServingTurn.{PlaceTurn}
use Rattle.long_laws.specs.Forgetting.{Named}
use Rattle.long_laws.specs.Quarantine.{Quarantined, begun, aged, named_in}

-- the quarantine of a key goes on, or begins
abbrev pub next_quarantine : Input → Option Quarantined → Option Named → Option Quarantined
next_quarantine input (Some q) named = Some (aged input q)
next_quarantine input None (Some named) = Some (begun named)
next_quarantine input None None = None

-- .. by what is at the key's place after the turn
abbrev pub quarantine_at : Node → Input → Key → Option Quarantined → Option Place → Option Quarantined
quarantine_at node input key q (Some (Ended k)) = next_quarantine input q (named_in node input node.stage key)
quarantine_at node input key q _ = None

-- what becomes of a key's place: it goes as a place does, or the key has none. A new opening isn't counted here
abbrev pub KeyWent : {State : Type 0} → Machine State → Node → Input → Key → Option Place → List Place → Type 0
KeyWent service node input key (Some place) after =
    (now : List Place) × (sent : List Packet) × PlaceTurn service node input place now sent × (place_at key after ≡ place_at key now)
KeyWent service node input key None after = place_at key after ≡ None
