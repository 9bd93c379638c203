-- A turn, with what is sent in it.
use Rattle.std.specs.Prelude.{◌≡◌, ◌+◌, ℕ, List, ◌∷◌, ◌++◌, length}
use Rattle.server_trait.specs.Service.{Machine}
use Rattle.ft_model.specs.Network.{Packet}
use Rattle.ft_model.specs.Node.{Node, Input}
use Rattle.ft_model.specs.Wire.{Wire}
use Rattle.ft_model.specs.ServingTurn.{PlaceTurn, AllGo}
use Rattle.ft_model.specs.Lawful.{LawfulTurn}
use Rattle.plain_packets.specs.Sent.{Appends}
use Rattle.plain_world.specs.declared.place.PlainPlace.{PlainPlace}
use Rattle.plain_world.specs.Values.{place_in, places_in}

-- what is sent is as this law says
pub record SendsBy (Says : List Packet → Type 0) (old new : List Wire) : Type 0 where
  pub sent : List Packet
  pub lawful : Says sent
  pub packets : Appends old new sent

-- a node takes one lawful turn
pub record TakesNodeTurn {S : Type 0} (service : Machine S) (before : Node) (input : Input) (after : Node) (old new : List Wire) : Type 0 where
  pub sent : List Packet
  pub lawful : LawfulTurn service before input sent after
  pub packets : Appends old new sent

-- one place among others takes its turn: it stays where it is, or is gone. The next one is then at `next`
pub record OneGoes {S : Type 0} (service : Machine S) (node : Node) (input : Input) (at next : ℕ) (before after : List (PlainPlace S))
    (old new : List Wire) : Type 0 where
  pub place : PlainPlace S
  pub earlier : List (PlainPlace S)
  pub now : List (PlainPlace S)
  pub later : List (PlainPlace S)
  pub counted : length earlier ≡ at
  pub was : before ≡ earlier ++ place ∷ later
  pub became : after ≡ earlier ++ (now ++ later)
  pub next_is : next ≡ at + length now
  pub goes : SendsBy (PlaceTurn service node input (place_in place) (places_in now)) old new

-- the first places have taken their turns, and the others are unchanged
pub record FirstGo {S : Type 0} (service : Machine S) (node : Node) (input : Input) (at : ℕ) (before after : List (PlainPlace S))
    (old new : List Wire) : Type 0 where
  pub done : List (PlainPlace S)
  pub went : List (PlainPlace S)
  pub left : List (PlainPlace S)
  pub counted : length went ≡ at
  pub was : before ≡ done ++ left
  pub became : after ≡ went ++ left
  pub go : SendsBy (AllGo (PlaceTurn service node input) (places_in done) (places_in went)) old new
