-- The stored packets, and the parcels of the definitions.
use Rattle.std.specs.Prelude.{◌≡◌, ◌≤◌, ℕ, ◌+◌, Option, map, length, List, [], ◌∷◌}
use Rattle.ft_io.specs.declared.Key.{Key}
use Rattle.seq_arith.specs.declared.kinds.Grammar.{Grammar}
use Rattle.ft_model.specs.Network.Packet.{To_server, To_client, To_logger, From_logger}
use Rattle.ft_model.specs.declared.way.Way.{Way}
use Rattle.ft_model.specs.declared.way.Way.TheVariants as way
use Rattle.lasting_laws.specs.LastingWorld.{Parcel, Sent, bytes_of, parcel_concerns}
use Rattle.lasting_laws.specs.LastingWorld.Parcel.{Usual, Forget_sent, Forgotten_sent}
use Rattle.lasting_world.specs.Abouts.{names}
use Rattle.lasting_world.specs.NetworkView.{is_lost_about, lost_to}
use Rattle.lasting_world.specs.declared.network.Network.{Network}

-- a parcel has a direction of its kind
abbrev pub IsWayOf : Parcel → Way → Type 0
IsWayOf (Usual (To_server segment)) (way.ClientToServer n) = Unit {0}
IsWayOf (Usual (To_client segment)) (way.ServerToClient n) = Unit {0}
IsWayOf (Usual (To_logger message)) way.ServerToLogger = Unit {0}
IsWayOf (Usual (From_logger message)) way.LoggerToServer = Unit {0}
IsWayOf (Forget_sent message) way.ServerToLogger = Unit {0}
IsWayOf (Forgotten_sent message) way.LoggerToServer = Unit {0}
IsWayOf _ _ = ⊥

-- what is stored of a parcel: its direction, its bytes, and the key that it concerns
pub record Stored : Type 0 where
  pub way : Way
  pub bytes : List ℕ
  pub about : Option Key

-- .. where the parcel has this number, counted from 1, and those of a key are lost up to a number
pub record ParcelStands (grammar : Grammar) (number : ℕ) (up_to : Key → ℕ) (k : Stored) (s : Sent) : Type 0 where
  pub goes : IsWayOf s.parcel k.way
  pub spells : k.bytes ≡ bytes_of grammar s.parcel
  pub concerns : (key : Key) → parcel_concerns key s.parcel ≡ names k.about key
  pub lost : is_lost_about number k.about up_to ≡ s.lost

-- .. and of all, the first of which has the number n + 1
abbrev pub AllStand : Grammar → (n : ℕ) → (Key → ℕ) → List Stored → List Sent → Type 0
AllStand grammar n up_to [] [] = Unit {0}
AllStand grammar n up_to (k ∷ stored) (s ∷ sent) = ParcelStands grammar (n + 1) up_to k s × AllStand grammar (n + 1) up_to stored sent
AllStand _ _ _ _ _ = ⊥

pub record NetworkStands (grammar : Grammar) (network : Network) (sent : List Sent) : Type 0 where
  pub stored : List Stored
  pub ways : network.packets.ways ≡ map (λ k. k.way) stored
  pub bytes : network.packets.bytes ≡ map (λ k. k.bytes) stored
  pub about : network.about.items ≡ map (λ k. k.about) stored
  pub parcels : AllStand grammar 0 (lost_to network) stored sent
  pub bound : (key : Key) → lost_to network key ≤ length stored
