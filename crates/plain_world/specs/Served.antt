-- What holds of a node between its turns, whatever it received.
use Rattle.std.specs.Prelude.{◌≡◌, ◌≤◌, ℕ, true, List, [], ◌∷◌, length}
use Rattle.std.specs.List.{AllByRecursion}
use Rattle.server_trait.specs.Service.{Machine}
use Rattle.ft_model.specs.Restart.{Fetched, is_whole}
use Rattle.plain_connection.specs.State.{ConnectionState, IsServed}
use Rattle.plain_world.specs.declared.place.PlainPlace.{PlainPlace}
use Rattle.plain_world.specs.declared.place.PlainPlace.TheVariants as place
use Rattle.plain_world.specs.declared.stage.PlainStage.{PlainStage}
use Rattle.plain_world.specs.declared.stage.PlainStage.TheVariants as stage
use Rattle.plain_world.specs.Values.{NodeState}

-- a live connection is one of the node's kind of service, and is served by it
pub record IsServedLive {S : Type 0} (kind : ℕ) (service : Machine S) (c : ConnectionState S) : Type 0 where
  pub same_kind : c.kind ≡ kind
  pub served : IsServed service c

abbrev pub IsServedPlace : {S : Type 0} → (kind : ℕ) → Machine S → PlainPlace S → Type 0
IsServedPlace kind service (place.Lives connection) = IsServedLive kind service connection
IsServedPlace kind service _ = Unit {0}

abbrev pub AreServed : {S : Type 0} → (kind : ℕ) → Machine S → List (PlainPlace S) → Type 0
AreServed kind service places = AllByRecursion (IsServedPlace kind service) places

abbrev pub AreWhole : List Fetched → Type 0
AreWhole fetched = AllByRecursion (λ f. is_whole f ≡ true) fetched

abbrev pub earlier_ones : List Fetched → List Fetched
earlier_ones [] = []
earlier_ones (newest ∷ earlier) = earlier

-- the fetched entries of a log with `count` entries: each but the newest is complete
pub record IsFetchedOf (count : ℕ) (fetched : List Fetched) : Type 0 where
  pub few : length fetched ≤ count
  pub whole : AreWhole (earlier_ones fetched)

abbrev pub IsServedStage : {S : Type 0} → (kind : ℕ) → Machine S → PlainStage S → Type 0
IsServedStage kind service stage.Asking = Unit {0}
IsServedStage kind service (stage.Fetching count fetched) = IsFetchedOf count fetched
IsServedStage kind service (stage.Serving serving) = AreServed kind service serving.places.items

abbrev pub IsServedNode : {S : Type 0} → Machine S → NodeState S → Type 0
IsServedNode service n = IsServedStage n.kind service n.stage
