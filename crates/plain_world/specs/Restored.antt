-- The end of a restart.
use Rattle.std.specs.Prelude.{◌≡◌, ◌≤◌, ℕ, Option, Some, None, List, [], ◌∷◌, ◌++◌}
use Rattle.server_trait.specs.Service.{Machine}
use Rattle.ft_model.specs.Node as law
use Rattle.ft_model.specs.ServingTurn.{AllGo}
use Rattle.ft_model.specs.Lawful.{Revives, restored, all_restored, restored_count}
use Rattle.ft_model.specs.Restart.{Fetched}
use Rattle.ft_model.specs.Wire.{Wire}
use Rattle.plain_world.specs.declared.place.PlainPlace.{PlainPlace}
use Rattle.plain_world.specs.declared.serving.Serving.{Serving}
use Rattle.plain_world.specs.declared.stage.PlainStage.{PlainStage}
use Rattle.plain_world.specs.Served.{AreServed, IsServedStage, IsFetchedOf}
use Rattle.plain_world.specs.NodeTurns.{SendsBy}
use Rattle.plain_world.specs.Values.{place_in, places_in, stage_in, opened_at}

-- an entry became the last place, in its first turn
pub record IsRestored {S : Type 0} (service : Machine S) (node : law.Node) (f : Fetched) (before after : List (PlainPlace S))
    (old new : List Wire) : Type 0 where
  pub place : PlainPlace S
  pub places : after ≡ before ++ place ∷ []
  pub turn : SendsBy (Revives service node (restored service node.profile f) (place_in place ∷ [])) old new

-- these entries became places, in the log's order, each in its first turn
pub record AreRestored {S : Type 0} (service : Machine S) (node : law.Node) (fetched : List Fetched) (now : Serving S) (old new : List Wire) : Type 0 where
  pub opened : now.opened ≡ restored_count fetched
  pub go : SendsBy (AllGo (Revives service node) (all_restored service node.profile fetched) (places_in now.places.items)) old new

-- the stage after a restart, which serves now, or still fetches
abbrev pub stage_then : {S : Type 0} → Option (Serving S) → (count : ℕ) → List Fetched → law.Stage
stage_then (Some serving) count fetched = law.Stage.Serving serving.opened (places_in serving.places.items)
stage_then None count fetched = law.Stage.Fetching count fetched

-- the stage after a turn that may have changed it
abbrev pub stage_after : {S : Type 0} → Option (PlainStage S) → law.Stage → law.Stage
stage_after (Some after) before = stage_in after
stage_after None before = before

abbrev pub IsServedAfter : {S : Type 0} → (kind : ℕ) → Machine S → Option (PlainStage S) → Type 0
IsServedAfter kind service (Some after) = IsServedStage kind service after × (opened_at after ≤ 65535)
IsServedAfter kind service None = Unit {0}

-- the invariant of that stage
abbrev pub IsServedThen : {S : Type 0} → (kind : ℕ) → Machine S → Option (Serving S) → (count : ℕ) → List Fetched → Type 0
IsServedThen kind service (Some serving) count fetched = AreServed kind service serving.places.items × (serving.opened ≤ 65535)
IsServedThen kind service None count fetched = IsFetchedOf count fetched
