-- What a live connection of a joint trace holds comes after what it has taken.
use Rattle.std.proofs.Common.{◌≡◌, ℕ, Some, List, [], ◌∷◌}
use Rattle.std.specs.List.{AllByRecursion}
use Rattle.ft_io.specs.declared.Key.{Key}
use Rattle.server_trait.specs.Service.{Machine}
use Rattle.ft_model.specs.Log.{Log}
use Rattle.ft_model.specs.Point.{HoldsBehind}
use Rattle.ft_model.specs.Node.{Node, Place, Stage, points_in, points_at}
use Rattle.ft_model.specs.Node.Place.{Opens, Lives, Ended}
use Rattle.ft_model.specs.Node.Stage.{Asking, Fetching, Serving, Fenced}
use Rattle.ft_model.specs.World.{World, Moment, Joint, world_after}
use Rattle.ft_model.proofs.Faithful.{PlaceFits, StageFits}
use Rattle.ft_model.proofs.FaithfulOver.{script_of, isn_of}
use Rattle.ft_model.proofs.Acknowledged.{true_after}

places_hold : (script : Key → List ℕ) (isn : Key → ℕ) (log : Log) (places : List Place) → AllByRecursion (PlaceFits script isn log) places → AllByRecursion HoldsBehind (points_in places)
places_hold script isn log [] f = tt
places_hold script isn log (Lives p ∷ places) f = (f.0.0.behind, places_hold script isn log places f.1)
places_hold script isn log (Opens n timestamping ∷ places) f = places_hold script isn log places f.1
places_hold script isn log (Ended k ∷ places) f = places_hold script isn log places f.1

stage_holds : (script : Key → List ℕ) (isn : Key → ℕ) (log : Log) (stage : Stage) → StageFits script isn log stage → AllByRecursion HoldsBehind (points_at stage)
stage_holds script isn log (Serving opened places) f = places_hold script isn log places f
stage_holds script isn log Asking f = tt
stage_holds script isn log (Fetching count fetched) f = tt
stage_holds script isn log (Fenced newer) f = tt

pub held_after : {State : Type 0} (service : Machine State) (start : World) (trace : List Moment) (node : Node) → Joint service start trace
    → (world_after start trace).node ≡ Some node → AllByRecursion HoldsBehind (points_at node.stage)
held_after service start trace node j up =
    let w : World = world_after start trace in
    stage_holds (script_of start) (isn_of start) w.log node.stage ((true_after service start trace j).1.stage node up)
