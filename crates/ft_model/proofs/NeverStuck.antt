-- A server of a joint trace has a turn for whatever comes: it is never fenced, and knows of no more logged reads than it made.
use Rattle.std.proofs.Common.{◌≡◌, ℕ, Some, List}
use Rattle.ft_io.specs.declared.Key.{Key}
use Rattle.server_trait.specs.Service.{Machine}
use Rattle.ft_model.specs.Network.{Packet}
use Rattle.ft_model.specs.Node.{Node, Place, Stage, Input, CountsReads, AllCount}
use Rattle.ft_model.specs.Node.Place.{Opens, Lives, Ended}
use Rattle.ft_model.specs.Node.Stage.{Asking, Fetching, Serving, Fenced}
use Rattle.ft_model.specs.Lawful.{LawfulTurn}
use Rattle.ft_model.specs.World.{World, Moment, Joint, world_after}
use Rattle.ft_model.proofs.Lists.{all_weaker}
use Rattle.ft_model.proofs.Running.{HasSmallOutputs}
use Rattle.ft_model.proofs.Authored.{PlaceRuns}
use Rattle.ft_model.proofs.AuthorOver.{StageRuns}
use Rattle.ft_model.proofs.TurnExists.{turn_exists}
use Rattle.ft_model.proofs.JointMasked as masked
use Rattle.ft_model.proofs.Unfenced.{live_stage}

place_counts : {State : Type 0} (service : Machine State) (author : Key → List ℕ) (place : Place) → PlaceRuns service author place → CountsReads place
place_counts service author (Lives p) r = r.1.counts
place_counts service author (Opens n timestamping) r = tt
place_counts service author (Ended k) r = tt

stage_counts : {State : Type 0} (service : Machine State) (author : Key → List ℕ) (stage : Stage) → StageRuns service author stage → AllCount stage
stage_counts service author (Serving opened places) r = all_weaker (PlaceRuns service author) CountsReads places (place_counts service author) r.0
stage_counts service author Asking r = tt
stage_counts service author (Fetching count fetched) r = tt
stage_counts service author (Fenced newer) r = tt

pub never_stuck : {State : Type 0} (service : Machine State) → HasSmallOutputs service → (start : World) (trace : List Moment) (node : Node) (input : Input) → Joint service start trace
    → (world_after start trace).node ≡ Some node → (after : Node) × (sent : List Packet) × LawfulTurn service node input sent after
never_stuck service small start trace node input j up =
    let o = masked.sound_after service small start trace j in
    let t = turn_exists service node input (live_stage service start trace node j up) (stage_counts service o.author.author node.stage (o.author.stage node up)) in
    (t.0, t.1, t.2)
