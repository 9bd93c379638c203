-- A server that lasts in a world with a quarantine: its turn, as moments of that world.
use Rattle.std.specs.Prelude.{◌≡◌, ℕ, Some, List, [], ◌∷◌, ◌++◌}
use Rattle.std.specs.List.{AllByRecursion, flat_map}
use Rattle.server_trait.specs.Service.{Machine}
use Rattle.ft_model.specs.Network.{Packet}
use Rattle.ft_model.specs.Node.{Input}
use Rattle.long_laws.specs.QuarantineWorld.{QuarantineWorld, QuarantineStep, QuarantineMoment, MayQuarantine, IsFresh, new_places}
use Rattle.lasting_laws.specs.LastingTurn.{LastingNode, LastingSent}

-- it is the server of the world, and its quarantine is the world's
pub record IsServerOf (n : LastingNode) (w : QuarantineWorld) : Type 0 where
  pub up : w.now.node ≡ Some n.node
  pub quarantine : w.quarantine ≡ n.quarantine

-- the world after a turn of it: its packets and Forgets are under way
abbrev pub world_then : LastingNode → LastingSent → QuarantineWorld → QuarantineWorld
world_then after sent w = record w {
  now = record w.now { node = Some after.node; packets = w.now.packets ++ sent.packets };
  notes = w.notes ++ sent.forgets;
  quarantine = after.quarantine;
}

-- the world's premise: the numbers of an opening are named by no message about forgetting of the server's boot under way
abbrev pub OpensFresh : LastingNode → Input → QuarantineWorld → Type 0
OpensFresh n input w = AllByRecursion (IsFresh n.node.boot (new_places n.node input n.node.stage)) w.notes

-- it is one moment
abbrev pub IsOneMoment : {State : Type 0} → Machine State → (wait : ℕ) → QuarantineWorld → List Packet → QuarantineWorld → Type 0
IsOneMoment service wait before sent after = (step : QuarantineStep) × MayQuarantine service wait before step sent after

-- .. or several, oldest first, that lead from one world to another, and leave log and clients as they are
abbrev pub GoesBy : {State : Type 0} → Machine State → (wait : ℕ) → QuarantineWorld → List QuarantineMoment → QuarantineWorld → Type 0
GoesBy service wait before [] after = after ≡ before
GoesBy service wait before (moment ∷ later) after =
    MayQuarantine service wait before moment.step moment.sent moment.world
    × (moment.world.now.log ≡ before.now.log) × (moment.world.now.clients ≡ before.now.clients) × GoesBy service wait moment.world later after

-- what they send is, in order, this
abbrev pub AreMoments : {State : Type 0} → Machine State → (wait : ℕ) → QuarantineWorld → List Packet → QuarantineWorld → Type 0
AreMoments service wait before sent after =
    (moments : List QuarantineMoment) × GoesBy service wait before moments after × (flat_map (λ m. m.sent) moments ≡ sent)
