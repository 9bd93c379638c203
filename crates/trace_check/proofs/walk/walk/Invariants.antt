use Rattle.std.proofs.Common.{◌≤◌, ◌-◌, List, length}
use Rattle.ft_model.specs.Legal.{machines}
use Rattle.ft_model.specs.World.{Moment}
use Rattle.trace_check.specs.Walk.{IsPlaceIn, IsWalked}
use Rattle.trace_check.proofs.walk.walk.Given as goal

abbrev pub invariant-loop-due : goal.invariant-loop-due
invariant-loop-due g l = record {
  within : IsPlaceIn l.text l.place;
  turns : l.world.turns ≤ 100000;
  walked : (trace : List Moment) × IsWalked (machines g.S.Service.started g.S.Service.after g.S.Service.greeting) l.text l.schedule trace l.place l.world;
}

abbrev pub decreases-loop-due : goal.decreases-loop-due
decreases-loop-due g l = length l.text - l.place.at
