-- What a law is needed for: a trace in which one moment follows a weaker law, and all others follow the laws.
use Rattle.std.specs.Prelude.{List, [], ◌∷◌}
use Rattle.server_trait.specs.Service.{Machine}
use Rattle.ft_model.specs.Network.{Packet}
use Rattle.ft_model.specs.World.{World, Moment, world_after, Happens, Joint}

-- each of these moments, newest first, happens in the world after those before it
abbrev pub EachHappens : {State : Type 0} → Machine State → World → List Moment → Type 0
EachHappens service before [] = Unit {0}
EachHappens service before (moment ∷ earlier) = EachHappens service before earlier
    × Happens service (world_after before earlier) moment.event moment.sent moment.world

-- one moment doesn't follow the laws, by which the same event would have another outcome; all moments before and after it do
pub record IsWrongOnce {State : Type 0} (service : Machine State) (start : World) (later : List Moment) (wrong : Moment) (earlier : List Moment) : Type 0 where
  pub before : Joint service start earlier
  pub refused : Happens service (world_after start earlier) wrong.event wrong.sent wrong.world → ⊥
  pub otherwise : (sent : List Packet) × (world : World) × Happens service (world_after start earlier) wrong.event sent world
  pub after : EachHappens service wrong.world later
