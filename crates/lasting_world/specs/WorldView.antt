-- What the code's world keeps from one event to the next.
use Rattle.std.specs.Prelude.{ℕ, Option, option_map, List}
use Rattle.ft_io.specs.declared.Addr.{Addr}
use Rattle.ft_io.specs.declared.Key.{Key}
use Rattle.server_trait.specs.Service.{Machine}
use Rattle.server_trait.specs.declared.Service.{Ghosts}
use Rattle.ft_model.specs.Legal.{machines}
use Rattle.node_serving.specs.declared.identity.Identity.{Identity}
use Rattle.server_node.specs.declared.stage.Stage.{Stage}
use Rattle.lasting_lives.specs.declared.life.Life.{Life}
use Rattle.lasting_node.specs.declared.node.LastingNode.{LastingNode}
use Rattle.lasting_node.specs.declared.patience.Patience.{Patience}
use Rattle.lasting_world.specs.Around.{KeptAround, kept_around}
use Rattle.lasting_world.specs.declared.world.World.{World}

-- a server that is up: what never changes of it, its state, and what it knows of its keys
pub record KeptServer (State : Type 0) : Type 0 where
  pub who : Identity
  pub patience : Patience
  pub stage : Stage State
  pub lives : List (Key × Life)

abbrev pub server_of : {State : Type 0} {ghosts : Ghosts State} → LastingNode State ghosts → KeptServer State
server_of now = record { who = now.node.who; patience = now.patience; stage = now.node.stage; lives = now.lives }

pub record KeptWorld (State : Type 0) : Type 0 where
  pub kind : ℕ  -- of the service
  pub server : Addr
  pub patience : Patience
  pub around : KeptAround
  pub boot : ℕ
  pub node : Option (KeptServer State)

abbrev pub kept : {State : Type 0} {ghosts : Ghosts State} → World State ghosts → KeptWorld State
kept w = record {
  kind = w.kind;
  server = w.server;
  patience = w.patience;
  around = kept_around w.around;
  boot = w.boot;
  node = option_map server_of w.node;
}

-- the services that it can run, by their kinds
abbrev pub services_of : {State : Type 0} {ghosts : Ghosts State} → World State ghosts → ℕ → Machine State
services_of {ghosts = ghosts} w = machines ghosts.started ghosts.after ghosts.greeting

abbrev pub service_of : {State : Type 0} {ghosts : Ghosts State} → World State ghosts → Machine State
service_of w = services_of w w.kind
