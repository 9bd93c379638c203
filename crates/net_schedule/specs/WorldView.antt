-- What the code's world stores, and the service that it runs, as its contracts see them.
use Rattle.std.specs.Prelude.{ℕ, option_map}
use Rattle.server_trait.specs.Service.{Machine}
use Rattle.server_trait.specs.declared.Service.{Ghosts}
use Rattle.ft_model.specs.Legal.{machines}
use Rattle.server_node.specs.declared.node.Node.{Node}
use Rattle.net_schedule.specs.declared.world.World.{World}
use Rattle.schedule_network.specs.Logs.{log_in, keepers_in}
use Rattle.net_schedule.specs.Refinement.{Kept, Server}

abbrev pub server_of : {State : Type 0} {ghosts : Ghosts State} → Node State ghosts → Server State
server_of node = record { who = node.who; stage = node.stage }

abbrev pub kept : {State : Type 0} {ghosts : Ghosts State} → World State ghosts → Kept State
kept w = record {
  kind = w.kind;
  server = w.server;
  profile = w.profile;
  keys = w.keys.items;
  clients = w.clients.items;
  log = log_in w.logs;
  keepers = keepers_in w.logs;
  every = w.every;
  packets = w.packets;
  boot = w.boot;
  node = option_map server_of w.node;
}

-- the services that it can run, by their kinds
abbrev pub services_of : {State : Type 0} {ghosts : Ghosts State} → World State ghosts → ℕ → Machine State
services_of {ghosts = ghosts} w = machines ghosts.started ghosts.after ghosts.greeting

abbrev pub service_of : {State : Type 0} {ghosts : Ghosts State} → World State ghosts → Machine State
service_of w = services_of w w.kind
