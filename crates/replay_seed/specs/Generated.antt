-- The schedule generated from a seed: its clients, and events drawn one after another, each in the world after those before it.
use Rattle.std.specs.Prelude.{◌≡◌, ℕ, false, None, zero, suc, ◌+◌, ◌*◌, List, [], ◌∷◌, ◌++◌}
use Rattle.ft_io.specs.declared.Addr.{Addr}
use Rattle.tcp_rules.specs.declared.profile.Profile.TheVariants.{Plain}
use Rattle.ft_model.specs.Legal.{start_of}
use Rattle.ft_model.specs.World.{World, Moment, world_after}
use Rattle.ft_model.specs.declared.event.Event.{Event}
use Rattle.ft_model.specs.declared.schedule.Schedule.{Schedule}
use Rattle.ft_model.specs.declared.schedule.ClientLine.{ClientLine}
use Rattle.ft_model.specs.declared.schedule.Script.TheVariants.{Fill}
use Rattle.ft_model.specs.declared.schedule.ServiceKind.TheVariants.{Echo}
use Rattle.pseudorandom.specs.Generator.{stepped}
use Rattle.replay_seed.specs.Draws.{draw}
use Rattle.replay_seed.specs.SeedEvents.{next_event_in}

-- 192.0.2.100:7
abbrev pub server_address : Addr
server_address = record { ip = 3221226084; port = 7 }

-- client i has the address 192.0.2.i:40000, a drawn initial sequence number, and 1000 * i letters to send
abbrev pub client_line : ℕ → ℕ → ClientLine
client_line state i = record { key = record { ip = 3221225984 + i; port = 40000 }; isn = draw state; script = Fill (1000 * i) }

-- the generator's state after `count` draws
abbrev pub after_draws : ℕ → ℕ → ℕ
after_draws state zero = state
after_draws state (suc count) = stepped (after_draws state count)

-- `count` clients, numbered from 1, each with its own draw
abbrev pub client_lines : ℕ → ℕ → List ClientLine
client_lines state zero = []
client_lines state (suc count) = client_lines state count ++ client_line (after_draws state count) (count + 1) ∷ []

-- a schedule of these events, for this many clients, with the plain profile
abbrev pub schedule_of : (seed clients : ℕ) → List Event → Schedule
schedule_of seed clients events = record {
  service = Echo;
  server = server_address;
  profile = Plain;
  twin = false;
  marks = None;
  lasting = None;
  clients = client_lines seed clients;
  events = events;
}

abbrev pub start_for : (seed clients : ℕ) → World
start_for seed clients = start_of (schedule_of seed clients [])

-- the generator's state after the draws for a trace
abbrev pub state_behind : ℕ → World → List Moment → ℕ
state_behind state start [] = state
state_behind state start (moment ∷ earlier) = (next_event_in (state_behind state start earlier) (world_after start earlier)).state

-- each event of a trace is the one that is drawn in the world before it
abbrev pub AreDrawn : ℕ → World → List Moment → Type 0
AreDrawn state start [] = Unit {0}
AreDrawn state start (moment ∷ earlier) =
    AreDrawn state start earlier × (moment.event ≡ (next_event_in (state_behind state start earlier) (world_after start earlier)).event)
