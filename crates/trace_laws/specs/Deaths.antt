-- A world in which the logger may die at any moment, and is restarted from its file. A death loses nothing that was answered: the log after it has all that the
-- log had, and also those messages in the file that had reached the logger and were not answered yet.
use Rattle.std.specs.Prelude.{◌≡◌, ◌⊎◌, ℕ, Some, List, [], ◌∷◌}
use Rattle.std.specs.List.{AllByRecursion}
use Rattle.server_trait.specs.Service.{Machine}
use Rattle.seq_arith.specs.Message.{Message}
use Rattle.ft_model.specs.Log.{Log, log_after}
use Rattle.ft_model.specs.Network.{Packet, packet_at}
use Rattle.ft_model.specs.Network.Packet.{To_logger, From_logger}
use Rattle.ft_model.specs.Masked.{SeesFront, AcknowledgesLogged, RestartIsExact, AllAreReported}
use Rattle.ft_model.specs.World.{World, Moment, Happens, IsStart, Joint, world_after}
use Rattle.ft_model.specs.declared.event.Event.{Event}

-- What happens next: an event of any world, or the logger's death and restart. The packets of these numbers had reached it in this order, and were not
-- answered, and its file has them. What had reached it and isn't in the file counts as never delivered.
pub data Step : Type 0 where
  Calm : Event → Step
  Dies : List ℕ → Step

-- the log after the restart: the log before, and then the messages of these packets
abbrev pub ComesBack : List Packet → List ℕ → Log → Log → Type 0
ComesBack packets [] before after = after ≡ before
ComesBack packets (number ∷ numbers) before after =
    (message : Message) × (packet_at packets number ≡ Some (To_logger message)) × ComesBack packets numbers (log_after before message) after

abbrev pub MayHappen : {State : Type 0} → Machine State → World → Step → List Packet → World → Type 0
MayHappen service before (Calm event) sent after = Happens service before event sent after
MayHappen service before (Dies numbers) sent after =
    (log : Log) × ComesBack before.packets numbers before.log log × (sent ≡ []) × (after ≡ record before { log = log })

pub record MortalMoment : Type 0 where
  pub step : Step
  pub sent : List Packet
  pub world : World

-- the world at the end of a trace, newest moment first
abbrev pub mortal_after : World → List MortalMoment → World
mortal_after start [] = start
mortal_after start (moment ∷ earlier) = moment.world

-- a joint trace, but with a logger that may die
abbrev pub MortalJoint : {State : Type 0} → Machine State → World → List MortalMoment → Type 0
MortalJoint service start [] = IsStart start
MortalJoint service start (moment ∷ earlier) =
    MortalJoint service start earlier × MayHappen service (mortal_after start earlier) moment.step moment.sent moment.world

abbrev pub IsAnswer : Packet → Type 0
IsAnswer (From_logger message) = Unit {0}
IsAnswer _ = ⊥

-- the second list is the first, with answers of the logger inserted
abbrev pub IsWithin : List Packet → List Packet → Type 0
IsWithin packets [] = packets ≡ []
IsWithin packets (one ∷ others) = ((rest : List Packet) × (packets ≡ one ∷ rest) × IsWithin rest others) ⊎ (IsAnswer one × IsWithin packets others)

-- a world is the one after a joint trace, except that the latter may have further answers of the logger among its packets
pub record IsShown {State : Type 0} (service : Machine State) (start world : World) : Type 0 where
  pub trace : List Moment
  pub joint : Joint service start trace
  pub packets : List Packet
  pub same : world_after start trace ≡ record world { packets = packets }
  pub within : IsWithin world.packets packets

-- the four facts of the headline (`ft_model`), after a moment
pub record IsUnseen {State : Type 0} (service : Machine State) (before : World) (sent : List Packet) (after : World) : Type 0 where
  pub clients : AllByRecursion (SeesFront service after.log) after.clients
  pub acknowledged : AllByRecursion (AcknowledgesLogged after.log after.clients) sent
  pub restart : RestartIsExact service after.log before.node after.node
  pub reported : AllAreReported after.packets after.node

-- .. and after every moment of a trace
abbrev pub Unseen : {State : Type 0} → Machine State → World → List MortalMoment → Type 0
Unseen service start [] = Unit {0}
Unseen service start (moment ∷ earlier) = Unseen service start earlier × IsUnseen service (mortal_after start earlier) moment.sent moment.world
