-- What the world's methods do, by the definitions: a relation for each layer.
use Rattle.std.specs.Prelude.{◌≡◌, ℕ, Option, Some, None, List, [], ◌++◌, map, if◌then◌else◌}
use Rattle.std.specs.List.{AllByRecursion}
use Rattle.ft_io.specs.declared.Key.{Key}
use Rattle.seq_arith.specs.Damage.{flipped}
use Rattle.seq_arith.specs.PacketGrammar as segments
use Rattle.seq_arith.specs.declared.kinds.Grammar.{Grammar}
use Rattle.server_trait.specs.Service.{Machine}
use Rattle.server_trait.specs.declared.Service.{Ghosts}
use Rattle.ft_model.specs.Network.Packet.{To_server, From_logger}
use Rattle.ft_model.specs.Node.Input.{Tick_comes}
use Rattle.ft_model.specs.Wire.{Wire}
use Rattle.ft_model.specs.World.{segment_or_noise}
use Rattle.ft_model.specs.declared.event.Event.{Event}
use Rattle.ft_model.specs.declared.event.Event.TheVariants.{Tick, Deliver, Flip}
use Rattle.ft_model.specs.declared.way.Way.{Way}
use Rattle.lasting_laws.specs.LastingLegal.{lasting_refusal}
use Rattle.lasting_laws.specs.LastingReport.{way_of_lasting}
use Rattle.lasting_laws.specs.LastingTurn.{LastingInput, LastingNode}
use Rattle.lasting_laws.specs.LastingTurn.LastingInput.{Usual_comes}
use Rattle.lasting_laws.specs.LastingWorld as law_world
use Rattle.lasting_laws.specs.LastingWorld.{Parcel, Sent, ServerMoves, LastingHappens, ComesAs, grammar_in, bytes_of, said_by, said_to_server, sent_at}
use Rattle.lasting_laws.specs.LastingWorld.{parcel_concerns}
use Rattle.lasting_laws.specs.LastingWorld.Parcel.{Usual, Forgotten_sent}
use Rattle.lasting_node.specs.Turns.{IsFairTo, sent_by}
use Rattle.lasting_node.specs.declared.node.LastingNode.{LastingNode as CodeNode}
use Rattle.schedule_network.specs.declared.end.StepEnd.{StepEnd}
use Rattle.schedule_network.specs.declared.end.StepEnd.TheVariants.{NoMemory, BadEvent, PacketLimit}
use Rattle.lasting_unseen.specs.Written.{IsWritten}
use Rattle.lasting_world.specs.Abouts.{names}
use Rattle.lasting_world.specs.Around.{SendsWritten}
use Rattle.lasting_world.specs.NetworkStands.{IsWayOf}
use Rattle.lasting_world.specs.Sending.{StoresWires}
use Rattle.lasting_world.specs.Stands.{WorldStands}
use Rattle.lasting_world.specs.WorldView.{KeptWorld}

-- What arrives at the server by these bytes of a parcel, and by an event
abbrev pub arriving : Grammar → Parcel → List ℕ → Option LastingInput
arriving grammar (Usual (To_server segment)) bytes = Some (Usual_comes (segment_or_noise (segments.reading bytes)))
arriving grammar (Usual (From_logger message)) bytes = Some (said_to_server (said_by grammar bytes))
arriving grammar (Forgotten_sent message) bytes = Some (said_to_server (said_by grammar bytes))
arriving grammar parcel bytes = None

abbrev pub arriving_sent : Grammar → (List ℕ → List ℕ) → Option Sent → Option LastingInput
arriving_sent grammar changed (Some s) = if s.lost then None else arriving grammar s.parcel (changed (bytes_of grammar s.parcel))
arriving_sent grammar changed None = None

abbrev pub input_by : law_world.LastingWorld → Event → Option LastingInput
input_by w Tick = Some (Usual_comes Tick_comes)
input_by w (Deliver number) = arriving_sent (grammar_in w) (λ bytes. bytes) (sent_at w.sent number)
input_by w (Flip number bit) = arriving_sent (grammar_in w) (flipped bit) (sent_at w.sent number)
input_by w event = None

-- The premises of a step: the turn of the server that is up on what arrives is fair, all that was sent can be read, and so can what is sent next
abbrev pub MayTurn : {State : Type 0} → Machine State → law_world.LastingWorld → LastingInput → Type 0
MayTurn service w input = (n : LastingNode) → w.node ≡ Some n → IsFairTo service w.patience n input

pub record IsFairStep {State : Type 0} (service : Machine State) (w : law_world.LastingWorld) (event : Event) : Type 0 where
  pub turn : (input : LastingInput) → input_by w event ≡ Some input → MayTurn service w input
  pub readable : AllByRecursion (λ s. IsWritten (grammar_in w) s.parcel) w.sent
  pub written : SendsWritten (grammar_in w) (LastingHappens service w event)

-- the world moves to a next one, with these parcels sent, and the code's world corresponds to that; the stored directions are those of a report
pub record ReachesNext {S : Type 0} (service : Machine S) (Goes : List Parcel → law_world.LastingWorld → Type 0) (before after : KeptWorld S) : Type 0 where
  pub parcels : List Parcel
  pub world : law_world.LastingWorld
  pub goes : Goes parcels world
  pub stands : WorldStands service world after
  pub kind : after.kind ≡ before.kind
  pub profile : after.around.profile ≡ before.around.profile
  pub ways : after.around.network.packets.ways ≡ before.around.network.packets.ways ++ map (way_of_lasting world.guests) parcels

-- what a server that is up sent in its last turn is stored
abbrev pub wires_kept : {S : Type 0} {s : Ghosts S} → Option (CodeNode S s) → List Wire
wires_kept None = []
wires_kept (Some now) = sent_by now

pub record KeepsSent {S : Type 0} (wires : List Wire) (before after : KeptWorld S) : Type 0 where
  pub stores : StoresWires wires before.around after.around
  pub rest : after ≡ record before { around = after.around }

-- the server takes its turn on what may arrive
abbrev pub Serves : {S : Type 0} → Machine S → LastingInput → (before after : KeptWorld S) → Type 0
Serves service input before after =
    (w : law_world.LastingWorld) → WorldStands service w before → MayTurn service w input → SendsWritten (grammar_in w) (ServerMoves service input w)
    → ReachesNext service (ServerMoves service input w) before after

-- bytes reach the addressee of a parcel that has this direction and concerns this connection
abbrev pub Brings : {S : Type 0} → Machine S → Way → Option Key → List ℕ → (before after : KeptWorld S) → Type 0
Brings service way about bytes before after =
    (w : law_world.LastingWorld) (parcel : Parcel) → WorldStands service w before → IsWayOf parcel way
    → ((key : Key) → parcel_concerns key parcel ≡ names about key)
    → ((input : LastingInput) → arriving (grammar_in w) parcel bytes ≡ Some input → MayTurn service w input)
    → SendsWritten (grammar_in w) (ComesAs service parcel bytes w)
    → ReachesNext service (ComesAs service parcel bytes w) before after

-- an event is allowed and happens, or it is refused, and nothing changes
pub record Advances {S : Type 0} (service : Machine S) (w : law_world.LastingWorld) (event : Event) (before after : KeptWorld S) : Type 0 where
  pub next : ReachesNext service (LastingHappens service w event) before after
  pub allowed : lasting_refusal w event ≡ None

abbrev pub Does : {S : Type 0} → Machine S → Event → (before after : KeptWorld S) → Type 0
Does service event before after =
    (w : law_world.LastingWorld) → WorldStands service w before → (lasting_refusal w event ≡ None → IsFairStep service w event)
    → Advances service w event before after

abbrev pub Declines : {S : Type 0} → Machine S → Event → (before after : KeptWorld S) → StepEnd → Type 0
Declines service event before after NoMemory = Unit {0}
Declines service event before after (BadEvent why) =
    ((w : law_world.LastingWorld) → WorldStands service w before → lasting_refusal w event ≡ Some why) × (after ≡ before)
Declines service event before after PacketLimit = ⊥

-- a refused event leaves the world unchanged
abbrev pub KeepsAtRefusal : {S : Type 0} → (before after : KeptWorld S) → StepEnd → Type 0
KeepsAtRefusal before after (BadEvent why) = after ≡ before
KeepsAtRefusal before after _ = Unit {0}
