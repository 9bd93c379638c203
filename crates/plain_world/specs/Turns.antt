-- The effect of an event on the plain world.
use Rattle.std.specs.Prelude.{◌≡◌, ℕ, ◌+◌, ◌-◌, ◌*◌, ◌<◌, ◌≤◌, max, Option, Some, None, List, [], ◌∷◌, ◌++◌, map, length, slice_set}
use Rattle.ft_io.specs.declared.Addr.{Addr}
use Rattle.server_trait.specs.Service.{Machine}
use Rattle.tcp_rules.specs.Profile.{Profile, grammar_of}
use Rattle.ft_model.specs.Client.{Client, Move, move_of, window_of, refusal_of_move, segment_of, moved}
use Rattle.ft_model.specs.Legal.{refusal, IsScripted}
use Rattle.ft_model.specs.Network.{Packet}
use Rattle.ft_model.specs.Network.Packet.{To_server}
use Rattle.ft_model.specs.Node.{Input}
use Rattle.ft_model.specs.Readable.{FitsEvent}
use Rattle.ft_model.specs.Wire.{Wire, wire_by, HasWireBy}
use Rattle.ft_model.specs.World.{World, ServerTurn, client_at, Delivered, Flipped, Happens}
use Rattle.ft_model.specs.declared.event.Event.{Event}
use Rattle.plain_packets.specs.Sent.{Appends, kept_wire, CanBeKept}
use Rattle.plain_world.specs.NodeTurns.{SendsBy}
use Rattle.plain_world.specs.Values.{NodeState}
use Rattle.plain_world.specs.Premises.{Premises, IsFree, PassesBy}
use Rattle.plain_world.specs.WorldState.{ActorsState, WorldState, node_of, world_with, world_of, OfKind, IsServedUp, opened_of}

-- the server keeps its invariants
pub record StaysReady {State : Type 0} (service : ℕ → Machine State) (before after : Option (NodeState State)) : Type 0 where
  pub same_kind : (kind : ℕ) → OfKind kind before → OfKind kind after
  pub served : IsServedUp service after
  pub few : opened_of after ≤ max 65535 (opened_of before + 1)

-- the server takes its turn on an input, if it is up
pub record Serves {State : Type 0} (service : ℕ → Machine State) (input : Input) (before after : Option (NodeState State)) (old new : List Wire) : Type 0 where
  pub ready : StaysReady service before after
  pub turn : (kind : ℕ) → OfKind kind before → IsFree input (node_of before)
      → SendsBy (λ sent. ServerTurn (service kind) input (node_of before) sent (node_of after)) old new

-- a client makes the move that an event asks for, if its state allows it
abbrev pub MakesMove : Event → (before after : Client) → (old new : List Wire) → Type 0
MakesMove event before after old new =
    (move : Move) → move_of event ≡ Some move → refusal_of_move before move ≡ None
    → (after ≡ moved before move (window_of before event)) × Appends old new (To_server (segment_of before move (window_of before event)) ∷ [])

-- the client with this number, if there is one, makes the move
abbrev pub MovesOne : ℕ → Event → (before after : List Client) → (old new : List Wire) → Type 0
MovesOne number event before after old new =
    (client : Client) → client_at before number ≡ Some client → (later : Client) × MakesMove event client later old new
    × (after ≡ slice_set before (number - 1) later)

-- a client makes a move, and nothing else among the actors changes
pub record MovesClient {State : Type 0} (number : ℕ) (event : Event) (before after : ActorsState State) (old new : List Wire) : Type 0 where
  pub log : after.log ≡ before.log
  pub node : after.node ≡ before.node
  pub moves : MovesOne number event before.clients after.clients old new

-- a packet reaches its addressee
pub record Brings {State : Type 0} (service : ℕ → Machine State) (wire : Wire) (before after : ActorsState State) (old new : List Wire) : Type 0 where
  pub ready : StaysReady service before.node after.node
  pub reaches : (kind : ℕ) (server : Addr) (profile : Profile) (boot : ℕ) (packets : List Packet) (packet : Packet) → OfKind kind before.node
      → wire ≡ kept_wire packet → CanBeKept packet → PassesBy packet (node_of before.node)
      → SendsBy (λ sent. Delivered (service kind) (world_with server profile boot packets before) packet sent
      (world_with server profile boot (packets ++ sent) after)) old new

-- a packet reaches its addressee with a changed bit
pub record BringsFlipped {State : Type 0} (service : ℕ → Machine State) (wire : Wire) (before after : ActorsState State) (old new : List Wire) : Type 0 where
  pub ready : StaysReady service before.node after.node
  pub reaches : (kind : ℕ) (server : Addr) (profile : Profile) (boot : ℕ) (packets : List Packet) (packet : Packet) (bit : ℕ) → OfKind kind before.node
      → wire ≡ kept_wire packet → HasWireBy (grammar_of profile) packet → bit < 8 * length (wire_by (grammar_of profile) packet).bytes
      → SendsBy (λ sent. Flipped (service kind) (world_with server profile boot packets before) packet bit sent
      (world_with server profile boot (packets ++ sent) after)) old new

-- an event happens as the script asks for it: these packets are sent, and then the plain world corresponds to the next one
pub record Advances {State : Type 0} (service : Machine State) (event : Event) (before : World) (after : WorldState State) (sent : List Packet) : Type 0 where
  pub happens : Happens service before event sent (world_of after (before.packets ++ sent))
  pub scripted : IsScripted before event sent (world_of after (before.packets ++ sent))

-- an event that is allowed happens
pub record Does {State : Type 0} (service : ℕ → Machine State) (event : Event) (before after : WorldState State) : Type 0 where
  pub kind : after.kind ≡ before.kind
  pub turns : after.turns ≡ before.turns
  pub same_kind : OfKind before.kind before.node → OfKind before.kind after.node
  pub served : IsServedUp service after.node
  pub few : opened_of after.node ≤ max 65535 (opened_of before.node + 1)
  pub advances : (packets : List Packet) → OfKind before.kind before.node → before.packets ≡ map kept_wire packets → Premises (world_of before packets)
      → refusal (world_of before packets) event ≡ None → FitsEvent event
      → SendsBy (Advances (service before.kind) event (world_of before packets) after) before.packets after.packets
