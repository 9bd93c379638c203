-- What a restart does for each entry's key, whatever the other entries are: an entry that can't be restored affects its own key alone.
use Rattle.std.specs.Prelude.{◌≡◌, MatchOption, ℕ, true, false, Option, Some, None, List, [], ◌∷◌, ◌++◌, map}
use Rattle.std.specs.List.{AllByRecursion}
use Rattle.ft_io.specs.declared.Key.{Key}
use Rattle.seq_arith.specs.declared.kinds.Grammar.{Grammar}
use Rattle.seq_arith.specs.Message.{Message}
use Rattle.server_trait.specs.Service.{Machine}
use Rattle.tcp_rules.specs.Profile.{grammar_of}
use Rattle.ft_model.specs.Lawful.{Revives, restored, asked, count_reported, fetched_then}
use Rattle.ft_model.specs.Network.{Packet}
use Rattle.ft_model.specs.Node.{Node, Place, Input}
use Rattle.ft_model.specs.Node.Input.{Packet_comes, Message_comes, Noise_comes, Tick_comes}
use Rattle.ft_model.specs.Restart.{Fetched, Wanted, IsSoundEntry, entry_in, is_fetched, wanted}
use Rattle.ft_model.specs.Wire.{Wire, wire_by, HasWireBy}
use Rattle.reincarnate.specs.Questions.{FetchingState}
use Rattle.node_serving.specs.declared.serving.Serving.{Serving}
use Rattle.node_serving.specs.declared.slot.Slot.{Slot}
use Rattle.server_node.specs.declared.stage.Stage.{Stage}
use Rattle.server_node.specs.declared.stage.Stage.TheVariants as stage
use Rattle.node_serving.specs.Alone.{slot_of, StandsFor}
use Rattle.node_serving.specs.Clients.{Knows, clients_restored}
use Rattle.server_node.specs.FetchStage.{FetchingStands}
use Rattle.node_serving.specs.SentBytes.{ArePut}
use Rattle.node_serving.specs.Ownership.{of_key, IsFor}

-- an entry that is done, or sound
abbrev pub IsRestorable : {S : Type 0} → Machine S → Fetched → Type 0
IsRestorable service f = f.head.done ≡ false → IsSoundEntry service (entry_in f)

-- the first turn of an entry's key, from the place of the entry: the key's slot corresponds to the place after it, and the key's packets among those sent are
-- those of the law
pub record KeyRevives {S : Type 0} (service : Machine S) (node : Node) (f : Fetched) (now : Option (Slot S)) (sent : List Wire) : Type 0 where
  pub after : Place
  pub packets : List Packet
  pub stands : StandsFor service node f.head.key now (Some after)
  pub turn : Revives service node (restored service node.profile f) (after ∷ []) packets
  pub wires : of_key (grammar_of node.profile) f.head.key sent ≡ map (wire_by (grammar_of node.profile)) packets
  pub spelled : AllByRecursion (HasWireBy (grammar_of node.profile)) packets

-- a packet of a key whose entry is fetched
abbrev pub IsForFetched : Grammar → List Fetched → Wire → Type 0
IsForFetched grammar fetched wire = (key : Key) × (is_fetched key fetched ≡ true) × IsFor grammar key wire

-- these entries have had their first turn, each by itself, and no other key has a slot or a packet. The node knows the clients of these entries
pub record RestoredAlone {S : Type 0} (service : Machine S) (node : Node) (fetched : List Fetched) (now : Serving S) (old new : List Wire) : Type 0 where
  pub reported : List Wire
  pub put : new ≡ old ++ reported
  pub each : AllByRecursion (λ f. IsRestorable service f → KeyRevives service node f (slot_of f.head.key now) reported) fetched
  pub others : (key : Key) → is_fetched key fetched ≡ false → slot_of key now ≡ None
  pub whose : AllByRecursion (IsForFetched (grammar_of node.profile) fetched) reported
  pub known : Knows node (clients_restored fetched) now

-- the restart asks for what is missing next
pub record StillAsks {S : Type 0} (service : Machine S) (node : Node) (count : ℕ) (fetched : List Fetched) (now : FetchingState S)
    (old new : List Wire) : Type 0 where
  pub next : Wanted
  pub missing : wanted count fetched ≡ Some next
  pub stands : FetchingStands service count fetched now
  pub asks : ArePut (grammar_of node.profile) (asked node (Some next)) old new

-- what a restart does with these entries: it asks for what is missing, or, if nothing is, the node serves
abbrev pub RestartGoes : {S : Type 0} → Machine S → Node → (count : ℕ) → List Fetched → Stage S → (old new : List Wire) → Type 0
RestartGoes service node count fetched (stage.Fetching f) old new = StillAsks service node count fetched f old new
RestartGoes service node count fetched (stage.Serving s) old new = (wanted count fetched ≡ None) × RestoredAlone service node fetched s old new
RestartGoes service node count fetched _ old new = ⊥

-- a message that doesn't fit the question changes nothing
abbrev pub AnswerGoes : {S : Type 0} → Machine S → Node → Message → (count : ℕ) → List Fetched → FetchingState S → Stage S → (old new : List Wire) → Type 0
AnswerGoes service node message count fetched f now old new =
    MatchOption (fetched_then node message count fetched) ((now ≡ stage.Fetching f) × (new ≡ old)) (λ more. RestartGoes service node count more now old new)

-- a message, while the logger is asked how many entries it has, or while those are fetched
abbrev pub MessageRestarts : {S : Type 0} → Machine S → Node → Message → (was now : Stage S) → List Wire → Type 0
MessageRestarts service node message stage.Asking now sent =
    MatchOption (count_reported node message) ((now ≡ stage.Asking) × (sent ≡ [])) (λ count. RestartGoes service node count [] now [] sent)
MessageRestarts service node message (stage.Fetching f) now sent =
    (count : ℕ) (fetched : List Fetched) → FetchingStands service count fetched f → AnswerGoes service node message count fetched f now [] sent
MessageRestarts service node message (stage.Serving s) now sent = Unit {0}
MessageRestarts service node message (stage.Marked m) now sent = Unit {0}
MessageRestarts service node message stage.Lost now sent = Unit {0}

-- a node's turn restarts each key by itself. Only messages advance a restart
abbrev pub Restarts : {S : Type 0} → Machine S → Node → Input → (was now : Stage S) → List Wire → Type 0
Restarts service node (Message_comes message) was now sent = MessageRestarts service node message was now sent
Restarts service node (Packet_comes segment) was now sent = Unit {0}
Restarts service node Noise_comes was now sent = Unit {0}
Restarts service node Tick_comes was now sent = Unit {0}
