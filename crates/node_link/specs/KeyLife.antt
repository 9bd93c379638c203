-- A server's life as one client sees it, from the boot on, whatever other clients send, whatever their connections' states, and whatever the log has of them.
use Rattle.std.specs.Prelude.{◌≡◌, MatchOption, ℕ, find, Option, None, Some, map, List, [], ◌∷◌}
use Rattle.std.specs.List.{AllByRecursion}
use Rattle.std.specs.Option.{option_to_list}
use Rattle.ft_io.specs.declared.Key.{Key}
use Rattle.ft_io.specs.Key.{key_eq}
use Rattle.seq_arith.specs.declared.kinds.Grammar.{Grammar}
use Rattle.tcp_rules.specs.Profile.{grammar_of}
use Rattle.server_trait.specs.Service.{Machine}
use Rattle.ft_model.specs.Lawful.{Revives, restored}
use Rattle.ft_model.specs.Network.{Packet}
use Rattle.ft_model.specs.Node.{Node, Place, Stage, Input}
use Rattle.ft_model.specs.Node.Stage.{Asking, Fetching}
use Rattle.ft_model.specs.Restart.{Fetched, wanted}
use Rattle.ft_model.specs.Wire.{Wire, wire_by, HasWireBy}
use Rattle.node_serving.specs.Alone.{IsNearFor, KeyTurn}
use Rattle.node_serving.specs.Clients.{Clients, pending_of}
use Rattle.server_node.specs.Restarts.{IsRestorable}
use Rattle.node_serving.specs.Ownership.{of_key}
use Rattle.link_parts.specs.declared.role.Loggers.{Loggers}
use Rattle.node_link.specs.ServerStages.{ServerStage, RestartTurn, restarts_by, stage_after}
use Rattle.node_link.specs.ServerStages.ServerStage.{Asks, Fetches, Serves_with}
use Rattle.node_link.specs.ServerTurns.{ServerTurn, wires_in, input_from}

-- what the log has of a key
abbrev pub entry_of : Key → List Fetched → Option Fetched
entry_of key fetched = find (λ f. key_eq f.head.key key) fetched

-- among what was sent these are the key's packets, each in its one spelling
pub record AreOf (grammar : Grammar) (key : Key) (packets : List Packet) (sent : List Wire) : Type 0 where
  pub wires : of_key grammar key sent ≡ map (wire_by grammar) packets
  pub spelled : AllByRecursion (HasWireBy grammar) packets

module _ {State : Type 0} (service : Machine State) (node : Node) (key : Key) where
  -- at the end of the restart a key has the place of its entry, after that place's first turn, or none
  abbrev pub Revived : Option Fetched → Option Place → List Packet → Type 0
  Revived (Some f) after packets = Revives service node (restored service node.profile f) (option_to_list after) packets
  Revived None after packets = (after ≡ None) × (packets ≡ [])

  pub record EndsRestart (before : Stage) (input : Input) (after : Option Place) (sent : List Wire) : Type 0 where
    pub count : ℕ
    pub fetched : List Fetched
    pub reported : restarts_by node input before ≡ Some (count, fetched)
    pub complete : wanted count fetched ≡ None
    pub packets : List Packet
    pub turn : Revived (entry_of key fetched) after packets
    pub its : AreOf (grammar_of node.profile) key packets sent

  -- before, it has none, and the turn is the law's
  abbrev pub RestartsKey : Stage → Input → ServerStage → Option Place → List Wire → Type 0
  RestartsKey before input Asks after sent = (after ≡ None) × RestartTurn service node before input Asking sent
  RestartsKey before input (Fetches count fetched) after sent = (after ≡ None) × RestartTurn service node before input (Fetching count fetched) sent
  RestartsKey before input (Serves_with clients) after sent = EndsRestart before input after sent

  -- while the server serves, the key's turn is that of a server that has this key alone, but for the openings of all clients: they use up initial sequence
  -- numbers, and while 64 of them are pending, a SYN of an unknown client may be ignored
  pub record ServesKey (clients : Clients) (before : Option Place) (input : Input) (after : Option Place) (sent : List Wire) : Type 0 where
    pub packets : List Packet
    pub turn : KeyTurn service node input key clients.opened (pending_of clients.known) before after packets
    pub its : AreOf (grammar_of node.profile) key packets sent

  -- one turn, for the key, from a stage of the server to the next
  abbrev pub KeyAdvances : ServerStage → Option Place → Input → ServerStage → Option Place → List Wire → Type 0
  KeyAdvances Asks before input now after sent = RestartsKey Asking input now after sent
  KeyAdvances (Fetches count fetched) before input now after sent = RestartsKey (Fetching count fetched) input now after sent
  KeyAdvances (Serves_with clients) before input now after sent = ServesKey clients before input after sent

  -- the key's own entry, if the log has one, is done or sound when the log is complete
  abbrev pub IsSoundFor : Option (ℕ × List Fetched) → Type 0
  IsSoundFor (Some (count, fetched)) = wanted count fetched ≡ None → MatchOption (entry_of key fetched) (Unit {0}) (IsRestorable service)
  IsSoundFor None = Unit {0}

  -- the premises, of this key alone: during the restart the one above, and later that a packet of its own client is near to its place
  abbrev pub IsFairFor : Input → ServerStage → Option Place → Type 0
  IsFairFor input Asks place = IsSoundFor (restarts_by node input Asking)
  IsFairFor input (Fetches count fetched) place = IsSoundFor (restarts_by node input (Fetching count fetched))
  IsFairFor input (Serves_with clients) place = IsNearFor node.server input place

  module _ (loggers : Loggers) where
    -- the key's turns so far, the newest first, and what the server then has for it
    abbrev pub KeyRun : List ServerTurn → Option Place → Type 0
    KeyRun [] place = place ≡ None
    KeyRun (turn ∷ earlier) place =
        (before : Option Place) × KeyRun earlier before
        × KeyAdvances (stage_after node loggers earlier) before (input_from (grammar_of node.profile) loggers turn.received)
        (stage_after node loggers (turn ∷ earlier)) place (wires_in turn.sent)

    abbrev pub AreFairFor : List ServerTurn → Type 0
    AreFairFor [] = Unit {0}
    AreFairFor (turn ∷ earlier) =
        AreFairFor earlier × ((place : Option Place) → KeyRun earlier place
        → IsFairFor (input_from (grammar_of node.profile) loggers turn.received) (stage_after node loggers earlier) place)

    -- as long as the premises hold of the key, its turns are lawful
    abbrev pub AreLawfulFor : List ServerTurn → Type 0
    AreLawfulFor [] = Unit {0}
    AreLawfulFor (turn ∷ earlier) = AreLawfulFor earlier × (AreFairFor (turn ∷ earlier) → (place : Option Place) × KeyRun (turn ∷ earlier) place)
