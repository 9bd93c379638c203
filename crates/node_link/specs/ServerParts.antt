-- What the parts of a server do in a turn, and in the turns so far.
use Rattle.std.specs.Prelude.{◌≡◌, ◌⊎◌, ℕ, Bool, ◌+◌, ◌*◌, ◌^◌, ◌<◌, ◌≤◌, Option, Some, None, List, [], ◌∷◌, ◌++◌, length, map}
use Rattle.ft_io.specs.declared.Addr.{Addr}
use Rattle.ft_io.specs.declared.Key.{Key}
use Rattle.ft_io.specs.declared.link_call.LinkCall.{LinkCall}
use Rattle.ft_io.specs.declared.link_call.LinkCall.TheVariants.{Handed}
use Rattle.ft_io.specs.Reported.{Reports}
use Rattle.seq_arith.specs.declared.kinds.Grammar.{Grammar}
use Rattle.ft_model.specs.Node as law
use Rattle.ft_model.specs.Lawful.{Turn, node_after, fence, hello, IsNearInput, IsSoundInput}
use Rattle.ft_model.specs.Wire.{Wire, wire_by}
use Rattle.server_trait.specs.Service.{Machine}
use Rattle.server_trait.specs.declared.Service.{Ghosts}
use Rattle.node_serving.specs.declared.identity.Identity.{Identity}
use Rattle.server_node.specs.declared.input.TurnEnd.{TurnEnd}
use Rattle.server_node.specs.declared.input.TurnEnd.TheVariants as end
use Rattle.server_node.specs.declared.node.Node.{Node}
use Rattle.server_node.specs.declared.stage.Stage.{Stage}
use Rattle.server_node.specs.declared.stage.Stage.TheVariants as stage
use Rattle.node_serving.specs.Alone.{slot_of, StandsFor}
use Rattle.node_serving.specs.Clients.{Knows}
use Rattle.server_node.specs.Apart.{TurnsApart}
use Rattle.node_serving.specs.Identity.{node_of, grammar_in}
use Rattle.server_node.specs.FetchStage.{FetchingStands}
use Rattle.server_node.specs.Stages.{StageStands, NodeGoes}
use Rattle.link_parts.specs.declared.counts.Counts.{Counts}
use Rattle.link_parts.specs.declared.role.Loggers.{Loggers}
use Rattle.link_parts.specs.declared.role.ServerRole.{ServerRole}
use Rattle.link_parts.specs.Counts.{with_calls, counts_of}
use Rattle.node_link.specs.KeyLife.{KeyRun, AreFairFor}
use Rattle.node_link.specs.ServerStages.{ServerStage, stage_after}
use Rattle.node_link.specs.ServerStages.ServerStage.{Asks, Fetches, Serves_with}
use Rattle.link_parts.specs.Receipt.{Received, received_as}
use Rattle.node_link.specs.ServerTurns.{Sent, wires_in, sending, ServerTurn, turn_calls, server_calls, input_from}
use Rattle.link_parts.specs.ServiceNumber.{kind_in}
use Rattle.node_link.specs.Incarnation.{service_of, first_of, grammar_for, IsIncarnation, AreFair, Serves, fence_in}

-- a node: its identity and its stage
pub record Standing (State : Type 0) : Type 0 where
  pub who : Identity
  pub stage : Stage State

unfoldable pub standing_of : {State : Type 0} → {ghosts : Ghosts State} → Node State ghosts → Standing State
standing_of node = record { who = node.who; stage = node.stage }

-- bytes were handed to send
pub record HasHanded (to : Addr) (bytes : List ℕ) (old new : Option (List LinkCall)) (counted counts : Counts) : Type 0 where
  pub is_lost : Bool
  pub reports : Reports old new (Handed to bytes is_lost ∷ [])
  pub counts_are : counts ≡ with_calls counted (Handed to bytes is_lost ∷ [])

-- all of these were handed to send, in order
pub record HasSent (loggers : Loggers) (wires : List Wire) (old new : Option (List LinkCall)) (counted counts : Counts) : Type 0 where
  pub sent : List Sent
  pub wires_are : wires_in sent ≡ wires
  pub reports : Reports old new (sending loggers sent)
  pub counts_are : counts ≡ with_calls counted (sending loggers sent)

abbrev pub identity_of : ServerRole → Identity
identity_of role = record { boot = role.boot; isn = role.isn; kind = kind_in role.service; local = role.local; profile = role.profile }

-- a turn that ended the node: it received, and sent nothing
pub record EndsTurn (grammar : Grammar) (loggers : Loggers) (old new : Option (List LinkCall)) (Ends : law.Input → Type 0) : Type 0 where
  pub received : Received
  pub reports : Reports old new (received_as received ∷ [])
  pub ends : Ends (input_from grammar loggers received)

abbrev pub TurnStops : {State : Type 0} → Loggers → Standing State → (old new : Option (List LinkCall)) → TurnEnd → Type 0
TurnStops loggers before old new end.NoMemory = EndsTurn (grammar_in before.who) loggers old new (λ input. (standing : law.Stage)
    → fence (node_of before.who standing) input ≡ None)
TurnStops loggers before old new (end.Fenced newer) = EndsTurn (grammar_in before.who) loggers old new (λ input. (standing : law.Stage)
    → fence (node_of before.who standing) input ≡ Some newer)

module _ {State : Type 0} (services : ℕ → Machine State) where
  -- a boot: it is where the law's server boots, and its Hello was handed to send
  pub record HasBooted (role : ServerRole) (s : Standing State) (old new : Option (List LinkCall)) (counted counts : Counts) : Type 0 where
    pub at_boot : List Sent
    pub wires_are : wires_in at_boot ≡ map (wire_by (grammar_for role)) (hello (first_of role))
    pub few : length at_boot ≤ 2 ^ 64
    pub reports : Reports old new (sending role.loggers at_boot)
    pub counts_are : counts ≡ with_calls counted (sending role.loggers at_boot)
    pub who : s.who ≡ identity_of role
    pub stands : StageStands (service_of services role) (first_of role) s.stage

  abbrev pub Goes : Standing State → law.Input → Standing State → List Wire → Type 0
  Goes before input after wires = (standing : law.Stage) → IsNearInput before.who.local input standing
      → IsSoundInput (services before.who.kind) (node_of before.who standing) input standing
      → StageStands (services before.who.kind) (node_of before.who standing) before.stage
      → NodeGoes (services before.who.kind) (node_of before.who standing) input before.who after.stage wires

  -- a whole turn
  pub record HasTurned (loggers : Loggers) (before after : Standing State) (old new : Option (List LinkCall)) (counted counts : Counts) : Type 0 where
    pub turn : ServerTurn
    pub few : length turn.sent ≤ 2 ^ 64
    pub reports : Reports old new (turn_calls loggers turn)
    pub counts_are : counts ≡ with_calls counted (turn_calls loggers turn)
    pub who : after.who ≡ before.who
    pub goes : Goes before (input_from (grammar_in before.who) loggers turn.received) after (wires_in turn.sent)
    pub apart : TurnsApart (services before.who.kind) before.who (input_from (grammar_in before.who) loggers turn.received) before.stage after.stage
        (wires_in turn.sent)
    pub unfenced : (standing : law.Stage) → fence (node_of before.who standing) (input_from (grammar_in before.who) loggers turn.received) ≡ None

  -- where the node is after these turns, as long as the premises hold
  pub record IsAfterTurns (role : ServerRole) (turns : List ServerTurn) (s : Standing State) : Type 0 where
    pub turns_by_law : List Turn
    pub standing : law.Stage
    pub incarnation : IsIncarnation services role turns turns_by_law
    pub node : node_after (first_of role) turns_by_law ≡ node_of (identity_of role) standing
    pub stands : StageStands (service_of services role) (node_of (identity_of role) standing) s.stage

  -- how far it is, whatever has come
  abbrev pub StandsAt : law.Node → ServerStage → Stage State → ℕ → Type 0
  StandsAt node Asks stage.Asking kind = Unit {0}
  StandsAt node (Fetches count fetched) (stage.Fetching f) kind = FetchingStands (services kind) count fetched f
  StandsAt node (Serves_with clients) (stage.Serving s) kind = Knows node clients s
  StandsAt node _ _ kind = ⊥

  -- what it has for a key, once it serves
  abbrev pub HasFor : law.Node → Key → Option law.Place → Stage State → ℕ → Type 0
  HasFor node key place (stage.Serving s) kind = StandsFor (services kind) node key (slot_of key s) place
  HasFor node key place _ kind = Unit {0}

  -- .. after these turns, as long as the premises hold of that key
  pub record StandsForKey (role : ServerRole) (key : Key) (turns : List ServerTurn) (s : Standing State) : Type 0 where
    pub place : Option law.Place
    pub run : KeyRun (service_of services role) (first_of role) key role.loggers turns place
    pub has : HasFor (first_of role) key place s.stage (kind_in role.service)

  -- so many turns were done
  pub record IsServing (role : ServerRole) (count : ℕ) (s : Standing State) (old new : Option (List LinkCall)) (counts : Counts) : Type 0 where
    pub at_boot : List Sent
    pub turns : List ServerTurn
    pub count_is : length turns ≡ count
    pub reports : Reports old new (server_calls role.loggers at_boot turns)
    pub serves : Serves services role at_boot turns
    pub counts_are : counts ≡ counts_of (server_calls role.loggers at_boot turns)
    pub total : length (server_calls role.loggers at_boot turns) ≤ (count + 1) * (2 ^ 65 + 1)
    pub who : s.who ≡ identity_of role
    pub stands : AreFair services role turns → IsAfterTurns role turns s
    pub at : StandsAt (first_of role) (stage_after (first_of role) role.loggers turns) s.stage (kind_in role.service)
    pub each_key : (key : Key) → AreFairFor (service_of services role) (first_of role) key role.loggers turns → StandsForKey role key turns s

  -- the same, whatever the node's stage
  pub record HasServed (role : ServerRole) (old new : Option (List LinkCall)) (counts : Counts) : Type 0 where
    pub at_boot : List Sent
    pub turns : List ServerTurn
    pub count_is : length turns ≡ role.turns
    pub reports : Reports old new (server_calls role.loggers at_boot turns)
    pub serves : Serves services role at_boot turns
    pub counts_are : counts ≡ counts_of (server_calls role.loggers at_boot turns)

  -- fewer turns were done, and another receive ended the server
  pub record IsCutServing (role : ServerRole) (old new : Option (List LinkCall)) (Ends : Received → Type 0) : Type 0 where
    pub at_boot : List Sent
    pub turns : List ServerTurn
    pub last : Received
    pub within : length turns < role.turns
    pub reports : Reports old new (server_calls role.loggers at_boot turns ++ received_as last ∷ [])
    pub serves : Serves services role at_boot turns
    pub ends : Ends last

  abbrev pub ServeStops : ServerRole → (old new : Option (List LinkCall)) → TurnEnd → Type 0
  ServeStops role old new end.NoMemory = (new ≡ old) ⊎ IsCutServing role old new (λ last. fence_in role last ≡ None)
  ServeStops role old new (end.Fenced newer) = IsCutServing role old new (λ last. fence_in role last ≡ Some newer)
