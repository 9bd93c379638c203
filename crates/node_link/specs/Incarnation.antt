-- The turns of a server's process as those of a lawful incarnation, for the services that its program offers, each by its kind.
use Rattle.std.specs.Prelude.{◌≡◌, ℕ, Option, None, map, List, [], ◌∷◌}
use Rattle.std.specs.List.{AllByRecursion}
use Rattle.ft_io.specs.declared.Key.{Key}
use Rattle.seq_arith.specs.declared.kinds.Grammar.{Grammar}
use Rattle.server_trait.specs.Service.{Machine}
use Rattle.tcp_rules.specs.Profile.{grammar_of}
use Rattle.tcp_rules.specs.Profiles.{profile_of}
use Rattle.ft_model.specs.Node.{Node, Input, booted}
use Rattle.ft_model.specs.Lawful.{Turn, IsLawful, node_after, hello, fence, IsNearInput, IsSoundInput}
use Rattle.ft_model.specs.Wire.{wire_by, HasWireBy}
use Rattle.link_parts.specs.declared.role.ServerRole.{ServerRole}
use Rattle.node_link.specs.KeyLife.{AreLawfulFor}
use Rattle.node_link.specs.ServerStages.{AllSend}
use Rattle.link_parts.specs.Receipt.{Received}
use Rattle.node_link.specs.ServerTurns.{Sent, wires_in, ServerTurn, input_from}
use Rattle.link_parts.specs.ServiceNumber.{kind_in}

-- the incarnation of these words, as it boots
abbrev pub first_of : ServerRole → Node
first_of role = booted role.local (profile_of role.profile) role.boot role.isn

-- how it and its loggers write their messages
abbrev pub grammar_for : ServerRole → Grammar
grammar_for role = grammar_of (profile_of role.profile)

abbrev pub input_in : ServerRole → Received → Input
input_in role received = input_from (grammar_for role) role.loggers received

-- a turn by the law: its input is what was received, and its packets, each in its one spelling, are what was handed to send
pub record IsTurn (role : ServerRole) (turn : ServerTurn) (law : Turn) : Type 0 where
  pub input : law.input ≡ input_in role turn.received
  pub wires : wires_in turn.sent ≡ map (wire_by (grammar_for role)) law.sent
  pub spelled : AllByRecursion (HasWireBy (grammar_for role)) law.sent

abbrev pub AreTurns : ServerRole → List ServerTurn → List Turn → Type 0
AreTurns role [] [] = Unit {0}
AreTurns role (turn ∷ earlier) (law ∷ laws) = AreTurns role earlier laws × IsTurn role turn law
AreTurns role _ _ = ⊥

-- the larger boot number that fences the server: the one that a received Stale for its own boot number names
abbrev pub fence_in : ServerRole → Received → Option ℕ
fence_in role received = fence (first_of role) (input_in role received)

module _ {State : Type 0} (services : ℕ → Machine State) where
  -- the service of the words
  abbrev pub service_of : ServerRole → Machine State
  service_of role = services (kind_in role.service)

  -- the turns are those of a lawful incarnation
  pub record IsIncarnation (role : ServerRole) (turns : List ServerTurn) (law : List Turn) : Type 0 where
    pub turns_are : AreTurns role turns law
    pub lawful : IsLawful (service_of role) (first_of role) law

  -- The premises: what comes is near to the live connections, and the entries that it completes are sound, wherever a lawful server may be then
  pub record IsFairAt (role : ServerRole) (received : Received) (node : Node) : Type 0 where
    pub near : IsNearInput role.local (input_in role received) node.stage
    pub sound : IsSoundInput (service_of role) node (input_in role received) node.stage

  abbrev pub AreFair : ServerRole → List ServerTurn → Type 0
  AreFair role [] = Unit {0}
  AreFair role (turn ∷ earlier) =
      AreFair role earlier × ((law : List Turn) → IsIncarnation role earlier law → IsFairAt role turn.received (node_after (first_of role) law))

  -- as long as the premises hold, the turns are lawful
  abbrev pub AreLawful : ServerRole → List ServerTurn → Type 0
  AreLawful role [] = Unit {0}
  AreLawful role (turn ∷ earlier) = AreLawful role earlier × (AreFair role (turn ∷ earlier) → (law : List Turn) × IsIncarnation role (turn ∷ earlier) law)

  -- A server from its boot on: it says Hello, its turns are lawful, each of them sends nothing but what it may send whatever has come, the turns of each key
  -- are lawful as long as the premises hold of that key alone, and nothing that it received fences it
  pub record Serves (role : ServerRole) (at_boot : List Sent) (turns : List ServerTurn) : Type 0 where
    pub boots : wires_in at_boot ≡ map (wire_by (grammar_for role)) (hello (first_of role))
    pub lawful : AreLawful role turns
    pub sends : AllSend (service_of role) (first_of role) role.loggers turns
    pub each_key : (key : Key) → AreLawfulFor (service_of role) (first_of role) key role.loggers turns
    pub unfenced : AllByRecursion (λ turn. fence_in role turn.received ≡ None) turns
