-- What the parts of a server that lasts do in a turn, and in the turns so far.
use Rattle.std.specs.Prelude.{◌≡◌, ◌⊎◌, ℕ, ◌+◌, ◌*◌, ◌^◌, ◌<◌, ◌≤◌, Option, Some, None, List, [], ◌∷◌, ◌++◌, length, map}
use Rattle.ft_io.specs.declared.link_call.LinkCall.{LinkCall}
use Rattle.ft_io.specs.Reported.{Reports}
use Rattle.ft_model.specs.Lawful.{hello}
use Rattle.ft_model.specs.Wire.{wire_by}
use Rattle.server_trait.specs.declared.Service.{Ghosts}
use Rattle.server_node.specs.declared.input.TurnEnd.{TurnEnd}
use Rattle.server_node.specs.declared.input.TurnEnd.TheVariants as end
use Rattle.node_serving.specs.declared.identity.Identity.{Identity}
use Rattle.node_serving.specs.Identity.{service_of, grammar_in}
use Rattle.lasting_node.specs.Turns.{LastingStands, LastingTurns, IsUnfencedLasting, IsFenceOfLasting}
use Rattle.lasting_node.specs.declared.node.LastingNode.{LastingNode}
use Rattle.link_parts.specs.declared.counts.Counts.{Counts}
use Rattle.link_parts.specs.declared.role.Loggers.{Loggers}
use Rattle.link_parts.specs.Counts.{with_calls, counts_of}
use Rattle.link_parts.specs.Receipt.{Received, received_as}
use Rattle.node_link.specs.ServerTurns.{Sent, wires_in, sending, ServerTurn, turn_calls, server_calls}
use Rattle.node_link.specs.ServerParts.{identity_of}
use Rattle.server_trait.specs.Service.{Machine}
use Rattle.ft_model.specs.Legal.{machines}
use Rattle.lasting_link.specs.declared.role.LastingRole.{LastingRole}
use Rattle.lasting_link.specs.LastingLife.{lasting_first, lasting_grammar, lasting_input, lasting_fence, LastingMoment, lasting_after}
use Rattle.lasting_link.specs.LastingLife.{AreLastingTurns, AreFairToLast, Lasts}

module _ {S : Type 0} {s : Ghosts S} where
  -- it has booted, and its Hello was handed to send
  pub record HasBootedToLast (role : LastingRole) (now : LastingNode S s) (old new : Option (List LinkCall)) (counted counts : Counts) : Type 0 where
    pub at_boot : List Sent
    pub wires_are : wires_in at_boot ≡ map (wire_by (lasting_grammar role)) (hello (lasting_first role).node)
    pub few : length at_boot ≤ 2 ^ 64
    pub reports : Reports old new (sending role.server.loggers at_boot)
    pub counts_are : counts ≡ with_calls counted (sending role.server.loggers at_boot)
    pub who : now.node.who ≡ identity_of role.server
    pub patience : now.patience ≡ role.patience
    pub stands : LastingStands (service_of s now.node.who) (lasting_first role) now

  -- a whole turn
  pub record HasTurnedLasting (loggers : Loggers) (was now : LastingNode S s) (old new : Option (List LinkCall)) (counted counts : Counts) : Type 0 where
    pub turn : ServerTurn
    pub few : length turn.sent ≤ 2 ^ 64
    pub reports : Reports old new (turn_calls loggers turn)
    pub counts_are : counts ≡ with_calls counted (turn_calls loggers turn)
    pub who : now.node.who ≡ was.node.who
    pub patience : now.patience ≡ was.patience
    pub goes : LastingTurns (lasting_input (grammar_in was.node.who) loggers turn.received) was now (wires_in turn.sent)
    pub unfenced : IsUnfencedLasting was.node.who (lasting_input (grammar_in was.node.who) loggers turn.received)

  -- a turn that ended it: it received, and sent nothing
  pub record EndsLasting (loggers : Loggers) (was : LastingNode S s) (old new : Option (List LinkCall)) (stop : TurnEnd) : Type 0 where
    pub received : Received
    pub reports : Reports old new (received_as received ∷ [])
    pub fenced : IsFenceOfLasting was.node.who (lasting_input (grammar_in was.node.who) loggers received) stop
    pub memory : stop ≡ end.NoMemory → IsUnfencedLasting was.node.who (lasting_input (grammar_in was.node.who) loggers received)

  -- where the server is after these turns, as long as the premises hold
  pub record IsAfterLasting (role : LastingRole) (turns : List ServerTurn) (now : LastingNode S s) : Type 0 where
    pub moments : List LastingMoment
    pub turns_are : AreLastingTurns (machines s.started s.after s.greeting) role turns moments
    pub stands : LastingStands (service_of s now.node.who) (lasting_after (lasting_first role) moments) now

  -- so many turns were done
  pub record IsLastingServing (role : LastingRole) (count : ℕ) (now : LastingNode S s) (old new : Option (List LinkCall)) (counts : Counts) : Type 0 where
    pub at_boot : List Sent
    pub turns : List ServerTurn
    pub count_is : length turns ≡ count
    pub reports : Reports old new (server_calls role.server.loggers at_boot turns)
    pub lasts : Lasts (machines s.started s.after s.greeting) role at_boot turns
    pub counts_are : counts ≡ counts_of (server_calls role.server.loggers at_boot turns)
    pub total : length (server_calls role.server.loggers at_boot turns) ≤ (count + 1) * (2 ^ 65 + 1)
    pub who : now.node.who ≡ identity_of role.server
    pub patience : now.patience ≡ role.patience
    pub stands : AreFairToLast (machines s.started s.after s.greeting) role turns → IsAfterLasting role turns now

module _ {State : Type 0} (services : ℕ → Machine State) where
  -- the same, whatever the server knows
  pub record HasServedLasting (role : LastingRole) (old new : Option (List LinkCall)) (counts : Counts) : Type 0 where
    pub at_boot : List Sent
    pub turns : List ServerTurn
    pub count_is : length turns ≡ role.server.turns
    pub reports : Reports old new (server_calls role.server.loggers at_boot turns)
    pub lasts : Lasts services role at_boot turns
    pub counts_are : counts ≡ counts_of (server_calls role.server.loggers at_boot turns)

  -- fewer turns were done, and another receive ended the server
  pub record IsCutLastingServing (role : LastingRole) (old new : Option (List LinkCall)) (Ends : Received → Type 0) : Type 0 where
    pub at_boot : List Sent
    pub turns : List ServerTurn
    pub last : Received
    pub within : length turns < role.server.turns
    pub reports : Reports old new (server_calls role.server.loggers at_boot turns ++ received_as last ∷ [])
    pub lasts : Lasts services role at_boot turns
    pub ends : Ends last

  abbrev pub ServingLastingStops : LastingRole → (old new : Option (List LinkCall)) → TurnEnd → Type 0
  ServingLastingStops role old new end.NoMemory = (new ≡ old) ⊎ IsCutLastingServing role old new (λ last. lasting_fence role last ≡ None)
  ServingLastingStops role old new (end.Fenced newer) = IsCutLastingServing role old new (λ last. lasting_fence role last ≡ Some newer)
