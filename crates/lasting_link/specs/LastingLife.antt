-- The life of a server that lasts over its link, with any services, and what ends it early. As long as what arrives is fair to it, its turns are those of a
-- server that lasts by the law.
use Rattle.std.specs.Prelude.{◌≡◌, ◌⊎◌, ℕ, ◌<◌, ◌≤◌, Option, Some, None, IfSome, Result, Ok, Err, List, [], ◌∷◌, ◌++◌, length, map, if◌then◌else◌}
use Rattle.std.specs.List.{AllByRecursion}
use Rattle.std.specs.Option.{option_to_list}
use Rattle.std.specs.Io.KnownBytes.{Appends}
use Rattle.ft_io.specs.declared.link_call.LinkCall.{LinkCall}
use Rattle.ft_io.specs.declared.link_call.LinkCall.TheVariants.{Bound}
use Rattle.ft_io.specs.Sink.{AppendsFront}
use Rattle.ft_io.specs.Reported.{Reports}
use Rattle.seq_arith.specs.declared.kinds.Grammar.{Grammar}
use Rattle.seq_arith.specs.PacketGrammar as packets
use Rattle.server_trait.specs.Service.{Machine}
use Rattle.tcp_rules.specs.Profiles.{profile_of}
use Rattle.ft_model.specs.Lawful.{hello, fence}
use Rattle.ft_model.specs.Node.Input.{Tick_comes}
use Rattle.ft_model.specs.Wire.{wire_by, HasWireBy}
use Rattle.ft_model.specs.World.{segment_or_noise}
use Rattle.lasting_laws.specs.LastingTurn.{LastingNode, LastingInput, LastingSent, LastingTurn, booted_to_last}
use Rattle.lasting_laws.specs.LastingTurn.LastingInput.{Usual_comes, Forget_comes}
use Rattle.lasting_node.specs.Turns.{patience_of, message_said, wires_of_sent, IsFairTo}
use Rattle.link_parts.specs.declared.role.Loggers.{Loggers}
use Rattle.link_parts.specs.declared.status.NodeEnd.{NodeEnd}
use Rattle.link_parts.specs.declared.status.NodeEnd.TheVariants.{LinkFault, NoMemory, WriteFault, Fenced}
use Rattle.link_parts.specs.Counts.{count_line, counts_of}
use Rattle.link_parts.specs.Receipt.{Received, datagram, silence, failure, received_as}
use Rattle.node_link.specs.ServerTurns.{is_from_logger, Sent, wires_in, ServerTurn, server_calls}
use Rattle.node_link.specs.Incarnation as usual
use Rattle.lasting_link.specs.declared.role.LastingRole.{LastingRole}

-- the incarnation of these words, as it boots
abbrev pub lasting_first : LastingRole → LastingNode
lasting_first role = booted_to_last role.server.local (profile_of role.server.profile) role.server.boot role.server.isn

abbrev pub lasting_grammar : LastingRole → Grammar
lasting_grammar role = usual.grammar_for role.server

-- what was received, as the server's input: what comes from the logger's address is a message, from any other a packet, and nothing is a tick
abbrev pub lasting_input : Grammar → Loggers → Received → LastingInput
lasting_input grammar loggers (datagram from bytes) =
    if is_from_logger loggers from then message_said grammar bytes else Usual_comes (segment_or_noise (packets.reading bytes))
lasting_input grammar loggers silence = Usual_comes Tick_comes
lasting_input grammar loggers failure = Usual_comes Tick_comes

abbrev pub lasting_input_in : LastingRole → Received → LastingInput
lasting_input_in role received = lasting_input (lasting_grammar role) role.server.loggers received

-- the larger boot number that fences it: the one that a received Stale for its own boot number names
abbrev pub fence_by : LastingRole → LastingInput → Option ℕ
fence_by role (Usual_comes input) = fence (lasting_first role).node input
fence_by role (Forget_comes message) = None

abbrev pub lasting_fence : LastingRole → Received → Option ℕ
lasting_fence role received = fence_by role (lasting_input_in role received)

-- a turn by the law: its input, what it sends, and the server after it
pub record LastingMoment : Type 0 where
  pub input : LastingInput
  pub sent : LastingSent
  pub after : LastingNode

abbrev pub lasting_after : LastingNode → List LastingMoment → LastingNode
lasting_after first [] = first
lasting_after first (last ∷ earlier) = last.after

-- its input is what was received, and its packets, each in its one spelling, are what was handed to send
pub record IsLastingTurn (role : LastingRole) (turn : ServerTurn) (moment : LastingMoment) : Type 0 where
  pub input : moment.input ≡ lasting_input_in role turn.received
  pub wires : wires_in turn.sent ≡ wires_of_sent (lasting_grammar role) moment.sent
  pub spelled : AllByRecursion (HasWireBy (lasting_grammar role)) moment.sent.packets

module _ {State : Type 0} (services : ℕ → Machine State) where
  -- the service of the words
  abbrev pub lasting_service : LastingRole → Machine State
  lasting_service role = usual.service_of services role.server

  -- the turns, the newest first, are those of a server that lasts
  abbrev pub AreLastingTurns : LastingRole → List ServerTurn → List LastingMoment → Type 0
  AreLastingTurns role [] [] = Unit {0}
  AreLastingTurns role (turn ∷ earlier) (moment ∷ before) =
      AreLastingTurns role earlier before × IsLastingTurn role turn moment
      × LastingTurn (lasting_service role) (patience_of role.patience) (lasting_after (lasting_first role) before) moment.input moment.sent moment.after
  AreLastingTurns role _ _ = ⊥

  -- The premises: what comes is fair to the server, wherever a server that lasts may be then
  abbrev pub AreFairToLast : LastingRole → List ServerTurn → Type 0
  AreFairToLast role [] = Unit {0}
  AreFairToLast role (turn ∷ earlier) =
      AreFairToLast role earlier
      × ((moments : List LastingMoment) → AreLastingTurns role earlier moments
      → IsFairTo (lasting_service role) (patience_of role.patience) (lasting_after (lasting_first role) moments) (lasting_input_in role turn.received))

  -- as long as they hold, the turns are those of a server that lasts
  abbrev pub LastsLawfully : LastingRole → List ServerTurn → Type 0
  LastsLawfully role [] = Unit {0}
  LastsLawfully role (turn ∷ earlier) =
      LastsLawfully role earlier × (AreFairToLast role (turn ∷ earlier) → (moments : List LastingMoment) × AreLastingTurns role (turn ∷ earlier) moments)

  -- A server from its boot on: it says Hello, its turns are those of a server that lasts, and nothing that it received fences it
  pub record Lasts (role : LastingRole) (at_boot : List Sent) (turns : List ServerTurn) : Type 0 where
    pub boots : wires_in at_boot ≡ map (wire_by (lasting_grammar role)) (hello (lasting_first role).node)
    pub lawful : LastsLawfully role turns
    pub unfenced : AllByRecursion (λ turn. lasting_fence role turn.received ≡ None) turns

  -- it bound to its address, booted, and did its turns. What is written are the counts of their calls
  pub record IsLasting (role : LastingRole) (old new : Option (List LinkCall)) (Writes : List ℕ → Type 0) : Type 0 where
    pub at_boot : List Sent
    pub turns : List ServerTurn  -- the newest first
    pub count_is : length turns ≡ role.server.turns
    pub reports : Reports old new (Bound role.server.local ∷ server_calls role.server.loggers at_boot turns)
    pub lasts : Lasts role at_boot turns
    pub written : Writes (count_line (counts_of (server_calls role.server.loggers at_boot turns)))

  -- one that ended because an allocation failed: it sent nothing after its last receive, and that receive doesn't fence it
  pub record IsCutLasting (role : LastingRole) (old new : Option (List LinkCall)) : Type 0 where
    pub at_boot : List Sent
    pub turns : List ServerTurn
    pub last : Option Received
    pub within : length turns ≤ role.server.turns
    pub reports : Reports old new (Bound role.server.local ∷ (server_calls role.server.loggers at_boot turns ++ map received_as (option_to_list last)))
    pub lasts : Lasts role at_boot turns
    pub unfenced : IfSome last (λ received. lasting_fence role received ≡ None)

  -- one that a newer one fenced: what it received last names the newer one's boot number
  pub record IsFencedLasting (role : LastingRole) (newer : ℕ) (old new : Option (List LinkCall)) : Type 0 where
    pub at_boot : List Sent
    pub turns : List ServerTurn
    pub last : Received
    pub within : length turns < role.server.turns
    pub reports : Reports old new (Bound role.server.local ∷ (server_calls role.server.loggers at_boot turns ++ received_as last ∷ []))
    pub lasts : Lasts role at_boot turns
    pub fenced : lasting_fence role last ≡ Some newer

  -- how it stops early: nothing was written where the bind failed, and a prefix of the line where a write did. An allocation may fail before it sends anything
  abbrev pub LastingStops : LastingRole → (old new : Option (List LinkCall)) → (out_old out_new : Option (List ℕ)) → NodeEnd → Type 0
  LastingStops role old new out_old out_new LinkFault = Reports old new [] × (out_new ≡ out_old)
  LastingStops role old new out_old out_new NoMemory =
      (Reports old new (Bound role.server.local ∷ []) ⊎ IsCutLasting role old new) × (out_new ≡ out_old)
  LastingStops role old new out_old out_new (Fenced newer) = IsFencedLasting role newer old new × (out_new ≡ out_old)
  LastingStops role old new out_old out_new WriteFault = IsLasting role old new (AppendsFront out_old out_new)
  LastingStops role old new out_old out_new _ = ⊥

  -- what it did
  abbrev pub LivesToLast : LastingRole → Result (Unit {0}) NodeEnd → (old new : Option (List LinkCall)) → (out_old out_new : Option (List ℕ)) → Type 0
  LivesToLast role (Ok _) old new out_old out_new = IsLasting role old new (Appends out_old out_new)
  LivesToLast role (Err end) old new out_old out_new = LastingStops role old new out_old out_new end
