-- How far a server is, and what each of its turns sends, with no premise on what arrived: neither on what clients sent nor on what the log has.
use Rattle.std.specs.Prelude.{◌≡◌, ℕ, option_map, Option, None, Some, map, List, [], ◌∷◌}
use Rattle.std.specs.List.{AllByRecursion}
use Rattle.seq_arith.specs.Message.{Message}
use Rattle.tcp_rules.specs.Profile.{grammar_of}
use Rattle.server_trait.specs.Service.{Machine}
use Rattle.ft_model.specs.Lawful.{StageTurn, count_reported, fetched_then}
use Rattle.ft_model.specs.Network.{Packet}
use Rattle.ft_model.specs.Node.{Node, Stage, Input}
use Rattle.ft_model.specs.Node.Stage.{Asking, Fetching}
use Rattle.ft_model.specs.Node.Input.{Packet_comes, Message_comes, Noise_comes, Tick_comes}
use Rattle.ft_model.specs.Restart.{Fetched, Wanted, wanted}
use Rattle.ft_model.specs.Wire.{Wire, wire_by, HasWireBy}
use Rattle.node_serving.specs.Alone.{IsForSubject}
use Rattle.node_serving.specs.Clients.{Clients, clients_after, clients_restored}
use Rattle.server_node.specs.Restarts.{IsForFetched}
use Rattle.link_parts.specs.declared.role.Loggers.{Loggers}
use Rattle.node_link.specs.ServerTurns.{ServerTurn, wires_in, input_from}

pub data ServerStage : Type 0 where
  Asks : ServerStage  -- Hello is unanswered
  Fetches : (count : ℕ) → List Fetched → ServerStage  -- of so many entries these have come, the newest first
  Serves_with : Clients → ServerStage  -- it serves, and knows these clients

-- how many entries the log has and which have come, after an input that continues a restart
abbrev pub reported_then : Node → Message → Stage → Option (ℕ × List Fetched)
reported_then node message Asking = option_map (λ count. (count, [])) (count_reported node message)
reported_then node message (Fetching count fetched) = option_map (λ more. (count, more)) (fetched_then node message count fetched)
reported_then node message _ = None

abbrev pub restarts_by : Node → Input → Stage → Option (ℕ × List Fetched)
restarts_by node (Message_comes message) stage = reported_then node message stage
restarts_by node (Packet_comes segment) stage = None
restarts_by node Noise_comes stage = None
restarts_by node Tick_comes stage = None

-- while something is missing the restart goes on. Then the server serves, and knows the clients of all entries
abbrev pub fetches_or_serves : Option Wanted → (count : ℕ) → List Fetched → ServerStage
fetches_or_serves (Some missing) count fetched = Fetches count fetched
fetches_or_serves None count fetched = Serves_with (clients_restored fetched)

abbrev pub restarted : Option (ℕ × List Fetched) → ServerStage → ServerStage
restarted (Some (count, fetched)) before = fetches_or_serves (wanted count fetched) count fetched
restarted None before = before

-- the stage after an input
abbrev pub stage_on : Node → Input → ServerStage → ServerStage
stage_on node input Asks = restarted (restarts_by node input Asking) Asks
stage_on node input (Fetches count fetched) = restarted (restarts_by node input (Fetching count fetched)) (Fetches count fetched)
stage_on node input (Serves_with clients) = Serves_with (clients_after node input clients)

-- the stage after these turns, the newest first
abbrev pub stage_after : Node → Loggers → List ServerTurn → ServerStage
stage_after node loggers [] = Asks
stage_after node loggers (turn ∷ earlier) = stage_on node (input_from (grammar_of node.profile) loggers turn.received) (stage_after node loggers earlier)

-- a turn of the restart itself, by the law
pub record RestartTurn {State : Type 0} (service : Machine State) (node : Node) (before : Stage) (input : Input) (after : Stage)
    (sent : List Wire) : Type 0 where
  pub packets : List Packet
  pub turn : StageTurn service node before input after packets
  pub wires : sent ≡ map (wire_by (grammar_of node.profile)) packets
  pub spelled : AllByRecursion (HasWireBy (grammar_of node.profile)) packets

module _ {State : Type 0} (service : Machine State) (node : Node) where
  -- the turn that ends a restart sends packets of the keys of the entries alone: to their clients, or about them to the log
  abbrev pub EndSends : Option (ℕ × List Fetched) → List Wire → Type 0
  EndSends (Some (count, fetched)) sent = AllByRecursion (IsForFetched (grammar_of node.profile) fetched) sent
  EndSends None sent = ⊥

  -- until then a turn sends exactly what the law says: Hello of this boot, questions of this boot, and answers with a window of 0
  abbrev pub RestartSends : Stage → Input → ServerStage → List Wire → Type 0
  RestartSends before input Asks sent = RestartTurn service node before input Asking sent
  RestartSends before input (Fetches count fetched) sent = RestartTurn service node before input (Fetching count fetched) sent
  RestartSends before input (Serves_with clients) sent = EndSends (restarts_by node input before) sent

  -- while it serves, a turn sends only packets of the keys that its input is about
  abbrev pub Sends : ServerStage → Input → ServerStage → List Wire → Type 0
  Sends Asks input after sent = RestartSends Asking input after sent
  Sends (Fetches count fetched) input after sent = RestartSends (Fetching count fetched) input after sent
  Sends (Serves_with clients) input after sent = AllByRecursion (IsForSubject node input) sent

  -- what each of these turns sent
  abbrev pub AllSend : Loggers → List ServerTurn → Type 0
  AllSend loggers [] = Unit {0}
  AllSend loggers (turn ∷ earlier) =
      AllSend loggers earlier
      × Sends (stage_after node loggers earlier) (input_from (grammar_of node.profile) loggers turn.received) (stage_after node loggers (turn ∷ earlier))
      (wires_in turn.sent)
