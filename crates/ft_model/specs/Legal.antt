-- A legal trace of a schedule: it starts with the schedule's clients and the empty log, its server runs the schedule's service, its events are exactly the
-- schedule's, in order, each of them is allowed, and its clients are scripted.
use Rattle.std.specs.Prelude.{◌≡◌, ℕ, ◌*◌, length, nat_le, Option, Some, None, is_some, List, [], ◌∷◌, if◌then◌else◌}
use Rattle.tcp_rules.specs.Profile.{grammar_of}
use Rattle.tcp_rules.specs.Profiles.{profile_of}
use Rattle.seq_arith.specs.declared.kinds.Grammar.{Grammar}
use Rattle.server_trait.specs.Service.{Served, Machine, machine}
use Rattle.ft_model.specs.Client.{Client, Move, move_asked, window_of, refusal_of_move, segment_of, moved}
use Rattle.ft_model.specs.Log.{empty_log}
use Rattle.ft_model.specs.Network.{Packet, packet_at}
use Rattle.ft_model.specs.Network.Packet.{To_server}
use Rattle.ft_model.specs.Wire.{wire_by}
use Rattle.ft_model.specs.Schedule.{kind_of, clients_of}
use Rattle.ft_model.specs.World.{World, Moment, client_at, with_client, world_after, events_of, Joint}
use Rattle.ft_model.specs.declared.event.Event.{Event}
use Rattle.ft_model.specs.declared.event.Event.TheVariants.{Boot, Crash, Tick, Deliver, Flip, Begin, Send, Fin, Ack, Reset, Stop}
use Rattle.ft_model.specs.declared.event.EventWhy.{EventWhy}
use Rattle.ft_model.specs.declared.event.EventWhy.TheVariants as why
use Rattle.ft_model.specs.declared.schedule.Schedule.{Schedule}

-- before the first event: nothing was sent, nothing is logged, and the server is down. Its profile is the schedule's
abbrev pub start_of : Schedule → World
start_of schedule = record {
  server = schedule.server;
  profile = profile_of schedule.profile;
  clients = clients_of schedule.server schedule.clients;
  log = empty_log;
  packets = [];
  boot = 0;
  node = None;
}

-- why the move of a client isn't made. The schedule may have no such client
abbrev pub refusal_of_client : Option Client → Move → Option EventWhy
refusal_of_client None move = Some why.Client
refusal_of_client (Some client) move = refusal_of_move client move

-- why the move that an event asks for, if it asks for one, isn't made
abbrev pub refusal_of_asked : List Client → Option (ℕ × Move) → Option EventWhy
refusal_of_asked clients None = None
refusal_of_asked clients (Some asks) = refusal_of_client (client_at clients asks.0) asks.1

-- why a bit of a packet can't be changed: the packet doesn't exist, or has no such bit
abbrev pub refusal_of_flip : Grammar → Option Packet → ℕ → Option EventWhy
refusal_of_flip grammar None bit = Some why.Packet
refusal_of_flip grammar (Some packet) bit = if nat_le (8 * length (wire_by grammar packet).bytes) bit then Some why.Bit else None

-- Why an event may not happen: the first test that holds.
abbrev pub refusal : World → Event → Option EventWhy
refusal w (Boot boot isn) = if is_some w.node then Some why.Up else (if nat_le boot w.boot then Some why.Boot else None)
refusal w Crash = if is_some w.node then None else Some why.Down
refusal w Tick = if is_some w.node then None else Some why.Down
refusal w (Deliver number) = if is_some (packet_at w.packets number) then None else Some why.Packet
refusal w (Flip number bit) = refusal_of_flip (grammar_of w.profile) (packet_at w.packets number) bit
refusal w (Begin client window) = refusal_of_asked w.clients (move_asked (Begin client window))
refusal w (Send client from len) = refusal_of_asked w.clients (move_asked (Send client from len))
refusal w (Fin client) = refusal_of_asked w.clients (move_asked (Fin client))
refusal w (Ack client window) = refusal_of_asked w.clients (move_asked (Ack client window))
refusal w (Reset client) = refusal_of_asked w.clients (move_asked (Reset client))
refusal w (Stop part) = Some why.Stop

-- a client makes the move that the event asks for, with the scripted client's window: it sends that move's packet, and its state is then that after the move
abbrev pub IsScripted : World → Event → List Packet → World → Type 0
IsScripted before event sent after =
    (number : ℕ) (move : Move) (client : Client) → move_asked event ≡ Some (number, move) → client_at before.clients number ≡ Some client
    → (sent ≡ To_server (segment_of client move (window_of client event)) ∷ [])
    × (after.clients ≡ with_client client.key (λ _. moved client move (window_of client event)) before.clients)

-- an allowed event, played by scripted clients
pub record IsAllowed (before : World) (moment : Moment) : Type 0 where
  pub allowed : refusal before moment.event ≡ None
  pub scripted : IsScripted before moment.event moment.sent moment.world

abbrev pub AllAllowed : World → List Moment → Type 0
AllAllowed start [] = Unit {0}
AllAllowed start (moment ∷ earlier) = AllAllowed start earlier × IsAllowed (world_after start earlier) moment

-- a service's machine for each kind
abbrev pub machines : {State : Type 0} → (ℕ → State) → (State → List ℕ → Served State) → (State → List ℕ) → ℕ → Machine State
machines started after greeting kind = machine (started kind) after greeting

-- a legal trace of these events, from the start of the schedule, by the machine of the kind that the schedule names
pub record IsLegalFor {State : Type 0} (service : ℕ → Machine State) (schedule : Schedule) (events : List Event) (trace : List Moment) : Type 0 where
  pub joint : Joint (service (kind_of schedule.service)) (start_of schedule) trace
  pub events_are : events_of trace ≡ events
  pub allowed : AllAllowed (start_of schedule) trace

-- a legal trace of a schedule, from its first event to its last
abbrev pub Legal : {State : Type 0} → (ℕ → Machine State) → Schedule → List Moment → Type 0
Legal service schedule trace = IsLegalFor service schedule schedule.events trace
