-- Masked: crashes and restarts of the server can't be seen from outside. Four facts hold after every moment of a trace.
use Rattle.std.specs.Prelude.{◌≡◌, ℕ, ◌≤ℤ◌, pos, Bool, true, false, ◌&&◌, not, if◌then◌else◌, Option, Some, None, List, [], ◌∷◌}
use Rattle.std.specs.List.{AllByRecursion}
use Rattle.ft_io.specs.declared.Key.{Key}
use Rattle.ft_io.specs.Key.{key_eq}
use Rattle.seq_arith.specs.Number.{number_at}
use Rattle.seq_arith.specs.Packet.{has_rst, has_ack}
use Rattle.server_trait.specs.Service.{Machine, Run, reference}
use Rattle.ft_model.specs.Offset.{ack_of}
use Rattle.ft_model.specs.Client.{Client, is_ended}
use Rattle.ft_model.specs.Log.{Entry, Log, entry_of}
use Rattle.ft_model.specs.Growth.{IsPrefix, logged_lengths, logged_units}
use Rattle.ft_model.specs.Network.{Packet, destination_of}
use Rattle.ft_model.specs.Network.Packet.{To_server, To_client, To_logger, From_logger}
use Rattle.ft_model.specs.Point.{Point, acknowledgement}
use Rattle.ft_model.specs.News.News.{Begins}
use Rattle.ft_model.specs.Connection.{LiveTurn}
use Rattle.ft_model.specs.Restart.{point_of}
use Rattle.ft_model.specs.Node.{Node, Place, Stage, place_at, points_at}
use Rattle.ft_model.specs.Node.Place.{Lives}
use Rattle.ft_model.specs.Node.Stage.{Asking, Fetching, Serving}
use Rattle.ft_model.specs.World.{World, Moment, world_after}

-- the run of a server that never failed, on the client's bytes, cut into reads as the log says
abbrev pub unfailing : {State : Type 0} → Machine State → Log → Client → Run State
unfailing service log client = reference service client.script (logged_lengths client.key log)

-- a client has accepted a prefix of the uncrashed server's output, and where the server's FIN has ended the stream, that run has closed and all its output
-- is accepted. A client that the log doesn't know has accepted nothing, not even a greeting
pub record SeesFront {State : Type 0} (service : Machine State) (log : Log) (client : Client) : Type 0 where
  pub accepted : IsPrefix client.accepted (unfailing service log client).output
  pub unlogged : entry_of client.key log ≡ None → client.accepted ≡ []
  pub ended : is_ended client.phase ≡ true → ((unfailing service log client).closed ≡ true) × (client.accepted ≡ (unfailing service log client).output)

-- no segment acknowledges what isn't logged. A RST and a segment without ACK acknowledge nothing
abbrev pub AcknowledgesLogged : Log → List Client → Packet → Type 0
AcknowledgesLogged log clients (To_client segment) =
    has_ack segment ≡ true → has_rst segment ≡ false
    → AllByRecursion (λ c. key_eq (destination_of segment) c.key ≡ true → ack_of c.isn segment ≤ℤ pos (logged_units c.key log)) clients
AcknowledgesLogged log clients (To_server segment) = Unit {0}
AcknowledgesLogged log clients (To_logger message) = Unit {0}
AcknowledgesLogged log clients (From_logger message) = Unit {0}

-- an entry's connection is live: it began at the entry's point, and its first turn followed the law of every turn
pub record IsResumed {State : Type 0} (service : Machine State) (node : Node) (places : List Place) (entry : Entry) : Type 0 where
  pub point : Point
  pub sent : List Packet
  pub lives : place_at entry.key places ≡ Some (Lives point)
  pub turn : LiveTurn service node.server node.boot Begins (point_of service node.profile entry) point sent

abbrev pub is_restarting : Stage → Bool
is_restarting Asking = true
is_restarting (Fetching count fetched) = true
is_restarting _ = false

-- in the turn that ends a restart, every entry of the log that isn't done resumes
abbrev pub Resumes : {State : Type 0} → Machine State → Log → Node → Stage → Type 0
Resumes service log node (Serving opened places) = AllByRecursion (λ e. e.done ≡ false → IsResumed service node places e) log.entries
Resumes service log node _ = Unit {0}

abbrev pub RestartIsExact : {State : Type 0} → Machine State → Log → Option Node → Option Node → Type 0
RestartIsExact service log (Some before) (Some after) = is_restarting before.stage ≡ true → Resumes service log before after.stage
RestartIsExact service log _ _ = Unit {0}

-- what a packet reports to a client: its acknowledgement, if it is a segment to that client with ACK and without RST
abbrev pub reported_to : Key → Packet → Option ℕ
reported_to key (To_client segment) = if key_eq (destination_of segment) key && has_ack segment && not (has_rst segment) then Some segment.head.ack else None
reported_to key (To_server segment) = None
reported_to key (To_logger message) = None
reported_to key (From_logger message) = None

abbrev pub or_before : Option ℕ → Option ℕ → Option ℕ
or_before (Some later) before = Some later
or_before None before = before

-- the last acknowledgement that was sent to a client
abbrev pub last_reported : Key → List Packet → Option ℕ
last_reported key [] = None
last_reported key (packet ∷ packets) = or_before (last_reported key packets) (reported_to key packet)

-- the acknowledgement last sent to the client is of what is both taken and known to be logged, unless the client reset the connection
abbrev pub IsReportedLast : List Packet → Point → Type 0
IsReportedLast packets p = p.reset ≡ false → last_reported p.key packets ≡ Some (number_at p.cisn (acknowledgement p))

abbrev pub AllAreReported : List Packet → Option Node → Type 0
AllAreReported packets (Some node) = AllByRecursion (IsReportedLast packets) (points_at node.stage)
AllAreReported packets None = Unit {0}

pub record IsMasked {State : Type 0} (service : Machine State) (before : World) (moment : Moment) : Type 0 where
  pub clients : AllByRecursion (SeesFront service moment.world.log) moment.world.clients
  pub acknowledged : AllByRecursion (AcknowledgesLogged moment.world.log moment.world.clients) moment.sent
  pub restart : RestartIsExact service moment.world.log before.node moment.world.node
  pub reported : AllAreReported moment.world.packets moment.world.node

-- Masked: this holds after every moment of a trace
abbrev pub Masked : {State : Type 0} → Machine State → World → List Moment → Type 0
Masked service start [] = Unit {0}
Masked service start (moment ∷ earlier) = Masked service start earlier × IsMasked service (world_after start earlier) moment
