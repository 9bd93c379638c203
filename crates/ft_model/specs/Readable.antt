-- What can be read back from a report's line.
use Rattle.std.specs.Prelude.{◌≡◌, ℕ, ◌<◌, ◌^◌, Option, None, Some, List, length}
use Rattle.std.specs.List.{AllByRecursion}
use Rattle.hex.specs.Hex.{IsBytes}
use Rattle.seq_arith.specs.declared.kinds.Grammar.{Grammar}
use Rattle.ft_io.specs.declared.Addr.{Addr}
use Rattle.ft_io.specs.declared.Key.{Key}
use Rattle.ft_model.specs.Client.{Client}
use Rattle.ft_model.specs.Network.{Packet, source_of, destination_of}
use Rattle.ft_model.specs.Network.Packet.{To_server, To_client, To_logger, From_logger}
use Rattle.ft_model.specs.Wire.{HasWireBy}
use Rattle.ft_model.specs.World.{Moment}
use Rattle.ft_model.specs.Report.{number_of_client}
use Rattle.ft_model.specs.declared.event.Event.{Event}
use Rattle.ft_model.specs.declared.event.Event.TheVariants.{Boot, Crash, Tick, Deliver, Flip, Begin, Send, Fin, Ack, Reset, Stop}
use Rattle.ft_model.specs.declared.schedule.Script.{Script}
use Rattle.ft_model.specs.declared.schedule.Script.TheVariants.{Bytes, Fill}
use Rattle.ft_model.specs.declared.schedule.ClientLine.{ClientLine}
use Rattle.ft_model.specs.declared.schedule.Lasting.{Lasting}
use Rattle.ft_model.specs.declared.schedule.Schedule.{Schedule}
use Rattle.ft_model.specs.declared.way.Way.{Way}
use Rattle.ft_model.specs.declared.way.Way.TheVariants.{ClientToServer, ServerToClient, ServerToLogger, LoggerToServer, HeadToTail, TailToHead}

-- each byte of the word is above 32: it is neither a space nor a line feed
abbrev pub IsWord : List ℕ → Type 0
IsWord word = AllByRecursion (λ c. 32 < c) word

-- a number of at most 64 bits
abbrev pub FitsU64 : ℕ → Type 0
FitsU64 n = n < 2 ^ 64

abbrev pub FitsOption : Option ℕ → Type 0
FitsOption None = Unit {0}
FitsOption (Some n) = FitsU64 n

abbrev pub FitsLasting : Option Lasting → Type 0
FitsLasting None = Unit {0}
FitsLasting (Some waits) = FitsU64 waits.wait × FitsU64 waits.silence

abbrev pub FitsWay : Way → Type 0
FitsWay (ClientToServer n) = FitsU64 n
FitsWay (ServerToClient n) = FitsU64 n
FitsWay ServerToLogger = Unit {0}
FitsWay LoggerToServer = Unit {0}
FitsWay HeadToTail = Unit {0}
FitsWay TailToHead = Unit {0}

abbrev pub FitsAddr : Addr → Type 0
FitsAddr at = (at.ip < 2 ^ 32) × (at.port < 2 ^ 16)

abbrev pub FitsKey : Key → Type 0
FitsKey key = (key.ip < 2 ^ 32) × (key.port < 2 ^ 16)

-- the key is that of a client
abbrev pub IsKnown : List Client → Key → Type 0
IsKnown clients key = (0 < number_of_client clients key) × FitsU64 (number_of_client clients key)

abbrev pub IsOf : Addr → Key → Type 0
IsOf server key = (key.ip ≡ server.ip) × (key.port ≡ server.port)

-- a segment is sent by a client to the server, or by the server to a client
abbrev pub HasEnds : Addr → List Client → Packet → Type 0
HasEnds server clients (To_server s) = IsKnown clients (source_of s) × IsOf server (destination_of s)
HasEnds server clients (To_client s) = IsKnown clients (destination_of s) × IsOf server (source_of s)
HasEnds server clients (To_logger message) = Unit {0}
HasEnds server clients (From_logger message) = Unit {0}

-- a packet whose line determines all of it: it can be written, in one of the grammars
abbrev pub IsReadable : Addr → List Client → Packet → Type 0
IsReadable server clients packet = HasEnds server clients packet × (grammar : Grammar) × HasWireBy grammar packet

-- every number of an event has at most 64 bits, and a window at most 16
abbrev pub FitsEvent : Event → Type 0
FitsEvent (Boot boot isn) = FitsU64 boot × FitsU64 isn
FitsEvent Crash = Unit {0}
FitsEvent Tick = Unit {0}
FitsEvent (Deliver packet) = FitsU64 packet
FitsEvent (Flip packet bit) = FitsU64 packet × FitsU64 bit
FitsEvent (Begin client window) = FitsU64 client × (window < 2 ^ 16)
FitsEvent (Send client from len) = FitsU64 client × FitsU64 from × FitsU64 len
FitsEvent (Fin client) = FitsU64 client
FitsEvent (Ack client window) = FitsU64 client × (window < 2 ^ 16)
FitsEvent (Reset client) = FitsU64 client
FitsEvent (Stop part) = FitsU64 part

abbrev pub FitsScript : Script → Type 0
FitsScript (Bytes bytes) = IsBytes bytes
FitsScript (Fill n) = FitsU64 n

abbrev pub FitsClient : ClientLine → Type 0
FitsClient asked = FitsKey asked.key × FitsU64 asked.isn × FitsScript asked.script

-- a schedule whose numbers fit their types
pub record FitsSchedule (schedule : Schedule) : Type 0 where
  pub ip : schedule.server.ip < 2 ^ 32
  pub port : schedule.server.port < 2 ^ 16
  pub marks : FitsOption schedule.marks
  pub lasting : FitsLasting schedule.lasting
  pub clients : AllByRecursion FitsClient schedule.clients
  pub count : FitsU64 (length schedule.clients)
  pub events : AllByRecursion FitsEvent schedule.events

-- a turn whose lines determine all of it
abbrev pub IsReadableTurn : Addr → List Client → Moment → Type 0
IsReadableTurn server clients moment = FitsEvent moment.event × AllByRecursion (IsReadable server clients) moment.sent
