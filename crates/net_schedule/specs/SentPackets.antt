-- The packets of a trace, as the code's world stores them.
use Rattle.std.specs.Prelude.{◌≡◌, ℕ, Some, List, map}
use Rattle.std.specs.List.{AllByRecursion}
use Rattle.seq_arith.specs.declared.kinds.Grammar.{Grammar}
use Rattle.tcp_rules.specs.Profile.{grammar_of}
use Rattle.tcp_rules.specs.Profiles.{profile_of}
use Rattle.ft_model.specs.Legal.{start_of}
use Rattle.ft_model.specs.Network.{Packet, packet_at}
use Rattle.ft_model.specs.Report.{way_of}
use Rattle.ft_model.specs.Schedule.{clients_of}
use Rattle.ft_model.specs.Wire.{wire_by, HasWireBy}
use Rattle.ft_model.specs.World.{Moment, world_after}
use Rattle.ft_model.specs.declared.schedule.Schedule.{Schedule}
use Rattle.ft_model.specs.Client.{Client}
use Rattle.ft_model.specs.declared.way.Way.{Way}
use Rattle.ft_model.specs.declared.way.Way.TheVariants.{ServerToLogger, LoggerToServer}
use Rattle.twin_laws.specs.TwinWorld.{Parcel, TwinMoment, parcel_at, twin_after}
use Rattle.twin_laws.specs.TwinLegal.{twin_start, bytes_of_parcel}
use Rattle.twin_laws.specs.TwinReport.{way_of_parcel}
use Rattle.twin_laws.specs.SentBytes.{IsWritten}
use Rattle.mark_laws.specs.MarkedLegal.{marked_start}
use Rattle.mark_laws.specs.MarkedWorld as marked
use Rattle.mark_laws.specs.MarkedWorld.{MarkedMoment, CanBeRead, bytes_of, marked_after}
use Rattle.mark_laws.specs.MarkedWorld.Parcel.{Usual, Mark_sent, Mark_answered}
use Rattle.schedule_network.specs.StoredPackets.{Carried}

-- the grammar in which server and log write their messages
abbrev pub run_grammar : Schedule → Grammar
run_grammar schedule = grammar_of (profile_of schedule.profile)

-- all packets that were sent up to the end of a trace
abbrev pub packets_of : Schedule → List Moment → List Packet
packets_of schedule trace = (world_after (start_of schedule) trace).packets

-- a packet's direction, as a report of the schedule names it
abbrev pub reported_way : Schedule → Packet → Way
reported_way schedule packet = way_of (clients_of schedule.server schedule.clients) packet

-- the packets of a trace are stored, each in its one spelling and with the direction that its report names
pub record KeepsAllSent (schedule : Schedule) (trace : List Moment) (kept : Carried) : Type 0 where
  pub ways : kept.ways ≡ map (reported_way schedule) (packets_of schedule trace)
  pub bytes : kept.bytes ≡ map (λ packet. (wire_by (run_grammar schedule) packet).bytes) (packets_of schedule trace)
  pub wires : AllByRecursion (HasWireBy (run_grammar schedule)) (packets_of schedule trace)

-- the packet of the trace with this number has this direction and these bytes
pub record WasSentAs (schedule : Schedule) (trace : List Moment) (number : ℕ) (way : Way) (bytes : List ℕ) : Type 0 where
  pub packet : Packet
  pub is : packet_at (packets_of schedule trace) number ≡ Some packet
  pub wire : HasWireBy (run_grammar schedule) packet
  pub goes : way ≡ reported_way schedule packet
  pub spells : bytes ≡ (wire_by (run_grammar schedule) packet).bytes

-- With two loggers: all parcels that were sent up to the end of a trace: packets, and datagrams between the loggers
abbrev pub parcels_of : Schedule → List TwinMoment → List Parcel
parcels_of schedule trace = (twin_after (twin_start schedule) trace).parcels

-- the parcels of a trace are stored, each in its one spelling and with the direction that its report names
pub record KeepsAllParcels (schedule : Schedule) (trace : List TwinMoment) (kept : Carried) : Type 0 where
  pub ways : kept.ways ≡ map (way_of_parcel (clients_of schedule.server schedule.clients)) (parcels_of schedule trace)
  pub bytes : kept.bytes ≡ map (bytes_of_parcel (run_grammar schedule)) (parcels_of schedule trace)
  pub written : AllByRecursion (IsWritten (run_grammar schedule)) (parcels_of schedule trace)

-- the parcel of the trace with this number has this direction and these bytes
pub record ParcelSentAs (schedule : Schedule) (trace : List TwinMoment) (number : ℕ) (way : Way) (bytes : List ℕ) : Type 0 where
  pub parcel : Parcel
  pub is : parcel_at (parcels_of schedule trace) number ≡ Some parcel
  pub written : IsWritten (run_grammar schedule) parcel
  pub goes : way ≡ way_of_parcel (clients_of schedule.server schedule.clients) parcel
  pub spells : bytes ≡ bytes_of_parcel (run_grammar schedule) parcel

-- With marks: all parcels that were sent up to the end of a trace: packets, and messages about marks
abbrev pub marked_parcels_of : Schedule → List MarkedMoment → List marked.Parcel
marked_parcels_of schedule trace = (marked_after (marked_start schedule) trace).parcels

-- the direction of a parcel
abbrev pub marked_way : List Client → marked.Parcel → Way
marked_way clients (Usual packet) = way_of clients packet
marked_way clients (Mark_sent message) = ServerToLogger
marked_way clients (Mark_answered message) = LoggerToServer

-- the parcels of a trace are stored, each in its one spelling and with its direction
pub record KeepsAllMarked (schedule : Schedule) (trace : List MarkedMoment) (kept : Carried) : Type 0 where
  pub ways : kept.ways ≡ map (marked_way (clients_of schedule.server schedule.clients)) (marked_parcels_of schedule trace)
  pub bytes : kept.bytes ≡ map (bytes_of (run_grammar schedule)) (marked_parcels_of schedule trace)
  pub written : AllByRecursion (CanBeRead (run_grammar schedule)) (marked_parcels_of schedule trace)

-- the parcel of the trace with this number has this direction and these bytes
pub record MarkedSentAs (schedule : Schedule) (trace : List MarkedMoment) (number : ℕ) (way : Way) (bytes : List ℕ) : Type 0 where
  pub parcel : marked.Parcel
  pub is : marked.parcel_at (marked_parcels_of schedule trace) number ≡ Some parcel
  pub written : CanBeRead (run_grammar schedule) parcel
  pub goes : way ≡ marked_way (clients_of schedule.server schedule.clients) parcel
  pub spells : bytes ≡ bytes_of (run_grammar schedule) parcel
