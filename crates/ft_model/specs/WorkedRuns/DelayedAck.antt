-- The first path with the profile for wide-area networks: while the text isn't logged it gets no ACK, and the log's answer makes one due. So the client gets no
-- duplicate. Seventeen events, fourteen packets.
use Rattle.std.specs.Prelude.{codes, true, false, None, Some, List, [], ◌∷◌, ℕ}
use Rattle.tcp_rules.specs.declared.timestamping.Timestamping.TheVariants.{Off}
use Rattle.tcp_rules.specs.Profile.{wan}
use Rattle.tcp_rules.specs.Timing.{Timing, initial_timing}
use Rattle.tcp_rules.specs.declared.profile.Profile.TheVariants.{Wan}
use Rattle.ft_model.specs.Point.{Point}
use Rattle.ft_model.specs.Opening.{point_opened}
use Rattle.ft_model.specs.Network.{Packet}
use Rattle.ft_model.specs.Node.{Node, Stage, booted}
use Rattle.ft_model.specs.Node.Place.{Opens, Lives}
use Rattle.ft_model.specs.Node.Stage.{Serving}
use Rattle.ft_model.specs.World.{World, Moment}
use Rattle.ft_model.specs.Legal.{start_of}
use Rattle.ft_model.specs.WorkedRuns.Common.{server, key, hello_text, numbers}
use Rattle.ft_model.specs.WorkedRuns.FirstPath.{moment, log_with, opened_entry, filled_entry, read_entry, opening, open_client, reported_client, served_client}
use Rattle.ft_model.specs.WorkedRuns.FirstPath.{packet_1, packet_2, packet_3, packet_4, packet_5, packet_6, packet_7, packet_8}
use Rattle.ft_model.specs.WorkedRuns.FirstPath.{packet_9, packet_10, packet_11, packet_12, packet_13, packet_14, packet_15}
use Rattle.ft_model.specs.declared.event.Event.TheVariants.{Boot, Deliver, Begin, Send, Ack}
use Rattle.ft_model.specs.declared.schedule.Schedule.{Schedule}
use Rattle.ft_model.specs.declared.schedule.Script.TheVariants.{Bytes}
use Rattle.ft_model.specs.declared.schedule.ServiceKind.TheVariants.{Echo}

abbrev pub schedule : Schedule
schedule = record {
  service = Echo;
  server = server;
  profile = Wan;
  twin = false;
  marks = None;
  lasting = None;
  clients = record { key = key; isn = 1000; script = Bytes hello_text } ∷ [];
  events = Boot 1 5000 ∷ Deliver 1 ∷ Deliver 2 ∷ Begin 1 65535 ∷ Deliver 3 ∷ Deliver 4 ∷ Deliver 5 ∷ Deliver 6 ∷ Ack 1 65535 ∷ Deliver 7
      ∷ Send 1 0 5 ∷ Deliver 8 ∷ Deliver 9 ∷ Deliver 11 ∷ Deliver 10 ∷ Deliver 13 ∷ Deliver 14 ∷ [];
}

abbrev pub start : World
start = start_of schedule

-- a unit is timed that ends so many units after SND.UNA
abbrev pub timing_of : (ahead : ℕ) → Timing
timing_of ahead = record (initial_timing true) { timed = true; ahead = ahead }

-- the connection when it begins, when the SYN is acknowledged, when the text is taken and read, when it is logged, and when the read is. The first unit of the
-- output is timed
abbrev pub begun_point : Point
begun_point = record (point_opened wan Off numbers) { rest = 10 }

abbrev pub open_point : Point
open_point = record begun_point { syn_acked = true; edge = 65535; rest = 0 }

abbrev pub taken_point : Point
taken_point = record open_point { taken = hello_text; lengths = 5 ∷ [] }

abbrev pub logged_point : Point
logged_point = record taken_point { answered = 5 }

abbrev pub released_point : Point
released_point = record logged_point { reads_answered = 1; sent = 5; rest = 10; timing = timing_of 1 }

abbrev pub node_at : Stage → Node
node_at stage = record (booted server wan 1 5000) { stage = stage }

abbrev pub node_live : Point → Node
node_live p = node_at (Serving 1 (Lives p ∷ []))

abbrev pub moment_1 : Moment
moment_1 = moment (Boot 1 5000) (packet_1 ∷ []) (record start { boot = 1; node = Some (booted server wan 1 5000) })

abbrev pub moment_2 : Moment
moment_2 = moment (Deliver 1) (packet_2 ∷ []) (record moment_1.world { log = log_with [] })

abbrev pub moment_3 : Moment
moment_3 = moment (Deliver 2) [] (record moment_2.world { node = Some (node_at (Serving 0 [])) })

abbrev pub moment_4 : Moment
moment_4 = moment (Begin 1 65535) (packet_3 ∷ []) (record moment_3.world { clients = opening ∷ [] })

abbrev pub moment_5 : Moment
moment_5 = moment (Deliver 3) (packet_4 ∷ []) (record moment_4.world { node = Some (node_at (Serving 1 (Opens numbers Off ∷ []))) })

abbrev pub moment_6 : Moment
moment_6 = moment (Deliver 4) (packet_5 ∷ []) (record moment_5.world { log = log_with (opened_entry ∷ []) })

abbrev pub moment_7 : Moment
moment_7 = moment (Deliver 5) (packet_6 ∷ []) (record moment_6.world { node = Some (node_live begun_point) })

abbrev pub moment_8 : Moment
moment_8 = moment (Deliver 6) [] (record moment_7.world { clients = open_client ∷ [] })

abbrev pub moment_9 : Moment
moment_9 = moment (Ack 1 65535) (packet_7 ∷ []) moment_8.world

abbrev pub moment_10 : Moment
moment_10 = moment (Deliver 7) [] (record moment_9.world { node = Some (node_live open_point) })

abbrev pub moment_11 : Moment
moment_11 = moment (Send 1 0 5) (packet_8 ∷ []) (record moment_10.world { clients = reported_client ∷ [] })

-- the text is copied to the log, and no ACK is sent
abbrev pub moment_12 : Moment
moment_12 = moment (Deliver 8) (packet_10 ∷ packet_11 ∷ []) (record moment_11.world { node = Some (node_live taken_point) })

abbrev pub moment_13 : Moment
moment_13 = moment (Deliver 9) (packet_12 ∷ []) (record moment_12.world { log = log_with (filled_entry ∷ []) })

-- in the turn of Stable it is acknowledged
abbrev pub moment_14 : Moment
moment_14 = moment (Deliver 11) (packet_13 ∷ []) (record moment_13.world { node = Some (node_live logged_point) })

abbrev pub moment_15 : Moment
moment_15 = moment (Deliver 10) (packet_14 ∷ []) (record moment_14.world { log = log_with (read_entry ∷ []) })

-- and in the turn of Reads the output is sent
abbrev pub moment_16 : Moment
moment_16 = moment (Deliver 13) (packet_15 ∷ []) (record moment_15.world { node = Some (node_live released_point) })

abbrev pub moment_17 : Moment
moment_17 = moment (Deliver 14) [] (record moment_16.world { clients = served_client ∷ [] })

-- the trace up to the open connection, and the whole one, newest moment first
abbrev pub opening_trace : List Moment
opening_trace = moment_10 ∷ moment_9 ∷ moment_8 ∷ moment_7 ∷ moment_6 ∷ moment_5 ∷ moment_4 ∷ moment_3 ∷ moment_2 ∷ moment_1 ∷ []

abbrev pub trace : List Moment
trace = moment_17 ∷ moment_16 ∷ moment_15 ∷ moment_14 ∷ moment_13 ∷ moment_12 ∷ moment_11 ∷ opening_trace

-- A wrong turn: the text gets its ACK at once, as with the plain profile
abbrev pub acked_at_once : List Packet
acked_at_once = packet_9 ∷ packet_10 ∷ packet_11 ∷ []

-- the report of the trace, line by line
abbrev pub report_lines : List (List ℕ)
report_lines =
    codes "ftreplay 1\n"
    ∷ codes "service echo\n"
    ∷ codes "server 192.0.2.100:7\n"
    ∷ codes "profile wan\n"
    ∷ codes "client 1 192.0.2.1:40000 1000 hex:68656c6c6f\n"
    ∷ codes "event 1 boot 1 5000\n"
    ∷ codes "packet 1 S>L Hello boot 1\n"
    ∷ codes "event 2 deliver 1\n"
    ∷ codes "packet 2 L>S Summary boot 1 count 0\n"
    ∷ codes "event 3 deliver 2\n"
    ∷ codes "event 4 open 1 65535\n"
    ∷ codes "packet 3 1>S S seq 1000 ack 0 window 65535 mss - data -\n"
    ∷ codes "event 5 deliver 3\n"
    ∷ codes "packet 4 S>L Open boot 1 key 192.0.2.1:40000 cisn 1000 sisn 5000 mss 536\n"
    ∷ codes "event 6 deliver 4\n"
    ∷ codes "packet 5 L>S Opened boot 1 key 192.0.2.1:40000 cisn 1000 sisn 5000 mss 536\n"
    ∷ codes "event 7 deliver 5\n"
    ∷ codes "packet 6 S>1 AS seq 5000 ack 1001 window 65535 mss 1460 data -\n"
    ∷ codes "event 8 deliver 6\n"
    ∷ codes "event 9 ack 1 65535\n"
    ∷ codes "packet 7 1>S A seq 1001 ack 5001 window 65535 mss - data -\n"
    ∷ codes "event 10 deliver 7\n"
    ∷ codes "event 11 send 1 0 5\n"
    ∷ codes "packet 8 1>S A seq 1001 ack 5001 window 65535 mss - data 68656c6c6f\n"
    ∷ codes "event 12 deliver 8\n"
    ∷ codes "packet 9 S>L Data boot 1 key 192.0.2.1:40000 offset 0 acked 0 fin 0 bytes 68656c6c6f\n"
    ∷ codes "packet 10 S>L Read boot 1 key 192.0.2.1:40000 index 0 length 5\n"
    ∷ codes "event 13 deliver 9\n"
    ∷ codes "packet 11 L>S Stable boot 1 key 192.0.2.1:40000 length 5 fin 0 reads 0\n"
    ∷ codes "event 14 deliver 11\n"
    ∷ codes "packet 12 S>1 A seq 5001 ack 1006 window 65535 mss - data -\n"
    ∷ codes "event 15 deliver 10\n"
    ∷ codes "packet 13 L>S Reads boot 1 key 192.0.2.1:40000 length 5 fin 0 reads 1\n"
    ∷ codes "event 16 deliver 13\n"
    ∷ codes "packet 14 S>1 A seq 5001 ack 1006 window 65535 mss - data 68656c6c6f\n"
    ∷ codes "event 17 deliver 14\n"
    ∷ codes "client 1 open accepted 5 68656c6c6f\n"
    ∷ codes "log 192.0.2.1:40000 length 5 fin 0 acked 0 done 0 reads 5\n"
    ∷ codes "end 17\n"
    ∷ []
