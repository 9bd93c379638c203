-- The complete run with a client without room: clients, log and server, from the boot to the output that is retransmitted. Twenty-five events, nineteen
-- packets.
use Rattle.std.specs.Prelude.{ℕ, codes, false, Some, None, List, [], ◌∷◌}
use Rattle.tcp_rules.specs.Profile.{plain}
use Rattle.tcp_rules.specs.declared.profile.Profile.TheVariants.{Plain}
use Rattle.seq_arith.specs.Message.Body.{HelloMsg, SummaryMsg, OpenedMsg, StableMsg, ReadsMsg}
use Rattle.ft_model.specs.Client.{Client}
use Rattle.ft_model.specs.Network.Packet.{To_server}
use Rattle.ft_model.specs.Node.{booted}
use Rattle.ft_model.specs.World.{World, Moment}
use Rattle.ft_model.specs.Legal.{start_of}
use Rattle.ft_model.specs.WorkedRuns.Common.{server, key, hello_text, client_with, to_log, from_log, numbers, kept_with, idle, opening_at, serving_at}
use Rattle.ft_model.specs.WorkedRuns.FirstPath.{moment, log_with, opened_entry, filled_entry, read_entry}
use Rattle.ft_model.specs.WorkedRuns.ZeroWindow.{syn, first_ack, text, room, begun, opened, taken, logged, waiting, probed, given, lost, probe_2}
use Rattle.ft_model.specs.WorkedRuns.ZeroWindow.{probe_3, probe_5, probe_6, probe_8, probe_10, probe_11, probe_15}
use Rattle.ft_model.specs.declared.event.Event.TheVariants.{Boot, Tick, Deliver, Begin, Send, Ack}
use Rattle.ft_model.specs.declared.phase.Phase.TheVariants.{Opening, Established}
use Rattle.ft_model.specs.declared.schedule.Schedule.{Schedule}
use Rattle.ft_model.specs.declared.schedule.Script.TheVariants.{Bytes}
use Rattle.ft_model.specs.declared.schedule.ServiceKind.TheVariants.{Echo}

abbrev pub schedule : Schedule
schedule = record {
  service = Echo;
  server = server;
  profile = Plain;
  twin = false;
  marks = None;
  lasting = None;
  clients = record { key = key; isn = 1000; script = Bytes hello_text } ∷ [];
  events = Boot 1 5000 ∷ Deliver 1 ∷ Deliver 2 ∷ Begin 1 0 ∷ Deliver 3 ∷ Deliver 4 ∷ Deliver 5 ∷ Deliver 6 ∷ Ack 1 0 ∷ Deliver 7 ∷ Send 1 0 5 ∷ Deliver 8
      ∷ Deliver 10 ∷ Deliver 12 ∷ Deliver 11 ∷ Deliver 14 ∷ Tick ∷ Tick ∷ Tick ∷ Ack 1 5 ∷ Deliver 17 ∷ Tick ∷ Tick ∷ Tick ∷ Tick ∷ [];
}

abbrev pub start : World
start = start_of schedule

-- the client after its SYN, after the SYN-ACK, after its text, and when it has room
abbrev pub opening : Client
opening = record (client_with hello_text) { phase = Opening }

abbrev pub open_client : Client
open_client = record opening { phase = Established; sisn = 5000 }

abbrev pub reported_client : Client
reported_client = record open_client { sent = 5 }

abbrev pub roomy_client : Client
roomy_client = record reported_client { edge = 5 }

abbrev pub moment_1 : Moment
moment_1 = moment (Boot 1 5000) (to_log 1 HelloMsg ∷ []) (record start { boot = 1; node = Some (booted server plain 1 5000) })

abbrev pub moment_2 : Moment
moment_2 = moment (Deliver 1) (from_log 1 (SummaryMsg 0) ∷ []) (record moment_1.world { log = log_with [] })

abbrev pub moment_3 : Moment
moment_3 = moment (Deliver 2) [] (record moment_2.world { node = Some (idle 1 5000) })

abbrev pub moment_4 : Moment
moment_4 = moment (Begin 1 0) (To_server syn ∷ []) (record moment_3.world { clients = opening ∷ [] })

abbrev pub moment_5 : Moment
moment_5 = moment (Deliver 3) probe_2.sent (record moment_4.world { node = Some (opening_at 1 5000) })

abbrev pub moment_6 : Moment
moment_6 = moment (Deliver 4) (from_log 1 (OpenedMsg numbers) ∷ []) (record moment_5.world { log = log_with (opened_entry ∷ []) })

abbrev pub moment_7 : Moment
moment_7 = moment (Deliver 5) probe_3.sent (record moment_6.world { node = Some (serving_at 1 5000 begun) })

abbrev pub moment_8 : Moment
moment_8 = moment (Deliver 6) [] (record moment_7.world { clients = open_client ∷ [] })

-- it still has no room
abbrev pub moment_9 : Moment
moment_9 = moment (Ack 1 0) (To_server first_ack ∷ []) moment_8.world

abbrev pub moment_10 : Moment
moment_10 = moment (Deliver 7) [] (record moment_9.world { node = Some (serving_at 1 5000 opened) })

abbrev pub moment_11 : Moment
moment_11 = moment (Send 1 0 5) (To_server text ∷ []) (record moment_10.world { clients = reported_client ∷ [] })

abbrev pub moment_12 : Moment
moment_12 = moment (Deliver 8) probe_5.sent (record moment_11.world { node = Some (serving_at 1 5000 taken) })

abbrev pub moment_13 : Moment
moment_13 = moment (Deliver 10) (from_log 1 (StableMsg (kept_with 5 false 0)) ∷ []) (record moment_12.world { log = log_with (filled_entry ∷ []) })

abbrev pub moment_14 : Moment
moment_14 = moment (Deliver 12) probe_6.sent (record moment_13.world { node = Some (serving_at 1 5000 logged) })

abbrev pub moment_15 : Moment
moment_15 = moment (Deliver 11) (from_log 1 (ReadsMsg (kept_with 5 false 1)) ∷ []) (record moment_14.world { log = log_with (read_entry ∷ []) })

abbrev pub moment_16 : Moment
moment_16 = moment (Deliver 14) [] (record moment_15.world { node = Some (serving_at 1 5000 waiting) })

-- the first probe
abbrev pub moment_17 : Moment
moment_17 = moment Tick probe_8.sent (record moment_16.world { node = Some (serving_at 1 5000 (probed 2 2)) })

abbrev pub moment_18 : Moment
moment_18 = moment Tick [] (record moment_17.world { node = Some (serving_at 1 5000 (probed 2 1)) })

-- the second one, two ticks later
abbrev pub moment_19 : Moment
moment_19 = moment Tick probe_10.sent (record moment_18.world { node = Some (serving_at 1 5000 (probed 4 4)) })

-- there is room
abbrev pub moment_20 : Moment
moment_20 = moment (Ack 1 5) (To_server room ∷ []) (record moment_19.world { clients = roomy_client ∷ [] })

abbrev pub moment_21 : Moment
moment_21 = moment (Deliver 17) probe_11.sent (record moment_20.world { node = Some (serving_at 1 5000 (given 4 4)) })

abbrev pub moment_22 : Moment
moment_22 = moment Tick [] (record moment_21.world { node = Some (serving_at 1 5000 (given 4 3)) })

abbrev pub moment_23 : Moment
moment_23 = moment Tick [] (record moment_22.world { node = Some (serving_at 1 5000 (given 4 2)) })

abbrev pub moment_24 : Moment
moment_24 = moment Tick [] (record moment_23.world { node = Some (serving_at 1 5000 (given 4 1)) })

-- and what it doesn't acknowledge is retransmitted after four more ticks
abbrev pub moment_25 : Moment
moment_25 = moment Tick probe_15.sent (record moment_24.world { node = Some (serving_at 1 5000 lost) })

-- the whole trace, newest moment first
abbrev pub trace : List Moment
trace =
    moment_25 ∷ moment_24 ∷ moment_23 ∷ moment_22 ∷ moment_21 ∷ moment_20 ∷ moment_19 ∷ moment_18 ∷ moment_17 ∷ moment_16 ∷ moment_15 ∷ moment_14 ∷ moment_13
    ∷ moment_12 ∷ moment_11 ∷ moment_10 ∷ moment_9 ∷ moment_8 ∷ moment_7 ∷ moment_6 ∷ moment_5 ∷ moment_4 ∷ moment_3 ∷ moment_2 ∷ moment_1 ∷ []

-- the report of the trace, line by line
abbrev pub report_lines : List (List ℕ)
report_lines =
    codes "ftreplay 1\n"
    ∷ codes "service echo\n"
    ∷ codes "server 192.0.2.100:7\n"
    ∷ codes "client 1 192.0.2.1:40000 1000 hex:68656c6c6f\n"
    ∷ codes "event 1 boot 1 5000\n"
    ∷ codes "packet 1 S>L Hello boot 1\n"
    ∷ codes "event 2 deliver 1\n"
    ∷ codes "packet 2 L>S Summary boot 1 count 0\n"
    ∷ codes "event 3 deliver 2\n"
    ∷ codes "event 4 open 1 0\n"
    ∷ codes "packet 3 1>S S seq 1000 ack 0 window 0 mss - data -\n"
    ∷ codes "event 5 deliver 3\n"
    ∷ codes "packet 4 S>L Open boot 1 key 192.0.2.1:40000 cisn 1000 sisn 5000 mss 536\n"
    ∷ codes "event 6 deliver 4\n"
    ∷ codes "packet 5 L>S Opened boot 1 key 192.0.2.1:40000 cisn 1000 sisn 5000 mss 536\n"
    ∷ codes "event 7 deliver 5\n"
    ∷ codes "packet 6 S>1 AS seq 5000 ack 1001 window 65535 mss 1460 data -\n"
    ∷ codes "event 8 deliver 6\n"
    ∷ codes "event 9 ack 1 0\n"
    ∷ codes "packet 7 1>S A seq 1001 ack 5001 window 0 mss - data -\n"
    ∷ codes "event 10 deliver 7\n"
    ∷ codes "event 11 send 1 0 5\n"
    ∷ codes "packet 8 1>S A seq 1001 ack 5001 window 0 mss - data 68656c6c6f\n"
    ∷ codes "event 12 deliver 8\n"
    ∷ codes "packet 9 S>1 A seq 5001 ack 1001 window 65535 mss - data -\n"
    ∷ codes "packet 10 S>L Data boot 1 key 192.0.2.1:40000 offset 0 acked 0 fin 0 bytes 68656c6c6f\n"
    ∷ codes "packet 11 S>L Read boot 1 key 192.0.2.1:40000 index 0 length 5\n"
    ∷ codes "event 13 deliver 10\n"
    ∷ codes "packet 12 L>S Stable boot 1 key 192.0.2.1:40000 length 5 fin 0 reads 0\n"
    ∷ codes "event 14 deliver 12\n"
    ∷ codes "packet 13 S>1 A seq 5001 ack 1006 window 65535 mss - data -\n"
    ∷ codes "event 15 deliver 11\n"
    ∷ codes "packet 14 L>S Reads boot 1 key 192.0.2.1:40000 length 5 fin 0 reads 1\n"
    ∷ codes "event 16 deliver 14\n"
    ∷ codes "event 17 tick\n"
    ∷ codes "packet 15 S>1 A seq 5001 ack 1006 window 65535 mss - data 68\n"
    ∷ codes "event 18 tick\n"
    ∷ codes "event 19 tick\n"
    ∷ codes "packet 16 S>1 A seq 5001 ack 1006 window 65535 mss - data 68\n"
    ∷ codes "event 20 ack 1 5\n"
    ∷ codes "packet 17 1>S A seq 1006 ack 5001 window 5 mss - data -\n"
    ∷ codes "event 21 deliver 17\n"
    ∷ codes "packet 18 S>1 A seq 5002 ack 1006 window 65535 mss - data 656c6c6f\n"
    ∷ codes "event 22 tick\n"
    ∷ codes "event 23 tick\n"
    ∷ codes "event 24 tick\n"
    ∷ codes "event 25 tick\n"
    ∷ codes "packet 19 S>1 A seq 5001 ack 1006 window 65535 mss - data 68656c6c6f\n"
    ∷ codes "client 1 open accepted 0 -\n"
    ∷ codes "log 192.0.2.1:40000 length 5 fin 0 acked 0 done 0 reads 5\n"
    ∷ codes "end 25\n"
    ∷ []
