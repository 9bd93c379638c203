-- The complete run with a crash after bytes are logged: a client opens and sends five bytes; they and their read are logged, the server crashes before an
-- answer about them reaches it, and its next boot fetches the log and sends the output. Thirty events, twenty-six packets.
use Rattle.std.specs.Prelude.{ℕ, codes, false, None, Some, List, [], ◌∷◌}
use Rattle.tcp_rules.specs.Profile.{plain}
use Rattle.tcp_rules.specs.declared.profile.Profile.TheVariants.{Plain}
use Rattle.seq_arith.specs.Packet.{Segment}
use Rattle.seq_arith.specs.Message.Body.{HelloMsg, SummaryMsg, EntryMsg, PartMsg, LensMsg, ReadsMsg, DataMsg}
use Rattle.ft_model.specs.Client.{Client}
use Rattle.ft_model.specs.Log.{Log}
use Rattle.ft_model.specs.Node.{booted}
use Rattle.ft_model.specs.Network.Packet.{To_server}
use Rattle.ft_model.specs.World.{Moment}
use Rattle.ft_model.specs.WorkedRuns.Common.{server, key, hello_text, client_segment, to_log, from_log, kept_with, part_with, serving_at}
use Rattle.ft_model.specs.WorkedRuns.FirstPath.{moment, log_with, read_entry, reported_client, moment_11, moment_12, moment_13, opening_trace}
use Rattle.ft_model.specs.WorkedRuns.CrashAfterLogged.{room, restart_5}
use Rattle.ft_model.specs.WorkedRuns.RestartFromHello.{head, acknowledged, asks_entry, asks_lengths, asks_bytes, serves_again}
use Rattle.ft_model.specs.declared.event.Event.TheVariants.{Boot, Crash, Deliver, Begin, Send, Ack}
use Rattle.ft_model.specs.declared.schedule.Schedule.{Schedule}
use Rattle.ft_model.specs.declared.schedule.Script.TheVariants.{Bytes}
use Rattle.ft_model.specs.declared.schedule.ServiceKind.TheVariants.{Echo}

abbrev pub schedule : Schedule
schedule = record {
  service = Echo;
  server = server;
  profile = Plain;
  twin = false;
  marks = None;
  lasting = None;
  clients = record { key = key; isn = 1000; script = Bytes hello_text } ∷ [];
  events = Boot 1 5000 ∷ Deliver 1 ∷ Deliver 2 ∷ Begin 1 65535 ∷ Deliver 3 ∷ Deliver 4 ∷ Deliver 5 ∷ Deliver 6 ∷ Ack 1 65535 ∷ Deliver 7 ∷ Send 1 0 5
      ∷ Deliver 8
      ∷ Deliver 10 ∷ Deliver 11 ∷ Crash ∷ Boot 2 900000 ∷ Deliver 14 ∷ Deliver 15 ∷ Deliver 16 ∷ Deliver 17 ∷ Deliver 18 ∷ Deliver 19 ∷ Deliver 20 ∷ Deliver 21
      ∷ Deliver 22 ∷ Ack 1 65535 ∷ Deliver 23 ∷ Deliver 24 ∷ Ack 1 65535 ∷ Deliver 25 ∷ [];
}

-- the log once the second boot has said Hello
abbrev pub second_log : Log
second_log = record (log_with (read_entry ∷ [])) { boot = 2 }

-- the client once its text is acknowledged, once it has the echo, and once it has acknowledged that
abbrev pub receipt : Client
receipt = record reported_client { acknowledged = 5 }

abbrev pub echoed : Client
echoed = record receipt { accepted = hello_text }

abbrev pub served : Client
served = record echoed { edge = 65540 }

-- its last acknowledgement
abbrev pub last_ack : Segment
last_ack = client_segment 16 1006 5006 65535 []

-- the read is logged too, and the server crashes before it receives either answer
abbrev pub moment_14 : Moment
moment_14 = moment (Deliver 11) (from_log 1 (ReadsMsg (kept_with 5 false 1)) ∷ []) (record moment_13.world { log = log_with (read_entry ∷ []) })

abbrev pub moment_15 : Moment
moment_15 = moment Crash [] (record moment_14.world { node = None })

-- the second boot asks for the log
abbrev pub moment_16 : Moment
moment_16 = moment (Boot 2 900000) (to_log 2 HelloMsg ∷ []) (record moment_15.world { boot = 2; node = Some (booted server plain 2 900000) })

abbrev pub moment_17 : Moment
moment_17 = moment (Deliver 14) (from_log 2 (SummaryMsg 1) ∷ []) (record moment_16.world { log = second_log })

abbrev pub moment_18 : Moment
moment_18 = moment (Deliver 15) asks_entry.sent (record moment_17.world { node = Some asks_entry.node })

abbrev pub moment_19 : Moment
moment_19 = moment (Deliver 16) (from_log 2 (EntryMsg 0 head) ∷ []) moment_18.world

abbrev pub moment_20 : Moment
moment_20 = moment (Deliver 17) asks_lengths.sent (record moment_19.world { node = Some asks_lengths.node })

abbrev pub moment_21 : Moment
moment_21 = moment (Deliver 18) (from_log 2 (LensMsg key 0 (5 ∷ [])) ∷ []) moment_20.world

abbrev pub moment_22 : Moment
moment_22 = moment (Deliver 19) asks_bytes.sent (record moment_21.world { node = Some asks_bytes.node })

abbrev pub moment_23 : Moment
moment_23 = moment (Deliver 20) (from_log 2 (PartMsg key 0 hello_text) ∷ []) moment_22.world

-- with the last answer the connection continues: the text is acknowledged
abbrev pub moment_24 : Moment
moment_24 = moment (Deliver 21) serves_again.sent (record moment_23.world { node = Some serves_again.node })

abbrev pub moment_25 : Moment
moment_25 = moment (Deliver 22) [] (record moment_24.world { clients = receipt ∷ [] })

-- the client advertises room, and the output is sent
abbrev pub moment_26 : Moment
moment_26 = moment (Ack 1 65535) (To_server room ∷ []) moment_25.world

abbrev pub moment_27 : Moment
moment_27 = moment (Deliver 23) restart_5.sent (record moment_26.world { node = Some restart_5.node })

abbrev pub moment_28 : Moment
moment_28 = moment (Deliver 24) [] (record moment_27.world { clients = echoed ∷ [] })

-- it is acknowledged, and that is logged
abbrev pub moment_29 : Moment
moment_29 = moment (Ack 1 65535) (To_server last_ack ∷ []) (record moment_28.world { clients = served ∷ [] })

abbrev pub moment_30 : Moment
moment_30 = moment (Deliver 25) (to_log 2 (DataMsg (part_with 5 5 false [])) ∷ []) (record moment_29.world { node = Some (serving_at 2 900000 acknowledged) })

-- the whole trace, newest moment first
abbrev pub trace : List Moment
trace =
    moment_30 ∷ moment_29 ∷ moment_28 ∷ moment_27 ∷ moment_26 ∷ moment_25 ∷ moment_24 ∷ moment_23 ∷ moment_22 ∷ moment_21 ∷ moment_20 ∷ moment_19 ∷ moment_18
    ∷ moment_17 ∷ moment_16 ∷ moment_15 ∷ moment_14 ∷ moment_13 ∷ moment_12 ∷ moment_11 ∷ opening_trace

-- the report of it, line by line
abbrev pub report_lines : List (List ℕ)
report_lines =
    codes "ftreplay 1\n"
    ∷ codes "service echo\n"
    ∷ codes "server 192.0.2.100:7\n"
    ∷ codes "client 1 192.0.2.1:40000 1000 hex:68656c6c6f\n"
    ∷ codes "event 1 boot 1 5000\n"
    ∷ codes "packet 1 S>L Hello boot 1\n"
    ∷ codes "event 2 deliver 1\n"
    ∷ codes "packet 2 L>S Summary boot 1 count 0\n"
    ∷ codes "event 3 deliver 2\n"
    ∷ codes "event 4 open 1 65535\n"
    ∷ codes "packet 3 1>S S seq 1000 ack 0 window 65535 mss - data -\n"
    ∷ codes "event 5 deliver 3\n"
    ∷ codes "packet 4 S>L Open boot 1 key 192.0.2.1:40000 cisn 1000 sisn 5000 mss 536\n"
    ∷ codes "event 6 deliver 4\n"
    ∷ codes "packet 5 L>S Opened boot 1 key 192.0.2.1:40000 cisn 1000 sisn 5000 mss 536\n"
    ∷ codes "event 7 deliver 5\n"
    ∷ codes "packet 6 S>1 AS seq 5000 ack 1001 window 65535 mss 1460 data -\n"
    ∷ codes "event 8 deliver 6\n"
    ∷ codes "event 9 ack 1 65535\n"
    ∷ codes "packet 7 1>S A seq 1001 ack 5001 window 65535 mss - data -\n"
    ∷ codes "event 10 deliver 7\n"
    ∷ codes "event 11 send 1 0 5\n"
    ∷ codes "packet 8 1>S A seq 1001 ack 5001 window 65535 mss - data 68656c6c6f\n"
    ∷ codes "event 12 deliver 8\n"
    ∷ codes "packet 9 S>1 A seq 5001 ack 1001 window 65535 mss - data -\n"
    ∷ codes "packet 10 S>L Data boot 1 key 192.0.2.1:40000 offset 0 acked 0 fin 0 bytes 68656c6c6f\n"
    ∷ codes "packet 11 S>L Read boot 1 key 192.0.2.1:40000 index 0 length 5\n"
    ∷ codes "event 13 deliver 10\n"
    ∷ codes "packet 12 L>S Stable boot 1 key 192.0.2.1:40000 length 5 fin 0 reads 0\n"
    ∷ codes "event 14 deliver 11\n"
    ∷ codes "packet 13 L>S Reads boot 1 key 192.0.2.1:40000 length 5 fin 0 reads 1\n"
    ∷ codes "event 15 crash\n"
    ∷ codes "event 16 boot 2 900000\n"
    ∷ codes "packet 14 S>L Hello boot 2\n"
    ∷ codes "event 17 deliver 14\n"
    ∷ codes "packet 15 L>S Summary boot 2 count 1\n"
    ∷ codes "event 18 deliver 15\n"
    ∷ codes "packet 16 S>L List boot 2 index 0\n"
    ∷ codes "event 19 deliver 16\n"
    ∷ codes "packet 17 L>S Entry boot 2 index 0 key 192.0.2.1:40000 cisn 1000 sisn 5000 mss 536 length 5 fin 0 done 0 reads 1 acked 0\n"
    ∷ codes "event 20 deliver 17\n"
    ∷ codes "packet 18 S>L Cuts boot 2 key 192.0.2.1:40000 first 0\n"
    ∷ codes "event 21 deliver 18\n"
    ∷ codes "packet 19 L>S Lens boot 2 key 192.0.2.1:40000 first 0 lens 5\n"
    ∷ codes "event 22 deliver 19\n"
    ∷ codes "packet 20 S>L Bytes boot 2 key 192.0.2.1:40000 offset 0\n"
    ∷ codes "event 23 deliver 20\n"
    ∷ codes "packet 21 L>S Part boot 2 key 192.0.2.1:40000 offset 0 bytes 68656c6c6f\n"
    ∷ codes "event 24 deliver 21\n"
    ∷ codes "packet 22 S>1 A seq 5001 ack 1006 window 65535 mss - data -\n"
    ∷ codes "event 25 deliver 22\n"
    ∷ codes "event 26 ack 1 65535\n"
    ∷ codes "packet 23 1>S A seq 1006 ack 5001 window 65535 mss - data -\n"
    ∷ codes "event 27 deliver 23\n"
    ∷ codes "packet 24 S>1 A seq 5001 ack 1006 window 65535 mss - data 68656c6c6f\n"
    ∷ codes "event 28 deliver 24\n"
    ∷ codes "event 29 ack 1 65535\n"
    ∷ codes "packet 25 1>S A seq 1006 ack 5006 window 65535 mss - data -\n"
    ∷ codes "event 30 deliver 25\n"
    ∷ codes "packet 26 S>L Data boot 2 key 192.0.2.1:40000 offset 5 acked 5 fin 0 bytes -\n"
    ∷ codes "client 1 open accepted 5 68656c6c6f\n"
    ∷ codes "log 192.0.2.1:40000 length 5 fin 0 acked 0 done 0 reads 5\n"
    ∷ codes "end 30\n"
    ∷ []
