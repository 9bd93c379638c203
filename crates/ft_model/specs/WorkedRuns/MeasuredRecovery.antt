-- The profile for wide-area networks: a client asks for 2,047 bytes, and four segments are sent. The round trip of the first is measured, and the timer follows
-- it. The second counts as lost at the third duplicate. At a partial acknowledgement the third is retransmitted at once, and once more when the timer expires,
-- which doubles its interval. At the next partial acknowledgement the fourth is. After a crash a restart measures anew. Forty-nine events, thirty-nine packets.
use Rattle.std.specs.Prelude.{ℕ, codes, ◌+◌, ◌-◌, true, false, None, Some, List, [], ◌∷◌, pos}
use Rattle.tcp_rules.specs.declared.timestamping.Timestamping.TheVariants.{Off, Awaited}
use Rattle.tcp_rules.specs.Profile.{wan}
use Rattle.tcp_rules.specs.Timing.{Timing}
use Rattle.tcp_rules.specs.declared.profile.Profile.TheVariants.{Wan}
use Rattle.seq_arith.specs.Message.{EntryHead}
use Rattle.seq_arith.specs.Message.Body.{HelloMsg, SummaryMsg, ListMsg, EntryMsg, BytesMsg, PartMsg, CutsMsg, LensMsg, DataMsg, StableMsg, ReadMsg, ReadsMsg}
use Rattle.ft_model.specs.Client.{Client}
use Rattle.ft_model.specs.Log.{Log, Entry}
use Rattle.ft_model.specs.Network.{Packet}
use Rattle.ft_model.specs.Node.{Node, Input, booted}
use Rattle.ft_model.specs.Node.Input.{Packet_comes, Message_comes}
use Rattle.ft_model.specs.Node.Place.{Opens}
use Rattle.ft_model.specs.Node.Stage.{Fetching, Serving}
use Rattle.ft_model.specs.Point.{Point, blank_point}
use Rattle.ft_model.specs.Restart.{Fetched}
use Rattle.ft_model.specs.World.{World, Moment}
use Rattle.ft_model.specs.Legal.{start_of}
use Rattle.ft_model.specs.WorkedRuns.Common.{server, key, client_with, client_segment, from_client, to_client, to_log}
use Rattle.ft_model.specs.WorkedRuns.Common.{from_log, numbers, kept_with, part_with, recovery_with, serving_in, head_with, fetched_with}
use Rattle.ft_model.specs.WorkedRuns.CongestionWindow.{pattern, with_pattern}
use Rattle.ft_model.specs.WorkedRuns.DelayedAck.{timing_of, begun_point, open_point, node_at, node_live}
use Rattle.ft_model.specs.WorkedRuns.FirstPath.{moment, log_with, opened_entry, packet_1, packet_2, packet_3, packet_4, packet_5, packet_6, packet_7}
use Rattle.ft_model.specs.declared.event.Event.TheVariants.{Boot, Crash, Tick, Deliver, Begin, Send, Ack}
use Rattle.ft_model.specs.declared.phase.Phase.TheVariants.{Opening, Established}
use Rattle.ft_model.specs.declared.schedule.Schedule.{Schedule}
use Rattle.ft_model.specs.declared.schedule.Script.TheVariants.{Bytes}
use Rattle.ft_model.specs.declared.schedule.ServiceKind.TheVariants.{Transfer}

-- a request of 2,047 bytes
abbrev pub request : List ℕ
request = 0 ∷ 0 ∷ 7 ∷ 255 ∷ []

abbrev pub schedule : Schedule
schedule = record {
  service = Transfer;
  server = server;
  profile = Wan;
  twin = false;
  marks = None;
  lasting = None;
  clients = record { key = key; isn = 1000; script = Bytes request } ∷ [];
  events = Boot 1 5000 ∷ Deliver 1 ∷ Deliver 2 ∷ Begin 1 65535 ∷ Deliver 3 ∷ Deliver 4 ∷ Deliver 5 ∷ Deliver 6 ∷ Ack 1 65535 ∷ Deliver 7
      ∷ Send 1 0 4 ∷ Deliver 8 ∷ Deliver 9 ∷ Deliver 11 ∷ Deliver 10 ∷ Deliver 13 ∷ Tick ∷ Tick ∷ Deliver 14 ∷ Ack 1 65535 ∷ Deliver 18 ∷ Ack 1 65535
      ∷ Deliver 20 ∷ Ack 1 65535 ∷ Deliver 21 ∷ Ack 1 65535 ∷ Deliver 22 ∷ Deliver 23 ∷ Ack 1 65535 ∷ Deliver 24 ∷ Tick ∷ Tick ∷ Tick ∷ Tick ∷ Tick
      ∷ Tick ∷ Deliver 27 ∷ Ack 1 65535 ∷ Deliver 28 ∷ Crash ∷ Boot 2 900000 ∷ Deliver 31 ∷ Deliver 32 ∷ Deliver 33 ∷ Deliver 34 ∷ Deliver 35
      ∷ Deliver 36 ∷ Deliver 37 ∷ Deliver 38 ∷ [];
}

abbrev pub start : World
start = start_of schedule

-- the client after its SYN, after the SYN-ACK, after its text, and when it has so much of the output and has acknowledged so much of it
abbrev pub opening : Client
opening = record (client_with request) { phase = Opening; edge = 65535 }

abbrev pub open_client : Client
open_client = record opening { phase = Established; sisn = 5000 }

abbrev pub reported_client : Client
reported_client = record open_client { sent = 4 }

abbrev pub has : (accepted acknowledged : ℕ) → Client
has accepted acknowledged = record reported_client { acknowledged = 4; accepted = pattern 0 accepted; edge = 65535 + acknowledged }

-- the log's entry when it has the bytes, and when it has the read
abbrev pub filled_entry : Entry
filled_entry = record opened_entry { bytes = request }

abbrev pub read_entry : Entry
read_entry = record filled_entry { lengths = 4 ∷ [] }

-- the estimate when the first unit's round trip took two ticks, which are 16 eighths, with a variation of 4 quarters: the interval is 2 + 4 ticks. And when the
-- timer has expired
abbrev pub sampled : Timing
sampled = record (timing_of 1) { ticks = 2; timed = false; sampled = true; smoothed = 16; variation = 4; base = 6 }

abbrev pub backed_off : Timing
backed_off = record sampled { base = 12; backed_off = true }

-- the connection when the request is taken and read, when it is logged, when the read is and all output is in flight, ..
abbrev pub asked_point : Point
asked_point = record open_point { taken = request; lengths = 4 ∷ [] }

abbrev pub logged_point : Point
logged_point = record asked_point { answered = 4 }

abbrev pub sent_point : Point
sent_point = record logged_point { reads_answered = 1; sent = 2047; rest = 10; timing = timing_of 1 }

-- .. at ticks, ..
abbrev pub ticked : ℕ → Point
ticked = λ ticks. record sent_point { rest = 10 - ticks; timing = record (timing_of 1) { ticks = ticks } }

-- .. when the first segment is acknowledged, after so many duplicates of that, and at the third, ..
abbrev pub measured_point : Point
measured_point = record sent_point {
  una = 536;
  edge = 66071;
  wl1 = pos 4;
  wl2 = 536;
  congestion = recovery_with 2680 65535 0 0;
  timing = sampled;
  interval = 6;
  rest = 6;
}

abbrev pub repeated : ℕ → Point
repeated = λ dups. record measured_point { congestion = recovery_with 2680 65535 dups 0 }

abbrev pub losing_point : Point
losing_point = record measured_point { congestion = recovery_with 2680 1072 3 1511 }

-- .. when a part of what was in flight then is acknowledged, and when so many ticks are left, ..
abbrev pub waiting : ℕ → Point
waiting = λ rest. record losing_point { una = 1072; edge = 66607; wl2 = 1072; congestion = recovery_with 2680 1072 3 975; rest = rest }

-- .. when the timer has expired, and when a further part is acknowledged
abbrev pub expired_point : Point
expired_point = record (waiting 12) { congestion = recovery_with 536 1072 0 975; timing = backed_off; interval = 12 }

abbrev pub recovering_point : Point
recovering_point = record expired_point { una = 1608; edge = 67143; wl2 = 1608; congestion = recovery_with 1072 1072 0 439 }

-- the connection at the end of the restart: nothing is measured, and nothing is in flight
abbrev pub restarted : Point
restarted = record (blank_point wan key 1000 5000 536) {
  fetched = 4;
  fetched_output = 2047;
  taken = request;
  answered = 4;
  lengths = 4 ∷ [];
  reads_answered = 1;
  wl1 = pos 4;
  syn_acked = true;
  timestamping = Awaited;
  rest = 10;
}

-- the log's entry as it is fetched
abbrev pub head : EntryHead
head = head_with 4 false 1 0

-- what is fetched: nothing, the head, and the length of the read too
abbrev pub fetching : List Fetched → Node
fetching fetched = record (booted server wan 2 900000) { stage = Fetching 1 fetched }

abbrev pub bare_entry : Fetched
bare_entry = fetched_with head [] []

abbrev pub entry_with_length : Fetched
entry_with_length = fetched_with head [] (4 ∷ [])

abbrev pub second_log : Log
second_log = record (log_with (read_entry ∷ [])) { boot = 2 }

-- the packets
abbrev pub asking : Packet
asking = from_client 16 1001 5001 65535 request

abbrev pub copy : Packet
copy = to_log 1 (DataMsg (part_with 0 0 false request))

abbrev pub read : Packet
read = to_log 1 (ReadMsg key 0 4)

abbrev pub stable : Packet
stable = from_log 1 (StableMsg (kept_with 4 false 0))

abbrev pub reads : Packet
reads = from_log 1 (ReadsMsg (kept_with 4 false 1))

-- the client acknowledges so many bytes, and the log is told
abbrev pub acknowledging : ℕ → Packet
acknowledging = λ units. from_client 16 1005 (5001 + units) 65535 []

abbrev pub noted : ℕ → Packet
noted = λ units. to_log 1 (DataMsg (part_with 4 units false []))

-- text of the server, `size` bytes from `offset` on
abbrev pub text : (offset size : ℕ) → Packet
text = λ offset size. to_client 16 (5001 + offset) 1005 65535 None (pattern offset size)

abbrev pub moment_1 : Moment
moment_1 = moment (Boot 1 5000) (packet_1 ∷ []) (record start { boot = 1; node = Some (booted server wan 1 5000) })

abbrev pub moment_2 : Moment
moment_2 = moment (Deliver 1) (packet_2 ∷ []) (record moment_1.world { log = log_with [] })

abbrev pub moment_3 : Moment
moment_3 = moment (Deliver 2) [] (record moment_2.world { node = Some (node_at (Serving 0 [])) })

abbrev pub moment_4 : Moment
moment_4 = moment (Begin 1 65535) (packet_3 ∷ []) (record moment_3.world { clients = opening ∷ [] })

abbrev pub moment_5 : Moment
moment_5 = moment (Deliver 3) (packet_4 ∷ []) (record moment_4.world { node = Some (node_at (Serving 1 (Opens numbers Off ∷ []))) })

abbrev pub moment_6 : Moment
moment_6 = moment (Deliver 4) (packet_5 ∷ []) (record moment_5.world { log = log_with (opened_entry ∷ []) })

abbrev pub moment_7 : Moment
moment_7 = moment (Deliver 5) (packet_6 ∷ []) (record moment_6.world { node = Some (node_live begun_point) })

abbrev pub moment_8 : Moment
moment_8 = moment (Deliver 6) [] (record moment_7.world { clients = open_client ∷ [] })

abbrev pub moment_9 : Moment
moment_9 = moment (Ack 1 65535) (packet_7 ∷ []) moment_8.world

abbrev pub moment_10 : Moment
moment_10 = moment (Deliver 7) [] (record moment_9.world { node = Some (node_live open_point) })

abbrev pub moment_11 : Moment
moment_11 = moment (Send 1 0 4) (asking ∷ []) (record moment_10.world { clients = reported_client ∷ [] })

abbrev pub moment_12 : Moment
moment_12 = moment (Deliver 8) (copy ∷ read ∷ []) (record moment_11.world { node = Some (node_live asked_point) })

abbrev pub moment_13 : Moment
moment_13 = moment (Deliver 9) (stable ∷ []) (record moment_12.world { log = log_with (filled_entry ∷ []) })

abbrev pub moment_14 : Moment
moment_14 = moment (Deliver 11) (to_client 16 5001 1005 65535 None [] ∷ []) (record moment_13.world { node = Some (node_live logged_point) })

abbrev pub moment_15 : Moment
moment_15 = moment (Deliver 10) (reads ∷ []) (record moment_14.world { log = log_with (read_entry ∷ []) })

-- all output is sent, and its first unit is timed
abbrev pub moment_16 : Moment
moment_16 = moment (Deliver 13) (text 0 536 ∷ text 536 536 ∷ text 1072 536 ∷ text 1608 439 ∷ []) (record moment_15.world { node = Some (node_live sent_point) })

abbrev pub moment_17 : Moment
moment_17 = moment Tick [] (record moment_16.world { node = Some (node_live (ticked 1)) })

abbrev pub moment_18 : Moment
moment_18 = moment Tick [] (record moment_17.world { node = Some (node_live (ticked 2)) })

abbrev pub moment_19 : Moment
moment_19 = moment (Deliver 14) [] (record moment_18.world { clients = has 536 0 ∷ [] })

abbrev pub moment_20 : Moment
moment_20 = moment (Ack 1 65535) (acknowledging 536 ∷ []) (record moment_19.world { clients = has 536 536 ∷ [] })

-- the first segment is acknowledged: its round trip is measured
abbrev pub moment_21 : Moment
moment_21 = moment (Deliver 18) (noted 536 ∷ []) (record moment_20.world { node = Some (node_live measured_point) })

abbrev pub moment_22 : Moment
moment_22 = moment (Ack 1 65535) (acknowledging 536 ∷ []) moment_21.world

abbrev pub moment_23 : Moment
moment_23 = moment (Deliver 20) [] (record moment_22.world { node = Some (node_live (repeated 1)) })

abbrev pub moment_24 : Moment
moment_24 = moment (Ack 1 65535) (acknowledging 536 ∷ []) moment_23.world

abbrev pub moment_25 : Moment
moment_25 = moment (Deliver 21) [] (record moment_24.world { node = Some (node_live (repeated 2)) })

abbrev pub moment_26 : Moment
moment_26 = moment (Ack 1 65535) (acknowledging 536 ∷ []) moment_25.world

-- at the third duplicate the second segment is retransmitted
abbrev pub moment_27 : Moment
moment_27 = moment (Deliver 22) (text 536 536 ∷ []) (record moment_26.world { node = Some (node_live losing_point) })

abbrev pub moment_28 : Moment
moment_28 = moment (Deliver 23) [] (record moment_27.world { clients = has 1072 536 ∷ [] })

abbrev pub moment_29 : Moment
moment_29 = moment (Ack 1 65535) (acknowledging 1072 ∷ []) (record moment_28.world { clients = has 1072 1072 ∷ [] })

-- a partial acknowledgement: the third segment is retransmitted
abbrev pub moment_30 : Moment
moment_30 = moment (Deliver 24) (text 1072 536 ∷ noted 1072 ∷ []) (record moment_29.world { node = Some (node_live (waiting 6)) })

abbrev pub moment_31 : Moment
moment_31 = moment Tick [] (record moment_30.world { node = Some (node_live (waiting 5)) })

abbrev pub moment_32 : Moment
moment_32 = moment Tick [] (record moment_31.world { node = Some (node_live (waiting 4)) })

abbrev pub moment_33 : Moment
moment_33 = moment Tick [] (record moment_32.world { node = Some (node_live (waiting 3)) })

abbrev pub moment_34 : Moment
moment_34 = moment Tick [] (record moment_33.world { node = Some (node_live (waiting 2)) })

abbrev pub moment_35 : Moment
moment_35 = moment Tick [] (record moment_34.world { node = Some (node_live (waiting 1)) })

-- and again when the timer expires
abbrev pub moment_36 : Moment
moment_36 = moment Tick (text 1072 536 ∷ []) (record moment_35.world { node = Some (node_live expired_point) })

abbrev pub moment_37 : Moment
moment_37 = moment (Deliver 27) [] (record moment_36.world { clients = has 1608 1072 ∷ [] })

abbrev pub moment_38 : Moment
moment_38 = moment (Ack 1 65535) (acknowledging 1608 ∷ []) (record moment_37.world { clients = has 1608 1608 ∷ [] })

-- a partial acknowledgement after that retransmits the fourth
abbrev pub moment_39 : Moment
moment_39 = moment (Deliver 28) (text 1608 439 ∷ noted 1608 ∷ []) (record moment_38.world { node = Some (node_live recovering_point) })

abbrev pub moment_40 : Moment
moment_40 = moment Crash [] (record moment_39.world { node = None })

abbrev pub moment_41 : Moment
moment_41 = moment (Boot 2 900000) (to_log 2 HelloMsg ∷ []) (record moment_40.world { boot = 2; node = Some (booted server wan 2 900000) })

abbrev pub moment_42 : Moment
moment_42 = moment (Deliver 31) (from_log 2 (SummaryMsg 1) ∷ []) (record moment_41.world { log = second_log })

abbrev pub moment_43 : Moment
moment_43 = moment (Deliver 32) (to_log 2 (ListMsg 0) ∷ []) (record moment_42.world { node = Some (fetching []) })

abbrev pub moment_44 : Moment
moment_44 = moment (Deliver 33) (from_log 2 (EntryMsg 0 head) ∷ []) moment_43.world

abbrev pub moment_45 : Moment
moment_45 = moment (Deliver 34) (to_log 2 (CutsMsg key 0) ∷ []) (record moment_44.world { node = Some (fetching (bare_entry ∷ [])) })

abbrev pub moment_46 : Moment
moment_46 = moment (Deliver 35) (from_log 2 (LensMsg key 0 (4 ∷ [])) ∷ []) moment_45.world

abbrev pub moment_47 : Moment
moment_47 = moment (Deliver 36) (to_log 2 (BytesMsg key 0) ∷ []) (record moment_46.world { node = Some (fetching (entry_with_length ∷ [])) })

abbrev pub moment_48 : Moment
moment_48 = moment (Deliver 37) (from_log 2 (PartMsg key 0 request) ∷ []) moment_47.world

-- with the last answer the connection continues
abbrev pub moment_49 : Moment
moment_49 = moment (Deliver 38) (to_client 16 5001 1005 65535 None [] ∷ []) (record moment_48.world { node = Some (serving_in wan 2 900000 restarted) })

-- the whole trace, newest moment first
abbrev pub trace : List Moment
trace =
    moment_49 ∷ moment_48 ∷ moment_47 ∷ moment_46 ∷ moment_45 ∷ moment_44 ∷ moment_43 ∷ moment_42 ∷ moment_41 ∷ moment_40 ∷ moment_39 ∷ moment_38
    ∷ moment_37 ∷ moment_36 ∷ moment_35 ∷ moment_34 ∷ moment_33 ∷ moment_32 ∷ moment_31 ∷ moment_30 ∷ moment_29 ∷ moment_28 ∷ moment_27 ∷ moment_26
    ∷ moment_25 ∷ moment_24 ∷ moment_23 ∷ moment_22 ∷ moment_21 ∷ moment_20 ∷ moment_19 ∷ moment_18 ∷ moment_17 ∷ moment_16 ∷ moment_15 ∷ moment_14
    ∷ moment_13 ∷ moment_12 ∷ moment_11 ∷ moment_10 ∷ moment_9 ∷ moment_8 ∷ moment_7 ∷ moment_6 ∷ moment_5 ∷ moment_4 ∷ moment_3 ∷ moment_2 ∷ moment_1 ∷ []

-- Wrong turns. At the tick before the last: the segment is retransmitted already
abbrev pub one_too_early : List Packet
one_too_early = text 1072 536 ∷ []

-- at a partial acknowledgement, without and after an expiry: nothing is retransmitted
abbrev pub never_recovered : List Packet
never_recovered = noted 1072 ∷ []

abbrev pub never_recovered_later : List Packet
never_recovered_later = noted 1608 ∷ []

-- the inputs of the turns
abbrev pub acknowledged : ℕ → Input
acknowledged = λ units. Packet_comes (client_segment 16 1005 (5001 + units) 65535 [])

abbrev pub request_is_logged : Input
request_is_logged = Message_comes (record { boot = 1; body = StableMsg (kept_with 4 false 0) })

abbrev pub read_is_logged : Input
read_is_logged = Message_comes (record { boot = 1; body = ReadsMsg (kept_with 4 false 1) })

-- the report of the trace, line by line
abbrev pub report_lines : List (List ℕ)
report_lines =
    codes "ftreplay 1\n"
    ∷ codes "service transfer\n"
    ∷ codes "server 192.0.2.100:7\n"
    ∷ codes "profile wan\n"
    ∷ codes "client 1 192.0.2.1:40000 1000 hex:000007ff\n"
    ∷ codes "event 1 boot 1 5000\n"
    ∷ codes "packet 1 S>L Hello boot 1\n"
    ∷ codes "event 2 deliver 1\n"
    ∷ codes "packet 2 L>S Summary boot 1 count 0\n"
    ∷ codes "event 3 deliver 2\n"
    ∷ codes "event 4 open 1 65535\n"
    ∷ codes "packet 3 1>S S seq 1000 ack 0 window 65535 mss - data -\n"
    ∷ codes "event 5 deliver 3\n"
    ∷ codes "packet 4 S>L Open boot 1 key 192.0.2.1:40000 cisn 1000 sisn 5000 mss 536\n"
    ∷ codes "event 6 deliver 4\n"
    ∷ codes "packet 5 L>S Opened boot 1 key 192.0.2.1:40000 cisn 1000 sisn 5000 mss 536\n"
    ∷ codes "event 7 deliver 5\n"
    ∷ codes "packet 6 S>1 AS seq 5000 ack 1001 window 65535 mss 1460 data -\n"
    ∷ codes "event 8 deliver 6\n"
    ∷ codes "event 9 ack 1 65535\n"
    ∷ codes "packet 7 1>S A seq 1001 ack 5001 window 65535 mss - data -\n"
    ∷ codes "event 10 deliver 7\n"
    ∷ codes "event 11 send 1 0 4\n"
    ∷ codes "packet 8 1>S A seq 1001 ack 5001 window 65535 mss - data 000007ff\n"
    ∷ codes "event 12 deliver 8\n"
    ∷ codes "packet 9 S>L Data boot 1 key 192.0.2.1:40000 offset 0 acked 0 fin 0 bytes 000007ff\n"
    ∷ codes "packet 10 S>L Read boot 1 key 192.0.2.1:40000 index 0 length 4\n"
    ∷ codes "event 13 deliver 9\n"
    ∷ codes "packet 11 L>S Stable boot 1 key 192.0.2.1:40000 length 4 fin 0 reads 0\n"
    ∷ codes "event 14 deliver 11\n"
    ∷ codes "packet 12 S>1 A seq 5001 ack 1005 window 65535 mss - data -\n"
    ∷ codes "event 15 deliver 10\n"
    ∷ codes "packet 13 L>S Reads boot 1 key 192.0.2.1:40000 length 4 fin 0 reads 1\n"
    ∷ codes "event 16 deliver 13\n"
    ∷ with_pattern (codes "packet 14 S>1 A seq 5001 ack 1005 window 65535 mss - data ") 0 536
    ∷ with_pattern (codes "packet 15 S>1 A seq 5537 ack 1005 window 65535 mss - data ") 536 536
    ∷ with_pattern (codes "packet 16 S>1 A seq 6073 ack 1005 window 65535 mss - data ") 1072 536
    ∷ with_pattern (codes "packet 17 S>1 A seq 6609 ack 1005 window 65535 mss - data ") 1608 439
    ∷ codes "event 17 tick\n"
    ∷ codes "event 18 tick\n"
    ∷ codes "event 19 deliver 14\n"
    ∷ codes "event 20 ack 1 65535\n"
    ∷ codes "packet 18 1>S A seq 1005 ack 5537 window 65535 mss - data -\n"
    ∷ codes "event 21 deliver 18\n"
    ∷ codes "packet 19 S>L Data boot 1 key 192.0.2.1:40000 offset 4 acked 536 fin 0 bytes -\n"
    ∷ codes "event 22 ack 1 65535\n"
    ∷ codes "packet 20 1>S A seq 1005 ack 5537 window 65535 mss - data -\n"
    ∷ codes "event 23 deliver 20\n"
    ∷ codes "event 24 ack 1 65535\n"
    ∷ codes "packet 21 1>S A seq 1005 ack 5537 window 65535 mss - data -\n"
    ∷ codes "event 25 deliver 21\n"
    ∷ codes "event 26 ack 1 65535\n"
    ∷ codes "packet 22 1>S A seq 1005 ack 5537 window 65535 mss - data -\n"
    ∷ codes "event 27 deliver 22\n"
    ∷ with_pattern (codes "packet 23 S>1 A seq 5537 ack 1005 window 65535 mss - data ") 536 536
    ∷ codes "event 28 deliver 23\n"
    ∷ codes "event 29 ack 1 65535\n"
    ∷ codes "packet 24 1>S A seq 1005 ack 6073 window 65535 mss - data -\n"
    ∷ codes "event 30 deliver 24\n"
    ∷ with_pattern (codes "packet 25 S>1 A seq 6073 ack 1005 window 65535 mss - data ") 1072 536
    ∷ codes "packet 26 S>L Data boot 1 key 192.0.2.1:40000 offset 4 acked 1072 fin 0 bytes -\n"
    ∷ codes "event 31 tick\n"
    ∷ codes "event 32 tick\n"
    ∷ codes "event 33 tick\n"
    ∷ codes "event 34 tick\n"
    ∷ codes "event 35 tick\n"
    ∷ codes "event 36 tick\n"
    ∷ with_pattern (codes "packet 27 S>1 A seq 6073 ack 1005 window 65535 mss - data ") 1072 536
    ∷ codes "event 37 deliver 27\n"
    ∷ codes "event 38 ack 1 65535\n"
    ∷ codes "packet 28 1>S A seq 1005 ack 6609 window 65535 mss - data -\n"
    ∷ codes "event 39 deliver 28\n"
    ∷ with_pattern (codes "packet 29 S>1 A seq 6609 ack 1005 window 65535 mss - data ") 1608 439
    ∷ codes "packet 30 S>L Data boot 1 key 192.0.2.1:40000 offset 4 acked 1608 fin 0 bytes -\n"
    ∷ codes "event 40 crash\n"
    ∷ codes "event 41 boot 2 900000\n"
    ∷ codes "packet 31 S>L Hello boot 2\n"
    ∷ codes "event 42 deliver 31\n"
    ∷ codes "packet 32 L>S Summary boot 2 count 1\n"
    ∷ codes "event 43 deliver 32\n"
    ∷ codes "packet 33 S>L List boot 2 index 0\n"
    ∷ codes "event 44 deliver 33\n"
    ∷ codes "packet 34 L>S Entry boot 2 index 0 key 192.0.2.1:40000 cisn 1000 sisn 5000 mss 536 length 4 fin 0 done 0 reads 1 acked 0\n"
    ∷ codes "event 45 deliver 34\n"
    ∷ codes "packet 35 S>L Cuts boot 2 key 192.0.2.1:40000 first 0\n"
    ∷ codes "event 46 deliver 35\n"
    ∷ codes "packet 36 L>S Lens boot 2 key 192.0.2.1:40000 first 0 lens 4\n"
    ∷ codes "event 47 deliver 36\n"
    ∷ codes "packet 37 S>L Bytes boot 2 key 192.0.2.1:40000 offset 0\n"
    ∷ codes "event 48 deliver 37\n"
    ∷ codes "packet 38 L>S Part boot 2 key 192.0.2.1:40000 offset 0 bytes 000007ff\n"
    ∷ codes "event 49 deliver 38\n"
    ∷ codes "packet 39 S>1 A seq 5001 ack 1005 window 65535 mss - data -\n"
    ∷ with_pattern (codes "client 1 open accepted 1608 ") 0 1608
    ∷ codes "log 192.0.2.1:40000 length 4 fin 0 acked 0 done 0 reads 4\n"
    ∷ codes "end 49\n"
    ∷ []
