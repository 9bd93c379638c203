-- Two segments of a client arrive in the wrong order, with the profile for wide-area networks. The turn in which the gap is filled copies both texts: the first
-- Data says that another follows, and the log answers only the last. Seventeen events, fifteen packets.
use Rattle.std.specs.Prelude.{ℕ, codes, true, false, None, Some, List, [], ◌∷◌, pos}
use Rattle.tcp_rules.specs.declared.profile.Profile.TheVariants.{Wan}
use Rattle.seq_arith.specs.Message.Body.{DataMsg}
use Rattle.ft_model.specs.Log.{Entry}
use Rattle.ft_model.specs.Network.{Packet}
use Rattle.ft_model.specs.Point.{Point}
use Rattle.ft_model.specs.World.{Moment}
use Rattle.ft_model.specs.WorkedRuns.Common.{server, key, hello_text, to_log, part_with}
use Rattle.ft_model.specs.WorkedRuns.FirstPath.{moment, reported_client, log_with, opened_entry, filled_entry, packet_11, packet_12, packet_13}
use Rattle.ft_model.specs.WorkedRuns.DelayedAck.{opening_trace, moment_10, open_point, taken_point, node_live}
use Rattle.ft_model.specs.WorkedRuns.HeldSegments.{first_text, second_text, first_sent, second_sent, reporting_client, bare_ack, first_copy, second_copy}
use Rattle.ft_model.specs.declared.event.Event.TheVariants.{Boot, Deliver, Begin, Send, Ack}
use Rattle.ft_model.specs.declared.schedule.Schedule.{Schedule}
use Rattle.ft_model.specs.declared.schedule.Script.TheVariants.{Bytes}
use Rattle.ft_model.specs.declared.schedule.ServiceKind.TheVariants.{Echo}

-- up to the open connection it is the first path with this profile
abbrev pub schedule : Schedule
schedule = record {
  service = Echo;
  server = server;
  profile = Wan;
  twin = false;
  marks = None;
  lasting = None;
  clients = record { key = key; isn = 1000; script = Bytes hello_text } ∷ [];
  events = Boot 1 5000 ∷ Deliver 1 ∷ Deliver 2 ∷ Begin 1 65535 ∷ Deliver 3 ∷ Deliver 4 ∷ Deliver 5 ∷ Deliver 6 ∷ Ack 1 65535 ∷ Deliver 7
      ∷ Send 1 0 2 ∷ Send 1 2 3 ∷ Deliver 9 ∷ Deliver 8 ∷ Deliver 11 ∷ Deliver 12 ∷ Deliver 14 ∷ [];
}

-- the connection when the second text is held after a gap of two bytes, when both are taken and read, and when both are logged
abbrev pub held_point : Point
held_point = record open_point { early = record { text = None ∷ None ∷ Some 108 ∷ Some 108 ∷ Some 111 ∷ []; fin = None }; wl1 = pos 2 }

abbrev pub filled_point : Point
filled_point = record taken_point { wl1 = pos 2 }

abbrev pub logged_point : Point
logged_point = record filled_point { answered = 5 }

-- the first text's copy, which says that another follows, and the second text's with the same
abbrev pub first_of_two : Packet
first_of_two = to_log 1 (DataMsg (record (part_with 0 0 false first_text) { more = true }))

abbrev pub second_of_more : Packet
second_of_more = to_log 1 (DataMsg (record (part_with 2 0 false second_text) { more = true }))

-- the log's entry when it has the first text
abbrev pub begun_entry : Entry
begun_entry = record opened_entry { bytes = first_text }

abbrev pub moment_11 : Moment
moment_11 = moment (Send 1 0 2) (first_sent ∷ []) (record moment_10.world { clients = reporting_client ∷ [] })

abbrev pub moment_12 : Moment
moment_12 = moment (Send 1 2 3) (second_sent ∷ []) (record moment_11.world { clients = reported_client ∷ [] })

-- the second one arrives first: it is held, and answered
abbrev pub moment_13 : Moment
moment_13 = moment (Deliver 9) (bare_ack ∷ []) (record moment_12.world { node = Some (node_live held_point) })

-- the gap is filled: both are copied, as a batch
abbrev pub moment_14 : Moment
moment_14 = moment (Deliver 8) (first_of_two ∷ second_copy ∷ packet_11 ∷ []) (record moment_13.world { node = Some (node_live filled_point) })

-- the log keeps the first text, and doesn't answer
abbrev pub moment_15 : Moment
moment_15 = moment (Deliver 11) [] (record moment_14.world { log = log_with (begun_entry ∷ []) })

-- one answer says that both are logged, ..
abbrev pub moment_16 : Moment
moment_16 = moment (Deliver 12) (packet_12 ∷ []) (record moment_15.world { log = log_with (filled_entry ∷ []) })

-- .. and both are acknowledged
abbrev pub moment_17 : Moment
moment_17 = moment (Deliver 14) (packet_13 ∷ []) (record moment_16.world { node = Some (node_live logged_point) })

-- the whole trace, newest moment first
abbrev pub trace : List Moment
trace = moment_17 ∷ moment_16 ∷ moment_15 ∷ moment_14 ∷ moment_13 ∷ moment_12 ∷ moment_11 ∷ opening_trace

-- Wrong turns. In the turn in which the gap is filled: no Data says that another follows, ..
abbrev pub none_follows : List Packet
none_follows = first_copy ∷ second_copy ∷ packet_11 ∷ []

-- .. or the last one says so too.
abbrev pub another_follows : List Packet
another_follows = first_of_two ∷ second_of_more ∷ packet_11 ∷ []

-- And in a turn with one Data that one says so
abbrev pub single_of_more : List Packet
single_of_more = to_log 1 (DataMsg (record (part_with 0 0 false hello_text) { more = true })) ∷ packet_11 ∷ []

-- the report of the trace, line by line
abbrev pub report_lines : List (List ℕ)
report_lines =
    codes "ftreplay 1\n"
    ∷ codes "service echo\n"
    ∷ codes "server 192.0.2.100:7\n"
    ∷ codes "profile wan\n"
    ∷ codes "client 1 192.0.2.1:40000 1000 hex:68656c6c6f\n"
    ∷ codes "event 1 boot 1 5000\n"
    ∷ codes "packet 1 S>L Hello boot 1\n"
    ∷ codes "event 2 deliver 1\n"
    ∷ codes "packet 2 L>S Summary boot 1 count 0\n"
    ∷ codes "event 3 deliver 2\n"
    ∷ codes "event 4 open 1 65535\n"
    ∷ codes "packet 3 1>S S seq 1000 ack 0 window 65535 mss - data -\n"
    ∷ codes "event 5 deliver 3\n"
    ∷ codes "packet 4 S>L Open boot 1 key 192.0.2.1:40000 cisn 1000 sisn 5000 mss 536\n"
    ∷ codes "event 6 deliver 4\n"
    ∷ codes "packet 5 L>S Opened boot 1 key 192.0.2.1:40000 cisn 1000 sisn 5000 mss 536\n"
    ∷ codes "event 7 deliver 5\n"
    ∷ codes "packet 6 S>1 AS seq 5000 ack 1001 window 65535 mss 1460 data -\n"
    ∷ codes "event 8 deliver 6\n"
    ∷ codes "event 9 ack 1 65535\n"
    ∷ codes "packet 7 1>S A seq 1001 ack 5001 window 65535 mss - data -\n"
    ∷ codes "event 10 deliver 7\n"
    ∷ codes "event 11 send 1 0 2\n"
    ∷ codes "packet 8 1>S A seq 1001 ack 5001 window 65535 mss - data 6865\n"
    ∷ codes "event 12 send 1 2 3\n"
    ∷ codes "packet 9 1>S A seq 1003 ack 5001 window 65535 mss - data 6c6c6f\n"
    ∷ codes "event 13 deliver 9\n"
    ∷ codes "packet 10 S>1 A seq 5001 ack 1001 window 65535 mss - data -\n"
    ∷ codes "event 14 deliver 8\n"
    ∷ codes "packet 11 S>L Data boot 1 key 192.0.2.1:40000 offset 0 acked 0 fin 2 bytes 6865\n"
    ∷ codes "packet 12 S>L Data boot 1 key 192.0.2.1:40000 offset 2 acked 0 fin 0 bytes 6c6c6f\n"
    ∷ codes "packet 13 S>L Read boot 1 key 192.0.2.1:40000 index 0 length 5\n"
    ∷ codes "event 15 deliver 11\n"
    ∷ codes "event 16 deliver 12\n"
    ∷ codes "packet 14 L>S Stable boot 1 key 192.0.2.1:40000 length 5 fin 0 reads 0\n"
    ∷ codes "event 17 deliver 14\n"
    ∷ codes "packet 15 S>1 A seq 5001 ack 1006 window 65535 mss - data -\n"
    ∷ codes "client 1 open accepted 0 -\n"
    ∷ codes "log 192.0.2.1:40000 length 5 fin 0 acked 0 done 0 reads -\n"
    ∷ codes "end 17\n"
    ∷ []
