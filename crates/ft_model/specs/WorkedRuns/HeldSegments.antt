-- Two segments of a client arrive in the wrong order. The second one's text is held until the first one fills the gap, and is then taken and copied. Fourteen
-- events, fourteen packets.
use Rattle.std.specs.Prelude.{ℕ, codes, false, None, Some, List, [], ◌∷◌, pos}
use Rattle.tcp_rules.specs.declared.profile.Profile.TheVariants.{Plain}
use Rattle.seq_arith.specs.Message.Body.{DataMsg}
use Rattle.ft_model.specs.Client.{Client}
use Rattle.ft_model.specs.Network.{Packet}
use Rattle.ft_model.specs.Node.{Input}
use Rattle.ft_model.specs.Node.Input.{Packet_comes}
use Rattle.ft_model.specs.Point.{Point}
use Rattle.ft_model.specs.World.{Moment}
use Rattle.ft_model.specs.WorkedRuns.Common.{server, key, hello_text, client_segment, from_client, to_client, to_log, part_with}
use Rattle.ft_model.specs.WorkedRuns.FirstPath.{moment, opening_trace, moment_10, open_client, reported_client, open_point, taken_point, node_live}
use Rattle.ft_model.specs.WorkedRuns.FirstPath.{packet_10, packet_11}
use Rattle.ft_model.specs.declared.event.Event.TheVariants.{Boot, Deliver, Begin, Send, Ack}
use Rattle.ft_model.specs.declared.schedule.Schedule.{Schedule}
use Rattle.ft_model.specs.declared.schedule.Script.TheVariants.{Bytes}
use Rattle.ft_model.specs.declared.schedule.ServiceKind.TheVariants.{Echo}

-- up to the open connection it is the first path
abbrev pub schedule : Schedule
schedule = record {
  service = Echo;
  server = server;
  profile = Plain;
  twin = false;
  marks = None;
  lasting = None;
  clients = record { key = key; isn = 1000; script = Bytes hello_text } ∷ [];
  events = Boot 1 5000 ∷ Deliver 1 ∷ Deliver 2 ∷ Begin 1 65535 ∷ Deliver 3 ∷ Deliver 4 ∷ Deliver 5 ∷ Deliver 6 ∷ Ack 1 65535 ∷ Deliver 7 ∷ Send 1 0 2
      ∷ Send 1 2 3
      ∷ Deliver 9 ∷ Deliver 8 ∷ [];
}

-- "he" and "llo"
abbrev pub first_text : List ℕ
first_text = 104 ∷ 101 ∷ []

abbrev pub second_text : List ℕ
second_text = 108 ∷ 108 ∷ 111 ∷ []

abbrev pub first_sent : Packet
first_sent = from_client 16 1001 5001 65535 first_text

abbrev pub second_sent : Packet
second_sent = from_client 16 1003 5001 65535 second_text

-- the client when it has sent the first of them
abbrev pub reporting_client : Client
reporting_client = record open_client { sent = 2 }

-- the connection when the second text is held after a gap of two bytes, and when both are taken and read
abbrev pub held_point : Point
held_point = record open_point { early = record { text = None ∷ None ∷ Some 108 ∷ Some 108 ∷ Some 111 ∷ []; fin = None }; wl1 = pos 2 }

abbrev pub filled_point : Point
filled_point = record taken_point { wl1 = pos 2 }

-- nothing is acknowledged before it is logged
abbrev pub bare_ack : Packet
bare_ack = to_client 16 5001 1001 65535 None []

abbrev pub first_copy : Packet
first_copy = to_log 1 (DataMsg (part_with 0 0 false first_text))

abbrev pub second_copy : Packet
second_copy = to_log 1 (DataMsg (part_with 2 0 false second_text))

abbrev pub moment_11 : Moment
moment_11 = moment (Send 1 0 2) (first_sent ∷ []) (record moment_10.world { clients = reporting_client ∷ [] })

abbrev pub moment_12 : Moment
moment_12 = moment (Send 1 2 3) (second_sent ∷ []) (record moment_11.world { clients = reported_client ∷ [] })

-- the second one arrives first: it is held, and answered
abbrev pub moment_13 : Moment
moment_13 = moment (Deliver 9) (bare_ack ∷ []) (record moment_12.world { node = Some (node_live held_point) })

-- the gap is filled: the segment's own part is copied, and then what was held
abbrev pub moment_14 : Moment
moment_14 = moment (Deliver 8) (bare_ack ∷ first_copy ∷ second_copy ∷ packet_11 ∷ []) (record moment_13.world { node = Some (node_live filled_point) })

-- the whole trace, newest moment first
abbrev pub trace : List Moment
trace = moment_14 ∷ moment_13 ∷ moment_12 ∷ moment_11 ∷ opening_trace

-- Wrong turns. In the turn in which the gap is filled: what was held isn't copied, ..
abbrev pub without_held : List Packet
without_held = bare_ack ∷ first_copy ∷ packet_11 ∷ []

-- .. it is sent before the segment's own part, ..
abbrev pub held_first : List Packet
held_first = bare_ack ∷ second_copy ∷ first_copy ∷ packet_11 ∷ []

-- .. or both are sent as one Data
abbrev pub as_one : List Packet
as_one = bare_ack ∷ packet_10 ∷ packet_11 ∷ []

abbrev pub gap_filled : Input
gap_filled = Packet_comes (client_segment 16 1001 5001 65535 first_text)

-- the report of the trace, line by line
abbrev pub report_lines : List (List ℕ)
report_lines =
    codes "ftreplay 1\n"
    ∷ codes "service echo\n"
    ∷ codes "server 192.0.2.100:7\n"
    ∷ codes "client 1 192.0.2.1:40000 1000 hex:68656c6c6f\n"
    ∷ codes "event 1 boot 1 5000\n"
    ∷ codes "packet 1 S>L Hello boot 1\n"
    ∷ codes "event 2 deliver 1\n"
    ∷ codes "packet 2 L>S Summary boot 1 count 0\n"
    ∷ codes "event 3 deliver 2\n"
    ∷ codes "event 4 open 1 65535\n"
    ∷ codes "packet 3 1>S S seq 1000 ack 0 window 65535 mss - data -\n"
    ∷ codes "event 5 deliver 3\n"
    ∷ codes "packet 4 S>L Open boot 1 key 192.0.2.1:40000 cisn 1000 sisn 5000 mss 536\n"
    ∷ codes "event 6 deliver 4\n"
    ∷ codes "packet 5 L>S Opened boot 1 key 192.0.2.1:40000 cisn 1000 sisn 5000 mss 536\n"
    ∷ codes "event 7 deliver 5\n"
    ∷ codes "packet 6 S>1 AS seq 5000 ack 1001 window 65535 mss 1460 data -\n"
    ∷ codes "event 8 deliver 6\n"
    ∷ codes "event 9 ack 1 65535\n"
    ∷ codes "packet 7 1>S A seq 1001 ack 5001 window 65535 mss - data -\n"
    ∷ codes "event 10 deliver 7\n"
    ∷ codes "event 11 send 1 0 2\n"
    ∷ codes "packet 8 1>S A seq 1001 ack 5001 window 65535 mss - data 6865\n"
    ∷ codes "event 12 send 1 2 3\n"
    ∷ codes "packet 9 1>S A seq 1003 ack 5001 window 65535 mss - data 6c6c6f\n"
    ∷ codes "event 13 deliver 9\n"
    ∷ codes "packet 10 S>1 A seq 5001 ack 1001 window 65535 mss - data -\n"
    ∷ codes "event 14 deliver 8\n"
    ∷ codes "packet 11 S>1 A seq 5001 ack 1001 window 65535 mss - data -\n"
    ∷ codes "packet 12 S>L Data boot 1 key 192.0.2.1:40000 offset 0 acked 0 fin 0 bytes 6865\n"
    ∷ codes "packet 13 S>L Data boot 1 key 192.0.2.1:40000 offset 2 acked 0 fin 0 bytes 6c6c6f\n"
    ∷ codes "packet 14 S>L Read boot 1 key 192.0.2.1:40000 index 0 length 5\n"
    ∷ codes "client 1 open accepted 0 -\n"
    ∷ codes "log 192.0.2.1:40000 length 0 fin 0 acked 0 done 0 reads -\n"
    ∷ codes "end 14\n"
    ∷ []
