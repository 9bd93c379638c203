-- A client asks for 4,094 bytes, more than the congestion window allows at once. Four segments are sent. An acknowledgement of the first one allows two more.
-- Two duplicates of it allow none. At the third the missing segment is retransmitted, and as much new text is sent as the window then has room for.
-- Twenty-five events, twenty-seven packets.
use Rattle.std.specs.Prelude.{ℕ, codes, zero, suc, ◌+◌, ◌*◌, ◌%◌, ◌==◌, min, false, None, Some, List, [], ◌∷◌, ◌++◌, length, pos}
use Rattle.tcp_rules.specs.declared.timestamping.Timestamping.TheVariants.{Off}
use Rattle.tcp_rules.specs.Profile.{plain}
use Rattle.tcp_rules.specs.declared.profile.Profile.TheVariants.{Plain}
use Rattle.seq_arith.specs.Message.Body.{DataMsg, StableMsg, ReadMsg, ReadsMsg}
use Rattle.server_trait.specs.Service.{Served, Machine}
use Rattle.ft_model.specs.Client.{Client}
use Rattle.ft_model.specs.Log.{Entry}
use Rattle.ft_model.specs.Network.{Packet}
use Rattle.ft_model.specs.Node.{Node, Input, booted}
use Rattle.ft_model.specs.Node.Input.{Packet_comes, Message_comes}
use Rattle.ft_model.specs.Node.Place.{Opens}
use Rattle.ft_model.specs.Node.Stage.{Serving}
use Rattle.ft_model.specs.Lawful.{LawfulTurn}
use Rattle.ft_model.specs.Point.{Point}
use Rattle.ft_model.specs.Texts.{hex_text}
use Rattle.ft_model.specs.World.{World, Moment}
use Rattle.ft_model.specs.Legal.{start_of}
use Rattle.ft_model.specs.WorkedRuns.Common.{server, key, client_with, client_segment, from_client, to_client, to_log, from_log, numbers, kept_with}
use Rattle.ft_model.specs.WorkedRuns.Common.{part_with, congestion_with}
use Rattle.ft_model.specs.WorkedRuns.FirstPath.{moment, log_with, opened_entry, begun_point, open_point, node_at, node_live, packet_1, packet_2}
use Rattle.ft_model.specs.WorkedRuns.FirstPath.{packet_3, packet_4, packet_5, packet_6, packet_7, packet_9}
use Rattle.ft_model.specs.declared.event.Event.TheVariants.{Boot, Deliver, Begin, Send, Ack}
use Rattle.ft_model.specs.declared.phase.Phase.TheVariants.{Opening, Established}
use Rattle.ft_model.specs.declared.schedule.Schedule.{Schedule}
use Rattle.ft_model.specs.declared.schedule.Script.TheVariants.{Bytes}
use Rattle.ft_model.specs.declared.schedule.ServiceKind.TheVariants.{Transfer}

-- `size` bytes, from `place` on, of the pattern whose byte i is i modulo 251
unfoldable pub pattern : (place size : ℕ) → List ℕ
pattern place zero = []
pattern place (suc size) = place % 251 ∷ pattern (place + 1) size

-- four bytes ask, big-endian, for a number of bytes of the pattern, at most 2,047
abbrev pub request_of : ℕ → ℕ → ℕ → ℕ → ℕ
request_of a b c d = min 2047 (((a * 256 + b) * 256 + c) * 256 + d)

unfoldable pub given : (place : ℕ) → List ℕ → List ℕ
given place (a ∷ b ∷ c ∷ d ∷ requests) = pattern place (request_of a b c d) ++ given (place + request_of a b c d) requests
given place _ = []

-- the transfer service, which gets only complete requests here. Its state is how many bytes it has written, and it closes at the end of input
abbrev pub transferred : ℕ → List ℕ → Served ℕ
transferred place chunk = record { next = place + length (given place chunk); output = given place chunk; closed = length chunk == 0 }

abbrev pub transfer : Machine ℕ
transfer = record { fresh = 0; greeting = []; after = transferred }

-- two requests of 2,047 bytes each
abbrev pub requests : List ℕ
requests = 0 ∷ 0 ∷ 7 ∷ 255 ∷ 0 ∷ 0 ∷ 7 ∷ 255 ∷ []

abbrev pub schedule : Schedule
schedule = record {
  service = Transfer;
  server = server;
  profile = Plain;
  twin = false;
  marks = None;
  lasting = None;
  clients = record { key = key; isn = 1000; script = Bytes requests } ∷ [];
  events = Boot 1 5000 ∷ Deliver 1 ∷ Deliver 2 ∷ Begin 1 65535 ∷ Deliver 3 ∷ Deliver 4 ∷ Deliver 5 ∷ Deliver 6 ∷ Ack 1 65535 ∷ Deliver 7 ∷ Send 1 0 8
      ∷ Deliver 8
      ∷ Deliver 10 ∷ Deliver 12 ∷ Deliver 11 ∷ Deliver 14 ∷ Deliver 15 ∷ Ack 1 65535 ∷ Deliver 19 ∷ Ack 1 65535 ∷ Ack 1 65535 ∷ Ack 1 65535 ∷ Deliver 23
      ∷ Deliver 24
      ∷ Deliver 25 ∷ [];
}

abbrev pub start : World
start = start_of schedule

-- the client after its SYN, after the SYN-ACK, after its text, after the first segment, and when it has acknowledged that
abbrev pub opening : Client
opening = record (client_with requests) { phase = Opening; edge = 65535 }

abbrev pub open_client : Client
open_client = record opening { phase = Established; sisn = 5000 }

abbrev pub reported_client : Client
reported_client = record open_client { sent = 8 }

abbrev pub served_client : Client
served_client = record reported_client { acknowledged = 8; accepted = pattern 0 536 }

abbrev pub acknowledging_client : Client
acknowledging_client = record served_client { edge = 66071 }

-- the log's entry when it has the bytes, and when it has the read
abbrev pub filled_entry : Entry
filled_entry = record opened_entry { bytes = requests }

abbrev pub read_entry : Entry
read_entry = record filled_entry { lengths = 8 ∷ [] }

-- the connection when the requests are taken and read, when they are logged, when the read is, ..
abbrev pub asked_point : Point
asked_point = record open_point { taken = requests; lengths = 8 ∷ [] }

abbrev pub logged_point : Point
logged_point = record asked_point { answered = 8 }

-- .. and the first window's four segments are in flight, ..
abbrev pub full_point : Point
full_point = record logged_point { reads_answered = 1; sent = 2144; rest = 1 }

-- .. when the first of them is acknowledged: the window grows by a segment, ..
abbrev pub grown_point : Point
grown_point = record full_point { una = 536; sent = 3216; edge = 66071; wl1 = pos 8; wl2 = 536; congestion = congestion_with 2680 65535 0 }

-- .. at the duplicates of that acknowledgement, ..
abbrev pub repeated : ℕ → Point
repeated = λ dups. record grown_point { congestion = congestion_with 2680 65535 dups }

-- .. and at the third one, with half of what is in flight as the threshold, and three segments above that as the window
abbrev pub recovering_point : Point
recovering_point = record grown_point { sent = 3484; congestion = congestion_with 2948 1340 3 }

-- the packets
abbrev pub asking : Packet
asking = from_client 16 1001 5001 65535 requests

abbrev pub copy : Packet
copy = to_log 1 (DataMsg (part_with 0 0 false requests))

abbrev pub read : Packet
read = to_log 1 (ReadMsg key 0 8)

abbrev pub stable : Packet
stable = from_log 1 (StableMsg (kept_with 8 false 0))

abbrev pub reads : Packet
reads = from_log 1 (ReadsMsg (kept_with 8 false 1))

abbrev pub acknowledgement : Packet
acknowledgement = from_client 16 1009 5537 65535 []

-- text of the server, `size` bytes from `offset` on
abbrev pub text : (offset size : ℕ) → Packet
text = λ offset size. to_client 16 (5001 + offset) 1009 65535 None (pattern offset size)

abbrev pub moment_1 : Moment
moment_1 = moment (Boot 1 5000) (packet_1 ∷ []) (record start { boot = 1; node = Some (booted server plain 1 5000) })

abbrev pub moment_2 : Moment
moment_2 = moment (Deliver 1) (packet_2 ∷ []) (record moment_1.world { log = log_with [] })

abbrev pub moment_3 : Moment
moment_3 = moment (Deliver 2) [] (record moment_2.world { node = Some (node_at (Serving 0 [])) })

abbrev pub moment_4 : Moment
moment_4 = moment (Begin 1 65535) (packet_3 ∷ []) (record moment_3.world { clients = opening ∷ [] })

abbrev pub moment_5 : Moment
moment_5 = moment (Deliver 3) (packet_4 ∷ []) (record moment_4.world { node = Some (node_at (Serving 1 (Opens numbers Off ∷ []))) })

abbrev pub moment_6 : Moment
moment_6 = moment (Deliver 4) (packet_5 ∷ []) (record moment_5.world { log = log_with (opened_entry ∷ []) })

abbrev pub moment_7 : Moment
moment_7 = moment (Deliver 5) (packet_6 ∷ []) (record moment_6.world { node = Some (node_live begun_point) })

abbrev pub moment_8 : Moment
moment_8 = moment (Deliver 6) [] (record moment_7.world { clients = open_client ∷ [] })

abbrev pub moment_9 : Moment
moment_9 = moment (Ack 1 65535) (packet_7 ∷ []) moment_8.world

abbrev pub moment_10 : Moment
moment_10 = moment (Deliver 7) [] (record moment_9.world { node = Some (node_live open_point) })

abbrev pub moment_11 : Moment
moment_11 = moment (Send 1 0 8) (asking ∷ []) (record moment_10.world { clients = reported_client ∷ [] })

abbrev pub moment_12 : Moment
moment_12 = moment (Deliver 8) (packet_9 ∷ copy ∷ read ∷ []) (record moment_11.world { node = Some (node_live asked_point) })

abbrev pub moment_13 : Moment
moment_13 = moment (Deliver 10) (stable ∷ []) (record moment_12.world { log = log_with (filled_entry ∷ []) })

abbrev pub moment_14 : Moment
moment_14 = moment (Deliver 12) (to_client 16 5001 1009 65535 None [] ∷ []) (record moment_13.world { node = Some (node_live logged_point) })

abbrev pub moment_15 : Moment
moment_15 = moment (Deliver 11) (reads ∷ []) (record moment_14.world { log = log_with (read_entry ∷ []) })

-- all output is released, and four segments are sent
abbrev pub moment_16 : Moment
moment_16 = moment (Deliver 14) (text 0 536 ∷ text 536 536 ∷ text 1072 536 ∷ text 1608 536 ∷ []) (record moment_15.world { node = Some (node_live full_point) })

-- the first of them arrives, and is acknowledged
abbrev pub moment_17 : Moment
moment_17 = moment (Deliver 15) [] (record moment_16.world { clients = served_client ∷ [] })

abbrev pub moment_18 : Moment
moment_18 = moment (Ack 1 65535) (acknowledgement ∷ []) (record moment_17.world { clients = acknowledging_client ∷ [] })

-- so it has left the network and the window is a segment larger: two more are sent
abbrev pub moment_19 : Moment
moment_19 = moment (Deliver 19) (text 2144 536 ∷ text 2680 536 ∷ to_log 1 (DataMsg (part_with 8 536 false [])) ∷ [])
    (record moment_18.world { node = Some (node_live grown_point) })

-- the second one is lost, and the client acknowledges the first one again at each of the next three
abbrev pub moment_20 : Moment
moment_20 = moment (Ack 1 65535) (acknowledgement ∷ []) moment_19.world

abbrev pub moment_21 : Moment
moment_21 = moment (Ack 1 65535) (acknowledgement ∷ []) moment_20.world

abbrev pub moment_22 : Moment
moment_22 = moment (Ack 1 65535) (acknowledgement ∷ []) moment_21.world

abbrev pub moment_23 : Moment
moment_23 = moment (Deliver 23) [] (record moment_22.world { node = Some (node_live (repeated 1)) })

abbrev pub moment_24 : Moment
moment_24 = moment (Deliver 24) [] (record moment_23.world { node = Some (node_live (repeated 2)) })

-- at the third duplicate it is retransmitted, and then what the window has room for is sent
abbrev pub moment_25 : Moment
moment_25 = moment (Deliver 25) (text 536 536 ∷ text 3216 268 ∷ []) (record moment_24.world { node = Some (node_live recovering_point) })

-- the whole trace, newest moment first
abbrev pub trace : List Moment
trace =
    moment_25 ∷ moment_24 ∷ moment_23 ∷ moment_22 ∷ moment_21 ∷ moment_20 ∷ moment_19 ∷ moment_18 ∷ moment_17 ∷ moment_16 ∷ moment_15 ∷ moment_14 ∷ moment_13
    ∷ moment_12 ∷ moment_11 ∷ moment_10 ∷ moment_9 ∷ moment_8 ∷ moment_7 ∷ moment_6 ∷ moment_5 ∷ moment_4 ∷ moment_3 ∷ moment_2 ∷ moment_1 ∷ []

-- Wrong turns. When all output is released: a fifth segment is sent, past the window
abbrev pub past_the_window : List Packet
past_the_window = text 0 536 ∷ text 536 536 ∷ text 1072 536 ∷ text 1608 536 ∷ text 2144 536 ∷ []

-- at the second duplicate: the segment is retransmitted already
abbrev pub one_too_early : List Packet
one_too_early = text 536 536 ∷ []

-- at the third: it isn't retransmitted, but what the window has room for is sent
abbrev pub never_again : List Packet
never_again = text 3216 268 ∷ []

-- the inputs of those turns
abbrev pub requests_are_logged : Input
requests_are_logged = Message_comes (record { boot = 1; body = StableMsg (kept_with 8 false 0) })

abbrev pub read_is_logged : Input
read_is_logged = Message_comes (record { boot = 1; body = ReadsMsg (kept_with 8 false 1) })

abbrev pub acknowledgement_comes : Input
acknowledgement_comes = Packet_comes (client_segment 16 1009 5537 65535 [])

-- no lawful turn from this state, by this input, sends these packets
abbrev pub IsUnlawful : Node → Input → List Packet → Type 0
IsUnlawful before input sent = (after : Node) → LawfulTurn transfer before input sent after → ⊥

-- a line of the report that ends with bytes of the pattern
abbrev pub with_pattern : List ℕ → (place size : ℕ) → List ℕ
with_pattern words place size = words ++ (hex_text (pattern place size) ++ codes "\n")

-- the report of the trace, line by line
abbrev pub report_lines : List (List ℕ)
report_lines =
    codes "ftreplay 1\n"
    ∷ codes "service transfer\n"
    ∷ codes "server 192.0.2.100:7\n"
    ∷ codes "client 1 192.0.2.1:40000 1000 hex:000007ff000007ff\n"
    ∷ codes "event 1 boot 1 5000\n"
    ∷ codes "packet 1 S>L Hello boot 1\n"
    ∷ codes "event 2 deliver 1\n"
    ∷ codes "packet 2 L>S Summary boot 1 count 0\n"
    ∷ codes "event 3 deliver 2\n"
    ∷ codes "event 4 open 1 65535\n"
    ∷ codes "packet 3 1>S S seq 1000 ack 0 window 65535 mss - data -\n"
    ∷ codes "event 5 deliver 3\n"
    ∷ codes "packet 4 S>L Open boot 1 key 192.0.2.1:40000 cisn 1000 sisn 5000 mss 536\n"
    ∷ codes "event 6 deliver 4\n"
    ∷ codes "packet 5 L>S Opened boot 1 key 192.0.2.1:40000 cisn 1000 sisn 5000 mss 536\n"
    ∷ codes "event 7 deliver 5\n"
    ∷ codes "packet 6 S>1 AS seq 5000 ack 1001 window 65535 mss 1460 data -\n"
    ∷ codes "event 8 deliver 6\n"
    ∷ codes "event 9 ack 1 65535\n"
    ∷ codes "packet 7 1>S A seq 1001 ack 5001 window 65535 mss - data -\n"
    ∷ codes "event 10 deliver 7\n"
    ∷ codes "event 11 send 1 0 8\n"
    ∷ codes "packet 8 1>S A seq 1001 ack 5001 window 65535 mss - data 000007ff000007ff\n"
    ∷ codes "event 12 deliver 8\n"
    ∷ codes "packet 9 S>1 A seq 5001 ack 1001 window 65535 mss - data -\n"
    ∷ codes "packet 10 S>L Data boot 1 key 192.0.2.1:40000 offset 0 acked 0 fin 0 bytes 000007ff000007ff\n"
    ∷ codes "packet 11 S>L Read boot 1 key 192.0.2.1:40000 index 0 length 8\n"
    ∷ codes "event 13 deliver 10\n"
    ∷ codes "packet 12 L>S Stable boot 1 key 192.0.2.1:40000 length 8 fin 0 reads 0\n"
    ∷ codes "event 14 deliver 12\n"
    ∷ codes "packet 13 S>1 A seq 5001 ack 1009 window 65535 mss - data -\n"
    ∷ codes "event 15 deliver 11\n"
    ∷ codes "packet 14 L>S Reads boot 1 key 192.0.2.1:40000 length 8 fin 0 reads 1\n"
    ∷ codes "event 16 deliver 14\n"
    ∷ with_pattern (codes "packet 15 S>1 A seq 5001 ack 1009 window 65535 mss - data ") 0 536
    ∷ with_pattern (codes "packet 16 S>1 A seq 5537 ack 1009 window 65535 mss - data ") 536 536
    ∷ with_pattern (codes "packet 17 S>1 A seq 6073 ack 1009 window 65535 mss - data ") 1072 536
    ∷ with_pattern (codes "packet 18 S>1 A seq 6609 ack 1009 window 65535 mss - data ") 1608 536
    ∷ codes "event 17 deliver 15\n"
    ∷ codes "event 18 ack 1 65535\n"
    ∷ codes "packet 19 1>S A seq 1009 ack 5537 window 65535 mss - data -\n"
    ∷ codes "event 19 deliver 19\n"
    ∷ with_pattern (codes "packet 20 S>1 A seq 7145 ack 1009 window 65535 mss - data ") 2144 536
    ∷ with_pattern (codes "packet 21 S>1 A seq 7681 ack 1009 window 65535 mss - data ") 2680 536
    ∷ codes "packet 22 S>L Data boot 1 key 192.0.2.1:40000 offset 8 acked 536 fin 0 bytes -\n"
    ∷ codes "event 20 ack 1 65535\n"
    ∷ codes "packet 23 1>S A seq 1009 ack 5537 window 65535 mss - data -\n"
    ∷ codes "event 21 ack 1 65535\n"
    ∷ codes "packet 24 1>S A seq 1009 ack 5537 window 65535 mss - data -\n"
    ∷ codes "event 22 ack 1 65535\n"
    ∷ codes "packet 25 1>S A seq 1009 ack 5537 window 65535 mss - data -\n"
    ∷ codes "event 23 deliver 23\n"
    ∷ codes "event 24 deliver 24\n"
    ∷ codes "event 25 deliver 25\n"
    ∷ with_pattern (codes "packet 26 S>1 A seq 5537 ack 1009 window 65535 mss - data ") 536 536
    ∷ with_pattern (codes "packet 27 S>1 A seq 8217 ack 1009 window 65535 mss - data ") 3216 268
    ∷ with_pattern (codes "client 1 open accepted 536 ") 0 536
    ∷ codes "log 192.0.2.1:40000 length 8 fin 0 acked 0 done 0 reads 8\n"
    ∷ codes "end 25\n"
    ∷ []
