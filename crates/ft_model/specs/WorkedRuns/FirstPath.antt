-- The first path: a client opens, sends five bytes, and gets them back after they are logged. Seventeen events, fifteen packets.
use Rattle.std.specs.Prelude.{true, false, Some, None, List, [], ◌∷◌, ◌++◌}
use Rattle.tcp_rules.specs.declared.timestamping.Timestamping.TheVariants.{Off}
use Rattle.tcp_rules.specs.Profile.{plain}
use Rattle.seq_arith.specs.Message.Body.{HelloMsg, SummaryMsg, OpenMsg, OpenedMsg, DataMsg, StableMsg, ReadMsg, ReadsMsg}
use Rattle.ft_model.specs.Client.{Client}
use Rattle.ft_model.specs.Log.{Log, Entry, new_entry}
use Rattle.ft_model.specs.Point.{Point}
use Rattle.ft_model.specs.Opening.{point_opened}
use Rattle.ft_model.specs.Node.{Node, Stage, Input, booted}
use Rattle.ft_model.specs.Node.Input.{Packet_comes, Message_comes}
use Rattle.ft_model.specs.Node.Place.{Opens, Lives}
use Rattle.ft_model.specs.Node.Stage.{Serving}
use Rattle.ft_model.specs.Network.{Packet}
use Rattle.ft_model.specs.World.{World, Moment}
use Rattle.ft_model.specs.declared.event.Event.{Event}
use Rattle.ft_model.specs.declared.event.Event.TheVariants.{Boot, Deliver, Begin, Send, Ack}
use Rattle.ft_model.specs.declared.phase.Phase.TheVariants.{Opening, Established}
use Rattle.ft_model.specs.WorkedRuns.Common.{server, key, hello_text, client_with, start_with, client_segment, from_client, to_client, to_log}
use Rattle.ft_model.specs.WorkedRuns.Common.{from_log, numbers, kept_with, part_with}

abbrev pub start : World
start = start_with hello_text

-- a moment in which these packets are sent and the rest of the world is as given
abbrev pub moment : Event → List Packet → World → Moment
moment event sent world = record { event = event; sent = sent; world = record world { packets = world.packets ++ sent } }

-- the packets, numbered in the order in which they are sent
abbrev pub packet_1 : Packet
packet_1 = to_log 1 HelloMsg

abbrev pub packet_2 : Packet
packet_2 = from_log 1 (SummaryMsg 0)

abbrev pub packet_3 : Packet
packet_3 = from_client 2 1000 0 65535 []

abbrev pub packet_4 : Packet
packet_4 = to_log 1 (OpenMsg numbers)

abbrev pub packet_5 : Packet
packet_5 = from_log 1 (OpenedMsg numbers)

abbrev pub packet_6 : Packet
packet_6 = to_client 18 5000 1001 65535 (Some 1460) []

abbrev pub packet_7 : Packet
packet_7 = from_client 16 1001 5001 65535 []

abbrev pub packet_8 : Packet
packet_8 = from_client 16 1001 5001 65535 hello_text

abbrev pub packet_9 : Packet
packet_9 = to_client 16 5001 1001 65535 None []

abbrev pub packet_10 : Packet
packet_10 = to_log 1 (DataMsg (part_with 0 0 false hello_text))

abbrev pub packet_11 : Packet
packet_11 = to_log 1 (ReadMsg key 0 5)

abbrev pub packet_12 : Packet
packet_12 = from_log 1 (StableMsg (kept_with 5 false 0))

abbrev pub packet_13 : Packet
packet_13 = to_client 16 5001 1006 65535 None []

abbrev pub packet_14 : Packet
packet_14 = from_log 1 (ReadsMsg (kept_with 5 false 1))

abbrev pub packet_15 : Packet
packet_15 = to_client 16 5001 1006 65535 None hello_text

-- the client after its SYN, after the SYN-ACK, after its text, and after the echo
abbrev pub opening : Client
opening = record (client_with hello_text) { phase = Opening; edge = 65535 }

abbrev pub open_client : Client
open_client = record opening { phase = Established; sisn = 5000 }

abbrev pub reported_client : Client
reported_client = record open_client { sent = 5 }

abbrev pub served_client : Client
served_client = record reported_client { acknowledged = 5; accepted = hello_text }

-- the log's entry when it is opened, when it has the bytes, and when it has the read
abbrev pub opened_entry : Entry
opened_entry = new_entry numbers

abbrev pub filled_entry : Entry
filled_entry = record opened_entry { bytes = hello_text }

abbrev pub read_entry : Entry
read_entry = record filled_entry { lengths = 5 ∷ [] }

abbrev pub log_with : List Entry → Log
log_with entries = record { boot = 1; entries = entries }

-- the connection when it begins, when the SYN is acknowledged, when the text is taken and read, when it is logged, and when the read is
abbrev pub begun_point : Point
begun_point = record (point_opened plain Off numbers) { rest = 1 }

abbrev pub open_point : Point
open_point = record begun_point { syn_acked = true; edge = 65535; rest = 0 }

abbrev pub taken_point : Point
taken_point = record open_point { taken = hello_text; lengths = 5 ∷ [] }

abbrev pub logged_point : Point
logged_point = record taken_point { answered = 5 }

abbrev pub released_point : Point
released_point = record logged_point { reads_answered = 1; sent = 5; rest = 1 }

abbrev pub node_at : Stage → Node
node_at stage = record (booted server plain 1 5000) { stage = stage }

abbrev pub node_live : Point → Node
node_live p = node_at (Serving 1 (Lives p ∷ []))

abbrev pub moment_1 : Moment
moment_1 = moment (Boot 1 5000) (packet_1 ∷ []) (record start { boot = 1; node = Some (booted server plain 1 5000) })

abbrev pub moment_2 : Moment
moment_2 = moment (Deliver 1) (packet_2 ∷ []) (record moment_1.world { log = log_with [] })

abbrev pub moment_3 : Moment
moment_3 = moment (Deliver 2) [] (record moment_2.world { node = Some (node_at (Serving 0 [])) })

abbrev pub moment_4 : Moment
moment_4 = moment (Begin 1 65535) (packet_3 ∷ []) (record moment_3.world { clients = opening ∷ [] })

abbrev pub moment_5 : Moment
moment_5 = moment (Deliver 3) (packet_4 ∷ []) (record moment_4.world { node = Some (node_at (Serving 1 (Opens numbers Off ∷ []))) })

abbrev pub moment_6 : Moment
moment_6 = moment (Deliver 4) (packet_5 ∷ []) (record moment_5.world { log = log_with (opened_entry ∷ []) })

abbrev pub moment_7 : Moment
moment_7 = moment (Deliver 5) (packet_6 ∷ []) (record moment_6.world { node = Some (node_live begun_point) })

abbrev pub moment_8 : Moment
moment_8 = moment (Deliver 6) [] (record moment_7.world { clients = open_client ∷ [] })

abbrev pub moment_9 : Moment
moment_9 = moment (Ack 1 65535) (packet_7 ∷ []) moment_8.world

abbrev pub moment_10 : Moment
moment_10 = moment (Deliver 7) [] (record moment_9.world { node = Some (node_live open_point) })

abbrev pub moment_11 : Moment
moment_11 = moment (Send 1 0 5) (packet_8 ∷ []) (record moment_10.world { clients = reported_client ∷ [] })

-- before the text is logged, the acknowledgement doesn't move
abbrev pub moment_12 : Moment
moment_12 = moment (Deliver 8) (packet_9 ∷ packet_10 ∷ packet_11 ∷ []) (record moment_11.world { node = Some (node_live taken_point) })

abbrev pub moment_13 : Moment
moment_13 = moment (Deliver 10) (packet_12 ∷ []) (record moment_12.world { log = log_with (filled_entry ∷ []) })

-- in the turn of Stable it is acknowledged
abbrev pub moment_14 : Moment
moment_14 = moment (Deliver 12) (packet_13 ∷ []) (record moment_13.world { node = Some (node_live logged_point) })

abbrev pub moment_15 : Moment
moment_15 = moment (Deliver 11) (packet_14 ∷ []) (record moment_14.world { log = log_with (read_entry ∷ []) })

-- and in the turn of Reads the output is sent
abbrev pub moment_16 : Moment
moment_16 = moment (Deliver 14) (packet_15 ∷ []) (record moment_15.world { node = Some (node_live released_point) })

abbrev pub moment_17 : Moment
moment_17 = moment (Deliver 15) [] (record moment_16.world { clients = served_client ∷ [] })

-- the trace up to the open connection, and the whole one, newest moment first
abbrev pub opening_trace : List Moment
opening_trace = moment_10 ∷ moment_9 ∷ moment_8 ∷ moment_7 ∷ moment_6 ∷ moment_5 ∷ moment_4 ∷ moment_3 ∷ moment_2 ∷ moment_1 ∷ []

abbrev pub trace : List Moment
trace = moment_17 ∷ moment_16 ∷ moment_15 ∷ moment_14 ∷ moment_13 ∷ moment_12 ∷ moment_11 ∷ opening_trace

-- Wrong turns. In the turn of the text: the Data is left out, ..
abbrev pub without_copy : List Packet
without_copy = packet_9 ∷ packet_11 ∷ []

-- .. one unit is acknowledged that isn't logged yet, ..
abbrev pub one_too_high : List Packet
one_too_high = to_client 16 5001 1002 65535 None [] ∷ packet_10 ∷ packet_11 ∷ []

-- .. all that TCP took is acknowledged, ..
abbrev pub passed_on : List Packet
passed_on = to_client 16 5001 1006 65535 None [] ∷ packet_10 ∷ packet_11 ∷ []

-- .. the Read is sent before the Data, ..
abbrev pub read_first : List Packet
read_first = packet_9 ∷ packet_11 ∷ packet_10 ∷ []

-- .. the Read has the next index, ..
abbrev pub one_index_off : List Packet
one_index_off = packet_9 ∷ packet_10 ∷ to_log 1 (ReadMsg key 1 5) ∷ []

-- .. or the output is sent before its read is logged
abbrev pub released_early : List Packet
released_early = to_client 16 5001 1001 65535 None hello_text ∷ packet_10 ∷ packet_11 ∷ []

-- the inputs of the SYN, of the text and of its Stable
abbrev pub syn_comes : Input
syn_comes = Packet_comes (client_segment 2 1000 0 65535 [])

abbrev pub text_comes : Input
text_comes = Packet_comes (client_segment 16 1001 5001 65535 hello_text)

abbrev pub stable_comes : Input
stable_comes = Message_comes (record { boot = 1; body = StableMsg (kept_with 5 false 0) })

-- the connection when the text was read in two pieces, and the Reads that a tick retransmits; out of order is wrong
abbrev pub twice_read_point : Point
twice_read_point = record taken_point { lengths = 2 ∷ 3 ∷ [] }

abbrev pub reads_again : List Packet
reads_again = to_log 1 (ReadMsg key 0 2) ∷ to_log 1 (ReadMsg key 1 3) ∷ []

abbrev pub reads_turned : List Packet
reads_turned = to_log 1 (ReadMsg key 1 3) ∷ to_log 1 (ReadMsg key 0 2) ∷ []
