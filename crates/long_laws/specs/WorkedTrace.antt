-- A worked run: two clients, one after the other, at one address and port. The first connection is opened and closed, and is in quarantine for two ticks. Then
-- its entry is recycled, the second client arrives and sends its SYN, and once the server has forgotten the key this SYN opens a connection with other initial
-- sequence numbers. It stays half-open: the server sends a keep-alive, gets no answer, and lets go of the client.
use Rattle.tcp_rules.specs.declared.timestamping.Timestamping.TheVariants.{Off}
use Rattle.std.specs.Prelude.{ℕ, true, Some, None, List, [], ◌∷◌, ◌++◌, map}
use Rattle.tcp_rules.specs.Profile.{plain}
use Rattle.seq_arith.specs.Packet.{Segment}
use Rattle.seq_arith.specs.Message.{Numbers, Message}
use Rattle.seq_arith.specs.Message.Body.{HelloMsg, SummaryMsg, OpenMsg, OpenedMsg, DataMsg, StableMsg, ReadsMsg, DoneMsg, EndedMsg}
use Rattle.ft_model.specs.Client.{Client, new_client}
use Rattle.ft_model.specs.Client.ClientKind.{Scripted}
use Rattle.ft_model.specs.Log.{Entry, new_entry}
use Rattle.ft_model.specs.Network.{Packet}
use Rattle.ft_model.specs.Network.Packet.{To_server}
use Rattle.ft_model.specs.Node.{Node, Place, booted}
use Rattle.ft_model.specs.Node.Place.{Opens, Lives, Ended}
use Rattle.ft_model.specs.Node.Stage.{Serving}
use Rattle.ft_model.specs.Opening.{point_opened}
use Rattle.ft_model.specs.Point.{Point}
use Rattle.ft_model.specs.World.{World, Moment}
use Rattle.ft_model.specs.WorkedRuns.Common.{server, key, client_with, start_with, client_segment, to_client, to_log, from_log, numbers, kept_with}
use Rattle.ft_model.specs.WorkedRuns.Common.{part_with, idle, opening_at, serving_at}
use Rattle.ft_model.specs.WorkedRuns.Closing as closing
use Rattle.ft_model.specs.WorkedRuns.FirstPath.{moment, log_with, opened_entry}
use Rattle.ft_model.specs.declared.event.Event.TheVariants.{Boot, Tick, Deliver, Begin, Fin, Ack}
use Rattle.ft_model.specs.declared.phase.Phase.TheVariants.{Opening, Established, Ended as Over}
use Rattle.long_laws.specs.Forgetting.{Named, ForgetMessage, forget, forgotten_message}
use Rattle.long_laws.specs.LongTrace.{LongMoment, LongStep, Gone, as_long, recycled, forgotten, with_new}
use Rattle.long_laws.specs.LongTrace.LongStep.{Joint_event, Recycles, Forgets, Arrives, Lets_go, Keeps_alive}

-- the first client, which sends a FIN and no bytes: at first, after its SYN, after the SYN-ACK, after its FIN, and after the server's
abbrev pub start : World
start = start_with []

abbrev pub opening : Client
opening = record (client_with []) { phase = Opening; edge = 65535 }

abbrev pub open_client : Client
open_client = record opening { phase = Established; sisn = 5000 }

abbrev pub closing_client : Client
closing_client = record open_client { sent = 1 }

abbrev pub ended_client : Client
ended_client = record closing_client { acknowledged = 1; phase = Over }

-- its entry when it has the FIN, the closing read, the acknowledgement of the server's FIN, and when it is done
abbrev pub fin_entry : Entry
fin_entry = record opened_entry { fin = true }

abbrev pub read_entry : Entry
read_entry = record fin_entry { lengths = 0 ∷ [] }

abbrev pub acknowledged_entry : Entry
acknowledged_entry = record read_entry { acknowledged = 1 }

abbrev pub done_entry : Entry
done_entry = record acknowledged_entry { done = true }

-- its connection at the end ticks
abbrev pub ticked : ℕ → Point
ticked n = record closing.over { end_ticks = n }

abbrev pub serving : ℕ → List Place → Node
serving opened places = record (booted server plain 1 5000) { stage = Serving opened places }

abbrev pub moment_1 : Moment
moment_1 = moment (Boot 1 5000) (to_log 1 HelloMsg ∷ []) (record start { boot = 1; node = Some (booted server plain 1 5000) })

abbrev pub moment_2 : Moment
moment_2 = moment (Deliver 1) (from_log 1 (SummaryMsg 0) ∷ []) (record moment_1.world { log = log_with [] })

abbrev pub moment_3 : Moment
moment_3 = moment (Deliver 2) [] (record moment_2.world { node = Some (idle 1 5000) })

abbrev pub moment_4 : Moment
moment_4 = moment (Begin 1 65535) (To_server closing.syn ∷ []) (record moment_3.world { clients = opening ∷ [] })

abbrev pub moment_5 : Moment
moment_5 = moment (Deliver 3) closing.first_2.sent (record moment_4.world { node = Some (opening_at 1 5000) })

abbrev pub moment_6 : Moment
moment_6 = moment (Deliver 4) (from_log 1 (OpenedMsg numbers) ∷ []) (record moment_5.world { log = log_with (opened_entry ∷ []) })

abbrev pub moment_7 : Moment
moment_7 = moment (Deliver 5) closing.first_3.sent (record moment_6.world { node = Some (serving_at 1 5000 closing.begun) })

abbrev pub moment_8 : Moment
moment_8 = moment (Deliver 6) [] (record moment_7.world { clients = open_client ∷ [] })

abbrev pub moment_9 : Moment
moment_9 = moment (Ack 1 65535) (To_server closing.first_ack ∷ []) moment_8.world

abbrev pub moment_10 : Moment
moment_10 = moment (Deliver 7) [] (record moment_9.world { node = Some (serving_at 1 5000 closing.opened) })

abbrev pub moment_11 : Moment
moment_11 = moment (Fin 1) (To_server closing.fin ∷ []) (record moment_10.world { clients = closing_client ∷ [] })

abbrev pub moment_12 : Moment
moment_12 = moment (Deliver 8) closing.first_5.sent (record moment_11.world { node = Some (serving_at 1 5000 closing.taken) })

abbrev pub moment_13 : Moment
moment_13 = moment (Deliver 10) (from_log 1 (StableMsg (kept_with 0 true 0)) ∷ []) (record moment_12.world { log = log_with (fin_entry ∷ []) })

abbrev pub moment_14 : Moment
moment_14 = moment (Deliver 12) closing.first_6.sent (record moment_13.world { node = Some (serving_at 1 5000 closing.logged) })

abbrev pub moment_15 : Moment
moment_15 = moment (Deliver 11) (from_log 1 (ReadsMsg (kept_with 0 true 1)) ∷ []) (record moment_14.world { log = log_with (read_entry ∷ []) })

-- the server's FIN
abbrev pub moment_16 : Moment
moment_16 = moment (Deliver 14) closing.first_7.sent (record moment_15.world { node = Some (serving_at 1 5000 closing.closed) })

abbrev pub moment_17 : Moment
moment_17 = moment (Deliver 15) [] (record moment_16.world { clients = ended_client ∷ [] })

abbrev pub moment_18 : Moment
moment_18 = moment (Ack 1 65535) (To_server closing.last_ack ∷ []) moment_17.world

abbrev pub moment_19 : Moment
moment_19 = moment (Deliver 16) closing.first_8.sent (record moment_18.world { node = Some (serving_at 1 5000 closing.over) })

abbrev pub moment_20 : Moment
moment_20 = moment (Deliver 17) (from_log 1 (StableMsg (kept_with 0 true 1)) ∷ []) (record moment_19.world { log = log_with (acknowledged_entry ∷ []) })

abbrev pub moment_21 : Moment
moment_21 = moment (Deliver 18) [] moment_20.world

-- four end ticks: at the fourth, Done is sent
abbrev pub moment_22 : Moment
moment_22 = moment Tick [] (record moment_21.world { node = Some (serving_at 1 5000 (ticked 1)) })

abbrev pub moment_23 : Moment
moment_23 = moment Tick [] (record moment_22.world { node = Some (serving_at 1 5000 (ticked 2)) })

abbrev pub moment_24 : Moment
moment_24 = moment Tick [] (record moment_23.world { node = Some (serving_at 1 5000 (ticked 3)) })

abbrev pub moment_25 : Moment
moment_25 = moment Tick (to_log 1 (DoneMsg key) ∷ []) (record moment_24.world { node = Some (serving_at 1 5000 (ticked 4)) })

abbrev pub moment_26 : Moment
moment_26 = moment (Deliver 19) (from_log 1 (EndedMsg key) ∷ []) (record moment_25.world { log = log_with (done_entry ∷ []) })

abbrev pub moment_27 : Moment
moment_27 = moment (Deliver 20) [] (record moment_26.world { node = Some (serving 1 (Ended key ∷ [])) })

-- the quarantine
abbrev pub moment_28 : Moment
moment_28 = moment Tick [] moment_27.world

abbrev pub moment_29 : Moment
moment_29 = moment Tick [] moment_28.world

-- the first client's life, newest moment first: a joint trace
abbrev pub first_life : List Moment
first_life =
    moment_29 ∷ moment_28 ∷ moment_27 ∷ moment_26 ∷ moment_25 ∷ moment_24 ∷ moment_23 ∷ moment_22 ∷ moment_21 ∷ moment_20 ∷ moment_19 ∷ moment_18 ∷ moment_17
    ∷ moment_16 ∷ moment_15 ∷ moment_14 ∷ moment_13 ∷ moment_12 ∷ moment_11 ∷ moment_10 ∷ moment_9 ∷ moment_8 ∷ moment_7 ∷ moment_6 ∷ moment_5 ∷ moment_4
    ∷ moment_3 ∷ moment_2 ∷ moment_1 ∷ []

-- what is then left of the first client: its state, and the closing read of its entry
abbrev pub first_gone : Gone
first_gone = record { client = ended_client; lengths = 0 ∷ [] }

-- its connection, by its numbers; the Forget about it, and the answer
abbrev pub first_named : Named
first_named = record { key = key; cisn = 1000; sisn = 5000 }

abbrev pub first_forget : ForgetMessage
first_forget = forget 1 first_named

abbrev pub first_forgotten : ForgetMessage
first_forgotten = forgotten_message 1 first_named

-- the second client, with the first one's address and port and another number: at first, and after its SYN
abbrev pub second_client : Client
second_client = new_client Scripted server key 9000 []

abbrev pub second_opening : Client
second_opening = record second_client { phase = Opening; edge = 65535 }

abbrev pub second_syn : Segment
second_syn = client_segment 2 9000 0 65535 []

-- the numbers of its connection, its entry, and its connection when it begins
abbrev pub second_numbers : Numbers
second_numbers = record { key = key; cisn = 9000; sisn = 70536; mss = 536 }

abbrev pub second_entry : Entry
second_entry = new_entry second_numbers

abbrev pub second_begun : Point
second_begun = record (point_opened plain Off second_numbers) { rest = 1 }

-- a moment after the first client is gone, in which these packets are sent and the rest of the world is as given
abbrev pub later : LongStep → List Packet → World → LongMoment
later step sent world = record { step = step; sent = sent; world = record { now = record world { packets = world.packets ++ sent }; past = first_gone ∷ [] } }

abbrev pub moment_30 : LongMoment
moment_30 = later (Recycles key) [] (recycled key moment_29.world)

abbrev pub moment_31 : LongMoment
moment_31 = later (Arrives second_client) [] (with_new second_client moment_30.world.now)

abbrev pub moment_32 : LongMoment
moment_32 = later (Joint_event (Begin 1 65535)) (To_server second_syn ∷ []) (record moment_31.world.now { clients = second_opening ∷ [] })

abbrev pub moment_33 : LongMoment
moment_33 = later (Forgets key) [] (forgotten key moment_32.world.now)

-- of the first life only Hello and Summary are still under way, so the SYN is packet 3 again
abbrev pub moment_34 : LongMoment
moment_34 = later (Joint_event (Deliver 3)) (to_log 1 (OpenMsg second_numbers) ∷ [])
    (record moment_33.world.now { node = Some (serving 2 (Opens second_numbers Off ∷ [])) })

abbrev pub moment_35 : LongMoment
moment_35 = later (Joint_event (Deliver 4)) (from_log 1 (OpenedMsg second_numbers) ∷ []) (record moment_34.world.now { log = log_with (second_entry ∷ []) })

abbrev pub moment_36 : LongMoment
moment_36 =
    later (Joint_event (Deliver 5)) (to_client 18 70536 9001 65535 (Some 1460) [] ∷ [])
    (record moment_35.world.now { node = Some (serving 2 (Lives second_begun ∷ [])) })

-- up to the SYN-ACK of the second connection, newest moment first
abbrev pub trace : List LongMoment
trace = moment_36 ∷ moment_35 ∷ moment_34 ∷ moment_33 ∷ moment_32 ∷ moment_31 ∷ moment_30 ∷ map as_long first_life

-- the keep-alive, at the number of the SYN-ACK
abbrev pub moment_37 : LongMoment
moment_37 = later (Keeps_alive key) (to_client 16 70536 9001 65535 None [] ∷ []) moment_36.world.now

-- the connection is reset as by a RST of the client, and reported as done
abbrev pub let_go_point : Point
let_go_point = record second_begun { reset = true }

abbrev pub moment_38 : LongMoment
moment_38 = later (Lets_go key) (to_log 1 (DoneMsg key) ∷ []) (record moment_37.world.now { node = Some (serving 2 (Lives let_go_point ∷ [])) })

-- and the whole run
abbrev pub silent_trace : List LongMoment
silent_trace = moment_38 ∷ moment_37 ∷ trace

-- What the premise is needed for: the Data with the first client's FIN, and the entry of the second client if this Data came late
abbrev pub late_data : Message
late_data = record { boot = 1; body = DataMsg (part_with 0 0 true []) }

abbrev pub spoilt_entry : Entry
spoilt_entry = record second_entry { fin = true }

-- Worlds in which a step is refused for one reason. The server is down, and the entry isn't done: it may not be recycled
abbrev pub not_done : World
not_done = record moment_25.world { node = None }

-- nothing is under way, and the log still has the entry: its key may not be forgotten
abbrev pub still_logged : World
still_logged = record moment_29.world { packets = [] }

-- the entry is recycled, and the first client's last ACK isn't lost: the second client may not arrive
abbrev pub still_under_way : World
still_under_way = record moment_30.world.now { packets = moment_30.world.now.packets ++ To_server closing.last_ack ∷ [] }
