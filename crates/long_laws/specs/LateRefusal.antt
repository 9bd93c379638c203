-- A late refusal: a live client refuses a wrong acknowledgement of its SYN by a RST, and opens after all. When the RST comes, its number is exactly the next
-- one: it ends the connection, which its client believes open. Fifteen events.
use Rattle.tcp_rules.specs.declared.timestamping.Timestamping.TheVariants.{Off}
use Rattle.std.specs.Prelude.{true, Some, List, [], ◌∷◌}
use Rattle.tcp_rules.specs.Profile.{plain}
use Rattle.seq_arith.specs.Message.Body.{DoneMsg, EndedMsg}
use Rattle.ft_model.specs.Client.{Client}
use Rattle.ft_model.specs.Client.ClientKind.{Live}
use Rattle.ft_model.specs.Log.{Entry}
use Rattle.ft_model.specs.Network.{Packet}
use Rattle.ft_model.specs.Node.{booted}
use Rattle.ft_model.specs.Node.Place.{Opens}
use Rattle.ft_model.specs.Node.Stage.{Serving}
use Rattle.ft_model.specs.Point.{Point}
use Rattle.ft_model.specs.World.{World, Moment}
use Rattle.ft_model.specs.declared.event.Event.TheVariants.{Boot, Deliver, Begin, Send, Ack}
use Rattle.ft_model.specs.WorkedRuns.Common.{server, key, hello_text, client_with, start_with, from_client, to_log, from_log, numbers}
use Rattle.ft_model.specs.WorkedRuns.FirstPath.{moment, packet_1, packet_2, packet_3, packet_4, packet_5, packet_6, packet_7, packet_8, packet_9}
use Rattle.ft_model.specs.WorkedRuns.FirstPath.{packet_10, packet_11, opening, open_client, reported_client, opened_entry, log_with, open_point}
use Rattle.ft_model.specs.WorkedRuns.FirstPath.{taken_point, begun_point, node_at, node_live}

abbrev pub live : Client → Client
live client = record client { kind = Live }

abbrev pub start : World
start = record (start_with hello_text) { clients = live (client_with hello_text) ∷ [] }

-- five units past the SYN
abbrev pub refusal : Packet
refusal = from_client 4 1006 0 0 []

abbrev pub done : Packet
done = to_log 1 (DoneMsg key)

abbrev pub ended : Packet
ended = from_log 1 (EndedMsg key)

abbrev pub reset_point : Point
reset_point = record taken_point { reset = true }

abbrev pub done_entry : Entry
done_entry = record opened_entry { done = true }

abbrev pub moment_1 : Moment
moment_1 = moment (Boot 1 5000) (packet_1 ∷ []) (record start { boot = 1; node = Some (booted server plain 1 5000) })

abbrev pub moment_2 : Moment
moment_2 = moment (Deliver 1) (packet_2 ∷ []) (record moment_1.world { log = log_with [] })

abbrev pub moment_3 : Moment
moment_3 = moment (Deliver 2) [] (record moment_2.world { node = Some (node_at (Serving 0 [])) })

abbrev pub moment_4 : Moment
moment_4 = moment (Begin 1 65535) (packet_3 ∷ []) (record moment_3.world { clients = live opening ∷ [] })

abbrev pub moment_5 : Moment
moment_5 = moment (Deliver 3) (packet_4 ∷ []) (record moment_4.world { node = Some (node_at (Serving 1 (Opens numbers Off ∷ []))) })

abbrev pub moment_6 : Moment
moment_6 = moment (Deliver 4) (packet_5 ∷ []) (record moment_5.world { log = log_with (opened_entry ∷ []) })

abbrev pub moment_7 : Moment
moment_7 = moment (Deliver 5) (packet_6 ∷ []) (record moment_6.world { node = Some (node_live begun_point) })

-- the client refuses, and the SYN-ACK comes
abbrev pub moment_8 : Moment
moment_8 = moment (Ack 1 0) (refusal ∷ []) moment_7.world

abbrev pub moment_9 : Moment
moment_9 = moment (Deliver 6) [] (record moment_8.world { clients = live open_client ∷ [] })

abbrev pub moment_10 : Moment
moment_10 = moment (Ack 1 65535) (packet_7 ∷ []) moment_9.world

abbrev pub moment_11 : Moment
moment_11 = moment (Deliver 8) [] (record moment_10.world { node = Some (node_live open_point) })

abbrev pub moment_12 : Moment
moment_12 = moment (Send 1 0 5) (packet_8 ∷ []) (record moment_11.world { clients = live reported_client ∷ [] })

abbrev pub moment_13 : Moment
moment_13 = moment (Deliver 9) (packet_9 ∷ packet_10 ∷ packet_11 ∷ []) (record moment_12.world { node = Some (node_live taken_point) })

-- the RST comes, and then Done
abbrev pub moment_14 : Moment
moment_14 = moment (Deliver 7) (done ∷ []) (record moment_13.world { node = Some (node_live reset_point) })

abbrev pub moment_15 : Moment
moment_15 = moment (Deliver 13) (ended ∷ []) (record moment_14.world { log = log_with (done_entry ∷ []) })

abbrev pub trace : List Moment
trace =
    moment_15 ∷ moment_14 ∷ moment_13 ∷ moment_12 ∷ moment_11 ∷ moment_10 ∷ moment_9 ∷ moment_8 ∷ moment_7 ∷ moment_6 ∷ moment_5 ∷ moment_4 ∷ moment_3
    ∷ moment_2 ∷ moment_1 ∷ []
