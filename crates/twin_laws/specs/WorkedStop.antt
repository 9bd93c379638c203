-- A worked run in which the tail stops. The head has taken a client's Open and forwarded it, and the tail stops before it applies it. At the next tick the
-- server asks again, and the head, which serves alone, answers: the entry was in its log already.
use Rattle.tcp_rules.specs.declared.timestamping.Timestamping.TheVariants.{Off}
use Rattle.std.specs.Prelude.{Some, None, true, List, [], ◌∷◌, ◌++◌}
use Rattle.tcp_rules.specs.Profile.{plain}
use Rattle.tcp_rules.specs.declared.profile.Profile.TheVariants.{Plain}
use Rattle.seq_arith.specs.declared.kinds.Grammar.TheVariants as grammars
use Rattle.seq_arith.specs.Message.Body.{HelloMsg, OpenMsg}
use Rattle.ft_model.specs.Node.{booted}
use Rattle.ft_model.specs.Node.Place.{Opens}
use Rattle.ft_model.specs.Node.Stage.{Serving}
use Rattle.ft_model.specs.WorkedRuns.Common.{server, key, hello_text, numbers}
use Rattle.ft_model.specs.WorkedRuns.FirstPath as path
use Rattle.ft_model.specs.declared.event.Event.{Event}
use Rattle.ft_model.specs.declared.event.Event.TheVariants as events
use Rattle.ft_model.specs.declared.schedule.Schedule.{Schedule}
use Rattle.ft_model.specs.declared.schedule.Script.TheVariants.{Bytes}
use Rattle.ft_model.specs.declared.schedule.ServiceKind.TheVariants.{Echo}
use Rattle.twin_laws.specs.declared.part.Part.TheVariants as parts
use Rattle.twin_laws.specs.Twin.{Request}
use Rattle.twin_laws.specs.Twin.Between.{Forward, Got}
use Rattle.twin_laws.specs.Twin.Comes.{Asks, Reports}
use Rattle.twin_laws.specs.Pair.{head_has, tail_has, stopped_by}
use Rattle.twin_laws.specs.TwinLegal.{twin_start}
use Rattle.twin_laws.specs.TwinWorld.{Parcel, TwinWorld, TwinEvent, TwinMoment, request_of}
use Rattle.twin_laws.specs.TwinWorld.Parcel.{Outside, Inside}
use Rattle.twin_laws.specs.TwinWorld.TwinEvent.{Usual, Stop}

abbrev pub schedule : Schedule
schedule = record {
  service = Echo;
  server = server;
  profile = Plain;
  twin = true;
  marks = None;
  lasting = None;
  clients = record { key = key; isn = 1000; script = Bytes hello_text } ∷ [];
  events = events.Boot 1 5000 ∷ events.Deliver 1 ∷ events.Deliver 2 ∷ events.Deliver 3 ∷ events.Deliver 4 ∷ events.Begin 1 65535 ∷ events.Deliver 5
      ∷ events.Deliver 6
      ∷ events.Stop 2 ∷ events.Tick ∷ events.Deliver 8 ∷ events.Deliver 9 ∷ [];
}

abbrev pub hello : Request
hello = request_of grammars.Plain (record { boot = 1; body = HelloMsg })

abbrev pub opening : Request
opening = request_of grammars.Plain (record { boot = 1; body = OpenMsg numbers })

-- a moment in which these parcels are sent and the rest of the world is as given
abbrev pub moment : TwinEvent → List Parcel → TwinWorld → TwinMoment
moment event sent world = record { event = event; sent = sent; world = record world { parcels = world.parcels ++ sent } }

-- the server boots. Its Hello passes the head and the tail, which answers and confirms
abbrev pub moment_1 : TwinMoment
moment_1 = moment (Usual (events.Boot 1 5000)) (Outside path.packet_1 ∷ []) (record (twin_start schedule) {
  boot = 1;
  node = Some (booted server plain 1 5000);
})

abbrev pub moment_2 : TwinMoment
moment_2 = moment (Usual (events.Deliver 1)) (Inside (Forward 1 hello) ∷ []) (record moment_1.world { pair = head_has (Asks hello) moment_1.world.pair })

abbrev pub moment_3 : TwinMoment
moment_3 =
    moment (Usual (events.Deliver 2)) (Outside path.packet_2 ∷ Inside (Got 1) ∷ [])
    (record moment_2.world { pair = tail_has (Reports (Forward 1 hello)) moment_2.world.pair })

abbrev pub moment_4 : TwinMoment
moment_4 = moment (Usual (events.Deliver 3)) [] (record moment_3.world { node = Some (path.node_at (Serving 0 [])) })

abbrev pub moment_5 : TwinMoment
moment_5 = moment (Usual (events.Deliver 4)) [] (record moment_4.world { pair = head_has (Reports (Got 1)) moment_4.world.pair })

-- the client opens, and the head takes and forwards the Open
abbrev pub moment_6 : TwinMoment
moment_6 = moment (Usual (events.Begin 1 65535)) (Outside path.packet_3 ∷ []) (record moment_5.world { clients = path.opening ∷ [] })

abbrev pub moment_7 : TwinMoment
moment_7 = moment (Usual (events.Deliver 5)) (Outside path.packet_4 ∷ [])
    (record moment_6.world { node = Some (path.node_at (Serving 1 (Opens numbers Off ∷ []))) })

abbrev pub moment_8 : TwinMoment
moment_8 = moment (Usual (events.Deliver 6)) (Inside (Forward 2 opening) ∷ []) (record moment_7.world { pair = head_has (Asks opening) moment_7.world.pair })

-- the tail stops
abbrev pub moment_9 : TwinMoment
moment_9 = moment (Stop parts.Tail) [] (record moment_8.world { pair = stopped_by parts.Tail moment_8.world.pair })

-- the server asks again, and the head answers. So the SYN-ACK leaves
abbrev pub moment_10 : TwinMoment
moment_10 = moment (Usual events.Tick) (Outside path.packet_4 ∷ []) moment_9.world

abbrev pub moment_11 : TwinMoment
moment_11 = moment (Usual (events.Deliver 8)) (Outside path.packet_5 ∷ []) (record moment_10.world { pair = head_has (Asks opening) moment_10.world.pair })

abbrev pub moment_12 : TwinMoment
moment_12 = moment (Usual (events.Deliver 9)) (Outside path.packet_6 ∷ []) (record moment_11.world { node = Some (path.node_live path.begun_point) })

-- newest moment first
abbrev pub trace : List TwinMoment
trace = moment_12 ∷ moment_11 ∷ moment_10 ∷ moment_9 ∷ moment_8 ∷ moment_7 ∷ moment_6 ∷ moment_5 ∷ moment_4 ∷ moment_3 ∷ moment_2 ∷ moment_1 ∷ []

-- Made flat, newest event first: the stop is the delivery of the Open that the tail hadn't applied
abbrev pub flat_events : List Event
flat_events =
    events.Deliver 7 ∷ events.Deliver 6 ∷ events.Tick ∷ events.Deliver 4 ∷ events.Deliver 3 ∷ events.Begin 1 65535 ∷ events.Deliver 2 ∷ events.Deliver 1
    ∷ events.Boot 1 5000 ∷ []

-- Wrong: the head answers the Open, though it is paired
abbrev pub answers_itself : List Parcel
answers_itself = Outside path.packet_5 ∷ Inside (Forward 2 opening) ∷ []
