-- A worked run: the first path of an echo service with marks after every read. The client acknowledges the echo, so the connection is quiet and its mark is
-- sent. The server crashes, and the next incarnation begins at the mark: it fetches neither the bytes nor the read.
use Rattle.std.specs.Prelude.{ℕ, Bool, true, false, pos, Option, Some, None, option_map, List, [], ◌∷◌, ◌++◌, map, if◌then◌else◌}
use Rattle.ft_io.specs.Key.{key_eq}
use Rattle.tcp_rules.specs.Profile.{plain}
use Rattle.tcp_rules.specs.declared.profile.Profile.TheVariants.{Plain}
use Rattle.seq_arith.specs.Mark.{Mark, MarkBody, MarkMessage}
use Rattle.seq_arith.specs.Mark.MarkBody.{MarkMsg, MarkedMsg, AskMsg, HeldMsg}
use Rattle.seq_arith.specs.Message.{EntryHead}
use Rattle.seq_arith.specs.Message.Body.{HelloMsg, SummaryMsg, ListMsg, EntryMsg, DataMsg}
use Rattle.ft_model.specs.Client.{Client}
use Rattle.ft_model.specs.Log.{Entry}
use Rattle.ft_model.specs.Point.{Point, blank_point}
use Rattle.ft_model.specs.Restart.{Fetched}
use Rattle.ft_model.specs.Node.{Node, Input, booted, place_at}
use Rattle.ft_model.specs.Node.Place.{Lives}
use Rattle.ft_model.specs.Node.Stage.{Fetching, Serving}
use Rattle.ft_model.specs.Node.Input.{Packet_comes}
use Rattle.ft_model.specs.ServingTurn.{concerns}
use Rattle.ft_model.specs.World.{World, Moment}
use Rattle.ft_model.specs.declared.event.Event.{Event}
use Rattle.ft_model.specs.declared.event.Event.TheVariants.{Boot, Crash, Deliver, Begin, Send, Ack}
use Rattle.ft_model.specs.declared.schedule.Schedule.{Schedule}
use Rattle.ft_model.specs.declared.schedule.Script.TheVariants.{Bytes}
use Rattle.ft_model.specs.declared.schedule.ServiceKind.TheVariants.{Echo}
use Rattle.ft_model.specs.WorkedRuns.Common.{server, key, echo, hello_text, client_segment, from_client, to_client, to_log, from_log, part_with}
use Rattle.ft_model.specs.WorkedRuns.Common.{head_with, fetched_with, congestion_with}
use Rattle.ft_model.specs.WorkedRuns.FirstPath as path
use Rattle.mark_laws.specs.MarkedLog.{MarkedLog, no_mark}
use Rattle.mark_laws.specs.MarkedNode.{Marker, MarkedNode, booted_to_mark, unmarked, marking_then, marking_fetched}
use Rattle.mark_laws.specs.MarkedWorld.{Parcel, MarkedWorld, MarkedMoment}
use Rattle.mark_laws.specs.MarkedWorld.Parcel.{Usual, Mark_sent, Mark_answered}

-- echo's state is written as no bytes
abbrev pub only_state : List ℕ → Option Bool
only_state [] = Some false
only_state _ = None

abbrev pub marker : Marker Bool
marker = record { service = echo; writing = record { form = λ state. []; state_of = only_state }; every = 1 }

-- a world and a moment without marks
abbrev pub marks_none : Node → MarkedNode
marks_none node = record { plain = node; awaits_mark = false; marking = λ k. unmarked }

abbrev pub without : World → MarkedWorld
without w = record {
  server = w.server;
  profile = w.profile;
  clients = w.clients;
  log = record { log = w.log; marks = λ k. no_mark };
  parcels = map Usual w.packets;
  boot = w.boot;
  node = option_map marks_none w.node;
}

abbrev pub plainly : Moment → MarkedMoment
plainly moment = record { event = moment.event; sent = map Usual moment.sent; world = without moment.world }

-- a moment in which these parcels are sent and the rest of the world is as given
abbrev pub moment : Event → List Parcel → MarkedWorld → MarkedMoment
moment event sent world = record { event = event; sent = sent; world = record world { parcels = world.parcels ++ sent } }

abbrev pub start : MarkedWorld
start = without path.start

-- the mark: after one read of five bytes, five bytes of output were made
abbrev pub mark : Mark
mark = record { reads = 1; length = 5; made = 5; state = [] }

abbrev pub about : ℕ → MarkBody → MarkMessage
about boot body = record { boot = boot; body = body }

-- the client acknowledges the echo
abbrev pub acked_client : Client
acked_client = record path.served_client { edge = 65540 }

abbrev pub moment_18 : MarkedMoment
moment_18 = moment (Ack 1 65535) (Usual (from_client 16 1006 5006 65535 []) ∷ []) (record (without path.moment_17.world) { clients = acked_client ∷ [] })

-- the connection is then quiet, and its mark is sent after the Data that reports the acknowledgement
abbrev pub acked_point : Point
acked_point = record path.released_point { una = 5; edge = 65540; wl1 = pos 5; wl2 = 5; congestion = congestion_with 2149 65535 0; rest = 0 }

abbrev pub ack_comes : Input
ack_comes = Packet_comes (client_segment 16 1006 5006 65535 [])

abbrev pub marked_node : MarkedNode
marked_node = record {
  plain = path.node_live acked_point;
  awaits_mark = false;
  marking = λ k. if concerns (path.node_live path.released_point) ack_comes k then marking_then marker (place_at k (Lives acked_point ∷ [])) unmarked
      else unmarked;
}

abbrev pub mark_out : List Parcel
mark_out = Usual (to_log 1 (DataMsg (part_with 5 5 false []))) ∷ Mark_sent (about 1 (MarkMsg key mark)) ∷ []

abbrev pub moment_19 : MarkedMoment
moment_19 = moment (Deliver 16) mark_out (record moment_18.world { node = Some marked_node })

-- the mark is kept, and with it that the echo is acknowledged, though the Data is lost
abbrev pub marked_entry : Entry
marked_entry = record path.read_entry { acknowledged = 5 }

abbrev pub marked_log : ℕ → MarkedLog
marked_log boot = record { log = record { boot = boot; entries = marked_entry ∷ [] }; marks = λ k. if key_eq k key then mark else no_mark }

abbrev pub moment_20 : MarkedMoment
moment_20 = moment (Deliver 18) (Mark_answered (about 1 (MarkedMsg key 1)) ∷ []) (record moment_19.world { log = marked_log 1 })

abbrev pub moment_21 : MarkedMoment
moment_21 = moment Crash [] (record moment_20.world { node = None })

abbrev pub moment_22 : MarkedMoment
moment_22 = moment (Boot 2 900000) (Usual (to_log 2 HelloMsg) ∷ []) (record moment_21.world { boot = 2; node = Some (booted_to_mark server plain 2 900000) })

abbrev pub moment_23 : MarkedMoment
moment_23 = moment (Deliver 20) (Usual (from_log 2 (SummaryMsg 1)) ∷ []) (record moment_22.world { log = marked_log 2 })

abbrev pub fetching : Bool → List Fetched → MarkedNode
fetching awaits fetched = record { plain = record (booted server plain 2 900000) { stage = Fetching 1 fetched }; awaits_mark = awaits; marking = λ k. unmarked }

abbrev pub moment_24 : MarkedMoment
moment_24 = moment (Deliver 21) (Usual (to_log 2 (ListMsg 0)) ∷ []) (record moment_23.world { node = Some (fetching false []) })

abbrev pub head : EntryHead
head = head_with 5 false 1 5

abbrev pub moment_25 : MarkedMoment
moment_25 = moment (Deliver 22) (Usual (from_log 2 (EntryMsg 0 head)) ∷ []) moment_24.world

-- the entry has come, so its mark is asked for
abbrev pub moment_26 : MarkedMoment
moment_26 = moment (Deliver 23) (Mark_sent (about 2 (AskMsg key)) ∷ []) (record moment_25.world { node = Some (fetching true (fetched_with head [] [] ∷ [])) })

abbrev pub moment_27 : MarkedMoment
moment_27 = moment (Deliver 24) (Mark_answered (about 2 (HeldMsg key mark)) ∷ []) moment_26.world

-- all of the entry is below its mark: the connection is live again, with nothing more asked
abbrev pub restarted : Point
restarted = record (blank_point plain key 1000 5000 536) {
  fetched = 5;
  fetched_output = 5;
  taken = hello_text;
  answered = 5;
  lengths = 5 ∷ [];
  reads_answered = 1;
  una = 5;
  sent = 5;
  edge = 5;
  wl1 = pos 5;
  wl2 = 5;
  syn_acked = true;
}

abbrev pub restarted_node : MarkedNode
restarted_node = record {
  plain = record (booted server plain 2 900000) { stage = Serving 1 (Lives restarted ∷ []) };
  awaits_mark = false;
  marking = λ k. marking_then marker (place_at k (Lives restarted ∷ [])) (marking_fetched (HeldMsg key mark) (λ j. unmarked) k);
}

abbrev pub moment_28 : MarkedMoment
moment_28 = moment (Deliver 25) (Usual (to_client 16 5006 1006 65535 None []) ∷ []) (record moment_27.world { node = Some restarted_node })

abbrev pub first_path : List MarkedMoment
first_path = map plainly path.trace

-- newest moment first
abbrev pub trace : List MarkedMoment
trace =
    moment_28 ∷ moment_27 ∷ moment_26 ∷ moment_25 ∷ moment_24 ∷ moment_23 ∷ moment_22 ∷ moment_21 ∷ moment_20 ∷ moment_19 ∷ moment_18 ∷ first_path

-- the schedule of this run: a mark is due after every read
abbrev pub schedule : Schedule
schedule = record {
  service = Echo;
  server = server;
  profile = Plain;
  twin = false;
  marks = Some 1;
  lasting = None;
  clients = record { key = key; isn = 1000; script = Bytes hello_text } ∷ [];
  events = Boot 1 5000 ∷ Deliver 1 ∷ Deliver 2 ∷ Begin 1 65535 ∷ Deliver 3 ∷ Deliver 4 ∷ Deliver 5 ∷ Deliver 6 ∷ Ack 1 65535 ∷ Deliver 7 ∷ Send 1 0 5
      ∷ Deliver 8
      ∷ Deliver 10 ∷ Deliver 12 ∷ Deliver 11 ∷ Deliver 14 ∷ Deliver 15 ∷ Ack 1 65535 ∷ Deliver 16 ∷ Deliver 18 ∷ Crash ∷ Boot 2 900000 ∷ Deliver 20 ∷ Deliver 21
      ∷ Deliver 22 ∷ Deliver 23 ∷ Deliver 24 ∷ Deliver 25 ∷ [];
}
