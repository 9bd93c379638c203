-- Every moment of the worked run happens: each equation computes.
use Rattle.tcp_rules.specs.declared.timestamping.Timestamping.TheVariants.{Off}
use Rattle.std.proofs.Common.{◌≡◌, ℕ, ◌^◌, true, false, refl, sym, Option, Some, None, List, [], ◌∷◌, map, if◌then◌else◌}
use native.Mathlib.Bridge.{le_by_compare, IsLe}
use Rattle.ft_io.specs.declared.Key.{Key}
use Rattle.ft_io.specs.Key.{key_eq}
use Rattle.ft_io.proofs.Choices.{holds_if, if_false}
use Rattle.ft_model.specs.Client.Move.{Syn, Text, Acknowledge}
use Rattle.ft_model.specs.Network.{Packet}
use Rattle.ft_model.specs.News.{News}
use Rattle.ft_model.specs.News.News.{Comes, Logged, Begins}
use Rattle.ft_model.specs.Point.{Point}
use Rattle.ft_model.specs.Opening.{point_opened}
use Rattle.ft_model.specs.Connection.{ConnectionTurn}
use Rattle.ft_model.specs.Node.{Node, Place, Input, booted, place_at}
use Rattle.ft_model.specs.Node.Place.{Lives, Opens}
use Rattle.ft_model.specs.Node.Stage.{Fetching, Serving}
use Rattle.ft_model.specs.Node.Input.{Packet_comes, Message_comes}
use Rattle.ft_model.specs.Restart.{entry_in, point_of}
use Rattle.ft_model.specs.ServingTurn.{concerns}
use Rattle.ft_model.specs.WorkedRuns.Common.{server, key, echo, hello_text, client_with, numbers}
use Rattle.ft_model.specs.WorkedRuns.FirstPath as path
use Rattle.ft_model.proofs.AllowedMoments.{starts_with_hello}
use Rattle.ft_model.proofs.Turns.{laws, goes, segment_in, message_in, kept_in}
use Rattle.mark_laws.specs.MarkedLog.{after_mark, answer_above, answer_to_mark}
use Rattle.mark_laws.specs.Marking.{Marking, Outgoing, is_due}
use Rattle.mark_laws.specs.Marking.Outgoing.{Plain, Mark_to_logger}
use Rattle.tcp_rules.specs.Profile.{plain}
use Rattle.seq_arith.specs.Mark.MarkBody.{MarkMsg, AskMsg, HeldMsg}
use Rattle.seq_arith.specs.Message.Body.{HelloMsg, SummaryMsg, ListMsg, EntryMsg, DataMsg}
use Rattle.ft_model.specs.WorkedRuns.Common.{client_segment, from_client, to_client, to_log, from_log, part_with, fetched_with}
use Rattle.mark_laws.specs.MarkedNode.{LawfulMarkedTurn, MarkedNode, unmarked, marking_then}
use Rattle.mark_laws.specs.MarkedNode.MarkedInput.{Plain_comes, Mark_comes}
use Rattle.mark_laws.specs.MarkedWorld.Parcel.{Usual, Mark_sent, Mark_answered}
use Rattle.mark_laws.specs.MarkedWorld.{MarkedHappens, MarkedJoint, MarkedWorld, MarkedMoment}
use Rattle.mark_laws.specs.WorkedTrace as run

-- where no mark is due, nothing is marked
none_marked : (q : Point) → is_due echo 1 unmarked q ≡ false → (k : Key) → marking_then run.marker (place_at k (Lives q ∷ [])) unmarked ≡ unmarked
none_marked q none k =
    holds_if (λ (o : Option Place). marking_then run.marker o unmarked ≡ unmarked) (key_eq q.key k) (Some (Lives q)) None (λ t. if_false (is_due echo 1 unmarked q) _ unmarked none) (λ t. refl)

still_unmarked : (node : Node) (input : Input) (went : List Place) → ((k : Key) → marking_then run.marker (place_at k went) unmarked ≡ unmarked)
    → ◌≡◌ {A = Key → Marking} (λ k. unmarked) (λ k. if concerns node input k then marking_then run.marker (place_at k went) unmarked else unmarked)
still_unmarked node input went none =
    let each : (k : Key) → unmarked ≡ (if concerns node input k then marking_then run.marker (place_at k went) unmarked else unmarked) =
    λ k. sym (holds_if (λ (m : Marking). m ≡ unmarked) (concerns node input k) (marking_then run.marker (place_at k went) unmarked) unmarked (λ c. none k) (λ c. refl)) in
    λ j k. each k j

-- a turn of the one live connection
abbrev Goes : (boot : ℕ) → News → Point → Point → List Packet → Type 0
Goes boot news before after sent = ConnectionTurn echo server boot news before after sent

abbrev Turn : MarkedNode → Input → List Outgoing → MarkedNode → Type 0
Turn before input sent after = LawfulMarkedTurn run.marker [] [] before (Plain_comes input) sent after

-- the server's turns
turn_3 : Turn (run.marks_none (booted server plain 1 5000)) (Message_comes (message_in path.packet_2)) [] (run.marks_none (path.node_at (Serving 0 [])))
unfolding laws
turn_3 = record { live = refl; turn = (Serving 0 [], [], ([], refl, (refl, refl)), refl, refl) }

turn_5 : Turn (run.marks_none (path.node_at (Serving 0 []))) (Packet_comes (segment_in path.packet_3)) (Plain path.packet_4 ∷ []) (run.marks_none (path.node_at (Serving 1 (Opens numbers Off ∷ []))))
unfolding laws
turn_5 = record {
  live = refl;
  turn = (
    Opens numbers Off ∷ [],
    λ k. unmarked,
    record {
      went = [];
      by_places = [];
      all_go = (refl, refl);
      places = refl;
      marking_is = still_unmarked (path.node_at (Serving 0 [])) (Packet_comes (segment_in path.packet_3)) [] (λ k. refl);
      packets = refl;
    },
    refl,
  );
}

goes_7 : Goes 1 (Begins) (point_opened plain Off numbers) path.begun_point path.moment_7.sent
unfolding laws
goes_7 = goes echo server 1 (Begins) (point_opened plain Off numbers) path.begun_point path.moment_7.sent refl refl refl refl

turn_7 : Turn (run.marks_none (path.node_at (Serving 1 (Opens numbers Off ∷ [])))) (Message_comes (message_in path.packet_5)) (map Plain path.moment_7.sent) (run.marks_none (path.node_live path.begun_point))
unfolding laws
turn_7 = record {
  live = refl;
  turn = (
    Lives path.begun_point ∷ [],
    λ k. unmarked,
    record {
      went = Lives path.begun_point ∷ [];
      by_places = map Plain path.moment_7.sent;
      all_go = (Lives path.begun_point ∷ [], [], map Plain path.moment_7.sent, [], refl, refl, record { packets = path.moment_7.sent; goes = (path.begun_point, refl, goes_7); sent_are = refl }, (refl, refl));
      places = refl;
      marking_is = still_unmarked (path.node_at (Serving 1 (Opens numbers Off ∷ []))) (Message_comes (message_in path.packet_5)) (Lives path.begun_point ∷ []) (none_marked path.begun_point refl);
      packets = refl;
    },
    refl,
  );
}

goes_10 : Goes 1 (Comes (segment_in path.packet_7)) path.begun_point path.open_point path.moment_10.sent
unfolding laws
goes_10 = goes echo server 1 (Comes (segment_in path.packet_7)) path.begun_point path.open_point path.moment_10.sent refl refl refl refl

turn_10 : Turn (run.marks_none (path.node_live path.begun_point)) (Packet_comes (segment_in path.packet_7)) (map Plain path.moment_10.sent) (run.marks_none (path.node_live path.open_point))
unfolding laws
turn_10 = record {
  live = refl;
  turn = (
    Lives path.open_point ∷ [],
    λ k. unmarked,
    record {
      went = Lives path.open_point ∷ [];
      by_places = map Plain path.moment_10.sent;
      all_go = (Lives path.open_point ∷ [], [], map Plain path.moment_10.sent, [], refl, refl, record { packets = path.moment_10.sent; goes = (path.open_point, refl, goes_10); sent_are = refl }, (refl, refl));
      places = refl;
      marking_is = still_unmarked (path.node_live path.begun_point) (Packet_comes (segment_in path.packet_7)) (Lives path.open_point ∷ []) (none_marked path.open_point refl);
      packets = refl;
    },
    refl,
  );
}

goes_12 : Goes 1 (Comes (segment_in path.packet_8)) path.open_point path.taken_point path.moment_12.sent
unfolding laws
goes_12 = goes echo server 1 (Comes (segment_in path.packet_8)) path.open_point path.taken_point path.moment_12.sent refl refl refl refl

turn_12 : Turn (run.marks_none (path.node_live path.open_point)) (Packet_comes (segment_in path.packet_8)) (map Plain path.moment_12.sent) (run.marks_none (path.node_live path.taken_point))
unfolding laws
turn_12 = record {
  live = refl;
  turn = (
    Lives path.taken_point ∷ [],
    λ k. unmarked,
    record {
      went = Lives path.taken_point ∷ [];
      by_places = map Plain path.moment_12.sent;
      all_go = (Lives path.taken_point ∷ [], [], map Plain path.moment_12.sent, [], refl, refl, record { packets = path.moment_12.sent; goes = (path.taken_point, refl, goes_12); sent_are = refl }, (refl, refl));
      places = refl;
      marking_is = still_unmarked (path.node_live path.open_point) (Packet_comes (segment_in path.packet_8)) (Lives path.taken_point ∷ []) (none_marked path.taken_point refl);
      packets = refl;
    },
    refl,
  );
}

goes_14 : Goes 1 (Logged (kept_in path.packet_12)) path.taken_point path.logged_point path.moment_14.sent
unfolding laws
goes_14 = goes echo server 1 (Logged (kept_in path.packet_12)) path.taken_point path.logged_point path.moment_14.sent refl refl refl refl

turn_14 : Turn (run.marks_none (path.node_live path.taken_point)) (Message_comes (message_in path.packet_12)) (map Plain path.moment_14.sent) (run.marks_none (path.node_live path.logged_point))
unfolding laws
turn_14 = record {
  live = refl;
  turn = (
    Lives path.logged_point ∷ [],
    λ k. unmarked,
    record {
      went = Lives path.logged_point ∷ [];
      by_places = map Plain path.moment_14.sent;
      all_go = (Lives path.logged_point ∷ [], [], map Plain path.moment_14.sent, [], refl, refl, record { packets = path.moment_14.sent; goes = (path.logged_point, refl, goes_14); sent_are = refl }, (refl, refl));
      places = refl;
      marking_is = still_unmarked (path.node_live path.taken_point) (Message_comes (message_in path.packet_12)) (Lives path.logged_point ∷ []) (none_marked path.logged_point refl);
      packets = refl;
    },
    refl,
  );
}

goes_16 : Goes 1 (Logged (kept_in path.packet_14)) path.logged_point path.released_point path.moment_16.sent
unfolding laws
goes_16 = goes echo server 1 (Logged (kept_in path.packet_14)) path.logged_point path.released_point path.moment_16.sent refl refl refl refl

pub turn_16 : Turn (run.marks_none (path.node_live path.logged_point)) (Message_comes (message_in path.packet_14)) (map Plain path.moment_16.sent) (run.marks_none (path.node_live path.released_point))
unfolding laws
turn_16 = record {
  live = refl;
  turn = (
    Lives path.released_point ∷ [],
    λ k. unmarked,
    record {
      went = Lives path.released_point ∷ [];
      by_places = map Plain path.moment_16.sent;
      all_go = (Lives path.released_point ∷ [], [], map Plain path.moment_16.sent, [], refl, refl, record { packets = path.moment_16.sent; goes = (path.released_point, refl, goes_16); sent_are = refl }, (refl, refl));
      places = refl;
      marking_is = still_unmarked (path.node_live path.logged_point) (Message_comes (message_in path.packet_14)) (Lives path.released_point ∷ []) (none_marked path.released_point refl);
      packets = refl;
    },
    refl,
  );
}

-- the mark goes out
goes_19 : Goes 1 (Comes (client_segment 16 1006 5006 65535 [])) path.released_point run.acked_point (to_log 1 (DataMsg (part_with 5 5 false [])) ∷ [])
unfolding laws
goes_19 = goes echo server 1 (Comes (client_segment 16 1006 5006 65535 [])) path.released_point run.acked_point (to_log 1 (DataMsg (part_with 5 5 false [])) ∷ []) refl refl refl refl

turn_19 : Turn (run.marks_none (path.node_live path.released_point)) run.ack_comes (Plain (to_log 1 (DataMsg (part_with 5 5 false []))) ∷ Mark_to_logger (run.about 1 (MarkMsg key run.mark)) ∷ []) run.marked_node
unfolding laws
turn_19 = record {
  live = refl;
  turn = (
    Lives run.acked_point ∷ [],
    run.marked_node.marking,
    record {
      went = Lives run.acked_point ∷ [];
      by_places = Plain (to_log 1 (DataMsg (part_with 5 5 false []))) ∷ Mark_to_logger (run.about 1 (MarkMsg key run.mark)) ∷ [];
      all_go = (
        Lives run.acked_point ∷ [],
        [],
        Plain (to_log 1 (DataMsg (part_with 5 5 false []))) ∷ Mark_to_logger (run.about 1 (MarkMsg key run.mark)) ∷ [],
        [],
        refl,
        refl,
        record { packets = to_log 1 (DataMsg (part_with 5 5 false [])) ∷ []; goes = (run.acked_point, refl, goes_19); sent_are = refl },
        (refl, refl),
      );
      places = refl;
      marking_is = refl;
      packets = refl;
    },
    refl,
  );
}

-- the next incarnation's turns
turn_24 : Turn (run.marks_none (booted server plain 2 900000)) (Message_comes (message_in (from_log 2 (SummaryMsg 1)))) (Plain (to_log 2 (ListMsg 0)) ∷ []) (run.fetching false [])
unfolding laws
turn_24 = record { live = refl; turn = (Fetching 1 [], to_log 2 (ListMsg 0) ∷ [], (refl, refl), refl, refl) }

turn_26 : Turn (run.fetching false []) (Message_comes (message_in (from_log 2 (EntryMsg 0 run.head)))) (Mark_to_logger (run.about 2 (AskMsg key)) ∷ []) (run.fetching true (fetched_with run.head [] [] ∷ []))
unfolding laws
turn_26 = record { live = refl; turn = (refl, refl) }

abbrev fetched_point : Point
fetched_point = point_of echo plain (entry_in (fetched_with run.head hello_text (5 ∷ [])))

goes_28 : Goes 2 Begins fetched_point run.restarted (to_client 16 5006 1006 65535 None [] ∷ [])
unfolding laws
goes_28 = goes echo server 2 Begins fetched_point run.restarted (to_client 16 5006 1006 65535 None [] ∷ []) refl refl refl refl

turn_28 : LawfulMarkedTurn run.marker hello_text (5 ∷ []) (run.fetching true (fetched_with run.head [] [] ∷ [])) (Mark_comes (run.about 2 (HeldMsg key run.mark))) (Plain (to_client 16 5006 1006 65535 None []) ∷ []) run.restarted_node
unfolding laws
turn_28 = record {
  live = refl;
  turn = (
    Lives run.restarted ∷ [],
    (
      Lives run.restarted ∷ [],
      [],
      Plain (to_client 16 5006 1006 65535 None []) ∷ [],
      [],
      refl,
      refl,
      record { packets = to_client 16 5006 1006 65535 None [] ∷ []; goes = (run.restarted, refl, goes_28); sent_are = refl },
      (refl, refl),
    ),
    refl,
  );
}

abbrev Happens : MarkedWorld → MarkedMoment → Type 0
Happens before moment = MarkedHappens run.marker before moment.event moment.sent moment.world

happens_1 : Happens run.start (run.plainly path.moment_1)
unfolding laws answer_above answer_to_mark after_mark IsLe
happens_1 = (refl, (le_by_compare 1 1 tt, le_by_compare 2 (2 ^ 64) tt), refl, refl)

happens_2 : Happens (run.without path.moment_1.world) (run.plainly path.moment_2)
unfolding laws answer_above answer_to_mark after_mark IsLe
happens_2 = (Usual path.packet_1, refl, (refl, refl))

happens_3 : Happens (run.without path.moment_2.world) (run.plainly path.moment_3)
unfolding laws answer_above answer_to_mark after_mark IsLe
happens_3 = (Usual path.packet_2, refl, (run.marks_none (path.node_at (Serving 0 [])), [], turn_3, refl, refl))

happens_4 : Happens (run.without path.moment_3.world) (run.plainly path.moment_4)
unfolding laws answer_above answer_to_mark after_mark IsLe
happens_4 = (path.packet_3 ∷ [], refl, record { client = client_with hello_text; segment = segment_in path.packet_3; later = path.opening; is_there = refl; move = record { move = Syn None; window = 65535; may = refl; fits = refl; timestamps = None; carries = refl; segment_is = refl; after_is = refl }; sent_is = refl; after_is = refl }, refl)

happens_5 : Happens (run.without path.moment_4.world) (run.plainly path.moment_5)
unfolding laws answer_above answer_to_mark after_mark IsLe
happens_5 = (Usual path.packet_3, refl, (run.marks_none (path.node_at (Serving 1 (Opens numbers Off ∷ []))), Plain path.packet_4 ∷ [], turn_5, refl, refl))

happens_6 : Happens (run.without path.moment_5.world) (run.plainly path.moment_6)
unfolding laws answer_above answer_to_mark after_mark IsLe
happens_6 = (Usual path.packet_4, refl, (refl, refl))

happens_7 : Happens (run.without path.moment_6.world) (run.plainly path.moment_7)
unfolding laws answer_above answer_to_mark after_mark IsLe
happens_7 = (Usual path.packet_5, refl, (run.marks_none (path.node_live path.begun_point), map Plain path.moment_7.sent, turn_7, refl, refl))

happens_8 : Happens (run.without path.moment_7.world) (run.plainly path.moment_8)
unfolding laws answer_above answer_to_mark after_mark IsLe
happens_8 = (Usual path.packet_6, refl, ([], refl, (refl, refl), refl))

happens_9 : Happens (run.without path.moment_8.world) (run.plainly path.moment_9)
unfolding laws answer_above answer_to_mark after_mark IsLe
happens_9 = (path.packet_7 ∷ [], refl, record { client = path.open_client; segment = segment_in path.packet_7; later = path.open_client; is_there = refl; move = record { move = Acknowledge; window = 65535; may = refl; fits = refl; timestamps = None; carries = refl; segment_is = refl; after_is = refl }; sent_is = refl; after_is = refl }, refl)

happens_10 : Happens (run.without path.moment_9.world) (run.plainly path.moment_10)
unfolding laws answer_above answer_to_mark after_mark IsLe
happens_10 = (Usual path.packet_7, refl, (run.marks_none (path.node_live path.open_point), map Plain path.moment_10.sent, turn_10, refl, refl))

happens_11 : Happens (run.without path.moment_10.world) (run.plainly path.moment_11)
unfolding laws answer_above answer_to_mark after_mark IsLe
happens_11 = (path.packet_8 ∷ [], refl, record { client = path.open_client; segment = segment_in path.packet_8; later = path.reported_client; is_there = refl; move = record { move = Text 0 5; window = 65535; may = refl; fits = refl; timestamps = None; carries = refl; segment_is = refl; after_is = refl }; sent_is = refl; after_is = refl }, refl)

happens_12 : Happens (run.without path.moment_11.world) (run.plainly path.moment_12)
unfolding laws answer_above answer_to_mark after_mark IsLe
happens_12 = (Usual path.packet_8, refl, (run.marks_none (path.node_live path.taken_point), map Plain path.moment_12.sent, turn_12, refl, refl))

happens_13 : Happens (run.without path.moment_12.world) (run.plainly path.moment_13)
unfolding laws answer_above answer_to_mark after_mark IsLe
happens_13 = (Usual path.packet_10, refl, (refl, refl))

happens_14 : Happens (run.without path.moment_13.world) (run.plainly path.moment_14)
unfolding laws answer_above answer_to_mark after_mark IsLe
happens_14 = (Usual path.packet_12, refl, (run.marks_none (path.node_live path.logged_point), map Plain path.moment_14.sent, turn_14, refl, refl))

happens_15 : Happens (run.without path.moment_14.world) (run.plainly path.moment_15)
unfolding laws answer_above answer_to_mark after_mark IsLe
happens_15 = (Usual path.packet_11, refl, (refl, refl))

happens_16 : Happens (run.without path.moment_15.world) (run.plainly path.moment_16)
unfolding laws answer_above answer_to_mark after_mark IsLe
happens_16 = (Usual path.packet_14, refl, (run.marks_none (path.node_live path.released_point), map Plain path.moment_16.sent, turn_16, refl, refl))

happens_17 : Happens (run.without path.moment_16.world) (run.plainly path.moment_17)
unfolding laws answer_above answer_to_mark after_mark IsLe
happens_17 = (Usual path.packet_15, refl, ([], refl, (refl, refl), refl))

happens_18 : Happens (run.without path.moment_17.world) run.moment_18
unfolding laws answer_above answer_to_mark after_mark IsLe
happens_18 = (from_client 16 1006 5006 65535 [] ∷ [], refl, record { client = path.served_client; segment = client_segment 16 1006 5006 65535 []; later = run.acked_client; is_there = refl; move = record { move = Acknowledge; window = 65535; may = refl; fits = refl; timestamps = None; carries = refl; segment_is = refl; after_is = refl }; sent_is = refl; after_is = refl }, refl)

happens_19 : Happens run.moment_18.world run.moment_19
unfolding laws answer_above answer_to_mark after_mark IsLe
happens_19 = (Usual (from_client 16 1006 5006 65535 []), refl, (run.marked_node, Plain (to_log 1 (DataMsg (part_with 5 5 false []))) ∷ Mark_to_logger (run.about 1 (MarkMsg key run.mark)) ∷ [], turn_19, refl, refl))

happens_20 : Happens run.moment_19.world run.moment_20
unfolding laws answer_above answer_to_mark after_mark IsLe
happens_20 = (Mark_sent (run.about 1 (MarkMsg key run.mark)), refl, (refl, refl))

happens_21 : Happens run.moment_20.world run.moment_21
unfolding laws answer_above answer_to_mark after_mark IsLe
happens_21 = (refl, refl, refl)

happens_22 : Happens run.moment_21.world run.moment_22
unfolding laws answer_above answer_to_mark after_mark IsLe
happens_22 = (refl, (le_by_compare 2 2 tt, le_by_compare 3 (2 ^ 64) tt), refl, refl)

happens_23 : Happens run.moment_22.world run.moment_23
unfolding laws answer_above answer_to_mark after_mark IsLe
happens_23 = (Usual (to_log 2 HelloMsg), refl, (refl, refl))

happens_24 : Happens run.moment_23.world run.moment_24
unfolding laws answer_above answer_to_mark after_mark IsLe
happens_24 = (Usual (from_log 2 (SummaryMsg 1)), refl, (run.fetching false [], Plain (to_log 2 (ListMsg 0)) ∷ [], turn_24, refl, refl))

happens_25 : Happens run.moment_24.world run.moment_25
unfolding laws answer_above answer_to_mark after_mark IsLe
happens_25 = (Usual (to_log 2 (ListMsg 0)), refl, (refl, refl))

happens_26 : Happens run.moment_25.world run.moment_26
unfolding laws answer_above answer_to_mark after_mark IsLe
happens_26 = (Usual (from_log 2 (EntryMsg 0 run.head)), refl, (run.fetching true (fetched_with run.head [] [] ∷ []), Mark_to_logger (run.about 2 (AskMsg key)) ∷ [], turn_26, refl, refl))

happens_27 : Happens run.moment_26.world run.moment_27
unfolding laws answer_above answer_to_mark after_mark IsLe
happens_27 = (Mark_sent (run.about 2 (AskMsg key)), refl, (refl, refl))

happens_28 : Happens run.moment_27.world run.moment_28
unfolding laws answer_above answer_to_mark after_mark IsLe
happens_28 = (Mark_answered (run.about 2 (HeldMsg key run.mark)), refl, (run.restarted_node, Plain (to_client 16 5006 1006 65535 None []) ∷ [], turn_28, refl, refl))

pub is_joint : MarkedJoint run.marker run.start run.trace
is_joint = ((((((((((((((((((((((((((((record { start = starts_with_hello; log = refl; parcels = refl; node = refl }, happens_1), happens_2), happens_3), happens_4), happens_5), happens_6), happens_7), happens_8), happens_9), happens_10), happens_11), happens_12), happens_13), happens_14), happens_15), happens_16), happens_17), happens_18), happens_19), happens_20), happens_21), happens_22), happens_23), happens_24), happens_25), happens_26), happens_27), happens_28)
