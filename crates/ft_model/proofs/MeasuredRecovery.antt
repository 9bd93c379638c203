-- The run with a measured timer and a recovery, whole: each moment happens and is allowed.
use Rattle.std.proofs.Common.{◌^◌, false, refl, None, [], ◌∷◌}
use native.Mathlib.Bridge.{le_by_compare, IsLe}
use Rattle.tcp_rules.specs.declared.timestamping.Timestamping.TheVariants.{Off}
use Rattle.tcp_rules.specs.Profile.{wan}
use Rattle.seq_arith.specs.Message.Body.{HelloMsg, SummaryMsg, ListMsg, EntryMsg, BytesMsg, PartMsg, CutsMsg, LensMsg}
use Rattle.server_trait.specs.Service.{AreBytes}
use Rattle.ft_model.specs.Client.Move.{Syn, Text, Acknowledge}
use Rattle.ft_model.specs.News.News.{Comes, Logged, Ticks, Begins}
use Rattle.ft_model.specs.Node.{booted}
use Rattle.ft_model.specs.Node.Input.{Packet_comes, Message_comes, Tick_comes}
use Rattle.ft_model.specs.Node.Stage.{Serving}
use Rattle.ft_model.specs.Node.Place.{Opens, Lives}
use Rattle.ft_model.specs.Point.{Point}
use Rattle.ft_model.specs.Restart.{point_of, entry_in}
use Rattle.ft_model.specs.Lawful.{LawfulTurn, Revives}
use Rattle.ft_model.specs.World.{Moment, IsStart, Joint, Happens}
use Rattle.ft_model.specs.Legal.{IsAllowed, Legal}
use Rattle.ft_model.specs.WorkedRuns.Common.{server, key, numbers, kept_with, client_with, serving_in, to_log, from_log}
use Rattle.ft_model.specs.WorkedRuns.CongestionWindow.{pattern, given, transfer, IsUnlawful}
use Rattle.ft_model.specs.WorkedRuns.DelayedAck.{begun_point, open_point, node_at, node_live}
use Rattle.ft_model.specs.WorkedRuns.FirstPath as path
use Rattle.ft_model.specs.WorkedRuns.MeasuredRecovery as run
use Rattle.ft_model.proofs.AllowedMoments.{starts_in}
use Rattle.ft_model.proofs.AskedMoves.{scripted, still}
use Rattle.ft_model.proofs.DelayedAck.{turn_3, turn_5, turn_7, turn_10}
use Rattle.ft_model.proofs.Turns.{laws, alone, goes, serves_in, segment_in}
use Rattle.ft_model.proofs.WrongTurns.{refused}

-- the request is taken and read
turn_12 : LawfulTurn transfer (node_live open_point) (Packet_comes (segment_in run.asking)) run.moment_12.sent (node_live run.asked_point)
unfolding laws pattern given
turn_12 = serves_in transfer wan 1 5000 (Packet_comes (segment_in run.asking)) open_point run.asked_point run.moment_12.sent refl refl refl
    (run.asked_point, refl, goes transfer server 1 (Comes (segment_in run.asking)) open_point run.asked_point run.moment_12.sent refl refl refl refl)

-- it is logged
turn_14 : LawfulTurn transfer (node_live run.asked_point) run.request_is_logged run.moment_14.sent (node_live run.logged_point)
unfolding laws pattern given
turn_14 = serves_in transfer wan 1 5000 run.request_is_logged run.asked_point run.logged_point run.moment_14.sent refl refl refl
    (run.logged_point, refl, goes transfer server 1 (Logged (kept_with 4 false 0)) run.asked_point run.logged_point run.moment_14.sent refl refl refl refl)

-- the read is logged: all output leaves
turn_16 : LawfulTurn transfer (node_live run.logged_point) run.read_is_logged run.moment_16.sent (node_live run.sent_point)
unfolding laws pattern given
turn_16 = serves_in transfer wan 1 5000 run.read_is_logged run.logged_point run.sent_point run.moment_16.sent refl refl refl
    (run.sent_point, refl, goes transfer server 1 (Logged (kept_with 4 false 1)) run.logged_point run.sent_point run.moment_16.sent refl refl refl refl)

turn_17 : LawfulTurn transfer (node_live run.sent_point) Tick_comes run.moment_17.sent (node_live (run.ticked 1))
unfolding laws pattern given
turn_17 = serves_in transfer wan 1 5000 Tick_comes run.sent_point (run.ticked 1) run.moment_17.sent refl refl refl
    ((run.ticked 1), refl, goes transfer server 1 Ticks run.sent_point (run.ticked 1) run.moment_17.sent refl refl refl refl)

turn_18 : LawfulTurn transfer (node_live (run.ticked 1)) Tick_comes run.moment_18.sent (node_live (run.ticked 2))
unfolding laws pattern given
turn_18 = serves_in transfer wan 1 5000 Tick_comes (run.ticked 1) (run.ticked 2) run.moment_18.sent refl refl refl
    ((run.ticked 2), refl, goes transfer server 1 Ticks (run.ticked 1) (run.ticked 2) run.moment_18.sent refl refl refl refl)

-- the round trip is measured
turn_21 : LawfulTurn transfer (node_live (run.ticked 2)) (run.acknowledged 536) run.moment_21.sent (node_live run.measured_point)
unfolding laws pattern given
turn_21 = serves_in transfer wan 1 5000 (run.acknowledged 536) (run.ticked 2) run.measured_point run.moment_21.sent refl refl refl
    (run.measured_point, refl, goes transfer server 1 (Comes (segment_in (run.acknowledging 536))) (run.ticked 2) run.measured_point run.moment_21.sent refl refl refl refl)

turn_23 : LawfulTurn transfer (node_live run.measured_point) (run.acknowledged 536) run.moment_23.sent (node_live (run.repeated 1))
unfolding laws pattern given
turn_23 = serves_in transfer wan 1 5000 (run.acknowledged 536) run.measured_point (run.repeated 1) run.moment_23.sent refl refl refl
    ((run.repeated 1), refl, goes transfer server 1 (Comes (segment_in (run.acknowledging 536))) run.measured_point (run.repeated 1) run.moment_23.sent refl refl refl refl)

turn_25 : LawfulTurn transfer (node_live (run.repeated 1)) (run.acknowledged 536) run.moment_25.sent (node_live (run.repeated 2))
unfolding laws pattern given
turn_25 = serves_in transfer wan 1 5000 (run.acknowledged 536) (run.repeated 1) (run.repeated 2) run.moment_25.sent refl refl refl
    ((run.repeated 2), refl, goes transfer server 1 (Comes (segment_in (run.acknowledging 536))) (run.repeated 1) (run.repeated 2) run.moment_25.sent refl refl refl refl)

-- the third duplicate
turn_27 : LawfulTurn transfer (node_live (run.repeated 2)) (run.acknowledged 536) run.moment_27.sent (node_live run.losing_point)
unfolding laws pattern given
turn_27 = serves_in transfer wan 1 5000 (run.acknowledged 536) (run.repeated 2) run.losing_point run.moment_27.sent refl refl refl
    (run.losing_point, refl, goes transfer server 1 (Comes (segment_in (run.acknowledging 536))) (run.repeated 2) run.losing_point run.moment_27.sent refl refl refl refl)

-- a partial acknowledgement
turn_30 : LawfulTurn transfer (node_live run.losing_point) (run.acknowledged 1072) run.moment_30.sent (node_live (run.waiting 6))
unfolding laws pattern given
turn_30 = serves_in transfer wan 1 5000 (run.acknowledged 1072) run.losing_point (run.waiting 6) run.moment_30.sent refl refl refl
    ((run.waiting 6), refl, goes transfer server 1 (Comes (segment_in (run.acknowledging 1072))) run.losing_point (run.waiting 6) run.moment_30.sent refl refl refl refl)

turn_31 : LawfulTurn transfer (node_live (run.waiting 6)) Tick_comes run.moment_31.sent (node_live (run.waiting 5))
unfolding laws pattern given
turn_31 = serves_in transfer wan 1 5000 Tick_comes (run.waiting 6) (run.waiting 5) run.moment_31.sent refl refl refl
    ((run.waiting 5), refl, goes transfer server 1 Ticks (run.waiting 6) (run.waiting 5) run.moment_31.sent refl refl refl refl)

turn_32 : LawfulTurn transfer (node_live (run.waiting 5)) Tick_comes run.moment_32.sent (node_live (run.waiting 4))
unfolding laws pattern given
turn_32 = serves_in transfer wan 1 5000 Tick_comes (run.waiting 5) (run.waiting 4) run.moment_32.sent refl refl refl
    ((run.waiting 4), refl, goes transfer server 1 Ticks (run.waiting 5) (run.waiting 4) run.moment_32.sent refl refl refl refl)

turn_33 : LawfulTurn transfer (node_live (run.waiting 4)) Tick_comes run.moment_33.sent (node_live (run.waiting 3))
unfolding laws pattern given
turn_33 = serves_in transfer wan 1 5000 Tick_comes (run.waiting 4) (run.waiting 3) run.moment_33.sent refl refl refl
    ((run.waiting 3), refl, goes transfer server 1 Ticks (run.waiting 4) (run.waiting 3) run.moment_33.sent refl refl refl refl)

turn_34 : LawfulTurn transfer (node_live (run.waiting 3)) Tick_comes run.moment_34.sent (node_live (run.waiting 2))
unfolding laws pattern given
turn_34 = serves_in transfer wan 1 5000 Tick_comes (run.waiting 3) (run.waiting 2) run.moment_34.sent refl refl refl
    ((run.waiting 2), refl, goes transfer server 1 Ticks (run.waiting 3) (run.waiting 2) run.moment_34.sent refl refl refl refl)

turn_35 : LawfulTurn transfer (node_live (run.waiting 2)) Tick_comes run.moment_35.sent (node_live (run.waiting 1))
unfolding laws pattern given
turn_35 = serves_in transfer wan 1 5000 Tick_comes (run.waiting 2) (run.waiting 1) run.moment_35.sent refl refl refl
    ((run.waiting 1), refl, goes transfer server 1 Ticks (run.waiting 2) (run.waiting 1) run.moment_35.sent refl refl refl refl)

-- the timer expires
turn_36 : LawfulTurn transfer (node_live (run.waiting 1)) Tick_comes run.moment_36.sent (node_live run.expired_point)
unfolding laws pattern given
turn_36 = serves_in transfer wan 1 5000 Tick_comes (run.waiting 1) run.expired_point run.moment_36.sent refl refl refl
    (run.expired_point, refl, goes transfer server 1 Ticks (run.waiting 1) run.expired_point run.moment_36.sent refl refl refl refl)

-- a partial acknowledgement after that
turn_39 : LawfulTurn transfer (node_live run.expired_point) (run.acknowledged 1608) run.moment_39.sent (node_live run.recovering_point)
unfolding laws pattern given
turn_39 = serves_in transfer wan 1 5000 (run.acknowledged 1608) run.expired_point run.recovering_point run.moment_39.sent refl refl refl
    (run.recovering_point, refl, goes transfer server 1 (Comes (segment_in (run.acknowledging 1608))) run.expired_point run.recovering_point run.moment_39.sent refl refl refl refl)

-- the second boot fetches the log
turn_43 : LawfulTurn transfer (booted server wan 2 900000) (Message_comes (record { boot = 2; body = SummaryMsg 1 })) run.moment_43.sent (run.fetching [])
unfolding laws pattern given
turn_43 = record { server = refl; profile = refl; boot = refl; isn = refl; live = refl; stage = (refl, refl) }

turn_45 : LawfulTurn transfer (run.fetching []) (Message_comes (record { boot = 2; body = EntryMsg 0 run.head })) run.moment_45.sent (run.fetching (run.bare_entry ∷ []))
unfolding laws pattern given
turn_45 = record { server = refl; profile = refl; boot = refl; isn = refl; live = refl; stage = (refl, refl) }

turn_47 : LawfulTurn transfer (run.fetching (run.bare_entry ∷ [])) (Message_comes (record { boot = 2; body = LensMsg key 0 (4 ∷ []) })) run.moment_47.sent (run.fetching (run.entry_with_length ∷ []))
unfolding laws pattern given
turn_47 = record { server = refl; profile = refl; boot = refl; isn = refl; live = refl; stage = (refl, refl) }

-- the entry's point
abbrev fetched_point : Point
fetched_point = point_of transfer wan (entry_in (record run.entry_with_length { bytes = run.request }))

turn_49 : LawfulTurn transfer (run.fetching (run.entry_with_length ∷ [])) (Message_comes (record { boot = 2; body = PartMsg key 0 run.request })) run.moment_49.sent
    (serving_in wan 2 900000 run.restarted)
unfolding laws pattern given
turn_49 = record {
  server = refl;
  profile = refl;
  boot = refl;
  isn = refl;
  live = refl;
  stage = (
    Lives run.restarted ∷ [],
    refl,
    alone (Revives transfer (run.fetching (run.entry_with_length ∷ []))) (Lives fetched_point) (Lives run.restarted ∷ []) run.moment_49.sent
        (run.restarted, refl, goes transfer server 2 Begins fetched_point run.restarted run.moment_49.sent refl refl refl refl),
  );
}

are_bytes : AreBytes run.request
unfolding IsLe
are_bytes = (le_by_compare 1 256 tt, (le_by_compare 1 256 tt, (le_by_compare 8 256 tt, (le_by_compare 256 256 tt, tt))))

starts : IsStart run.start
unfolding IsLe
starts = starts_in wan run.request are_bytes (le_by_compare 4 (2 ^ 24) tt)

abbrev Follows : Moment → Moment → Type 0
Follows before after = Happens transfer before.world after.event after.sent after.world

-- what happens
happens_1 : Happens transfer run.start run.moment_1.event run.moment_1.sent run.moment_1.world
unfolding laws IsLe
happens_1 = (refl, (le_by_compare 1 1 tt, le_by_compare 2 (2 ^ 64) tt), refl, refl)

happens_2 : Follows run.moment_1 run.moment_2
unfolding laws IsLe
happens_2 = (path.packet_1, refl, (refl, refl))

happens_3 : Follows run.moment_2 run.moment_3
unfolding laws IsLe
happens_3 = (path.packet_2, refl, ((node_at (Serving 0 []), refl, turn_3 transfer), refl))

happens_4 : Follows run.moment_3 run.moment_4
unfolding laws IsLe
happens_4 = record { client = client_with run.request; segment = segment_in path.packet_3; later = run.opening; is_there = refl; move = record { move = Syn None; window = 65535; may = refl; fits = refl; timestamps = None; carries = refl; segment_is = refl; after_is = refl }; sent_is = refl; after_is = refl }

happens_5 : Follows run.moment_4 run.moment_5
unfolding laws IsLe
happens_5 = (path.packet_3, refl, ((node_at (Serving 1 (Opens numbers Off ∷ [])), refl, turn_5 transfer), refl))

happens_6 : Follows run.moment_5 run.moment_6
unfolding laws IsLe
happens_6 = (path.packet_4, refl, (refl, refl))

happens_7 : Follows run.moment_6 run.moment_7
unfolding laws IsLe
happens_7 = (path.packet_5, refl, ((node_live begun_point, refl, turn_7 transfer), refl))

happens_8 : Follows run.moment_7 run.moment_8
unfolding laws IsLe
happens_8 = (path.packet_6, refl, (refl, refl))

happens_9 : Follows run.moment_8 run.moment_9
unfolding laws IsLe
happens_9 = record { client = run.open_client; segment = segment_in path.packet_7; later = run.open_client; is_there = refl; move = record { move = Acknowledge; window = 65535; may = refl; fits = refl; timestamps = None; carries = refl; segment_is = refl; after_is = refl }; sent_is = refl; after_is = refl }

happens_10 : Follows run.moment_9 run.moment_10
unfolding laws IsLe
happens_10 = (path.packet_7, refl, ((node_live open_point, refl, turn_10 transfer), refl))

happens_11 : Follows run.moment_10 run.moment_11
unfolding laws IsLe
happens_11 = record { client = run.open_client; segment = segment_in run.asking; later = run.reported_client; is_there = refl; move = record { move = Text 0 4; window = 65535; may = refl; fits = refl; timestamps = None; carries = refl; segment_is = refl; after_is = refl }; sent_is = refl; after_is = refl }

happens_12 : Follows run.moment_11 run.moment_12
unfolding laws IsLe
happens_12 = (run.asking, refl, ((node_live run.asked_point, refl, turn_12), refl))

happens_13 : Follows run.moment_12 run.moment_13
unfolding laws IsLe
happens_13 = (run.copy, refl, (refl, refl))

happens_14 : Follows run.moment_13 run.moment_14
unfolding laws IsLe
happens_14 = (run.stable, refl, ((node_live run.logged_point, refl, turn_14), refl))

happens_15 : Follows run.moment_14 run.moment_15
unfolding laws IsLe
happens_15 = (run.read, refl, (refl, refl))

happens_16 : Follows run.moment_15 run.moment_16
unfolding laws IsLe
happens_16 = (run.reads, refl, ((node_live run.sent_point, refl, turn_16), refl))

happens_17 : Follows run.moment_16 run.moment_17
unfolding laws IsLe
happens_17 = (refl, ((node_live (run.ticked 1), refl, turn_17), refl))

happens_18 : Follows run.moment_17 run.moment_18
unfolding laws IsLe
happens_18 = (refl, ((node_live (run.ticked 2), refl, turn_18), refl))

happens_19 : Follows run.moment_18 run.moment_19
unfolding laws IsLe pattern
happens_19 = (run.text 0 536, refl, (refl, refl))

happens_20 : Follows run.moment_19 run.moment_20
unfolding laws IsLe pattern
happens_20 = record { client = run.has 536 0; segment = segment_in (run.acknowledging 536); later = run.has 536 536; is_there = refl; move = record { move = Acknowledge; window = 65535; may = refl; fits = refl; timestamps = None; carries = refl; segment_is = refl; after_is = refl }; sent_is = refl; after_is = refl }

happens_21 : Follows run.moment_20 run.moment_21
unfolding laws IsLe
happens_21 = (run.acknowledging 536, refl, ((node_live run.measured_point, refl, turn_21), refl))

happens_22 : Follows run.moment_21 run.moment_22
unfolding laws IsLe pattern
happens_22 = record { client = run.has 536 536; segment = segment_in (run.acknowledging 536); later = run.has 536 536; is_there = refl; move = record { move = Acknowledge; window = 65535; may = refl; fits = refl; timestamps = None; carries = refl; segment_is = refl; after_is = refl }; sent_is = refl; after_is = refl }

happens_23 : Follows run.moment_22 run.moment_23
unfolding laws IsLe
happens_23 = (run.acknowledging 536, refl, ((node_live (run.repeated 1), refl, turn_23), refl))

happens_24 : Follows run.moment_23 run.moment_24
unfolding laws IsLe pattern
happens_24 = record { client = run.has 536 536; segment = segment_in (run.acknowledging 536); later = run.has 536 536; is_there = refl; move = record { move = Acknowledge; window = 65535; may = refl; fits = refl; timestamps = None; carries = refl; segment_is = refl; after_is = refl }; sent_is = refl; after_is = refl }

happens_25 : Follows run.moment_24 run.moment_25
unfolding laws IsLe
happens_25 = (run.acknowledging 536, refl, ((node_live (run.repeated 2), refl, turn_25), refl))

happens_26 : Follows run.moment_25 run.moment_26
unfolding laws IsLe pattern
happens_26 = record { client = run.has 536 536; segment = segment_in (run.acknowledging 536); later = run.has 536 536; is_there = refl; move = record { move = Acknowledge; window = 65535; may = refl; fits = refl; timestamps = None; carries = refl; segment_is = refl; after_is = refl }; sent_is = refl; after_is = refl }

happens_27 : Follows run.moment_26 run.moment_27
unfolding laws IsLe
happens_27 = (run.acknowledging 536, refl, ((node_live run.losing_point, refl, turn_27), refl))

happens_28 : Follows run.moment_27 run.moment_28
unfolding laws IsLe pattern
happens_28 = (run.text 536 536, refl, (refl, refl))

happens_29 : Follows run.moment_28 run.moment_29
unfolding laws IsLe pattern
happens_29 = record { client = run.has 1072 536; segment = segment_in (run.acknowledging 1072); later = run.has 1072 1072; is_there = refl; move = record { move = Acknowledge; window = 65535; may = refl; fits = refl; timestamps = None; carries = refl; segment_is = refl; after_is = refl }; sent_is = refl; after_is = refl }

happens_30 : Follows run.moment_29 run.moment_30
unfolding laws IsLe
happens_30 = (run.acknowledging 1072, refl, ((node_live (run.waiting 6), refl, turn_30), refl))

happens_31 : Follows run.moment_30 run.moment_31
unfolding laws IsLe
happens_31 = (refl, ((node_live (run.waiting 5), refl, turn_31), refl))

happens_32 : Follows run.moment_31 run.moment_32
unfolding laws IsLe
happens_32 = (refl, ((node_live (run.waiting 4), refl, turn_32), refl))

happens_33 : Follows run.moment_32 run.moment_33
unfolding laws IsLe
happens_33 = (refl, ((node_live (run.waiting 3), refl, turn_33), refl))

happens_34 : Follows run.moment_33 run.moment_34
unfolding laws IsLe
happens_34 = (refl, ((node_live (run.waiting 2), refl, turn_34), refl))

happens_35 : Follows run.moment_34 run.moment_35
unfolding laws IsLe
happens_35 = (refl, ((node_live (run.waiting 1), refl, turn_35), refl))

happens_36 : Follows run.moment_35 run.moment_36
unfolding laws IsLe
happens_36 = (refl, ((node_live run.expired_point, refl, turn_36), refl))

happens_37 : Follows run.moment_36 run.moment_37
unfolding laws IsLe pattern
happens_37 = (run.text 1072 536, refl, (refl, refl))

happens_38 : Follows run.moment_37 run.moment_38
unfolding laws IsLe pattern
happens_38 = record { client = run.has 1608 1072; segment = segment_in (run.acknowledging 1608); later = run.has 1608 1608; is_there = refl; move = record { move = Acknowledge; window = 65535; may = refl; fits = refl; timestamps = None; carries = refl; segment_is = refl; after_is = refl }; sent_is = refl; after_is = refl }

happens_39 : Follows run.moment_38 run.moment_39
unfolding laws IsLe
happens_39 = (run.acknowledging 1608, refl, ((node_live run.recovering_point, refl, turn_39), refl))

happens_40 : Follows run.moment_39 run.moment_40
unfolding laws IsLe
happens_40 = (refl, refl, refl)

happens_41 : Follows run.moment_40 run.moment_41
unfolding laws IsLe
happens_41 = (refl, (le_by_compare 2 2 tt, le_by_compare 3 (2 ^ 64) tt), refl, refl)

happens_42 : Follows run.moment_41 run.moment_42
unfolding laws IsLe
happens_42 = (to_log 2 HelloMsg, refl, (refl, refl))

happens_43 : Follows run.moment_42 run.moment_43
unfolding laws IsLe
happens_43 = (from_log 2 (SummaryMsg 1), refl, ((run.fetching [], refl, turn_43), refl))

happens_44 : Follows run.moment_43 run.moment_44
unfolding laws IsLe
happens_44 = (to_log 2 (ListMsg 0), refl, (refl, refl))

happens_45 : Follows run.moment_44 run.moment_45
unfolding laws IsLe
happens_45 = (from_log 2 (EntryMsg 0 run.head), refl, ((run.fetching (run.bare_entry ∷ []), refl, turn_45), refl))

happens_46 : Follows run.moment_45 run.moment_46
unfolding laws IsLe
happens_46 = (to_log 2 (CutsMsg key 0), refl, (refl, refl))

happens_47 : Follows run.moment_46 run.moment_47
unfolding laws IsLe
happens_47 = (from_log 2 (LensMsg key 0 (4 ∷ [])), refl, ((run.fetching (run.entry_with_length ∷ []), refl, turn_47), refl))

happens_48 : Follows run.moment_47 run.moment_48
unfolding laws IsLe
happens_48 = (to_log 2 (BytesMsg key 0), refl, (refl, refl))

happens_49 : Follows run.moment_48 run.moment_49
unfolding laws IsLe
happens_49 = (from_log 2 (PartMsg key 0 run.request), refl, ((serving_in wan 2 900000 run.restarted, refl, turn_49), refl))

is_joint : Joint transfer run.start run.trace
is_joint = (((((((((((((((((((((((((((((((((((((((((((((((((starts, happens_1), happens_2), happens_3), happens_4), happens_5), happens_6), happens_7), happens_8), happens_9), happens_10), happens_11), happens_12), happens_13), happens_14), happens_15), happens_16), happens_17), happens_18), happens_19), happens_20), happens_21), happens_22), happens_23), happens_24), happens_25), happens_26), happens_27), happens_28), happens_29), happens_30), happens_31), happens_32), happens_33), happens_34), happens_35), happens_36), happens_37), happens_38), happens_39), happens_40), happens_41), happens_42), happens_43), happens_44), happens_45), happens_46), happens_47), happens_48), happens_49)

-- and is allowed
allowed_4 : IsAllowed run.moment_3.world run.moment_4
allowed_4 = record { allowed = refl; scripted = scripted run.moment_3.world run.moment_4.event (client_with run.request) (Syn None) 1 run.moment_4.world refl refl refl }

allowed_9 : IsAllowed run.moment_8.world run.moment_9
allowed_9 = record { allowed = refl; scripted = scripted run.moment_8.world run.moment_9.event run.open_client Acknowledge 1 run.moment_9.world refl refl refl }

allowed_11 : IsAllowed run.moment_10.world run.moment_11
allowed_11 = record { allowed = refl; scripted = scripted run.moment_10.world run.moment_11.event run.open_client (Text 0 4) 1 run.moment_11.world refl refl refl }

allowed_20 : IsAllowed run.moment_19.world run.moment_20
unfolding pattern
allowed_20 = record { allowed = refl; scripted = scripted run.moment_19.world run.moment_20.event (run.has 536 0) Acknowledge 1 run.moment_20.world refl refl refl }

allowed_22 : IsAllowed run.moment_21.world run.moment_22
unfolding pattern
allowed_22 = record { allowed = refl; scripted = scripted run.moment_21.world run.moment_22.event (run.has 536 536) Acknowledge 1 run.moment_22.world refl refl refl }

allowed_24 : IsAllowed run.moment_23.world run.moment_24
unfolding pattern
allowed_24 = record { allowed = refl; scripted = scripted run.moment_23.world run.moment_24.event (run.has 536 536) Acknowledge 1 run.moment_24.world refl refl refl }

allowed_26 : IsAllowed run.moment_25.world run.moment_26
unfolding pattern
allowed_26 = record { allowed = refl; scripted = scripted run.moment_25.world run.moment_26.event (run.has 536 536) Acknowledge 1 run.moment_26.world refl refl refl }

allowed_29 : IsAllowed run.moment_28.world run.moment_29
unfolding pattern
allowed_29 = record { allowed = refl; scripted = scripted run.moment_28.world run.moment_29.event (run.has 1072 536) Acknowledge 1 run.moment_29.world refl refl refl }

allowed_38 : IsAllowed run.moment_37.world run.moment_38
unfolding pattern
allowed_38 = record { allowed = refl; scripted = scripted run.moment_37.world run.moment_38.event (run.has 1608 1072) Acknowledge 1 run.moment_38.world refl refl refl }

pub is_legal : Legal (λ kind. transfer) run.schedule run.trace
is_legal = record {
  joint = is_joint;
  events_are = refl;
  allowed = (((((((((((((((((((((((((((((((((((((((((((((((((tt, still run.start run.moment_1 refl refl), still run.moment_1.world run.moment_2 refl refl), still run.moment_2.world run.moment_3 refl refl), allowed_4), still run.moment_4.world run.moment_5 refl refl), still run.moment_5.world run.moment_6 refl refl), still run.moment_6.world run.moment_7 refl refl), still run.moment_7.world run.moment_8 refl refl), allowed_9), still run.moment_9.world run.moment_10 refl refl), allowed_11), still run.moment_11.world run.moment_12 refl refl), still run.moment_12.world run.moment_13 refl refl), still run.moment_13.world run.moment_14 refl refl), still run.moment_14.world run.moment_15 refl refl), still run.moment_15.world run.moment_16 refl refl), still run.moment_16.world run.moment_17 refl refl), still run.moment_17.world run.moment_18 refl refl), still run.moment_18.world run.moment_19 refl refl), allowed_20), still run.moment_20.world run.moment_21 refl refl), allowed_22), still run.moment_22.world run.moment_23 refl refl), allowed_24), still run.moment_24.world run.moment_25 refl refl), allowed_26), still run.moment_26.world run.moment_27 refl refl), still run.moment_27.world run.moment_28 refl refl), allowed_29), still run.moment_29.world run.moment_30 refl refl), still run.moment_30.world run.moment_31 refl refl), still run.moment_31.world run.moment_32 refl refl), still run.moment_32.world run.moment_33 refl refl), still run.moment_33.world run.moment_34 refl refl), still run.moment_34.world run.moment_35 refl refl), still run.moment_35.world run.moment_36 refl refl), still run.moment_36.world run.moment_37 refl refl), allowed_38), still run.moment_38.world run.moment_39 refl refl), still run.moment_39.world run.moment_40 refl refl), still run.moment_40.world run.moment_41 refl refl), still run.moment_41.world run.moment_42 refl refl), still run.moment_42.world run.moment_43 refl refl), still run.moment_43.world run.moment_44 refl refl), still run.moment_44.world run.moment_45 refl refl), still run.moment_45.world run.moment_46 refl refl), still run.moment_46.world run.moment_47 refl refl), still run.moment_47.world run.moment_48 refl refl), still run.moment_48.world run.moment_49 refl refl);
}

-- the wrong turns: the timer expires one tick early, and a partial acknowledgement retransmits nothing, before and after an expiry
pub one_too_early : IsUnlawful (node_live (run.waiting 2)) Tick_comes run.one_too_early
unfolding pattern
one_too_early = refused transfer (node_live (run.waiting 2)) (node_live (run.waiting 1)) Tick_comes run.moment_35.sent run.one_too_early turn_35 refl refl

pub never_recovered : IsUnlawful (node_live run.losing_point) (run.acknowledged 1072) run.never_recovered
unfolding pattern
never_recovered = refused transfer (node_live run.losing_point) (node_live (run.waiting 6)) (run.acknowledged 1072) run.moment_30.sent run.never_recovered turn_30 refl refl

pub never_recovered_later : IsUnlawful (node_live run.expired_point) (run.acknowledged 1608) run.never_recovered_later
unfolding pattern
never_recovered_later = refused transfer (node_live run.expired_point) (node_live run.recovering_point) (run.acknowledged 1608) run.moment_39.sent run.never_recovered_later turn_39 refl refl
