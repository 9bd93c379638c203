-- The first client's life in the worked run is a joint trace: each equation computes.
use Rattle.std.proofs.Common.{◌^◌, refl, true, false, Some, None, [], ◌∷◌}
use native.Mathlib.Bridge.{le_by_compare, IsLe}
use Rattle.seq_arith.specs.Message.Body.{SummaryMsg, OpenMsg, OpenedMsg, DataMsg, StableMsg, ReadMsg, ReadsMsg, DoneMsg, EndedMsg, HelloMsg}
use Rattle.ft_model.specs.Client.Move.{Syn, Fin, Acknowledge}
use Rattle.ft_model.specs.Lawful.{LawfulTurn}
use Rattle.ft_model.specs.News.News.{Logged, Ticks}
use Rattle.ft_model.specs.Node.Input.{Message_comes, Tick_comes}
use Rattle.ft_model.specs.Node.Place.{Lives, Ended}
use Rattle.ft_model.specs.Network.Packet.{To_server}
use Rattle.ft_model.specs.ServingTurn.{PlaceTurn}
use Rattle.ft_model.specs.World.{World, Moment, Joint, Happens}
use Rattle.ft_model.specs.WorkedRuns.Common.{echo, server, key, client_with, to_client, to_log, from_log, numbers, kept_with, part_with, idle, opening_at, serving_at}
use Rattle.ft_model.specs.WorkedRuns.Closing as closing
use Rattle.ft_model.proofs.AllowedMoments.{starts_with}
use Rattle.ft_model.proofs.Closing.{first_is_lawful}
use Rattle.ft_model.proofs.Turns.{laws, alone, goes, serves}
use Rattle.long_laws.specs.WorkedTrace as run

-- what happens in a moment
abbrev Comes : World → Moment → Type 0
Comes before moment = Happens echo before moment.event moment.sent moment.world

-- the turns after the server's FIN is acknowledged
turn_21 : LawfulTurn echo (serving_at 1 5000 closing.over) (Message_comes (record { boot = 1; body = StableMsg (kept_with 0 true 1) })) [] (serving_at 1 5000 closing.over)
unfolding laws
turn_21 = serves echo 1 5000 (Message_comes (record { boot = 1; body = StableMsg (kept_with 0 true 1) })) closing.over closing.over [] refl refl refl (closing.over, refl, goes echo server 1 (Logged (kept_with 0 true 1)) closing.over closing.over [] refl refl refl refl)

turn_22 : LawfulTurn echo (serving_at 1 5000 closing.over) Tick_comes [] (serving_at 1 5000 (run.ticked 1))
unfolding laws
turn_22 = serves echo 1 5000 Tick_comes closing.over (run.ticked 1) [] refl refl refl ((run.ticked 1), refl, goes echo server 1 Ticks closing.over (run.ticked 1) [] refl refl refl refl)

turn_23 : LawfulTurn echo (serving_at 1 5000 (run.ticked 1)) Tick_comes [] (serving_at 1 5000 (run.ticked 2))
unfolding laws
turn_23 = serves echo 1 5000 Tick_comes (run.ticked 1) (run.ticked 2) [] refl refl refl ((run.ticked 2), refl, goes echo server 1 Ticks (run.ticked 1) (run.ticked 2) [] refl refl refl refl)

turn_24 : LawfulTurn echo (serving_at 1 5000 (run.ticked 2)) Tick_comes [] (serving_at 1 5000 (run.ticked 3))
unfolding laws
turn_24 = serves echo 1 5000 Tick_comes (run.ticked 2) (run.ticked 3) [] refl refl refl ((run.ticked 3), refl, goes echo server 1 Ticks (run.ticked 2) (run.ticked 3) [] refl refl refl refl)

turn_25 : LawfulTurn echo (serving_at 1 5000 (run.ticked 3)) Tick_comes (to_log 1 (DoneMsg key) ∷ []) (serving_at 1 5000 (run.ticked 4))
unfolding laws
turn_25 = serves echo 1 5000 Tick_comes (run.ticked 3) (run.ticked 4) (to_log 1 (DoneMsg key) ∷ []) refl refl refl ((run.ticked 4), refl, goes echo server 1 Ticks (run.ticked 3) (run.ticked 4) (to_log 1 (DoneMsg key) ∷ []) refl refl refl refl)

-- Ended comes, and then ticks change nothing
turn_27 : LawfulTurn echo (serving_at 1 5000 (run.ticked 4)) (Message_comes (record { boot = 1; body = EndedMsg key })) [] (run.serving 1 (Ended key ∷ []))
unfolding laws
turn_27 = record {
  server = refl;
  profile = refl;
  boot = refl;
  isn = refl;
  live = refl;
  stage = (
    Ended key ∷ [],
    refl,
    record {
      went = Ended key ∷ [];
      by_places = [];
      all_go = alone (PlaceTurn echo (serving_at 1 5000 (run.ticked 4)) (Message_comes (record { boot = 1; body = EndedMsg key }))) (Lives (run.ticked 4)) (Ended key ∷ []) [] (refl, refl);
      places = refl;
      packets = refl;
    },
  );
}

idles : LawfulTurn echo (run.serving 1 (Ended key ∷ [])) Tick_comes [] (run.serving 1 (Ended key ∷ []))
unfolding laws
idles = record {
  server = refl;
  profile = refl;
  boot = refl;
  isn = refl;
  live = refl;
  stage = (
    Ended key ∷ [],
    refl,
    record {
      went = Ended key ∷ [];
      by_places = [];
      all_go = alone (PlaceTurn echo (run.serving 1 (Ended key ∷ [])) Tick_comes) (Ended key) (Ended key ∷ []) [] (refl, refl);
      places = refl;
      packets = refl;
    },
  );
}

-- the moments

happens_1 : Comes run.start run.moment_1
unfolding laws IsLe
happens_1 = (refl, (le_by_compare 1 1 tt, le_by_compare 2 (2 ^ 64) tt), refl, refl)

happens_2 : Comes run.moment_1.world run.moment_2
unfolding laws IsLe
happens_2 = (to_log 1 HelloMsg, refl, (refl, refl))

happens_3 : Comes run.moment_2.world run.moment_3
unfolding laws IsLe
happens_3 = (from_log 1 (SummaryMsg 0), refl, ((idle 1 5000, refl, first_is_lawful.1.0.0.0.0.0.0.0.1), refl))

happens_4 : Comes run.moment_3.world run.moment_4
unfolding laws IsLe
happens_4 = record { client = client_with []; segment = closing.syn; later = run.opening; is_there = refl; move = record { move = Syn None; window = 65535; may = refl; fits = refl; timestamps = None; carries = refl; segment_is = refl; after_is = refl }; sent_is = refl; after_is = refl }

happens_5 : Comes run.moment_4.world run.moment_5
unfolding laws IsLe
happens_5 = (To_server closing.syn, refl, ((opening_at 1 5000, refl, first_is_lawful.1.0.0.0.0.0.0.1), refl))

happens_6 : Comes run.moment_5.world run.moment_6
unfolding laws IsLe
happens_6 = (to_log 1 (OpenMsg numbers), refl, (refl, refl))

happens_7 : Comes run.moment_6.world run.moment_7
unfolding laws IsLe
happens_7 = (from_log 1 (OpenedMsg numbers), refl, ((serving_at 1 5000 closing.begun, refl, first_is_lawful.1.0.0.0.0.0.1), refl))

happens_8 : Comes run.moment_7.world run.moment_8
unfolding laws IsLe
happens_8 = (to_client 18 5000 1001 65535 (Some 1460) [], refl, (refl, refl))

happens_9 : Comes run.moment_8.world run.moment_9
unfolding laws IsLe
happens_9 = record { client = run.open_client; segment = closing.first_ack; later = run.open_client; is_there = refl; move = record { move = Acknowledge; window = 65535; may = refl; fits = refl; timestamps = None; carries = refl; segment_is = refl; after_is = refl }; sent_is = refl; after_is = refl }

happens_10 : Comes run.moment_9.world run.moment_10
unfolding laws IsLe
happens_10 = (To_server closing.first_ack, refl, ((serving_at 1 5000 closing.opened, refl, first_is_lawful.1.0.0.0.0.1), refl))

happens_11 : Comes run.moment_10.world run.moment_11
unfolding laws IsLe
happens_11 = record { client = run.open_client; segment = closing.fin; later = run.closing_client; is_there = refl; move = record { move = Fin; window = 65535; may = refl; fits = refl; timestamps = None; carries = refl; segment_is = refl; after_is = refl }; sent_is = refl; after_is = refl }

happens_12 : Comes run.moment_11.world run.moment_12
unfolding laws IsLe
happens_12 = (To_server closing.fin, refl, ((serving_at 1 5000 closing.taken, refl, first_is_lawful.1.0.0.0.1), refl))

happens_13 : Comes run.moment_12.world run.moment_13
unfolding laws IsLe
happens_13 = (to_log 1 (DataMsg (part_with 0 0 true [])), refl, (refl, refl))

happens_14 : Comes run.moment_13.world run.moment_14
unfolding laws IsLe
happens_14 = (from_log 1 (StableMsg (kept_with 0 true 0)), refl, ((serving_at 1 5000 closing.logged, refl, first_is_lawful.1.0.0.1), refl))

happens_15 : Comes run.moment_14.world run.moment_15
unfolding laws IsLe
happens_15 = (to_log 1 (ReadMsg key 0 0), refl, (refl, refl))

happens_16 : Comes run.moment_15.world run.moment_16
unfolding laws IsLe
happens_16 = (from_log 1 (ReadsMsg (kept_with 0 true 1)), refl, ((serving_at 1 5000 closing.closed, refl, first_is_lawful.1.0.1), refl))

happens_17 : Comes run.moment_16.world run.moment_17
unfolding laws IsLe
happens_17 = (to_client 17 5001 1002 65535 None [], refl, (refl, refl))

happens_18 : Comes run.moment_17.world run.moment_18
unfolding laws IsLe
happens_18 = record { client = run.ended_client; segment = closing.last_ack; later = run.ended_client; is_there = refl; move = record { move = Acknowledge; window = 65535; may = refl; fits = refl; timestamps = None; carries = refl; segment_is = refl; after_is = refl }; sent_is = refl; after_is = refl }

happens_19 : Comes run.moment_18.world run.moment_19
unfolding laws IsLe
happens_19 = (To_server closing.last_ack, refl, ((serving_at 1 5000 closing.over, refl, first_is_lawful.1.1), refl))

happens_20 : Comes run.moment_19.world run.moment_20
unfolding laws IsLe
happens_20 = (to_log 1 (DataMsg (part_with 0 1 false [])), refl, (refl, refl))

happens_21 : Comes run.moment_20.world run.moment_21
unfolding laws IsLe
happens_21 = (from_log 1 (StableMsg (kept_with 0 true 1)), refl, ((serving_at 1 5000 closing.over, refl, turn_21), refl))

happens_22 : Comes run.moment_21.world run.moment_22
unfolding laws IsLe
happens_22 = (refl, ((serving_at 1 5000 (run.ticked 1), refl, turn_22), refl))

happens_23 : Comes run.moment_22.world run.moment_23
unfolding laws IsLe
happens_23 = (refl, ((serving_at 1 5000 (run.ticked 2), refl, turn_23), refl))

happens_24 : Comes run.moment_23.world run.moment_24
unfolding laws IsLe
happens_24 = (refl, ((serving_at 1 5000 (run.ticked 3), refl, turn_24), refl))

happens_25 : Comes run.moment_24.world run.moment_25
unfolding laws IsLe
happens_25 = (refl, ((serving_at 1 5000 (run.ticked 4), refl, turn_25), refl))

happens_26 : Comes run.moment_25.world run.moment_26
unfolding laws IsLe
happens_26 = (to_log 1 (DoneMsg key), refl, (refl, refl))

happens_27 : Comes run.moment_26.world run.moment_27
unfolding laws IsLe
happens_27 = (from_log 1 (EndedMsg key), refl, ((run.serving 1 (Ended key ∷ []), refl, turn_27), refl))

happens_28 : Comes run.moment_27.world run.moment_28
unfolding laws IsLe
happens_28 = (refl, ((run.serving 1 (Ended key ∷ []), refl, idles), refl))

happens_29 : Comes run.moment_28.world run.moment_29
unfolding laws IsLe
happens_29 = (refl, ((run.serving 1 (Ended key ∷ []), refl, idles), refl))

pub is_joint : Joint echo run.start run.first_life
unfolding IsLe
is_joint = (((((((((((((((((((((((((((((starts_with [] tt (le_by_compare 0 (2 ^ 24) tt), happens_1), happens_2), happens_3), happens_4), happens_5), happens_6), happens_7), happens_8), happens_9), happens_10), happens_11), happens_12), happens_13), happens_14), happens_15), happens_16), happens_17), happens_18), happens_19), happens_20), happens_21), happens_22), happens_23), happens_24), happens_25), happens_26), happens_27), happens_28), happens_29)
