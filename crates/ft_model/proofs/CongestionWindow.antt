-- The run in which the congestion window says how much leaves, whole: each moment happens and is allowed.
use Rattle.std.proofs.Common.{◌^◌, false, refl, None, [], ◌∷◌}
use native.Mathlib.Bridge.{le_by_compare, IsLe}
use Rattle.tcp_rules.specs.declared.timestamping.Timestamping.TheVariants.{Off}
use Rattle.ft_model.specs.Client.Move.{Syn, Text, Acknowledge}
use Rattle.ft_model.specs.News.News.{Comes, Logged}
use Rattle.ft_model.specs.Node.Stage.{Serving}
use Rattle.ft_model.specs.Node.Place.{Opens}
use Rattle.ft_model.specs.Node.Input.{Packet_comes}
use Rattle.server_trait.specs.Service.{AreBytes}
use Rattle.ft_model.specs.World.{Moment, IsStart, Joint, Happens}
use Rattle.ft_model.specs.Legal.{IsAllowed, Legal}
use Rattle.ft_model.specs.Lawful.{LawfulTurn}
use Rattle.ft_model.specs.WorkedRuns.Common.{server, numbers, kept_with, client_with}
use Rattle.ft_model.specs.WorkedRuns.FirstPath as path
use Rattle.ft_model.specs.WorkedRuns.CongestionWindow as run
use Rattle.ft_model.specs.WorkedRuns.CongestionWindow.{pattern, given}
use Rattle.ft_model.proofs.AllowedMoments.{starts_with}
use Rattle.ft_model.proofs.AskedMoves.{scripted, still}
use Rattle.ft_model.proofs.FirstPath.{turn_3, turn_5, turn_7, turn_10}
use Rattle.ft_model.proofs.Turns.{laws, goes, serves, segment_in}
use Rattle.ft_model.proofs.WrongTurns.{refused}

-- the requests are taken and read
turn_12 : LawfulTurn run.transfer (path.node_live path.open_point) (Packet_comes (segment_in run.asking)) run.moment_12.sent (path.node_live run.asked_point)
unfolding laws pattern given
turn_12 = serves run.transfer 1 5000 (Packet_comes (segment_in run.asking)) path.open_point run.asked_point run.moment_12.sent refl refl refl
    (run.asked_point, refl, goes run.transfer server 1 (Comes (segment_in run.asking)) path.open_point run.asked_point run.moment_12.sent refl refl refl refl)

-- they are logged
turn_14 : LawfulTurn run.transfer (path.node_live run.asked_point) run.requests_are_logged run.moment_14.sent (path.node_live run.logged_point)
unfolding laws pattern given
turn_14 = serves run.transfer 1 5000 run.requests_are_logged run.asked_point run.logged_point run.moment_14.sent refl refl refl
    (run.logged_point, refl, goes run.transfer server 1 (Logged (kept_with 8 false 0)) run.asked_point run.logged_point run.moment_14.sent refl refl refl refl)

-- the read is logged: four segments leave
turn_16 : LawfulTurn run.transfer (path.node_live run.logged_point) run.read_is_logged run.moment_16.sent (path.node_live run.full_point)
unfolding laws pattern given
turn_16 = serves run.transfer 1 5000 run.read_is_logged run.logged_point run.full_point run.moment_16.sent refl refl refl
    (run.full_point, refl, goes run.transfer server 1 (Logged (kept_with 8 false 1)) run.logged_point run.full_point run.moment_16.sent refl refl refl refl)

-- one of them is acknowledged: two more leave
turn_19 : LawfulTurn run.transfer (path.node_live run.full_point) run.acknowledgement_comes run.moment_19.sent (path.node_live run.grown_point)
unfolding laws pattern given
turn_19 = serves run.transfer 1 5000 run.acknowledgement_comes run.full_point run.grown_point run.moment_19.sent refl refl refl
    (run.grown_point, refl, goes run.transfer server 1 (Comes (segment_in run.acknowledgement)) run.full_point run.grown_point run.moment_19.sent refl refl refl refl)

-- nothing leaves at the first duplicate, ..
turn_23 : LawfulTurn run.transfer (path.node_live run.grown_point) run.acknowledgement_comes run.moment_23.sent (path.node_live (run.repeated 1))
unfolding laws pattern given
turn_23 = serves run.transfer 1 5000 run.acknowledgement_comes run.grown_point (run.repeated 1) run.moment_23.sent refl refl refl
    ((run.repeated 1), refl, goes run.transfer server 1 (Comes (segment_in run.acknowledgement)) run.grown_point (run.repeated 1) run.moment_23.sent refl refl refl refl)

-- .. nor at the second one, ..
turn_24 : LawfulTurn run.transfer (path.node_live (run.repeated 1)) run.acknowledgement_comes run.moment_24.sent (path.node_live (run.repeated 2))
unfolding laws pattern given
turn_24 = serves run.transfer 1 5000 run.acknowledgement_comes (run.repeated 1) (run.repeated 2) run.moment_24.sent refl refl refl
    ((run.repeated 2), refl, goes run.transfer server 1 (Comes (segment_in run.acknowledgement)) (run.repeated 1) (run.repeated 2) run.moment_24.sent refl refl refl refl)

-- .. and at the third the missing segment leaves again, and 268 bytes more
turn_25 : LawfulTurn run.transfer (path.node_live (run.repeated 2)) run.acknowledgement_comes run.moment_25.sent (path.node_live run.recovering_point)
unfolding laws pattern given
turn_25 = serves run.transfer 1 5000 run.acknowledgement_comes (run.repeated 2) run.recovering_point run.moment_25.sent refl refl refl
    (run.recovering_point, refl, goes run.transfer server 1 (Comes (segment_in run.acknowledgement)) (run.repeated 2) run.recovering_point run.moment_25.sent refl refl refl refl)

are_bytes : AreBytes run.requests
unfolding IsLe
are_bytes = (
  le_by_compare 1 256 tt,
  (
    le_by_compare 1 256 tt,
    (
      le_by_compare 8 256 tt,
      (
        le_by_compare 256 256 tt,
        (le_by_compare 1 256 tt, (le_by_compare 1 256 tt, (le_by_compare 8 256 tt, (le_by_compare 256 256 tt, tt)))),
      ),
    ),
  ),
)

starts : IsStart run.start
unfolding IsLe
starts = starts_with run.requests are_bytes (le_by_compare 8 (2 ^ 24) tt)

abbrev Follows : Moment → Moment → Type 0
Follows before after = Happens run.transfer before.world after.event after.sent after.world

-- what happens
happens_1 : Happens run.transfer run.start run.moment_1.event run.moment_1.sent run.moment_1.world
unfolding laws IsLe
happens_1 = (refl, (le_by_compare 1 1 tt, le_by_compare 2 (2 ^ 64) tt), refl, refl)

happens_2 : Follows run.moment_1 run.moment_2
unfolding laws IsLe
happens_2 = (path.packet_1, refl, (refl, refl))

happens_3 : Follows run.moment_2 run.moment_3
unfolding laws IsLe
happens_3 = (path.packet_2, refl, ((path.node_at (Serving 0 []), refl, turn_3 run.transfer), refl))

happens_4 : Follows run.moment_3 run.moment_4
unfolding laws IsLe
happens_4 = record { client = client_with run.requests; segment = segment_in path.packet_3; later = run.opening; is_there = refl; move = record { move = Syn None; window = 65535; may = refl; fits = refl; timestamps = None; carries = refl; segment_is = refl; after_is = refl }; sent_is = refl; after_is = refl }

happens_5 : Follows run.moment_4 run.moment_5
unfolding laws IsLe
happens_5 = (path.packet_3, refl, ((path.node_at (Serving 1 (Opens numbers Off ∷ [])), refl, turn_5 run.transfer), refl))

happens_6 : Follows run.moment_5 run.moment_6
unfolding laws IsLe
happens_6 = (path.packet_4, refl, (refl, refl))

happens_7 : Follows run.moment_6 run.moment_7
unfolding laws IsLe
happens_7 = (path.packet_5, refl, ((path.node_live path.begun_point, refl, turn_7 run.transfer), refl))

happens_8 : Follows run.moment_7 run.moment_8
unfolding laws IsLe
happens_8 = (path.packet_6, refl, (refl, refl))

happens_9 : Follows run.moment_8 run.moment_9
unfolding laws IsLe
happens_9 = record { client = run.open_client; segment = segment_in path.packet_7; later = run.open_client; is_there = refl; move = record { move = Acknowledge; window = 65535; may = refl; fits = refl; timestamps = None; carries = refl; segment_is = refl; after_is = refl }; sent_is = refl; after_is = refl }

happens_10 : Follows run.moment_9 run.moment_10
unfolding laws IsLe
happens_10 = (path.packet_7, refl, ((path.node_live path.open_point, refl, turn_10 run.transfer), refl))

happens_11 : Follows run.moment_10 run.moment_11
unfolding laws IsLe
happens_11 = record { client = run.open_client; segment = segment_in run.asking; later = run.reported_client; is_there = refl; move = record { move = Text 0 8; window = 65535; may = refl; fits = refl; timestamps = None; carries = refl; segment_is = refl; after_is = refl }; sent_is = refl; after_is = refl }

happens_12 : Follows run.moment_11 run.moment_12
unfolding laws IsLe
happens_12 = (run.asking, refl, ((path.node_live run.asked_point, refl, turn_12), refl))

happens_13 : Follows run.moment_12 run.moment_13
unfolding laws IsLe
happens_13 = (run.copy, refl, (refl, refl))

happens_14 : Follows run.moment_13 run.moment_14
unfolding laws IsLe
happens_14 = (run.stable, refl, ((path.node_live run.logged_point, refl, turn_14), refl))

happens_15 : Follows run.moment_14 run.moment_15
unfolding laws IsLe
happens_15 = (run.read, refl, (refl, refl))

happens_16 : Follows run.moment_15 run.moment_16
unfolding laws IsLe
happens_16 = (run.reads, refl, ((path.node_live run.full_point, refl, turn_16), refl))

happens_17 : Follows run.moment_16 run.moment_17
unfolding laws IsLe pattern
happens_17 = (run.text 0 536, refl, (refl, refl))

happens_18 : Follows run.moment_17 run.moment_18
unfolding laws IsLe pattern
happens_18 = record { client = run.served_client; segment = segment_in run.acknowledgement; later = run.acknowledging_client; is_there = refl; move = record { move = Acknowledge; window = 65535; may = refl; fits = refl; timestamps = None; carries = refl; segment_is = refl; after_is = refl }; sent_is = refl; after_is = refl }

happens_19 : Follows run.moment_18 run.moment_19
unfolding laws IsLe
happens_19 = (run.acknowledgement, refl, ((path.node_live run.grown_point, refl, turn_19), refl))

happens_20 : Follows run.moment_19 run.moment_20
unfolding laws IsLe pattern
happens_20 = record { client = run.acknowledging_client; segment = segment_in run.acknowledgement; later = run.acknowledging_client; is_there = refl; move = record { move = Acknowledge; window = 65535; may = refl; fits = refl; timestamps = None; carries = refl; segment_is = refl; after_is = refl }; sent_is = refl; after_is = refl }

happens_21 : Follows run.moment_20 run.moment_21
unfolding laws IsLe pattern
happens_21 = record { client = run.acknowledging_client; segment = segment_in run.acknowledgement; later = run.acknowledging_client; is_there = refl; move = record { move = Acknowledge; window = 65535; may = refl; fits = refl; timestamps = None; carries = refl; segment_is = refl; after_is = refl }; sent_is = refl; after_is = refl }

happens_22 : Follows run.moment_21 run.moment_22
unfolding laws IsLe pattern
happens_22 = record { client = run.acknowledging_client; segment = segment_in run.acknowledgement; later = run.acknowledging_client; is_there = refl; move = record { move = Acknowledge; window = 65535; may = refl; fits = refl; timestamps = None; carries = refl; segment_is = refl; after_is = refl }; sent_is = refl; after_is = refl }

happens_23 : Follows run.moment_22 run.moment_23
unfolding laws IsLe
happens_23 = (run.acknowledgement, refl, ((path.node_live (run.repeated 1), refl, turn_23), refl))

happens_24 : Follows run.moment_23 run.moment_24
unfolding laws IsLe
happens_24 = (run.acknowledgement, refl, ((path.node_live (run.repeated 2), refl, turn_24), refl))

happens_25 : Follows run.moment_24 run.moment_25
unfolding laws IsLe
happens_25 = (run.acknowledgement, refl, ((path.node_live run.recovering_point, refl, turn_25), refl))

is_joint : Joint run.transfer run.start run.trace
is_joint = (((((((((((((((((((((((((starts, happens_1), happens_2), happens_3), happens_4), happens_5), happens_6), happens_7), happens_8), happens_9), happens_10), happens_11), happens_12), happens_13), happens_14), happens_15), happens_16), happens_17), happens_18), happens_19), happens_20), happens_21), happens_22), happens_23), happens_24), happens_25)

-- and is allowed
allowed_4 : IsAllowed run.moment_3.world run.moment_4
allowed_4 = record { allowed = refl; scripted = scripted run.moment_3.world run.moment_4.event (client_with run.requests) (Syn None) 1 run.moment_4.world refl refl refl }

allowed_9 : IsAllowed run.moment_8.world run.moment_9
allowed_9 = record { allowed = refl; scripted = scripted run.moment_8.world run.moment_9.event run.open_client Acknowledge 1 run.moment_9.world refl refl refl }

allowed_11 : IsAllowed run.moment_10.world run.moment_11
allowed_11 = record { allowed = refl; scripted = scripted run.moment_10.world run.moment_11.event run.open_client (Text 0 8) 1 run.moment_11.world refl refl refl }

allowed_18 : IsAllowed run.moment_17.world run.moment_18
unfolding pattern
allowed_18 = record { allowed = refl; scripted = scripted run.moment_17.world run.moment_18.event run.served_client Acknowledge 1 run.moment_18.world refl refl refl }

allowed_20 : IsAllowed run.moment_19.world run.moment_20
unfolding pattern
allowed_20 = record { allowed = refl; scripted = scripted run.moment_19.world run.moment_20.event run.acknowledging_client Acknowledge 1 run.moment_20.world refl refl refl }

allowed_21 : IsAllowed run.moment_20.world run.moment_21
unfolding pattern
allowed_21 = record { allowed = refl; scripted = scripted run.moment_20.world run.moment_21.event run.acknowledging_client Acknowledge 1 run.moment_21.world refl refl refl }

allowed_22 : IsAllowed run.moment_21.world run.moment_22
unfolding pattern
allowed_22 = record { allowed = refl; scripted = scripted run.moment_21.world run.moment_22.event run.acknowledging_client Acknowledge 1 run.moment_22.world refl refl refl }

pub is_legal : Legal (λ kind. run.transfer) run.schedule run.trace
is_legal = record {
  joint = is_joint;
  events_are = refl;
  allowed = (((((((((((((((((((((((((tt, still run.start run.moment_1 refl refl), still run.moment_1.world run.moment_2 refl refl), still run.moment_2.world run.moment_3 refl refl), allowed_4), still run.moment_4.world run.moment_5 refl refl), still run.moment_5.world run.moment_6 refl refl), still run.moment_6.world run.moment_7 refl refl), still run.moment_7.world run.moment_8 refl refl), allowed_9), still run.moment_9.world run.moment_10 refl refl), allowed_11), still run.moment_11.world run.moment_12 refl refl), still run.moment_12.world run.moment_13 refl refl), still run.moment_13.world run.moment_14 refl refl), still run.moment_14.world run.moment_15 refl refl), still run.moment_15.world run.moment_16 refl refl), still run.moment_16.world run.moment_17 refl refl), allowed_18), still run.moment_18.world run.moment_19 refl refl), allowed_20), allowed_21), allowed_22), still run.moment_22.world run.moment_23 refl refl), still run.moment_23.world run.moment_24 refl refl), still run.moment_24.world run.moment_25 refl refl);
}

-- the wrong turns: past the first window, a segment sent again at the second duplicate, and none at the third
pub past_the_window : run.IsUnlawful (path.node_live run.logged_point) run.read_is_logged run.past_the_window
unfolding pattern
past_the_window = refused run.transfer (path.node_live run.logged_point) (path.node_live run.full_point) run.read_is_logged run.moment_16.sent run.past_the_window turn_16 refl refl

pub one_too_early : run.IsUnlawful (path.node_live (run.repeated 1)) run.acknowledgement_comes run.one_too_early
unfolding pattern
one_too_early = refused run.transfer (path.node_live (run.repeated 1)) (path.node_live (run.repeated 2)) run.acknowledgement_comes run.moment_24.sent run.one_too_early turn_24 refl refl

pub never_again : run.IsUnlawful (path.node_live (run.repeated 2)) run.acknowledgement_comes run.never_again
unfolding pattern
never_again = refused run.transfer (path.node_live (run.repeated 2)) (path.node_live run.recovering_point) run.acknowledgement_comes run.moment_25.sent run.never_again turn_25 refl refl
