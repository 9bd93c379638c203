-- The run with a client without room, whole: each moment happens and is allowed, and its report computes.
use Rattle.std.proofs.Common.{ℕ, zero, suc, ◌^◌, refl, None, List, [], ◌∷◌}
use native.Mathlib.Bridge.{le_by_compare, IsLe}
use Rattle.ft_model.specs.Client.Move.{Syn, Text, Acknowledge}
use Rattle.ft_model.specs.Network.{Packet}
use Rattle.ft_model.specs.Network.Packet.{To_server}
use Rattle.ft_model.specs.World.{Joint, Happens}
use Rattle.ft_model.specs.Legal.{IsAllowed, Legal}
use Rattle.ft_model.specs.WorkedRuns.Common.{echo, hello_text, client_with, idle, opening_at, serving_at}
use Rattle.ft_model.specs.WorkedRuns.ZeroWindow as turn
use Rattle.ft_model.specs.WorkedRuns.ZeroWindowTrace as run
use Rattle.ft_model.proofs.AllowedMoments.{starts_with_hello}
use Rattle.ft_model.proofs.AskedMoves.{scripted, still}
use Rattle.ft_model.proofs.Turns.{laws}
use Rattle.ft_model.proofs.ZeroWindow.{probe_1, probe_2, probe_3, probe_4, probe_5, probe_6, probe_7, probe_8, probe_9, probe_10, probe_11, probe_12, probe_13, probe_14, probe_15}

-- the packet of a place in a turn
abbrev nth : ℕ → List Packet → Packet
nth n [] = To_server turn.syn
nth zero (packet ∷ packets) = packet
nth (suc n) (packet ∷ packets) = nth n packets

-- what happens
happens_1 : Happens echo run.start run.moment_1.event run.moment_1.sent run.moment_1.world
unfolding laws IsLe
happens_1 = (refl, (le_by_compare 1 1 tt, le_by_compare 2 (2 ^ 64) tt), refl, refl)

happens_2 : Happens echo run.moment_1.world run.moment_2.event run.moment_2.sent run.moment_2.world
unfolding laws IsLe
happens_2 = ((nth 0 run.moment_1.sent), refl, (refl, refl))

happens_3 : Happens echo run.moment_2.world run.moment_3.event run.moment_3.sent run.moment_3.world
unfolding laws IsLe
happens_3 = ((nth 0 run.moment_2.sent), refl, ((idle 1 5000, refl, probe_1), refl))

happens_4 : Happens echo run.moment_3.world run.moment_4.event run.moment_4.sent run.moment_4.world
unfolding laws IsLe
happens_4 = record { client = client_with hello_text; segment = turn.syn; later = run.opening; is_there = refl; move = record { move = Syn None; window = 0; may = refl; fits = refl; timestamps = None; carries = refl; segment_is = refl; after_is = refl }; sent_is = refl; after_is = refl }

happens_5 : Happens echo run.moment_4.world run.moment_5.event run.moment_5.sent run.moment_5.world
unfolding laws IsLe
happens_5 = ((nth 0 run.moment_4.sent), refl, ((opening_at 1 5000, refl, probe_2), refl))

happens_6 : Happens echo run.moment_5.world run.moment_6.event run.moment_6.sent run.moment_6.world
unfolding laws IsLe
happens_6 = ((nth 0 run.moment_5.sent), refl, (refl, refl))

happens_7 : Happens echo run.moment_6.world run.moment_7.event run.moment_7.sent run.moment_7.world
unfolding laws IsLe
happens_7 = ((nth 0 run.moment_6.sent), refl, ((serving_at 1 5000 turn.begun, refl, probe_3), refl))

happens_8 : Happens echo run.moment_7.world run.moment_8.event run.moment_8.sent run.moment_8.world
unfolding laws IsLe
happens_8 = ((nth 0 run.moment_7.sent), refl, (refl, refl))

happens_9 : Happens echo run.moment_8.world run.moment_9.event run.moment_9.sent run.moment_9.world
unfolding laws IsLe
happens_9 = record { client = run.open_client; segment = turn.first_ack; later = run.open_client; is_there = refl; move = record { move = Acknowledge; window = 0; may = refl; fits = refl; timestamps = None; carries = refl; segment_is = refl; after_is = refl }; sent_is = refl; after_is = refl }

happens_10 : Happens echo run.moment_9.world run.moment_10.event run.moment_10.sent run.moment_10.world
unfolding laws IsLe
happens_10 = ((nth 0 run.moment_9.sent), refl, ((serving_at 1 5000 turn.opened, refl, probe_4), refl))

happens_11 : Happens echo run.moment_10.world run.moment_11.event run.moment_11.sent run.moment_11.world
unfolding laws IsLe
happens_11 = record { client = run.open_client; segment = turn.text; later = run.reported_client; is_there = refl; move = record { move = Text 0 5; window = 0; may = refl; fits = refl; timestamps = None; carries = refl; segment_is = refl; after_is = refl }; sent_is = refl; after_is = refl }

happens_12 : Happens echo run.moment_11.world run.moment_12.event run.moment_12.sent run.moment_12.world
unfolding laws IsLe
happens_12 = ((nth 0 run.moment_11.sent), refl, ((serving_at 1 5000 turn.taken, refl, probe_5), refl))

happens_13 : Happens echo run.moment_12.world run.moment_13.event run.moment_13.sent run.moment_13.world
unfolding laws IsLe
happens_13 = ((nth 1 run.moment_12.sent), refl, (refl, refl))

happens_14 : Happens echo run.moment_13.world run.moment_14.event run.moment_14.sent run.moment_14.world
unfolding laws IsLe
happens_14 = ((nth 0 run.moment_13.sent), refl, ((serving_at 1 5000 turn.logged, refl, probe_6), refl))

happens_15 : Happens echo run.moment_14.world run.moment_15.event run.moment_15.sent run.moment_15.world
unfolding laws IsLe
happens_15 = ((nth 2 run.moment_12.sent), refl, (refl, refl))

happens_16 : Happens echo run.moment_15.world run.moment_16.event run.moment_16.sent run.moment_16.world
unfolding laws IsLe
happens_16 = ((nth 0 run.moment_15.sent), refl, ((serving_at 1 5000 turn.waiting, refl, probe_7), refl))

happens_17 : Happens echo run.moment_16.world run.moment_17.event run.moment_17.sent run.moment_17.world
unfolding laws IsLe
happens_17 = (refl, ((serving_at 1 5000 (turn.probed 2 2), refl, probe_8), refl))

happens_18 : Happens echo run.moment_17.world run.moment_18.event run.moment_18.sent run.moment_18.world
unfolding laws IsLe
happens_18 = (refl, ((serving_at 1 5000 (turn.probed 2 1), refl, probe_9), refl))

happens_19 : Happens echo run.moment_18.world run.moment_19.event run.moment_19.sent run.moment_19.world
unfolding laws IsLe
happens_19 = (refl, ((serving_at 1 5000 (turn.probed 4 4), refl, probe_10), refl))

happens_20 : Happens echo run.moment_19.world run.moment_20.event run.moment_20.sent run.moment_20.world
unfolding laws IsLe
happens_20 = record { client = run.reported_client; segment = turn.room; later = run.roomy_client; is_there = refl; move = record { move = Acknowledge; window = 5; may = refl; fits = refl; timestamps = None; carries = refl; segment_is = refl; after_is = refl }; sent_is = refl; after_is = refl }

happens_21 : Happens echo run.moment_20.world run.moment_21.event run.moment_21.sent run.moment_21.world
unfolding laws IsLe
happens_21 = ((nth 0 run.moment_20.sent), refl, ((serving_at 1 5000 (turn.given 4 4), refl, probe_11), refl))

happens_22 : Happens echo run.moment_21.world run.moment_22.event run.moment_22.sent run.moment_22.world
unfolding laws IsLe
happens_22 = (refl, ((serving_at 1 5000 (turn.given 4 3), refl, probe_12), refl))

happens_23 : Happens echo run.moment_22.world run.moment_23.event run.moment_23.sent run.moment_23.world
unfolding laws IsLe
happens_23 = (refl, ((serving_at 1 5000 (turn.given 4 2), refl, probe_13), refl))

happens_24 : Happens echo run.moment_23.world run.moment_24.event run.moment_24.sent run.moment_24.world
unfolding laws IsLe
happens_24 = (refl, ((serving_at 1 5000 (turn.given 4 1), refl, probe_14), refl))

happens_25 : Happens echo run.moment_24.world run.moment_25.event run.moment_25.sent run.moment_25.world
unfolding laws IsLe
happens_25 = (refl, ((serving_at 1 5000 turn.lost, refl, probe_15), refl))

is_joint : Joint echo run.start run.trace
is_joint = (((((((((((((((((((((((((starts_with_hello, happens_1), happens_2), happens_3), happens_4), happens_5), happens_6), happens_7), happens_8), happens_9), happens_10), happens_11), happens_12), happens_13), happens_14), happens_15), happens_16), happens_17), happens_18), happens_19), happens_20), happens_21), happens_22), happens_23), happens_24), happens_25)

-- and is allowed
allowed_4 : IsAllowed run.moment_3.world run.moment_4
allowed_4 = record { allowed = refl; scripted = scripted run.moment_3.world run.moment_4.event (client_with hello_text) (Syn None) 1 run.moment_4.world refl refl refl }

allowed_9 : IsAllowed run.moment_8.world run.moment_9
allowed_9 = record { allowed = refl; scripted = scripted run.moment_8.world run.moment_9.event run.open_client Acknowledge 1 run.moment_9.world refl refl refl }

allowed_11 : IsAllowed run.moment_10.world run.moment_11
allowed_11 = record { allowed = refl; scripted = scripted run.moment_10.world run.moment_11.event run.open_client (Text 0 5) 1 run.moment_11.world refl refl refl }

allowed_20 : IsAllowed run.moment_19.world run.moment_20
allowed_20 = record { allowed = refl; scripted = scripted run.moment_19.world run.moment_20.event run.reported_client Acknowledge 1 run.moment_20.world refl refl refl }

pub is_legal : Legal (λ kind. echo) run.schedule run.trace
is_legal = record {
  joint = is_joint;
  events_are = refl;
  allowed = (((((((((((((((((((((((((tt, still run.start run.moment_1 refl refl), still run.moment_1.world run.moment_2 refl refl), still run.moment_2.world run.moment_3 refl refl), allowed_4), still run.moment_4.world run.moment_5 refl refl), still run.moment_5.world run.moment_6 refl refl), still run.moment_6.world run.moment_7 refl refl), still run.moment_7.world run.moment_8 refl refl), allowed_9), still run.moment_9.world run.moment_10 refl refl), allowed_11), still run.moment_11.world run.moment_12 refl refl), still run.moment_12.world run.moment_13 refl refl), still run.moment_13.world run.moment_14 refl refl), still run.moment_14.world run.moment_15 refl refl), still run.moment_15.world run.moment_16 refl refl), still run.moment_16.world run.moment_17 refl refl), still run.moment_17.world run.moment_18 refl refl), still run.moment_18.world run.moment_19 refl refl), allowed_20), still run.moment_20.world run.moment_21 refl refl), still run.moment_21.world run.moment_22 refl refl), still run.moment_22.world run.moment_23 refl refl), still run.moment_23.world run.moment_24 refl refl), still run.moment_24.world run.moment_25 refl refl);
}
