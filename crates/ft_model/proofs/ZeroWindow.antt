-- Each turn is lawful: each equation computes.
use Rattle.std.proofs.Common.{true, false, refl, [], ◌∷◌}
use Rattle.tcp_rules.specs.declared.timestamping.Timestamping.TheVariants.{Off}
use Rattle.tcp_rules.specs.Profile.{plain}
use Rattle.ft_model.specs.News.News.{Comes, Logged, Ticks, Begins}
use Rattle.ft_model.specs.Opening.{point_opened}
use Rattle.ft_model.specs.Node.{Node, booted}
use Rattle.ft_model.specs.Node.Place.{Opens, Lives}
use Rattle.ft_model.specs.Lawful.{LawfulTurn, Lawful, Turn, hello}
use Rattle.ft_model.specs.ServingTurn.{PlaceTurn}
use Rattle.ft_model.specs.WorkedRuns.Common.{echo, server, numbers, kept_with}
use Rattle.ft_model.specs.WorkedRuns.ZeroWindow as run
use Rattle.ft_model.proofs.Turns.{laws, alone, goes, serves}

-- a turn of the run, from where the server stands
abbrev pub Happens : Node → Turn → Type 0
Happens before turn = LawfulTurn echo before turn.input turn.sent turn.node

pub probe_1 : Happens (booted server plain 1 5000) run.probe_1
unfolding laws
probe_1 = record { server = refl; profile = refl; boot = refl; isn = refl; live = refl; stage = ([], refl, (refl, refl)) }

pub probe_2 : Happens run.probe_1.node run.probe_2
unfolding laws
probe_2 = record { server = refl; profile = refl; boot = refl; isn = refl; live = refl; stage = (Opens numbers Off ∷ [], refl, record { went = []; by_places = []; all_go = (refl, refl); places = refl; packets = refl }) }

pub probe_3 : Happens run.probe_2.node run.probe_3
unfolding laws
probe_3 = record {
  server = refl;
  profile = refl;
  boot = refl;
  isn = refl;
  live = refl;
  stage = (
    Lives run.begun ∷ [],
    refl,
    record {
      went = Lives run.begun ∷ [];
      by_places = run.probe_3.sent;
      all_go = alone (PlaceTurn echo run.probe_2.node run.probe_3.input) (Opens numbers Off) (Lives run.begun ∷ []) run.probe_3.sent
          (run.begun, refl, goes echo server 1 Begins (point_opened plain Off numbers) run.begun run.probe_3.sent refl refl refl refl);
      places = refl;
      packets = refl;
    },
  );
}

pub probe_4 : Happens run.probe_3.node run.probe_4
unfolding laws
probe_4 = serves echo 1 5000 run.probe_4.input run.begun run.opened run.probe_4.sent refl refl refl (run.opened, refl, goes echo server 1 (Comes run.first_ack) run.begun run.opened run.probe_4.sent refl refl refl refl)

pub probe_5 : Happens run.probe_4.node run.probe_5
unfolding laws
probe_5 = serves echo 1 5000 run.probe_5.input run.opened run.taken run.probe_5.sent refl refl refl (run.taken, refl, goes echo server 1 (Comes run.text) run.opened run.taken run.probe_5.sent refl refl refl refl)

pub probe_6 : Happens run.probe_5.node run.probe_6
unfolding laws
probe_6 = serves echo 1 5000 run.probe_6.input run.taken run.logged run.probe_6.sent refl refl refl (run.logged, refl, goes echo server 1 (Logged (kept_with 5 false 0)) run.taken run.logged run.probe_6.sent refl refl refl refl)

pub probe_7 : Happens run.probe_6.node run.probe_7
unfolding laws
probe_7 = serves echo 1 5000 run.probe_7.input run.logged run.waiting run.probe_7.sent refl refl refl (run.waiting, refl, goes echo server 1 (Logged (kept_with 5 false 1)) run.logged run.waiting run.probe_7.sent refl refl refl refl)

pub probe_8 : Happens run.probe_7.node run.probe_8
unfolding laws
probe_8 = serves echo 1 5000 run.probe_8.input run.waiting (run.probed 2 2) run.probe_8.sent refl refl refl ((run.probed 2 2), refl, goes echo server 1 Ticks run.waiting (run.probed 2 2) run.probe_8.sent refl refl refl refl)

pub probe_9 : Happens run.probe_8.node run.probe_9
unfolding laws
probe_9 = serves echo 1 5000 run.probe_9.input (run.probed 2 2) (run.probed 2 1) run.probe_9.sent refl refl refl ((run.probed 2 1), refl, goes echo server 1 Ticks (run.probed 2 2) (run.probed 2 1) run.probe_9.sent refl refl refl refl)

pub probe_10 : Happens run.probe_9.node run.probe_10
unfolding laws
probe_10 = serves echo 1 5000 run.probe_10.input (run.probed 2 1) (run.probed 4 4) run.probe_10.sent refl refl refl ((run.probed 4 4), refl, goes echo server 1 Ticks (run.probed 2 1) (run.probed 4 4) run.probe_10.sent refl refl refl refl)

pub probe_11 : Happens run.probe_10.node run.probe_11
unfolding laws
probe_11 = serves echo 1 5000 run.probe_11.input (run.probed 4 4) (run.given 4 4) run.probe_11.sent refl refl refl ((run.given 4 4), refl, goes echo server 1 (Comes run.room) (run.probed 4 4) (run.given 4 4) run.probe_11.sent refl refl refl refl)

pub probe_12 : Happens run.probe_11.node run.probe_12
unfolding laws
probe_12 = serves echo 1 5000 run.probe_12.input (run.given 4 4) (run.given 4 3) run.probe_12.sent refl refl refl ((run.given 4 3), refl, goes echo server 1 Ticks (run.given 4 4) (run.given 4 3) run.probe_12.sent refl refl refl refl)

pub probe_13 : Happens run.probe_12.node run.probe_13
unfolding laws
probe_13 = serves echo 1 5000 run.probe_13.input (run.given 4 3) (run.given 4 2) run.probe_13.sent refl refl refl ((run.given 4 2), refl, goes echo server 1 Ticks (run.given 4 3) (run.given 4 2) run.probe_13.sent refl refl refl refl)

pub probe_14 : Happens run.probe_13.node run.probe_14
unfolding laws
probe_14 = serves echo 1 5000 run.probe_14.input (run.given 4 2) (run.given 4 1) run.probe_14.sent refl refl refl ((run.given 4 1), refl, goes echo server 1 Ticks (run.given 4 2) (run.given 4 1) run.probe_14.sent refl refl refl refl)

pub probe_15 : Happens run.probe_14.node run.probe_15
unfolding laws
probe_15 = serves echo 1 5000 run.probe_15.input (run.given 4 1) run.lost run.probe_15.sent refl refl refl (run.lost, refl, goes echo server 1 Ticks (run.given 4 1) run.lost run.probe_15.sent refl refl refl refl)

pub probe_is_lawful : Lawful echo server plain 1 5000 (hello (booted server plain 1 5000)) run.probe_turns
probe_is_lawful = (refl, (((((((((((((((tt, probe_1), probe_2), probe_3), probe_4), probe_5), probe_6), probe_7), probe_8), probe_9), probe_10), probe_11), probe_12), probe_13), probe_14), probe_15))

fin_5 : Happens run.probe_4.node run.fin_5
unfolding laws
fin_5 = serves echo 1 5000 run.fin_5.input run.opened run.fin_taken run.fin_5.sent refl refl refl (run.fin_taken, refl, goes echo server 1 (Comes run.fin) run.opened run.fin_taken run.fin_5.sent refl refl refl refl)

fin_6 : Happens run.fin_5.node run.fin_6
unfolding laws
fin_6 = serves echo 1 5000 run.fin_6.input run.fin_taken run.fin_logged run.fin_6.sent refl refl refl (run.fin_logged, refl, goes echo server 1 (Logged (kept_with 0 true 0)) run.fin_taken run.fin_logged run.fin_6.sent refl refl refl refl)

fin_7 : Happens run.fin_6.node run.fin_7
unfolding laws
fin_7 = serves echo 1 5000 run.fin_7.input run.fin_logged run.fin_waiting run.fin_7.sent refl refl refl (run.fin_waiting, refl, goes echo server 1 (Logged (kept_with 0 true 1)) run.fin_logged run.fin_waiting run.fin_7.sent refl refl refl refl)

fin_8 : Happens run.fin_7.node run.fin_8
unfolding laws
fin_8 = serves echo 1 5000 run.fin_8.input run.fin_waiting (run.fin_probed 2 2) run.fin_8.sent refl refl refl ((run.fin_probed 2 2), refl, goes echo server 1 Ticks run.fin_waiting (run.fin_probed 2 2) run.fin_8.sent refl refl refl refl)

fin_9 : Happens run.fin_8.node run.fin_9
unfolding laws
fin_9 = serves echo 1 5000 run.fin_9.input (run.fin_probed 2 2) (run.fin_probed 2 1) run.fin_9.sent refl refl refl ((run.fin_probed 2 1), refl, goes echo server 1 Ticks (run.fin_probed 2 2) (run.fin_probed 2 1) run.fin_9.sent refl refl refl refl)

fin_10 : Happens run.fin_9.node run.fin_10
unfolding laws
fin_10 = serves echo 1 5000 run.fin_10.input (run.fin_probed 2 1) (run.fin_probed 4 4) run.fin_10.sent refl refl refl ((run.fin_probed 4 4), refl, goes echo server 1 Ticks (run.fin_probed 2 1) (run.fin_probed 4 4) run.fin_10.sent refl refl refl refl)

fin_11 : Happens run.fin_10.node run.fin_11
unfolding laws
fin_11 = serves echo 1 5000 run.fin_11.input (run.fin_probed 4 4) run.over run.fin_11.sent refl refl refl (run.over, refl, goes echo server 1 (Comes run.last_ack) (run.fin_probed 4 4) run.over run.fin_11.sent refl refl refl refl)

pub fin_probe_is_lawful : Lawful echo server plain 1 5000 (hello (booted server plain 1 5000)) run.fin_turns
fin_probe_is_lawful = (refl, (((((((((((tt, probe_1), probe_2), probe_3), probe_4), fin_5), fin_6), fin_7), fin_8), fin_9), fin_10), fin_11))
