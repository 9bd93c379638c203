-- Each turn of both incarnations is lawful: each equation computes.
use Rattle.std.proofs.Common.{true, refl, [], ◌∷◌}
use Rattle.tcp_rules.specs.declared.timestamping.Timestamping.TheVariants.{Off}
use Rattle.tcp_rules.specs.Profile.{plain}
use Rattle.ft_model.specs.News.News.{Comes, Logged, Ticks, Begins}
use Rattle.ft_model.specs.Opening.{point_opened}
use Rattle.ft_model.specs.Restart.{point_of, entry_in}
use Rattle.ft_model.specs.Node.{Node, booted}
use Rattle.ft_model.specs.Node.Place.{Opens, Lives}
use Rattle.ft_model.specs.Lawful.{LawfulTurn, Lawful, Revives, Turn, hello}
use Rattle.ft_model.specs.ServingTurn.{PlaceTurn}
use Rattle.ft_model.specs.WorkedRuns.Common.{echo, server, numbers, kept_with, fetched_with}
use Rattle.ft_model.specs.WorkedRuns.Closing as run
use Rattle.ft_model.proofs.Turns.{laws, alone, goes, serves}

-- a turn of the run, from where the server stands
abbrev Happens : Node → Turn → Type 0
Happens before turn = LawfulTurn echo before turn.input turn.sent turn.node

first_1 : Happens (booted server plain 1 5000) run.first_1
unfolding laws
first_1 = record { server = refl; profile = refl; boot = refl; isn = refl; live = refl; stage = ([], refl, (refl, refl)) }

first_2 : Happens run.first_1.node run.first_2
unfolding laws
first_2 = record { server = refl; profile = refl; boot = refl; isn = refl; live = refl; stage = (Opens numbers Off ∷ [], refl, record { went = []; by_places = []; all_go = (refl, refl); places = refl; packets = refl }) }

first_3 : Happens run.first_2.node run.first_3
unfolding laws
first_3 = record {
  server = refl;
  profile = refl;
  boot = refl;
  isn = refl;
  live = refl;
  stage = (
    Lives run.begun ∷ [],
    refl,
    record {
      went = Lives run.begun ∷ [];
      by_places = run.first_3.sent;
      all_go = alone (PlaceTurn echo run.first_2.node run.first_3.input) (Opens numbers Off) (Lives run.begun ∷ []) run.first_3.sent
          (run.begun, refl, goes echo server 1 Begins (point_opened plain Off numbers) run.begun run.first_3.sent refl refl refl refl);
      places = refl;
      packets = refl;
    },
  );
}

first_4 : Happens run.first_3.node run.first_4
unfolding laws
first_4 = serves echo 1 5000 run.first_4.input run.begun run.opened run.first_4.sent refl refl refl (run.opened, refl, goes echo server 1 (Comes run.first_ack) run.begun run.opened run.first_4.sent refl refl refl refl)

pub first_5 : Happens run.first_4.node run.first_5
unfolding laws
first_5 = serves echo 1 5000 run.first_5.input run.opened run.taken run.first_5.sent refl refl refl (run.taken, refl, goes echo server 1 (Comes run.fin) run.opened run.taken run.first_5.sent refl refl refl refl)

pub first_6 : Happens run.first_5.node run.first_6
unfolding laws
first_6 = serves echo 1 5000 run.first_6.input run.taken run.logged run.first_6.sent refl refl refl (run.logged, refl, goes echo server 1 (Logged (kept_with 0 true 0)) run.taken run.logged run.first_6.sent refl refl refl refl)

first_7 : Happens run.first_6.node run.first_7
unfolding laws
first_7 = serves echo 1 5000 run.first_7.input run.logged run.closed run.first_7.sent refl refl refl (run.closed, refl, goes echo server 1 (Logged (kept_with 0 true 1)) run.logged run.closed run.first_7.sent refl refl refl refl)

first_8 : Happens run.first_7.node run.first_8
unfolding laws
first_8 = serves echo 1 5000 run.first_8.input run.closed run.over run.first_8.sent refl refl refl (run.over, refl, goes echo server 1 (Comes run.last_ack) run.closed run.over run.first_8.sent refl refl refl refl)

pub first_is_lawful : Lawful echo server plain 1 5000 (hello (booted server plain 1 5000)) run.first_turns
first_is_lawful = (refl, ((((((((tt, first_1), first_2), first_3), first_4), first_5), first_6), first_7), first_8))

second_1 : Happens (booted server plain 2 900000) run.second_1
unfolding laws
second_1 = record { server = refl; profile = refl; boot = refl; isn = refl; live = refl; stage = (refl, refl) }

second_2 : Happens run.second_1.node run.second_2
unfolding laws
second_2 = record { server = refl; profile = refl; boot = refl; isn = refl; live = refl; stage = (refl, refl) }

second_3 : Happens run.second_2.node run.second_3
unfolding laws
second_3 = record {
  server = refl;
  profile = refl;
  boot = refl;
  isn = refl;
  live = refl;
  stage = (
    Lives run.restarted ∷ [],
    refl,
    alone (Revives echo run.second_2.node) (Lives (point_of echo plain (entry_in (fetched_with run.head [] (0 ∷ []))))) (Lives run.restarted ∷ []) run.second_3.sent
        (run.restarted, refl, goes echo server 2 Begins (point_of echo plain (entry_in (fetched_with run.head [] (0 ∷ [])))) run.restarted run.second_3.sent refl refl refl refl),
  );
}

second_4 : Happens run.second_3.node run.second_4
unfolding laws
second_4 = serves echo 2 900000 run.second_4.input run.restarted run.closed_again run.second_4.sent refl refl refl (run.closed_again, refl, goes echo server 2 (Comes run.last_ack) run.restarted run.closed_again run.second_4.sent refl refl refl refl)

second_5 : Happens run.second_4.node run.second_5
unfolding laws
second_5 = serves echo 2 900000 run.second_5.input run.closed_again run.over_again run.second_5.sent refl refl refl (run.over_again, refl, goes echo server 2 (Comes run.last_ack) run.closed_again run.over_again run.second_5.sent refl refl refl refl)

second_6 : Happens run.second_5.node run.second_6
unfolding laws
second_6 = serves echo 2 900000 run.second_6.input run.over_again (run.ticked 1) run.second_6.sent refl refl refl ((run.ticked 1), refl, goes echo server 2 Ticks run.over_again (run.ticked 1) run.second_6.sent refl refl refl refl)

second_7 : Happens run.second_6.node run.second_7
unfolding laws
second_7 = serves echo 2 900000 run.second_7.input (run.ticked 1) (run.ticked 2) run.second_7.sent refl refl refl ((run.ticked 2), refl, goes echo server 2 Ticks (run.ticked 1) (run.ticked 2) run.second_7.sent refl refl refl refl)

second_8 : Happens run.second_7.node run.second_8
unfolding laws
second_8 = serves echo 2 900000 run.second_8.input (run.ticked 2) (run.ticked 3) run.second_8.sent refl refl refl ((run.ticked 3), refl, goes echo server 2 Ticks (run.ticked 2) (run.ticked 3) run.second_8.sent refl refl refl refl)

second_9 : Happens run.second_8.node run.second_9
unfolding laws
second_9 = serves echo 2 900000 run.second_9.input (run.ticked 3) (run.ticked 4) run.second_9.sent refl refl refl ((run.ticked 4), refl, goes echo server 2 Ticks (run.ticked 3) (run.ticked 4) run.second_9.sent refl refl refl refl)

pub second_is_lawful : Lawful echo server plain 2 900000 (hello (booted server plain 2 900000)) run.second_turns
second_is_lawful = (refl, (((((((((tt, second_1), second_2), second_3), second_4), second_5), second_6), second_7), second_8), second_9))
