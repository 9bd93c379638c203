-- Each turn is lawful: each equation computes.
use Rattle.std.proofs.Common.{refl, [], ◌∷◌}
use Rattle.tcp_rules.specs.Profile.{plain}
use Rattle.ft_model.specs.News.News.{Comes, Begins}
use Rattle.ft_model.specs.Restart.{point_of, entry_in}
use Rattle.ft_model.specs.Node.{Node, booted}
use Rattle.ft_model.specs.Node.Place.{Lives}
use Rattle.ft_model.specs.Lawful.{LawfulTurn, Lawful, Revives, Turn, hello}
use Rattle.ft_model.specs.WorkedRuns.Common.{echo, server, fetched_with}
use Rattle.ft_model.specs.WorkedRuns.CrashBeforeSynAck as run
use Rattle.ft_model.proofs.Turns.{laws, alone, goes, serves}

-- a turn of the run, from where the server stands
abbrev Happens : Node → Turn → Type 0
Happens before turn = LawfulTurn echo before turn.input turn.sent turn.node

restart_1 : Happens (booted server plain 2 900000) run.restart_1
unfolding laws
restart_1 = record { server = refl; profile = refl; boot = refl; isn = refl; live = refl; stage = (refl, refl) }

restart_2 : Happens run.restart_1.node run.restart_2
unfolding laws
restart_2 = record {
  server = refl;
  profile = refl;
  boot = refl;
  isn = refl;
  live = refl;
  stage = (
    Lives run.restarted ∷ [],
    refl,
    alone (Revives echo run.restart_1.node) (Lives (point_of echo plain (entry_in (fetched_with run.head [] [])))) (Lives run.restarted ∷ []) run.restart_2.sent
        (run.restarted, refl, goes echo server 2 Begins (point_of echo plain (entry_in (fetched_with run.head [] []))) run.restarted run.restart_2.sent refl refl refl refl),
  );
}

restart_3 : Happens run.restart_2.node run.restart_3
unfolding laws
restart_3 = serves echo 2 900000 run.restart_3.input run.restarted run.restarted run.restart_3.sent refl refl refl (run.restarted, refl, goes echo server 2 (Comes run.syn) run.restarted run.restarted run.restart_3.sent refl refl refl refl)

pub restart_is_lawful : Lawful echo server plain 2 900000 (hello (booted server plain 2 900000)) run.restart_turns
restart_is_lawful = (refl, (((tt, restart_1), restart_2), restart_3))
