-- Each turn is lawful: each equation computes.
use Rattle.std.proofs.Common.{refl, [], ◌∷◌}
use Rattle.tcp_rules.specs.Profile.{plain}
use Rattle.ft_model.specs.News.News.{Begins}
use Rattle.ft_model.specs.Point.{Point}
use Rattle.ft_model.specs.Restart.{point_of, entry_in}
use Rattle.ft_model.specs.Node.{booted}
use Rattle.ft_model.specs.Node.Place.{Lives}
use Rattle.ft_model.specs.Lawful.{Lawful, Revives, hello}
use Rattle.ft_model.specs.WorkedRuns.Common.{echo, server, hello_text, fetched_with}
use Rattle.ft_model.specs.WorkedRuns.RestartInTurns as run
use Rattle.ft_model.proofs.RestartFromHello.{Turns, asks_entry}
use Rattle.ft_model.proofs.Turns.{laws, alone, goes}

pub turn_2 : Turns echo run.turn_1.node run.turn_2
unfolding laws
turn_2 = record { server = refl; profile = refl; boot = refl; isn = refl; live = refl; stage = (refl, refl) }

pub turn_3 : Turns echo run.turn_2.node run.turn_3
unfolding laws
turn_3 = record { server = refl; profile = refl; boot = refl; isn = refl; live = refl; stage = (refl, refl) }

turn_4 : Turns echo run.turn_3.node run.turn_4
unfolding laws
turn_4 = record { server = refl; profile = refl; boot = refl; isn = refl; live = refl; stage = (refl, refl) }

turn_5 : Turns echo run.turn_4.node run.turn_5
unfolding laws
turn_5 = record { server = refl; profile = refl; boot = refl; isn = refl; live = refl; stage = (refl, refl) }

turn_6 : Turns echo run.turn_5.node run.turn_6
unfolding laws
turn_6 = record { server = refl; profile = refl; boot = refl; isn = refl; live = refl; stage = (refl, refl) }

turn_7 : Turns echo run.turn_6.node run.turn_7
unfolding laws
turn_7 = record { server = refl; profile = refl; boot = refl; isn = refl; live = refl; stage = (refl, refl) }

-- the entry's point
abbrev fetched_point : Point
fetched_point = point_of echo plain (entry_in (fetched_with run.head hello_text (2 ∷ 1 ∷ [])))

turn_8 : Turns echo run.turn_7.node run.turn_8
unfolding laws
turn_8 = record {
  server = refl;
  profile = refl;
  boot = refl;
  isn = refl;
  live = refl;
  stage = (
    Lives run.restarted ∷ [],
    refl,
    alone (Revives echo run.turn_7.node) (Lives fetched_point) (Lives run.restarted ∷ []) run.turn_8.sent
        (run.restarted, refl, goes echo server 2 Begins fetched_point run.restarted run.turn_8.sent refl refl refl refl),
  );
}

pub restart_is_lawful : Lawful echo server plain 2 900000 (hello (booted server plain 2 900000)) run.turns
restart_is_lawful = (refl, ((((((((tt, asks_entry echo), turn_2), turn_3), turn_4), turn_5), turn_6), turn_7), turn_8))
