-- Each turn is lawful: each equation computes.
use Rattle.std.proofs.Common.{refl, [], ◌∷◌}
use Rattle.tcp_rules.specs.declared.timestamping.Timestamping.TheVariants.{Off}
use Rattle.tcp_rules.specs.Profile.{plain}
use Rattle.ft_model.specs.News.News.{Comes, Begins}
use Rattle.ft_model.specs.Opening.{point_opened}
use Rattle.ft_model.specs.Node.{booted}
use Rattle.ft_model.specs.Node.Place.{Opens, Lives}
use Rattle.ft_model.specs.ServingTurn.{PlaceTurn}
use Rattle.ft_model.specs.Lawful.{Lawful, hello}
use Rattle.ft_model.specs.WorkedRuns.Common.{echo, server, numbers, IsUnlawful}
use Rattle.ft_model.specs.WorkedRuns.FirstPath.{begun_point}
use Rattle.ft_model.specs.WorkedRuns.BeyondNext as run
use Rattle.ft_model.proofs.Turns.{laws, alone, goes, serves}
use Rattle.ft_model.proofs.ZeroWindow.{Happens}
use Rattle.ft_model.proofs.WrongTurns.{refused}

turn_1 : Happens (booted server plain 1 5000) run.turn_1
unfolding laws
turn_1 = record { server = refl; profile = refl; boot = refl; isn = refl; live = refl; stage = ([], refl, (refl, refl)) }

turn_2 : Happens run.turn_1.node run.turn_2
unfolding laws
turn_2 = record { server = refl; profile = refl; boot = refl; isn = refl; live = refl; stage = (Opens numbers Off ∷ [], refl, record { went = []; by_places = []; all_go = (refl, refl); places = refl; packets = refl }) }

turn_3 : Happens run.turn_2.node run.turn_3
unfolding laws
turn_3 = record {
  server = refl;
  profile = refl;
  boot = refl;
  isn = refl;
  live = refl;
  stage = (
    Lives begun_point ∷ [],
    refl,
    record {
      went = Lives begun_point ∷ [];
      by_places = run.turn_3.sent;
      all_go = alone (PlaceTurn echo run.turn_2.node run.turn_3.input) (Opens numbers Off) (Lives begun_point ∷ []) run.turn_3.sent
          (begun_point, refl, goes echo server 1 Begins (point_opened plain Off numbers) begun_point run.turn_3.sent refl refl refl refl);
      places = refl;
      packets = refl;
    },
  );
}

turn_4 : Happens run.turn_3.node run.turn_4
unfolding laws
turn_4 = serves echo 1 5000 run.turn_4.input begun_point run.opened run.turn_4.sent refl refl refl (run.opened, refl, goes echo server 1 (Comes run.bare) begun_point run.opened run.turn_4.sent refl refl refl refl)

pub is_lawful : Lawful echo server plain 1 5000 (hello (booted server plain 1 5000)) run.turns
is_lawful = (refl, ((((tt, turn_1), turn_2), turn_3), turn_4))

pub answered : IsUnlawful run.turn_3.node run.turn_4.input run.answered
answered = refused echo run.turn_3.node run.turn_4.node run.turn_4.input run.turn_4.sent run.answered turn_4 refl refl
