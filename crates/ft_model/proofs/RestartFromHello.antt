-- The turns of a restart from a log with one entry are lawful: each equation computes.
use Rattle.std.proofs.Common.{refl, [], ◌∷◌}
use Rattle.tcp_rules.specs.Profile.{plain}
use Rattle.server_trait.specs.Service.{Machine}
use Rattle.ft_model.specs.News.News.{Begins}
use Rattle.ft_model.specs.Restart.{point_of, entry_in}
use Rattle.ft_model.specs.Node.{Node, booted}
use Rattle.ft_model.specs.Node.Place.{Lives}
use Rattle.ft_model.specs.Lawful.{LawfulTurn, Revives, Turn}
use Rattle.ft_model.specs.Point.{Point}
use Rattle.ft_model.specs.WorkedRuns.Common.{echo, server, hello_text}
use Rattle.ft_model.specs.WorkedRuns.RestartFromHello as run
use Rattle.ft_model.proofs.Turns.{laws, alone, goes}

-- a turn from the server's state before it
abbrev pub Turns : {State : Type 0} → Machine State → Node → Turn → Type 0
Turns service before turn = LawfulTurn service before turn.input turn.sent turn.node

pub asks_entry : {State : Type 0} (service : Machine State) → Turns service (booted server plain 2 900000) run.asks_entry
unfolding laws
asks_entry service = record { server = refl; profile = refl; boot = refl; isn = refl; live = refl; stage = (refl, refl) }

pub asks_lengths : {State : Type 0} (service : Machine State) → Turns service run.asks_entry.node run.asks_lengths
unfolding laws
asks_lengths service = record { server = refl; profile = refl; boot = refl; isn = refl; live = refl; stage = (refl, refl) }

pub asks_bytes : {State : Type 0} (service : Machine State) → Turns service run.asks_lengths.node run.asks_bytes
unfolding laws
asks_bytes service = record { server = refl; profile = refl; boot = refl; isn = refl; live = refl; stage = (refl, refl) }

-- the entry's point
abbrev fetched_point : Point
fetched_point = point_of echo plain (entry_in (record run.entry_with_lengths { bytes = hello_text }))

pub serves_again : Turns echo run.asks_bytes.node run.serves_again
unfolding laws
serves_again = record {
  server = refl;
  profile = refl;
  boot = refl;
  isn = refl;
  live = refl;
  stage = (
    Lives run.restarted ∷ [],
    refl,
    alone (Revives echo run.asks_bytes.node) (Lives fetched_point) (Lives run.restarted ∷ []) run.serves_again.sent
        (run.restarted, refl, goes echo server 2 Begins fetched_point run.restarted run.serves_again.sent refl refl refl refl),
  );
}
