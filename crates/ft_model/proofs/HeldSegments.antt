-- The run with two segments in the wrong order, whole: each moment happens and is allowed.
use Rattle.std.specs.Prelude.{None}
use Rattle.std.proofs.Common.{◌≡◌, false, refl, List}
use native.Mathlib.Bridge.{IsLe}
use Rattle.ft_model.specs.Client.Move.{Text}
use Rattle.ft_model.specs.News.News.{Comes}
use Rattle.ft_model.specs.Network.{Packet}
use Rattle.ft_model.specs.Node.Input.{Packet_comes}
use Rattle.ft_model.specs.World.{Joint, Happens}
use Rattle.ft_model.specs.Legal.{IsAllowed, Legal}
use Rattle.ft_model.specs.Lawful.{LawfulTurn}
use Rattle.ft_model.specs.WorkedRuns.Common.{echo, server, IsUnlawful}
use Rattle.ft_model.specs.WorkedRuns.FirstPath as path
use Rattle.ft_model.specs.WorkedRuns.HeldSegments as run
use Rattle.ft_model.proofs.AllowedMoments.{opening_allowed}
use Rattle.ft_model.proofs.AskedMoves.{scripted, still}
use Rattle.ft_model.proofs.FirstPath.{opening_is_joint}
use Rattle.ft_model.proofs.Turns.{laws, goes, serves, segment_in}
use Rattle.ft_model.proofs.WrongTurns.{marks, are_same, refused}

-- the second text is held
turn_13 : LawfulTurn echo (path.node_live path.open_point) (Packet_comes (segment_in run.second_sent)) run.moment_13.sent (path.node_live run.held_point)
unfolding laws
turn_13 = serves echo 1 5000 (Packet_comes (segment_in run.second_sent)) path.open_point run.held_point run.moment_13.sent refl refl refl (run.held_point, refl, goes echo server 1 (Comes (segment_in run.second_sent)) path.open_point run.held_point run.moment_13.sent refl refl refl refl)

-- the first one fills the gap
turn_14 : LawfulTurn echo (path.node_live run.held_point) run.gap_filled run.moment_14.sent (path.node_live run.filled_point)
unfolding laws
turn_14 = serves echo 1 5000 run.gap_filled run.held_point run.filled_point run.moment_14.sent refl refl refl (run.filled_point, refl, goes echo server 1 (Comes (segment_in run.first_sent)) run.held_point run.filled_point run.moment_14.sent refl refl refl refl)

happens_11 : Happens echo path.moment_10.world run.moment_11.event run.moment_11.sent run.moment_11.world
unfolding laws IsLe
happens_11 = record { client = path.open_client; segment = segment_in run.first_sent; later = run.reporting_client; is_there = refl; move = record { move = Text 0 2; window = 65535; may = refl; fits = refl; timestamps = None; carries = refl; segment_is = refl; after_is = refl }; sent_is = refl; after_is = refl }

happens_12 : Happens echo run.moment_11.world run.moment_12.event run.moment_12.sent run.moment_12.world
unfolding laws IsLe
happens_12 = record { client = run.reporting_client; segment = segment_in run.second_sent; later = path.reported_client; is_there = refl; move = record { move = Text 2 3; window = 65535; may = refl; fits = refl; timestamps = None; carries = refl; segment_is = refl; after_is = refl }; sent_is = refl; after_is = refl }

happens_13 : Happens echo run.moment_12.world run.moment_13.event run.moment_13.sent run.moment_13.world
unfolding laws IsLe
happens_13 = (run.second_sent, refl, ((path.node_live run.held_point, refl, turn_13), refl))

happens_14 : Happens echo run.moment_13.world run.moment_14.event run.moment_14.sent run.moment_14.world
unfolding laws IsLe
happens_14 = (run.first_sent, refl, ((path.node_live run.filled_point, refl, turn_14), refl))

is_joint : Joint echo path.start run.trace
is_joint = ((((opening_is_joint echo, happens_11), happens_12), happens_13), happens_14)

-- and is allowed
allowed_11 : IsAllowed path.moment_10.world run.moment_11
allowed_11 = record { allowed = refl; scripted = scripted path.moment_10.world run.moment_11.event path.open_client (Text 0 2) 1 run.moment_11.world refl refl refl }

allowed_12 : IsAllowed run.moment_11.world run.moment_12
allowed_12 = record { allowed = refl; scripted = scripted run.moment_11.world run.moment_12.event run.reporting_client (Text 2 3) 1 run.moment_12.world refl refl refl }

pub is_legal : Legal (λ kind. echo) run.schedule run.trace
is_legal = record {
  joint = is_joint;
  events_are = refl;
  allowed = ((((opening_allowed, allowed_11), allowed_12), still run.moment_12.world run.moment_13 refl refl), still run.moment_13.world run.moment_14 refl refl);
}

-- the wrong turns of the gap's filling
by_filling : (wrong : List Packet) → are_same (marks run.moment_14.sent) (marks wrong) ≡ false → IsUnlawful (path.node_live run.held_point) run.gap_filled wrong
by_filling wrong other = refused echo (path.node_live run.held_point) (path.node_live run.filled_point) run.gap_filled run.moment_14.sent wrong turn_14 refl other

pub without_held : IsUnlawful (path.node_live run.held_point) run.gap_filled run.without_held
without_held = by_filling run.without_held refl

pub held_first : IsUnlawful (path.node_live run.held_point) run.gap_filled run.held_first
held_first = by_filling run.held_first refl

pub as_one : IsUnlawful (path.node_live run.held_point) run.gap_filled run.as_one
as_one = by_filling run.as_one refl
