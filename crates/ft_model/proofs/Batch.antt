-- The run in which the Data of a turn are a batch, whole: each moment happens and is allowed.
use Rattle.std.proofs.Common.{◌≡◌, false, refl, List, None}
use native.Mathlib.Bridge.{IsLe}
use Rattle.tcp_rules.specs.Profile.{wan}
use Rattle.ft_model.specs.Client.Move.{Text}
use Rattle.ft_model.specs.News.News.{Comes, Logged}
use Rattle.ft_model.specs.Network.{Packet}
use Rattle.ft_model.specs.Node.Input.{Packet_comes}
use Rattle.ft_model.specs.World.{Joint, Happens}
use Rattle.ft_model.specs.Legal.{IsAllowed, Legal}
use Rattle.ft_model.specs.Lawful.{LawfulTurn}
use Rattle.ft_model.specs.WorkedRuns.Common.{echo, server, IsUnlawful}
use Rattle.ft_model.specs.WorkedRuns.FirstPath as path
use Rattle.ft_model.specs.WorkedRuns.HeldSegments as held
use Rattle.ft_model.specs.WorkedRuns.DelayedAck as wide
use Rattle.ft_model.specs.WorkedRuns.Batch as run
use Rattle.ft_model.proofs.AskedMoves.{scripted, still}
use Rattle.ft_model.proofs.DelayedAck.{opening_is_joint, opening_allowed, turn_12}
use Rattle.ft_model.proofs.Turns.{laws, goes, serves_in, segment_in, kept_in}
use Rattle.ft_model.proofs.WrongTurns.{marks, are_same, refused}

-- the second text is held
turn_13 : LawfulTurn echo (wide.node_live wide.open_point) (Packet_comes (segment_in held.second_sent)) run.moment_13.sent (wide.node_live run.held_point)
unfolding laws
turn_13 = serves_in echo wan 1 5000 (Packet_comes (segment_in held.second_sent)) wide.open_point run.held_point run.moment_13.sent refl refl refl
    (run.held_point, refl, goes echo server 1 (Comes (segment_in held.second_sent)) wide.open_point run.held_point run.moment_13.sent refl refl refl refl)

-- the first one fills the gap
turn_14 : LawfulTurn echo (wide.node_live run.held_point) held.gap_filled run.moment_14.sent (wide.node_live run.filled_point)
unfolding laws
turn_14 = serves_in echo wan 1 5000 held.gap_filled run.held_point run.filled_point run.moment_14.sent refl refl refl
    (run.filled_point, refl, goes echo server 1 (Comes (segment_in held.first_sent)) run.held_point run.filled_point run.moment_14.sent refl refl refl refl)

-- both are logged
turn_17 : LawfulTurn echo (wide.node_live run.filled_point) path.stable_comes run.moment_17.sent (wide.node_live run.logged_point)
unfolding laws
turn_17 = serves_in echo wan 1 5000 path.stable_comes run.filled_point run.logged_point run.moment_17.sent refl refl refl
    (run.logged_point, refl, goes echo server 1 (Logged (kept_in path.packet_12)) run.filled_point run.logged_point run.moment_17.sent refl refl refl refl)

happens_11 : Happens echo wide.moment_10.world run.moment_11.event run.moment_11.sent run.moment_11.world
unfolding laws IsLe
happens_11 = record { client = path.open_client; segment = segment_in held.first_sent; later = held.reporting_client; is_there = refl; move = record { move = Text 0 2; window = 65535; timestamps = None; may = refl; fits = refl; carries = refl; segment_is = refl; after_is = refl }; sent_is = refl; after_is = refl }

happens_12 : Happens echo run.moment_11.world run.moment_12.event run.moment_12.sent run.moment_12.world
unfolding laws IsLe
happens_12 = record { client = held.reporting_client; segment = segment_in held.second_sent; later = path.reported_client; is_there = refl; move = record { move = Text 2 3; window = 65535; timestamps = None; may = refl; fits = refl; carries = refl; segment_is = refl; after_is = refl }; sent_is = refl; after_is = refl }

happens_13 : Happens echo run.moment_12.world run.moment_13.event run.moment_13.sent run.moment_13.world
unfolding laws IsLe
happens_13 = (held.second_sent, refl, ((wide.node_live run.held_point, refl, turn_13), refl))

happens_14 : Happens echo run.moment_13.world run.moment_14.event run.moment_14.sent run.moment_14.world
unfolding laws IsLe
happens_14 = (held.first_sent, refl, ((wide.node_live run.filled_point, refl, turn_14), refl))

happens_15 : Happens echo run.moment_14.world run.moment_15.event run.moment_15.sent run.moment_15.world
unfolding laws IsLe
happens_15 = (run.first_of_two, refl, (refl, refl))

happens_16 : Happens echo run.moment_15.world run.moment_16.event run.moment_16.sent run.moment_16.world
unfolding laws IsLe
happens_16 = (held.second_copy, refl, (refl, refl))

happens_17 : Happens echo run.moment_16.world run.moment_17.event run.moment_17.sent run.moment_17.world
unfolding laws IsLe
happens_17 = (path.packet_12, refl, ((wide.node_live run.logged_point, refl, turn_17), refl))

is_joint : Joint echo wide.start run.trace
is_joint = (((((((opening_is_joint, happens_11), happens_12), happens_13), happens_14), happens_15), happens_16), happens_17)

-- and is allowed
allowed_11 : IsAllowed wide.moment_10.world run.moment_11
allowed_11 = record { allowed = refl; scripted = scripted wide.moment_10.world run.moment_11.event path.open_client (Text 0 2) 1 run.moment_11.world refl refl refl }

allowed_12 : IsAllowed run.moment_11.world run.moment_12
allowed_12 = record { allowed = refl; scripted = scripted run.moment_11.world run.moment_12.event held.reporting_client (Text 2 3) 1 run.moment_12.world refl refl refl }

pub is_legal : Legal (λ kind. echo) run.schedule run.trace
is_legal = record {
  joint = is_joint;
  events_are = refl;
  allowed = (((((((opening_allowed, allowed_11), allowed_12), still run.moment_12.world run.moment_13 refl refl), still run.moment_13.world run.moment_14 refl refl), still run.moment_14.world run.moment_15 refl refl), still run.moment_15.world run.moment_16 refl refl), still run.moment_16.world run.moment_17 refl refl);
}

-- the wrong turns of the gap's filling
by_filling : (wrong : List Packet) → are_same (marks run.moment_14.sent) (marks wrong) ≡ false → IsUnlawful (wide.node_live run.held_point) held.gap_filled wrong
by_filling wrong other = refused echo (wide.node_live run.held_point) (wide.node_live run.filled_point) held.gap_filled run.moment_14.sent wrong turn_14 refl other

pub none_follows : IsUnlawful (wide.node_live run.held_point) held.gap_filled run.none_follows
none_follows = by_filling run.none_follows refl

pub another_follows : IsUnlawful (wide.node_live run.held_point) held.gap_filled run.another_follows
another_follows = by_filling run.another_follows refl

-- and of a turn with one Data
pub single_of_more : IsUnlawful (wide.node_live wide.open_point) path.text_comes run.single_of_more
single_of_more = refused echo (wide.node_live wide.open_point) (wide.node_live wide.taken_point) path.text_comes wide.moment_12.sent run.single_of_more turn_12 refl refl
