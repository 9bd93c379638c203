-- Every moment of the late refusal happens: each equation computes.
use Rattle.tcp_rules.specs.declared.timestamping.Timestamping.TheVariants.{Off}
use Rattle.std.proofs.Common.{◌^◌, sym, true≢false, refl, None, [], ◌∷◌}
use native.Mathlib.Bridge.{le_by_compare, IsLe}
use Rattle.ft_model.specs.Client.Move.{Syn, Text, Acknowledge, Refuse}
use Rattle.ft_model.specs.Connection.{ConnectionTurn}
use Rattle.ft_model.specs.Lawful.{LawfulTurn}
use Rattle.ft_model.specs.News.News.{Comes}
use Rattle.ft_model.specs.Node.Input.{Packet_comes}
use Rattle.ft_model.specs.Node.Place.{Opens}
use Rattle.ft_model.specs.Node.Stage.{Serving}
use Rattle.ft_model.specs.World.{Joint, Happens, IsStart}
use Rattle.ft_model.specs.WorkedRuns.Common.{echo, server, numbers, hello_text, client_with}
use Rattle.ft_model.specs.WorkedRuns.FirstPath as path
use Rattle.ft_model.proofs.AllowedMoments.{hello_bytes}
use Rattle.ft_model.proofs.FirstPath.{turn_3, turn_5, turn_7, turn_10, turn_12}
use Rattle.ft_model.proofs.Turns.{laws, serves, segment_in}
use Rattle.long_laws.specs.LateRefusal as run
use Rattle.long_laws.specs.Over.{HasAll}

starts : IsStart run.start
unfolding IsLe
starts = record {
  ip = le_by_compare 3221226085 (2 ^ 32) tt;
  port = le_by_compare 8 (2 ^ 16) tt;
  apart = refl;
  clients = (
    record {
      new = refl;
      ip = le_by_compare 3221225986 (2 ^ 32) tt;
      port = le_by_compare 40001 (2 ^ 16) tt;
      number = le_by_compare 1001 (2 ^ 32) tt;
      bytes = hello_bytes;
      short = le_by_compare 5 (2 ^ 24) tt;
    },
    tt,
  );
  log = refl;
  packets = refl;
  boot = refl;
  node = refl;
}

-- the RST is at exactly the next number
resets : ConnectionTurn echo server 1 (Comes (segment_in run.refusal)) path.taken_point run.reset_point run.moment_14.sent
unfolding laws
resets = record { point = refl; packets = refl }

turn_14 : LawfulTurn echo (path.node_live path.taken_point) (Packet_comes (segment_in run.refusal)) run.moment_14.sent (path.node_live run.reset_point)
unfolding laws
turn_14 = serves echo 1 5000 (Packet_comes (segment_in run.refusal)) path.taken_point run.reset_point run.moment_14.sent refl refl refl (run.reset_point, refl, resets)

happens_1 : Happens echo run.start run.moment_1.event run.moment_1.sent run.moment_1.world
unfolding laws IsLe
happens_1 = (refl, (le_by_compare 1 1 tt, le_by_compare 2 (2 ^ 64) tt), refl, refl)

happens_2 : Happens echo run.moment_1.world run.moment_2.event run.moment_2.sent run.moment_2.world
unfolding laws IsLe
happens_2 = (path.packet_1, refl, (refl, refl))

happens_3 : Happens echo run.moment_2.world run.moment_3.event run.moment_3.sent run.moment_3.world
unfolding laws IsLe
happens_3 = (path.packet_2, refl, ((path.node_at (Serving 0 []), refl, turn_3 echo), refl))

happens_4 : Happens echo run.moment_3.world run.moment_4.event run.moment_4.sent run.moment_4.world
unfolding laws IsLe
happens_4 = record { client = run.live (client_with hello_text); segment = segment_in path.packet_3; later = run.live path.opening; is_there = refl; move = record { move = Syn None; window = 65535; may = refl; fits = refl; timestamps = None; carries = refl; segment_is = refl; after_is = refl }; sent_is = refl; after_is = refl }

happens_5 : Happens echo run.moment_4.world run.moment_5.event run.moment_5.sent run.moment_5.world
unfolding laws IsLe
happens_5 = (path.packet_3, refl, ((path.node_at (Serving 1 (Opens numbers Off ∷ [])), refl, turn_5 echo), refl))

happens_6 : Happens echo run.moment_5.world run.moment_6.event run.moment_6.sent run.moment_6.world
unfolding laws IsLe
happens_6 = (path.packet_4, refl, (refl, refl))

happens_7 : Happens echo run.moment_6.world run.moment_7.event run.moment_7.sent run.moment_7.world
unfolding laws IsLe
happens_7 = (path.packet_5, refl, ((path.node_live path.begun_point, refl, turn_7 echo), refl))

happens_8 : Happens echo run.moment_7.world run.moment_8.event run.moment_8.sent run.moment_8.world
unfolding laws IsLe
happens_8 = record { client = run.live path.opening; segment = segment_in run.refusal; later = run.live path.opening; is_there = refl; move = record { move = Refuse 1006; window = 0; may = refl; fits = refl; timestamps = None; carries = refl; segment_is = refl; after_is = refl }; sent_is = refl; after_is = refl }

happens_9 : Happens echo run.moment_8.world run.moment_9.event run.moment_9.sent run.moment_9.world
unfolding laws IsLe
happens_9 = (path.packet_6, refl, (refl, refl))

happens_10 : Happens echo run.moment_9.world run.moment_10.event run.moment_10.sent run.moment_10.world
unfolding laws IsLe
happens_10 = record { client = run.live path.open_client; segment = segment_in path.packet_7; later = run.live path.open_client; is_there = refl; move = record { move = Acknowledge; window = 65535; may = refl; fits = refl; timestamps = None; carries = refl; segment_is = refl; after_is = refl }; sent_is = refl; after_is = refl }

happens_11 : Happens echo run.moment_10.world run.moment_11.event run.moment_11.sent run.moment_11.world
unfolding laws IsLe
happens_11 = (path.packet_7, refl, ((path.node_live path.open_point, refl, turn_10 echo), refl))

happens_12 : Happens echo run.moment_11.world run.moment_12.event run.moment_12.sent run.moment_12.world
unfolding laws IsLe
happens_12 = record { client = run.live path.open_client; segment = segment_in path.packet_8; later = run.live path.reported_client; is_there = refl; move = record { move = Text 0 5; window = 65535; may = refl; fits = refl; timestamps = None; carries = refl; segment_is = refl; after_is = refl }; sent_is = refl; after_is = refl }

happens_13 : Happens echo run.moment_12.world run.moment_13.event run.moment_13.sent run.moment_13.world
unfolding laws IsLe
happens_13 = (path.packet_8, refl, ((path.node_live path.taken_point, refl, turn_12), refl))

happens_14 : Happens echo run.moment_13.world run.moment_14.event run.moment_14.sent run.moment_14.world
unfolding laws IsLe
happens_14 = (run.refusal, refl, ((path.node_live run.reset_point, refl, turn_14), refl))

happens_15 : Happens echo run.moment_14.world run.moment_15.event run.moment_15.sent run.moment_15.world
unfolding laws IsLe
happens_15 = (run.done, refl, (refl, refl))

pub is_joint : Joint echo run.start run.trace
is_joint =
    (((((((((((((((starts, happens_1), happens_2), happens_3), happens_4), happens_5), happens_6), happens_7), happens_8), happens_9), happens_10), happens_11), happens_12), happens_13), happens_14), happens_15)

-- the client isn't at an end
pub has_less : HasAll echo run.moment_15.world.log (run.live path.reported_client) → ⊥
has_less h = true≢false (sym h.at_end)
