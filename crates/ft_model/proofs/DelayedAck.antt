-- The first path with the profile for wide-area networks, whole: each moment happens and is allowed.
use Rattle.std.proofs.Common.{◌^◌, refl, None, [], ◌∷◌}
use native.Mathlib.Bridge.{le_by_compare, IsLe}
use Rattle.tcp_rules.specs.declared.timestamping.Timestamping.TheVariants.{Off}
use Rattle.tcp_rules.specs.Profile.{wan}
use Rattle.server_trait.specs.Service.{Machine}
use Rattle.ft_model.specs.Client.Move.{Syn, Text, Acknowledge}
use Rattle.ft_model.specs.News.News.{Comes, Logged, Begins}
use Rattle.ft_model.specs.Opening.{point_opened}
use Rattle.ft_model.specs.Node.{booted}
use Rattle.ft_model.specs.Node.Input.{Packet_comes, Message_comes}
use Rattle.ft_model.specs.Node.Stage.{Serving}
use Rattle.ft_model.specs.Node.Place.{Opens, Lives}
use Rattle.ft_model.specs.ServingTurn.{PlaceTurn}
use Rattle.ft_model.specs.Lawful.{LawfulTurn}
use Rattle.ft_model.specs.World.{Moment, IsStart, Joint, Happens}
use Rattle.ft_model.specs.Legal.{IsAllowed, AllAllowed, Legal}
use Rattle.ft_model.specs.WorkedRuns.Common.{echo, server, numbers, hello_text, client_with, IsUnlawful}
use Rattle.ft_model.specs.WorkedRuns.FirstPath as path
use Rattle.ft_model.specs.WorkedRuns.DelayedAck as run
use Rattle.ft_model.proofs.AllowedMoments.{hello_bytes, starts_in}
use Rattle.ft_model.proofs.AskedMoves.{scripted, still}
use Rattle.ft_model.proofs.FirstPath.{quiet}
use Rattle.ft_model.proofs.Turns.{laws, alone, goes, serves_in, segment_in, message_in, kept_in}
use Rattle.ft_model.proofs.WrongTurns.{refused}

-- the server's turns until the connection is open are the same for every service
pub turn_3 : {State : Type 0} (service : Machine State) → LawfulTurn (quiet service) (booted server wan 1 5000) (Message_comes (message_in path.packet_2)) [] (run.node_at (Serving 0 []))
unfolding laws
turn_3 service = record { server = refl; profile = refl; boot = refl; isn = refl; live = refl; stage = ([], refl, (refl, refl)) }

pub turn_5 : {State : Type 0} (service : Machine State)
    → LawfulTurn (quiet service) (run.node_at (Serving 0 [])) (Packet_comes (segment_in path.packet_3)) run.moment_5.sent (run.node_at (Serving 1 (Opens numbers Off ∷ [])))
unfolding laws
turn_5 service = record {
  server = refl;
  profile = refl;
  boot = refl;
  isn = refl;
  live = refl;
  stage = (Opens numbers Off ∷ [], refl, record { went = []; by_places = []; all_go = (refl, refl); places = refl; packets = refl });
}

pub turn_7 : {State : Type 0} (service : Machine State)
    → LawfulTurn (quiet service) (run.node_at (Serving 1 (Opens numbers Off ∷ []))) (Message_comes (message_in path.packet_5)) run.moment_7.sent (run.node_live run.begun_point)
unfolding laws
turn_7 service = record {
  server = refl;
  profile = refl;
  boot = refl;
  isn = refl;
  live = refl;
  stage = (
    Lives run.begun_point ∷ [],
    refl,
    record {
      went = Lives run.begun_point ∷ [];
      by_places = run.moment_7.sent;
      all_go = alone (PlaceTurn (quiet service) (run.node_at (Serving 1 (Opens numbers Off ∷ []))) (Message_comes (message_in path.packet_5))) (Opens numbers Off) (Lives run.begun_point ∷ []) run.moment_7.sent
          (run.begun_point, refl, goes (quiet service) server 1 Begins (point_opened wan Off numbers) run.begun_point run.moment_7.sent refl refl refl refl);
      places = refl;
      packets = refl;
    },
  );
}

pub turn_10 : {State : Type 0} (service : Machine State) → LawfulTurn (quiet service) (run.node_live run.begun_point) (Packet_comes (segment_in path.packet_7)) [] (run.node_live run.open_point)
unfolding laws
turn_10 service = serves_in (quiet service) wan 1 5000 (Packet_comes (segment_in path.packet_7)) run.begun_point run.open_point [] refl refl refl
    (run.open_point, refl, goes (quiet service) server 1 (Comes (segment_in path.packet_7)) run.begun_point run.open_point [] refl refl refl refl)

-- the text is taken and read, and its ACK waits
pub turn_12 : LawfulTurn echo (run.node_live run.open_point) path.text_comes run.moment_12.sent (run.node_live run.taken_point)
unfolding laws
turn_12 = serves_in echo wan 1 5000 path.text_comes run.open_point run.taken_point run.moment_12.sent refl refl refl
    (run.taken_point, refl, goes echo server 1 (Comes (segment_in path.packet_8)) run.open_point run.taken_point run.moment_12.sent refl refl refl refl)

-- the text is logged
turn_14 : LawfulTurn echo (run.node_live run.taken_point) path.stable_comes run.moment_14.sent (run.node_live run.logged_point)
unfolding laws
turn_14 = serves_in echo wan 1 5000 path.stable_comes run.taken_point run.logged_point run.moment_14.sent refl refl refl
    (run.logged_point, refl, goes echo server 1 (Logged (kept_in path.packet_12)) run.taken_point run.logged_point run.moment_14.sent refl refl refl refl)

-- the read is logged
turn_16 : LawfulTurn echo (run.node_live run.logged_point) (Message_comes (message_in path.packet_14)) run.moment_16.sent (run.node_live run.released_point)
unfolding laws
turn_16 = serves_in echo wan 1 5000 (Message_comes (message_in path.packet_14)) run.logged_point run.released_point run.moment_16.sent refl refl refl
    (run.released_point, refl, goes echo server 1 (Logged (kept_in path.packet_14)) run.logged_point run.released_point run.moment_16.sent refl refl refl refl)

starts : IsStart run.start
unfolding IsLe
starts = starts_in wan hello_text hello_bytes (le_by_compare 5 (2 ^ 24) tt)

abbrev Follows : Moment → Moment → Type 0
Follows before after = Happens echo before.world after.event after.sent after.world

-- what happens
happens_1 : Happens echo run.start run.moment_1.event run.moment_1.sent run.moment_1.world
unfolding laws IsLe
happens_1 = (refl, (le_by_compare 1 1 tt, le_by_compare 2 (2 ^ 64) tt), refl, refl)

happens_2 : Follows run.moment_1 run.moment_2
unfolding laws IsLe
happens_2 = (path.packet_1, refl, (refl, refl))

happens_3 : Follows run.moment_2 run.moment_3
unfolding laws IsLe
happens_3 = (path.packet_2, refl, ((run.node_at (Serving 0 []), refl, turn_3 echo), refl))

happens_4 : Follows run.moment_3 run.moment_4
unfolding laws IsLe
happens_4 = record { client = client_with hello_text; segment = segment_in path.packet_3; later = path.opening; is_there = refl; move = record { move = Syn None; window = 65535; may = refl; fits = refl; timestamps = None; carries = refl; segment_is = refl; after_is = refl }; sent_is = refl; after_is = refl }

happens_5 : Follows run.moment_4 run.moment_5
unfolding laws IsLe
happens_5 = (path.packet_3, refl, ((run.node_at (Serving 1 (Opens numbers Off ∷ [])), refl, turn_5 echo), refl))

happens_6 : Follows run.moment_5 run.moment_6
unfolding laws IsLe
happens_6 = (path.packet_4, refl, (refl, refl))

happens_7 : Follows run.moment_6 run.moment_7
unfolding laws IsLe
happens_7 = (path.packet_5, refl, ((run.node_live run.begun_point, refl, turn_7 echo), refl))

happens_8 : Follows run.moment_7 run.moment_8
unfolding laws IsLe
happens_8 = (path.packet_6, refl, (refl, refl))

happens_9 : Follows run.moment_8 run.moment_9
unfolding laws IsLe
happens_9 = record { client = path.open_client; segment = segment_in path.packet_7; later = path.open_client; is_there = refl; move = record { move = Acknowledge; window = 65535; may = refl; fits = refl; timestamps = None; carries = refl; segment_is = refl; after_is = refl }; sent_is = refl; after_is = refl }

happens_10 : Follows run.moment_9 run.moment_10
unfolding laws IsLe
happens_10 = (path.packet_7, refl, ((run.node_live run.open_point, refl, turn_10 echo), refl))

happens_11 : Follows run.moment_10 run.moment_11
unfolding laws IsLe
happens_11 = record { client = path.open_client; segment = segment_in path.packet_8; later = path.reported_client; is_there = refl; move = record { move = Text 0 5; window = 65535; may = refl; fits = refl; timestamps = None; carries = refl; segment_is = refl; after_is = refl }; sent_is = refl; after_is = refl }

happens_12 : Follows run.moment_11 run.moment_12
unfolding laws IsLe
happens_12 = (path.packet_8, refl, ((run.node_live run.taken_point, refl, turn_12), refl))

happens_13 : Follows run.moment_12 run.moment_13
unfolding laws IsLe
happens_13 = (path.packet_10, refl, (refl, refl))

happens_14 : Follows run.moment_13 run.moment_14
unfolding laws IsLe
happens_14 = (path.packet_12, refl, ((run.node_live run.logged_point, refl, turn_14), refl))

happens_15 : Follows run.moment_14 run.moment_15
unfolding laws IsLe
happens_15 = (path.packet_11, refl, (refl, refl))

happens_16 : Follows run.moment_15 run.moment_16
unfolding laws IsLe
happens_16 = (path.packet_14, refl, ((run.node_live run.released_point, refl, turn_16), refl))

happens_17 : Follows run.moment_16 run.moment_17
unfolding laws IsLe
happens_17 = (path.packet_15, refl, (refl, refl))

pub opening_is_joint : Joint echo run.start run.opening_trace
opening_is_joint = ((((((((((starts, happens_1), happens_2), happens_3), happens_4), happens_5), happens_6), happens_7), happens_8), happens_9), happens_10)

is_joint : Joint echo run.start run.trace
is_joint = (((((((opening_is_joint, happens_11), happens_12), happens_13), happens_14), happens_15), happens_16), happens_17)

-- and is allowed
allowed_4 : IsAllowed run.moment_3.world run.moment_4
allowed_4 = record { allowed = refl; scripted = scripted run.moment_3.world run.moment_4.event (client_with hello_text) (Syn None) 1 run.moment_4.world refl refl refl }

allowed_9 : IsAllowed run.moment_8.world run.moment_9
allowed_9 = record { allowed = refl; scripted = scripted run.moment_8.world run.moment_9.event path.open_client Acknowledge 1 run.moment_9.world refl refl refl }

allowed_11 : IsAllowed run.moment_10.world run.moment_11
allowed_11 = record { allowed = refl; scripted = scripted run.moment_10.world run.moment_11.event path.open_client (Text 0 5) 1 run.moment_11.world refl refl refl }

pub opening_allowed : AllAllowed run.start run.opening_trace
opening_allowed = ((((((((((tt, still run.start run.moment_1 refl refl), still run.moment_1.world run.moment_2 refl refl), still run.moment_2.world run.moment_3 refl refl), allowed_4), still run.moment_4.world run.moment_5 refl refl), still run.moment_5.world run.moment_6 refl refl), still run.moment_6.world run.moment_7 refl refl), still run.moment_7.world run.moment_8 refl refl), allowed_9), still run.moment_9.world run.moment_10 refl refl)

pub is_legal : Legal (λ kind. echo) run.schedule run.trace
is_legal = record {
  joint = is_joint;
  events_are = refl;
  allowed = (((((((opening_allowed, allowed_11), still run.moment_11.world run.moment_12 refl refl), still run.moment_12.world run.moment_13 refl refl), still run.moment_13.world run.moment_14 refl refl), still run.moment_14.world run.moment_15 refl refl), still run.moment_15.world run.moment_16 refl refl), still run.moment_16.world run.moment_17 refl refl);
}

-- the wrong turn: an ACK at once
pub acked_at_once : IsUnlawful (run.node_live run.open_point) path.text_comes run.acked_at_once
acked_at_once = refused echo (run.node_live run.open_point) (run.node_live run.taken_point) path.text_comes run.moment_12.sent run.acked_at_once turn_12 refl refl
