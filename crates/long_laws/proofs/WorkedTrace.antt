-- The worked run is a long trace: each equation computes.
use Rattle.tcp_rules.specs.declared.timestamping.Timestamping.TheVariants.{Off}
use Rattle.std.proofs.Common.{◌≡◌, ◌^◌, refl, sym, ◌∙◌, subst, true, true≢false, Some, None, [], ◌∷◌, map}
use native.Mathlib.Bridge.{le_by_compare, IsLe}
use Rattle.std.specs.List.{AllByRecursion}
use Rattle.ft_io.specs.Key.{key_eq}
use Rattle.tcp_rules.specs.Profile.{plain}
use Rattle.seq_arith.specs.Message.Body.{OpenMsg, OpenedMsg}
use Rattle.ft_model.specs.Client.Move.{Syn}
use Rattle.ft_model.specs.Lawful.{LawfulTurn}
use Rattle.ft_model.specs.Log.{Entry}
use Rattle.ft_model.specs.Masked.{is_restarting}
use Rattle.ft_model.specs.Network.Packet.{To_server}
use Rattle.ft_model.specs.News.News.{Begins}
use Rattle.ft_model.specs.Node.{Node, key_of}
use Rattle.ft_model.specs.Node.Input.{Packet_comes, Message_comes}
use Rattle.ft_model.specs.Node.Place.{Opens, Lives, Ended}
use Rattle.ft_model.specs.Opening.{point_opened}
use Rattle.ft_model.specs.ServingTurn.{PlaceTurn}
use Rattle.ft_model.specs.World.{World}
use Rattle.ft_model.specs.WorkedRuns.Common.{echo, server, key, to_log, from_log}
use Rattle.ft_model.proofs.Lists.{some_is}
use Rattle.ft_model.proofs.Turns.{laws, alone, goes}
use Rattle.long_laws.specs.LongTrace.{LongWorld, LongMoment, LongJoint, MayPass, MayRecycle, MayForget, MayArrive, IsClear, IsEnded, places_at, last_rst, as_long, long_after}
use Rattle.long_laws.specs.WorkedTrace as run
use Rattle.long_laws.proofs.FirstLife as first
use Rattle.long_laws.proofs.JointTraces.{is_long}

abbrev Passes : LongWorld → LongMoment → Type 0
Passes before moment = MayPass echo before moment.step moment.sent moment.world

-- the one server that is up has the key as done, or not at all
abbrev HasEnded : Node → Type 0
HasEnded node = AllByRecursion (λ place. key_eq (key_of place) key ≡ true → IsEnded place) (places_at node.stage)

is_clear : (w : World) (node : Node) → w.node ≡ Some node → HasEnded node → IsClear key w
is_clear w node up ended other up_too = subst HasEnded (some_is node other (sym up ∙ up_too)) ended

recycles : MayRecycle key run.moment_29.world
recycles = record {
  done = λ e found. subst (λ (x : Entry). x.done ≡ true) (some_is run.done_entry e found) refl;
  clear = is_clear run.moment_29.world (run.serving 1 (Ended key ∷ [])) refl ((λ same. tt), tt);
  settled = λ node up restarts. absurd (true≢false (sym (subst (λ n. is_restarting n.stage ≡ true) (sym (some_is (run.serving 1 (Ended key ∷ [])) node up)) restarts)));
}

arrives : MayArrive run.second_client run.moment_30.world.now
unfolding IsLe
arrives = record {
  new = record {
    new = refl;
    ip = le_by_compare 3221225986 (2 ^ 32) tt;
    port = le_by_compare 40001 (2 ^ 16) tt;
    number = le_by_compare 9001 (2 ^ 32) tt;
    bytes = tt;
    short = le_by_compare 0 (2 ^ 24) tt;
  };
  apart = refl;
  absent = refl;
  clear = is_clear run.moment_30.world.now (run.serving 1 (Ended key ∷ [])) refl ((λ same. tt), tt);
  unreceived = (refl, (refl, tt));
}

forgets : MayForget key run.moment_32.world.now
forgets = record {
  absent = refl;
  clear = is_clear run.moment_32.world.now (run.serving 1 (Ended key ∷ [])) refl ((λ same. tt), tt);
  unasked = (refl, (refl, (refl, tt)));
}

-- the SYN opens a connection, and Opened begins it
turn_34 : LawfulTurn echo (run.serving 1 []) (Packet_comes run.second_syn) (to_log 1 (OpenMsg run.second_numbers) ∷ []) (run.serving 2 (Opens run.second_numbers Off ∷ []))
unfolding laws
turn_34 = record { server = refl; profile = refl; boot = refl; isn = refl; live = refl; stage = (Opens run.second_numbers Off ∷ [], refl, record { went = []; by_places = []; all_go = (refl, refl); places = refl; packets = refl }) }

turn_36 : LawfulTurn echo (run.serving 2 (Opens run.second_numbers Off ∷ [])) (Message_comes (record { boot = 1; body = OpenedMsg run.second_numbers })) run.moment_36.sent (run.serving 2 (Lives run.second_begun ∷ []))
unfolding laws
turn_36 = record {
  server = refl;
  profile = refl;
  boot = refl;
  isn = refl;
  live = refl;
  stage = (
    Lives run.second_begun ∷ [],
    refl,
    record {
      went = Lives run.second_begun ∷ [];
      by_places = run.moment_36.sent;
      all_go = alone (PlaceTurn echo (run.serving 2 (Opens run.second_numbers Off ∷ [])) (Message_comes (record { boot = 1; body = OpenedMsg run.second_numbers }))) (Opens run.second_numbers Off) (Lives run.second_begun ∷ []) run.moment_36.sent
          (run.second_begun, refl, goes echo server 1 Begins (point_opened plain Off run.second_numbers) run.second_begun run.moment_36.sent refl refl refl refl);
      places = refl;
      packets = refl;
    },
  );
}

-- the turn of the RST that nobody sent
turn_38 : LawfulTurn echo (run.serving 2 (Lives run.second_begun ∷ [])) (Packet_comes (last_rst server run.second_begun)) run.moment_38.sent (run.serving 2 (Lives run.let_go_point ∷ []))
unfolding laws
turn_38 = record {
  server = refl;
  profile = refl;
  boot = refl;
  isn = refl;
  live = refl;
  stage = (
    Lives run.let_go_point ∷ [],
    refl,
    record {
      went = Lives run.let_go_point ∷ [];
      by_places = run.moment_38.sent;
      all_go = alone (PlaceTurn echo (run.serving 2 (Lives run.second_begun ∷ [])) (Packet_comes (last_rst server run.second_begun))) (Lives run.second_begun) (Lives run.let_go_point ∷ []) run.moment_38.sent
          (run.let_go_point, refl, record { point = refl; packets = refl });
      places = refl;
      packets = refl;
    },
  );
}

passes_30 : Passes (long_after run.start (map as_long run.first_life)) run.moment_30
passes_30 = (recycles, refl, refl, refl)

passes_31 : Passes run.moment_30.world run.moment_31
passes_31 = (arrives, refl, refl, refl)

passes_32 : Passes run.moment_31.world run.moment_32
unfolding laws IsLe
passes_32 = (record { client = run.second_client; segment = run.second_syn; later = run.second_opening; is_there = refl; move = record { move = Syn None; window = 65535; may = refl; fits = refl; timestamps = None; carries = refl; segment_is = refl; after_is = refl }; sent_is = refl; after_is = refl }, refl)

passes_33 : Passes run.moment_32.world run.moment_33
passes_33 = (forgets, refl, refl, refl)

passes_34 : Passes run.moment_33.world run.moment_34
unfolding laws IsLe
passes_34 = ((To_server run.second_syn, refl, ((run.serving 2 (Opens run.second_numbers Off ∷ []), refl, turn_34), refl)), refl)

passes_35 : Passes run.moment_34.world run.moment_35
unfolding laws IsLe
passes_35 = ((to_log 1 (OpenMsg run.second_numbers), refl, (refl, refl)), refl)

passes_36 : Passes run.moment_35.world run.moment_36
unfolding laws IsLe
passes_36 = ((from_log 1 (OpenedMsg run.second_numbers), refl, ((run.serving 2 (Lives run.second_begun ∷ []), refl, turn_36), refl)), refl)

passes_37 : Passes run.moment_36.world run.moment_37
unfolding laws IsLe
passes_37 = (record { node = run.serving 2 (Lives run.second_begun ∷ []); up = refl; point = run.second_begun; lives = refl; unreset = refl; sent_is = refl; after_is = refl }, refl)

passes_38 : Passes run.moment_37.world run.moment_38
unfolding laws IsLe
passes_38 = (record { node = run.serving 2 (Lives run.second_begun ∷ []); up = refl; point = run.second_begun; lives = refl; later = run.serving 2 (Lives run.let_go_point ∷ []); turn = turn_38; after_is = refl }, refl)

pub is_joint : LongJoint echo run.start run.trace
is_joint = (((((((is_long echo run.start run.first_life first.is_joint, passes_30), passes_31), passes_32), passes_33), passes_34), passes_35), passes_36)

pub silent_is_joint : LongJoint echo run.start run.silent_trace
silent_is_joint = ((is_joint, passes_37), passes_38)
