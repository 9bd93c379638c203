-- Every moment of the early return happens: each equation computes.
use Rattle.tcp_rules.specs.declared.timestamping.Timestamping.TheVariants.{Off}
use Rattle.std.proofs.Common.{◌≡◌, ◌^◌, true, refl, sym, subst, true≢false, Some, None, List, [], ◌∷◌, map}
use Rattle.std.specs.List.{AllByRecursion}
use native.Mathlib.Bridge.{le_by_compare, IsLe}
use Rattle.server_trait.specs.Service.{Machine}
use Rattle.seq_arith.specs.Message.Body.{DoneMsg, EndedMsg, OpenMsg}
use Rattle.ft_model.specs.Client.Move.{Syn, Rst}
use Rattle.ft_model.specs.Connection.{ConnectionTurn}
use Rattle.ft_model.specs.Lawful.{LawfulTurn}
use Rattle.ft_model.specs.News.News.{Comes}
use Rattle.ft_io.specs.Key.{key_eq}
use Rattle.ft_model.specs.Masked.{is_restarting}
use Rattle.ft_model.specs.Node.{Node, key_of}
use Rattle.ft_model.specs.Node.Input.{Packet_comes, Message_comes}
use Rattle.ft_model.specs.Node.Place.{Opens, Lives, Ended}
use Rattle.ft_model.specs.Node.Stage.{Serving}
use Rattle.ft_model.specs.Resets.{ResetsNoLogged}
use Rattle.ft_model.specs.ServingTurn.{PlaceTurn}
use Rattle.ft_model.specs.World.{World, Moment, Joint}
use Rattle.ft_model.specs.WorkedRuns.Common.{server, key, client_segment, from_client, to_client, to_log, from_log}
use Rattle.ft_model.specs.WorkedRuns.FirstPath as path
use Rattle.ft_model.proofs.FirstPath.{opening_is_joint}
use Rattle.ft_model.proofs.Lists.{some_is}
use Rattle.ft_model.proofs.Turns.{laws, alone, message_in}
use Rattle.long_laws.specs.LongTrace.{LongMoment, LongJoint, MayPass, places_at, IsEnded}
use Rattle.long_laws.specs.EarlyReturn as run

-- a joint trace is a long one
long_of_joint : {State : Type 0} (service : Machine State) (start : World) (trace : List Moment) → Joint service start trace → LongJoint service start (map run.joint_moment trace)
long_of_joint service start [] j = j
long_of_joint service start (moment ∷ []) j = (j.0, (j.1, refl))
long_of_joint service start (moment ∷ other ∷ earlier) j = (long_of_joint service start (other ∷ earlier) j.0, (j.1, refl))

-- the server with the key as done: it is all that it has of it
abbrev pub ended_node : Node
ended_node = path.node_at (Serving 1 (Ended key ∷ []))

pub all_ended : (node : Node) → Some ended_node ≡ Some node → AllByRecursion (λ place. key_eq (key_of place) key ≡ true → IsEnded place) (places_at node.stage)
all_ended node up = subst (λ x. AllByRecursion (λ place. key_eq (key_of place) key ≡ true → IsEnded place) (places_at x.stage)) (some_is ended_node node up) ((λ same. tt), tt)

-- any service, without a greeting
module _ {State : Type 0} (any : Machine State) where
  abbrev service : Machine State
  service = record any { greeting = [] }

  abbrev Passes : LongMoment → LongMoment → Type 0
  Passes before after = MayPass service before.world after.step after.sent after.world

  -- the client resets the connection
  passes_11 : MayPass service (record { now = path.moment_10.world; past = [] }) run.moment_11.step run.moment_11.sent run.moment_11.world
  unfolding laws IsLe
  passes_11 = (record { client = path.open_client; segment = client_segment 4 1001 0 0 []; later = run.reset_client; is_there = refl; move = record { move = Rst; window = 0; may = refl; fits = refl; timestamps = None; carries = refl; segment_is = refl; after_is = refl }; sent_is = refl; after_is = refl }, refl)

  resets : ConnectionTurn service server 1 (Comes (client_segment 4 1001 0 0 [])) path.open_point run.reset_point run.moment_12.sent
  unfolding laws
  resets = record { point = refl; packets = refl }

  turn_12 : LawfulTurn service (path.node_live path.open_point) (Packet_comes (client_segment 4 1001 0 0 [])) run.moment_12.sent (path.node_live run.reset_point)
  unfolding laws
  turn_12 = record { server = refl; profile = refl; boot = refl; isn = refl; live = refl; stage = (Lives run.reset_point ∷ [], refl, record { went = Lives run.reset_point ∷ []; by_places = run.moment_12.sent; all_go = alone (PlaceTurn service (path.node_live path.open_point) (Packet_comes (client_segment 4 1001 0 0 []))) (Lives path.open_point) (Lives run.reset_point ∷ []) run.moment_12.sent (run.reset_point, refl, resets); places = refl; packets = refl }) }

  passes_12 : Passes run.moment_11 run.moment_12
  unfolding laws IsLe
  passes_12 = ((from_client 4 1001 0 0 [], refl, ((path.node_live run.reset_point, refl, turn_12), refl)), refl)

  passes_13 : Passes run.moment_12 run.moment_13
  unfolding laws IsLe
  passes_13 = ((to_log 1 (DoneMsg key), refl, (refl, refl)), refl)

  turn_14 : LawfulTurn service (path.node_live run.reset_point) (Message_comes (message_in (from_log 1 (EndedMsg key)))) [] ended_node
  unfolding laws
  turn_14 = record { server = refl; profile = refl; boot = refl; isn = refl; live = refl; stage = (Ended key ∷ [], refl, record { went = Ended key ∷ []; by_places = []; all_go = alone (PlaceTurn service (path.node_live run.reset_point) (Message_comes (message_in (from_log 1 (EndedMsg key))))) (Lives run.reset_point) (Ended key ∷ []) [] (refl, refl); places = refl; packets = refl }) }

  passes_14 : Passes run.moment_13 run.moment_14
  unfolding laws IsLe
  passes_14 = ((from_log 1 (EndedMsg key), refl, ((ended_node, refl, turn_14), refl)), refl)

  -- the log gives it up, and the new client arrives
  passes_15 : Passes run.moment_14 run.moment_15
  passes_15 = (
    record {
      done = λ e found. subst (λ x. x.done ≡ true) (some_is run.done_entry e found) refl;
      clear = all_ended;
      settled = λ node up r. absurd (true≢false (sym (subst (λ x. is_restarting x.stage ≡ true) (sym (some_is ended_node node up)) r)));
    },
    refl,
    refl,
    refl,
  )

  passes_16 : Passes run.moment_15 run.moment_16
  unfolding IsLe
  passes_16 = (
    record {
      new = record { new = refl; ip = le_by_compare _ (2 ^ 32) tt; port = le_by_compare _ (2 ^ 16) tt; number = le_by_compare _ (2 ^ 32) tt; bytes = tt; short = le_by_compare 0 (2 ^ 24) tt };
      apart = refl;
      absent = refl;
      clear = all_ended;
      unreceived = (refl, (refl, tt));
    },
    refl,
    refl,
    refl,
  )

  passes_17 : Passes run.moment_16 run.moment_17
  unfolding laws IsLe
  passes_17 = (record { client = run.comer; segment = client_segment 2 9000 0 65535 []; later = run.opening; is_there = refl; move = record { move = Syn None; window = 65535; may = refl; fits = refl; timestamps = None; carries = refl; segment_is = refl; after_is = refl }; sent_is = refl; after_is = refl }, refl)

  -- CLOSED's RST
  turn_18 : LawfulTurn service ended_node (Packet_comes (client_segment 2 9000 0 65535 [])) run.moment_18.sent ended_node
  unfolding laws
  turn_18 = record { server = refl; profile = refl; boot = refl; isn = refl; live = refl; stage = (Ended key ∷ [], refl, record { went = Ended key ∷ []; by_places = run.moment_18.sent; all_go = alone (PlaceTurn service ended_node (Packet_comes (client_segment 2 9000 0 65535 []))) (Ended key) (Ended key ∷ []) run.moment_18.sent (refl, refl); places = refl; packets = refl }) }

  passes_18 : Passes run.moment_17 run.moment_18
  unfolding laws IsLe
  passes_18 = ((from_client 2 9000 0 65535 [], refl, ((ended_node, refl, turn_18), refl)), refl)

  passes_19 : Passes run.moment_18 run.moment_19
  passes_19 = (
    record {
      absent = refl;
      clear = all_ended;
      unasked = (refl, (refl, (refl, (refl, tt))));
    },
    refl,
    refl,
    refl,
  )

  -- the SYN comes again
  turn_20 : LawfulTurn service (path.node_at (Serving 1 [])) (Packet_comes (client_segment 2 9000 0 65535 [])) run.moment_20.sent (path.node_at (Serving 2 (Opens run.numbers Off ∷ [])))
  unfolding laws
  turn_20 = record { server = refl; profile = refl; boot = refl; isn = refl; live = refl; stage = (Opens run.numbers Off ∷ [], refl, record { went = []; by_places = []; all_go = (refl, refl); places = refl; packets = refl }) }

  passes_20 : Passes run.moment_19 run.moment_20
  unfolding laws IsLe
  passes_20 = ((from_client 2 9000 0 65535 [], refl, ((path.node_at (Serving 2 (Opens run.numbers Off ∷ [])), refl, turn_20), refl)), refl)

  passes_21 : Passes run.moment_20 run.moment_21
  unfolding laws IsLe
  passes_21 = ((to_log 1 (OpenMsg run.numbers), refl, (refl, refl)), refl)

  -- and the RST arrives
  passes_22 : Passes run.moment_21 run.moment_22
  unfolding laws IsLe
  passes_22 = ((to_client 20 0 9001 0 None [], refl, (refl, refl)), refl)

  pub is_long : LongJoint service path.start run.trace
  is_long =
      ((((((((((((long_of_joint service path.start path.opening_trace (opening_is_joint any), passes_11), passes_12), passes_13), passes_14), passes_15), passes_16), passes_17), passes_18), passes_19), passes_20), passes_21), passes_22)

-- the RST is under way to a client whose entry isn't done
pub logged : AllByRecursion (ResetsNoLogged run.moment_21.world.now.log) run.moment_21.world.now.packets → ⊥
logged a = true≢false (sym (a.1.1.1.0 refl))
