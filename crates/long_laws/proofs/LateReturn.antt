-- Every moment of the late return happens, and the server is discreet in each.
use Rattle.tcp_rules.specs.declared.timestamping.Timestamping.TheVariants.{Off}
use Rattle.std.proofs.Common.{◌≡◌, false, refl, sym, ◌∙◌, true≢false, Some, [], ◌∷◌, map}
use Rattle.std.specs.List.{AllByRecursion}
use native.Mathlib.Bridge.{IsLe}
use Rattle.server_trait.specs.Service.{Machine}
use Rattle.tcp_rules.specs.Profile.{plain}
use Rattle.seq_arith.specs.Message.Body.{OpenMsg, OpenedMsg}
use Rattle.ft_model.specs.Connection.{ConnectionTurn}
use Rattle.ft_model.specs.Lawful.{LawfulTurn}
use Rattle.ft_model.specs.Log.{Log}
use Rattle.ft_model.specs.Network.{Packet}
use Rattle.ft_model.specs.Network.Packet.{To_server, To_client, To_logger, From_logger}
use Rattle.ft_model.specs.News.News.{Begins}
use Rattle.ft_model.specs.Node.Input.{Packet_comes, Message_comes}
use Rattle.ft_model.specs.Node.Place.{Opens, Lives}
use Rattle.ft_model.specs.Node.Stage.{Serving}
use Rattle.ft_model.specs.Opening.{point_opened}
use Rattle.ft_model.specs.ServingTurn.{PlaceTurn}
use Rattle.ft_model.specs.World.{World}
use Rattle.ft_model.specs.WorkedRuns.Common.{server, client_segment, from_client, to_client, to_log, from_log}
use Rattle.ft_model.specs.WorkedRuns.FirstPath as path
use Rattle.ft_model.proofs.Lists.{all_weaker}
use Rattle.ft_model.proofs.Turns.{laws, alone, goes, message_in}
use Rattle.long_laws.specs.EarlyReturn as early
use Rattle.long_laws.specs.LateReturn as run
use Rattle.long_laws.specs.LongTrace.{LongMoment, LongJoint, MayPass}
use Rattle.long_laws.specs.LongResets.{receives_full, is_reset, ResetsOnlyLogged, IsDiscreet, AreDiscreet}
use Rattle.long_laws.proofs.EarlyReturn.{all_ended, is_long}

-- any service, without a greeting
module _ {State : Type 0} (any : Machine State) where
  abbrev service : Machine State
  service = record any { greeting = [] }

  abbrev Passes : LongMoment → LongMoment → Type 0
  Passes before after = MayPass service before.world after.step after.sent after.world

  passes_18 : Passes early.moment_17 run.moment_18
  passes_18 = (record { absent = refl; clear = all_ended; unasked = (refl, (refl, (refl, tt))) }, refl, refl, refl)

  turn_19 : LawfulTurn service (path.node_at (Serving 1 [])) (Packet_comes (client_segment 2 9000 0 65535 [])) run.moment_19.sent (path.node_at (Serving 2 (Opens early.numbers Off ∷ [])))
  unfolding laws
  turn_19 = record { server = refl; profile = refl; boot = refl; isn = refl; live = refl; stage = (Opens early.numbers Off ∷ [], refl, record { went = []; by_places = []; all_go = (refl, refl); places = refl; packets = refl }) }

  passes_19 : Passes run.moment_18 run.moment_19
  unfolding laws IsLe
  passes_19 = ((from_client 2 9000 0 65535 [], refl, ((path.node_at (Serving 2 (Opens early.numbers Off ∷ [])), refl, turn_19), refl)), refl)

  passes_20 : Passes run.moment_19 run.moment_20
  unfolding laws IsLe
  passes_20 = ((to_log 1 (OpenMsg early.numbers), refl, (refl, refl)), refl)

  -- the SYN-ACK leaves
  begins : ConnectionTurn service server 1 Begins (point_opened plain Off early.numbers) run.begun_point run.moment_21.sent
  unfolding laws
  begins = goes service server 1 Begins (point_opened plain Off early.numbers) run.begun_point run.moment_21.sent refl refl refl refl

  turn_21 : LawfulTurn service (path.node_at (Serving 2 (Opens early.numbers Off ∷ []))) (Message_comes (message_in (from_log 1 (OpenedMsg early.numbers)))) run.moment_21.sent (path.node_at (Serving 2 (Lives run.begun_point ∷ [])))
  unfolding laws
  turn_21 = record { server = refl; profile = refl; boot = refl; isn = refl; live = refl; stage = (Lives run.begun_point ∷ [], refl, record { went = Lives run.begun_point ∷ []; by_places = run.moment_21.sent; all_go = alone (PlaceTurn service (path.node_at (Serving 2 (Opens early.numbers Off ∷ []))) (Message_comes (message_in (from_log 1 (OpenedMsg early.numbers))))) (Opens early.numbers Off) (Lives run.begun_point ∷ []) run.moment_21.sent (run.begun_point, refl, begins); places = refl; packets = refl }) }

  passes_21 : Passes run.moment_20 run.moment_21
  unfolding laws IsLe
  passes_21 = ((from_log 1 (OpenedMsg early.numbers), refl, ((path.node_at (Serving 2 (Lives run.begun_point ∷ [])), refl, turn_21), refl)), refl)

  passes_22 : Passes run.moment_21 run.moment_22
  unfolding laws IsLe
  passes_22 = ((to_client 18 70536 9001 65535 (Some 1460) [], refl, (refl, refl)), refl)

  -- the first return up to the SYN, and then these
  pub late_is_long : LongJoint service path.start run.trace
  late_is_long = ((((((is_long any).0.0.0.0.0, passes_18), passes_19), passes_20), passes_21), passes_22)

-- nobody is reset, and no Full is heard
spares : (log : Log) (p : Packet) → is_reset p ≡ false → ResetsOnlyLogged log p
spares log (To_client segment) e = λ r. absurd (true≢false (sym r ∙ e))
spares log (To_server segment) e = tt
spares log (To_logger message) e = tt
spares log (From_logger message) e = tt

quiet : (before : World) (moment : LongMoment) → receives_full before moment.step ≡ false → AllByRecursion (λ p. is_reset p ≡ false) moment.sent → IsDiscreet before moment
quiet before moment full none = record {
  full = λ e. absurd (true≢false (sym e ∙ full));
  unlogged = all_weaker (λ p. is_reset p ≡ false) (ResetsOnlyLogged moment.world.now.log) moment.sent (spares moment.world.now.log) none;
}

opening_is_discreet : AreDiscreet path.start (map early.joint_moment path.opening_trace)
opening_is_discreet =
    ((((((((((tt, quiet _ _ refl (refl, tt)), quiet _ _ refl (refl, tt)), quiet _ _ refl tt), quiet _ _ refl (refl, tt)), quiet _ _ refl (refl, tt)), quiet _ _ refl (refl, tt)), quiet _ _ refl (refl, tt)), quiet _ _ refl tt), quiet _ _ refl (refl, tt)), quiet _ _ refl tt)

pub late_is_discreet : AreDiscreet path.start run.trace
late_is_discreet =
    ((((((((((((opening_is_discreet, quiet _ _ refl (refl, tt)), quiet _ _ refl (refl, tt)), quiet _ _ refl (refl, tt)), quiet _ _ refl tt), quiet _ _ refl tt), quiet _ _ refl tt), quiet _ _ refl (refl, tt)), quiet _ _ refl tt), quiet _ _ refl (refl, tt)), quiet _ _ refl (refl, tt)), quiet _ _ refl (refl, tt)), quiet _ _ refl tt)
