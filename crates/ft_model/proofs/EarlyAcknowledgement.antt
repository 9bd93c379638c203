-- The trace with the early acknowledgement: each other moment happens, and the bytes are lost.
use Rattle.std.proofs.Common.{◌^◌, ◌≡◌, ℕ, pos, ◌≤ℤ◌, false, refl, ◌∷◌, ◌++◌, arith}
use Rattle.std.specs.List.{AllByRecursion}
use Rattle.std.proofs.lemmas.Int.{ints}
use native.Mathlib.Bridge.{le_by_compare, IsLe}
use Rattle.seq_arith.specs.Message.Body.{HelloMsg}
use Rattle.ft_model.specs.Client.{may_move}
use Rattle.ft_model.specs.Client.Move.{Text}
use Rattle.ft_model.specs.Growth.{logged_units}
use Rattle.ft_model.specs.Log.{log_after}
use Rattle.ft_model.specs.Masked.{Masked}
use Rattle.ft_model.specs.World.{Happens}
use Rattle.ft_model.specs.WeakerLaw.{IsWrongOnce}
use Rattle.ft_model.specs.WorkedRuns.Common.{echo, key, to_log}
use Rattle.ft_model.specs.WorkedRuns.FirstPath as path
use Rattle.ft_model.specs.WorkedRuns.EarlyAcknowledgement as run
use Rattle.ft_model.proofs.Turns.{laws, segment_in}
use Rattle.ft_model.proofs.FirstPath.{opening_is_joint, happens_11, happens_12}
use Rattle.ft_model.proofs.WrongTurns.{passed_on, never_happens}

happens_13 : Happens echo run.wrong.world run.moment_13.event run.moment_13.sent run.moment_13.world
unfolding laws
happens_13 = (path.packet_13, refl, (refl, refl))

happens_14 : Happens echo run.moment_13.world run.moment_14.event run.moment_14.sent run.moment_14.world
happens_14 = (refl, refl, refl)

happens_15 : Happens echo run.moment_14.world run.moment_15.event run.moment_15.sent run.moment_15.world
unfolding IsLe
happens_15 = (refl, (le_by_compare 2 2 tt, le_by_compare 3 (2 ^ 64) tt), refl, refl)

happens_16 : Happens echo run.moment_15.world run.moment_16.event run.moment_16.sent run.moment_16.world
unfolding laws
happens_16 = (to_log 2 HelloMsg, refl, (refl, refl))

pub wrong_once : IsWrongOnce echo path.start run.later run.wrong run.earlier
wrong_once = record {
  before = (opening_is_joint echo, happens_11);
  refused = never_happens echo path.moment_11.world run.wrong.world 8 (segment_in path.packet_8) (path.node_live path.open_point) run.wrong.sent refl refl passed_on;
  otherwise = (path.moment_12.sent, path.moment_12.world, happens_12);
  after = ((((tt, happens_13), happens_14), happens_15), happens_16);
}

pub not_masked : Masked echo path.start (run.later ++ run.wrong ∷ run.earlier) → ⊥
unfolding laws
not_masked m =
    let high : pos 5 ≤ℤ pos 0 = (m.0.0.0.0.1.acknowledged.0 refl refl).0 refl in
    omega (arith, ints, high)

pub not_logged : logged_units key run.moment_16.world.log ≡ 0
not_logged = refl

pub fenced : log_after run.moment_16.world.log run.data_message ≡ run.moment_16.world.log
unfolding laws
fenced = refl

pub not_sent_again : AllByRecursion (λ client. (len : ℕ) → may_move client (Text 0 len) ≡ false) run.moment_16.world.clients
not_sent_again = (λ len. refl, tt)
