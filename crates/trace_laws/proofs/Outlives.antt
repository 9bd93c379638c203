-- The log only grows, through deaths of its logger too.
use Rattle.std.proofs.Common.{⊎_elim, ℕ, sym, subst, List, [], ◌∷◌, ◌++◌}
use Rattle.server_trait.specs.Service.{Machine}
use Rattle.ft_model.specs.Log.{Log, log_after}
use Rattle.ft_model.specs.Network.{Packet}
use Rattle.ft_model.specs.Growth.{LogGrows}
use Rattle.ft_model.specs.World.{World}
use Rattle.ft_model.proofs.Grows.{log_refl, log_grows, log_trans}
use Rattle.ft_model.proofs.Happened.{happened}
use Rattle.ft_model.proofs.LogOver.{log_proceeds}
use Rattle.trace_laws.specs.Deaths.{Step, ComesBack, MayHappen, MortalMoment, mortal_after, MortalJoint}
use Rattle.trace_laws.specs.Deaths.Step.{Calm, Dies}

comes_back_grown : (packets : List Packet) (numbers : List ℕ) (before after : Log) → ComesBack packets numbers before after → LogGrows before after
comes_back_grown packets [] before after back = subst (LogGrows before) (sym back) (log_refl before)
comes_back_grown packets (number ∷ numbers) before after back =
    log_trans before (log_after before back.0) after (log_grows before back.0) (comes_back_grown packets numbers (log_after before back.0) after back.2)

step_grows : {State : Type 0} (service : Machine State) (before after : World) (step : Step) (sent : List Packet) → MayHappen service before step sent after → LogGrows before.log after.log
step_grows service before after (Calm event) sent h =
    ⊎_elim (log_proceeds service before sent after) (λ q. subst (λ w. LogGrows before.log w.log) (sym q.1) (log_refl before.log)) (happened service before event sent after h)
step_grows service before after (Dies numbers) sent h =
    subst (λ w. LogGrows before.log w.log) (sym h.3) (comes_back_grown before.packets numbers before.log h.0 h.1)

pub outlives : {State : Type 0} (service : Machine State) (start : World) (later earlier : List MortalMoment) → MortalJoint service start (later ++ earlier)
    → LogGrows (mortal_after start earlier).log (mortal_after start (later ++ earlier)).log
outlives service start [] earlier j = log_refl (mortal_after start earlier).log
outlives service start (moment ∷ later) earlier j =
    log_trans (mortal_after start earlier).log (mortal_after start (later ++ earlier)).log moment.world.log (outlives service start later earlier j.0)
    (step_grows service (mortal_after start (later ++ earlier)) moment.world moment.step moment.sent j.1)
