use Rattle.std.proofs.Common.{subst, sym}
use Rattle.net_schedule.specs.WorldView.{kept}
use Rattle.replay_check.specs.PartialWrite.{Holds}
use Rattle.replay_run.specs.PlayedRun.{ReportsFront}
use Rattle.replay_run.specs.Playback.{StopsPlaying}
use Rattle.replay_run.proofs.RunEnds.{closes_till, front_till}
use Rattle.replay_run.proofs.play.close_early.Goals as goal

pub returns-in-Ok-clause-stops : goal.returns-in-Ok-clause-stops
returns-in-Ok-clause-stops c =
    λ schedule old now stops. closes_till schedule c.in-BadEvent.event _ c.in-BadEvent.why (kept c.args.world.now) old now c.args.report.now.held.items c.close.new.report.held.items
    (subst (StopsPlaying schedule (kept c.args.world.now) old now c.args.report.now.held.items) c.in-BadEvent.is stops) c.saturating_sub.ensures c.in-Ok.ensures.ok

pub returns-in-Err-clause-stops : goal.returns-in-Err-clause-stops
returns-in-Err-clause-stops c =
    λ schedule old now stops. subst (λ held. Holds old now held (ReportsFront schedule)) (sym c.in-Err.ensures.err)
    (front_till schedule c.in-BadEvent.event c.in-BadEvent.why (kept c.args.world.now) old now c.args.report.now.held.items
    (subst (StopsPlaying schedule (kept c.args.world.now) old now c.args.report.now.held.items) c.in-BadEvent.is stops))
