use Rattle.std.proofs.Common.{ap, length}
use Rattle.net_schedule.specs.WorldView.{kept}
use Rattle.replay_run.proofs.Either.{few_clients}
use Rattle.replay_run.proofs.RunEnds.{closes_all}
use Rattle.replay_run.proofs.play.close_whole.Goals as goal

pub close-requires : goal.close-requires
close-requires c = few_clients (kept c.args.world.now) c.requires.stands c.args.world.now.few

pub returns-clause-done : goal.returns-clause-done
returns-clause-done c =
    λ old now reaches. closes_all c.args.schedule.now _ (kept c.args.world.now) old now c.args.report.now.held.items c.close.new.report.held.items reaches.plays (ap length c.as_slice.ensures)
    c.in_ok-close.ensures.ok
