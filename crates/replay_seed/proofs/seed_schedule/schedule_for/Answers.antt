use Rattle.replay_seed.proofs.FirstSchedule.{can_be_played, count_lines}
use Rattle.replay_seed.proofs.seed_schedule.schedule_for.Goals as goal

pub returns-clause-playable : goal.returns-clause-playable
returns-clause-playable c =
    rw (c.in_ok-clients_for.ensures.lines, c.new-2.ensures, c.new.ensures.items) (can_be_played c.args.generator.now.state c.args.clients c.requires)

pub returns-clause-few : goal.returns-clause-few
returns-clause-few c = rw (c.in_ok-clients_for.ensures.lines, count_lines) c.requires
