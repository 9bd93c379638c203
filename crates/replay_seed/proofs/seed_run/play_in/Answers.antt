use Rattle.net_schedule.specs.WorldView.{kept}
use Rattle.replay_seed.proofs.Facts.{client_count, totals}
use Rattle.replay_seed.proofs.Summing.{summed}
use Rattle.replay_seed.proofs.seed_run.play_in.Goals as goal

pub summarize-requires-clause-clients : goal.summarize-requires-clause-clients
summarize-requires-clause-clients c = client_count c.args.asked c.args.asked.events (kept c.play.new.world) c.play.new.self c.in_ok-play.ensures.done

pub summarize-requires-clause-totals : goal.summarize-requires-clause-totals
summarize-requires-clause-totals c = totals c.args.asked c.args.asked.events (kept c.play.new.world) c.play.new.self c.in_ok-play.ensures.done

pub returns-clause-done : goal.returns-clause-done
returns-clause-done c =
    summed c.args.asked (kept c.play.new.world) c.play.new.self c.in_ok-summarize.field-0.items c.joint_traces_are_safe.ensures c.in_ok-summarize.ensures c.in_ok-play.ensures.done
