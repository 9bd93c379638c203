use Rattle.std.proofs.Common.{◌∙◌, [], ap, subst}
use Rattle.sample_servers.specs.AnyService.{any_machine}
use Rattle.net_schedule.specs.WorldView.{kept}
use Rattle.net_schedule.specs.Step.{StandsAfter}
use Rattle.replay_seed.specs.Generated.{schedule_of, after_draws}
use Rattle.replay_seed.specs.declared.seed_progress.Progress.{Progress}
use Rattle.replay_seed.proofs.Summing.{stands_first}
use Rattle.replay_seed.proofs.seed_run.play_asked.Goals as goal

pub play_in-requires-clause-stands : goal.play_in-requires-clause-stands
play_in-requires-clause-stands c =
    stands_first c.args.asked (kept c.in_ok-world.world) c.new-progress.result
    (subst (λ s. StandsAfter any_machine s [] [] (kept c.in_ok-world.world))
    (c.in_ok-schedule.ensures.schedule ∙ ap (λ s. schedule_of s c.args.asked.clients []) c.new-generator.ensures)
    (c.in_ok-world.ensures.one (ap (λ s. s.twin) c.in_ok-schedule.ensures.schedule) (ap (λ s. s.marks) c.in_ok-schedule.ensures.schedule)))
    (ap (λ (p : Progress). p.dice.draws.state) c.new-progress.ensures
    ∙ (c.in_ok-schedule.ensures.state ∙ ap (λ s. after_draws s c.args.asked.clients) c.new-generator.ensures))
    (ap (λ (p : Progress). p.packets) c.new-progress.ensures) (ap (λ (p : Progress). p.boots) c.new-progress.ensures) (ap (λ (p : Progress). p.crashes) c.new-progress.ensures)
