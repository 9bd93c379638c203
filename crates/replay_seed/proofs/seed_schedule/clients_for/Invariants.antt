use Rattle.std.proofs.Common.{◌≡◌}
use Rattle.replay_seed.specs.Generated.{client_lines, after_draws}
use Rattle.replay_seed.proofs.seed_schedule.clients_for.Given as goal

abbrev pub invariant-loop-i : goal.invariant-loop-i
invariant-loop-i l = (l.lines ≡ client_lines l.initial.generator.state l.i) × (l.generator.state ≡ after_draws l.initial.generator.state l.i)
