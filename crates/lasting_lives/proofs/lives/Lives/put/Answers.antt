use Rattle.std.proofs.Common.{◌∙◌, ap, Some, if◌then◌else◌}
use Rattle.std.specs.Map.{lookup}
use Rattle.ft_io.specs.Key.{key_eq}
use Rattle.lasting_lives.proofs.lives.Lives.put.Goals as goal

pub returns : goal.returns
returns c = λ k. c.in_ok-insert.ensures.updates.0 k ∙ ap (λ es. if key_eq c.args.key k then Some c.args.life else lookup (key_eq k) es) c.self.view_is
