use Rattle.std.proofs.Common.{◌∙◌, ap}
use Rattle.ft_io.proofs.Outcomes.{if_ok}
use Rattle.tcp_rules.specs.Profiles.{profile_of}
use Rattle.node_serving.specs.declared.identity.Identity.{Identity}
use Rattle.node_serving.specs.Identity.{node_of}
use Rattle.node_link.proofs.excluded.ignores_the_profile.Goals as goal

pub returns : goal.returns
returns g c = if_ok c.boot.result (λ node booted standing. ap (λ (who : Identity). (node_of who standing).profile) booted.who ∙ ap profile_of c.requires.chosen) c.boot.ensures.booted
