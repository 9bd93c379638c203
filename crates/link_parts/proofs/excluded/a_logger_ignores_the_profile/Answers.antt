use Rattle.std.proofs.Common.{◌∷◌, subst}
use Rattle.std.proofs.lemmas.Result.{on_ok_weaker}
use Rattle.ft_io.specs.Reported.{Reports}
use Rattle.ft_io.specs.declared.link_call.LinkCall.TheVariants.{Bound}
use Rattle.tcp_rules.specs.Profile.{grammar_of}
use Rattle.tcp_rules.specs.Profiles.{profile_of}
use Rattle.link_parts.specs.LoggerTurns.{calls_of}
use Rattle.link_parts.proofs.excluded.a_logger_ignores_the_profile.Goals as goal

pub returns : goal.returns
returns g c =
    on_ok_weaker c.run_logger.result
    (λ is. (
      is.turns,
      subst (λ p. Reports (g.L.Link.reported c.args.link.now) (g.L.Link.reported c.run_logger.new.link) (Bound c.args.role.now.local ∷ calls_of (record { grammar = grammar_of (profile_of p); forgets = c.args.role.now.forgets }) is.turns))
          c.requires.chosen is.reports,
    ))
    c.run_logger.ensures.done
