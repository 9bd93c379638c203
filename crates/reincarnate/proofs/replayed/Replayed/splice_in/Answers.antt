use Rattle.std.proofs.Common.{subst, sym}
use Rattle.tcp_rules.specs.Profiles.{profile_of}
use Rattle.server_trait.specs.Service.{machine}
use Rattle.reincarnate.specs.Splice.{IsSplicedIn}
use Rattle.reincarnate.proofs.Joined.{splice_stands}
use Rattle.reincarnate.proofs.replayed.Replayed.splice_in.Goals as goal
use Rattle.ft_io.proofs.Outcomes.{if_ok}

pub returns-clause-law : goal.returns-clause-law
returns-clause-law g c =
    if_ok c.join.result (λ s is fresh e re sound. subst (IsSplicedIn (profile_of c.args.profile) (machine fresh g.S.Service.after g.S.Service.greeting) e c.args.isn.0) (sym is)
    (splice_stands (machine fresh g.S.Service.after g.S.Service.greeting) (profile_of c.args.profile) c.args.local c.args.boot e c.args.self c.args.isn.0 c.join.ensures.fits re sound)) c.join.ensures.value
