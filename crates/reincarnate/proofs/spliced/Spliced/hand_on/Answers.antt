use Rattle.std.proofs.Common.{sym, subst}
use Rattle.server_trait.specs.Service.{machine}
use Rattle.tcp_rules.specs.Profile.{plain}
use Rattle.ft_model.specs.Restart.{point_of}
use Rattle.wrapped_conn.specs.Sound.{IsSound}
use Rattle.wrapped_conn.specs.Refinement.{StandsBefore}
use Rattle.reincarnate.specs.Splice.{IsSpliced, IsSplicedIn}
use Rattle.reincarnate.proofs.Joined.{hands_on}
use Rattle.reincarnate.proofs.spliced.Spliced.hand_on.Goals as goal

pub returns-clause-sound : goal.returns-clause-sound
returns-clause-sound g c = subst IsSound (sym c.joined_in.ensures) c.self.invariant

pub returns-clause-law : goal.returns-clause-law
returns-clause-law g c fresh e i is =
    subst (λ x. StandsBefore (machine fresh g.S.Service.after g.S.Service.greeting) x (point_of (machine fresh g.S.Service.after g.S.Service.greeting) plain e)) (sym c.joined_in.ensures)
    (hands_on (machine fresh g.S.Service.after g.S.Service.greeting) plain e i _ (subst (IsSpliced (machine fresh g.S.Service.after g.S.Service.greeting) e i) (sym c.self.view_is) is))

pub returns-clause-profile : goal.returns-clause-profile
returns-clause-profile g c profile fresh e i is =
    subst (λ x. StandsBefore (machine fresh g.S.Service.after g.S.Service.greeting) x (point_of (machine fresh g.S.Service.after g.S.Service.greeting) profile e)) (sym c.joined_in.ensures)
    (hands_on (machine fresh g.S.Service.after g.S.Service.greeting) profile e i _ (subst (IsSplicedIn profile (machine fresh g.S.Service.after g.S.Service.greeting) e i) (sym c.self.view_is) is))
