use Rattle.std.proofs.Common.{[], ◌∷◌, ◌∙◌, ap, false, append_assoc, arith}
use Rattle.mail_service.specs.Mail.{at_line}
use Rattle.mail_service.specs.Session.{replies_in}
use Rattle.mail_service.proofs.Lines.{short_line, long_line}
use Rattle.mail_service.proofs.laws.each_line_has_one_reply.Goals as goal

pub returns-clause-short : goal.returns-clause-short
returns-clause-short c phase accepted line rest is none fits =
    ap (replies_in (at_line phase accepted)) (append_assoc line (13 ∷ 10 ∷ []) rest) ∙ short_line phase accepted [] line rest false is none (omega (arith, fits))

pub returns-clause-long : goal.returns-clause-long
returns-clause-long c phase accepted line rest is none long =
    ap (replies_in (at_line phase accepted)) (append_assoc line (13 ∷ 10 ∷ []) rest) ∙ long_line phase accepted [] line rest false is none (omega arith) (omega (arith, long))
