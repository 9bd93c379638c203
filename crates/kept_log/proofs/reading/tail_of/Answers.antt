use Rattle.std.proofs.Common.{refl}
use Rattle.kept_log.proofs.Starts.{not_torn}
use Rattle.kept_log.proofs.reading.tail_of.Goals as goal

pub returns-then-is_followed : goal.returns-then-is_followed
returns-then-is_followed c = (refl, λ more torn. not_torn c.args.tip.now c.args.tail.now more (c.is_followed.ensures.some c.if-is_followed.true) torn)
