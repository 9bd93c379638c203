use Rattle.std.proofs.Common.{[], ◌∷◌, codes}
use Rattle.replay_check.specs.Checks.{counted}
use Rattle.replay_check.proofs.Fronts.{then_front, when_err}
use Rattle.replay_check.proofs.check.write_packets.Goals as goal

pub returns-in_err-write_text-clause-front : goal.returns-in_err-write_text-clause-front
returns-in_err-write_text-clause-front g c =
    when_err c.from_residual-in_err-write_text.result c.from_residual-in_err-write_text.ensures.1
    (λ end is. (then_front (g.O.Sink.taken c.args.out.now) (g.O.Sink.taken c.write_counted.new.out) (g.O.Sink.taken c.write_text.new.err) (counted (codes " packets ") c.args.packets) (10 ∷ [])
    c.in_ok-write_counted.ensures.whole c.in_err-write_text.ensures.front))
