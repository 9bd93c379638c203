use Rattle.std.proofs.Common.{[], ◌∷◌, ◌++◌, codes}
use Rattle.replay_check.specs.Checks.{counted, legal_line}
use Rattle.replay_check.proofs.Fronts.{then_front, when_err}
use Rattle.replay_check.proofs.check.write_legal.Goals as goal

pub returns-in_err-write_packets-clause-front : goal.returns-in_err-write_packets-clause-front
unfolding legal_line
returns-in_err-write_packets-clause-front g c =
    when_err c.from_residual-in_err-write_packets.result c.from_residual-in_err-write_packets.ensures.1
    (λ end is. (then_front (g.O.Sink.taken c.args.out.now) (g.O.Sink.taken c.write_counted.new.out) (g.O.Sink.taken c.write_packets.new.out)
    (counted (codes "legal events ") c.args.yes.events) (counted (codes " packets ") c.args.yes.packets ++ 10 ∷ [])
    c.in_ok-write_counted.ensures.whole c.in_err-write_packets.ensures.front))
