use Rattle.std.specs.Io.KnownBytes.{Appends}
use Rattle.std.proofs.lemmas.Result.{on_ok_weaker}
use Rattle.ft_io.proofs.Outcomes.{if_err}
use Rattle.chain_parts.proofs.PairRun.{part_done, part_stops}
use Rattle.chain_parts.proofs.part.serve_and_report.Goals as goal

pub returns-in-Ok-clause-done : goal.returns-in-Ok-clause-done
returns-in-Ok-clause-done g c =
    on_ok_weaker c.write_counts.result
    (λ written before bound. part_done c.args.role.now before (g.L.Link.reported c.args.link.now) (g.L.Link.reported c.serve.new.link) c.in-Ok.counts
    (Appends (g.O.Sink.taken c.args.out.now) (g.O.Sink.taken c.write_counts.new.out)) bound c.in-Ok.ensures.served written)
    c.write_counts.ensures.written

pub returns-in-Ok-clause-stops : goal.returns-in-Ok-clause-stops
returns-in-Ok-clause-stops g c =
    if_err c.write_counts.result
    (λ end stops before bound. part_stops c.args.role.now before (g.L.Link.reported c.args.link.now) (g.L.Link.reported c.serve.new.link) c.in-Ok.counts (g.O.Sink.taken c.args.out.now)
    (g.O.Sink.taken c.write_counts.new.out) end bound c.in-Ok.ensures.served stops)
    c.write_counts.ensures.stops
