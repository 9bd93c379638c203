use Rattle.std.proofs.Common.{subst}
use Rattle.std.specs.Io.KnownBytes.{Appends}
use Rattle.std.proofs.lemmas.Result.{on_ok_weaker}
use Rattle.link_parts.specs.LoggerParts.{HasCounted, heeded_by}
use Rattle.link_parts.proofs.LoggerRun.{logger_done, logger_stops}
use Rattle.link_parts.proofs.logger.serve_and_report.Goals as goal
use Rattle.ft_io.proofs.Outcomes.{if_err}

pub returns-in-Ok-clause-done : goal.returns-in-Ok-clause-done
returns-in-Ok-clause-done g c =
    let served : HasCounted (heeded_by c.args.role.now) c.args.role.now.turns (g.L.Link.reported c.args.link.now) (g.L.Link.reported c.serve.new.link) c.in-Ok.counts =
    subst (λ heeded. HasCounted heeded c.args.role.now.turns (g.L.Link.reported c.args.link.now) (g.L.Link.reported c.serve.new.link) c.in-Ok.counts) c.heeded.ensures
    c.in-Ok.ensures.served
    in on_ok_weaker c.write_counts.result
    (λ written before bound. logger_done c.args.role.now before (g.L.Link.reported c.args.link.now) (g.L.Link.reported c.serve.new.link) c.in-Ok.counts
    (Appends (g.O.Sink.taken c.args.out.now) (g.O.Sink.taken c.write_counts.new.out)) bound served written)
    c.write_counts.ensures.written

pub returns-in-Ok-clause-stops : goal.returns-in-Ok-clause-stops
returns-in-Ok-clause-stops g c =
    let served : HasCounted (heeded_by c.args.role.now) c.args.role.now.turns (g.L.Link.reported c.args.link.now) (g.L.Link.reported c.serve.new.link) c.in-Ok.counts =
    subst (λ heeded. HasCounted heeded c.args.role.now.turns (g.L.Link.reported c.args.link.now) (g.L.Link.reported c.serve.new.link) c.in-Ok.counts) c.heeded.ensures
    c.in-Ok.ensures.served
    in if_err c.write_counts.result
    (λ end stops before bound. logger_stops c.args.role.now before (g.L.Link.reported c.args.link.now) (g.L.Link.reported c.serve.new.link) c.in-Ok.counts (g.O.Sink.taken c.args.out.now)
    (g.O.Sink.taken c.write_counts.new.out) end bound served stops)
    c.write_counts.ensures.stops
