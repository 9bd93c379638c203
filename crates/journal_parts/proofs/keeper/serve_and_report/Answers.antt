use Rattle.journal_parts.specs.RoundParts.{place_of, ServingStops}
use Rattle.journal_parts.specs.declared.status.ProcessEnd.TheVariants.{Node}
use Rattle.journal_parts.proofs.Living.{line_stops, said_end}
use Rattle.journal_parts.proofs.keeper.serve_and_report.Goals as goal

pub returns-in_err-write_counts-clause-stops : goal.returns-in_err-write_counts-clause-stops
returns-in_err-write_counts-clause-stops g c =
    said_end c.from_residual-in_err-write_counts.result (Node c.in_err-write_counts.field-0.0)
    (ServingStops c.args.compact c.args.turns (place_of c.args.kept.now) (g.K.Disk.reported c.args.desk.now) (g.K.Disk.reported c.serve.new.desk) (g.O.Sink.taken c.args.out.now) (g.O.Sink.taken c.write_counts.new.out))
    c.from_residual-in_err-write_counts.ensures.1
    (line_stops c.args.compact c.args.turns (place_of c.args.kept.now) (place_of c.serve.new.kept) (g.K.Disk.reported c.args.desk.now) (g.K.Disk.reported c.serve.new.desk) c.in_ok-counts.counts
    (g.O.Sink.taken c.args.out.now) (g.O.Sink.taken c.write_counts.new.out) c.in_err-write_counts.field-0.0 c.in_ok-counts.ensures.served c.in_err-write_counts.ensures.stops)
