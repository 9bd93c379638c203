use Rattle.std.proofs.Common.{false, ap, Err}
use Rattle.journal_parts.specs.Ends.{from_open}
use Rattle.journal_parts.specs.LoggerLife.{OpeningStops}
use Rattle.journal_parts.specs.RoundParts.{place_of}
use Rattle.journal_parts.proofs.Living.{found_opens, opening_stops, said_end}
use Rattle.journal_parts.proofs.keeper.find_log.Goals as goal

pub returns-in_err-open-2-clause-stops : goal.returns-in_err-open-2-clause-stops
returns-in_err-open-2-clause-stops g c =
    said_end c.from_residual-in_err-open-2.result (from_open c.in_err-open-2.field-0.0)
    (OpeningStops c.args.heeded false (g.K.Desk.file_of c.args.desk.now c.args.name.now) (g.K.Disk.reported c.args.desk.now) (g.K.Disk.reported c.open-2.new.disk))
    c.from_residual-in_err-open-2.ensures.1
    (opening_stops c.args.heeded (g.K.Desk.file_of c.args.desk.now c.args.name.now) (g.K.Disk.left c.open.new.self) (g.K.Disk.reported c.args.desk.now) (g.K.Disk.reported c.open.new.self)
    (g.K.Disk.reported c.open-2.new.disk) c.in_err-open-2.field-0.0 c.in_ok-open.ensures.file c.in_ok-open.ensures.reported c.in_err-open-2.ensures.stopped
    (λ is. c.in_err-open-2.ensures.other (ap Err is)))

pub returns-clause-opened : goal.returns-clause-opened
returns-clause-opened g c =
    found_opens c.args.heeded (g.K.Desk.file_of c.args.desk.now c.args.name.now) (g.K.Disk.left c.open.new.self) (g.K.Disk.reported c.args.desk.now) (g.K.Disk.reported c.open.new.self)
    (g.K.Disk.reported c.open-2.new.disk) c.in_ok-open-2.field-0.1 (place_of c.in_ok-open-2.field-0.0) c.in_ok-open.ensures.file c.in_ok-open.ensures.reported
    c.in_ok-open-2.ensures.heeded c.in_ok-open-2.ensures.has_grammar c.in_ok-open-2.ensures.opened
