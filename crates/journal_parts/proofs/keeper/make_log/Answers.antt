use Rattle.std.proofs.Common.{ℕ, List, Option, true}
use Rattle.seq_arith.specs.MessageGrammar.{number_bytes}
use Rattle.seq_arith.proofs.MessageSpelling.{number_length}
use Rattle.journal_parts.specs.Ends.{from_keep}
use Rattle.journal_parts.specs.LoggerLife.{OpeningStops}
use Rattle.journal_parts.specs.RoundParts.{place_of}
use Rattle.journal_parts.proofs.Living.{made_opens, making_stops, said_end}
use Rattle.journal_parts.proofs.keeper.make_log.Goals as goal

pub returns-in_err-kept-clause-stops : goal.returns-in_err-kept-clause-stops
returns-in_err-kept-clause-stops g c =
    said_end c.from_residual-in_err-kept.result (from_keep c.in_err-kept.field-0.0)
    (λ end. (file : Option (List ℕ)) → OpeningStops c.args.heeded true file (g.K.Disk.reported c.args.desk.now) (g.K.Disk.reported c.begin-2.new.disk) end)
    c.from_residual-in_err-kept.ensures.1
    (λ file. making_stops c.args.heeded file (number_bytes 8 c.time-made.result) (g.K.Disk.reported c.args.desk.now) (g.K.Disk.reported c.begin.new.self) (g.K.Disk.reported c.begin-2.new.disk)
    c.in_err-kept.field-0.0 (number_length 8 c.time-made.result) c.in_ok-begin.ensures.reported c.in_err-kept.ensures.stopped)

pub returns-clause-opened : goal.returns-clause-opened
returns-clause-opened g c = λ file.
    made_opens c.args.heeded file (number_bytes 8 c.time-made.result) (g.K.Disk.reported c.args.desk.now) (g.K.Disk.reported c.begin.new.self) (g.K.Disk.reported c.begin-2.new.disk)
    (place_of c.in_ok-kept.kept) c.in_ok-begin.ensures.reported c.in_ok-kept.ensures.begun c.in_ok-kept.ensures.heeded c.in_ok-kept.ensures.reported
