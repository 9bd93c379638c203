use Rattle.std.specs.Prelude.{drop}
use Rattle.ft_model.specs.Reads.{read_messages}
use Rattle.plain_connection.proofs.Reporting.{IsReporting}
use Rattle.plain_connection.proofs.logging.send_reads.Given as goal

abbrev pub invariant-loop-index : goal.invariant-loop-index
invariant-loop-index l =
    IsReporting l.boot l.initial.sent l.sent (read_messages l.key l.first (drop l.first l.lengths)) (read_messages l.key l.index (drop l.index l.lengths))
