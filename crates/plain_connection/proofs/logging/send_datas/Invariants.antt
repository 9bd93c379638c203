use Rattle.std.specs.Prelude.{◌≤◌, ◌+◌, ◌^◌, length}
use Rattle.plain_point.specs.Values.{data_in}
use Rattle.plain_connection.specs.Copying.{batched, datas_of}
use Rattle.plain_connection.proofs.Reporting.{IsReporting}
use Rattle.plain_connection.proofs.logging.send_datas.Given as goal

abbrev pub invariant-loop-rest : goal.invariant-loop-rest
invariant-loop-rest l = record {
  reporting : IsReporting l.boot l.initial.sent l.sent (batched l.batches (datas_of (data_in l.part)))
      (batched l.batches (datas_of (data_in l.rest)));
  within : l.rest.offset + length l.rest.bytes.now ≤ 2 ^ 63;
}

abbrev pub decreases-loop-rest : goal.decreases-loop-rest
decreases-loop-rest l = length l.rest.bytes.now
