use Rattle.std.proofs.Common.{arith}
use Rattle.std.proofs.lemmas.Result.{on_ok_weaker}
use Rattle.plain_point.specs.Values.{data_in}
use Rattle.plain_connection.specs.Copying.{batched, datas_of}
use Rattle.plain_connection.proofs.Copies.{full_sent}
use Rattle.plain_connection.proofs.Reporting.{rest_reported}
use Rattle.plain_connection.proofs.logging.send_datas.Goals as goal

pub loop-rest-preserved : goal.loop-rest-preserved
loop-rest-preserved c = record {
  reporting = full_sent c.args.boot c.args.sent.now c.loop-rest.sent c.send_data.new.sent (batched c.args.batches (datas_of (data_in c.args.part.now))) c.args.batches (data_in c.loop-rest.rest) c.split_at.result.0.now c.split_at.result.1.now
      c.loop-rest.invariant.reporting (omega arith) c.split_at.ensures.front c.split_at.ensures.back c.in_ok-send_data.ensures;
  within = omega (arith, c.loop-rest.invariant.within, c.loop-rest-test.true, c.split_at.ensures.back_len);
}

pub returns : goal.returns
returns c =
    on_ok_weaker c.send_last.result
    (λ e. rest_reported c.args.boot c.args.sent.now c.loop-rest.sent c.send_last.new.sent (batched c.args.batches (datas_of (data_in c.args.part.now)))
    (batched c.args.batches (datas_of (data_in c.loop-rest.rest))) c.loop-rest.invariant.reporting e)
    (c.send_last.ensures c.args.batches)
