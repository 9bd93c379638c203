use Rattle.seq_arith.specs.Message.{Body as bodies}
use Rattle.logger_wire.specs.Records.{part_said}
use Rattle.logger_wire.proofs.Putting.{fields_put}
use Rattle.logger_wire.proofs.records.Part.put.Goals as goal

pub returns : goal.returns
returns c = cc (fields_put (bodies.DataMsg (part_said c.args.self.now)) c.args.out.now c.requires)
