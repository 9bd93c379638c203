use Rattle.std.proofs.Common.{refl}
use Rattle.seq_arith.specs.Message.{Body as bodies}
use Rattle.logger_wire.specs.Records.{head_said}
use Rattle.logger_wire.proofs.Putting.{fields_are_all}
use Rattle.logger_wire.proofs.records.EntryHead.put.Goals as goal

pub returns : goal.returns
returns c = cc (fields_are_all (bodies.EntryMsg c.args.index (head_said c.args.self.now)) c.args.out.now refl c.requires)
