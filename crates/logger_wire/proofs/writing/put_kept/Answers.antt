use Rattle.std.proofs.Common.{refl}
use Rattle.seq_arith.specs.Message.{Body}
use Rattle.seq_arith.specs.Message.{Body as bodies}
use Rattle.seq_arith.specs.MessageGrammar.{message_length}
use Rattle.logger_wire.specs.Records.{kept_said}
use Rattle.logger_wire.proofs.OneSpelling.{written}
use Rattle.logger_wire.proofs.writing.put_kept.Goals as goal

pub returns-clause-bytes : goal.returns-clause-bytes
returns-clause-bytes c =
    let body : Body = bodies.StableMsg (kept_said c.args.kept.now)
    in cc (written c.args.grammar c.args.kind c.args.boot (message_length body) body c.args.out.now refl c.requires)
