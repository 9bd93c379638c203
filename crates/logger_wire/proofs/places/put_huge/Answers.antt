use Rattle.seq_arith.specs.MessageGrammar.{number_bytes}
use Rattle.logger_wire.proofs.Placing.{placed}
use Rattle.logger_wire.proofs.places.put_huge.Goals as goal

pub returns : goal.returns
unfolding number_bytes
returns c = placed c.args.at c.args.out.now (number_bytes 8 c.args.n) c.write_u64.new.buf c.requires c.write_u64.ensures
