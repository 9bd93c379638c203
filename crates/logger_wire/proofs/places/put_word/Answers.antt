use Rattle.seq_arith.specs.MessageGrammar.{number_bytes}
use Rattle.logger_wire.proofs.Placing.{placed}
use Rattle.logger_wire.proofs.places.put_word.Goals as goal

pub returns : goal.returns
unfolding number_bytes
returns c = placed c.args.at c.args.out.now (number_bytes 2 c.args.n) c.write_u16.new.buf c.requires c.write_u16.ensures
