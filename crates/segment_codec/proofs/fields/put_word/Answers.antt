use Rattle.seq_arith.specs.Bytes.{two}
use Rattle.segment_codec.proofs.Placing.{placed}
use Rattle.segment_codec.proofs.fields.put_word.Goals as goal

pub returns : goal.returns
unfolding two
returns c = placed c.args.at c.args.bytes.now (two c.args.n) c.write_u16.new.buf c.requires c.write_u16.ensures
