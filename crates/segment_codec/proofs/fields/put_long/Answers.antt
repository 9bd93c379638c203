use Rattle.seq_arith.specs.Bytes.{four}
use Rattle.segment_codec.proofs.Placing.{placed}
use Rattle.segment_codec.proofs.fields.put_long.Goals as goal

pub returns : goal.returns
unfolding four
returns c = placed c.args.at c.args.bytes.now (four c.args.n) c.write_u32.new.buf c.requires c.write_u32.ensures
