use Rattle.segment_codec.proofs.Placing.{placed_all}
use Rattle.segment_codec.proofs.fields.put_bytes.Goals as goal

pub returns : goal.returns
returns c = placed_all c.args.at c.args.bytes.now c.args.new.now c.copy_from_slice.new.self c.copy_from_slice.ensures.after
