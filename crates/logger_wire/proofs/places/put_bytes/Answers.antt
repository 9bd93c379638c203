use Rattle.logger_wire.proofs.Placing.{placed_all}
use Rattle.logger_wire.proofs.places.put_bytes.Goals as goal

pub returns : goal.returns
returns c = placed_all c.args.at c.args.out.now c.args.new.now c.copy_from_slice.new.self c.copy_from_slice.ensures.after
