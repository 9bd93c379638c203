use Rattle.seq_arith.proofs.Shifts.{offset_of_number}
use Rattle.seq_arith.proofs.laws.number_names_its_offset.Goals as goal

pub returns : goal.returns
returns c = offset_of_number
