use Rattle.seq_arith.proofs.Sums.{checked_in_place}
use Rattle.seq_arith.proofs.laws.checksum_fits_in_place.Goals as goal

pub returns : goal.returns
returns c = checked_in_place
