-- Flags and endings are in their range.
use Rattle.std.proofs.Common.{◌≡◌, ◌<◌, ◌+◌, Bool, true, false, nat_le, refl, arith}
use Rattle.std.specs.Prelude.{◌&&◌, not, if◌then◌else◌}
use Rattle.seq_arith.specs.MessageGrammar.{flag}

pub flag_fits : (b : Bool) → nat_le (flag b) 1 ≡ true
flag_fits true = refl
flag_fits false = refl

pub flag_small : (b : Bool) → flag b < 256
flag_small true = omega arith
flag_small false = omega arith

-- a part that no FIN and no later part follows, or one of them, ends in its range; one that both follow doesn't
pub ending_fits : (fin more : Bool) → nat_le (flag fin + (if more then 2 else 0)) 2 ≡ not (fin && more)
ending_fits true true = refl
ending_fits true false = refl
ending_fits false true = refl
ending_fits false false = refl

pub ending_small : (fin more : Bool) → flag fin + (if more then 2 else 0) < 256
ending_small true true = omega arith
ending_small true false = omega arith
ending_small false true = omega arith
ending_small false false = omega arith
