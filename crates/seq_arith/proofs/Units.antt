-- A FIN counts as one unit.
use Rattle.seq_arith.specs.Offset.{one_if}
use Rattle.std.proofs.Common.{◌≡◌, ◌≤◌, ◌++◌, Bool, true, false, arith, ℕ, length, length-append, refl}
use Rattle.std.specs.Prelude.{Option, Some, None}
use Rattle.seq_arith.specs.Bytes.{four}
use Rattle.seq_arith.specs.declared.options.Timestamps.{Timestamps}
use Rattle.seq_arith.specs.PacketGrammar.{mss_option, timestamps_option}

pub one_at_most : (b : Bool) → one_if b ≤ 1
one_at_most true = omega arith
one_at_most false = omega arith

pub mss_option_short : (mss : Option ℕ) → length (mss_option mss) ≤ 4
mss_option_short (Some mss) = omega arith
mss_option_short None = omega arith

-- the timestamps option has twelve bytes
pub timestamps_option_long : (timestamps : Timestamps) → length (timestamps_option (Some timestamps)) ≡ 12
unfolding four
timestamps_option_long timestamps = refl

pub timestamps_option_short : (timestamps : Option Timestamps) → length (timestamps_option timestamps) ≤ 12
timestamps_option_short (Some timestamps) = omega (arith, timestamps_option_long timestamps)
timestamps_option_short None = omega arith

-- the options of a head, one after the other
pub options_short : (mss : Option ℕ) (timestamps : Option Timestamps) → length (mss_option mss ++ timestamps_option timestamps) ≤ 16
options_short mss timestamps =
    omega (arith, length-append (mss_option mss) (timestamps_option timestamps), mss_option_short mss, timestamps_option_short timestamps)
