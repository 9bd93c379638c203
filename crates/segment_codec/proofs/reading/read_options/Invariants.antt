use Rattle.std.proofs.Common.{◌≡◌, length}
use Rattle.std.specs.Option.{option_or}
use Rattle.seq_arith.specs.PacketGrammar.{has_bad_option, mss_in, timestamps_in}
use Rattle.segment_codec.proofs.reading.read_options.Given as goal

-- the rest decides, unless the option was found before
abbrev pub invariant-loop-kind : goal.invariant-loop-kind
invariant-loop-kind l = record {
  bad : has_bad_option 0 l.rest ≡ has_bad_option 0 l.options;
  mss : option_or l.mss (mss_in 0 l.rest) ≡ mss_in 0 l.options;
  timestamps : option_or l.timestamps (timestamps_in 0 l.rest) ≡ timestamps_in 0 l.options;
}

abbrev pub decreases-loop-kind : goal.decreases-loop-kind
decreases-loop-kind l = length l.rest
