use Rattle.std.proofs.Common.{arith, length-append}
use Rattle.seq_arith.specs.PacketGrammar.{mss_option, timestamps_option}
use Rattle.segment_codec.proofs.header.payload_start.Goals as goal

pub returns-clause-place : goal.returns-clause-place
returns-clause-place c =
    omega (arith, c.mss_end.ensures.place, c.timestamps_length.ensures.length, length-append (mss_option c.args.head.now.mss) (timestamps_option c.args.head.now.timestamps))
