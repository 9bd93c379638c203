use Rattle.segment_codec.specs.Value.{said}
use Rattle.segment_codec.proofs.Pieces.{both_put}
use Rattle.segment_codec.proofs.header.put_options.Goals as goal

pub returns-clause-bytes : goal.returns-clause-bytes
returns-clause-bytes c =
    both_put (said c.args.head.now) c.mss_end.result c.args.out.now c.put_mss.new.out c.put_timestamps.new.out c.mss_end.ensures.place c.requires
    c.put_mss.ensures.bytes c.put_timestamps.ensures.bytes
