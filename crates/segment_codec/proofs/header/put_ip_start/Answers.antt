use Rattle.segment_codec.proofs.Pieces.{start_put}
use Rattle.segment_codec.proofs.header.put_ip_start.Goals as goal

pub returns : goal.returns
returns c = cc (start_put c.args.out.now c.args.len c.requires)
