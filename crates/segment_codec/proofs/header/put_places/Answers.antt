use Rattle.segment_codec.specs.Value.{said}
use Rattle.segment_codec.proofs.Pieces.{places_put}
use Rattle.segment_codec.proofs.header.put_places.Goals as goal

pub returns-clause-bytes : goal.returns-clause-bytes
returns-clause-bytes c = cc (places_put c.args.out.now (said c.args.head.now) c.requires)
