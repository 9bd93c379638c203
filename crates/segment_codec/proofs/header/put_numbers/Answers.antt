use Rattle.std.proofs.Common.{arith}
use Rattle.segment_codec.specs.Value.{said}
use Rattle.segment_codec.proofs.Pieces.{numbers_put}
use Rattle.segment_codec.proofs.header.put_numbers.Goals as goal

pub returns-clause-bytes : goal.returns-clause-bytes
returns-clause-bytes c = cc (numbers_put c.args.out.now (said c.args.head.now) c.header_words.result c.requires c.header_words.ensures.words c.header_words.ensures.bound (omega arith))
