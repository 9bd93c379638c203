use Rattle.logger_wire.proofs.OneSpelling.{header_put}
use Rattle.logger_wire.proofs.writing.put_header.Goals as goal

pub returns : goal.returns
returns c = cc (header_put c.args.grammar c.args.kind c.args.boot c.args.len c.args.out.now c.requires)
