use Rattle.std.proofs.Common.{◌∙◌}
use Rattle.logger_wire.proofs.OneSpelling.{finished}
use Rattle.logger_wire.proofs.writing.finish.Goals as goal

pub returns-clause-bytes : goal.returns-clause-bytes
returns-clause-bytes c =
    c.put_word.ensures
    ∙ finished c.args.grammar c.args.kind c.args.boot c.args.len c.checksum_of-check.result c.args.out.now c.put_header.new.out c.requires.long c.requires.room
    c.put_header.ensures c.checksum_of-check.ensures
