use Rattle.std.proofs.Common.{◌+◌, ◌∙◌, length, refl}
use Rattle.logger_wire.proofs.MarkSpelled.{assembled}
use Rattle.logger_wire.proofs.marks.writing.put.Goals as goal

pub returns-clause-bytes : goal.returns-clause-bytes
returns-clause-bytes c =
    assembled c.args.kind c.args.boot (16 + length c.args.numbers.now + length c.args.state.now) c.checksum_of_parts-check.result c.args.numbers.now c.args.state.now
    c.header-blank.result c.copy_from_slice.new.self c.put_both.new.out c.split_at_mut-front.result.1.now c.args.out.now
    refl c.put_both.ensures c.header-blank.ensures c.checksum_of_parts-check.ensures (c.copy_from_slice.ensures.after ∙ c.header.ensures) c.split_at_mut-front.ensures.back
