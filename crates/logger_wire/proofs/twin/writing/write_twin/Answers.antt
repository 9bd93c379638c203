use Rattle.std.proofs.Common.{◌+◌, ◌∙◌, ap, arith, refl, take, length}
use Rattle.seq_arith.specs.TwinGrammar.{reading_by}
use Rattle.logger_wire.specs.TwinValue.{said_by}
use Rattle.logger_wire.proofs.TwinSpelled.{assembled, datagram_fits, header_length, read_back}
use Rattle.logger_wire.proofs.twin.writing.write_twin.Goals as goal

pub put-requires : goal.put-requires
put-requires c =
    omega (arith, datagram_fits (said_by c.args.m.now) c.requires.size, ap length c.behind_of-behind.ensures, c.split_at_mut-front.ensures.back_len, c.requires.room)

pub overflow_cast-len : goal.overflow_cast-len
overflow_cast-len c = omega (arith, datagram_fits (said_by c.args.m.now) c.requires.size, ap length c.behind_of-behind.ensures)

pub overflow_cast-len-2 : goal.overflow_cast-len-2
overflow_cast-len-2 c = omega (arith, datagram_fits (said_by c.args.m.now) c.requires.size, ap length c.behind_of-behind.ensures)

pub checksum_of_both-check-requires : goal.checksum_of_both-check-requires
checksum_of_both-check-requires c =
    omega (
      arith,
      ap length c.header-blank.ensures,
      header_length c.kind_of-kind.result (16 + length c.behind_of-behind.result.now) 0 c.number_in-number.result,
      datagram_fits (said_by c.args.m.now) c.requires.size,
      ap length c.behind_of-behind.ensures,
    )

pub returns-clause-bytes : goal.returns-clause-bytes
returns-clause-bytes c =
    assembled (said_by c.args.m.now) c.kind_of-kind.result (16 + length c.behind_of-behind.result.now) c.number_in-number.result c.checksum_of_both-check.result
    c.behind_of-behind.result.now c.header-blank.result c.copy_from_slice.new.self c.put.new.out c.split_at_mut-front.result.1.now c.args.out.now
    c.kind_of-kind.ensures c.number_in-number.ensures c.behind_of-behind.ensures refl c.put.ensures c.header-blank.ensures c.checksum_of_both-check.ensures
    (c.copy_from_slice.ensures.after ∙ c.header.ensures) c.split_at_mut-front.ensures.back

pub returns-clause-read : goal.returns-clause-read
returns-clause-read c grammar spellable =
    let len = 16 + length c.behind_of-behind.result.now
    in ap (λ xs. reading_by grammar (take len xs)) (returns-clause-bytes c)
    ∙ read_back grammar (said_by c.args.m.now) c.args.out.now len spellable (ap (λ n. 16 + n) (ap length c.behind_of-behind.ensures))
