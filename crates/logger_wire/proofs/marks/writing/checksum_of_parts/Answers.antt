use Rattle.std.proofs.Common.{◌∙◌, ◌++◌, false, ap, zero-add}
use Rattle.seq_arith.specs.Checksum.{word_sum, with_bytes, check_of, nothing_summed}
use Rattle.seq_arith.proofs.Sums.{pieces_join}
use Rattle.logger_wire.proofs.marks.writing.checksum_of_parts.Goals as goal

pub returns : goal.returns
returns c =
    let both = c.take-2.ensures ∙ ap (λ s. with_bytes s c.args.numbers.now) (c.take.ensures ∙ ap (λ s. with_bytes s c.args.header.now) c.new-sum.ensures)
    ∙ pieces_join nothing_summed c.args.header.now c.args.numbers.now
    in let all = c.take-3.ensures ∙ ap (λ s. with_bytes s c.args.state.now) both ∙ pieces_join nothing_summed (c.args.header.now ++ c.args.numbers.now) c.args.state.now
    in c.check.ensures ∙ ap (λ s. check_of s.total) all ∙ ap check_of (zero-add (word_sum false ((c.args.header.now ++ c.args.numbers.now) ++ c.args.state.now)))
