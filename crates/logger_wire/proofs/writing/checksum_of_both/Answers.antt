use Rattle.std.proofs.Common.{◌∙◌, ◌++◌, false, ap, zero-add}
use Rattle.seq_arith.specs.Checksum.{word_sum, with_bytes, check_of, nothing_summed}
use Rattle.seq_arith.proofs.Sums.{pieces_join}
use Rattle.logger_wire.proofs.writing.checksum_of_both.Goals as goal

pub returns : goal.returns
returns c =
    let both = c.take-2.ensures ∙ ap (λ s. with_bytes s c.args.rest.now) (c.take.ensures ∙ ap (λ s. with_bytes s c.args.front.now) c.new-sum.ensures)
    in c.check.ensures ∙ ap (λ s. check_of s.total) (both ∙ pieces_join nothing_summed c.args.front.now c.args.rest.now) ∙ ap check_of (zero-add (word_sum false (c.args.front.now ++ c.args.rest.now)))
