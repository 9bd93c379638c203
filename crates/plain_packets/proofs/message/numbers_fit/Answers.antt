use Rattle.std.proofs.Common.{◌∙◌, ap, sym}
use Rattle.seq_arith.specs.declared.kinds.Grammar.TheVariants.{Wide}
use Rattle.seq_arith.specs.MessageGrammar.{kind_of, fields_of, numbers_of, all_in_range_by}
use Rattle.logger_wire.specs.Value.{body_of}
use Rattle.plain_packets.proofs.message.numbers_fit.Goals as goal

pub returns-in-Entry : goal.returns-in-Entry
returns-in-Entry c =
    c.head_fits.ensures
    ∙ sym (ap (λ b. all_in_range_by Wide c.args.boot c.args.behind (fields_of (kind_of (body_of b))) (numbers_of (body_of b))) c.in-Entry.is)
