use Rattle.std.proofs.Common.{subst, sym}
use Rattle.seq_arith.specs.MessageGrammar.{kind_of, fields_of, numbers_of, AllFit}
use Rattle.logger_wire.specs.Value.{body_of}
use Rattle.plain_packets.proofs.number_ranges.fit_numbers.Goals as goal

pub returns-in-Entry : goal.returns-in-Entry
returns-in-Entry c = subst (λ b. AllFit (fields_of (kind_of (body_of b))) (numbers_of (body_of b))) (sym c.in-Entry.is) c.fit_head.ensures
