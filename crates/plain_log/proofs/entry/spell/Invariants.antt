use Rattle.std.specs.Prelude.{take}
use Rattle.plain_log.proofs.ReadLengths.{IsSpelled}
use Rattle.plain_log.proofs.entry.spell.Given as goal

abbrev pub invariant-loop-length : goal.invariant-loop-length
invariant-loop-length l = IsSpelled l.out.items (take l.length-index l.lengths)
