use Rattle.std.proofs.Common.{◌≡◌, ◌++◌, take}
use Rattle.seq_arith.specs.MessageGrammar.{lens_in}
use Rattle.reincarnate.proofs.fetched_entry.push_lengths.Given as goal

abbrev pub invariant-loop-i : goal.invariant-loop-i
invariant-loop-i l = l.waiting.items ≡ l.initial.waiting.items ++ take l.i (lens_in l.fn.lens)
