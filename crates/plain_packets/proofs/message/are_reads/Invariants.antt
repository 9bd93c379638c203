use Rattle.std.proofs.Common.{◌≡◌, length}
use Rattle.std.specs.Prelude.{nat_le}
use Rattle.std.specs.List.{list_all}
use Rattle.seq_arith.specs.MessageGrammar.{lens_in}
use Rattle.plain_packets.proofs.message.are_reads.Given as goal

-- the lengths that are left decide
abbrev pub invariant-loop-rest : goal.invariant-loop-rest
invariant-loop-rest l = list_all (λ len. nat_le len 2048) (lens_in l.rest) ≡ list_all (λ len. nat_le len 2048) (lens_in l.fn.lens)

abbrev pub decreases-loop-rest : goal.decreases-loop-rest
decreases-loop-rest l = length l.rest
