use Rattle.std.proofs.Common.{◌≡◌, length}
use Rattle.std.specs.List.{list_all, slice_split}
use Rattle.ft_model.specs.Words.{is}
use Rattle.line_check.specs.Words.{is_number}
use Rattle.line_check.proofs.values.are_lengths.Given as goal

abbrev pub invariant-loop-first : goal.invariant-loop-first
invariant-loop-first l = list_all (is_number 2048) (slice_split (is 44) l.rest) ≡ list_all (is_number 2048) (slice_split (is 44) l.word)

abbrev pub decreases-loop-first : goal.decreases-loop-first
decreases-loop-first l = length l.rest
