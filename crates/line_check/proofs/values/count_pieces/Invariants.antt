use Rattle.std.proofs.Common.{◌≡◌, ◌+◌, ◌≤◌, length}
use Rattle.std.specs.List.{slice_split}
use Rattle.ft_model.specs.Words.{is}
use Rattle.line_check.proofs.values.count_pieces.Given as goal

abbrev pub invariant-loop-behind : goal.invariant-loop-behind
invariant-loop-behind l = (l.count + length (slice_split (is 44) l.rest) ≡ length (slice_split (is 44) l.word) + 1) × (l.count + length l.rest ≤ length l.word + 1)

abbrev pub decreases-loop-behind : goal.decreases-loop-behind
decreases-loop-behind l = length l.rest
