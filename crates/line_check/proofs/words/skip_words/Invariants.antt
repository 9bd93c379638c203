use Rattle.std.proofs.Common.{◌≡◌, drop}
use Rattle.std.specs.List.{slice_split}
use Rattle.ft_model.specs.Words.{is}
use Rattle.line_check.proofs.words.skip_words.Given as goal

abbrev pub invariant-loop-left : goal.invariant-loop-left
invariant-loop-left l = drop l.left (slice_split (is 32) l.rest) ≡ drop l.count (slice_split (is 32) l.text)

abbrev pub decreases-loop-left : goal.decreases-loop-left
decreases-loop-left l = l.left
