use Rattle.std.proofs.Common.{◌≡◌, ◌≤◌, length}
use Rattle.web_service.proofs.Texts.{any_option}
use Rattle.web_service.proofs.text.has_option.Given as goal

-- what is left decides as the whole value does
abbrev pub invariant-loop-at : goal.invariant-loop-at
invariant-loop-at l = record {
  short : length l.rest ≤ length l.value;
  same : any_option l.word l.rest ≡ any_option l.word l.value;
}

abbrev pub decreases-loop-at : goal.decreases-loop-at
decreases-loop-at l = length l.rest
