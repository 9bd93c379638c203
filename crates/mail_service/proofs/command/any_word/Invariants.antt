use Rattle.std.proofs.Common.{◌≡◌, ◌≤◌, length}
use Rattle.mail_service.specs.Command.{any_word}
use Rattle.mail_service.proofs.command.any_word.Given as goal

-- what is left decides as all the words do
abbrev pub invariant-loop-at : goal.invariant-loop-at
invariant-loop-at l = record {
  short : length l.rest ≤ length l.words;
  same : any_word l.kind l.rest ≡ any_word l.kind l.words;
}

abbrev pub decreases-loop-at : goal.decreases-loop-at
decreases-loop-at l = length l.rest
