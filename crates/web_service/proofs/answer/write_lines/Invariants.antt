use Rattle.std.proofs.Common.{◌≡◌, ◌++◌}
use Rattle.web_service.specs.Answer.{made_lines}
use Rattle.web_service.proofs.answer.write_lines.Given as goal

abbrev pub invariant-loop-i : goal.invariant-loop-i
invariant-loop-i l = l.out.items ≡ l.initial.out.items ++ made_lines l.i
