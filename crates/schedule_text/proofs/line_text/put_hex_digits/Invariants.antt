use Rattle.std.proofs.Common.{◌≡◌, ◌++◌, length}
use Rattle.hex.specs.Hex.{encode_lower}
use Rattle.schedule_text.proofs.line_text.put_hex_digits.Given as goal

-- what is written and what is left are the whole
abbrev pub invariant-loop-rest : goal.invariant-loop-rest
invariant-loop-rest l = (l.line.words ++ encode_lower l.rest ≡ l.initial.line.words ++ encode_lower l.bytes) × (l.line.before ≡ l.initial.line.before)

abbrev pub decreases-loop-rest : goal.decreases-loop-rest
decreases-loop-rest l = length l.rest
