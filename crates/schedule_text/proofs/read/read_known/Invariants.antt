use Rattle.std.proofs.Common.{◌≡◌, ◌+◌, ◌≤◌, length}
use Rattle.ft_model.specs.Words.{lines_of}
use Rattle.ft_model.specs.Grammar.{read_lines}
use Rattle.ft_model.specs.declared.line.Draft.TheVariants.{Empty}
use Rattle.schedule_text.specs.ReadResult.{objection_of}
use Rattle.schedule_text.proofs.read.read_known.Given as goal

-- the lines that are left, after what was read, spell what the whole text spells
abbrev pub invariant-loop-rest : goal.invariant-loop-rest
invariant-loop-rest l =
    (read_lines (objection_of l.known) l.number l.draft (lines_of l.rest) ≡ read_lines (objection_of l.known) 1 Empty (lines_of l.text))
    × (l.number + length l.rest ≤ length l.text + 1)
    × (length l.text ≤ 8388608)

abbrev pub decreases-loop-rest : goal.decreases-loop-rest
decreases-loop-rest l = length l.rest
