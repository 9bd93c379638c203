use Rattle.std.proofs.Common.{◌≡◌, ◌++◌, take}
use Rattle.ft_model.specs.Texts.{behind_commas}
use Rattle.schedule_text.proofs.line_text.put_others.Given as goal

abbrev pub invariant-loop-number : goal.invariant-loop-number
invariant-loop-number l = (l.line.words ≡ l.initial.line.words ++ behind_commas (take l.number-index l.numbers)) × (l.line.before ≡ l.initial.line.before)
