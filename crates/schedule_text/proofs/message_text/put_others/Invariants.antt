use Rattle.std.proofs.Common.{◌≡◌, ◌++◌, length}
use Rattle.seq_arith.specs.MessageGrammar.{lens_in}
use Rattle.ft_model.specs.Texts.{behind_commas}
use Rattle.schedule_text.proofs.message_text.put_others.Given as goal

-- what is written and what is left are the whole
abbrev pub invariant-loop-rest : goal.invariant-loop-rest
invariant-loop-rest l = (l.line.words ++ behind_commas (lens_in l.rest) ≡ l.initial.line.words ++ behind_commas (lens_in l.lens)) × (l.line.before ≡ l.initial.line.before)

abbrev pub decreases-loop-rest : goal.decreases-loop-rest
decreases-loop-rest l = length l.rest
