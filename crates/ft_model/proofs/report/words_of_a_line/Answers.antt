use Rattle.std.proofs.lemmas.List.{append_cancel_left}
use Rattle.ft_model.proofs.ReportWords.{rest_same}
use Rattle.ft_model.proofs.report.words_of_a_line.Goals as goal

pub returns : goal.returns
returns c = λ first ws vs p q e. rest_same ws vs p q (append_cancel_left first _ _ e)
