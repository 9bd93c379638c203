use Rattle.std.specs.Prelude.{⊤}
use Rattle.line_check.specs.Words.{number_word}
use Rattle.ft_model.specs.Spelling.{number_of, numeral}
use Rattle.ft_model.proofs.ReportOnLiterals.{report_on_literals}

-- what the tactics of functions unfold: the definitions of each, by its name

unfoldable pub a_leading_zero_passes_words : ⊤
unfolding number_word number_of numeral report_on_literals
a_leading_zero_passes_words = tt
