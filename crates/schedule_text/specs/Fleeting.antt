-- Schedules whose server doesn't last. A reader may know no others: to it `lasting` is no word of a schedule.
use Rattle.std.specs.Prelude.{ℕ, Option, None, Some, Result, List}
use Rattle.ft_model.specs.Grammar.{Objection, Refusal, read_with}
use Rattle.ft_model.specs.declared.line.Line.{Line}
use Rattle.ft_model.specs.declared.line.Line.TheVariants as line
use Rattle.ft_model.specs.declared.schedule.LineWhy.{LineWhy}
use Rattle.ft_model.specs.declared.schedule.LineWhy.TheVariants as why
use Rattle.ft_model.specs.declared.schedule.Schedule.{Schedule}

-- why such a reader refuses a well-formed line
abbrev pub refusal_of_lasting : Line → Option LineWhy
refusal_of_lasting (line.Lasting waits) = Some why.Word
refusal_of_lasting _ = None

abbrev pub no_lasting : Objection
no_lasting draft l = refusal_of_lasting l

-- the schedule that a text spells for it, or why it spells none
abbrev pub read_fleeting : List ℕ → Result Schedule Refusal
read_fleeting text = read_with no_lasting text
