-- What reading returns, in terms of the grammar.
use Rattle.std.specs.Prelude.{◌≡◌, ℕ, Option, None, List, Result, Ok, Err}
use Rattle.ft_model.specs.Grammar.{◌>>=◌, Objection, Refusal, line_of, unless_objected, with_line}
use Rattle.ft_model.specs.Grammar.Refusal.{BadLine, TooLong}
use Rattle.ft_model.specs.declared.line.Draft.{Draft}
use Rattle.ft_model.specs.declared.line.Line.{Line}
use Rattle.ft_model.specs.declared.schedule.LineWhy.{LineWhy}
use Rattle.schedule_text.specs.Fleeting.{refusal_of_lasting}
use Rattle.schedule_text.specs.declared.end.LineEnd.{LineEnd}
use Rattle.schedule_text.specs.declared.end.LineEnd.TheVariants as line_end
use Rattle.schedule_text.specs.declared.end.ScheduleEnd.{ScheduleEnd}
use Rattle.schedule_text.specs.declared.end.ScheduleEnd.TheVariants as end
use Rattle.schedule_text.specs.declared.read.Known.{Known}
use Rattle.schedule_text.specs.declared.read.Known.TheVariants.{All, Fleeting}

-- why a reader refuses a well-formed line
abbrev pub refusal_of_line : Known → Line → Option LineWhy
refusal_of_line All l = None
refusal_of_line Fleeting l = refusal_of_lasting l

abbrev pub objection_of : Known → Objection
objection_of known draft l = refusal_of_line known l

-- the draft after a line
abbrev pub with_text : Known → Draft → List ℕ → Result Draft LineWhy
with_text known draft text = line_of draft text >>= λ l. unless_objected (refusal_of_line known l) (with_line draft l)

-- the result for a line is the grammar's, unless an allocation failed
abbrev pub GivesLine : {X : Type 0} → Result X LineEnd → Result X LineWhy → Type 0
GivesLine (Ok x) read = read ≡ Ok x
GivesLine (Err line_end.NoMemory) read = Unit {0}
GivesLine (Err (line_end.Refused why)) read = read ≡ Err why

-- the result for a text, or for lines of it, is the grammar's, unless an allocation failed
abbrev pub Gives : {X : Type 0} → Result X ScheduleEnd → Result X Refusal → Type 0
Gives (Ok x) read = read ≡ Ok x
Gives (Err end.NoMemory) read = Unit {0}
Gives (Err (end.BadLine line why)) read = read ≡ Err (BadLine line why)
Gives (Err (end.TooLong what)) read = read ≡ Err (TooLong what)
