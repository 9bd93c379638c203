-- A text's lines one after the other: what the rest spells after what was read.
use Rattle.std.proofs.Common.{◌≡◌, ℕ, ◌+◌, List, [], ◌∷◌, length, refl, sym, ◌∙◌, arith}
use Rattle.std.specs.Prelude.{Result, Ok, Err}
use Rattle.ft_model.specs.Words.{lines_of, without_empty_last}
use Rattle.ft_model.specs.Grammar.{Objection, Refusal, after_line, read_lines, schedule_of}
use Rattle.ft_model.specs.declared.line.Draft.{Draft}
use Rattle.ft_model.specs.declared.schedule.Schedule.{Schedule}
use Rattle.schedule_text.specs.ReadResult.{Gives}
use Rattle.schedule_text.specs.declared.end.ScheduleEnd.{ScheduleEnd}
use Rattle.schedule_text.specs.declared.end.ScheduleEnd.TheVariants.{NoMemory, BadLine, TooLong}

-- an accepted line leaves the lines after it
pub proceeds : (o : Objection) (n : ℕ) (draft later : Draft) (rest line behind : List ℕ) → lines_of rest ≡ line ∷ lines_of behind → after_line o n draft line ≡ Ok later
    → read_lines o n draft (lines_of rest) ≡ read_lines o (n + 1) later (lines_of behind)
unfolding read_lines
proceeds o n draft later rest line behind e f = rw (e, f) refl

-- a refused line decides
pub stops : (o : Objection) (n : ℕ) (draft : Draft) (rest line behind : List ℕ) (whole : Result Schedule Refusal) (e : ScheduleEnd) → lines_of rest ≡ line ∷ lines_of behind
    → read_lines o n draft (lines_of rest) ≡ whole → Gives {X = Draft} (Err e) (after_line o n draft line) → Gives {X = Schedule} (Err e) whole
unfolding read_lines
stops o n draft rest line behind whole NoMemory e f g = tt
stops o n draft rest line behind whole (BadLine at why) e f g = sym f ∙ rw (e, g) refl
stops o n draft rest line behind whole (TooLong what) e f g = sym f ∙ rw (e, g) refl

-- after the last line there is what was read
pub ends : (o : Objection) (n : ℕ) (draft : Draft) (rest : List ℕ) → length rest ≡ 0 → read_lines o n draft (lines_of rest) ≡ schedule_of n draft
unfolding read_lines lines_of without_empty_last
ends o n draft [] h = refl
ends o n draft (x ∷ xs) h = absurd (omega arith)
