-- How the run of a schedule ends: what was read of the input, and what was written of the report.
use Rattle.std.specs.Prelude.{◌≡◌, ◌⊎◌, Result, Ok, Err, List, ℕ, true, IfSome}
use Rattle.std.specs.Io.KnownBytes.{IsAtEnd}
use Rattle.schedule_text.specs.Fleeting.{read_fleeting}
use Rattle.ft_model.specs.Grammar.{Refusal as reading}
use Rattle.ft_model.specs.declared.schedule.Limit.TheVariants as limits
use Rattle.ft_model.specs.declared.schedule.Schedule.{Schedule}
use Rattle.replay_run.specs.Causes.{IsSettled}
use Rattle.replay_check.specs.Ends.{is_run_code}
use Rattle.replay_check.specs.Outcome.{HasEnded}
use Rattle.replay_check.specs.PartialWrite.{Wrote}
use Rattle.replay_run.specs.PlayedRun.{Spells, ReportsAll, ReportsTill, ReportsToLimit, ReportsFront}
use Rattle.replay_check.specs.Stream.{Stream, HasFailed, HasNotFailed, IsQuiet}
use Rattle.replay_check.specs.declared.status.TooMuch.TheVariants.{Text, Events, Packets}
use Rattle.replay_check.specs.declared.status.RunEnd.{RunEnd}
use Rattle.replay_check.specs.declared.status.RunEnd.TheVariants.{Usage, NoMemory, ReadFault, WriteFault, BadLine, BadEvent, TooLong, Rejected}

-- the input was read to its end and its text spells a schedule; a text of this kind was written to out; no call on either failed
pub record Reports (input out : Stream) (Is : Schedule → List ℕ → Type 0) : Type 0 where
  pub written : IfSome input.before (λ text. Spells text (λ schedule. Wrote out.before out.after (Is schedule)))
  pub end : IsAtEnd input.after
  pub input_faultless : HasNotFailed input
  pub out_faultless : HasNotFailed out

-- the grammar refuses the input's text for this reason, nothing was written to out, and no call on either failed
pub record Refuses (input out : Stream) (why : reading) : Type 0 where
  pub refused : IfSome input.before (λ text. read_fleeting text ≡ Err why)
  pub unwritten : out.Untouched
  pub input_faultless : HasNotFailed input
  pub out_faultless : HasNotFailed out

-- nothing was written; or the input was read to its end, its text spells a schedule, and a prefix of its report was written
abbrev pub KeepsFront : (input out : Stream) → Type 0
KeepsFront input out =
    out.Untouched ⊎ (IsAtEnd input.after × IfSome input.before (λ text. Spells text (λ schedule. Wrote out.before out.after (ReportsFront schedule))))

-- how a run ends early
abbrev pub RunStops : (input out : Stream) → RunEnd → Type 0
RunStops input out Usage = ⊥
RunStops input out NoMemory = KeepsFront input out × HasNotFailed input × HasNotFailed out
RunStops input out ReadFault = HasFailed input × out.Untouched
RunStops input out WriteFault = KeepsFront input out × HasNotFailed input × HasFailed out
RunStops input out (BadLine line why) = Refuses input out (reading.BadLine line why)
RunStops input out (BadEvent number why) = Reports input out (λ schedule. ReportsTill schedule number why)
RunStops input out (TooLong Text) = Refuses input out (reading.TooLong limits.Text)
RunStops input out (TooLong Events) = Refuses input out (reading.TooLong limits.Events)
RunStops input out (TooLong Packets) = Reports input out ReportsToLimit
RunStops input out (Rejected line law) = ⊥

-- the result of a run
abbrev pub RunDoes : (input out : Stream) → Result (Unit {0}) RunEnd → Type 0
RunDoes input out (Ok _) = Reports input out ReportsAll
RunDoes input out (Err end) = RunStops input out end

-- why a text isn't read: it spells no schedule, or an allocation failed
abbrev pub StopsReading : List ℕ → RunEnd → Type 0
StopsReading text NoMemory = Unit {0}
StopsReading text (BadLine line why) = read_fleeting text ≡ Err (reading.BadLine line why)
StopsReading text (TooLong Text) = read_fleeting text ≡ Err (reading.TooLong limits.Text)
StopsReading text (TooLong Events) = read_fleeting text ≡ Err (reading.TooLong limits.Events)
StopsReading text _ = ⊥

-- For `run`. If no count of faults rises, the text determines the status, unless an allocation failed
pub record HasRun (input out err : Stream) (code : ℕ) : Type 0 where
  pub ended : HasEnded (RunDoes input out) err code
  pub settled : IsQuiet input → IsQuiet out → IsQuiet err → IfSome input.before (λ text. IsSettled text code)
  pub codes : is_run_code code ≡ true
