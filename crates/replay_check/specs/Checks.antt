-- How the check of a report ends: what was read of the input, whether its text is legal, and what was written to out.
use Rattle.std.specs.Prelude.{◌≡◌, ◌⊎◌, ◌<◌, ◌≤◌, ℕ, true, codes, decimal, Result, Ok, Err, List, [], ◌∷◌, ◌++◌, length, IfSome}
use Rattle.std.specs.Io.KnownBytes.{IsAtEnd}
use Rattle.sample_servers.specs.AnyService.{any_machine}
use Rattle.ft_model.specs.Legal.{start_of}
use Rattle.ft_model.specs.Report.{packet_count}
use Rattle.ft_model.specs.Schedule.{kind_of}
use Rattle.report_laws.specs.Transitions.{IsReport}
use Rattle.report_laws.specs.Verdict.{IsRejected}
use Rattle.report_laws.specs.declared.Law.{Law}
use Rattle.replay_check.specs.Ends.{is_check_code}
use Rattle.replay_check.specs.Outcome.{HasEnded}
use Rattle.replay_check.specs.Safe.{IsSafe}
use Rattle.replay_check.specs.PartialWrite.{IsFrontOf, Wrote}
use Rattle.replay_check.specs.Stream.{Stream, HasFailed, HasNotFailed, IsQuiet}
use Rattle.replay_check.specs.declared.status.TooMuch.TheVariants.{Text}
use Rattle.replay_check.specs.declared.status.RunEnd.{RunEnd}
use Rattle.replay_check.specs.declared.status.RunEnd.TheVariants.{NoMemory, ReadFault, WriteFault, TooLong, Rejected}

-- the largest size of a report that is checked, in bytes
abbrev pub report_limit : ℕ
report_limit = 268435456

-- a name followed by its number
unfoldable pub counted : List ℕ → ℕ → List ℕ
counted name n = name ++ decimal n

-- the line that is written for a legal report
unfoldable pub legal_line : (events packets : ℕ) → List ℕ
legal_line events packets = counted (codes "legal events ") events ++ (counted (codes " packets ") packets ++ 10 ∷ [])

-- The text is the report of a legal and safe trace of the service that it names; and the line gives the numbers of the trace's events and packets.
pub record IsFoundLegal (text line : List ℕ) : Type 0 where
  pub report : IsReport any_machine text
  pub safe : IsSafe (any_machine (kind_of report.schedule.service)) (start_of report.schedule) report.trace
  pub line_is : line ≡ legal_line (length report.trace) (packet_count report.trace)

-- a prefix of the line for such a text
abbrev pub IsFrontOfLegal : (text front : List ℕ) → Type 0
IsFrontOfLegal text front = (line : List ℕ) × IsFoundLegal text line × IsFrontOf front line

-- the input was read to its end, no call on it failed, and its text is within the limit and has this property
pub record ReadsReport (input : Stream) (Is : List ℕ → Type 0) : Type 0 where
  pub text : IfSome input.before Is
  pub within : IfSome input.before (λ text. length text ≤ report_limit)
  pub end : IsAtEnd input.after
  pub faultless : HasNotFailed input

-- nothing was written, and no call failed
abbrev pub IsLeftAlone : Stream → Type 0
IsLeftAlone out = out.Untouched × HasNotFailed out

-- how a check ends early
abbrev pub CheckStops : (input out : Stream) → RunEnd → Type 0
CheckStops input out NoMemory = HasNotFailed input × IsLeftAlone out
CheckStops input out ReadFault = HasFailed input × IsLeftAlone out
CheckStops input out WriteFault = ReadsReport input (λ text. Wrote out.before out.after (IsFrontOfLegal text)) × HasFailed out
CheckStops input out (TooLong Text) = IfSome input.before (λ text. report_limit < length text) × HasNotFailed input × IsLeftAlone out
CheckStops input out (Rejected line law) = ReadsReport input (λ text. IsRejected any_machine text line law) × IsLeftAlone out
CheckStops input out _ = ⊥

-- the report is legal, and the line that says so was written
abbrev pub FindsLegal : (input out : Stream) → Type 0
FindsLegal input out = ReadsReport input (λ text. Wrote out.before out.after (IsFoundLegal text)) × HasNotFailed out

-- the result of a check
abbrev pub CheckDoes : (input out : Stream) → Result (Unit {0}) RunEnd → Type 0
CheckDoes input out (Ok _) = FindsLegal input out
CheckDoes input out (Err end) = CheckStops input out end

-- The status, given the text, if no count of faults rises: it is determined, unless an allocation failed.
pub record IsCheckSettled (text : List ℕ) (code : ℕ) : Type 0 where
  pub within : length text ≤ report_limit → (code ≡ 0) ⊎ (code ≡ 9) ⊎ (code ≡ 3)
  pub legal : length text ≤ report_limit → IsReport any_machine text → (code ≡ 0) ⊎ (code ≡ 3)
  pub rejected : length text ≤ report_limit → (line : ℕ) (law : Law) → IsRejected any_machine text line law → (code ≡ 9) ⊎ (code ≡ 3)
  pub too_long : report_limit < length text → (code ≡ 8) ⊎ (code ≡ 3)

-- For `check`. If no count of faults rises, the text determines the status, unless an allocation failed
pub record HasChecked (input out err : Stream) (code : ℕ) : Type 0 where
  pub ended : HasEnded (CheckDoes input out) err code
  pub settled : IsQuiet input → IsQuiet out → IsQuiet err → IfSome input.before (λ text. IsCheckSettled text code)
  pub codes : is_check_code code ≡ true
