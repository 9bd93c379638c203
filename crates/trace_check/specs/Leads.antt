-- How far a text is read: its first lines lead to a position, and the effect of the lines after them there decides about the text.
use Rattle.std.specs.Prelude.{◌≡◌, ℕ, ◌+◌, ◌≤◌, true, false, List, [], ◌∷◌, length, take, drop}
use Rattle.server_trait.specs.Service.{Machine}
use Rattle.ft_model.specs.declared.line.Draft.{Draft}
use Rattle.ft_model.specs.declared.line.Draft.TheVariants.{Empty, Named, Begun}
use Rattle.ft_model.specs.declared.schedule.Schedule.{Schedule}
use Rattle.line_check.specs.HeaderText.{IsHeaderSoFar, header_so_far}
use Rattle.report_laws.specs.declared.Law.{Law}
use Rattle.report_laws.specs.Lines.{lines_in}
use Rattle.report_laws.specs.Transitions.{Position, is_header_line, pieces}
use Rattle.report_laws.specs.Transitions.Position.{InHeader}
use Rattle.report_laws.specs.Verdict.{RejectedFrom, IsRejected}
use Rattle.trace_check.specs.declared.end.CheckEnd.{CheckEnd}
use Rattle.trace_check.specs.declared.end.CheckEnd.TheVariants as ends

-- if the rest is rejected from this position on, the text is rejected
pub record Leads {State : Type 0} (service : ℕ → Machine State) (text : List ℕ) (position : Position) (rest : List ℕ) (lines : ℕ) : Type 0 where
  pub rejects : (line : ℕ) (law : Law) → RejectedFrom service position (lines_in rest) line law → IsRejected service text (lines + line) law

-- the header is read up to byte `at`
pub record IsReadTo {State : Type 0} (service : ℕ → Machine State) (text : List ℕ) (draft : Draft) (at lines : ℕ) : Type 0 where
  pub so_far : IsHeaderSoFar draft
  pub text_is : take at text ≡ header_so_far draft
  pub within : at ≤ length text
  pub late : 12 ≤ at
  pub few : lines ≤ at
  pub leads : Leads service text (InHeader draft) (drop at text) lines

-- the text is rejected for this reason, unless an allocation failed
abbrev pub IsRejection : {State : Type 0} → (ℕ → Machine State) → List ℕ → CheckEnd → Type 0
IsRejection service text ends.NoMemory = Unit {0}
IsRejection service text (ends.Reject line law) = IsRejected service text line law

-- a line belongs to the header after these lines
abbrev pub Belongs : Draft → List ℕ → Type 0
Belongs Empty line = ⊥
Belongs (Named kind) line = Unit {0}
Belongs (Begun schedule) line = is_header_line schedule (pieces line) ≡ true

-- the next of these lines belongs to no header
abbrev pub EndsHeader : Schedule → List (List ℕ) → Type 0
EndsHeader schedule [] = Unit {0}
EndsHeader schedule (line ∷ lines) = is_header_line schedule (pieces line) ≡ false
