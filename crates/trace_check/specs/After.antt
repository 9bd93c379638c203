-- The lines after the turns of a legal trace: the next event's, or those that close the report.
use Rattle.std.specs.Prelude.{◌≡◌, ℕ, ◌+◌, ◌||◌, Bool, true, false, nat_le, Option, Some, None, is_some, List, [], ◌∷◌, ◌++◌, length, take, drop}
use Rattle.server_trait.specs.Service.{Machine}
use Rattle.ft_model.specs.Grammar.{with_line}
use Rattle.ft_model.specs.Legal.{start_of, refusal}
use Rattle.ft_model.specs.World.{Moment, world_after}
use Rattle.ft_model.specs.declared.event.Event.{Event}
use Rattle.ft_model.specs.declared.line.Draft.TheVariants.{Begun}
use Rattle.ft_model.specs.declared.line.Line.TheVariants as says
use Rattle.ft_model.specs.declared.schedule.Schedule.{Schedule}
use Rattle.report_laws.specs.declared.Law.TheVariants as law
use Rattle.report_laws.specs.Canonical.{schedule_bytes}
use Rattle.report_laws.specs.Lines.{lines_in}
use Rattle.report_laws.specs.Transitions.{Position, Step, LineGives, AfterTurn, IsEventLine}
use Rattle.report_laws.specs.Transitions.Position.{InTurn}
use Rattle.report_laws.specs.Verdict.{IsRejected}
use Rattle.trace_check.specs.Leads.{Leads}

-- the first of some lines
abbrev pub first_of : List (List ℕ) → Option (List ℕ)
first_of [] = None
first_of (line ∷ lines) = Some line

-- the turns of a trace are read: the next line has the effect that it has after them
pub record IsAfter {State : Type 0} (service : ℕ
    → Machine State) (text : List ℕ) (schedule : Schedule) (trace : List Moment) (rest : List ℕ) (lines : ℕ) : Type 0 where
  pub position : Position
  pub leads : Leads service text position rest lines
  pub gives : (step : Step) → AfterTurn schedule trace (first_of (lines_in rest)) step → LineGives service position (first_of (lines_in rest)) step

abbrev pub with_event : Schedule → Event → Schedule
with_event schedule event = record schedule { events = schedule.events ++ event ∷ [] }

-- the event may not happen then, or is one too many
abbrev pub is_refused : Schedule → List Moment → Event → Bool
is_refused schedule trace event = is_some (refusal (world_after (start_of schedule) trace) event) || nat_le 100000 (length trace)

-- the line of an event leads on to its turn, unless the event is refused
pub record ReadsEvent {State : Type 0} (service : ℕ
    → Machine State) (text : List ℕ) (schedule : Schedule) (trace : List Moment) (event : Event) (at end lines size : ℕ) : Type 0 where
  pub is : IsEventLine schedule (length trace + 1) event (drop at (take end text))
  pub allowed : is_refused schedule trace event ≡ false → Leads service text (InTurn (with_event schedule event) trace event []) (drop end text) (lines + 1)
  pub refused : is_refused schedule trace event ≡ true → IsRejected service text (lines + 1) law.Event
  pub size_is : length (schedule_bytes (with_line (Begun schedule) (says.Event event))) ≡ size
