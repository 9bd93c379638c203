-- The state of the world before and after an event, with two loggers, with one log or with marks.
use Rattle.std.specs.Prelude.{◌≡◌, ℕ, ◌+◌, ◌<◌, ◌≤◌, Bool, true, false, Option, None, Some, List, [], ◌∷◌, ◌++◌, length}
use Rattle.tcp_rules.specs.Profile.{grammar_of}
use Rattle.tcp_rules.specs.Profiles.{profile_of}
use Rattle.ft_model.specs.Report.{event_line}
use Rattle.ft_model.specs.declared.event.Event.{Event}
use Rattle.ft_model.specs.declared.schedule.Schedule.{Schedule}
use Rattle.net_schedule.specs.Refinement.{Kept}
use Rattle.net_schedule.specs.MarkedStep.{MarkedStandsAfter}
use Rattle.net_schedule.specs.Step.{StandsAfter}
use Rattle.net_schedule.specs.TwinStep.{TwinStandsAfter}
use Rattle.schedule_network.specs.declared.end.StepEnd.{StepEnd}
use Rattle.schedule_network.specs.declared.end.StepEnd.TheVariants.{NoMemory, BadEvent, PacketLimit}
use Rattle.schedule_network.specs.declared.step_out.StepOut.{StepOut}
use Rattle.sample_servers.specs.AnyService.{any_machine}
use Rattle.sample_servers.specs.declared.any_service.AnyService.{AnyService}
use Rattle.replay_run.specs.PacketLines.{stored_lines}
use Rattle.replay_run.specs.Traces.{any_marker, traces_of}

-- the world is at the end of a legal trace of these events of a schedule
abbrev pub IsTraceEnd : (twin : Bool) → (marks : Option ℕ) → Schedule → List Event → List (traces_of twin marks).Turn → Kept AnyService → Type 0
IsTraceEnd true marks schedule events trace w = TwinStandsAfter any_machine schedule events trace w
IsTraceEnd false None schedule events trace w = StandsAfter any_machine schedule events trace w
IsTraceEnd false (Some every) schedule events trace w = MarkedStandsAfter (any_marker every) schedule events trace w

-- the world is at the end of a legal trace of some schedule
pub record IsStanding (w : Kept AnyService) : Type 0 where
  pub schedule : Schedule
  pub events : List Event
  pub trace : List (traces_of schedule.twin schedule.marks).Turn
  pub stands : IsTraceEnd schedule.twin schedule.marks schedule events trace w

-- one more event is played, and its lines are its own and those of the packets that it stored
pub record PlaysOne (twin : Bool) (marks : Option ℕ) (schedule : Schedule) (events : List Event) (trace : List (traces_of twin marks).Turn) (event : Event)
    (answer : StepOut)
    (w : Kept AnyService) : Type 0 where
  pub moment : (traces_of twin marks).Turn
  pub stands : IsTraceEnd twin marks schedule (events ++ event ∷ []) (moment ∷ trace) w
  pub within : (traces_of twin marks).sent schedule (moment ∷ trace) ≤ 200000
  pub lines : (traces_of twin marks).lines schedule (moment ∷ trace)
      ≡ (traces_of twin marks).lines schedule trace ++ (event_line (length events + 1) event
      ++ stored_lines (grammar_of (profile_of w.profile)) w.packets answer.first answer.count)

-- with one more event the packets exceed their limit
pub record Exceeds (twin : Bool) (marks : Option ℕ) (schedule : Schedule) (events : List Event) (trace : List (traces_of twin marks).Turn)
    (event : Event) : Type 0 where
  pub moment : (traces_of twin marks).Turn
  pub legal : (traces_of twin marks).IsLegal schedule (events ++ event ∷ []) (moment ∷ trace)
  pub over : 200000 < (traces_of twin marks).sent schedule (moment ∷ trace)

-- why an event isn't played
abbrev pub StopsAt : (twin : Bool) → (marks : Option ℕ) → Schedule → List Event → List (traces_of twin marks).Turn → Event → StepEnd → Type 0
StopsAt twin marks schedule events trace event NoMemory = Unit {0}
StopsAt twin marks schedule events trace event (BadEvent why) = (traces_of twin marks).refuses schedule trace event ≡ Some why
StopsAt twin marks schedule events trace event PacketLimit = Exceeds twin marks schedule events trace event
