-- The traces of a schedule's runs, in the world with one log, with a head and a tail, or with marks. Statements about a run and its report hold for all
-- three.
use Rattle.std.specs.Prelude.{◌≡◌, ℕ, Bool, true, false, Option, None, Some, IfSome, List}
use Rattle.std.specs.List.{AllByRecursion}
use Rattle.sample_servers.specs.AnyService.{any_machine, any_form, any_state_of}
use Rattle.sample_servers.specs.declared.any_service.AnyService.{AnyService}
use Rattle.server_trait.specs.Service.{CanCut}
use Rattle.ft_model.specs.Lawful.{is_fenced}
use Rattle.ft_model.specs.Legal.{start_of, refusal, IsLegalFor}
use Rattle.ft_model.specs.Masked.{Masked}
use Rattle.ft_model.specs.Outcome.{packets_sent}
use Rattle.ft_model.specs.Report.{event_lines, report}
use Rattle.ft_model.specs.Resets.{ResetsNoLogged}
use Rattle.ft_model.specs.Schedule.{kind_of, clients_of}
use Rattle.ft_model.specs.World.{Moment, world_after, events_of}
use Rattle.ft_model.specs.declared.event.Event.{Event}
use Rattle.ft_model.specs.declared.event.EventWhy.{EventWhy}
use Rattle.ft_model.specs.declared.schedule.Schedule.{Schedule}
use Rattle.replay_check.specs.Safe.{IsSafe}
use Rattle.mark_laws.specs.MarkedLegal.{markers, marked_start, marked_refusal, IsMarkedLegalFor, marked_packets_sent}
use Rattle.mark_laws.specs.MarkedNode.{Marker}
use Rattle.mark_laws.specs.MarkedWorld.{MarkedMoment, marked_after, plain_trace, usual}
use Rattle.mark_laws.specs.TrueMarks.{MarksAreTrue}
use Rattle.mark_laws.specs.MarkedReport.{marked_event_lines, marked_report}
use Rattle.twin_laws.specs.Flat.{flat}
use Rattle.twin_laws.specs.TwinLegal.{twin_start, twin_refusal, IsTwinLegalFor, twin_packets_sent}
use Rattle.twin_laws.specs.TwinReport.{twin_event_lines, twin_report}
use Rattle.twin_laws.specs.TwinWorld.{TwinMoment, twin_after}

-- The traces in one of these worlds, newest moment first. The service is the one that the schedule names
pub record Traces : Type 1 where
  pub Turn : Type 0
  pub IsLegal : Schedule → List Event → List Turn → Type 0  -- a legal trace of these first events
  pub IsSafe : Schedule → List Turn → Type 0  -- the proved property of a legal trace
  pub sent : Schedule → List Turn → ℕ  -- how many packets were sent up to its end
  pub refuses : Schedule → List Turn → Event → Option EventWhy  -- why an event may not happen next
  pub lines : Schedule → List Turn → List ℕ  -- the report's lines on its events
  pub report : Schedule → List Turn → List ℕ

abbrev pub of_one_log : Traces
of_one_log = record {
  Turn = Moment;
  IsLegal = IsLegalFor any_machine;
  IsSafe = λ schedule trace. IsSafe (any_machine (kind_of schedule.service)) (start_of schedule) trace;
  sent = packets_sent;
  refuses = λ schedule trace event. refusal (world_after (start_of schedule) trace) event;
  lines = λ schedule trace. event_lines (clients_of schedule.server schedule.clients) trace;
  report = report;
}

-- With two loggers the moments are those of that world, and the proved property is that of its reduction to one log: the reduction is legal too, and safe
pub record IsSafeFlat (schedule : Schedule) (trace : List Moment) : Type 0 where
  pub legal : IsLegalFor any_machine schedule (events_of trace) trace
  pub safe : IsSafe (any_machine (kind_of schedule.service)) (start_of schedule) trace

abbrev pub of_two_loggers : Traces
of_two_loggers = record {
  Turn = TwinMoment;
  IsLegal = IsTwinLegalFor any_machine;
  IsSafe = λ schedule trace. IsSafeFlat schedule (flat (twin_start schedule) trace).trace;
  sent = twin_packets_sent;
  refuses = λ schedule trace event. twin_refusal (twin_after (twin_start schedule) trace) event;
  lines = λ schedule trace. twin_event_lines (clients_of schedule.server schedule.clients) trace;
  report = twin_report;
}

-- how the server makes marks for each kind of service, one after so many reads
abbrev pub any_marker : (every : ℕ) → ℕ → Marker AnyService
any_marker every = markers any_machine any_form any_state_of every

-- With marks the moments are those of that world, and the proved property is that of one log, for the trace without its marks, and that the marks are true
pub record IsSafeMarked (every : ℕ) (schedule : Schedule) (trace : List MarkedMoment) : Type 0 where
  pub masked : Masked (any_machine (kind_of schedule.service)) (start_of schedule) (plain_trace trace)
  pub resets : AllByRecursion (ResetsNoLogged (marked_after (marked_start schedule) trace).log.log) (usual (marked_after (marked_start schedule) trace).parcels)
  pub fenced : IfSome (marked_after (marked_start schedule) trace).node (λ node. is_fenced node.plain.stage ≡ false)
  pub cut : AllByRecursion (λ e. CanCut e.bytes e.lengths) (marked_after (marked_start schedule) trace).log.log.entries
  pub marks : MarksAreTrue (any_marker every (kind_of schedule.service)) (marked_after (marked_start schedule) trace)

abbrev pub of_marks : (every : ℕ) → Traces
of_marks every = record {
  Turn = MarkedMoment;
  IsLegal = IsMarkedLegalFor (any_marker every);
  IsSafe = IsSafeMarked every;
  sent = marked_packets_sent;
  refuses = λ schedule trace event. marked_refusal (marked_after (marked_start schedule) trace) event;
  lines = λ schedule trace. marked_event_lines (clients_of schedule.server schedule.clients) trace;
  report = marked_report;
}

-- the traces with two loggers, with one log, or with one log and marks
abbrev pub traces_of : (twin : Bool) → (marks : Option ℕ) → Traces
traces_of true marks = of_two_loggers
traces_of false None = of_one_log
traces_of false (Some every) = of_marks every

abbrev pub traces : Schedule → Traces
traces schedule = traces_of schedule.twin schedule.marks

-- a schedule and a trace of its kind
pub record Traced : Type 0 where
  pub schedule : Schedule
  pub trace : List (traces schedule).Turn

-- the trace is legal, up to the schedule's last event
abbrev pub IsLegalTraced : Traced → Type 0
IsLegalTraced traced = (traces traced.schedule).IsLegal traced.schedule traced.schedule.events traced.trace

abbrev pub report_of : Traced → List ℕ
report_of traced = (traces traced.schedule).report traced.schedule traced.trace
