-- The part of a schedule that a run has played, and the texts that report it.
use Rattle.std.specs.Prelude.{◌≡◌, ◌⊎◌, ℕ, ◌+◌, ◌<◌, ◌≤◌, Some, Ok, List, [], ◌∷◌, ◌++◌, length}
use Rattle.schedule_text.specs.Fleeting.{read_fleeting}
use Rattle.ft_model.specs.Report.{header}
use Rattle.ft_model.specs.declared.event.Event.{Event}
use Rattle.ft_model.specs.declared.event.EventWhy.{EventWhy}
use Rattle.ft_model.specs.declared.schedule.Schedule.{Schedule}
use Rattle.replay_check.specs.PartialWrite.{IsFrontOf}
use Rattle.replay_run.specs.Traces.{traces}

-- All events of a schedule but these last ones have been played, in a legal and safe trace within the limit of packets, with the service that the schedule
-- names.
pub record IsPlayedTo (schedule : Schedule) (others : List Event) : Type 0 where
  pub events : List Event
  pub trace : List (traces schedule).Turn
  pub split : schedule.events ≡ events ++ others
  pub legal : (traces schedule).IsLegal schedule events trace
  pub safe : (traces schedule).IsSafe schedule trace
  pub within : (traces schedule).sent schedule trace ≤ 200000

-- the report without its closing lines
abbrev pub lines_so_far : (schedule : Schedule) → List (traces schedule).Turn → List ℕ
lines_so_far schedule trace = header schedule ++ (traces schedule).lines schedule trace

-- the report of all events
pub record ReportsAll (schedule : Schedule) (text : List ℕ) : Type 0 where
  pub played : IsPlayedTo schedule []
  pub is : text ≡ (traces schedule).report schedule played.trace

-- the report of the events before the first refused one, which has this number and is refused for this reason
pub record ReportsTill (schedule : Schedule) (number : ℕ) (why : EventWhy) (text : List ℕ) : Type 0 where
  pub event : Event
  pub others : List Event
  pub played : IsPlayedTo schedule (event ∷ others)
  pub number_is : number ≡ length played.events + 1
  pub refused : (traces schedule).refuses schedule played.trace event ≡ Some why
  pub is : text ≡ (traces schedule).report schedule played.trace

-- the report of the events before the one at which the packets exceed their limit. It ends before the closing lines on clients and log
pub record ReportsToLimit (schedule : Schedule) (text : List ℕ) : Type 0 where
  pub event : Event
  pub others : List Event
  pub moment : (traces schedule).Turn
  pub played : IsPlayedTo schedule (event ∷ others)
  pub legal : (traces schedule).IsLegal schedule (played.events ++ event ∷ []) (moment ∷ played.trace)
  pub over : 200000 < (traces schedule).sent schedule (moment ∷ played.trace)
  pub is : text ≡ lines_so_far schedule played.trace

-- The first of these events isn't allowed after the trace, or there is none. It says nothing of the events after the first
abbrev pub NoneIsAllowed : (schedule : Schedule) → List (traces schedule).Turn → List Event → Type 0
NoneIsAllowed schedule trace [] = Unit {0}
NoneIsAllowed schedule trace (event ∷ others) = (why : EventWhy) × ((traces schedule).refuses schedule trace event ≡ Some why)

-- A prefix of the report of some first events, all of them allowed. It ends before the closing lines, unless no event is left or the next one isn't allowed
pub record ReportsFront (schedule : Schedule) (text : List ℕ) : Type 0 where
  pub others : List Event
  pub played : IsPlayedTo schedule others
  pub front : IsFrontOf text (lines_so_far schedule played.trace)
      ⊎ (NoneIsAllowed schedule played.trace others × IsFrontOf text ((traces schedule).report schedule played.trace))

-- a text spells a schedule with this property
abbrev pub Spells : List ℕ → (Schedule → Type 0) → Type 0
Spells text Is = (schedule : Schedule) × (read_fleeting text ≡ Ok schedule) × Is schedule
