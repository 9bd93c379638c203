-- Playing a schedule, event by event: the state between events, and the early ends.
use Rattle.std.specs.Prelude.{◌≡◌, ℕ, ◌+◌, ◌<◌, Some, List, ◌∷◌, Option, length}
use Rattle.ft_model.specs.declared.event.Event.{Event}
use Rattle.ft_model.specs.declared.event.EventWhy.{EventWhy}
use Rattle.ft_model.specs.declared.schedule.Schedule.{Schedule}
use Rattle.net_schedule.specs.Refinement.{Kept}
use Rattle.sample_servers.specs.declared.any_service.AnyService.{AnyService}
use Rattle.replay_check.specs.PartialWrite.{IsOnItsWay, Wrote, Holds}
use Rattle.replay_run.specs.PlayedRun.{IsPlayedTo, lines_so_far, ReportsTill, ReportsToLimit, ReportsFront}
use Rattle.replay_run.specs.TraceEnd.{IsTraceEnd}
use Rattle.replay_run.specs.Traces.{traces}
use Rattle.replay_check.specs.declared.status.TooMuch.TheVariants.{Packets}
use Rattle.replay_check.specs.declared.status.RunEnd.{RunEnd}
use Rattle.replay_check.specs.declared.status.RunEnd.TheVariants.{NoMemory, WriteFault, BadEvent, TooLong}

-- how many bytes of a report are held back before they are written
abbrev pub piece : ℕ
piece = 65536

-- All events but these are played: the world is in the state after them, and the lines so far are being written to the sink, which had taken `old`.
pub record Plays (schedule : Schedule) (others : List Event) (w : Kept AnyService) (old now : Option (List ℕ)) (held : List ℕ) : Type 0 where
  pub played : IsPlayedTo schedule others
  pub stands : IsTraceEnd schedule.twin schedule.marks schedule played.events played.trace w
  pub text : IsOnItsWay old now held (lines_so_far schedule played.trace)

-- The same, with less than a piece held back. So while the next event is played, at most that and the event's own lines are held back
pub record Reaches (schedule : Schedule) (others : List Event) (w : Kept AnyService) (old now : Option (List ℕ)) (held : List ℕ) : Type 0 where
  pub plays : Plays schedule others w old now held
  pub held_back : length held < piece

-- the text written, by how playing ended
abbrev pub EndsPlaying : Schedule → RunEnd → List ℕ → Type 0
EndsPlaying schedule NoMemory text = ReportsFront schedule text
EndsPlaying schedule WriteFault text = ReportsFront schedule text
EndsPlaying schedule (BadEvent number why) text = ReportsTill schedule number why text
EndsPlaying schedule (TooLong Packets) text = ReportsToLimit schedule text
EndsPlaying schedule _ text = ⊥

-- the text is being written; if the sink failed, a prefix of it was written
abbrev pub HoldsAtEnd : Schedule → (old now : Option (List ℕ)) → List ℕ → RunEnd → Type 0
HoldsAtEnd schedule old now held WriteFault = Wrote old now (ReportsFront schedule)
HoldsAtEnd schedule old now held end = Holds old now held (EndsPlaying schedule end)

-- the next event is refused, and the world and the report are as the events before it leave them
pub record StandsAt (schedule : Schedule) (number : ℕ) (why : EventWhy) (w : Kept AnyService) (old now : Option (List ℕ)) (held : List ℕ) : Type 0 where
  pub event : Event
  pub others : List Event
  pub reaches : Reaches schedule (event ∷ others) w old now held
  pub number_is : number ≡ length reaches.plays.played.events + 1
  pub refused : (traces schedule).refuses schedule reaches.plays.played.trace event ≡ Some why

-- how playing stops before all events are played
abbrev pub StopsPlaying : Schedule → Kept AnyService → (old now : Option (List ℕ)) → List ℕ → RunEnd → Type 0
StopsPlaying schedule w old now held (BadEvent number why) = StandsAt schedule number why w old now held
StopsPlaying schedule w old now held end = HoldsAtEnd schedule old now held end
