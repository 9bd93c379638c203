-- What clients of Counter see in the world of a schedule.
use Rattle.std.specs.Prelude.{List}
use Rattle.server_trait.specs.Service.{no_greeting}
use Rattle.ft_model.specs.Client.{Client}
use Rattle.ft_model.specs.Growth.{IsPrefix}
use Rattle.ft_model.specs.Legal.{machines}
use Rattle.ft_model.specs.World.{Moment}
use Rattle.ft_model.specs.declared.event.Event.{Event}
use Rattle.ft_model.specs.declared.schedule.Schedule.{Schedule}
use Rattle.net_schedule.specs.Refinement.{Kept}
use Rattle.net_schedule.specs.Step.{StandsAfter}
use Rattle.counter_service.specs.declared.counter.Counter.{Counter}
use Rattle.counter_service.specs.Counter.{counter_started, counter_after, answers}

-- a client has accepted a prefix of the answers to its script
abbrev pub SeesAnswers : Client → Type 0
SeesAnswers client = IsPrefix client.accepted (answers 0 client.script)

-- the world is at the end of a legal trace of these events of a schedule, whose server runs Counter
pub record IsPlayed (schedule : Schedule) (events : List Event) (w : Kept Counter) : Type 0 where
  pub trace : List Moment
  pub stands : StandsAfter (machines (λ _. counter_started) counter_after no_greeting) schedule events trace w
