-- A step of the code's world, for every legal trace whose end the world is at.
use Rattle.std.specs.Prelude.{◌≡◌, ℕ, true, List}
use Rattle.server_trait.specs.declared.Service.{Ghosts}
use Rattle.ft_model.specs.World.{Moment}
use Rattle.ft_model.specs.declared.event.Event.{Event}
use Rattle.ft_model.specs.declared.schedule.Schedule.{Schedule}
use Rattle.twin_laws.specs.TwinWorld.{TwinMoment}
use Rattle.mark_laws.specs.MarkedWorld.{MarkedMoment}
use Rattle.net_schedule.specs.WorldView.{kept, services_of}
use Rattle.net_schedule.specs.Step.{StandsAfter, Steps, EndsStep}
use Rattle.net_schedule.specs.TwinStep.{TwinStandsAfter, TwinSteps, TwinEndsStep}
use Rattle.node_serving.specs.Markers.{Saving}
use Rattle.net_schedule.specs.MarkedRefinement.{marker_for}
use Rattle.net_schedule.specs.MarkedStep.{MarkedStandsAfter, MarkedSteps, MarkedEndsStep}
use Rattle.schedule_network.specs.declared.end.StepEnd.{StepEnd}
use Rattle.schedule_network.specs.declared.step_out.StepOut.{StepOut}
use Rattle.net_schedule.specs.declared.world.World.{World}

-- With one logger: the step extends the trace by the event, ..
abbrev pub StepsAlong : {State : Type 0} {ghosts : Ghosts State} → Event → StepOut → (before after : World State ghosts) → Type 0
StepsAlong event answer before after =
    (schedule : Schedule) (events : List Event) (trace : List Moment) → StandsAfter (services_of before) schedule events trace (kept before)
    → Steps (services_of before) schedule events trace event answer (kept after)

-- .. or it fails for the reason that the definitions give
abbrev pub EndsAlong : {State : Type 0} {ghosts : Ghosts State} → Event → StepEnd → (before after : World State ghosts) → Type 0
EndsAlong event end before after =
    (schedule : Schedule) (events : List Event) (trace : List Moment) → StandsAfter (services_of before) schedule events trace (kept before)
    → EndsStep (services_of before) schedule events trace event (kept after) end

-- With two loggers: the step extends the trace by the event, ..
abbrev pub TwinStepsAlong : {State : Type 0} {ghosts : Ghosts State} → Event → StepOut → (before after : World State ghosts) → Type 0
TwinStepsAlong event answer before after =
    (schedule : Schedule) (events : List Event) (trace : List TwinMoment) → TwinStandsAfter (services_of before) schedule events trace (kept before)
    → TwinSteps (services_of before) schedule events trace event answer (kept after)

-- .. or it fails for the reason that the definitions give
abbrev pub TwinEndsAlong : {State : Type 0} {ghosts : Ghosts State} → Event → StepEnd → (before after : World State ghosts) → Type 0
TwinEndsAlong event end before after =
    (schedule : Schedule) (events : List Event) (trace : List TwinMoment) → TwinStandsAfter (services_of before) schedule events trace (kept before)
    → TwinEndsStep (services_of before) schedule events trace event (kept after) end

-- With marks, one after so many reads, by a service that can be saved: the step extends the trace by the event, ..
abbrev pub StepsMarked : {State : Type 0} {ghosts : Ghosts State} → Saving State → (every : ℕ) → Event → StepOut → (before after : World State ghosts) → Type 0
StepsMarked saved every event answer before after =
    (schedule : Schedule) (events : List Event) (trace : List MarkedMoment)
    → MarkedStandsAfter (marker_for saved (services_of before) every) schedule events trace (kept before)
    → MarkedSteps (marker_for saved (services_of before) every) schedule events trace event answer (kept after)

abbrev pub MarkedStepsAlong : {State : Type 0} {ghosts : Ghosts State} → Saving State → Event → StepOut → (before after : World State ghosts) → Type 0
MarkedStepsAlong saved event answer before after = saved.savable ≡ true → (every : ℕ) → StepsMarked saved every event answer before after

-- .. or it fails for the reason that the definitions give
abbrev pub EndsMarked : {State : Type 0} {ghosts : Ghosts State} → Saving State → (every : ℕ) → Event → StepEnd → (before after : World State ghosts) → Type 0
EndsMarked saved every event end before after =
    (schedule : Schedule) (events : List Event) (trace : List MarkedMoment)
    → MarkedStandsAfter (marker_for saved (services_of before) every) schedule events trace (kept before)
    → MarkedEndsStep (marker_for saved (services_of before) every) schedule events trace event (kept after) end

abbrev pub MarkedEndsAlong : {State : Type 0} {ghosts : Ghosts State} → Saving State → Event → StepEnd → (before after : World State ghosts) → Type 0
MarkedEndsAlong saved event end before after = saved.savable ≡ true → (every : ℕ) → EndsMarked saved every event end before after
