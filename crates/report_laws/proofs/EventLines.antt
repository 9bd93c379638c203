-- An event's line is `event`, its number, and the line by which a schedule asks for the event.
use Rattle.std.proofs.Common.{◌≡◌, ℕ, List, ◌∷◌, ◌++◌, codes, decimal, sym, ap, ◌∙◌}
use Rattle.ft_model.specs.Report.{event_line}
use Rattle.ft_model.specs.declared.event.Event.{Event}
use Rattle.ft_model.specs.declared.schedule.Schedule.{Schedule}
use Rattle.schedule_text.proofs.RoundTrip.{asked_in_line}
use Rattle.report_laws.specs.Transitions.{IsEventLine}

pub event_is_spelled : (event : Event) (n : ℕ) (text : List ℕ) (schedule : Schedule) → IsEventLine schedule n event text → text ≡ event_line n event
event_is_spelled event n text schedule l =
    l.spelled ∙ (ap (λ asked. codes "event " ++ (decimal n ++ 32 ∷ asked)) l.canonical.spelled ∙ sym (asked_in_line n event))
