-- A run that has played some events of a schedule plays one more, or ends there.
use Rattle.std.proofs.Common.{◌≡◌, ◌∙◌, ℕ, ◌+◌, ◌<◌, Option, List, [], ◌∷◌, ◌++◌, length, sym, ap, subst, inl, append_assoc, append-nil, refl}
use Rattle.sample_servers.specs.declared.any_service.AnyService.{AnyService}
use Rattle.tcp_rules.specs.Profile.{grammar_of}
use Rattle.tcp_rules.specs.Profiles.{profile_of}
use Rattle.ft_model.specs.Report.{header, event_line}
use Rattle.ft_model.specs.declared.event.Event.{Event}
use Rattle.ft_model.specs.declared.schedule.Schedule.{Schedule}
use Rattle.net_schedule.specs.Refinement.{Kept, KeepsAtRefusal}
use Rattle.schedule_network.specs.declared.end.StepEnd.{StepEnd}
use Rattle.schedule_network.specs.declared.end.StepEnd.TheVariants.{NoMemory, BadEvent, PacketLimit}
use Rattle.schedule_network.specs.declared.step_out.StepOut.{StepOut}
use Rattle.replay_check.specs.Ends.{end_of_step}
use Rattle.replay_check.specs.PartialWrite.{IsOnItsWay, Wrote, WroteFront, Holds}
use Rattle.replay_run.specs.PlayedRun.{IsPlayedTo, lines_so_far, ReportsFront, ReportsToLimit}
use Rattle.replay_run.specs.TraceEnd.{IsTraceEnd, IsStanding, PlaysOne, Exceeds, StopsAt}
use Rattle.replay_run.specs.PacketLines.{stored_lines}
use Rattle.replay_run.specs.Traces.{traces}
use Rattle.replay_run.specs.Playback.{Plays, Reaches, StopsPlaying, piece}
use Rattle.replay_check.proofs.Fronts.{more_held}
use Rattle.replay_run.proofs.Either.{AreSafe, legal_of}

-- an event more is played
abbrev pub more_played : AreSafe → (schedule : Schedule) (others : List Event) (event : Event) (answer : StepOut) (w : Kept AnyService) (p : IsPlayedTo schedule (event ∷ others))
    → PlaysOne schedule.twin schedule.marks schedule p.events p.trace event answer w → IsPlayedTo schedule others
more_played safe schedule others event answer w p s =
    let legal : (traces schedule).IsLegal schedule (p.events ++ event ∷ []) (s.moment ∷ p.trace) = legal_of schedule.twin schedule.marks schedule (p.events ++ event ∷ []) (s.moment ∷ p.trace) w s.stands in
    record {
      events = p.events ++ event ∷ [];
      trace = s.moment ∷ p.trace;
      split = p.split ∙ sym (append_assoc p.events (event ∷ []) others);
      legal = legal;
      safe = safe schedule (p.events ++ event ∷ []) (s.moment ∷ p.trace) legal;
      within = s.within;
    }

-- a run plays one more, and its lines are held
pub event_played : AreSafe → (schedule : Schedule) (others : List Event) (event : Event) (n : ℕ) (w w' : Kept AnyService) (old now : Option (List ℕ)) (held after none lines : List ℕ) (answer : StepOut)
    → (r : Plays schedule (event ∷ others) w old now held) → n ≡ length r.played.events + 1 → PlaysOne schedule.twin schedule.marks schedule r.played.events r.played.trace event answer w'
    → lines ≡ none ++ (event_line n event ++ stored_lines (grammar_of (profile_of w'.profile)) w'.packets answer.first answer.count) → none ≡ [] → after ≡ held ++ lines → Plays schedule others w' old now after
event_played safe schedule others event n w w' old now held after none lines answer r at s written is_none grown =
    let trace : List (traces schedule).Turn = r.played.trace in
    let stored : List ℕ = stored_lines (grammar_of (profile_of w'.profile)) w'.packets answer.first answer.count in
    let are : lines ≡ event_line (length r.played.events + 1) event ++ stored = written ∙ ap (λ l. l ++ (event_line n event ++ stored)) is_none ∙ ap (λ k. event_line k event ++ stored) at in
    let whole : lines_so_far schedule trace ++ lines ≡ lines_so_far schedule (s.moment ∷ trace) =
    append_assoc (header schedule) ((traces schedule).lines schedule trace) lines
    ∙ ap (λ l. header schedule ++ l) (ap (λ l. (traces schedule).lines schedule trace ++ l) are ∙ sym s.lines) in
    let way : IsOnItsWay old now (held ++ lines) (lines_so_far schedule trace ++ lines) = more_held old now held (lines_so_far schedule trace) lines r.text in
    record {
      played = more_played safe schedule others event answer w' r.played s;
      stands = s.stands;
      text = subst (λ l. IsOnItsWay old now l (lines_so_far schedule (s.moment ∷ trace))) (sym grown) (subst (IsOnItsWay old now (held ++ lines)) whole way);
    }

-- the world comes after the event, and before it
pub stands_on : (w w' : Kept AnyService) (event : Event) (answer : StepOut) → (i : IsStanding w) → PlaysOne i.schedule.twin i.schedule.marks i.schedule i.events i.trace event answer w' → IsStanding w'
stands_on w w' event answer i s = record { schedule = i.schedule; events = i.events ++ event ∷ []; trace = s.moment ∷ i.trace; stands = s.stands }

pub stands_where : (schedule : Schedule) (others : List Event) (w : Kept AnyService) (old now : Option (List ℕ)) (held : List ℕ) → Plays schedule others w old now held → IsStanding w
stands_where schedule others w old now held r = record { schedule = schedule; events = r.played.events; trace = r.played.trace; stands = r.stands }

-- its text goes on to the sink, until less than a piece is held back
pub goes_out : (schedule : Schedule) (others : List Event) (w : Kept AnyService) (old now new : Option (List ℕ)) (held after : List ℕ) → Plays schedule others w old now held
    → ((old : Option (List ℕ)) (text : List ℕ) → IsOnItsWay old now held text → IsOnItsWay old new after text) → length after < piece → Reaches schedule others w old new after
goes_out schedule others w old now new held after r out few =
    record { plays = record { played = r.played; stands = r.stands; text = out old (lines_so_far schedule r.played.trace) r.text }; held_back = few }

-- .. or a front of it
pub goes_out_in_part : (schedule : Schedule) (others : List Event) (w : Kept AnyService) (old now new : Option (List ℕ)) (held : List ℕ) → Plays schedule others w old now held
    → ((old : Option (List ℕ)) (text : List ℕ) → IsOnItsWay old now held text → WroteFront old new text) → Wrote old new (ReportsFront schedule)
goes_out_in_part schedule others w old now new held r out =
    let f : WroteFront old new (lines_so_far schedule r.played.trace) = out old (lines_so_far schedule r.played.trace) r.text in
    (f.0, f.1, record { others = others; played = r.played; front = inl f.2 })

-- memory ran out
pub holds_front : (schedule : Schedule) (others : List Event) (w : Kept AnyService) (old now : Option (List ℕ)) (held : List ℕ) → Plays schedule others w old now held → Holds old now held (ReportsFront schedule)
holds_front schedule others w old now held r =
    (lines_so_far schedule r.played.trace, r.text, record { others = others; played = r.played; front = inl ([], append-nil (lines_so_far schedule r.played.trace)) })

holds_to_limit : (schedule : Schedule) (others : List Event) (event : Event) (w : Kept AnyService) (old now : Option (List ℕ)) (held : List ℕ) (r : Plays schedule (event ∷ others) w old now held)
    → Exceeds schedule.twin schedule.marks schedule r.played.events r.played.trace event → Holds old now held (ReportsToLimit schedule)
holds_to_limit schedule others event w old now held r e =
    (lines_so_far schedule r.played.trace, r.text, record { event = event; others = others; moment = e.moment; played = r.played; legal = e.legal; over = e.over; is = refl })

-- a step isn't done
pub step_ends : (schedule : Schedule) (others : List Event) (event : Event) (n : ℕ) (w w' : Kept AnyService) (old now : Option (List ℕ)) (held : List ℕ) (end : StepEnd)
    → (r : Reaches schedule (event ∷ others) w old now held) → n ≡ length r.plays.played.events + 1 → StopsAt schedule.twin schedule.marks schedule r.plays.played.events r.plays.played.trace event end
    → KeepsAtRefusal w w' end → StopsPlaying schedule w' old now held (end_of_step end n)
step_ends schedule others event n w w' old now held NoMemory r at e keeps = holds_front schedule (event ∷ others) w old now held r.plays
step_ends schedule others event n w w' old now held (BadEvent why) r at e keeps =
    let p : Plays schedule (event ∷ others) w old now held = r.plays in
    let back : Plays schedule (event ∷ others) w' old now held =
    record { played = p.played; stands = subst (IsTraceEnd schedule.twin schedule.marks schedule p.played.events p.played.trace) (sym keeps) p.stands; text = p.text } in
    record { event = event; others = others; reaches = record { plays = back; held_back = r.held_back }; number_is = at; refused = e }
step_ends schedule others event n w w' old now held PacketLimit r at e keeps = holds_to_limit schedule others event w old now held r.plays e
