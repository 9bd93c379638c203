-- The beginning of a schedule's playing, and the ends of it and of a run.
use Rattle.std.proofs.Common.{◌≡◌, ◌∙◌, ◌⊎◌, inl, inr, ℕ, ◌+◌, ◌-◌, ◌<◌, ◌≤◌, Option, None, Some, IfSome, Result, Ok, Err, OnOk, IfErr, IsErrAnd, List, [], ◌∷◌, ◌++◌, length, drop, get_or, refl, sym, ap, subst, arith, false, append_assoc, append-nil, length-append, if◌then◌else◌}
use Rattle.std.specs.Prelude.{nat_le}
use Rattle.std.specs.List.{flat_map}
use Rattle.std.specs.Io.KnownBytes.{Appends, IsAtEnd}
use Rattle.std.proofs.lemmas.List.{drop_more, length-drop}
use Rattle.std.proofs.Math.ListN.{drop_of_length-le}
use Rattle.ft_io.specs.declared.reading.ReadEnd.{ReadEnd}
use Rattle.ft_io.specs.declared.reading.ReadEnd.TheVariants as reads
use Rattle.sample_servers.specs.declared.any_service.AnyService.{AnyService}
use Rattle.ft_model.specs.Grammar.{read_with, read_lines}
use Rattle.ft_model.specs.Grammar.{Refusal as reading}
use Rattle.ft_model.specs.Words.{lines_of}
use Rattle.ft_model.specs.Legal.{start_of}
use Rattle.ft_model.specs.Report.{header, client_lines, log_line, end_line}
use Rattle.ft_model.specs.World.{IsStart}
use Rattle.ft_model.specs.declared.event.Event.{Event}
use Rattle.ft_model.specs.declared.event.EventWhy.{EventWhy}
use Rattle.ft_model.specs.declared.line.Draft.TheVariants.{Empty}
use Rattle.ft_model.specs.declared.schedule.Schedule.{Schedule}
use Rattle.ft_model.specs.declared.schedule.Limit.TheVariants as limits
use Rattle.schedule_text.specs.Fleeting.{no_lasting, read_fleeting}
use Rattle.net_schedule.specs.Refinement.{Kept}
use Rattle.ft_io.specs.Faults.{Rose}
use Rattle.replay_check.specs.Ends.{end_of_read, CountsFaults}
use Rattle.replay_check.specs.PartialWrite.{IsOnItsWay, IsFrontOf, Wrote, WroteFront, Holds}
use Rattle.replay_run.specs.TraceEnd.{IsTraceEnd}
use Rattle.replay_run.specs.Traces.{traces}
use Rattle.replay_run.specs.PlayedRun.{IsPlayedTo, lines_so_far, NoneIsAllowed, Spells, ReportsAll, ReportsTill, ReportsToLimit, ReportsFront}
use Rattle.replay_run.specs.Playback.{Plays, Reaches, StandsAt, StopsPlaying, HoldsAtEnd, EndsPlaying}
use Rattle.replay_run.specs.Runs.{StopsReading, Reports, Refuses, RunStops, KeepsFront}
use Rattle.replay_check.specs.Stream.{Stream, HasFailed, HasNotFailed}
use Rattle.replay_check.specs.declared.status.TooMuch.TheVariants.{Text, Events, Packets}
use Rattle.replay_check.specs.declared.status.RunEnd.{RunEnd}
use Rattle.replay_check.specs.declared.status.RunEnd.TheVariants.{Usage, NoMemory, ReadFault, WriteFault, BadLine, BadEvent, TooLong, Rejected}
use Rattle.replay_check.proofs.Fronts.{none_on_its_way, more_held}
use Rattle.replay_run.proofs.Either.{AreSafe, as_many, few_clients, legal_of, no_lines, none_sent, none_legal, closes}
use Rattle.replay_run.proofs.Playing.{holds_front, stands_where}

-- before the first event
abbrev none_played : AreSafe → (schedule : Schedule) → (traces schedule).IsLegal schedule [] [] → IsPlayedTo schedule schedule.events
none_played safe schedule legal = record { events = []; trace = []; split = refl; legal = legal; safe = safe schedule [] [] legal; within = none_sent schedule.twin schedule.marks schedule }

header_alone : (schedule : Schedule) → lines_so_far schedule [] ≡ header schedule
header_alone schedule = ap (λ l. header schedule ++ l) (no_lines schedule.twin schedule.marks schedule) ∙ append-nil (header schedule)

pub begins : AreSafe → (schedule : Schedule) (w : Kept AnyService) (old : Option (List ℕ)) (held : List ℕ) → IsTraceEnd schedule.twin schedule.marks schedule [] [] w → held ≡ header schedule
    → Plays schedule schedule.events w old old held
begins safe schedule w old held s is = record {
  played = none_played safe schedule (legal_of schedule.twin schedule.marks schedule [] [] w s);
  stands = s;
  text = subst (IsOnItsWay old old held) (is ∙ sym (header_alone schedule)) (none_on_its_way old held);
}

-- .. where memory runs out
pub ends_before : AreSafe → (schedule : Schedule) (old : Option (List ℕ)) (held : List ℕ) → IsStart (start_of schedule) → IsFrontOf held (header schedule) → Holds old old held (ReportsFront schedule)
ends_before safe schedule old held start front = (
  held,
  none_on_its_way old held,
  record {
    others = schedule.events;
    played = none_played safe schedule (none_legal schedule.twin schedule.marks schedule start);
    front = inl (front.0, front.1 ∙ sym (header_alone schedule));
  },
)

-- the next event among those that aren't played yet
pub next_is : (schedule : Schedule) (events : List Event) (event : Event) (i : ℕ) (w : Kept AnyService) (old now : Option (List ℕ)) (held : List ℕ) → events ≡ schedule.events → i < length events
    → event ≡ get_or events i event → Reaches schedule (drop i events) w old now held
    → (r : Reaches schedule (event ∷ drop (i + 1) events) w old now held) × (i + 1 ≡ length r.plays.played.events + 1)
next_is schedule events event i w old now held all within same r =
    let left : drop i events ≡ event ∷ drop (i + 1) events = drop_more events i event within ∙ ap (λ e. e ∷ drop (i + 1) events) (sym same) in
    let next : Reaches schedule (event ∷ drop (i + 1) events) w old now held = subst (λ es. Reaches schedule es w old now held) left r in
    let long : length events ≡ length next.plays.played.events + length (event ∷ drop (i + 1) events) = ap length (all ∙ next.plays.played.split) ∙ length-append next.plays.played.events (event ∷ drop (i + 1) events) in
    let rest : length (drop (i + 1) events) ≡ length events - (i + 1) = length-drop (i + 1) events in
    (next, omega (arith, long, rest))

-- it is played
pub plays_next : (schedule : Schedule) (events : List Event) (event : Event) (i : ℕ) (w w' : Kept AnyService) (old now new : Option (List ℕ)) (held after : List ℕ) → events ≡ schedule.events → i < length events
    → event ≡ get_or events i event
    → ((s : Schedule) (others : List Event) (o : Option (List ℕ)) (before : Reaches s (event ∷ others) w o now held) → i + 1 ≡ length before.plays.played.events + 1 → Reaches s others w' o new after)
    → Reaches schedule (drop i events) w old now held → Reaches schedule (drop (i + 1) events) w' old new after
plays_next schedule events event i w w' old now new held after all within same plays r =
    let next : (r : Reaches schedule (event ∷ drop (i + 1) events) w old now held) × (i + 1 ≡ length r.plays.played.events + 1) = next_is schedule events event i w old now held all within same r in
    plays schedule (drop (i + 1) events) old next.0 next.1

-- it isn't done
pub stops_next : (schedule : Schedule) (events : List Event) (event : Event) (i : ℕ) (w w' : Kept AnyService) (old now new : Option (List ℕ)) (held after : List ℕ) (end : RunEnd) → events ≡ schedule.events
    → i < length events → event ≡ get_or events i event
    → ((s : Schedule) (others : List Event) (o : Option (List ℕ)) (before : Reaches s (event ∷ others) w o now held) → i + 1 ≡ length before.plays.played.events + 1 → StopsPlaying s w' o new after end)
    → Reaches schedule (drop i events) w old now held → StopsPlaying schedule w' old new after end
stops_next schedule events event i w w' old now new held after end all within same stops r =
    let next : (r : Reaches schedule (event ∷ drop (i + 1) events) w old now held) × (i + 1 ≡ length r.plays.played.events + 1) = next_is schedule events event i w old now held all within same r in
    stops schedule (drop (i + 1) events) old next.0 next.1

-- all are played
pub none_left : (schedule : Schedule) (events : List Event) (i : ℕ) (w : Kept AnyService) (old now : Option (List ℕ)) (held : List ℕ) → length events ≤ i → Reaches schedule (drop i events) w old now held
    → Reaches schedule [] w old now held
none_left schedule events i w old now held past r = subst (λ es. Reaches schedule es w old now held) (drop_of_length-le events past) r

-- as many moments as events
moments : (schedule : Schedule) (others : List Event) (p : IsPlayedTo schedule others) → length p.events ≡ length p.trace
moments schedule others p = as_many schedule.twin schedule.marks schedule p.events p.trace p.legal

-- how the world stands is put after the lines so far
closed : (schedule : Schedule) (others : List Event) (n : ℕ) (w : Kept AnyService) (old now : Option (List ℕ)) (held after : List ℕ) (r : Plays schedule others w old now held) → n ≡ length r.played.trace
    → after ≡ held ++ (client_lines 1 w.clients ++ (flat_map log_line w.log.entries ++ end_line n)) → IsOnItsWay old now after ((traces schedule).report schedule r.played.trace)
closed schedule others n w old now held after r at grown =
    let trace : List (traces schedule).Turn = r.played.trace in
    let ends : List ℕ = client_lines 1 w.clients ++ (flat_map log_line w.log.entries ++ end_line n) in
    let whole : lines_so_far schedule trace ++ ends ≡ (traces schedule).report schedule trace =
    append_assoc (header schedule) ((traces schedule).lines schedule trace) ends
    ∙ ap (λ k. header schedule ++ ((traces schedule).lines schedule trace ++ (client_lines 1 w.clients ++ (flat_map log_line w.log.entries ++ end_line k)))) at
    ∙ sym (closes schedule.twin schedule.marks schedule r.played.events trace w r.stands) in
    subst (λ h. IsOnItsWay old now h ((traces schedule).report schedule trace)) (sym grown)
    (subst (IsOnItsWay old now (held ++ ends)) whole (more_held old now held (lines_so_far schedule trace) ends r.text))

pub closes_all : (schedule : Schedule) (n : ℕ) (w : Kept AnyService) (old now : Option (List ℕ)) (held after : List ℕ) → Plays schedule [] w old now held → n ≡ length schedule.events
    → after ≡ held ++ (client_lines 1 w.clients ++ (flat_map log_line w.log.entries ++ end_line n)) → Holds old now after (ReportsAll schedule)
closes_all schedule n w old now held after r at grown =
    let number : n ≡ length r.played.trace = at ∙ ap length (r.played.split ∙ append-nil r.played.events) ∙ moments schedule [] r.played in
    ((traces schedule).report schedule r.played.trace, closed schedule [] n w old now held after r number grown, record { played = r.played; is = refl })

pub closes_till : (schedule : Schedule) (number n : ℕ) (why : EventWhy) (w : Kept AnyService) (old now : Option (List ℕ)) (held after : List ℕ) → StandsAt schedule number why w old now held → n ≡ number - 1
    → after ≡ held ++ (client_lines 1 w.clients ++ (flat_map log_line w.log.entries ++ end_line n)) → Holds old now after (ReportsTill schedule number why)
closes_till schedule number n why w old now held after s at grown =
    let r : Plays schedule (s.event ∷ s.others) w old now held = s.reaches.plays in
    let count : length r.played.events ≡ length r.played.trace = moments schedule (s.event ∷ s.others) r.played in
    let from : number ≡ length r.played.events + 1 = s.number_is in
    let last : n ≡ length r.played.trace = omega (arith, at, count, from) in (
      (traces schedule).report schedule r.played.trace,
      closed schedule (s.event ∷ s.others) n w old now held after r last grown,
      record { event = s.event; others = s.others; played = r.played; number_is = s.number_is; refused = s.refused; is = refl },
    )

-- .. and where memory runs out at that
pub front_till : (schedule : Schedule) (number : ℕ) (why : EventWhy) (w : Kept AnyService) (old now : Option (List ℕ)) (held : List ℕ) → StandsAt schedule number why w old now held
    → Holds old now held (ReportsFront schedule)
front_till schedule number why w old now held s = holds_front schedule (s.event ∷ s.others) w old now held s.reaches.plays

pub stopped_few : (schedule : Schedule) (number : ℕ) (why : EventWhy) (w : Kept AnyService) (old now : Option (List ℕ)) (held : List ℕ) → StandsAt schedule number why w old now held
    → length w.keys ≤ 16 → length w.clients ≤ 16
stopped_few schedule number why w old now held s few = few_clients w (stands_where schedule (s.event ∷ s.others) w old now held s.reaches.plays) few

-- any other end
pub others_stop : (schedule : Schedule) (w : Kept AnyService) (old now : Option (List ℕ)) (held : List ℕ) (end : RunEnd) → ((number : ℕ) (why : EventWhy) → end ≡ BadEvent number why → ⊥)
    → StopsPlaying schedule w old now held end → HoldsAtEnd schedule old now held end
others_stop schedule w old now held (BadEvent number why) never s = absurd (never number why refl)
others_stop schedule w old now held Usage never s = s
others_stop schedule w old now held NoMemory never s = s
others_stop schedule w old now held ReadFault never s = s
others_stop schedule w old now held WriteFault never s = s
others_stop schedule w old now held (BadLine line why) never s = s
others_stop schedule w old now held (TooLong what) never s = s
others_stop schedule w old now held (Rejected line law) never s = s

-- a front of what an end leaves
front_of_all : (schedule : Schedule) (front text : List ℕ) → ReportsAll schedule text → IsFrontOf front text → ReportsFront schedule front
front_of_all schedule front text r f = record { others = []; played = r.played; front = inr (tt, (f.0, f.1 ∙ r.is)) }

front_of_till : (schedule : Schedule) (number : ℕ) (why : EventWhy) (front text : List ℕ) → ReportsTill schedule number why text → IsFrontOf front text → ReportsFront schedule front
front_of_till schedule number why front text r f = record { others = r.event ∷ r.others; played = r.played; front = inr ((why, r.refused), (f.0, f.1 ∙ r.is)) }

front_of_limit : (schedule : Schedule) (front text : List ℕ) → ReportsToLimit schedule text → IsFrontOf front text → ReportsFront schedule front
front_of_limit schedule front text r f = record { others = r.event ∷ r.others; played = r.played; front = inl (f.0, f.1 ∙ r.is) }

front_of_front : (schedule : Schedule) (front text : List ℕ) → ReportsFront schedule text → IsFrontOf front text → ReportsFront schedule front
front_of_front schedule front text r f = record { others = r.others; played = r.played; front = by_part r.front }
  where
    further : (whole : List ℕ) → IsFrontOf text whole → IsFrontOf front whole
    further whole g = (f.0 ++ g.0, sym (append_assoc front f.0 g.0) ∙ ap (λ l. l ++ g.0) f.1 ∙ g.1)

    by_part : IsFrontOf text (lines_so_far schedule r.played.trace) ⊎ (NoneIsAllowed schedule r.played.trace r.others × IsFrontOf text ((traces schedule).report schedule r.played.trace))
        → IsFrontOf front (lines_so_far schedule r.played.trace) ⊎ (NoneIsAllowed schedule r.played.trace r.others × IsFrontOf front ((traces schedule).report schedule r.played.trace))
    by_part (inl g) = inl (further (lines_so_far schedule r.played.trace) g)
    by_part (inr g) = inr (g.0, further ((traces schedule).report schedule r.played.trace) g.1)

pub front_of_end : (schedule : Schedule) (end : RunEnd) (front text : List ℕ) → EndsPlaying schedule end text → IsFrontOf front text → ReportsFront schedule front
front_of_end schedule NoMemory front text e f = front_of_front schedule front text e f
front_of_end schedule WriteFault front text e f = front_of_front schedule front text e f
front_of_end schedule (BadEvent number why) front text e f = front_of_till schedule number why front text e f
front_of_end schedule (TooLong Packets) front text e f = front_of_limit schedule front text e f
front_of_end schedule (TooLong Text) front text e f = absurd e
front_of_end schedule (TooLong Events) front text e f = absurd e
front_of_end schedule (BadLine line why) front text e f = absurd e
front_of_end schedule (Rejected line law) front text e f = absurd e
front_of_end schedule Usage front text e f = absurd e
front_of_end schedule ReadFault front text e f = absurd e

-- what is held at the end, but where the sink failed
held_at : (schedule : Schedule) (old now : Option (List ℕ)) (held : List ℕ) (end : RunEnd) → (end ≡ WriteFault → ⊥) → HoldsAtEnd schedule old now held end → Holds old now held (EndsPlaying schedule end)
held_at schedule old now held WriteFault never h = absurd (never refl)
held_at schedule old now held Usage never h = h
held_at schedule old now held NoMemory never h = h
held_at schedule old now held ReadFault never h = h
held_at schedule old now held (BadLine line why) never h = h
held_at schedule old now held (BadEvent number why) never h = h
held_at schedule old now held (TooLong what) never h = h
held_at schedule old now held (Rejected line law) never h = h

-- the count of the sink's failed calls, where the rest goes out and where it doesn't
pub steady : (before now new : ℕ) (end : RunEnd) → (end ≡ WriteFault → ⊥) → CountsFaults before now (Err end) → new ≡ now → CountsFaults before new (Err end)
steady before now new WriteFault never c e = absurd (never refl)
steady before now new Usage never c e = e ∙ c
steady before now new NoMemory never c e = e ∙ c
steady before now new ReadFault never c e = e ∙ c
steady before now new (BadLine line why) never c e = e ∙ c
steady before now new (BadEvent number why) never c e = e ∙ c
steady before now new (TooLong what) never c e = e ∙ c
steady before now new (Rejected line law) never c e = e ∙ c

still : (before now : ℕ) (end : RunEnd) → (end ≡ WriteFault → ⊥) → CountsFaults before now (Err end) → now ≡ before
still before now WriteFault never c = absurd (never refl)
still before now Usage never c = c
still before now NoMemory never c = c
still before now ReadFault never c = c
still before now (BadLine line why) never c = c
still before now (BadEvent number why) never c = c
still before now (TooLong what) never c = c
still before now (Rejected line law) never c = c

pub rises : (before now new : ℕ) (end : RunEnd) → (end ≡ WriteFault → ⊥) → CountsFaults before now (Err end) → Rose now new → Rose before new
rises before now new end never c r = subst (λ n. Rose n new) (still before now end never c) r

-- the rest goes out, or a front of it
pub rest_goes : (schedule : Schedule) (old now new : Option (List ℕ)) (held : List ℕ) (end : RunEnd) → (end ≡ WriteFault → ⊥) → HoldsAtEnd schedule old now held end
    → ((text : List ℕ) → IsOnItsWay old now held text → Appends old new text) → Wrote old new (EndsPlaying schedule end)
rest_goes schedule old now new held end never h out =
    let k : Holds old now held (EndsPlaying schedule end) = held_at schedule old now held end never h in
    (k.0, out k.0 k.1, k.2)

pub rest_fails : (schedule : Schedule) (old now new : Option (List ℕ)) (held : List ℕ) (end : RunEnd) → (end ≡ WriteFault → ⊥) → HoldsAtEnd schedule old now held end
    → ((text : List ℕ) → IsOnItsWay old now held text → WroteFront old new text) → Wrote old new (ReportsFront schedule)
rest_fails schedule old now new held end never h out =
    let k : Holds old now held (EndsPlaying schedule end) = held_at schedule old now held end never h in
    let f : WroteFront old new k.0 = out k.0 k.1 in
    (f.0, f.1, front_of_end schedule end f.0 k.0 k.2 f.2)

pub all_goes : (schedule : Schedule) (old now new : Option (List ℕ)) (held : List ℕ) → Holds old now held (ReportsAll schedule)
    → ((text : List ℕ) → IsOnItsWay old now held text → Appends old new text) → Wrote old new (ReportsAll schedule)
all_goes schedule old now new held k out = (k.0, out k.0 k.1, k.2)

pub all_fails : (schedule : Schedule) (old now new : Option (List ℕ)) (held : List ℕ) → Holds old now held (ReportsAll schedule)
    → ((text : List ℕ) → IsOnItsWay old now held text → WroteFront old new text) → Wrote old new (ReportsFront schedule)
all_fails schedule old now new held k out =
    let f : WroteFront old new k.0 = out k.0 k.1 in
    (f.0, f.1, front_of_all schedule f.0 k.0 k.2 f.2)

-- a text that was read, and what holds of its schedule
spelled_as : (Is : Schedule → Type 0) (left : Option (List ℕ)) (text : List ℕ) (schedule : Schedule) → IfSome left (λ whole. text ≡ whole) → read_fleeting text ≡ Ok schedule → Is schedule
    → IfSome left (λ whole. Spells whole Is)
spelled_as Is None text schedule same spelled is = tt
spelled_as Is (Some whole) text schedule same spelled is = (schedule, ap read_fleeting (sym same) ∙ spelled, is)

-- a text past the limit isn't read
too_long : (text : List ℕ) → 8388608 < length text → read_fleeting text ≡ Err (reading.TooLong limits.Text)
unfolding read_with
too_long text h =
    let past : nat_le (length text) 8388608 ≡ false = grind arith in
    ap (λ b. if b then read_lines no_lasting 1 Empty (lines_of text) else Err (reading.TooLong limits.Text)) past

long_is_refused : (left : Option (List ℕ)) → IfSome left (λ text. 8388608 < length text) → IfSome left (λ text. read_fleeting text ≡ Err (reading.TooLong limits.Text))
long_is_refused None h = tt
long_is_refused (Some text) h = too_long text h

-- the reading of the source ends the run
pub source_stops : (input out : Stream) (end : ReadEnd) → out.Untouched → HasNotFailed out → (end ≡ reads.TooLong → IfSome input.before (λ text. 8388608 < length text))
    → (end ≡ reads.Fault → HasFailed input) → (end ≡ reads.TooLong → HasNotFailed input) → (end ≡ reads.NoMemory → HasNotFailed input) → RunStops input out (end_of_read end)
source_stops input out reads.NoMemory same kept long fault past memory = (inl same, memory refl, kept)
source_stops input out reads.Fault same kept long fault past memory = (fault refl, same)
source_stops input out reads.TooLong same kept long fault past memory =
    record { refused = long_is_refused input.before (long refl); unwritten = same; input_faultless = past refl; out_faultless = kept }

refused_as : (why : reading) (left : Option (List ℕ)) (text : List ℕ) → IfSome left (λ whole. text ≡ whole) → read_fleeting text ≡ Err why → IfSome left (λ whole. read_fleeting whole ≡ Err why)
refused_as why None text same refused = tt
refused_as why (Some whole) text same refused = ap read_fleeting (sym same) ∙ refused

refuses : (input out : Stream) (text : List ℕ) (why : reading) → out.Untouched → HasNotFailed out → HasNotFailed input → IfSome input.before (λ whole. text ≡ whole) → read_fleeting text ≡ Err why
    → Refuses input out why
refuses input out text why untouched kept well same refused =
    record { refused = refused_as why input.before text same refused; unwritten = untouched; input_faultless = well; out_faultless = kept }

-- the reading of a text ends the run
pub reading_stops : (input out : Stream) (text : List ℕ) (end : RunEnd) → out.Untouched → HasNotFailed out → HasNotFailed input → IfSome input.before (λ whole. text ≡ whole) → StopsReading text end
    → RunStops input out end
reading_stops input out text NoMemory untouched kept well same s = (inl untouched, well, kept)
reading_stops input out text (BadLine line why) untouched kept well same s = refuses input out text (reading.BadLine line why) untouched kept well same s
reading_stops input out text (TooLong Text) untouched kept well same s = refuses input out text (reading.TooLong limits.Text) untouched kept well same s
reading_stops input out text (TooLong Events) untouched kept well same s = refuses input out text (reading.TooLong limits.Events) untouched kept well same s
reading_stops input out text (TooLong Packets) untouched kept well same s = absurd s
reading_stops input out text (BadEvent number why) untouched kept well same s = absurd s
reading_stops input out text Usage untouched kept well same s = absurd s
reading_stops input out text ReadFault untouched kept well same s = absurd s
reading_stops input out text (Rejected line law) untouched kept well same s = absurd s
reading_stops input out text WriteFault untouched kept well same s = absurd s

-- the playing reports
pub playing_reports : (input out : Stream) (text : List ℕ) (schedule : Schedule) (Is : Schedule → List ℕ → Type 0) → IsAtEnd input.after → HasNotFailed input → IfSome input.before (λ whole. text ≡ whole)
    → read_fleeting text ≡ Ok schedule → HasNotFailed out → Wrote out.before out.after (Is schedule) → Reports input out Is
playing_reports input out text schedule Is at well same spelled kept s =
    record { written = spelled_as (λ x. Wrote out.before out.after (Is x)) input.before text schedule same spelled s; end = at; input_faultless = well; out_faultless = kept }

-- .. or a prefix of its report was written
playing_keeps : (input out : Stream) (text : List ℕ) (schedule : Schedule) → IsAtEnd input.after → IfSome input.before (λ whole. text ≡ whole) → read_fleeting text ≡ Ok schedule
    → Wrote out.before out.after (ReportsFront schedule) → KeepsFront input out
playing_keeps input out text schedule at same spelled s = inr (at, spelled_as (λ x. Wrote out.before out.after (ReportsFront x)) input.before text schedule same spelled s)

-- the playing ends the run
pub playing_stops : (input out : Stream) (text : List ℕ) (schedule : Schedule) (end : RunEnd) → IsAtEnd input.after → HasNotFailed input → IfSome input.before (λ whole. text ≡ whole)
    → read_fleeting text ≡ Ok schedule → CountsFaults out.faults_before out.faults_after (Err end) → Wrote out.before out.after (EndsPlaying schedule end) → RunStops input out end
playing_stops input out text schedule NoMemory at well same spelled c s = (playing_keeps input out text schedule at same spelled s, well, c)
playing_stops input out text schedule WriteFault at well same spelled c s = (playing_keeps input out text schedule at same spelled s, well, c)
playing_stops input out text schedule (BadEvent number why) at well same spelled c s = playing_reports input out text schedule (λ x. ReportsTill x number why) at well same spelled c s
playing_stops input out text schedule (TooLong Packets) at well same spelled c s = playing_reports input out text schedule ReportsToLimit at well same spelled c s
playing_stops input out text schedule (TooLong Text) at well same spelled c s = absurd s.2
playing_stops input out text schedule (TooLong Events) at well same spelled c s = absurd s.2
playing_stops input out text schedule (BadLine line why) at well same spelled c s = absurd s.2
playing_stops input out text schedule Usage at well same spelled c s = absurd s.2
playing_stops input out text schedule ReadFault at well same spelled c s = absurd s.2
playing_stops input out text schedule (Rejected line law) at well same spelled c s = absurd s.2

-- a result with the count of the sink's failed calls
pub ok_counts : {P Q : Type 0} (r : Result (Unit {0}) RunEnd) (before after : ℕ) → CountsFaults before after r → (after ≡ before → P → Q) → OnOk r P → OnOk r Q
ok_counts (Ok x) before after c f p = f c p
ok_counts (Err e) before after c f p = tt

pub err_counts : {P Q : RunEnd → Type 0} (r : Result (Unit {0}) RunEnd) (before after : ℕ) → CountsFaults before after r → ((end : RunEnd) → CountsFaults before after (Err end) → P end → Q end)
    → IfErr r P → IfErr r Q
err_counts (Ok x) before after c f p = tt
err_counts (Err e) before after c f p = f e c p

-- .. and of an error that `?` hands on
pub counts_of_error : (r : Result (Unit {0}) RunEnd) (end : RunEnd) (before after : ℕ) → IsErrAnd r (λ e. e ≡ end) → CountsFaults before after (Err end) → CountsFaults before after r
counts_of_error (Ok x) end before after p c = absurd p
counts_of_error (Err e) end before after p c = subst (λ x. CountsFaults before after (Err x)) (sym p) c
