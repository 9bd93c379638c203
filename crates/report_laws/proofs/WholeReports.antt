-- The report of a legal trace is accepted from its first line on.
use Rattle.std.proofs.Common.{◌≡◌, ℕ, ◌+◌, ◌-◌, ◌≤◌, ◌<◌, ◌^◌, refl, sym, ap, subst, arith, Some, List, [], ◌∷◌, ◌++◌, length, take, append_assoc, append-nil}
use Rattle.std.specs.List.{AllByRecursion}
use Rattle.server_trait.specs.Service.{Machine, WritesBytes}
use Rattle.ft_model.specs.Legal.{IsLegalFor, start_of}
use Rattle.ft_model.specs.Schedule.{kind_of}
use Rattle.ft_model.specs.Image.{HasWires}
use Rattle.ft_model.specs.Readable.{FitsSchedule, IsReadableTurn}
use Rattle.ft_model.specs.Report.{event_line, event_lines, closing_lines}
use Rattle.ft_model.specs.World.{Moment, world_after, events_of}
use Rattle.ft_model.specs.declared.event.Event.{Event}
use Rattle.ft_model.specs.declared.line.Draft.TheVariants.{Begun}
use Rattle.ft_model.specs.declared.line.Line.TheVariants as says
use Rattle.ft_model.specs.declared.schedule.Schedule.{Schedule}
use Rattle.ft_model.proofs.FitsLemmas.{text_fits}
use Rattle.ft_model.proofs.Running.{HasSmallOutputs}
use Rattle.ft_model.proofs.AcceptedLemmas.{accepted}
use Rattle.ft_model.proofs.FormedWorld.{wires_sent}
use Rattle.ft_model.proofs.Readable.{legal_readable}
use Rattle.schedule_text.specs.EventLines.{asked_line}
use Rattle.schedule_text.proofs.RoundTrip.{asked_in_line}
use Rattle.report_laws.specs.Canonical.{Follows, EventsAccepted, IsWithinLimits, header_lines, schedule_bytes}
use Rattle.report_laws.specs.Lines.{lines_in}
use Rattle.report_laws.specs.Transitions.{Position, HeaderLine, AfterTurn, IsEventLine, IsReport, clients_in, grammar_in, is_header_line, pieces}
use Rattle.report_laws.specs.Transitions.Position.{AtStart, InHeader}
use Rattle.report_laws.specs.Transitions.Step.{Continues}
use Rattle.report_laws.specs.Verdict.{AcceptedFrom, LeadsTo}
use Rattle.report_laws.specs.TurnLines.{schedule_through, AllCanonical, AcceptedAfter}
use Rattle.report_laws.proofs.ClosingLines.{report_read}
use Rattle.report_laws.proofs.FirstLines.{NoHeaderFirst, header_ends}
use Rattle.report_laws.proofs.HeaderCut.{header_cut}
use Rattle.report_laws.proofs.HeaderLines.{header_leads}
use Rattle.report_laws.proofs.LineLemmas.{events_count}
use Rattle.report_laws.proofs.ReadLines.{own_text_read}
use Rattle.report_laws.proofs.Turns.{if_false}

-- the last of some events is accepted after the others
last_accepted : (s : Schedule) (events : List Event) (e : Event) → EventsAccepted s (events ++ e ∷ [])
    → EventsAccepted s events × Follows (Begun (record s { events = s.events ++ events })) (says.Event e)
last_accepted s [] e h = (tt, subst (λ es. Follows (Begun (record s { events = es })) (says.Event e)) (sym (append-nil s.events)) h.0)
last_accepted s (x ∷ events) e h =
    let rest : EventsAccepted (record s { events = s.events ++ x ∷ [] }) events × Follows (Begun (record s { events = (s.events ++ x ∷ []) ++ events })) (says.Event e) =
    last_accepted (record s { events = s.events ++ x ∷ [] }) events e h.1 in
    ((h.0, rest.0), subst (λ es. Follows (Begun (record s { events = es })) (says.Event e)) (append_assoc s.events (x ∷ []) events) rest.1)

event_line_is : (s : Schedule) (n : ℕ) (e : Event) → Follows (Begun s) (says.Event e) → IsEventLine s n e (event_line n e)
event_line_is s n e h = record { asked = asked_line e ++ 10 ∷ []; spelled = asked_in_line n e; canonical = h }

all_canonical : (schedule : Schedule) (trace : List Moment) → EventsAccepted (record schedule { events = [] }) (events_of trace) → length trace ≤ 100000
    → AllByRecursion (IsReadableTurn schedule.server (clients_in schedule)) trace → AllByRecursion (HasWires (grammar_in schedule)) trace → AllCanonical schedule trace
all_canonical schedule [] h few readable written = tt
all_canonical schedule (m ∷ earlier) h few readable written =
    let both : EventsAccepted (record schedule { events = [] }) (events_of earlier) × Follows (Begun (record schedule { events = events_of earlier })) (says.Event m.event) =
    last_accepted (record schedule { events = [] }) (events_of earlier) m.event h in
    let less : length earlier ≤ 100000 = omega (arith, few) in
    let below : length earlier < 100000 = omega (arith, few) in (
      all_canonical schedule earlier both.0 less readable.1 written.1,
      record { event = event_line_is (schedule_through schedule earlier) (length earlier + 1) m.event both.1; few = below; readable = readable.0; written = written.0 },
    )

-- a schedule within the limits is one that a text spells
pub fits_schedule : (schedule : Schedule) → IsWithinLimits schedule → FitsSchedule schedule
fits_schedule schedule w = text_fits (take (length (schedule_bytes (Begun schedule)) - 1) (schedule_bytes (Begun schedule))) schedule (own_text_read schedule w)

pub few_clients : (schedule : Schedule) → IsWithinLimits schedule → length schedule.clients ≤ 16
few_clients schedule w = (accepted (take (length (schedule_bytes (Begun schedule)) - 1) (schedule_bytes (Begun schedule))) schedule (own_text_read schedule w)).clients

module _ {State : Type 0} (service : ℕ → Machine State) (small : (kind : ℕ) → HasSmallOutputs (service kind)) (writes : (kind : ℕ) → WritesBytes (service kind)) where
  lead_on : (position last : Position) (lines rest : List (List ℕ)) → LeadsTo service position lines last → AcceptedFrom service last rest → AcceptedFrom service position (lines ++ rest)
  lead_on position last [] rest is ends = subst (λ p. AcceptedFrom service p rest) (sym is) ends
  lead_on position last (line ∷ lines) rest leads ends = (leads.0, leads.1, lead_on leads.0 last lines rest leads.2 ends)

  after_header : (schedule : Schedule) (lines : List (List ℕ)) → NoHeaderFirst schedule lines → AcceptedAfter service schedule [] lines → AcceptedFrom service (InHeader (Begun schedule)) lines
  after_header schedule [] none ends = ends
  after_header schedule (line ∷ lines) none ends =
      (ends.0, if_false (is_header_line schedule (pieces line)) (HeaderLine (Begun schedule) line (Continues ends.0)) (AfterTurn schedule [] (Some line) (Continues ends.0)) none ends.1, ends.2)

  pub whole_read : (text : List ℕ) → IsReport service text → AcceptedFrom service AtStart (lines_in text)
  whole_read text r =
      let schedule : Schedule = r.schedule in
      let trace : List Moment = r.trace in
      let closing : List ℕ = closing_lines (world_after (start_of schedule) trace) (length trace) in
      let rest : List ℕ = event_lines (clients_in schedule) trace ++ closing in
      let legal : IsLegalFor service schedule (events_of trace) trace = record { joint = r.legal.joint; events_are = refl; allowed = r.legal.allowed } in
      let events : EventsAccepted (record schedule { events = [] }) (events_of trace) = subst (EventsAccepted (record schedule { events = [] })) (sym r.legal.events_are) r.within.events in
      let same : length (events_of trace) ≡ length schedule.events = ap length r.legal.events_are in
      let count : length (events_of trace) ≡ length trace = events_count trace in
      let few : length trace ≤ 100000 = omega (arith, same, count, r.within.few) in
      let fits : FitsSchedule schedule = fits_schedule schedule r.within in
      let readable : AllByRecursion (IsReadableTurn schedule.server (clients_in schedule)) trace = legal_readable service small writes schedule trace fits r.legal in
      let kind : ℕ = kind_of schedule.service in
      let written : AllByRecursion (HasWires (grammar_in schedule)) trace = wires_sent (service kind) (small kind) (writes kind) (start_of schedule) trace r.legal.joint in
      let clients : length schedule.clients < 2 ^ 63 = omega (arith, few_clients schedule r.within) in
      let canonical : AllCanonical schedule trace = all_canonical schedule trace events few readable written in
      let turns : AcceptedAfter service (schedule_through schedule []) [] (lines_in rest) = report_read service schedule trace legal r.packets canonical in
      let none : NoHeaderFirst (record schedule { events = [] }) (lines_in rest) =
      header_ends (record schedule { events = [] }) trace closing clients (λ e. ap (λ t. closing_lines (world_after (start_of schedule) t) (length t)) e) in
      subst (λ t. AcceptedFrom service AtStart (lines_in t)) (sym r.text_is)
      (subst (AcceptedFrom service AtStart) (sym (header_cut schedule rest r.within.header))
      (lead_on AtStart (InHeader (Begun (record schedule { events = [] }))) (header_lines schedule) (lines_in rest) (header_leads service schedule r.within.header clients)
      (after_header (record schedule { events = [] }) (lines_in rest) none turns)))
