-- A schedule with marks has at most one legal trace, and its report tells schedule and trace.
use Rattle.std.proofs.Common.{◌≡◌, ◌∙◌, ℕ, ◌+◌, refl, sym, ap, ap₂, subst, subst₂, arith, Some, List, [], ◌∷◌, ◌++◌, length, length-append}
use Rattle.std.specs.List.{AllByRecursion}
use Rattle.std.proofs.lemmas.List.{append_cancel_left, same_from_push}
use Rattle.ft_model.specs.Client.{Client}
use Rattle.ft_model.specs.Readable.{FitsEvent, FitsSchedule}
use Rattle.ft_model.specs.Report.{header, event_line, closing_lines}
use Rattle.ft_model.specs.Schedule.{kind_of}
use Rattle.ft_model.specs.declared.event.Event.{Event}
use Rattle.ft_model.specs.declared.schedule.Schedule.{Schedule}
use Rattle.ft_model.proofs.Lists.{all_front, some_is}
use Rattle.ft_model.proofs.ReportHeader.{IsSameHeader}
use Rattle.ft_model.proofs.ReportTurns.{Reporting, sent_in, lines_of}
use Rattle.ft_model.proofs.ReportDetermines.{AreDetermined, its_clients, text_of, all_reported, determined_reported, same_schedule}
use Rattle.mark_laws.specs.MarkedLegal.{marked_start, marked_events_of, IsMarkedAllowed, AllMarkedAllowed, IsMarkedLegalFor, MarkedLegal}
use Rattle.mark_laws.specs.MarkedNode.{Marker}
use Rattle.mark_laws.specs.MarkedReport.{marked_parcel_lines, marked_parcel_count, marked_event_lines, marked_report}
use Rattle.mark_laws.specs.MarkedWorld.{MarkedWorld, MarkedMoment, MarkedHappens, MarkedJoint, seen, marked_after}
use Rattle.mark_laws.proofs.OneWorld.{marked_once, marked_proceeds}

module _ {State : Type 0} (by : Marker State) where
  -- two moments of one event, from one world on, are the same
  moment_once : (before : MarkedWorld) (m n : MarkedMoment) → m.event ≡ n.event → MarkedHappens by before m.event m.sent m.world → MarkedHappens by before n.event n.sent n.world
      → IsMarkedAllowed before m → IsMarkedAllowed before n → m ≡ n
  moment_once before m n e p q a b =
      let there : MarkedHappens by before n.event m.sent m.world = subst (λ x. MarkedHappens by before x m.sent m.world) e p in
      let allowed : IsMarkedAllowed before (record m { event = n.event }) = subst (λ x. IsMarkedAllowed before (record m { event = x })) e a in
      let world : m.world ≡ n.world = marked_once by n.event before m.world n.world m.sent n.sent there q allowed.scripted b.scripted in
      let sent : m.sent ≡ n.sent =
      append_cancel_left before.parcels m.sent n.sent
      (sym (marked_proceeds by n.event before m.world m.sent there) ∙ (ap (λ v. v.parcels) world ∙ marked_proceeds by n.event before n.world n.sent q)) in
      λ i. record { event = e i; sent = sent i; world = world i }

  traces_once : (start : MarkedWorld) (trace other : List MarkedMoment) → MarkedJoint by start trace → MarkedJoint by start other → AllMarkedAllowed start trace → AllMarkedAllowed start other
      → marked_events_of trace ≡ marked_events_of other → trace ≡ other
  traces_once start [] [] j k a b e = refl
  traces_once start [] (n ∷ others) j k a b e = absurd (omega (arith, ap length e, length-append (marked_events_of others) (n.event ∷ [])))
  traces_once start (m ∷ earlier) [] j k a b e = absurd (omega (arith, ap length e, length-append (marked_events_of earlier) (m.event ∷ [])))
  traces_once start (m ∷ earlier) (n ∷ others) j k a b e =
      let same : (marked_events_of earlier ≡ marked_events_of others) × (m.event ≡ n.event) =
      same_from_push (marked_events_of earlier) (marked_events_of others) m.event n.event e in
      let before : earlier ≡ others = traces_once start earlier others j.0 k.0 a.0 b.0 same.0 in
      let last : m ≡ n =
      moment_once (marked_after start others) m n same.1 (subst (λ t. MarkedHappens by (marked_after start t) m.event m.sent m.world) before j.1) k.1
      (subst (λ t. IsMarkedAllowed (marked_after start t) m) before a.1) b.1 in
      ap₂ (λ x t. x ∷ t) last before

  -- legal traces of some events
  abbrev IsPlayed : MarkedWorld → List MarkedMoment → Type 0
  IsPlayed start trace = MarkedJoint by start trace × AllMarkedAllowed start trace × AllByRecursion FitsEvent (marked_events_of trace)

  played_determined : (start : MarkedWorld) → AreDetermined (λ (m : MarkedMoment). m.event) marked_events_of (IsPlayed start)
  played_determined start = record {
    pushed = λ m earlier. refl;
    front = λ m earlier p. let events = all_front FitsEvent (marked_events_of earlier) m.event p.2 in ((p.0.0, p.1.0, events.0), events.1);
    once = λ trace also p q e. traces_once start trace also p.0 q.0 p.1 q.1 e;
  }

pub legal_once : {State : Type 0} (by : ℕ → Marker State) (schedule : Schedule) (events : List Event) (trace other : List MarkedMoment)
    → IsMarkedLegalFor by schedule events trace → IsMarkedLegalFor by schedule events other → trace ≡ other
legal_once by schedule events trace other a b =
    traces_once (by (kind_of schedule.service)) (marked_start schedule) trace other a.joint b.joint a.allowed b.allowed (a.events_are ∙ sym b.events_are)

-- how moments are written
abbrev size : MarkedMoment → ℕ
size m = length m.sent

abbrev lines : List Client → ℕ → MarkedMoment → List ℕ
lines clients k m = marked_parcel_lines clients k m.sent

abbrev moments : List Client → Reporting MarkedMoment MarkedMoment
moments = all_reported (λ m. m.event) size lines

counted : (clients : List Client) (trace : List MarkedMoment) → marked_parcel_count trace ≡ sent_in (moments clients) trace
counted clients [] = refl
counted clients (m ∷ earlier) = ap (λ k. k + length m.sent) (counted clients earlier)

lines_are : (clients : List Client) (trace : List MarkedMoment) → marked_event_lines clients trace ≡ lines_of (moments clients) trace
lines_are clients [] = refl
lines_are clients (m ∷ earlier) =
    ap₂ (λ l k. l ++ (event_line (length earlier + 1) m.event ++ marked_parcel_lines clients (k + 1) m.sent)) (lines_are clients earlier) (counted clients earlier)

report_is : (schedule : Schedule) (trace : List MarkedMoment) → marked_report schedule trace ≡ text_of moments schedule trace (seen (marked_after (marked_start schedule) trace))
report_is schedule trace = ap (λ l. header schedule ++ (l ++ closing_lines (seen (marked_after (marked_start schedule) trace)) (length trace))) (lines_are (its_clients schedule) trace)

played : {State : Type 0} (by : ℕ → Marker State) (schedule : Schedule) (trace : List MarkedMoment) → FitsSchedule schedule → MarkedLegal by schedule trace
    → IsPlayed (by (kind_of schedule.service)) (marked_start schedule) trace
played by schedule trace fits l = (l.joint, l.allowed, subst (AllByRecursion FitsEvent) (sym l.events_are) fits.events)

same_start : (schedule other : Schedule) → IsSameHeader schedule other → marked_start schedule ≡ marked_start other
same_start schedule other h =
    λ i. marked_start (record { service = h.service i; server = h.server i; profile = h.profile i; twin = h.twin i; marks = h.marks i; lasting = h.lasting i; clients = h.clients i; events = schedule.events })

-- the server marks after as many reads as its schedule says
pub legal_reported : {State : Type 0} (by : ℕ → ℕ → Marker State) (every often : ℕ) (schedule other : Schedule) (trace also : List MarkedMoment) → FitsSchedule schedule → FitsSchedule other
    → schedule.marks ≡ Some every → other.marks ≡ Some often → MarkedLegal (by every) schedule trace → MarkedLegal (by often) other also
    → marked_report schedule trace ≡ marked_report other also → (schedule ≡ other) × (trace ≡ also)
legal_reported {State} by every often schedule other trace also fits too here there l k e =
    let start : MarkedWorld = marked_start schedule in
    let runs : Marker State = by every (kind_of schedule.service) in
    let same : IsSameHeader schedule other → IsPlayed runs start also =
    λ h.
    let number : every ≡ often = some_is every often (sym here ∙ (h.marks ∙ there)) in
    let marker : runs ≡ by often (kind_of other.service) = ap₂ (λ n name. by n (kind_of name)) number h.service in
    subst₂ (λ m w. IsPlayed m w also) (sym marker) (sym (same_start schedule other h)) (played (by often) other also too k) in
    let texts = sym (report_is schedule trace) ∙ (e ∙ report_is other also) in
    let all = determined_reported (λ (m : MarkedMoment). m.event) marked_events_of size lines schedule other (IsPlayed runs start) fits too (played_determined runs start)
    trace also (seen (marked_after start trace)) (seen (marked_after (marked_start other) also)) (played (by every) schedule trace fits l) same texts in
    (same_schedule schedule other all.0 (sym l.events_are ∙ (ap marked_events_of all.1 ∙ k.events_are)), all.1)
