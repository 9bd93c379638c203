-- A schedule with two loggers has at most one legal trace, and its report tells schedule and trace.
use Rattle.std.proofs.Common.{◌≡◌, ◌∙◌, ℕ, ◌+◌, refl, sym, ap, ap₂, subst, subst₂, arith, List, [], ◌∷◌, ◌++◌, length, length-append}
use Rattle.std.specs.List.{AllByRecursion}
use Rattle.std.proofs.lemmas.List.{append_cancel_left, same_from_push}
use Rattle.server_trait.specs.Service.{Machine}
use Rattle.ft_model.specs.Client.{Client}
use Rattle.ft_model.specs.Readable.{FitsEvent, FitsSchedule}
use Rattle.ft_model.specs.Report.{header, event_line, closing_lines}
use Rattle.ft_model.specs.Schedule.{kind_of}
use Rattle.ft_model.specs.declared.event.Event.{Event}
use Rattle.ft_model.specs.declared.schedule.Schedule.{Schedule}
use Rattle.ft_model.proofs.Lists.{all_front}
use Rattle.ft_model.proofs.ReportHeader.{IsSameHeader}
use Rattle.ft_model.proofs.ReportTurns.{Reporting, sent_in, lines_of}
use Rattle.ft_model.proofs.ReportDetermines.{AreDetermined, its_clients, text_of, all_reported, determined_reported, same_schedule}
use Rattle.twin_laws.specs.TwinLegal.{twin_start, twin_events_of, event_of, IsTwinAllowed, AllTwinAllowed, IsTwinLegalFor, TwinLegal}
use Rattle.twin_laws.specs.TwinReport.{parcel_lines, parcel_count, twin_event_lines, twin_report}
use Rattle.twin_laws.specs.TwinWorld.{TwinWorld, TwinMoment, TwinHappens, TwinJoint, seen, twin_after}
use Rattle.twin_laws.proofs.OneTurn.{twin_once, named_once, twin_proceeds}

module _ {State : Type 0} (service : Machine State) where
  -- two moments that a schedule names alike, from one world on, are the same
  moment_once : (before : TwinWorld) (m n : TwinMoment) → event_of m.event ≡ event_of n.event → TwinHappens service before m.event m.sent m.world → TwinHappens service before n.event n.sent n.world
      → IsTwinAllowed before m → IsTwinAllowed before n → m ≡ n
  moment_once before m n e p q a b =
      let event : m.event ≡ n.event = named_once service m.event n.event before m.world n.world m.sent n.sent p q e in
      let there : TwinHappens service before n.event m.sent m.world = subst (λ x. TwinHappens service before x m.sent m.world) event p in
      let allowed : IsTwinAllowed before (record m { event = n.event }) = subst (λ x. IsTwinAllowed before (record m { event = x })) event a in
      let world : m.world ≡ n.world = twin_once service n.event before m.world n.world m.sent n.sent there q allowed.scripted b.scripted in
      let sent : m.sent ≡ n.sent =
      append_cancel_left before.parcels m.sent n.sent
      (sym (twin_proceeds service n.event before m.world m.sent there) ∙ (ap (λ v. v.parcels) world ∙ twin_proceeds service n.event before n.world n.sent q)) in
      λ i. record { event = event i; sent = sent i; world = world i }

  traces_once : (start : TwinWorld) (trace other : List TwinMoment) → TwinJoint service start trace → TwinJoint service start other → AllTwinAllowed start trace → AllTwinAllowed start other
      → twin_events_of trace ≡ twin_events_of other → trace ≡ other
  traces_once start [] [] j k a b e = refl
  traces_once start [] (n ∷ others) j k a b e = absurd (omega (arith, ap length e, length-append (twin_events_of others) (event_of n.event ∷ [])))
  traces_once start (m ∷ earlier) [] j k a b e = absurd (omega (arith, ap length e, length-append (twin_events_of earlier) (event_of m.event ∷ [])))
  traces_once start (m ∷ earlier) (n ∷ others) j k a b e =
      let same : (twin_events_of earlier ≡ twin_events_of others) × (event_of m.event ≡ event_of n.event) =
      same_from_push (twin_events_of earlier) (twin_events_of others) (event_of m.event) (event_of n.event) e in
      let before : earlier ≡ others = traces_once start earlier others j.0 k.0 a.0 b.0 same.0 in
      let last : m ≡ n =
      moment_once (twin_after start others) m n same.1 (subst (λ t. TwinHappens service (twin_after start t) m.event m.sent m.world) before j.1) k.1
      (subst (λ t. IsTwinAllowed (twin_after start t) m) before a.1) b.1 in
      ap₂ (λ x t. x ∷ t) last before

  -- legal traces of some events
  abbrev IsPlayed : TwinWorld → List TwinMoment → Type 0
  IsPlayed start trace = TwinJoint service start trace × AllTwinAllowed start trace × AllByRecursion FitsEvent (twin_events_of trace)

  played_determined : (start : TwinWorld) → AreDetermined (λ (m : TwinMoment). event_of m.event) twin_events_of (IsPlayed start)
  played_determined start = record {
    pushed = λ m earlier. refl;
    front = λ m earlier p. let events = all_front FitsEvent (twin_events_of earlier) (event_of m.event) p.2 in ((p.0.0, p.1.0, events.0), events.1);
    once = λ trace also p q e. traces_once start trace also p.0 q.0 p.1 q.1 e;
  }

pub legal_once : {State : Type 0} (service : ℕ → Machine State) (schedule : Schedule) (events : List Event) (trace other : List TwinMoment)
    → IsTwinLegalFor service schedule events trace → IsTwinLegalFor service schedule events other → trace ≡ other
legal_once service schedule events trace other a b =
    traces_once (service (kind_of schedule.service)) (twin_start schedule) trace other a.joint b.joint a.allowed b.allowed (a.events_are ∙ sym b.events_are)

-- how moments are written
abbrev size : TwinMoment → ℕ
size m = length m.sent

abbrev lines : List Client → ℕ → TwinMoment → List ℕ
lines clients k m = parcel_lines clients k m.sent

abbrev moments : List Client → Reporting TwinMoment TwinMoment
moments = all_reported (λ m. event_of m.event) size lines

counted : (clients : List Client) (trace : List TwinMoment) → parcel_count trace ≡ sent_in (moments clients) trace
counted clients [] = refl
counted clients (m ∷ earlier) = ap (λ k. k + length m.sent) (counted clients earlier)

lines_are : (clients : List Client) (trace : List TwinMoment) → twin_event_lines clients trace ≡ lines_of (moments clients) trace
lines_are clients [] = refl
lines_are clients (m ∷ earlier) =
    ap₂ (λ l k. l ++ (event_line (length earlier + 1) (event_of m.event) ++ parcel_lines clients (k + 1) m.sent)) (lines_are clients earlier) (counted clients earlier)

report_is : (schedule : Schedule) (trace : List TwinMoment) → twin_report schedule trace ≡ text_of moments schedule trace (seen (twin_after (twin_start schedule) trace) [])
report_is schedule trace = ap (λ l. header schedule ++ (l ++ closing_lines (seen (twin_after (twin_start schedule) trace) []) (length trace))) (lines_are (its_clients schedule) trace)

played : {State : Type 0} (service : ℕ → Machine State) (schedule : Schedule) (trace : List TwinMoment) → FitsSchedule schedule → TwinLegal service schedule trace
    → IsPlayed (service (kind_of schedule.service)) (twin_start schedule) trace
played service schedule trace fits l = (l.joint, l.allowed, subst (AllByRecursion FitsEvent) (sym l.events_are) fits.events)

same_start : (schedule other : Schedule) → IsSameHeader schedule other → twin_start schedule ≡ twin_start other
same_start schedule other h = λ i. twin_start (record { service = h.service i; server = h.server i; profile = h.profile i; twin = h.twin i; marks = h.marks i; lasting = h.lasting i; clients = h.clients i; events = schedule.events })

pub legal_reported : {State : Type 0} (service : ℕ → Machine State) (schedule other : Schedule) (trace also : List TwinMoment) → FitsSchedule schedule → FitsSchedule other
    → TwinLegal service schedule trace → TwinLegal service other also → twin_report schedule trace ≡ twin_report other also → (schedule ≡ other) × (trace ≡ also)
legal_reported {State} service schedule other trace also fits too l k e =
    let start : TwinWorld = twin_start schedule in
    let runs : Machine State = service (kind_of schedule.service) in
    let same : IsSameHeader schedule other → IsPlayed runs start also =
    λ h. subst₂ (λ name w. IsPlayed (service (kind_of name)) w also) (sym h.service) (sym (same_start schedule other h)) (played service other also too k) in
    let texts = sym (report_is schedule trace) ∙ (e ∙ report_is other also) in
    let all = determined_reported (λ (m : TwinMoment). event_of m.event) twin_events_of size lines schedule other (IsPlayed runs start) fits too (played_determined runs start)
    trace also (seen (twin_after start trace) []) (seen (twin_after (twin_start other) also) []) (played service schedule trace fits l) same texts in
    (same_schedule schedule other all.0 (sym l.events_are ∙ (ap twin_events_of all.1 ∙ k.events_are)), all.1)
