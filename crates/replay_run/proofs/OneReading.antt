-- What holds of the traces of each kind holds of those of every schedule.
use Rattle.std.proofs.Common.{◌≡◌, ◌∙◌, ℕ, Bool, true, false, ◌+◌, refl, sym, ap, ap₂, subst, true≢false, Option, Some, None, List, [], ◌∷◌, ◌++◌, length}
use Rattle.std.proofs.lemmas.Option.{none-some}
use Rattle.ft_model.specs.Client.{Client}
use Rattle.ft_model.specs.Legal.{start_of}
use Rattle.ft_model.specs.Readable.{FitsSchedule}
use Rattle.ft_model.specs.Report.{header, event_line, packet_lines, packet_count, event_lines, closing_lines, report}
use Rattle.ft_model.specs.World.{World, Moment, world_after}
use Rattle.ft_model.specs.declared.schedule.Schedule.{Schedule}
use Rattle.ft_model.proofs.ReportHeader.{IsClosing, NoClient, NoProfile, NoTwin, NoMarks, NoLasting, closing_ends, no_client, no_profile, no_twin, no_marks, no_lasting, IsSameHeader, header_cut}
use Rattle.ft_model.proofs.ReportTurns.{Reporting, sent_in, lines_of}
use Rattle.ft_model.proofs.ReportDetermines.{its_clients, all_reported, text_of}
use Rattle.mark_laws.specs.MarkedLegal.{marked_start}
use Rattle.mark_laws.specs.MarkedReport.{marked_parcel_lines, marked_parcel_count, marked_event_lines, marked_report}
use Rattle.mark_laws.specs.MarkedWorld.{MarkedMoment, marked_after}
use Rattle.mark_laws.specs.MarkedWorld as marks
use Rattle.twin_laws.specs.TwinLegal.{twin_start, event_of}
use Rattle.twin_laws.specs.TwinReport.{parcel_lines, parcel_count, twin_event_lines, twin_report}
use Rattle.twin_laws.specs.TwinWorld.{TwinMoment, twin_after}
use Rattle.twin_laws.specs.TwinWorld as twins
use Rattle.replay_run.specs.Traces.{Traces, traces_of, traces, Traced, IsLegalTraced, report_of}

-- what stands behind a report's header
record Behind (schedule : Schedule) (text : List ℕ) : Type 0 where
  pub rest : List ℕ
  pub is : text ≡ header schedule ++ rest
  pub client : NoClient rest
  pub profile : NoProfile rest
  pub twin : NoTwin rest
  pub marks : NoMarks rest
  pub lasting : NoLasting rest

behind : {Turn : Type 0} (by : List Client → Reporting Turn Turn) (schedule : Schedule) (turns : List Turn) (w : World) (text : List ℕ) → text ≡ text_of by schedule turns w → Behind schedule text
behind by schedule turns w text e =
    let r : List ℕ = closing_lines w (length turns) in
    let ends : IsClosing r = closing_ends w (length turns) in
    record {
      rest = lines_of (by (its_clients schedule)) turns ++ r;
      is = e;
      client = no_client (by (its_clients schedule)) turns r ends.client;
      profile = no_profile (by (its_clients schedule)) turns r ends.profile;
      twin = no_twin (by (its_clients schedule)) turns r ends.twin;
      marks = no_marks (by (its_clients schedule)) turns r ends.marks;
      lasting = no_lasting (by (its_clients schedule)) turns r ends.lasting;
    }

-- with one log
moments : List Client → Reporting Moment Moment
moments clients = all_reported (λ m. m.event) (λ m. length m.sent) (λ cs k m. packet_lines cs k m.sent) clients

one_counted : (clients : List Client) (trace : List Moment) → packet_count trace ≡ sent_in (moments clients) trace
unfolding moments
one_counted clients [] = refl
one_counted clients (m ∷ earlier) = ap (λ k. k + length m.sent) (one_counted clients earlier)

one_lines : (clients : List Client) (trace : List Moment) → event_lines clients trace ≡ lines_of (moments clients) trace
unfolding moments
one_lines clients [] = refl
one_lines clients (m ∷ earlier) =
    ap₂ (λ l k. l ++ (event_line (length earlier + 1) m.event ++ packet_lines clients (k + 1) m.sent)) (one_lines clients earlier) (one_counted clients earlier)

one_behind : (schedule : Schedule) (trace : List Moment) → Behind schedule (report schedule trace)
one_behind schedule trace =
    let w : World = world_after (start_of schedule) trace in
    behind moments schedule trace w (report schedule trace) (ap (λ l. header schedule ++ (l ++ closing_lines w (length trace))) (one_lines (its_clients schedule) trace))

-- with two loggers
twin_moments : List Client → Reporting TwinMoment TwinMoment
twin_moments clients = all_reported (λ m. event_of m.event) (λ m. length m.sent) (λ cs k m. parcel_lines cs k m.sent) clients

twin_counted : (clients : List Client) (trace : List TwinMoment) → parcel_count trace ≡ sent_in (twin_moments clients) trace
unfolding twin_moments
twin_counted clients [] = refl
twin_counted clients (m ∷ earlier) = ap (λ k. k + length m.sent) (twin_counted clients earlier)

twin_lines : (clients : List Client) (trace : List TwinMoment) → twin_event_lines clients trace ≡ lines_of (twin_moments clients) trace
unfolding twin_moments
twin_lines clients [] = refl
twin_lines clients (m ∷ earlier) =
    ap₂ (λ l k. l ++ (event_line (length earlier + 1) (event_of m.event) ++ parcel_lines clients (k + 1) m.sent)) (twin_lines clients earlier) (twin_counted clients earlier)

twin_behind : (schedule : Schedule) (trace : List TwinMoment) → Behind schedule (twin_report schedule trace)
twin_behind schedule trace =
    let w : World = twins.seen (twin_after (twin_start schedule) trace) [] in
    behind twin_moments schedule trace w (twin_report schedule trace) (ap (λ l. header schedule ++ (l ++ closing_lines w (length trace))) (twin_lines (its_clients schedule) trace))

-- with marks
marked_moments : List Client → Reporting MarkedMoment MarkedMoment
marked_moments clients = all_reported (λ m. m.event) (λ m. length m.sent) (λ cs k m. marked_parcel_lines cs k m.sent) clients

marked_counted : (clients : List Client) (trace : List MarkedMoment) → marked_parcel_count trace ≡ sent_in (marked_moments clients) trace
unfolding marked_moments
marked_counted clients [] = refl
marked_counted clients (m ∷ earlier) = ap (λ k. k + length m.sent) (marked_counted clients earlier)

marked_lines : (clients : List Client) (trace : List MarkedMoment) → marked_event_lines clients trace ≡ lines_of (marked_moments clients) trace
unfolding marked_moments
marked_lines clients [] = refl
marked_lines clients (m ∷ earlier) =
    ap₂ (λ l k. l ++ (event_line (length earlier + 1) m.event ++ marked_parcel_lines clients (k + 1) m.sent)) (marked_lines clients earlier) (marked_counted clients earlier)

marked_behind : (schedule : Schedule) (trace : List MarkedMoment) → Behind schedule (marked_report schedule trace)
marked_behind schedule trace =
    let w : World = marks.seen (marked_after (marked_start schedule) trace) in
    behind marked_moments schedule trace w (marked_report schedule trace) (ap (λ l. header schedule ++ (l ++ closing_lines w (length trace))) (marked_lines (its_clients schedule) trace))

all_behind : (twin : Bool) (marks : Option ℕ) (schedule : Schedule) (trace : List (traces_of twin marks).Turn) → Behind schedule ((traces_of twin marks).report schedule trace)
all_behind true marks schedule trace = twin_behind schedule trace
all_behind false None schedule trace = one_behind schedule trace
all_behind false (Some every) schedule trace = marked_behind schedule trace

-- reports tell the header, whatever their kinds
header_reported : (traced other : Traced) → FitsSchedule traced.schedule → FitsSchedule other.schedule → report_of traced ≡ report_of other → IsSameHeader traced.schedule other.schedule
header_reported traced other fits too e =
    let a : Behind traced.schedule (report_of traced) = all_behind traced.schedule.twin traced.schedule.marks traced.schedule traced.trace in
    let b : Behind other.schedule (report_of other) = all_behind other.schedule.twin other.schedule.marks other.schedule other.trace in
    (header_cut traced.schedule other.schedule a.rest b.rest fits too a.client b.client a.profile b.profile a.twin b.twin a.marks b.marks a.lasting b.lasting (sym a.is ∙ (e ∙ b.is))).0

abbrev OneTrace : Traces → Type 0
OneTrace kind = (schedule : Schedule) (trace other : List kind.Turn) → kind.IsLegal schedule schedule.events trace → kind.IsLegal schedule schedule.events other → trace ≡ other

pub once : OneTrace (traces_of false None) → OneTrace (traces_of true None) → ((every : ℕ) → OneTrace (traces_of false (Some every)))
    → (twin : Bool) (marks : Option ℕ) → OneTrace (traces_of twin marks)
once one two marked true marks = two
once one two marked false None = one
once one two marked false (Some every) = marked every

abbrev Reports : Traces → Traces → Schedule → Schedule → Type 0
Reports kind like schedule other =
    (trace : List kind.Turn) (also : List like.Turn) → FitsSchedule schedule → FitsSchedule other → kind.IsLegal schedule schedule.events trace → like.IsLegal other other.events also
    → kind.report schedule trace ≡ like.report other also → schedule ≡ other

same_kind : ((schedule other : Schedule) → Reports (traces_of false None) (traces_of false None) schedule other)
    → ((schedule other : Schedule) → Reports (traces_of true None) (traces_of true None) schedule other)
    → ((every often : ℕ) (schedule other : Schedule) → schedule.marks ≡ Some every → other.marks ≡ Some often → Reports (traces_of false (Some every)) (traces_of false (Some often)) schedule other)
    → (twin also : Bool) (marks more : Option ℕ) (schedule other : Schedule) → schedule.marks ≡ marks → other.marks ≡ more → twin ≡ also → marks ≡ more
    → Reports (traces_of twin marks) (traces_of also more) schedule other
same_kind one two marked true true marks more schedule other p q b o = two schedule other
same_kind one two marked true false marks more schedule other p q b o = absurd (true≢false b)
same_kind one two marked false true marks more schedule other p q b o = absurd (true≢false (sym b))
same_kind one two marked false false None None schedule other p q b o = one schedule other
same_kind one two marked false false None (Some often) schedule other p q b o = absurd (none-some often o)
same_kind one two marked false false (Some every) None schedule other p q b o = absurd (none-some every (sym o))
same_kind one two marked false false (Some every) (Some often) schedule other p q b o = marked every often schedule other p q

pub traced_reported : ((schedule : Schedule) → (trace other : List (traces schedule).Turn) → (traces schedule).IsLegal schedule schedule.events trace
    → (traces schedule).IsLegal schedule schedule.events other → trace ≡ other)
    → ((schedule other : Schedule) → Reports (traces_of false None) (traces_of false None) schedule other)
    → ((schedule other : Schedule) → Reports (traces_of true None) (traces_of true None) schedule other)
    → ((every often : ℕ) (schedule other : Schedule) → schedule.marks ≡ Some every → other.marks ≡ Some often → Reports (traces_of false (Some every)) (traces_of false (Some often)) schedule other)
    → (traced other : Traced) → FitsSchedule traced.schedule → FitsSchedule other.schedule → IsLegalTraced traced → IsLegalTraced other
    → report_of traced ≡ report_of other → traced ≡ other
traced_reported only one two marked traced other fits too l k e =
    let h : IsSameHeader traced.schedule other.schedule = header_reported traced other fits too e in
    let same : traced.schedule ≡ other.schedule =
    same_kind one two marked traced.schedule.twin other.schedule.twin traced.schedule.marks other.schedule.marks traced.schedule other.schedule refl refl h.twin h.marks traced.trace other.trace fits too l k e in
    subst (λ s. (also : List (traces s).Turn) → (traces s).IsLegal s s.events also → traced ≡ record { schedule = s; trace = also }) same
    (λ also m. ap (λ t. record { schedule = traced.schedule; trace = t }) (only traced.schedule traced.trace also l m)) other.trace k
