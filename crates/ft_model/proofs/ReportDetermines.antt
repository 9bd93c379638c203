-- A report tells its trace: its header and its event lines tell the schedule, and that the packets; or its packet lines tell the packets.
use Rattle.std.proofs.Common.{◌≡◌, ℕ, ◌+◌, List, [], ◌∷◌, ◌++◌, length, map, refl, sym, ap, ap₂, ◌∙◌, subst, subst₂}
use Rattle.std.specs.List.{AllByRecursion}
use Rattle.std.proofs.lemmas.List.{append_cancel_left, map-id}
use Rattle.server_trait.specs.Service.{Machine}
use Rattle.ft_io.specs.declared.Addr.{Addr}
use Rattle.ft_model.specs.declared.event.Event.{Event}
use Rattle.ft_model.specs.declared.schedule.Schedule.{Schedule}
use Rattle.ft_model.specs.Client.{Client}
use Rattle.ft_model.specs.Network.{Packet}
use Rattle.ft_model.specs.Schedule.{kind_of, clients_of}
use Rattle.ft_model.specs.World.{World, Moment, Joint, world_after, events_of}
use Rattle.ft_model.specs.Legal.{start_of, AllAllowed, Legal}
use Rattle.ft_model.specs.Report.{header, event_line, packet_lines, packet_count, event_lines, closing_lines, report, turns_of}
use Rattle.ft_model.specs.Readable.{FitsEvent, FitsSchedule, IsReadableTurn}
use Rattle.ft_model.proofs.OneTrace.{traces_once}
use Rattle.ft_model.proofs.ReportLines.{packets_cut}
use Rattle.ft_model.proofs.ReportTurns.{Reporting, sent_in, lines_of, HasFront, ReportsPackets, turns_same}
use Rattle.ft_model.proofs.ReportHeader.{IsClosing, closing_ends, no_client, no_profile, no_twin, no_marks, no_lasting, IsSameHeader, header_cut}
use Rattle.ft_model.proofs.Lists.{all_front}

-- the clients of a schedule
abbrev pub its_clients : Schedule → List Client
its_clients schedule = clients_of schedule.server schedule.clients

same_clients : (schedule other : Schedule) → IsSameHeader schedule other → its_clients schedule ≡ its_clients other
same_clients schedule other h = ap₂ clients_of h.server h.clients

pub same_schedule : (schedule other : Schedule) → IsSameHeader schedule other → schedule.events ≡ other.events → schedule ≡ other
same_schedule schedule other h e = λ i. record { service = h.service i; server = h.server i; profile = h.profile i; twin = h.twin i; marks = h.marks i; lasting = h.lasting i; clients = h.clients i; events = e i }

-- the report of some turns that end in a world
abbrev pub text_of : {Turn Reported : Type 0} → (List Client → Reporting Turn Reported) → Schedule → List Turn → World → List ℕ
text_of by schedule turns w = header schedule ++ (lines_of (by (its_clients schedule)) turns ++ closing_lines w (length turns))

-- reports tell header and turns, of turns whose packet lines tell the packets
reported : {Turn Reported : Type 0} (by : List Client → Reporting Turn Reported) (schedule other : Schedule) (P : List Turn → Type 0) → FitsSchedule schedule → FitsSchedule other
    → HasFront (by (its_clients schedule)) P → ReportsPackets (by (its_clients schedule)) P → (turns also : List Turn) (w x : World) → P turns → (IsSameHeader schedule other → P also)
    → text_of by schedule turns w ≡ text_of by other also x
    → IsSameHeader schedule other × (map (by (its_clients schedule)).reported turns ≡ map (by (its_clients schedule)).reported also)
reported {Turn} {Reported} by schedule other P fits too front reports turns also w x p q e =
    let one_by : Reporting Turn Reported = by (its_clients schedule) in
    let two_by : Reporting Turn Reported = by (its_clients other) in
    let r : List ℕ = closing_lines w (length turns) in
    let s : List ℕ = closing_lines x (length also) in
    let one : IsClosing r = closing_ends w (length turns) in
    let two : IsClosing s = closing_ends x (length also) in
    let head = header_cut schedule other (lines_of one_by turns ++ r) (lines_of two_by also ++ s) fits too
    (no_client one_by turns r one.client) (no_client two_by also s two.client) (no_profile one_by turns r one.profile) (no_profile two_by also s two.profile) (no_twin one_by turns r one.twin) (no_twin two_by also s two.twin)
    (no_marks one_by turns r one.marks) (no_marks two_by also s two.marks) (no_lasting one_by turns r one.lasting) (no_lasting two_by also s two.lasting) e in
    let same : IsSameHeader schedule other = head.0 in
    let lines : lines_of one_by turns ++ r ≡ lines_of one_by also ++ s = head.1 ∙ ap (λ l. lines_of (by l) also ++ s) (sym (same_clients schedule other same)) in
    (same, (turns_same one_by P front reports turns also r s p (q same) one.packet one.event two.packet two.event lines).0)

-- turns that their events determine
pub record AreDetermined {Turn : Type 0} (event_in : Turn → Event) (events_in : List Turn → List Event) (P : List Turn → Type 0) : Type 0 where
  pub pushed : (m : Turn) (earlier : List Turn) → events_in (m ∷ earlier) ≡ events_in earlier ++ event_in m ∷ []
  pub front : (m : Turn) (earlier : List Turn) → P (m ∷ earlier) → P earlier × FitsEvent (event_in m)
  pub once : (turns also : List Turn) → P turns → P also → events_in turns ≡ events_in also → turns ≡ also

-- .. are told whatever is written of their packets
abbrev pub all_reported : {Turn : Type 0} → (Turn → Event) → (Turn → ℕ) → (List Client → ℕ → Turn → List ℕ) → List Client → Reporting Turn Turn
all_reported event_in count sent_lines clients = record { event_in = event_in; reported = λ m. m; count = count; sent_lines = sent_lines clients }

module _ {Turn : Type 0} (event_in : Turn → Event) (events_in : List Turn → List Event) (count : Turn → ℕ) (sent_lines : List Client → ℕ → Turn → List ℕ) where
  determined_reports : (clients : List Client) (P : List Turn → Type 0) → AreDetermined event_in events_in P → ReportsPackets (all_reported event_in count sent_lines clients) P
  determined_reports clients P d = λ m n earlier older k r s p q same event nr ns e.
      let before : earlier ≡ older = sym (map-id earlier) ∙ (same ∙ map-id older) in
      let events : events_in (m ∷ earlier) ≡ events_in (n ∷ older) =
      d.pushed m earlier ∙ (ap₂ (λ l x. events_in l ++ x ∷ []) before event ∙ sym (d.pushed n older)) in
      let all : m ∷ earlier ≡ n ∷ older = d.once (m ∷ earlier) (n ∷ older) p q events in
      let last : m ≡ n = cc in
      (last, append_cancel_left (sent_lines clients k m) r s (e ∙ ap (λ x. sent_lines clients k x ++ s) (sym last)))

  pub determined_reported : (schedule other : Schedule) (P : List Turn → Type 0) → FitsSchedule schedule → FitsSchedule other → AreDetermined event_in events_in P
      → (turns also : List Turn) (w x : World) → P turns → (IsSameHeader schedule other → P also)
      → text_of (all_reported event_in count sent_lines) schedule turns w ≡ text_of (all_reported event_in count sent_lines) other also x
      → IsSameHeader schedule other × (turns ≡ also)
  determined_reported schedule other P fits too d turns also w x p q e =
      let all = reported (all_reported event_in count sent_lines) schedule other P fits too d.front (determined_reports (its_clients schedule) P d) turns also w x p q e in
      (all.0, sym (map-id turns) ∙ (all.1 ∙ map-id also))

-- with one log
module _ {Reported : Type 0} (reported_in : Moment → Reported) (size : Reported → ℕ) (sized : (m : Moment) → size (reported_in m) ≡ length m.sent) where
  abbrev moments : List Client → Reporting Moment Reported
  moments clients = record { event_in = λ m. m.event; reported = reported_in; count = size; sent_lines = λ k m. packet_lines clients k m.sent }

  counted : (clients : List Client) (trace : List Moment) → packet_count trace ≡ sent_in (moments clients) trace
  counted clients [] = refl
  counted clients (m ∷ earlier) = ap₂ (λ k l. k + l) (counted clients earlier) (sym (sized m))

  lines_are : (clients : List Client) (trace : List Moment) → event_lines clients trace ≡ lines_of (moments clients) trace
  lines_are clients [] = refl
  lines_are clients (m ∷ earlier) =
      ap₂ (λ l k. l ++ (event_line (length earlier + 1) m.event ++ packet_lines clients (k + 1) m.sent)) (lines_are clients earlier) (counted clients earlier)

  report_is : (schedule : Schedule) (trace : List Moment) → report schedule trace ≡ text_of moments schedule trace (world_after (start_of schedule) trace)
  report_is schedule trace = ap (λ l. header schedule ++ (l ++ closing_lines (world_after (start_of schedule) trace) (length trace))) (lines_are (its_clients schedule) trace)

-- legal traces of some events
abbrev IsPlayed : {State : Type 0} → Machine State → World → List Moment → Type 0
IsPlayed service start trace = Joint service start trace × AllAllowed start trace × AllByRecursion FitsEvent (events_of trace)

played_determined : {State : Type 0} (service : Machine State) (start : World) → AreDetermined (λ (m : Moment). m.event) events_of (IsPlayed service start)
played_determined service start = record {
  pushed = λ m earlier. refl;
  front = λ m earlier p. let events = all_front FitsEvent (events_of earlier) m.event p.2 in ((p.0.0, p.1.0, events.0), events.1);
  once = λ trace also p q e. traces_once service start trace also p.0 q.0 p.1 q.1 e;
}

played : {State : Type 0} (service : ℕ → Machine State) (schedule : Schedule) (trace : List Moment) → FitsSchedule schedule → Legal service schedule trace
    → IsPlayed (service (kind_of schedule.service)) (start_of schedule) trace
played service schedule trace fits l = (l.joint, l.allowed, subst (AllByRecursion FitsEvent) (sym l.events_are) fits.events)

same_start : (schedule other : Schedule) → IsSameHeader schedule other → start_of schedule ≡ start_of other
same_start schedule other h = λ i. start_of (record { service = h.service i; server = h.server i; profile = h.profile i; twin = h.twin i; marks = h.marks i; lasting = h.lasting i; clients = h.clients i; events = schedule.events })

pub legal_reported : {State : Type 0} (service : ℕ → Machine State) (schedule other : Schedule) (trace also : List Moment) → FitsSchedule schedule → FitsSchedule other
    → Legal service schedule trace → Legal service other also → report schedule trace ≡ report other also → (schedule ≡ other) × (trace ≡ also)
legal_reported {State} service schedule other trace also fits too l k e =
    let start : World = start_of schedule in
    let runs : Machine State = service (kind_of schedule.service) in
    let same : IsSameHeader schedule other → IsPlayed runs start also =
    λ h. subst₂ (λ name w. IsPlayed (service (kind_of name)) w also) (sym h.service) (sym (same_start schedule other h)) (played service other also too k) in
    let size : Moment → ℕ = λ m. length m.sent in
    let texts = sym (report_is (λ m. m) size (λ m. refl) schedule trace) ∙ (e ∙ report_is (λ m. m) size (λ m. refl) other also) in
    let all = determined_reported (λ m. m.event) events_of size (λ clients k m. packet_lines clients k m.sent) schedule other (IsPlayed runs start) fits too (played_determined runs start)
    trace also (world_after start trace) (world_after (start_of other) also) (played service schedule trace fits l) same texts in
    (same_schedule schedule other all.0 (sym l.events_are ∙ (ap events_of all.1 ∙ k.events_are)), all.1)

-- readable turns
readable_front : (server : Addr) (clients : List Client) (m : Moment) (earlier : List Moment) → AllByRecursion (IsReadableTurn server clients) (m ∷ earlier)
    → AllByRecursion (IsReadableTurn server clients) earlier × FitsEvent m.event
readable_front server clients m earlier p = (p.1, p.0.0)

abbrev AreReadable : Schedule → List Moment → Type 0
AreReadable schedule trace = AllByRecursion (IsReadableTurn schedule.server (its_clients schedule)) trace

-- what a turn tells, and the number of its packets
abbrev turn_of : Moment → Event × List Packet
turn_of m = (m.event, m.sent)

abbrev size_of : Event × List Packet → ℕ
size_of turn = length turn.1

readable_reports : (server : Addr) (clients : List Client) → ReportsPackets (moments turn_of size_of (λ m. refl) clients) (AllByRecursion (IsReadableTurn server clients))
readable_reports server clients = λ m n earlier older k r s p q same event nr ns e.
    let sent = packets_cut server clients k m.sent n.sent r s p.0.1 q.0.1 nr ns e in
    (ap₂ (λ x y. (x, y)) event sent.0, sent.1)

pub readable_reported : (schedule other : Schedule) (trace also : List Moment) → FitsSchedule schedule → FitsSchedule other
    → AreReadable schedule trace → AreReadable other also → report schedule trace ≡ report other also
    → (schedule.service ≡ other.service) × (schedule.server ≡ other.server) × (schedule.profile ≡ other.profile) × (schedule.twin ≡ other.twin) × (schedule.marks ≡ other.marks) × (schedule.lasting ≡ other.lasting) × (schedule.clients ≡ other.clients) × (turns_of trace ≡ turns_of also)
readable_reported schedule other trace also fits too p q e =
    let texts = sym (report_is turn_of size_of (λ m. refl) schedule trace) ∙ (e ∙ report_is turn_of size_of (λ m. refl) other also) in
    let all = reported (moments turn_of size_of (λ m. refl)) schedule other (AreReadable schedule) fits too (readable_front schedule.server (its_clients schedule))
    (readable_reports schedule.server (its_clients schedule)) trace also (world_after (start_of schedule) trace) (world_after (start_of other) also) p
    (λ h. subst₂ (λ server clients. AllByRecursion (IsReadableTurn server clients) also) (sym h.server) (sym (same_clients schedule other h)) q) texts in
    (all.0.service, all.0.server, all.0.profile, all.0.twin, all.0.marks, all.0.lasting, all.0.clients, all.1)
