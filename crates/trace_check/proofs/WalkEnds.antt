-- A walk begins after the header of a report, and ends before its closing lines.
use Rattle.std.proofs.Common.{◌≡◌, ℕ, ◌+◌, ◌-◌, ◌≤◌, List, [], ◌++◌, take, drop, length, append_assoc, append-nil, refl, sym, ap, ap₂, ◌∙◌, subst, arith}
use Rattle.std.specs.List.{flat_map}
use Rattle.std.proofs.lemmas.List.{length-map, take-append-drop}
use Rattle.server_trait.specs.Service.{Machine}
use Rattle.ft_io.specs.declared.Key.{Key}
use Rattle.ft_model.specs.Client.{Client, received}
use Rattle.ft_model.specs.Legal.{start_of}
use Rattle.ft_model.specs.Network.{Packet, destination_of}
use Rattle.ft_model.specs.Playable.{IsPlayable}
use Rattle.ft_model.specs.Report.{client_lines, closing_lines, end_line, event_lines, header, log_line, report}
use Rattle.ft_model.specs.World.{World, Moment, Joint, world_after, with_client}
use Rattle.ft_model.specs.declared.line.Draft.TheVariants.{Begun}
use Rattle.ft_model.specs.declared.schedule.Schedule.{Schedule}
use Rattle.ft_model.proofs.Happened.{Happened, holds_after}
use Rattle.ft_model.proofs.Happened.Happened.{log_received, client_received, client_moved, server_turned, server_booted, server_down}
use Rattle.ft_model.proofs.PlayableLemmas.{playable}
use Rattle.line_check.specs.HeaderText.{header_so_far}
use Rattle.line_check.proofs.HeaderLines.{header_is}
use Rattle.plain_world.specs.WorldState.{WorldState, IsAt}
use Rattle.report_laws.specs.Canonical.{FitsLimit, HeaderAccepted, IsWithinLimits, schedule_bytes, profiled}
use Rattle.report_laws.specs.Transitions.{IsReport, clients_in}
use Rattle.report_laws.specs.TurnLines.{schedule_through}
use Rattle.report_laws.proofs.ReadLines.{own_text_read, clients_short, profile_short}
use Rattle.report_laws.proofs.WholeReports.{few_clients, fits_schedule}
use Rattle.trace_check.specs.declared.check.Yes.{Yes}
use Rattle.trace_check.specs.declared.walk.Place.{Place}
use Rattle.trace_check.specs.After.{IsAfter}
use Rattle.trace_check.specs.Leads.{IsReadTo}
use Rattle.trace_check.specs.Turn.{IsChecked}
use Rattle.trace_check.specs.Walk.{IsPlaceIn, IsWalked, Reports}

-- a schedule has as many clients after a trace as before
abbrev HasAll : World → World → Type 0
HasAll start w = length w.clients ≡ length start.clients

stays : (start before after : World) → after.clients ≡ before.clients → HasAll start before → HasAll start after
stays start before after e h = ap length e ∙ h

changes : (start before after : World) (key : Key) (change : Client → Client) → after.clients ≡ with_client key change before.clients → HasAll start before → HasAll start after
changes start before after key change e h = ap length e ∙ (length-map before.clients _ ∙ h)

one_more : {State : Type 0} (service : Machine State) (start before : World) (sent : List Packet) (after : World) → HasAll start before → Happened service before sent after → HasAll start after
one_more service start before sent after h (log_received message under t e) = stays start before after (ap (λ w. w.clients) e) h
one_more service start before sent after h (client_received segment under t e) = changes start before after (destination_of segment) (λ c. received c segment) (ap (λ w. w.clients) e) h
one_more service start before sent after h (client_moved number m) = changes start before after m.client.key (λ _. m.later) (ap (λ w. w.clients) m.after_is) h
one_more service start before sent after h (server_turned input node later brought is turn e) = stays start before after (ap (λ w. w.clients) e) h
one_more service start before sent after h (server_booted boot isn is_down larger t e) = stays start before after (ap (λ w. w.clients) e) h
one_more service start before sent after h (server_down t e) = stays start before after (ap (λ w. w.clients) e) h

clients_count : {State : Type 0} (service : Machine State) (start : World) (trace : List Moment) → Joint service start trace → HasAll start (world_after start trace)
clients_count service start trace j = holds_after service (HasAll start) start (λ s. refl) (one_more service start) trace j

header_short : (schedule : Schedule) → HeaderAccepted schedule → FitsLimit (Begun (record schedule { events = [] }))
header_short schedule h = clients_short (profiled schedule) schedule.clients (profile_short schedule schedule.profile h.server.short h.profile) h.clients

header_limits : (schedule : Schedule) → HeaderAccepted schedule → IsWithinLimits (schedule_through schedule [])
header_limits schedule h = record {
  header = record { one_logger = h.one_logger; unmarked = h.unmarked; fleeting = h.fleeting; service = h.service; server = h.server; profile = h.profile; clients = h.clients };
  events = tt;
  few = omega arith;
}

module _ {State : Type 0} (service : ℕ → Machine State) where
  same_schedule : (text : List ℕ) (schedule : Schedule) (at lines : ℕ) → IsReadTo service text (Begun schedule) at lines → schedule ≡ schedule_through schedule []
  same_schedule text schedule at lines r = ap (λ es. record schedule { events = es }) r.so_far.1

  header_within : (text : List ℕ) (schedule : Schedule) (at lines : ℕ) → IsReadTo service text (Begun schedule) at lines → IsWithinLimits schedule
  header_within text schedule at lines r = subst IsWithinLimits (sym (same_schedule text schedule at lines r)) (header_limits schedule r.so_far.0)

  -- what is known of a schedule whose header is read
  pub header_plays : (text : List ℕ) (schedule : Schedule) (at lines : ℕ) → IsReadTo service text (Begun schedule) at lines → IsPlayable schedule
  header_plays text schedule at lines r =
      playable (take (length (schedule_bytes (Begun schedule)) - 1) (schedule_bytes (Begun schedule))) schedule (own_text_read schedule (header_within text schedule at lines r))

  pub header_is_checked : (text : List ℕ) (schedule : Schedule) (at lines : ℕ) → IsReadTo service text (Begun schedule) at lines → IsChecked schedule
  header_is_checked text schedule at lines r = record {
    few = few_clients schedule (header_within text schedule at lines r);
    fits = fits_schedule schedule (header_within text schedule at lines r);
    apart = (header_plays text schedule at lines r).apart r.so_far.0.fleeting;
  }

  pub header_is_place : (text : List ℕ) (schedule : Schedule) (place : Place) → IsReadTo service text (Begun schedule) place.at place.lines
      → length (schedule_bytes (Begun schedule)) + 11 ≡ place.at → place.size ≡ place.at - 11 → IsPlaceIn text place
  header_is_place text schedule place r size own =
      let s : Schedule = schedule_through schedule [] in
      let same : length (schedule_bytes (Begun schedule)) ≡ length (schedule_bytes (Begun s)) =
      ap (λ t. length (schedule_bytes (Begun t))) (same_schedule text schedule place.at place.lines r) in
      let short : length (schedule_bytes (Begun s)) - 1 ≤ 8388608 = header_short schedule r.so_far.0 in
      (r.within, r.few, omega (arith, size, own, same, short))

  -- no turn is walked yet
  pub header_walks : (text : List ℕ) (schedule : Schedule) (place : Place) (world : WorldState State) → IsReadTo service text (Begun schedule) place.at place.lines
      → IsAfter service text schedule [] (drop place.at text) place.lines → length (schedule_bytes (Begun schedule)) + 11 ≡ place.at → place.size ≡ place.at - 11
      → IsAt service schedule [] world → IsWalked service text schedule [] place world
  header_walks text schedule place world r after size own at =
      let s : Schedule = schedule_through schedule [] in
      let same : schedule ≡ s = same_schedule text schedule place.at place.lines r in
      let bytes : length (schedule_bytes (Begun schedule)) ≡ length (schedule_bytes (Begun s)) = ap (λ t. length (schedule_bytes (Begun t))) same in
      let headed : header s ≡ header_so_far (Begun s) = header_is s r.so_far.0.one_logger r.so_far.0.unmarked r.so_far.0.fleeting refl in
      record {
        after = subst (λ t. IsAfter service text t [] (drop place.at text) place.lines) same after;
        stands = at;
        limits = header_limits schedule r.so_far.0;
        size_is = omega (arith, bytes, size, own);
        sent = ap length at.represents.packets;
        few = omega arith;
        text_is = r.text_is ∙ (ap (λ t. header_so_far (Begun t)) same ∙ (sym headed ∙ sym (append-nil (header s))));
      }

  -- the world has the schedule's clients
  pub few_in_world : (text : List ℕ) (schedule : Schedule) (trace : List Moment) (place : Place) (world : WorldState State) → IsChecked schedule
      → IsWalked service text schedule trace place world → length world.clients ≤ 16
  few_in_world text schedule trace place world c w =
      let here : length world.clients ≡ length (world_after (start_of schedule) trace).clients = ap length w.stands.represents.clients in
      let all : length (world_after (start_of schedule) trace).clients ≡ length (clients_in schedule) = clients_count (service _) (start_of schedule) trace w.stands.legal.joint in
      let lines : length (clients_in schedule) ≡ length schedule.clients = length-map schedule.clients _ in
      let few : length schedule.clients ≤ 16 = c.few in
      omega (arith, here, all, lines, few)

  -- the closing lines that are due
  pub closing_is_due : (text : List ℕ) (schedule : Schedule) (trace : List Moment) (place : Place) (world : WorldState State) (due : List ℕ) → IsWalked service text schedule trace place world
      → due ≡ client_lines 1 world.clients ++ (flat_map log_line world.log.entries ++ end_line world.turns)
      → due ≡ closing_lines (world_after (start_of schedule) trace) (length trace)
  closing_is_due text schedule trace place world due w e =
      e ∙ ap₂ ◌++◌ (ap (client_lines 1) w.stands.represents.clients)
      (ap₂ ◌++◌ (ap (λ log. flat_map log_line log.entries) w.stands.represents.log) (ap end_line w.stands.turns))

  pub walk_reports : (text : List ℕ) (schedule : Schedule) (trace : List Moment) (place : Place) (world : WorldState State) (counts : Yes) (due : List ℕ)
      → IsWalked service text schedule trace place world → due ≡ client_lines 1 world.clients ++ (flat_map log_line world.log.entries ++ end_line world.turns)
      → drop place.at text ≡ due → counts.events ≡ world.turns → counts.packets ≡ length world.packets → Reports service text counts
  walk_reports text schedule trace place world counts due w e rest events packets =
      let s : Schedule = schedule_through schedule trace in
      let closing : List ℕ = closing_lines (world_after (start_of schedule) trace) (length trace) in
      let whole : text ≡ report s trace =
      sym (take-append-drop place.at text)
      ∙ (ap₂ ◌++◌ w.text_is (rest ∙ closing_is_due text schedule trace place world due w e) ∙ append_assoc (header s) (event_lines (clients_in schedule) trace) closing) in
      let reported : IsReport service text = record {
        schedule = s;
        trace = trace;
        within = w.limits;
        legal = record { joint = w.stands.legal.joint; events_are = w.stands.legal.events_are; allowed = w.stands.legal.allowed };
        packets = w.few;
        text_is = whole;
      } in
      (reported, events ∙ w.stands.turns, packets ∙ w.sent)
