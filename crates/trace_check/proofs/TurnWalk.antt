-- A turn that is played and told as it was played leads on, and one that is told otherwise decides about the text.
use Rattle.std.proofs.Common.{◌≡◌, ℕ, ◌+◌, ◌-◌, ◌<◌, ◌≤◌, ◌^◌, Bool, false, nat_le, inl, Option, None, Some, is_some, List, [], ◌∷◌, ◌++◌, codes, decimal, take, drop, length, map, length-append, append_assoc, append-nil, refl, sym, ap, ap₂, ◌∙◌, subst, arith, true≢false}
use Rattle.std.specs.List.{AllByRecursion}
use Rattle.std.proofs.lemmas.Bool.{leb-false, or_parts}
use Rattle.std.proofs.lemmas.List.{take-append-drop, drop-append-le, length-take-le, length-map}
use Rattle.std.proofs.Math.Seq.{drop-append_seam}
use Rattle.server_trait.specs.Service.{Machine, WritesBytes}
use Rattle.ft_model.specs.Client.{Client}
use Rattle.ft_model.specs.Image.{HasWires}
use Rattle.ft_model.specs.Legal.{IsLegalFor, Legal, start_of, refusal}
use Rattle.ft_model.specs.Network.{Packet}
use Rattle.ft_model.specs.Readable.{FitsEvent, FitsSchedule, IsReadable, IsReadableTurn}
use Rattle.ft_model.specs.Report.{content_words, event_line, packet_count, packet_line, packet_lines, way_of}
use Rattle.ft_model.specs.Schedule.{kind_of}
use Rattle.ft_model.specs.Texts.{line, way_text}
use Rattle.ft_model.specs.Wire.{HasWireBy}
use Rattle.ft_model.specs.World.{World, Moment, events_of, world_after}
use Rattle.ft_model.specs.declared.event.Event.{Event}
use Rattle.ft_model.specs.declared.event.EventWhy.{EventWhy}
use Rattle.ft_model.specs.declared.line.Draft.TheVariants.{Begun}
use Rattle.ft_model.specs.declared.line.Line.TheVariants as says
use Rattle.ft_model.specs.declared.schedule.Schedule.{Schedule}
use Rattle.ft_model.proofs.FormedWorld.{wires_sent}
use Rattle.ft_model.proofs.Readable.{legal_readable}
use Rattle.ft_model.proofs.Running.{HasSmallOutputs}
use Rattle.ft_model.proofs.ReportContent.{word_way, words_content}
use Rattle.ft_model.proofs.ReportPackets.{way_fits}
use Rattle.ft_model.proofs.ReportWords.{word_decimal}
use Rattle.plain_packets.specs.Sent.{kept_wire, CanBeKept}
use Rattle.plain_packets.proofs.Kept.{can_be_kept}
use Rattle.line_check.proofs.EventRanges.{askable_of, fits_of}
use Rattle.plain_world.specs.WorldState.{WorldState, IsAt, Steps}
use Rattle.report_laws.specs.declared.Law.{Law}
use Rattle.report_laws.specs.Canonical.{Follows, IsCanonical, IsWithinLimits}
use Rattle.report_laws.specs.Lines.{lines_in}
use Rattle.report_laws.specs.Transitions.{IsEventLine, IsPacketLine, actor, clients_in, grammar_in, report_so_far, report_with_turn}
use Rattle.report_laws.specs.Transitions.Position.{InTurn}
use Rattle.report_laws.specs.TurnLines.{schedule_through}
use Rattle.report_laws.specs.Verdict.{IsRejected}
use Rattle.report_laws.proofs.Accepted.{begun, event_accepted, whole_turn}
use Rattle.report_laws.proofs.CutLines.{line_cut}
use Rattle.report_laws.proofs.EventLines.{event_is_spelled}
use Rattle.report_laws.proofs.LineLemmas.{events_count}
use Rattle.report_laws.proofs.WholeReports.{fits_schedule}
use Rattle.trace_check.specs.declared.walk.Place.{Place}
use Rattle.trace_check.specs.After.{ReadsEvent, is_refused}
use Rattle.trace_check.specs.Leads.{Leads}
use Rattle.trace_check.specs.SentLines.{actor_along}
use Rattle.trace_check.specs.Turn.{AreSent, EndsTurn, IsChecked, ReportsPackets, ReportsTurn, with_events}
use Rattle.trace_check.specs.Walk.{IsPlayed, IsWalked}
use Rattle.trace_check.proofs.HeaderLines.{front_grows, leads_on}
use Rattle.trace_check.proofs.JudgedTurns.{legal_turn_leads, other_turn_decides}
use Rattle.trace_check.proofs.SentLines.{actor_is}

packet_cut : (schedule : Schedule) (n : ℕ) (packet : Packet) (rest : List ℕ) → n < 2 ^ 64 → IsReadable schedule.server (clients_in schedule) packet
    → lines_in (packet_line n (way_of (clients_in schedule) packet) packet ++ rest) ≡ packet_line n (way_of (clients_in schedule) packet) packet ∷ lines_in rest
unfolding packet_line
packet_cut schedule n packet rest small h =
    line_cut (codes "packet") (decimal n ∷ way_text (way_of (clients_in schedule) packet) ∷ content_words packet) rest
    (omega arith, (omega arith, (omega arith, (omega arith, (omega arith, (omega arith, tt))))))
    (word_decimal n small, (word_way (way_of (clients_in schedule) packet) (way_fits schedule.server (clients_in schedule) packet h), words_content schedule.server (clients_in schedule) packet h))

-- the events of a schedule don't matter to a packet's line
any_events : (schedule : Schedule) (events : List Event) (n : ℕ) (lines : List (List ℕ)) → EndsTurn schedule n lines → EndsTurn (with_events schedule events) n lines
any_events schedule events n [] ends = tt
any_events schedule events n (line ∷ lines) ends = λ packet is. ends packet (record { readable = is.readable; written = is.written; number = is.number; spelled = is.spelled })

all_have_wires : (schedule : Schedule) (sent : List Packet) → AllByRecursion (IsReadable schedule.server (clients_in schedule)) sent → AllByRecursion CanBeKept sent
all_have_wires schedule [] all = tt
all_have_wires schedule (packet ∷ sent) all = (can_be_kept all.0.1 packet all.0.2, all_have_wires schedule sent all.1)

-- one event more, within the limits
limits_grow : (schedule : Schedule) (trace : List Moment) (event : Event) → IsWithinLimits (schedule_through schedule trace) → Follows (Begun (schedule_through schedule trace)) (says.Event event)
    → length trace < 100000 → IsWithinLimits (with_events schedule (events_of trace ++ event ∷ []))
limits_grow schedule trace event within follows few =
    let same : length (events_of trace) ≡ length trace = events_count trace in
    let more : length (events_of trace ++ event ∷ []) ≡ length (events_of trace) + 1 = length-append (events_of trace) (event ∷ []) in
    record {
      header = record {
        one_logger = within.header.one_logger;
        unmarked = within.header.unmarked;
        fleeting = within.header.fleeting;
        service = within.header.service;
        server = within.header.server;
        profile = within.header.profile;
        clients = within.header.clients;
      };
      events = event_accepted (record schedule { events = [] }) (events_of trace) event within.events follows;
      few = omega (arith, same, more, few);
    }

none_of : (why : Option EventWhy) → is_some why ≡ false → why ≡ None
none_of None e = refl
none_of (Some why) e = absurd (true≢false e)

pub may_happen : (schedule : Schedule) (trace : List Moment) (event : Event) → is_refused schedule trace event ≡ false
    → (refusal (world_after (start_of schedule) trace) event ≡ None) × (length trace < 100000)
may_happen schedule trace event e =
    let parts = or_parts (is_some (refusal (world_after (start_of schedule) trace) event)) (nat_le 100000 (length trace)) e in
    (none_of (refusal (world_after (start_of schedule) trace) event) parts.0, leb-false 100000 (length trace) parts.1)

pub event_fits : (schedule : Schedule) (n : ℕ) (event : Event) (text : List ℕ) → IsEventLine schedule n event text → FitsEvent event
event_fits schedule n event text is = fits_of event (askable_of (Begun schedule) (take (length is.asked - 1) is.asked) event is.canonical.accepted)

module _ {State : Type 0} (service : ℕ → Machine State) where
  -- the lines of a turn's packets lead on in the turn
  packets_lead : (text : List ℕ) (schedule : Schedule) (trace : List Moment) (event : Event) (done todo : List Packet) (front rest : List ℕ) (lines : ℕ)
      → packet_count trace + length done + length todo ≤ 200000 → AllByRecursion (IsReadable schedule.server (clients_in schedule)) todo
      → AllByRecursion (HasWireBy (grammar_in schedule)) todo
      → front ≡ packet_lines (clients_in schedule) (packet_count trace + length done + 1) todo ++ rest
      → Leads service text (InTurn schedule trace event done) front lines → Leads service text (InTurn schedule trace event (done ++ todo)) rest (lines + length todo)
  packets_lead text schedule trace event done [] front rest lines few all written is l =
      let same : lines ≡ lines + length {A = Packet} [] = omega arith in
      subst (Leads service text (InTurn schedule trace event (done ++ [])) rest) same
      (subst (λ s. Leads service text (InTurn schedule trace event s) rest lines) (sym (append-nil done)) (subst (λ f. Leads service text (InTurn schedule trace event done) f lines) is l))
  packets_lead text schedule trace event done (packet ∷ todo) front rest lines few all written is l =
      let clients : List Client = clients_in schedule in
      let n : ℕ = packet_count trace + length done + 1 in
      let first : List ℕ = packet_line n (way_of clients packet) packet in
      let more : List ℕ = packet_lines clients (n + 1) todo ++ rest in
      let whole : front ≡ first ++ more = is ∙ append_assoc first (packet_lines clients (n + 1) todo) rest in
      let small : n < 2 ^ 64 = omega (arith, few) in
      let cut : lines_in front ≡ first ∷ lines_in more = ap lines_in whole ∙ packet_cut schedule n packet more small all.0 in
      let within : n ≤ 200000 = omega (arith, few) in
      let here : IsPacketLine schedule n packet first = record { readable = all.0; written = written.0; number = within; spelled = refl } in
      let next : Leads service text (InTurn schedule trace event (done ++ packet ∷ [])) more (lines + 1) =
      leads_on service text first front more (InTurn schedule trace event done) (InTurn schedule trace event (done ++ packet ∷ [])) lines l cut (inl (packet, (first, refl, here), refl)) in
      let longer : length (done ++ packet ∷ []) ≡ length done + 1 = length-append done (packet ∷ []) in
      let number : n + 1 ≡ packet_count trace + length (done ++ packet ∷ []) + 1 = omega (arith, longer) in
      let on : packet_count trace + length (done ++ packet ∷ []) + length todo ≤ 200000 = omega (arith, longer, few) in
      let count : (lines + 1) + length todo ≡ lines + length (packet ∷ todo) = omega arith in
      subst (Leads service text (InTurn schedule trace event (done ++ packet ∷ todo)) rest) count
      (subst (λ s. Leads service text (InTurn schedule trace event s) rest ((lines + 1) + length todo)) (append_assoc done (packet ∷ []) todo)
      (packets_lead text schedule trace event (done ++ packet ∷ []) todo more rest (lines + 1) on all.1 written.1 (ap (λ k. packet_lines clients k todo ++ rest) number) next))

  -- the trace with an event that was played
  legal_so : (schedule : Schedule) (trace : List Moment) (world : WorldState State) → IsAt service schedule trace world → Legal service (schedule_through schedule trace) trace
  legal_so schedule trace world at = record { joint = at.legal.joint; events_are = at.legal.events_are; allowed = at.legal.allowed }

  -- the law by which what is sent can be written and read
  abbrev AllReadable : Type 0
  AllReadable = (schedule : Schedule) (trace : List Moment) → FitsSchedule schedule → Legal service schedule trace
      → AllByRecursion (IsReadableTurn schedule.server (clients_in schedule)) trace × AllByRecursion (HasWires (grammar_in schedule)) trace

  pub all_readable : ((kind : ℕ) → HasSmallOutputs (service kind)) → ((kind : ℕ) → WritesBytes (service kind)) → AllReadable
  all_readable small writes schedule trace fits legal = (
    legal_readable service small writes schedule trace fits legal,
    wires_sent (service (kind_of schedule.service)) (small (kind_of schedule.service)) (writes (kind_of schedule.service)) (start_of schedule) trace legal.joint,
  )

  -- .. and that by which a schedule has one trace
  abbrev OneTrace : Type 0
  OneTrace = (schedule : Schedule) (trace other : List Moment) → Legal service schedule trace → Legal service schedule other → trace ≡ other

  sent_readable : AllReadable → (text : List ℕ) (schedule : Schedule) (trace : List Moment) (moment : Moment) (place : Place) (before : ℕ) (turn : Law) (world : WorldState State)
      → IsPlayed service text schedule trace moment place before turn world → AllByRecursion (IsReadable schedule.server (clients_in schedule)) moment.sent
  sent_readable readable text schedule trace moment place before turn world p =
      (readable (schedule_through schedule (moment ∷ trace)) (moment ∷ trace) (fits_schedule (schedule_through schedule (moment ∷ trace)) p.limits)
      (legal_so schedule (moment ∷ trace) world p.stands)).0.0.1

  sent_written : AllReadable → (text : List ℕ) (schedule : Schedule) (trace : List Moment) (moment : Moment) (place : Place) (before : ℕ) (turn : Law) (world : WorldState State)
      → IsPlayed service text schedule trace moment place before turn world → AllByRecursion (HasWireBy (grammar_in schedule)) moment.sent
  sent_written readable text schedule trace moment place before turn world p =
      (readable (schedule_through schedule (moment ∷ trace)) (moment ∷ trace) (fits_schedule (schedule_through schedule (moment ∷ trace)) p.limits)
      (legal_so schedule (moment ∷ trace) world p.stands)).1.0

  pub moment_is_sent : AllReadable → (text : List ℕ) (schedule : Schedule) (trace : List Moment) (moment : Moment) (place : Place) (before : ℕ) (turn : Law) (world : WorldState State)
      → IsPlayed service text schedule trace moment place before turn world → AreSent world.packets before moment.sent
  moment_is_sent readable text schedule trace moment place before turn world p = record {
    wires_are = p.packets;
    count = p.count;
    have = all_have_wires schedule moment.sent (sent_readable readable text schedule trace moment place before turn world p);
  }

  -- the text with a turn's packet lines
  turn_text : (text : List ℕ) (schedule : Schedule) (trace : List Moment) (moment : Moment) (from end : ℕ) → from ≤ end
      → take from text ≡ report_with_turn (schedule_through schedule (moment ∷ trace)) trace moment.event []
      → drop from (take end text) ≡ packet_lines (clients_in schedule) (packet_count trace + 1) moment.sent
      → take end text ≡ report_so_far (schedule_through schedule (moment ∷ trace)) (moment ∷ trace)
  turn_text text schedule trace moment from end more is reported =
      let s : Schedule = schedule_through schedule (moment ∷ trace) in
      let before : List ℕ = report_so_far s trace in
      let e : List ℕ = event_line (length trace + 1) moment.event in
      let ps : List ℕ = packet_lines (clients_in schedule) (packet_count trace + 1) moment.sent in
      let whole : take end text ≡ before ++ (e ++ ps) =
      front_grows text from end more ∙ (ap₂ ◌++◌ is reported
      ∙ (append_assoc before (e ++ []) ps ∙ ap (λ l. before ++ (l ++ ps)) (append-nil e))) in
      whole_turn s trace moment.event moment.sent moment.world (take end text) whole

  -- a turn that is told as it was played
  pub turn_leads : AllReadable → (text : List ℕ) (schedule : Schedule) (trace : List Moment) (moment : Moment) (place after : Place) (before count : ℕ) (turn : Law) (world : WorldState State)
      → IsPlayed service text schedule trace moment place before turn world → ReportsTurn text schedule place.at after.at (before + 1) moment.sent
      → before + count ≡ length world.packets → after.lines ≡ place.lines + count → after.size ≡ place.size
      → IsWalked service text schedule (moment ∷ trace) after world
  turn_leads readable text schedule trace moment place after before count turn world p t counted lines size =
      let s : Schedule = schedule_through schedule (moment ∷ trace) in
      let m : ℕ = length moment.sent in
      let known : before ≡ packet_count trace = p.sent in
      let all : length world.packets ≡ before + m = p.count in
      let most : (before + 1) + m ≤ 200001 = t.few in
      let same : count ≡ m = omega (arith, counted, all) in
      let few : packet_count trace + length {A = Packet} [] + m ≤ 200000 = omega (arith, known, most) in
      let first : before + 1 ≡ packet_count trace + length {A = Packet} [] + 1 = omega (arith, known) in
      let reported : drop place.at (take after.at text) ≡ packet_lines (clients_in schedule) (before + 1) moment.sent = t.is.reported in
      let size_of : length (take after.at text) ≡ after.at = length-take-le after.at text t.is.within in
      let behind : drop place.at text ≡ packet_lines (clients_in schedule) (packet_count trace + length {A = Packet} [] + 1) moment.sent ++ drop after.at text =
      ap (drop place.at) (sym (take-append-drop after.at text))
      ∙ (drop-append-le place.at (take after.at text) (drop after.at text) (omega (arith, size_of, t.is.begins))
      ∙ ap (λ l. l ++ drop after.at text) (reported ∙ ap (λ k. packet_lines (clients_in schedule) k moment.sent) first)) in
      let on : Leads service text (InTurn s trace moment.event moment.sent) (drop after.at text) (place.lines + m) =
      packets_lead text s trace moment.event [] moment.sent (drop place.at text) (drop after.at text) place.lines few
      (sent_readable readable text schedule trace moment place before turn world p) (sent_written readable text schedule trace moment place before turn world p) behind p.leads in
      let counts : place.lines + m ≡ after.lines = omega (arith, same, lines) in
      let next : (before + 1) + m ≡ packet_count trace + m + 1 = omega (arith, known) in
      let ends : EndsTurn s (packet_count trace + m + 1) (lines_in (drop after.at text)) =
      any_events schedule (events_of (moment ∷ trace)) (packet_count trace + m + 1) (lines_in (drop after.at text))
      (subst (λ k. EndsTurn schedule k (lines_in (drop after.at text))) next t.is.ends) in
      record {
        after = legal_turn_leads service text (drop after.at text) s trace moment.event moment.sent moment.world after.lines
            (subst (Leads service text (InTurn s trace moment.event moment.sent) (drop after.at text)) counts on) ends (legal_so schedule (moment ∷ trace) world p.stands);
        stands = p.stands;
        limits = p.limits;
        size_is = p.size_is ∙ sym size;
        sent = omega (arith, all, known);
        few = omega (arith, known, most);
        text_is = turn_text text schedule trace moment place.at after.at t.is.begins p.text_is (reported ∙ ap (λ k. packet_lines (clients_in schedule) (k + 1) moment.sent) known);
      }

  -- no legal trace has other packets in the turn that was played
  same_sent : (one other : List Moment) (m n : Moment) → (m ∷ one) ≡ (n ∷ other) → m.sent ≡ n.sent
  same_sent one other m n e = ap (λ ms. sent_first ms) e
    where
      sent_first : List Moment → List Packet
      sent_first [] = []
      sent_first (m ∷ ms) = m.sent

  pub no_other_turn : OneTrace → (text : List ℕ) (schedule : Schedule) (trace : List Moment) (moment : Moment) (place : Place) (before : ℕ) (turn : Law) (world : WorldState State)
      → IsPlayed service text schedule trace moment place before turn world → ((end : ℕ) → ReportsTurn text schedule place.at end (before + 1) moment.sent → ⊥)
      → (sent : List Packet) (w : World) (end : ℕ) → ReportsTurn text schedule place.at end (before + 1) sent
      → IsLegalFor service (with_events schedule (events_of trace ++ moment.event ∷ [])) (events_of trace ++ moment.event ∷ []) (record { event = moment.event; sent = sent; world = w } ∷ trace) → ⊥
  no_other_turn one text schedule trace moment place before turn world p never sent w end t legal =
      let other : Moment = record { event = moment.event; sent = sent; world = w } in
      let same : (other ∷ trace) ≡ (moment ∷ trace) = one (schedule_through schedule (moment ∷ trace)) (other ∷ trace) (moment ∷ trace) legal (legal_so schedule (moment ∷ trace) world p.stands) in
      never end (subst (ReportsTurn text schedule place.at end (before + 1)) (same_sent trace trace other moment same) t)

  -- the packet lines of a turn are told up to the first line that isn't one
  pub turn_is_rejected : (text : List ℕ) (schedule : Schedule) (at lines reported end count : ℕ) (turn : Law)
      → at ≤ end → end ≤ length text → reported + count ≤ 200000
      → ((events : List Event) (trace : List Moment) (event : Event) (n : ℕ) → packet_count trace ≡ reported
      → Leads service text (InTurn (with_events schedule events) trace event []) (drop at text) n
      → ReportsPackets service text (with_events schedule events) trace event at end (n + count) count)
      → EndsTurn schedule (reported + count + 1) (lines_in (drop end text))
      → (trace : List Moment) (event : Event) → packet_count trace ≡ reported → turn ≡ actor (world_after (start_of schedule) trace) event
      → Leads service text (InTurn (with_events schedule (events_of trace ++ event ∷ [])) trace event []) (drop at text) lines
      → ((sent : List Packet) (w : World) (to : ℕ) → ReportsTurn text schedule at to (reported + 1) sent
      → IsLegalFor service (with_events schedule (events_of trace ++ event ∷ [])) (events_of trace ++ event ∷ []) (record { event = event; sent = sent; world = w } ∷ trace) → ⊥)
      → IsRejected service text (lines + count + 1) turn
  turn_is_rejected text schedule at lines reported end count turn more within few reports ends trace event known law leads never =
      let s : Schedule = with_events schedule (events_of trace ++ event ∷ []) in
      let t : ReportsPackets service text s trace event at end (lines + count) count = reports (events_of trace ++ event ∷ []) trace event lines known leads in
      let number : reported + count + 1 ≡ (reported + 1) + length t.sent = omega (arith, t.count_is) in
      let next : reported + count + 1 ≡ packet_count trace + length t.sent + 1 = omega (arith, t.count_is, known) in
      let here : ReportsTurn text schedule at end (reported + 1) t.sent = record {
        is = record {
          begins = more;
          within = within;
          reported = t.reported ∙ ap (λ k. packet_lines (clients_in schedule) (k + 1) t.sent) known;
          ends = subst (λ k. EndsTurn schedule k (lines_in (drop end text))) number ends;
        };
        few = omega (arith, number, few);
      } in
      let last : EndsTurn s (packet_count trace + length t.sent + 1) (lines_in (drop end text)) =
      subst (λ k. EndsTurn s k (lines_in (drop end text))) next (any_events schedule (events_of trace ++ event ∷ []) (reported + count + 1) (lines_in (drop end text)) ends) in
      subst (IsRejected service text (lines + count + 1)) (sym law)
      (other_turn_decides service text (drop end text) s trace event t.sent (lines + count) t.leads last (λ w legal. never t.sent w end here legal))

  -- the next event is played
  pub event_is_played : (text : List ℕ) (schedule : Schedule) (trace : List Moment) (place next : Place) (event : Event) (old new : WorldState State) (turn : Law) (before : ℕ)
      → IsWalked service text schedule trace place old → (reads : ReadsEvent service text (schedule_through schedule trace) trace event place.at next.at place.lines next.size)
      → place.at ≤ next.at → next.lines ≡ place.lines + 1 → is_refused schedule trace event ≡ false → (s : Steps service schedule trace event old new)
      → before ≡ length old.packets → turn ≡ actor_along old.packets event → IsPlayed service text schedule trace s.moment next before turn new
  event_is_played text schedule trace place next event old new turn before walked reads later lines free s known law =
      let e : Event = s.moment.event in
      let w : World = world_after (start_of schedule) trace in
      let through : Schedule = schedule_through schedule trace in
      let wires : old.packets ≡ map kept_wire w.packets = walked.stands.represents.packets in
      let r : ReadsEvent service text through trace e place.at next.at place.lines next.size =
      subst (λ e. ReadsEvent service text through trace e place.at next.at place.lines next.size) (sym s.event) reads in
      let open_to : is_refused schedule trace e ≡ false = subst (λ e. is_refused schedule trace e ≡ false) (sym s.event) free in
      let acts : turn ≡ actor_along old.packets e = subst (λ e. turn ≡ actor_along old.packets e) (sym s.event) law in
      let few : length trace < 100000 = (may_happen schedule trace e open_to).1 in
      let follows : Follows (Begun through) (says.Event e) = subst (IsCanonical (Begun through) (says.Event e)) r.is.canonical.spelled r.is.canonical in
      let longer : length new.packets ≡ length old.packets + length (map kept_wire s.moment.sent) = ap length s.packets ∙ length-append old.packets (map kept_wire s.moment.sent) in
      let mapped : length (map kept_wire s.moment.sent) ≡ length s.moment.sent = length-map s.moment.sent kept_wire in
      record {
        leads = subst (Leads service text (InTurn (schedule_through schedule (s.moment ∷ trace)) trace e []) (drop next.at text)) (sym lines) (r.allowed open_to);
        stands = s.at;
        limits = limits_grow schedule trace e walked.limits follows few;
        size_is = r.size_is;
        sent = known ∙ walked.sent;
        packets = ap₂ drop known s.packets ∙ drop-append_seam old.packets (map kept_wire s.moment.sent);
        count = omega (arith, longer, mapped, known);
        few = walked.few;
        law_is = acts ∙ (ap (λ ws. actor_along ws e) wires ∙ actor_is w e);
        text_is = front_grows text place.at next.at later
            ∙ begun through trace (drop place.at (take next.at text)) (take place.at text) e walked.text_is (event_is_spelled e (length trace + 1) (drop place.at (take next.at text)) through r.is);
      }

  -- the event of a line may happen, and does
  pub event_plays : (text : List ℕ) (schedule : Schedule) (trace : List Moment) (place next : Place) (event : Event) (old new : WorldState State) (turn : Law) (before : ℕ) (refused : Bool)
      → IsChecked schedule → IsWalked service text schedule trace place old → ReadsEvent service text (schedule_through schedule trace) trace event place.at next.at place.lines next.size
      → place.at ≤ next.at → next.lines ≡ place.lines + 1 → ((s : Schedule) (t : List Moment) → IsAt service s t old → refused ≡ is_refused s t event) → refused ≡ false
      → ((s : Schedule) (t : List Moment) → IsAt service s t old → FitsSchedule s → FitsEvent event → refusal (world_after (start_of s) t) event ≡ None → Steps service s t event old new)
      → before ≡ length old.packets → turn ≡ actor_along old.packets event → (moment : Moment) × IsPlayed service text schedule trace moment next before turn new
  event_plays text schedule trace place next event old new turn before refused checked walked reads later lines test false_so steps known law =
      let free : is_refused schedule trace event ≡ false = sym (test schedule trace walked.stands) ∙ false_so in
      let fits : FitsEvent event = event_fits (schedule_through schedule trace) (length trace + 1) event (drop place.at (take next.at text)) reads.is in
      let s : Steps service schedule trace event old new = steps schedule trace walked.stands checked.fits fits (may_happen schedule trace event free).0 in
      (s.moment, event_is_played text schedule trace place next event old new turn before walked reads later lines free s known law)

  pub few_turns : (text : List ℕ) (schedule : Schedule) (trace : List Moment) (moment : Moment) (place : Place) (before : ℕ) (turn : Law) (world : WorldState State)
      → IsPlayed service text schedule trace moment place before turn world → world.turns ≤ 100000
  few_turns text schedule trace moment place before turn world p =
      let turns : world.turns ≡ length (moment ∷ trace) = p.stands.turns in
      let same : length (events_of (moment ∷ trace)) ≡ length (moment ∷ trace) = events_count (moment ∷ trace) in
      let few : length (events_of (moment ∷ trace)) ≤ 100000 = p.limits.few in
      omega (arith, turns, same, few)

  pub known_before : (text : List ℕ) (schedule : Schedule) (trace : List Moment) (moment : Moment) (place : Place) (before : ℕ) (turn : Law) (world : WorldState State)
      → IsPlayed service text schedule trace moment place before turn world → (before ≤ length world.packets) × (before ≤ 200000)
  known_before text schedule trace moment place before turn world p =
      let count : length world.packets ≡ before + length moment.sent = p.count in
      let sent : before ≡ packet_count trace = p.sent in
      let few : packet_count trace ≤ 200000 = p.few in
      (omega (arith, count), omega (arith, sent, few))
