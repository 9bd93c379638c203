-- The traces of the world with marks: what a step of the code's world does is one event more of them.
use Rattle.std.proofs.Common.{◌≡◌, ◌∙◌, ℕ, ◌+◌, Some, None, is_some, IsSome, Option, List, [], ◌∷◌, ◌++◌, length, refl, sym, ap, ap₂, arith, length-append}
use Rattle.std.specs.List.{flat_map}
use Rattle.std.specs.Option.{option_map_or}
use Rattle.seq_arith.specs.Damage.{flipped}
use Rattle.seq_arith.specs.PacketGrammar as segments
use Rattle.sample_servers.specs.declared.any_service.AnyService.{AnyService}
use Rattle.tcp_rules.specs.Profile.{grammar_of}
use Rattle.ft_model.specs.Client.{Client}
use Rattle.ft_model.specs.Network.Packet.{To_server, To_client, To_logger, From_logger}
use Rattle.ft_model.specs.Node.Input.{Packet_comes, Message_comes, Tick_comes}
use Rattle.ft_model.specs.Report.{header, event_line, packet_line, line_of_packet, content_words, client_lines, log_line, end_line}
use Rattle.ft_model.specs.Schedule.{clients_of, kind_of}
use Rattle.ft_model.specs.World.{segment_or_noise}
use Rattle.ft_model.specs.declared.event.Event.{Event}
use Rattle.ft_model.specs.declared.event.Event.TheVariants.{Boot, Crash, Tick, Deliver, Flip}
use Rattle.ft_model.specs.declared.schedule.Schedule.{Schedule}
use Rattle.ft_model.specs.declared.way.Way.{Way}
use Rattle.mark_laws.specs.MarkedLog.{AnyMessage}
use Rattle.mark_laws.specs.MarkedLog.AnyMessage.{About_mark, Of_log}
use Rattle.mark_laws.specs.MarkedLegal.{IsMarkedLegalFor, marked_start, marked_events_of, marked_packets_sent}
use Rattle.mark_laws.specs.MarkedNode.{Marker, MarkedNode, MarkedInput}
use Rattle.mark_laws.specs.MarkedNode.MarkedInput.{Plain_comes, Mark_comes}
use Rattle.mark_laws.specs.MarkedWorld.{Parcel, MarkedWorld, MarkedMoment, MarkedHappens, MarkedJoint, ParcelComes, ComesAs, LogReceives, LogReads, ServerTurn, CanBeRead, bytes_of, input_of, marked_after, said_by}
use Rattle.mark_laws.specs.MarkedWorld.Parcel.{Usual, Mark_sent, Mark_answered}
use Rattle.mark_laws.specs.MarkedReport.{mark_words, way_of_marked, marked_parcel_line, marked_parcel_lines, marked_parcel_count, marked_event_lines, marked_report}
use Rattle.schedule_network.specs.AtNumber.{at_number}
use Rattle.net_schedule.specs.MarkedStep.{MarkedStandsAfter}
use Rattle.schedule_network.specs.StoredPackets.{Carried}
use Rattle.net_schedule.specs.SentPackets.{run_grammar, KeepsAllMarked, marked_parcels_of}
use Rattle.net_schedule.specs.Refinement.{Kept}
use Rattle.schedule_text.specs.Bytes.{content_by}
use Rattle.schedule_text.proofs.Contents.{content_of_mark, content_of_packet}
use Rattle.replay_run.specs.PacketLines.{line_of, stored_lines}
use Rattle.replay_run.specs.Traces.{any_marker}
use Rattle.replay_run.proofs.Following.{packet_is_read}
use Rattle.replay_run.proofs.Stored.{lines_stored, stored_is_read}
use Rattle.replay_check.proofs.Events.{last_event as last_same}

-- a trace has a moment for each event
as_many_events : (trace : List MarkedMoment) → length (marked_events_of trace) ≡ length trace
as_many_events [] = refl
as_many_events (moment ∷ earlier) = omega (arith, length-append (marked_events_of earlier) (moment.event ∷ []), as_many_events earlier)

pub as_many : (every : ℕ) (schedule : Schedule) (events : List Event) (trace : List MarkedMoment) → IsMarkedLegalFor (any_marker every) schedule events trace → length events ≡ length trace
as_many every schedule events trace l = ap length (sym l.events_are) ∙ as_many_events trace

-- the parcels of a moment come after those that were sent before
abbrev Grows : MarkedWorld → List Parcel → MarkedWorld → Type 0
Grows before sent after = after.parcels ≡ before.parcels ++ sent

turn_grows : {State : Type 0} (by : Marker State) (input : MarkedInput) (o : Option MarkedNode) (before : MarkedWorld) (sent : List Parcel) (after : MarkedWorld) → ServerTurn by input o before sent after → Grows before sent after
turn_grows by input None before sent after t = ap (λ (w : MarkedWorld). w.parcels) t.1
turn_grows by input (Some node) before sent after t = ap (λ (w : MarkedWorld). w.parcels) t.4

log_grows : (message : AnyMessage) (before : MarkedWorld) (sent : List Parcel) (after : MarkedWorld) → LogReceives message before sent after → Grows before sent after
log_grows (Of_log message) before sent after t = ap (λ (w : MarkedWorld). w.parcels) t.1
log_grows (About_mark message) before sent after t = ap (λ (w : MarkedWorld). w.parcels) t.1

read_grows : (said : Option AnyMessage) (before : MarkedWorld) (sent : List Parcel) (after : MarkedWorld) → LogReads said before sent after → Grows before sent after
read_grows (Some message) before sent after t = log_grows message before sent after t
read_grows None before sent after t = ap (λ (w : MarkedWorld). w.parcels) t.1

comes_grows : {State : Type 0} (by : Marker State) (parcel : Parcel) (before : MarkedWorld) (sent : List Parcel) (after : MarkedWorld) → ParcelComes by parcel before sent after → Grows before sent after
comes_grows by (Usual (To_server segment)) before sent after t = turn_grows by (Plain_comes (Packet_comes segment)) before.node before sent after t
comes_grows by (Usual (To_client segment)) before sent after t = ap (λ (w : MarkedWorld). w.parcels) t.3
comes_grows by (Usual (To_logger message)) before sent after t = log_grows (Of_log message) before sent after t
comes_grows by (Usual (From_logger message)) before sent after t = turn_grows by (Plain_comes (Message_comes message)) before.node before sent after t
comes_grows by (Mark_sent message) before sent after t = log_grows (About_mark message) before sent after t
comes_grows by (Mark_answered message) before sent after t = turn_grows by (Mark_comes message) before.node before sent after t

changed_grows : {State : Type 0} (by : Marker State) (parcel : Parcel) (bytes : List ℕ) (before : MarkedWorld) (sent : List Parcel) (after : MarkedWorld) → ComesAs by parcel bytes before sent after → Grows before sent after
changed_grows by (Usual (To_server segment)) bytes before sent after t = turn_grows by (Plain_comes (segment_or_noise (segments.reading bytes))) before.node before sent after t
changed_grows by (Usual (To_client segment)) bytes before sent after t = ap (λ (w : MarkedWorld). w.parcels) t.3
changed_grows by (Usual (To_logger message)) bytes before sent after t = read_grows (said_by (grammar_of before.profile) bytes) before sent after t
changed_grows by (Usual (From_logger message)) bytes before sent after t = turn_grows by (input_of (said_by (grammar_of before.profile) bytes)) before.node before sent after t
changed_grows by (Mark_sent message) bytes before sent after t = read_grows (said_by (grammar_of before.profile) bytes) before sent after t
changed_grows by (Mark_answered message) bytes before sent after t = turn_grows by (input_of (said_by (grammar_of before.profile) bytes)) before.node before sent after t

moment_grows : {State : Type 0} (by : Marker State) (event : Event) (before : MarkedWorld) (sent : List Parcel) (after : MarkedWorld) → MarkedHappens by before event sent after → Grows before sent after
moment_grows by (Boot boot isn) before sent after t = ap (λ (w : MarkedWorld). w.parcels) t.3
moment_grows by Crash before sent after t = ap (λ (w : MarkedWorld). w.parcels) t.2
moment_grows by Tick before sent after t = turn_grows by (Plain_comes Tick_comes) before.node before sent after t.1
moment_grows by (Deliver number) before sent after t = comes_grows by t.0 before sent after t.2
moment_grows by (Flip number bit) before sent after t = changed_grows by t.0 (flipped bit (bytes_of (grammar_of before.profile) t.0)) before sent after t.2.comes
moment_grows by event before sent after t = ap (λ (w : MarkedWorld). w.parcels) t.3

-- all parcels are counted
all_counted : {State : Type 0} (by : Marker State) (start : MarkedWorld) (trace : List MarkedMoment) → start.parcels ≡ [] → MarkedJoint by start trace → length (marked_after start trace).parcels ≡ marked_parcel_count trace
all_counted by start [] none j = ap length none
all_counted by start (moment ∷ earlier) none j =
    ap length (moment_grows by moment.event (marked_after start earlier) moment.sent moment.world j.1)
    ∙ length-append (marked_after start earlier).parcels moment.sent ∙ ap (λ n. n + length moment.sent) (all_counted by start earlier none j.0)

-- what is stored of a parcel is read as the parcel
abbrev words_of : Parcel → List (List ℕ)
words_of (Usual packet) = content_words packet
words_of (Mark_sent message) = mark_words message
words_of (Mark_answered message) = mark_words message

content_is : (schedule : Schedule) (p : Parcel) → CanBeRead (run_grammar schedule) p → content_by (run_grammar schedule) (way_of_marked (clients_of schedule.server schedule.clients) p) (bytes_of (run_grammar schedule) p) ≡ Some (words_of p)
content_is schedule (Usual packet) r =
    content_of_packet (run_grammar schedule) (way_of_marked (clients_of schedule.server schedule.clients) (Usual packet)) (bytes_of (run_grammar schedule) (Usual packet)) packet (packet_is_read schedule packet r)
content_is schedule (Mark_sent message) r = content_of_mark (run_grammar schedule) (bytes_of (run_grammar schedule) (Mark_sent message)) message r
content_is schedule (Mark_answered message) r = content_of_mark (run_grammar schedule) (bytes_of (run_grammar schedule) (Mark_answered message)) message r

-- the line of a parcel that is stored
reads_parcel : (schedule : Schedule) (n : ℕ) (p : Parcel) → CanBeRead (run_grammar schedule) p
    → line_of (run_grammar schedule) n (Some (way_of_marked (clients_of schedule.server schedule.clients) p)) (Some (bytes_of (run_grammar schedule) p)) ≡ marked_parcel_line (clients_of schedule.server schedule.clients) n p
unfolding packet_line
reads_parcel schedule n (Usual packet) r =
    ap (λ o. option_map_or (line_of_packet n (way_of_marked (clients_of schedule.server schedule.clients) (Usual packet))) o []) (content_is schedule (Usual packet) r)
reads_parcel schedule n (Mark_sent message) r =
    ap (λ o. option_map_or (line_of_packet n (way_of_marked (clients_of schedule.server schedule.clients) (Mark_sent message))) o []) (content_is schedule (Mark_sent message) r)
reads_parcel schedule n (Mark_answered message) r =
    ap (λ o. option_map_or (line_of_packet n (way_of_marked (clients_of schedule.server schedule.clients) (Mark_answered message))) o []) (content_is schedule (Mark_answered message) r)

pub can_be_read : (schedule : Schedule) (trace : List MarkedMoment) (kept : Carried) (n : ℕ) (way : Way) (bytes : List ℕ) → KeepsAllMarked schedule trace kept → at_number kept.ways n ≡ Some way
    → at_number kept.bytes n ≡ Some bytes → IsSome (content_by (run_grammar schedule) way bytes)
can_be_read schedule trace kept n way bytes k e f =
    stored_is_read (run_grammar schedule) (way_of_marked (clients_of schedule.server schedule.clients)) (bytes_of (run_grammar schedule)) (CanBeRead (run_grammar schedule)) kept (marked_parcels_of schedule trace) n way bytes k.ways k.bytes k.written
    (λ p r. ap is_some (content_is schedule p r)) e f

-- the lines of a turn
pub turn_lines : (every : ℕ) (schedule : Schedule) (events : List Event) (event : Event) (moment : MarkedMoment) (trace : List MarkedMoment) (kept : List ℕ) (first : ℕ)
    → IsMarkedLegalFor (any_marker every) schedule events trace → IsMarkedLegalFor (any_marker every) schedule (events ++ event ∷ []) (moment ∷ trace)
    → first ≡ marked_packets_sent schedule trace + 1 → kept ≡ marked_parcel_lines (clients_of schedule.server schedule.clients) first moment.sent
    → marked_event_lines (clients_of schedule.server schedule.clients) (moment ∷ trace)
    ≡ marked_event_lines (clients_of schedule.server schedule.clients) trace ++ (event_line (length events + 1) event ++ kept)
turn_lines every schedule events event moment trace kept first before after from are =
    let clients : List Client = clients_of schedule.server schedule.clients in
    let same : moment.event ≡ event = last_same events moment.event event (ap (λ es. es ++ moment.event ∷ []) (sym before.events_are) ∙ after.events_are) in
    let at : length trace + 1 ≡ length events + 1 = ap (λ n. n + 1) (sym (as_many every schedule events trace before)) in
    let number : marked_parcel_count trace + 1 ≡ first =
    ap (λ n. n + 1) (sym (all_counted (any_marker every (kind_of schedule.service)) (marked_start schedule) trace refl before.joint)) ∙ sym from in
    ap (λ e. marked_event_lines clients trace ++ (event_line (length trace + 1) e ++ marked_parcel_lines clients (marked_parcel_count trace + 1) moment.sent)) same
    ∙ (ap₂ (λ n k. marked_event_lines clients trace ++ (event_line n event ++ marked_parcel_lines clients k moment.sent)) at number
    ∙ ap (λ l. marked_event_lines clients trace ++ (event_line (length events + 1) event ++ l)) (sym are))

pub stored_in_turn : (schedule : Schedule) (trace : List MarkedMoment) (moment : MarkedMoment) (kept : Carried) (first count : ℕ) → KeepsAllMarked schedule (moment ∷ trace) kept
    → moment.world.parcels ≡ marked_parcels_of schedule trace ++ moment.sent → first ≡ marked_packets_sent schedule trace + 1 → count ≡ length moment.sent
    → stored_lines (run_grammar schedule) kept first count ≡ marked_parcel_lines (clients_of schedule.server schedule.clients) first moment.sent
stored_in_turn schedule trace moment kept first count k grew from many =
    lines_stored (run_grammar schedule) (way_of_marked (clients_of schedule.server schedule.clients)) (bytes_of (run_grammar schedule)) (CanBeRead (run_grammar schedule)) (marked_parcel_lines (clients_of schedule.server schedule.clients))
    (marked_parcel_line (clients_of schedule.server schedule.clients)) (λ n p ps. refl) (λ n. refl) (reads_parcel schedule)
    kept moment.world.parcels (marked_parcels_of schedule trace) moment.sent first count k.ways k.bytes k.written grew from many

-- the end of a report
pub closes : (every : ℕ) (schedule : Schedule) (events : List Event) (trace : List MarkedMoment) (w : Kept AnyService) → MarkedStandsAfter (any_marker every) schedule events trace w
    → marked_report schedule trace ≡ header schedule ++ (marked_event_lines (clients_of schedule.server schedule.clients) trace
    ++ (client_lines 1 w.clients ++ (flat_map log_line w.log.entries ++ end_line (length trace))))
closes every schedule events trace w s =
    sym (ap₂ (λ cs l. header schedule ++ (marked_event_lines (clients_of schedule.server schedule.clients) trace ++ (client_lines 1 cs ++ (flat_map log_line l.entries ++ end_line (length trace)))))
    s.stands.actors.clients s.stands.log)
