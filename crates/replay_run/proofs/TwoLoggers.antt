-- The traces of the world with two loggers: what a step of the code's world does is one event more of them.
use Rattle.std.proofs.Common.{◌≡◌, ◌∙◌, ℕ, ◌+◌, Result, Ok, Err, Some, is_some, IsSome, List, [], ◌∷◌, ◌++◌, length, refl, sym, ap, ap₂, arith, length-append}
use Rattle.std.specs.List.{flat_map}
use Rattle.std.specs.Option.{option_map_or}
use Rattle.seq_arith.specs.Message.{Message}
use Rattle.seq_arith.specs.MessageGrammar as messages
use Rattle.seq_arith.specs.declared.kinds.BadMsg.{BadMsg}
use Rattle.seq_arith.specs.declared.kinds.Grammar.{Grammar}
use Rattle.server_trait.specs.Service.{Machine}
use Rattle.sample_servers.specs.AnyService.{any_machine}
use Rattle.sample_servers.specs.declared.any_service.AnyService.{AnyService}
use Rattle.ft_model.specs.Client.{Client}
use Rattle.ft_model.specs.Report.{header, event_line, packet_line, line_of_packet, content_words, client_lines, log_line, end_line}
use Rattle.ft_model.specs.Schedule.{clients_of, kind_of}
use Rattle.ft_model.specs.declared.event.Event.{Event}
use Rattle.ft_model.specs.declared.schedule.Schedule.{Schedule}
use Rattle.ft_model.specs.declared.way.Way.{Way}
use Rattle.twin_laws.specs.Twin.{Request, Between, bytes_of, from_other_logger, asked, forwarded_as}
use Rattle.twin_laws.specs.Twin.Between.{Forward, Got}
use Rattle.twin_laws.specs.Twin.Comes.{Reports}
use Rattle.twin_laws.specs.TwinLegal.{IsTwinLegalFor, twin_start, twin_events_of, event_of, twin_packets_sent, bytes_of_parcel}
use Rattle.twin_laws.specs.TwinReport.{way_of_parcel, way_of_between, between_words, parcel_line, parcel_lines, parcel_count, twin_event_lines, twin_report}
use Rattle.twin_laws.specs.TwinWorld.{Parcel, TwinWorld, TwinMoment, TwinJoint, twin_after}
use Rattle.twin_laws.specs.TwinWorld.Parcel.{Outside, Inside}
use Rattle.twin_laws.specs.SentBytes.{IsWritten, IsRead}
use Rattle.twin_laws.proofs.OneTurn.{twin_proceeds}
use Rattle.schedule_network.specs.AtNumber.{at_number}
use Rattle.schedule_network.specs.StoredPackets.{Carried}
use Rattle.net_schedule.specs.SentPackets.{run_grammar, KeepsAllParcels, parcels_of}
use Rattle.net_schedule.specs.Refinement.{Kept}
use Rattle.net_schedule.specs.TwinStep.{TwinStandsAfter}
use Rattle.schedule_text.specs.Bytes.{content_by, reported_words, forwarded_words}
use Rattle.schedule_text.proofs.Contents.{content_of_packet}
use Rattle.replay_run.specs.PacketLines.{line_of, stored_lines}
use Rattle.replay_run.proofs.Following.{packet_is_read}
use Rattle.replay_run.proofs.Stored.{lines_stored, stored_is_read}
use Rattle.replay_check.proofs.Events.{last_event as last_same}

-- a trace has a moment for each event
as_many_events : (trace : List TwinMoment) → length (twin_events_of trace) ≡ length trace
as_many_events [] = refl
as_many_events (moment ∷ earlier) = omega (arith, length-append (twin_events_of earlier) (event_of moment.event ∷ []), as_many_events earlier)

pub as_many : (schedule : Schedule) (events : List Event) (trace : List TwinMoment) → IsTwinLegalFor any_machine schedule events trace → length events ≡ length trace
as_many schedule events trace l = ap length (sym l.events_are) ∙ as_many_events trace

-- all parcels are counted
all_counted : {State : Type 0} (service : Machine State) (start : TwinWorld) (trace : List TwinMoment) → start.parcels ≡ [] → TwinJoint service start trace → length (twin_after start trace).parcels ≡ parcel_count trace
all_counted service start [] none j = ap length none
all_counted service start (moment ∷ earlier) none j =
    ap length (twin_proceeds service moment.event (twin_after start earlier) moment.world moment.sent j.1)
    ∙ length-append (twin_after start earlier).parcels moment.sent ∙ ap (λ n. n + length moment.sent) (all_counted service start earlier none j.0)

-- a forwarded message is read as what it is
said_by : (number : ℕ) (request : Request) (read : Result Message BadMsg) → forwarded_as number (asked request.bytes read) ≡ Reports (Forward number request)
    → forwarded_words number read ≡ Some (between_words (Forward number request))
said_by number request (Ok message) e =
    let same : message ≡ request.message = cc in
    ap (λ m. forwarded_words number (Ok m)) same
said_by number request (Err why) e = absurd (cc)

between_is_read : (grammar : Grammar) (between : Between) → IsRead grammar between → content_by grammar (way_of_between between) (bytes_of between) ≡ Some (between_words between)
between_is_read grammar (Forward number request) r =
    ap (reported_words grammar) r.0 ∙ said_by number request (messages.reading_by grammar request.bytes) (sym (ap (from_other_logger grammar) r.0) ∙ r.1)
between_is_read grammar (Got number) r = ap (reported_words grammar) r.0

-- what is stored of a parcel is read as the parcel
abbrev words_of : Parcel → List (List ℕ)
words_of (Outside packet) = content_words packet
words_of (Inside between) = between_words between

content_is : (schedule : Schedule) (p : Parcel) → IsWritten (run_grammar schedule) p → content_by (run_grammar schedule) (way_of_parcel (clients_of schedule.server schedule.clients) p) (bytes_of_parcel (run_grammar schedule) p) ≡ Some (words_of p)
content_is schedule (Outside packet) w =
    content_of_packet (run_grammar schedule) (way_of_parcel (clients_of schedule.server schedule.clients) (Outside packet)) (bytes_of_parcel (run_grammar schedule) (Outside packet)) packet (packet_is_read schedule packet w)
content_is schedule (Inside between) w = between_is_read (run_grammar schedule) between w

-- the line of a parcel that is stored
reads_parcel : (schedule : Schedule) (n : ℕ) (p : Parcel) → IsWritten (run_grammar schedule) p
    → line_of (run_grammar schedule) n (Some (way_of_parcel (clients_of schedule.server schedule.clients) p)) (Some (bytes_of_parcel (run_grammar schedule) p)) ≡ parcel_line (clients_of schedule.server schedule.clients) n p
unfolding packet_line
reads_parcel schedule n (Outside packet) w =
    ap (λ o. option_map_or (line_of_packet n (way_of_parcel (clients_of schedule.server schedule.clients) (Outside packet))) o []) (content_is schedule (Outside packet) w)
reads_parcel schedule n (Inside between) w = ap (λ o. option_map_or (line_of_packet n (way_of_between between)) o []) (content_is schedule (Inside between) w)

pub can_be_read : (schedule : Schedule) (trace : List TwinMoment) (kept : Carried) (n : ℕ) (way : Way) (bytes : List ℕ) → KeepsAllParcels schedule trace kept → at_number kept.ways n ≡ Some way
    → at_number kept.bytes n ≡ Some bytes → IsSome (content_by (run_grammar schedule) way bytes)
can_be_read schedule trace kept n way bytes k e f =
    stored_is_read (run_grammar schedule) (way_of_parcel (clients_of schedule.server schedule.clients)) (bytes_of_parcel (run_grammar schedule)) (IsWritten (run_grammar schedule)) kept (parcels_of schedule trace) n way bytes k.ways k.bytes k.written
    (λ p w. ap is_some (content_is schedule p w)) e f

-- the lines of a turn
pub turn_lines : (schedule : Schedule) (events : List Event) (event : Event) (moment : TwinMoment) (trace : List TwinMoment) (kept : List ℕ) (first : ℕ) → IsTwinLegalFor any_machine schedule events trace
    → IsTwinLegalFor any_machine schedule (events ++ event ∷ []) (moment ∷ trace) → first ≡ twin_packets_sent schedule trace + 1 → kept ≡ parcel_lines (clients_of schedule.server schedule.clients) first moment.sent
    → twin_event_lines (clients_of schedule.server schedule.clients) (moment ∷ trace) ≡ twin_event_lines (clients_of schedule.server schedule.clients) trace ++ (event_line (length events + 1) event ++ kept)
turn_lines schedule events event moment trace kept first before after from are =
    let clients : List Client = clients_of schedule.server schedule.clients in
    let same : event_of moment.event ≡ event = last_same events (event_of moment.event) event (ap (λ es. es ++ event_of moment.event ∷ []) (sym before.events_are) ∙ after.events_are) in
    let at : length trace + 1 ≡ length events + 1 = ap (λ n. n + 1) (sym (as_many schedule events trace before)) in
    let number : parcel_count trace + 1 ≡ first = ap (λ n. n + 1) (sym (all_counted (any_machine (kind_of schedule.service)) (twin_start schedule) trace refl before.joint)) ∙ sym from in
    ap (λ e. twin_event_lines clients trace ++ (event_line (length trace + 1) e ++ parcel_lines clients (parcel_count trace + 1) moment.sent)) same
    ∙ (ap₂ (λ n k. twin_event_lines clients trace ++ (event_line n event ++ parcel_lines clients k moment.sent)) at number
    ∙ ap (λ l. twin_event_lines clients trace ++ (event_line (length events + 1) event ++ l)) (sym are))

pub stored_in_turn : (schedule : Schedule) (trace : List TwinMoment) (moment : TwinMoment) (kept : Carried) (first count : ℕ) → KeepsAllParcels schedule (moment ∷ trace) kept
    → moment.world.parcels ≡ parcels_of schedule trace ++ moment.sent → first ≡ twin_packets_sent schedule trace + 1 → count ≡ length moment.sent
    → stored_lines (run_grammar schedule) kept first count ≡ parcel_lines (clients_of schedule.server schedule.clients) first moment.sent
stored_in_turn schedule trace moment kept first count k grew from many =
    lines_stored (run_grammar schedule) (way_of_parcel (clients_of schedule.server schedule.clients)) (bytes_of_parcel (run_grammar schedule)) (IsWritten (run_grammar schedule)) (parcel_lines (clients_of schedule.server schedule.clients))
    (parcel_line (clients_of schedule.server schedule.clients)) (λ n p ps. refl) (λ n. refl) (reads_parcel schedule)
    kept moment.world.parcels (parcels_of schedule trace) moment.sent first count k.ways k.bytes k.written grew from many

-- the end of a report
pub closes : (schedule : Schedule) (events : List Event) (trace : List TwinMoment) (w : Kept AnyService) → TwinStandsAfter any_machine schedule events trace w
    → twin_report schedule trace ≡ header schedule ++ (twin_event_lines (clients_of schedule.server schedule.clients) trace
    ++ (client_lines 1 w.clients ++ (flat_map log_line w.log.entries ++ end_line (length trace))))
closes schedule events trace w s =
    sym (ap₂ (λ cs l. header schedule ++ (twin_event_lines (clients_of schedule.server schedule.clients) trace ++ (client_lines 1 cs ++ (flat_map log_line l.entries ++ end_line (length trace)))))
    s.stands.actors.clients s.stands.log)
