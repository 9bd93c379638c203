-- The traces of the world with one log: what a step of the code's world does is one event more of them.
use Rattle.std.proofs.Common.{◌≡◌, ◌∙◌, ℕ, ◌+◌, Some, is_some, IsSome, List, [], ◌∷◌, ◌++◌, length, refl, sym, ap, ap₂, length-append}
use Rattle.std.specs.Option.{option_map_or}
use Rattle.server_trait.specs.Service.{Machine}
use Rattle.sample_servers.specs.AnyService.{any_machine}
use Rattle.sample_servers.specs.declared.any_service.AnyService.{AnyService}
use Rattle.ft_model.specs.Client.{Client}
use Rattle.ft_model.specs.Legal.{IsLegalFor, start_of}
use Rattle.ft_model.specs.Network.{Packet}
use Rattle.ft_model.specs.Outcome.{packets_sent}
use Rattle.ft_model.specs.Report.{header, event_line, packet_line, packet_lines, line_of_packet, content_words, packet_count, event_lines, client_lines, log_line, end_line, report}
use Rattle.ft_model.specs.Schedule.{clients_of, kind_of}
use Rattle.ft_model.specs.Wire.{wire_by, HasWireBy}
use Rattle.ft_model.specs.World.{World, Moment, Joint, world_after}
use Rattle.ft_model.specs.declared.event.Event.{Event}
use Rattle.ft_model.specs.declared.schedule.Schedule.{Schedule}
use Rattle.ft_model.proofs.OneTrace.{proceeds}
use Rattle.std.specs.List.{flat_map}
use Rattle.ft_model.specs.declared.way.Way.{Way}
use Rattle.schedule_network.specs.AtNumber.{at_number}
use Rattle.schedule_network.specs.StoredPackets.{Carried}
use Rattle.net_schedule.specs.SentPackets.{run_grammar, packets_of, reported_way, KeepsAllSent}
use Rattle.net_schedule.specs.Refinement.{Kept}
use Rattle.net_schedule.specs.Step.{StandsAfter}
use Rattle.schedule_text.specs.Bytes.{content_by}
use Rattle.schedule_text.proofs.Contents.{content_of_packet}
use Rattle.report_laws.proofs.LineLemmas.{events_count}
use Rattle.replay_run.specs.PacketLines.{line_of, stored_lines}
use Rattle.replay_run.proofs.Following.{packet_is_read}
use Rattle.replay_run.proofs.Stored.{lines_stored, stored_is_read}
use Rattle.replay_check.proofs.Events.{last_event as last_same}

pub as_many : (schedule : Schedule) (events : List Event) (trace : List Moment) → IsLegalFor any_machine schedule events trace → length events ≡ length trace
as_many schedule events trace l = ap length (sym l.events_are) ∙ events_count trace

-- all packets are counted
all_counted : {State : Type 0} (service : Machine State) (start : World) (trace : List Moment) → start.packets ≡ [] → Joint service start trace → length (world_after start trace).packets ≡ packet_count trace
all_counted service start [] none j = ap length none
all_counted service start (moment ∷ earlier) none j =
    ap length (proceeds service moment.event (world_after start earlier) moment.world moment.sent j.1)
    ∙ length-append (world_after start earlier).packets moment.sent ∙ ap (λ n. n + length moment.sent) (all_counted service start earlier none j.0)

-- what is stored of a packet is read as the packet
content_is : (schedule : Schedule) (p : Packet) → HasWireBy (run_grammar schedule) p → content_by (run_grammar schedule) (reported_way schedule p) (wire_by (run_grammar schedule) p).bytes ≡ Some (content_words p)
content_is schedule p w = content_of_packet (run_grammar schedule) (reported_way schedule p) (wire_by (run_grammar schedule) p).bytes p (packet_is_read schedule p w)

-- the line of a packet that is stored
reads_packet : (schedule : Schedule) (n : ℕ) (p : Packet) → HasWireBy (run_grammar schedule) p → line_of (run_grammar schedule) n (Some (reported_way schedule p)) (Some (wire_by (run_grammar schedule) p).bytes) ≡ packet_line n (reported_way schedule p) p
unfolding packet_line
reads_packet schedule n p w =
    ap (λ o. option_map_or (line_of_packet n (reported_way schedule p)) o []) (content_is schedule p w)

pub can_be_read : (schedule : Schedule) (trace : List Moment) (kept : Carried) (n : ℕ) (way : Way) (bytes : List ℕ) → KeepsAllSent schedule trace kept → at_number kept.ways n ≡ Some way
    → at_number kept.bytes n ≡ Some bytes → IsSome (content_by (run_grammar schedule) way bytes)
can_be_read schedule trace kept n way bytes k e f =
    stored_is_read (run_grammar schedule) (reported_way schedule) (λ p. (wire_by (run_grammar schedule) p).bytes) (HasWireBy (run_grammar schedule)) kept (packets_of schedule trace) n way bytes k.ways k.bytes k.wires (λ p w. ap is_some (content_is schedule p w)) e f

-- the lines of a turn
pub turn_lines : (schedule : Schedule) (events : List Event) (event : Event) (moment : Moment) (trace : List Moment) (kept : List ℕ) (first : ℕ) → IsLegalFor any_machine schedule events trace
    → IsLegalFor any_machine schedule (events ++ event ∷ []) (moment ∷ trace) → first ≡ packets_sent schedule trace + 1 → kept ≡ packet_lines (clients_of schedule.server schedule.clients) first moment.sent
    → event_lines (clients_of schedule.server schedule.clients) (moment ∷ trace) ≡ event_lines (clients_of schedule.server schedule.clients) trace ++ (event_line (length events + 1) event ++ kept)
turn_lines schedule events event moment trace kept first before after from are =
    let clients : List Client = clients_of schedule.server schedule.clients in
    let same : moment.event ≡ event = last_same events moment.event event (ap (λ es. es ++ moment.event ∷ []) (sym before.events_are) ∙ after.events_are) in
    let at : length trace + 1 ≡ length events + 1 = ap (λ n. n + 1) (sym (as_many schedule events trace before)) in
    let number : packet_count trace + 1 ≡ first = ap (λ n. n + 1) (sym (all_counted (any_machine (kind_of schedule.service)) (start_of schedule) trace refl before.joint)) ∙ sym from in
    ap (λ e. event_lines clients trace ++ (event_line (length trace + 1) e ++ packet_lines clients (packet_count trace + 1) moment.sent)) same
    ∙ (ap₂ (λ n k. event_lines clients trace ++ (event_line n event ++ packet_lines clients k moment.sent)) at number
    ∙ ap (λ l. event_lines clients trace ++ (event_line (length events + 1) event ++ l)) (sym are))

pub stored_in_turn : (schedule : Schedule) (trace : List Moment) (moment : Moment) (kept : Carried) (first count : ℕ) → KeepsAllSent schedule (moment ∷ trace) kept
    → moment.world.packets ≡ packets_of schedule trace ++ moment.sent → first ≡ packets_sent schedule trace + 1 → count ≡ length moment.sent
    → stored_lines (run_grammar schedule) kept first count ≡ packet_lines (clients_of schedule.server schedule.clients) first moment.sent
stored_in_turn schedule trace moment kept first count k grew from many =
    lines_stored (run_grammar schedule) (reported_way schedule) (λ p. (wire_by (run_grammar schedule) p).bytes) (HasWireBy (run_grammar schedule)) (packet_lines (clients_of schedule.server schedule.clients))
    (λ n p. packet_line n (reported_way schedule p) p) (λ n p ps. refl) (λ n. refl) (reads_packet schedule)
    kept moment.world.packets (packets_of schedule trace) moment.sent first count k.ways k.bytes k.wires grew from many

-- the end of a report
pub closes : (schedule : Schedule) (events : List Event) (trace : List Moment) (w : Kept AnyService) → StandsAfter any_machine schedule events trace w
    → report schedule trace ≡ header schedule ++ (event_lines (clients_of schedule.server schedule.clients) trace
    ++ (client_lines 1 w.clients ++ (flat_map log_line w.log.entries ++ end_line (length trace))))
closes schedule events trace w s =
    sym (ap₂ (λ cs l. header schedule ++ (event_lines (clients_of schedule.server schedule.clients) trace ++ (client_lines 1 cs ++ (flat_map log_line l.entries ++ end_line (length trace)))))
    s.stands.clients s.stands.log)
