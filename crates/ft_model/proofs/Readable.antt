-- All that is sent in a legal trace has a line that tells it.
use Rattle.std.proofs.Common.{ℕ, ◌+◌, ◌≤◌, nat_lt, sym, subst, Some, None, List, [], ◌∷◌, length, arith, if◌then◌else◌}
use Rattle.std.specs.List.{AllByRecursion, position_or_len}
use Rattle.std.specs.Option.{option_map_or}
use Rattle.ft_io.specs.declared.Key.{Key}
use Rattle.ft_io.specs.Key.{key_eq}
use Rattle.server_trait.specs.Service.{Machine, WritesBytes}
use Rattle.ft_model.specs.Client.{Client}
use Rattle.ft_model.specs.Network.{Packet}
use Rattle.ft_model.specs.Network.Packet.{To_server, To_client, To_logger, From_logger}
use Rattle.seq_arith.specs.declared.kinds.Grammar.{Grammar}
use Rattle.tcp_rules.specs.Profile.{grammar_of}
use Rattle.ft_model.specs.Wire.{HasWireBy}
use Rattle.ft_model.specs.Schedule.{kind_of, client_of, clients_of}
use Rattle.ft_model.specs.World.{World, Moment, events_of}
use Rattle.ft_model.specs.Image.{HasWires}
use Rattle.ft_model.specs.Legal.{start_of, Legal}
use Rattle.ft_model.specs.Report.{number_of_client}
use Rattle.ft_model.specs.Readable.{FitsU64, FitsEvent, FitsSchedule, HasEnds, IsReadable, IsReadableTurn}
use Rattle.ft_model.specs.declared.schedule.Schedule.{Schedule}
use Rattle.ft_model.proofs.Lists.{all_front}
use Rattle.ft_model.proofs.Resumed.{length_map}
use Rattle.ft_model.proofs.Running.{HasSmallOutputs}
use Rattle.ft_model.proofs.Formed.{PacketFormed}
use Rattle.ft_model.proofs.FormedWorld.{sent_formed, wires_sent}
use Rattle.ft_io.proofs.Choices.{holds_if}

-- the number of a client is at most their count
place_within : (at len : ℕ) → option_map_or (λ i. i + 1) (if nat_lt at len then Some at else None) 0 ≤ len
place_within at len =
    holds_if (λ o. option_map_or (λ i. i + 1) o 0 ≤ len) (nat_lt at len) (Some at) None (λ t. grind (arith, t)) (λ t. omega arith)

number_within : (clients : List Client) (key : Key) → number_of_client clients key ≤ length clients
number_within clients key = place_within (position_or_len (λ c. key_eq c.key key) clients) (length clients)

ends_known : (start : World) (packet : Packet) → FitsU64 (length start.clients) → PacketFormed start packet → HasEnds start.server start.clients packet
ends_known start (To_server s) few h =
    let low = number_within start.clients (record { ip = s.head.src; port = s.head.sport }) in ((h.0.1, omega (arith, low, few)), h.1)
ends_known start (To_client s) few h =
    let low = number_within start.clients (record { ip = s.head.dst; port = s.head.dport }) in ((h.0.1, omega (arith, low, few)), h.1)
ends_known start (To_logger m) few h = tt
ends_known start (From_logger m) few h = tt

readable_turns : (grammar : Grammar) (start : World) (trace : List Moment) → FitsU64 (length start.clients) → AllByRecursion FitsEvent (events_of trace)
    → AllByRecursion (λ m. AllByRecursion (PacketFormed start) m.sent) trace → AllByRecursion (HasWires grammar) trace → AllByRecursion (IsReadableTurn start.server start.clients) trace
readable_turns grammar start [] few h f w = tt
readable_turns grammar start (m ∷ earlier) few h f w =
    let events = all_front FitsEvent (events_of earlier) m.event h in
    ((events.1, both_ways m.sent f.0 w.0), readable_turns grammar start earlier few events.0 f.1 w.1)
  where
    both_ways : (packets : List Packet) → AllByRecursion (PacketFormed start) packets → AllByRecursion (HasWireBy grammar) packets → AllByRecursion (IsReadable start.server start.clients) packets
    both_ways [] f w = tt
    both_ways (p ∷ ps) f w = ((ends_known start p few f.0, grammar, w.0), both_ways ps f.1 w.1)

pub legal_readable : {State : Type 0} (service : ℕ → Machine State) → ((kind : ℕ) → HasSmallOutputs (service kind)) → ((kind : ℕ) → WritesBytes (service kind))
    → (schedule : Schedule) (trace : List Moment) → FitsSchedule schedule
    → Legal service schedule trace → AllByRecursion (IsReadableTurn schedule.server (clients_of schedule.server schedule.clients)) trace
legal_readable service small writes schedule trace fits l =
    let start : World = start_of schedule in
    let kind : ℕ = kind_of schedule.service in
    let size = length_map (client_of schedule.server) schedule.clients in
    let many = fits.count in
    readable_turns (grammar_of start.profile) start trace (omega (arith, size, many)) (subst (AllByRecursion FitsEvent) (sym l.events_are) fits.events)
    (sent_formed (service kind) (small kind) (writes kind) start trace l.joint) (wires_sent (service kind) (small kind) (writes kind) start trace l.joint)
