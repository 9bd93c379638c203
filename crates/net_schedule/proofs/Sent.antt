-- What the code's world keeps at the end of a trace is what was sent in it.
use Rattle.std.proofs.Common.{◌≡◌, ◌∙◌, sym, ap, ap₂, refl, ℕ, Some, List, [], ◌∷◌, map}
use Rattle.std.specs.List.{AllByRecursion}
use Rattle.server_trait.specs.Service.{Machine}
use Rattle.tcp_rules.specs.Profile.{grammar_of}
use Rattle.tcp_rules.specs.Profiles.{profile_of}
use Rattle.ft_model.specs.Client.{Client}
use Rattle.ft_model.specs.Legal.{start_of}
use Rattle.ft_model.specs.Network.{Packet, source_of, destination_of}
use Rattle.ft_model.specs.Network.Packet.{To_server, To_client, To_logger, From_logger}
use Rattle.ft_model.specs.Report.{way_of}
use Rattle.ft_model.specs.Schedule.{kind_of, clients_of}
use Rattle.ft_model.specs.Wire.{wire_by, wire_of, HasWireBy}
use Rattle.ft_model.specs.World.{World as Seen, Moment, Joint, world_after}
use Rattle.ft_model.specs.declared.event.Event.{Event}
use Rattle.ft_model.specs.declared.schedule.Schedule.{Schedule}
use Rattle.ft_model.specs.declared.way.Way.{Way}
use Rattle.ft_model.specs.declared.way.Way.TheVariants.{ClientToServer, ServerToClient}
use Rattle.schedule_network.specs.AtNumber.{at_number}
use Rattle.schedule_network.specs.StoredPackets.{carried, way_along}
use Rattle.net_schedule.specs.SentPackets.{run_grammar, packets_of, KeepsAllSent, WasSentAs}
use Rattle.net_schedule.specs.Refinement.{Kept}
use Rattle.net_schedule.specs.Step.{StandsAfter}
use Rattle.net_schedule.proofs.Events.{all_numbered}
use Rattle.net_schedule.proofs.PacketStore.{Found, found, twice, ways_alike}
use Rattle.net_schedule.proofs.Peers.{number_among}
use Rattle.net_schedule.proofs.FirstWorld.{keys_begin}
use Rattle.net_schedule.proofs.Trace.{keys_after}
use Rattle.ft_model.proofs.ClientKeys.{keys_in}

-- a way by keys is one by clients
pub way_is : (cs : List Client) (p : Packet) → way_along (keys_in cs) (wire_of p) ≡ way_of cs p
way_is cs (To_server segment) = ap ClientToServer (number_among cs (source_of segment))
way_is cs (To_client segment) = ap ServerToClient (number_among cs (destination_of segment))
way_is cs (To_logger message) = refl
way_is cs (From_logger message) = refl

ways_are : (schedule : Schedule) (cs : List Client) (ps : List Packet) → map (λ p. way_along (keys_in cs) (wire_by (run_grammar schedule) p)) ps ≡ map (way_of cs) ps
ways_are schedule cs [] = refl
ways_are schedule cs (p ∷ ps) =
    ap₂ (λ w ws. w ∷ ws) (ways_alike (run_grammar schedule) (keys_in cs) p ∙ way_is cs p) (ways_are schedule cs ps)

module _ {State : Type 0} (services : ℕ → Machine State) where
  -- the keys are those of the clients at the start
  keys_stand : (schedule : Schedule) (events : List Event) (trace : List Moment) (w : Kept State) → StandsAfter services schedule events trace w
      → w.keys ≡ keys_in (clients_of schedule.server schedule.clients)
  keys_stand schedule events trace w s = s.stands.keys ∙ keys_after (services (kind_of schedule.service)) (start_of schedule) trace s.legal.joint

  -- the packets are stored in the grammar of the schedule's profile
  stored_by : (schedule : Schedule) (events : List Event) (trace : List Moment) (w : Kept State) → StandsAfter services schedule events trace w
      → w.packets ≡ carried w.keys (map (wire_by (run_grammar schedule)) (packets_of schedule trace))
  stored_by schedule events trace w s =
      s.stands.packets ∙ ap (λ p. carried w.keys (map (wire_by (grammar_of p)) (packets_of schedule trace))) (sym s.stands.profile ∙ ap profile_of s.profile)

  pub keys_are : (schedule : Schedule) (events : List Event) (trace : List Moment) (w : Kept State) → StandsAfter services schedule events trace w
      → w.keys ≡ map (λ line. line.key) schedule.clients
  keys_are schedule events trace w s = keys_stand schedule events trace w s ∙ sym (keys_begin schedule.server schedule.clients)

  pub keeps_all_sent : ((kind : ℕ) (start : Seen) (trace : List Moment) → Joint (services kind) start trace → AllByRecursion (HasWireBy (grammar_of start.profile)) (world_after start trace).packets)
      → (schedule : Schedule) (events : List Event) (trace : List Moment) (w : Kept State) → StandsAfter services schedule events trace w → KeepsAllSent schedule trace w.packets
  keeps_all_sent wires schedule events trace w s =
      let keys : w.keys ≡ keys_in (clients_of schedule.server schedule.clients) = keys_stand schedule events trace w s in
      record {
        ways = ap (λ c. c.ways) (stored_by schedule events trace w s) ∙ twice (way_along w.keys) (wire_by (run_grammar schedule)) (packets_of schedule trace)
            ∙ ap (λ ks. map (λ p. way_along ks (wire_by (run_grammar schedule) p)) (packets_of schedule trace)) keys
            ∙ ways_are schedule (clients_of schedule.server schedule.clients) (packets_of schedule trace);
        bytes = ap (λ c. c.bytes) (stored_by schedule events trace w s) ∙ twice (λ w. w.bytes) (wire_by (run_grammar schedule)) (packets_of schedule trace);
        wires = wires (kind_of schedule.service) (start_of schedule) trace s.legal.joint;
      }

  pub was_sent_as : ((kind : ℕ) (start : Seen) (trace : List Moment) → Joint (services kind) start trace → AllByRecursion (HasWireBy (grammar_of start.profile)) (world_after start trace).packets)
      → (schedule : Schedule) (events : List Event) (trace : List Moment) (w : Kept State) (number : ℕ) (way : Way) (bytes : List ℕ) → StandsAfter services schedule events trace w
      → at_number w.packets.ways number ≡ Some way → at_number w.packets.bytes number ≡ Some bytes → WasSentAs schedule trace number way bytes
  was_sent_as wires schedule events trace w number way bytes s e f =
      let x : Found (run_grammar schedule) w.keys (packets_of schedule trace) number way bytes =
      found (run_grammar schedule) w.keys w.packets (packets_of schedule trace) number way bytes (stored_by schedule events trace w s) e f in
      record {
        packet = x.packet;
        is = x.is;
        wire = all_numbered (HasWireBy (run_grammar schedule)) (packets_of schedule trace) number x.packet (wires (kind_of schedule.service) (start_of schedule) trace s.legal.joint) x.is;
        goes = x.goes ∙ ap (λ ks. way_along ks (wire_of x.packet)) (keys_stand schedule events trace w s) ∙ way_is (clients_of schedule.server schedule.clients) x.packet;
        spells = x.spells;
      }
