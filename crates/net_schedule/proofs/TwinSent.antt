-- With two loggers: what the code's world keeps at the end of a trace is what was sent in it.
use Rattle.std.proofs.Common.{◌≡◌, ◌∙◌, sym, ap, refl, ℕ, Some, List, [], ◌∷◌, map}
use Rattle.server_trait.specs.Service.{Machine}
use Rattle.tcp_rules.specs.Profile.{grammar_of}
use Rattle.tcp_rules.specs.Profiles.{profile_of}
use Rattle.ft_model.specs.Client.{Client}
use Rattle.ft_model.specs.Legal.{start_of}
use Rattle.ft_model.specs.Schedule.{kind_of, clients_of}
use Rattle.ft_model.specs.World.{World as Seen, world_after}
use Rattle.ft_model.specs.declared.event.Event.{Event}
use Rattle.ft_model.specs.declared.schedule.Schedule.{Schedule}
use Rattle.ft_model.specs.declared.way.Way.{Way}
use Rattle.twin_laws.specs.Flat.{flat}
use Rattle.twin_laws.specs.TwinLegal.{twin_start}
use Rattle.twin_laws.specs.TwinReport.{way_of_parcel}
use Rattle.twin_laws.specs.TwinWorld.{Parcel, TwinMoment, seen, twin_after}
use Rattle.twin_laws.specs.TwinWorld.Parcel.{Outside, Inside}
use Rattle.schedule_network.specs.AtNumber.{at_number}
use Rattle.net_schedule.specs.SentPackets.{run_grammar, parcels_of, KeepsAllParcels, ParcelSentAs}
use Rattle.net_schedule.specs.Refinement.{Kept}
use Rattle.net_schedule.specs.TwinRefinement.{stored_way, carried_parcels}
use Rattle.net_schedule.specs.TwinStep.{TwinStandsAfter}
use Rattle.net_schedule.proofs.Parcels.{FoundParcel, found_parcel}
use Rattle.net_schedule.proofs.Sent.{way_is}
use Rattle.net_schedule.proofs.FirstWorld.{keys_begin}
use Rattle.net_schedule.proofs.Trace.{keys_after}
use Rattle.net_schedule.proofs.TwinEvents.{written_at}
use Rattle.net_schedule.proofs.TwinTrace.{AreTwinLaws}
use Rattle.ft_model.proofs.ClientKeys.{keys_in}

-- a way by keys is one by clients
parcel_way_is : (cs : List Client) (x : Parcel) → stored_way (keys_in cs) x ≡ way_of_parcel cs x
parcel_way_is cs (Outside packet) = way_is cs packet
parcel_way_is cs (Inside between) = refl

parcel_ways_are : (cs : List Client) (xs : List Parcel) → map (stored_way (keys_in cs)) xs ≡ map (way_of_parcel cs) xs
parcel_ways_are cs [] = refl
parcel_ways_are cs (x ∷ xs) = ap (λ w. w ∷ map (stored_way (keys_in cs)) xs) (parcel_way_is cs x) ∙ ap (λ ws. way_of_parcel cs x ∷ ws) (parcel_ways_are cs xs)

module _ {State : Type 0} (services : ℕ → Machine State) (twins : AreTwinLaws services) where
  -- the keys are those of the clients at the start
  twin_keys_stand : (schedule : Schedule) (events : List Event) (trace : List TwinMoment) (w : Kept State) → TwinStandsAfter services schedule events trace w
      → w.keys ≡ keys_in (clients_of schedule.server schedule.clients)
  twin_keys_stand schedule events trace w s =
      let f = flat (twin_start schedule) trace in
      let legal = twins.legal schedule events trace s.legal in
      let at : world_after (start_of schedule) (flat (twin_start schedule) trace).trace ≡ seen (twin_after (twin_start schedule) trace) (flat (twin_start schedule) trace).packets =
      twins.world (kind_of schedule.service) (twin_start schedule) trace s.legal.joint in
      s.stands.actors.keys ∙ ap (λ (u : Seen). keys_in u.clients) (sym at)
      ∙ keys_after (services (kind_of schedule.service)) (start_of schedule) (flat (twin_start schedule) trace).trace legal.joint

  -- the parcels are stored in the grammar of the schedule's profile
  twin_stored_by : (schedule : Schedule) (events : List Event) (trace : List TwinMoment) (w : Kept State) → TwinStandsAfter services schedule events trace w
      → w.packets ≡ carried_parcels (run_grammar schedule) w.keys (parcels_of schedule trace)
  twin_stored_by schedule events trace w s =
      s.stands.packets ∙ ap (λ p. carried_parcels (grammar_of p) w.keys (parcels_of schedule trace)) (sym s.stands.actors.profile ∙ ap profile_of s.profile)

  pub twin_keys_are : (schedule : Schedule) (events : List Event) (trace : List TwinMoment) (w : Kept State) → TwinStandsAfter services schedule events trace w
      → w.keys ≡ map (λ line. line.key) schedule.clients
  twin_keys_are schedule events trace w s = twin_keys_stand schedule events trace w s ∙ sym (keys_begin schedule.server schedule.clients)

  pub keeps_all_parcels : (schedule : Schedule) (events : List Event) (trace : List TwinMoment) (w : Kept State) → TwinStandsAfter services schedule events trace w
      → KeepsAllParcels schedule trace w.packets
  keeps_all_parcels schedule events trace w s = record {
    ways = ap (λ c. c.ways) (twin_stored_by schedule events trace w s) ∙ ap (λ ks. map (stored_way ks) (parcels_of schedule trace)) (twin_keys_stand schedule events trace w s)
        ∙ parcel_ways_are (clients_of schedule.server schedule.clients) (parcels_of schedule trace);
    bytes = ap (λ c. c.bytes) (twin_stored_by schedule events trace w s);
    written = twins.written (kind_of schedule.service) (twin_start schedule) trace s.legal.joint;
  }

  pub parcel_sent_as : (schedule : Schedule) (events : List Event) (trace : List TwinMoment) (w : Kept State) (number : ℕ) (way : Way) (bytes : List ℕ)
      → TwinStandsAfter services schedule events trace w → at_number w.packets.ways number ≡ Some way → at_number w.packets.bytes number ≡ Some bytes
      → ParcelSentAs schedule trace number way bytes
  parcel_sent_as schedule events trace w number way bytes s e f =
      let x : FoundParcel (run_grammar schedule) w.keys (parcels_of schedule trace) number way bytes =
      found_parcel (run_grammar schedule) w.keys w.packets (parcels_of schedule trace) number way bytes (twin_stored_by schedule events trace w s) e f in
      record {
        parcel = x.parcel;
        is = x.is;
        written = written_at (run_grammar schedule) (parcels_of schedule trace) number x.parcel (twins.written (kind_of schedule.service) (twin_start schedule) trace s.legal.joint) x.is;
        goes = x.goes ∙ ap (λ ks. stored_way ks x.parcel) (twin_keys_stand schedule events trace w s) ∙ parcel_way_is (clients_of schedule.server schedule.clients) x.parcel;
        spells = x.spells;
      }
