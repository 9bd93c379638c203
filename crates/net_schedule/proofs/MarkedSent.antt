-- With marks: what the code's world keeps at the end of a trace is what was sent in it.
use Rattle.std.proofs.Common.{◌≡◌, ◌∙◌, sym, ap, refl, ℕ, Some, List, [], ◌∷◌, map}
use Rattle.std.specs.List.{AllByRecursion}
use Rattle.tcp_rules.specs.Profile.{grammar_of}
use Rattle.tcp_rules.specs.Profiles.{profile_of}
use Rattle.ft_model.specs.Client.{Client}
use Rattle.ft_model.specs.Schedule.{kind_of, clients_of}
use Rattle.ft_model.specs.declared.event.Event.{Event}
use Rattle.ft_model.specs.declared.schedule.Schedule.{Schedule}
use Rattle.ft_model.specs.declared.way.Way.{Way}
use Rattle.mark_laws.specs.MarkedLegal.{marked_start}
use Rattle.mark_laws.specs.MarkedNode.{Marker}
use Rattle.mark_laws.specs.MarkedWorld.{Parcel, MarkedWorld, MarkedMoment, MarkedJoint, CanBeRead, marked_after}
use Rattle.mark_laws.specs.MarkedWorld.Parcel.{Usual, Mark_sent, Mark_answered}
use Rattle.mark_laws.proofs.MarkSteps.{of_parcel}
use Rattle.schedule_network.specs.AtNumber.{at_number}
use Rattle.net_schedule.specs.SentPackets.{run_grammar, marked_parcels_of, marked_way, KeepsAllMarked, MarkedSentAs}
use Rattle.net_schedule.specs.Refinement.{Kept}
use Rattle.net_schedule.specs.MarkedRefinement.{way_of_parcel, stored_parcels}
use Rattle.net_schedule.specs.MarkedStep.{MarkedStandsAfter}
use Rattle.net_schedule.proofs.FirstWorld.{keys_begin}
use Rattle.net_schedule.proofs.MarkedParcels.{FoundMarked, found_marked}
use Rattle.net_schedule.proofs.MarkedKeys.{marked_keys_after}
use Rattle.net_schedule.proofs.Sent.{way_is}
use Rattle.ft_model.proofs.ClientKeys.{keys_in}

-- a way by keys is one by clients
marked_way_is : (cs : List Client) (x : Parcel) → way_of_parcel (keys_in cs) x ≡ marked_way cs x
marked_way_is cs (Usual packet) = way_is cs packet
marked_way_is cs (Mark_sent message) = refl
marked_way_is cs (Mark_answered message) = refl

marked_ways_are : (cs : List Client) (xs : List Parcel) → map (way_of_parcel (keys_in cs)) xs ≡ map (marked_way cs) xs
marked_ways_are cs [] = refl
marked_ways_are cs (x ∷ xs) = ap (λ w. w ∷ map (way_of_parcel (keys_in cs)) xs) (marked_way_is cs x) ∙ ap (λ ws. marked_way cs x ∷ ws) (marked_ways_are cs xs)

-- all parcels of a trace can be read
abbrev pub AreWritten : {State : Type 0} → (ℕ → Marker State) → Type 0
AreWritten by = (kind : ℕ) (start : MarkedWorld) (trace : List MarkedMoment) → MarkedJoint (by kind) start trace
    → AllByRecursion (CanBeRead (grammar_of start.profile)) (marked_after start trace).parcels

module _ {State : Type 0} (by : ℕ → Marker State) where
  -- the keys are those of the clients at the start
  marked_keys_stand : (schedule : Schedule) (events : List Event) (trace : List MarkedMoment) (w : Kept State) → MarkedStandsAfter by schedule events trace w
      → w.keys ≡ keys_in (clients_of schedule.server schedule.clients)
  marked_keys_stand schedule events trace w s = s.stands.actors.keys ∙ marked_keys_after (by (kind_of schedule.service)) (marked_start schedule) trace s.legal.joint

  -- the parcels are stored in the grammar of the schedule's profile
  marked_stored_by : (schedule : Schedule) (events : List Event) (trace : List MarkedMoment) (w : Kept State) → MarkedStandsAfter by schedule events trace w
      → w.packets ≡ stored_parcels (run_grammar schedule) w.keys (marked_parcels_of schedule trace)
  marked_stored_by schedule events trace w s =
      s.stands.packets ∙ ap (λ p. stored_parcels (grammar_of p) w.keys (marked_parcels_of schedule trace)) (sym s.stands.actors.profile ∙ ap profile_of s.profile)

  pub marked_keys_are : (schedule : Schedule) (events : List Event) (trace : List MarkedMoment) (w : Kept State) → MarkedStandsAfter by schedule events trace w
      → w.keys ≡ map (λ line. line.key) schedule.clients
  marked_keys_are schedule events trace w s = marked_keys_stand schedule events trace w s ∙ sym (keys_begin schedule.server schedule.clients)

  pub keeps_all_marked : AreWritten by → (schedule : Schedule) (events : List Event) (trace : List MarkedMoment) (w : Kept State) → MarkedStandsAfter by schedule events trace w
      → KeepsAllMarked schedule trace w.packets
  keeps_all_marked all schedule events trace w s = record {
    ways = ap (λ c. c.ways) (marked_stored_by schedule events trace w s) ∙ (ap (λ ks. map (way_of_parcel ks) (marked_parcels_of schedule trace)) (marked_keys_stand schedule events trace w s)
        ∙ marked_ways_are (clients_of schedule.server schedule.clients) (marked_parcels_of schedule trace));
    bytes = ap (λ c. c.bytes) (marked_stored_by schedule events trace w s);
    written = all (kind_of schedule.service) (marked_start schedule) trace s.legal.joint;
  }

  pub marked_sent_as : AreWritten by → (schedule : Schedule) (events : List Event) (trace : List MarkedMoment) (w : Kept State) (number : ℕ) (way : Way) (bytes : List ℕ)
      → MarkedStandsAfter by schedule events trace w → at_number w.packets.ways number ≡ Some way → at_number w.packets.bytes number ≡ Some bytes
      → MarkedSentAs schedule trace number way bytes
  marked_sent_as all schedule events trace w number way bytes s e f =
      let x : FoundMarked (run_grammar schedule) w.keys (marked_parcels_of schedule trace) number way bytes =
      found_marked (run_grammar schedule) w.keys w.packets (marked_parcels_of schedule trace) number way bytes (marked_stored_by schedule events trace w s) e f in
      record {
        parcel = x.parcel;
        is = x.is;
        written = of_parcel (CanBeRead (run_grammar schedule)) (marked_after (marked_start schedule) trace) number x.parcel
            (all (kind_of schedule.service) (marked_start schedule) trace s.legal.joint) x.is;
        goes = x.goes ∙ (ap (λ ks. way_of_parcel ks x.parcel) (marked_keys_stand schedule events trace w s) ∙ marked_way_is (clients_of schedule.server schedule.clients) x.parcel);
        spells = x.spells;
      }
