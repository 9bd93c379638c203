-- A schedule whose server lasts has at most one legal trace.
use Rattle.std.proofs.Common.{◌≡◌, ◌∙◌, ℕ, refl, sym, ap, ap₂, subst, arith, List, [], ◌∷◌, ◌++◌, length, length-append}
use Rattle.std.proofs.lemmas.List.{same_from_push}
use Rattle.server_trait.specs.Service.{Machine}
use Rattle.ft_model.specs.Schedule.{kind_of}
use Rattle.ft_model.specs.declared.event.Event.{Event}
use Rattle.ft_model.specs.declared.schedule.Lasting.{Lasting}
use Rattle.ft_model.specs.declared.schedule.Schedule.{Schedule}
use Rattle.lasting_laws.specs.LastingLegal.{LastingJoint, IsLastingLegalFor, lasting_events_of, lasting_start}
use Rattle.lasting_laws.specs.LastingWorld.{Parcel, LastingWorld, LastingMoment, LastingHappens, lasting_after}
use Rattle.lasting_traces.proofs.OneMoment.{moment_once}

module _ {State : Type 0} (service : Machine State) where
  -- two moments of one event, from one world on, are the same
  same_moment : (before : LastingWorld) (m n : LastingMoment) → m.event ≡ n.event → LastingHappens service before m.event m.parcels m.world → LastingHappens service before n.event n.parcels n.world → m ≡ n
  same_moment before m n e p q =
      let same = moment_once service n.event before m.world n.world m.parcels n.parcels (subst (λ x. LastingHappens service before x m.parcels m.world) e p) q in
      λ i. record { event = e i; parcels = same.0 i; world = same.1 i }

  pub traces_once : (start : LastingWorld) (trace other : List LastingMoment) → LastingJoint service start trace → LastingJoint service start other → lasting_events_of trace ≡ lasting_events_of other
      → trace ≡ other
  traces_once start [] [] j k e = refl
  traces_once start [] (n ∷ others) j k e = absurd (omega (arith, ap length e, length-append (lasting_events_of others) (n.event ∷ [])))
  traces_once start (m ∷ earlier) [] j k e = absurd (omega (arith, ap length e, length-append (lasting_events_of earlier) (m.event ∷ [])))
  traces_once start (m ∷ earlier) (n ∷ others) j k e =
      let same : (lasting_events_of earlier ≡ lasting_events_of others) × (m.event ≡ n.event) =
      same_from_push (lasting_events_of earlier) (lasting_events_of others) m.event n.event e in
      let before : earlier ≡ others = traces_once start earlier others j.0 k.0 same.0 in
      let last : m ≡ n =
      same_moment (lasting_after start others) m n same.1 (subst (λ t. LastingHappens service (lasting_after start t) m.event m.parcels m.world) before j.2) k.2 in
      ap₂ (λ x t. x ∷ t) last before

pub legal_once : {State : Type 0} (services : ℕ → Machine State) (waits : Lasting) (schedule : Schedule) (events : List Event) (trace other : List LastingMoment)
    → IsLastingLegalFor services waits schedule events trace → IsLastingLegalFor services waits schedule events other → trace ≡ other
legal_once services waits schedule events trace other a b =
    traces_once (services (kind_of schedule.service)) (lasting_start waits schedule) trace other a.joint b.joint (a.events_are ∙ sym b.events_are)
