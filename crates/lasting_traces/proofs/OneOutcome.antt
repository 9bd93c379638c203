-- A schedule whose server lasts has one outcome: of two legal traces the longer begins with the shorter.
use Rattle.std.proofs.Common.{◌≡◌, ◌∙◌, ℕ, ◌+◌, ◌<◌, ◌≤◌, refl, sym, ap, ap₂, subst, arith, Some, None, List, [], ◌∷◌, ◌++◌, length, append_assoc, append-nil}
use Rattle.std.proofs.lemmas.List.{same_from_push}
use Rattle.std.proofs.lemmas.Option.{none-some}
use Rattle.server_trait.specs.Service.{Machine}
use Rattle.ft_model.specs.Schedule.{kind_of}
use Rattle.ft_model.specs.declared.event.Event.{Event}
use Rattle.ft_model.specs.declared.schedule.Lasting.{Lasting}
use Rattle.ft_model.specs.declared.schedule.Schedule.{Schedule}
use Rattle.ft_model.proofs.Lists.{some_is}
use Rattle.ft_model.proofs.Outcomes.{Fronts, fronts}
use Rattle.ft_model.proofs.Outcomes.Fronts.{longer, shorter}
use Rattle.lasting_laws.specs.LastingLegal.{lasting_start, lasting_refusal, LastingJoint, lasting_events_of, IsLastingLegalFor, lasting_packets_sent, IsLastingWhole, IsLastingRefused, IsLastingPastPackets}
use Rattle.lasting_laws.specs.LastingWorld.{Parcel, LastingWorld, LastingMoment, LastingHappens, lasting_after}
use Rattle.lasting_traces.proofs.OneMoment.{moment_once, moment_grows}
use Rattle.lasting_traces.proofs.OneTrace.{legal_once}

-- an event is allowed and leads from one world to another
record Goes {State : Type 0} (service : Machine State) (before : LastingWorld) (event : Event) (after : LastingWorld) : Type 0 where
  pub parcels : List Parcel
  pub happens : LastingHappens service before event parcels after
  pub allowed : lasting_refusal before event ≡ None

-- events, oldest first, lead from one world to another
abbrev Runs : {State : Type 0} → Machine State → LastingWorld → List Event → LastingWorld → Type 0
Runs service before [] after = after ≡ before
Runs service before (event ∷ events) after = (next : LastingWorld) × Goes service before event next × Runs service next events after

module _ {State : Type 0} (by : Machine State) where
  goes_once : (event : Event) (before w x : LastingWorld) → Goes by before event w → Goes by before event x → w ≡ x
  goes_once event before w x g h = (moment_once by event before w x g.parcels h.parcels g.happens h.happens).1

  proceeds : (event : Event) (before w : LastingWorld) → Goes by before event w → length before.sent ≤ length w.sent
  proceeds event before w g = omega (arith, moment_grows by event before g.parcels w g.happens)

  runs_on : (events : List Event) (before w : LastingWorld) → Runs by before events w → length before.sent ≤ length w.sent
  runs_on [] before w r = subst (λ v. length before.sent ≤ length v.sent) (sym r) (omega arith)
  runs_on (event ∷ events) before w r = omega (arith, proceeds event before r.0 r.1, runs_on events r.0 w r.2)

  -- the longer run begins with the shorter one
  runs_split : (events more : List Event) (before w x : LastingWorld) → Runs by before events w → Runs by before (events ++ more) x → Runs by w more x
  runs_split [] more before w x r t = subst (λ v. Runs by v more x) (sym r) t
  runs_split (event ∷ events) more before w x r t =
      let same : t.0 ≡ r.0 = goes_once event before t.0 r.0 t.1 r.1 in
      runs_split events more r.0 w x r.2 (subst (λ v. Runs by v (events ++ more) x) same t.2)

  runs_last : (events : List Event) (event : Event) (before w x : LastingWorld) → Runs by before events w → Goes by w event x → Runs by before (events ++ event ∷ []) x
  runs_last [] event before w x r g = (x, subst (λ v. Goes by v event x) r g, refl)
  runs_last (first ∷ events) event before w x r g = (r.0, r.1, runs_last events event r.0 w x r.2 g)

  runs_of : (start : LastingWorld) (trace : List LastingMoment) → LastingJoint by start trace → Runs by start (lasting_events_of trace) (lasting_after start trace)
  runs_of start [] joint = refl
  runs_of start (moment ∷ earlier) joint =
      runs_last (lasting_events_of earlier) moment.event start (lasting_after start earlier) moment.world (runs_of start earlier joint.0)
      (record { parcels = moment.parcels; happens = joint.2; allowed = joint.1 })

-- with these first events more packets are sent than may be
record Passed {State : Type 0} (services : ℕ → Machine State) (waits : Lasting) (schedule : Schedule) : Type 0 where
  pub played : List Event
  pub others : List Event
  pub trace : List LastingMoment
  pub events : schedule.events ≡ played ++ others
  pub legal : IsLastingLegalFor services waits schedule played trace
  pub over : 200000 < lasting_packets_sent waits schedule trace

passed_with : {State : Type 0} (services : ℕ → Machine State) (waits : Lasting) (schedule : Schedule) → IsLastingPastPackets services waits schedule → Passed services waits schedule
passed_with services waits schedule p = record {
  played = p.played ++ p.event ∷ [];
  others = p.others;
  trace = p.moment ∷ p.earlier;
  events = p.events ∙ sym (append_assoc p.played (p.event ∷ []) p.others);
  legal = p.legal;
  over = p.over;
}

module _ {State : Type 0} (services : ℕ → Machine State) (waits : Lasting) (schedule : Schedule) where
  abbrev by : Machine State
  by = services (kind_of schedule.service)

  abbrev start : LastingWorld
  start = lasting_start waits schedule

  runs_legal : (events : List Event) (trace : List LastingMoment) → IsLastingLegalFor services waits schedule events trace → Runs by start events (lasting_after start trace)
  runs_legal events trace l = subst (λ es. Runs by start es (lasting_after start trace)) l.events_are (runs_of by start trace l.joint)

  -- all events, played or not, in one run
  runs_whole : (played others : List Event) (trace : List LastingMoment) → schedule.events ≡ played ++ others → IsLastingLegalFor services waits schedule schedule.events trace
      → Runs by start (played ++ others) (lasting_after start trace)
  runs_whole played others trace e l = subst (λ es. Runs by start es (lasting_after start trace)) e (runs_legal schedule.events trace l)

  pub whole_or_refused : IsLastingWhole services waits schedule → IsLastingRefused services waits schedule → ⊥
  whole_or_refused a b =
      let rest = runs_split by b.played (b.event ∷ b.others) start (lasting_after start b.trace) (lasting_after start a.trace) (runs_legal b.played b.trace b.legal)
      (runs_whole b.played (b.event ∷ b.others) a.trace b.events a.legal) in
      none-some b.why (sym (rest.1.allowed) ∙ b.refused)

  pub whole_or_past : IsLastingWhole services waits schedule → IsLastingPastPackets services waits schedule → ⊥
  whole_or_past a p =
      let b : Passed services waits schedule = passed_with services waits schedule p in
      let rest = runs_split by b.played b.others start (lasting_after start b.trace) (lasting_after start a.trace) (runs_legal b.played b.trace b.legal)
      (runs_whole b.played b.others a.trace b.events a.legal) in
      let few : lasting_packets_sent waits schedule b.trace ≤ lasting_packets_sent waits schedule a.trace = runs_on by b.others (lasting_after start b.trace) (lasting_after start a.trace) rest in
      omega (arith, a.within, b.over, few)

  pub refused_or_past : IsLastingRefused services waits schedule → IsLastingPastPackets services waits schedule → ⊥
  refused_or_past a p = by_fronts (fronts a.played (a.event ∷ a.others) b.played b.others (sym a.events ∙ b.events))
    where
      b : Passed services waits schedule
      b = passed_with services waits schedule p

      refused : LastingWorld
      refused = lasting_after start a.trace

      passed : LastingWorld
      passed = lasting_after start b.trace

      one : Runs by start a.played refused
      one = runs_legal a.played a.trace a.legal

      other : Runs by start b.played passed
      other = runs_legal b.played b.trace b.legal

      over : length passed.sent ≤ length refused.sent → ⊥
      over h =
          let low : lasting_packets_sent waits schedule a.trace ≤ 200000 = a.within in
          let high : 200000 < lasting_packets_sent waits schedule b.trace = b.over in
          omega arith

      on_from : (middle : List Event) → a.event ∷ a.others ≡ middle ++ b.others → Runs by refused middle passed → ⊥
      on_from [] e r = over (subst (λ v. length passed.sent ≤ length v.sent) r (omega arith))
      on_from (event ∷ middle) e r =
          let same : event ≡ a.event = cc in
          none-some a.why (sym (subst (λ x. lasting_refusal refused x ≡ None) same (r.1.allowed)) ∙ a.refused)

      by_fronts : Fronts a.played (a.event ∷ a.others) b.played b.others → ⊥
      by_fronts (longer middle p q) = on_from middle q (runs_split by a.played middle start refused passed one (subst (λ es. Runs by start es passed) p other))
      by_fronts (shorter middle p q) = over (runs_on by middle passed refused (runs_split by b.played middle start passed refused other (subst (λ es. Runs by start es refused) p one)))

  -- a schedule is refused at one event, for one cause
  refused_on : (a b : IsLastingRefused services waits schedule) (middle : List Event) → b.played ≡ a.played ++ middle → a.event ∷ a.others ≡ middle ++ b.event ∷ b.others
      → (a.played ≡ b.played) × (a.event ≡ b.event) × (a.why ≡ b.why)
  refused_on a b [] p q =
      let played : b.played ≡ a.played = p ∙ append-nil a.played in
      let event : a.event ≡ b.event = cc in
      let trace : a.trace ≡ b.trace = legal_once services waits schedule a.played a.trace b.trace a.legal (subst (λ es. IsLastingLegalFor services waits schedule es b.trace) played b.legal) in
      let same : Some a.why ≡ Some b.why = sym a.refused ∙ (ap₂ (λ t x. lasting_refusal (lasting_after start t) x) trace event ∙ b.refused) in
      (sym played, event, some_is a.why b.why same)
  refused_on a b (e ∷ middle) p q =
      let one = runs_legal a.played a.trace a.legal in
      let other = subst (λ es. Runs by start es (lasting_after start b.trace)) p (runs_legal b.played b.trace b.legal) in
      let rest = runs_split by a.played (e ∷ middle) start (lasting_after start a.trace) (lasting_after start b.trace) one other in
      let same : e ≡ a.event = cc in
      absurd (none-some a.why (sym (subst (λ x. lasting_refusal (lasting_after start a.trace) x ≡ None) same (rest.1.allowed)) ∙ a.refused))

  pub refused_once : (a b : IsLastingRefused services waits schedule) → (a.played ≡ b.played) × (a.event ≡ b.event) × (a.why ≡ b.why)
  refused_once a b = by_fronts (fronts a.played (a.event ∷ a.others) b.played (b.event ∷ b.others) (sym a.events ∙ b.events))
    where
      by_fronts : Fronts a.played (a.event ∷ a.others) b.played (b.event ∷ b.others) → (a.played ≡ b.played) × (a.event ≡ b.event) × (a.why ≡ b.why)
      by_fronts (longer middle p q) = refused_on a b middle p q
      by_fronts (shorter middle p q) = let back = refused_on b a middle p q in (sym back.0, sym back.1, sym back.2)

  -- .. and passes the limit with one
  runs_before : (b : IsLastingPastPackets services waits schedule) → Runs by start b.played (lasting_after start b.earlier)
  runs_before b =
      let same : (lasting_events_of b.earlier ≡ b.played) × (b.moment.event ≡ b.event) =
      same_from_push (lasting_events_of b.earlier) b.played b.moment.event b.event b.legal.events_are in
      runs_legal b.played b.earlier (record { joint = b.legal.joint.0; events_are = same.0 })

  past_on : (a b : IsLastingPastPackets services waits schedule) (middle : List Event) → b.played ≡ a.played ++ middle → a.event ∷ a.others ≡ middle ++ b.event ∷ b.others
      → (a.played ≡ b.played) × (a.event ≡ b.event)
  past_on a b [] p q = let event : a.event ≡ b.event = cc in (sym (p ∙ append-nil a.played), event)
  past_on a b (e ∷ middle) p q =
      let same : e ≡ a.event = cc in
      let played : b.played ≡ (a.played ++ a.event ∷ []) ++ middle = p ∙ (ap (λ x. a.played ++ x ∷ middle) same ∙ sym (append_assoc a.played (a.event ∷ []) middle)) in
      let one = runs_legal (a.played ++ a.event ∷ []) (a.moment ∷ a.earlier) a.legal in
      let other = subst (λ es. Runs by start es (lasting_after start b.earlier)) played (runs_before b) in
      let rest = runs_split by (a.played ++ a.event ∷ []) middle start a.moment.world (lasting_after start b.earlier) one other in
      let more : length a.moment.world.sent ≤ length (lasting_after start b.earlier).sent = runs_on by middle a.moment.world (lasting_after start b.earlier) rest in
      let low : lasting_packets_sent waits schedule b.earlier ≤ 200000 = b.within in
      let high : 200000 < lasting_packets_sent waits schedule (a.moment ∷ a.earlier) = a.over in
      absurd (omega (arith, more, low, high))

  pub past_once : (a b : IsLastingPastPackets services waits schedule) → (a.played ≡ b.played) × (a.event ≡ b.event)
  past_once a b = by_fronts (fronts a.played (a.event ∷ a.others) b.played (b.event ∷ b.others) (sym a.events ∙ b.events))
    where
      by_fronts : Fronts a.played (a.event ∷ a.others) b.played (b.event ∷ b.others) → (a.played ≡ b.played) × (a.event ≡ b.event)
      by_fronts (longer middle p q) = past_on a b middle p q
      by_fronts (shorter middle p q) = let back = past_on b a middle p q in (sym back.0, sym back.1)
