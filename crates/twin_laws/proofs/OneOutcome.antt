-- A schedule with two loggers has one outcome: of two legal traces the longer begins with the shorter.
use Rattle.std.proofs.Common.{◌≡◌, ◌∙◌, ℕ, ◌+◌, ◌<◌, ◌≤◌, refl, sym, ap, ap₂, subst, arith, Some, None, List, [], ◌∷◌, ◌++◌, length, length-append, append_assoc, append-nil}
use Rattle.std.proofs.lemmas.List.{same_from_push}
use Rattle.std.proofs.lemmas.Option.{none-some}
use Rattle.server_trait.specs.Service.{Machine}
use Rattle.ft_model.specs.Schedule.{kind_of}
use Rattle.ft_model.specs.declared.event.Event.{Event}
use Rattle.ft_model.specs.declared.schedule.Schedule.{Schedule}
use Rattle.ft_model.proofs.Lists.{some_is}
use Rattle.ft_model.proofs.Outcomes.{Fronts, fronts}
use Rattle.ft_model.proofs.Outcomes.Fronts.{longer, shorter}
use Rattle.twin_laws.specs.TwinWorld.{TwinWorld, TwinMoment, TwinHappens, TwinJoint, twin_after}
use Rattle.twin_laws.specs.TwinLegal.{twin_start, twin_refusal, twin_events_of, event_of, IsTwinAllowed, AllTwinAllowed, IsTwinLegalFor, twin_packets_sent}
use Rattle.twin_laws.specs.TwinOutcome.{IsTwinWhole, IsTwinRefused, IsTwinPastPackets}
use Rattle.twin_laws.proofs.OneTrace.{legal_once}
use Rattle.twin_laws.proofs.OneTurn.{twin_once, named_once, twin_proceeds}

-- an allowed event is done by scripted clients
record Goes {State : Type 0} (service : Machine State) (before : TwinWorld) (event : Event) (after : TwinWorld) : Type 0 where
  pub moment : TwinMoment
  pub happens : TwinHappens service before moment.event moment.sent moment.world
  pub allowed : IsTwinAllowed before moment
  pub is : event_of moment.event ≡ event
  pub ends : moment.world ≡ after

-- events, oldest first, lead from one world to another
abbrev Runs : {State : Type 0} → Machine State → TwinWorld → List Event → TwinWorld → Type 0
Runs service before [] after = after ≡ before
Runs service before (event ∷ events) after = (next : TwinWorld) × Goes service before event next × Runs service next events after

module _ {State : Type 0} (service : Machine State) where
  goes_once : (event : Event) (before w x : TwinWorld) → Goes service before event w → Goes service before event x → w ≡ x
  goes_once event before w x g h =
      let same : g.moment.event ≡ h.moment.event = named_once service g.moment.event h.moment.event before g.moment.world h.moment.world g.moment.sent h.moment.sent g.happens h.happens (g.is ∙ sym h.is) in
      sym g.ends
      ∙ (twin_once service h.moment.event before g.moment.world h.moment.world g.moment.sent h.moment.sent
      (subst (λ e. TwinHappens service before e g.moment.sent g.moment.world) same g.happens) h.happens
      (subst (λ e. IsTwinAllowed before (record g.moment { event = e })) same g.allowed).scripted h.allowed.scripted
      ∙ h.ends)

  proceeds : (event : Event) (before w : TwinWorld) → Goes service before event w → length before.parcels ≤ length w.parcels
  proceeds event before w g =
      let grown : w.parcels ≡ before.parcels ++ g.moment.sent = ap (λ v. v.parcels) (sym g.ends) ∙ twin_proceeds service g.moment.event before g.moment.world g.moment.sent g.happens in
      let long : length w.parcels ≡ length before.parcels + length g.moment.sent = ap length grown ∙ length-append before.parcels g.moment.sent in
      omega arith

  is_allowed : (event : Event) (before w : TwinWorld) → Goes service before event w → twin_refusal before event ≡ None
  is_allowed event before w g = ap (twin_refusal before) (sym g.is) ∙ g.allowed.allowed

  runs_on : (events : List Event) (before w : TwinWorld) → Runs service before events w → length before.parcels ≤ length w.parcels
  runs_on [] before w r = subst (λ v. length before.parcels ≤ length v.parcels) (sym r) (omega arith)
  runs_on (event ∷ events) before w r = omega (arith, proceeds event before r.0 r.1, runs_on events r.0 w r.2)

  -- the longer run begins with the shorter one
  runs_split : (events more : List Event) (before w x : TwinWorld) → Runs service before events w → Runs service before (events ++ more) x → Runs service w more x
  runs_split [] more before w x r t = subst (λ v. Runs service v more x) (sym r) t
  runs_split (event ∷ events) more before w x r t =
      let same : t.0 ≡ r.0 = goes_once event before t.0 r.0 t.1 r.1 in
      runs_split events more r.0 w x r.2 (subst (λ v. Runs service v (events ++ more) x) same t.2)

  runs_last : (events : List Event) (event : Event) (before w x : TwinWorld) → Runs service before events w → Goes service w event x → Runs service before (events ++ event ∷ []) x
  runs_last [] event before w x r g = (x, subst (λ v. Goes service v event x) r g, refl)
  runs_last (first ∷ events) event before w x r g = (r.0, r.1, runs_last events event r.0 w x r.2 g)

  runs_of : (start : TwinWorld) (trace : List TwinMoment) → TwinJoint service start trace → AllTwinAllowed start trace → Runs service start (twin_events_of trace) (twin_after start trace)
  runs_of start [] joint allowed = refl
  runs_of start (moment ∷ earlier) joint allowed =
      runs_last (twin_events_of earlier) (event_of moment.event) start (twin_after start earlier) moment.world (runs_of start earlier joint.0 allowed.0)
      (record { moment = moment; happens = joint.1; allowed = allowed.1; is = refl; ends = refl })

-- with these first events more packets are sent than may be
record Passed {State : Type 0} (service : ℕ → Machine State) (schedule : Schedule) : Type 0 where
  pub played : List Event
  pub others : List Event
  pub trace : List TwinMoment
  pub events : schedule.events ≡ played ++ others
  pub legal : IsTwinLegalFor service schedule played trace
  pub over : 200000 < twin_packets_sent schedule trace

passed_with : {State : Type 0} (service : ℕ → Machine State) (schedule : Schedule) → IsTwinPastPackets service schedule → Passed service schedule
passed_with service schedule p = record {
  played = p.played ++ p.event ∷ [];
  others = p.others;
  trace = p.moment ∷ p.earlier;
  events = p.events ∙ sym (append_assoc p.played (p.event ∷ []) p.others);
  legal = p.legal;
  over = p.over;
}

module _ {State : Type 0} (services : ℕ → Machine State) (schedule : Schedule) where
  abbrev service : Machine State
  service = services (kind_of schedule.service)

  abbrev start : TwinWorld
  start = twin_start schedule

  runs_legal : (events : List Event) (trace : List TwinMoment) → IsTwinLegalFor services schedule events trace → Runs service start events (twin_after start trace)
  runs_legal events trace l = subst (λ es. Runs service start es (twin_after start trace)) l.events_are (runs_of service start trace l.joint l.allowed)

  -- all events, played or not, in one run
  runs_whole : (played others : List Event) (trace : List TwinMoment) → schedule.events ≡ played ++ others → IsTwinLegalFor services schedule schedule.events trace
      → Runs service start (played ++ others) (twin_after start trace)
  runs_whole played others trace e l = subst (λ es. Runs service start es (twin_after start trace)) e (runs_legal schedule.events trace l)

  pub whole_or_refused : IsTwinWhole services schedule → IsTwinRefused services schedule → ⊥
  whole_or_refused a b =
      let rest = runs_split service b.played (b.event ∷ b.others) start (twin_after start b.trace) (twin_after start a.trace) (runs_legal b.played b.trace b.legal)
      (runs_whole b.played (b.event ∷ b.others) a.trace b.events a.legal) in
      none-some b.why (sym (is_allowed service b.event (twin_after start b.trace) rest.0 rest.1) ∙ b.refused)

  pub whole_or_past : IsTwinWhole services schedule → IsTwinPastPackets services schedule → ⊥
  whole_or_past a p =
      let b : Passed services schedule = passed_with services schedule p in
      let rest = runs_split service b.played b.others start (twin_after start b.trace) (twin_after start a.trace) (runs_legal b.played b.trace b.legal)
      (runs_whole b.played b.others a.trace b.events a.legal) in
      let few : twin_packets_sent schedule b.trace ≤ twin_packets_sent schedule a.trace = runs_on service b.others (twin_after start b.trace) (twin_after start a.trace) rest in
      omega (arith, a.within, b.over, few)

  pub refused_or_past : IsTwinRefused services schedule → IsTwinPastPackets services schedule → ⊥
  refused_or_past a p = by_fronts (fronts a.played (a.event ∷ a.others) b.played b.others (sym a.events ∙ b.events))
    where
      b : Passed services schedule
      b = passed_with services schedule p

      refused : TwinWorld
      refused = twin_after start a.trace

      passed : TwinWorld
      passed = twin_after start b.trace

      one : Runs service start a.played refused
      one = runs_legal a.played a.trace a.legal

      other : Runs service start b.played passed
      other = runs_legal b.played b.trace b.legal

      over : length passed.parcels ≤ length refused.parcels → ⊥
      over h =
          let low : twin_packets_sent schedule a.trace ≤ 200000 = a.within in
          let high : 200000 < twin_packets_sent schedule b.trace = b.over in
          omega arith

      on_from : (middle : List Event) → a.event ∷ a.others ≡ middle ++ b.others → Runs service refused middle passed → ⊥
      on_from [] e r = over (subst (λ v. length passed.parcels ≤ length v.parcels) r (omega arith))
      on_from (event ∷ middle) e r =
          let same : event ≡ a.event = cc in
          none-some a.why (sym (subst (λ x. twin_refusal refused x ≡ None) same (is_allowed service event refused r.0 r.1)) ∙ a.refused)

      by_fronts : Fronts a.played (a.event ∷ a.others) b.played b.others → ⊥
      by_fronts (longer middle p q) = on_from middle q (runs_split service a.played middle start refused passed one (subst (λ es. Runs service start es passed) p other))
      by_fronts (shorter middle p q) = over (runs_on service middle passed refused (runs_split service b.played middle start passed refused other (subst (λ es. Runs service start es refused) p one)))

  -- a schedule is refused at one event, for one cause
  refused_on : (a b : IsTwinRefused services schedule) (middle : List Event) → b.played ≡ a.played ++ middle → a.event ∷ a.others ≡ middle ++ b.event ∷ b.others
      → (a.played ≡ b.played) × (a.event ≡ b.event) × (a.why ≡ b.why)
  refused_on a b [] p q =
      let played : b.played ≡ a.played = p ∙ append-nil a.played in
      let event : a.event ≡ b.event = cc in
      let trace : a.trace ≡ b.trace = legal_once services schedule a.played a.trace b.trace a.legal (subst (λ es. IsTwinLegalFor services schedule es b.trace) played b.legal) in
      let same : Some a.why ≡ Some b.why = sym a.refused ∙ (ap₂ (λ t x. twin_refusal (twin_after start t) x) trace event ∙ b.refused) in
      (sym played, event, some_is a.why b.why same)
  refused_on a b (e ∷ middle) p q =
      let one = runs_legal a.played a.trace a.legal in
      let other = subst (λ es. Runs service start es (twin_after start b.trace)) p (runs_legal b.played b.trace b.legal) in
      let rest = runs_split service a.played (e ∷ middle) start (twin_after start a.trace) (twin_after start b.trace) one other in
      let same : e ≡ a.event = cc in
      absurd (none-some a.why (sym (subst (λ x. twin_refusal (twin_after start a.trace) x ≡ None) same (is_allowed service e (twin_after start a.trace) rest.0 rest.1)) ∙ a.refused))

  pub refused_once : (a b : IsTwinRefused services schedule) → (a.played ≡ b.played) × (a.event ≡ b.event) × (a.why ≡ b.why)
  refused_once a b = by_fronts (fronts a.played (a.event ∷ a.others) b.played (b.event ∷ b.others) (sym a.events ∙ b.events))
    where
      by_fronts : Fronts a.played (a.event ∷ a.others) b.played (b.event ∷ b.others) → (a.played ≡ b.played) × (a.event ≡ b.event) × (a.why ≡ b.why)
      by_fronts (longer middle p q) = refused_on a b middle p q
      by_fronts (shorter middle p q) = let back = refused_on b a middle p q in (sym back.0, sym back.1, sym back.2)

  -- .. and passes the limit with one
  runs_before : (b : IsTwinPastPackets services schedule) → Runs service start b.played (twin_after start b.earlier)
  runs_before b =
      let same : (twin_events_of b.earlier ≡ b.played) × (event_of b.moment.event ≡ b.event) =
      same_from_push (twin_events_of b.earlier) b.played (event_of b.moment.event) b.event b.legal.events_are in
      runs_legal b.played b.earlier (record { joint = b.legal.joint.0; events_are = same.0; allowed = b.legal.allowed.0 })

  past_on : (a b : IsTwinPastPackets services schedule) (middle : List Event) → b.played ≡ a.played ++ middle → a.event ∷ a.others ≡ middle ++ b.event ∷ b.others
      → (a.played ≡ b.played) × (a.event ≡ b.event)
  past_on a b [] p q = let event : a.event ≡ b.event = cc in (sym (p ∙ append-nil a.played), event)
  past_on a b (e ∷ middle) p q =
      let same : e ≡ a.event = cc in
      let played : b.played ≡ (a.played ++ a.event ∷ []) ++ middle = p ∙ (ap (λ x. a.played ++ x ∷ middle) same ∙ sym (append_assoc a.played (a.event ∷ []) middle)) in
      let one = runs_legal (a.played ++ a.event ∷ []) (a.moment ∷ a.earlier) a.legal in
      let other = subst (λ es. Runs service start es (twin_after start b.earlier)) played (runs_before b) in
      let rest = runs_split service (a.played ++ a.event ∷ []) middle start a.moment.world (twin_after start b.earlier) one other in
      let more : length a.moment.world.parcels ≤ length (twin_after start b.earlier).parcels = runs_on service middle a.moment.world (twin_after start b.earlier) rest in
      let low : twin_packets_sent schedule b.earlier ≤ 200000 = b.within in
      let high : 200000 < twin_packets_sent schedule (a.moment ∷ a.earlier) = a.over in
      absurd (omega (arith, more, low, high))

  pub past_once : (a b : IsTwinPastPackets services schedule) → (a.played ≡ b.played) × (a.event ≡ b.event)
  past_once a b = by_fronts (fronts a.played (a.event ∷ a.others) b.played (b.event ∷ b.others) (sym a.events ∙ b.events))
    where
      by_fronts : Fronts a.played (a.event ∷ a.others) b.played (b.event ∷ b.others) → (a.played ≡ b.played) × (a.event ≡ b.event)
      by_fronts (longer middle p q) = past_on a b middle p q
      by_fronts (shorter middle p q) = let back = past_on b a middle p q in (sym back.0, sym back.1)
