-- A schedule with marks has one outcome: of two legal traces the longer begins with the shorter.
use Rattle.std.proofs.Common.{◌≡◌, ◌∙◌, ℕ, ◌+◌, ◌<◌, ◌≤◌, refl, sym, ap, ap₂, subst, arith, Some, None, List, [], ◌∷◌, ◌++◌, length, length-append, append_assoc, append-nil}
use Rattle.std.proofs.lemmas.List.{same_from_push}
use Rattle.std.proofs.lemmas.Option.{none-some}
use Rattle.ft_model.specs.Schedule.{kind_of}
use Rattle.ft_model.specs.declared.event.Event.{Event}
use Rattle.ft_model.specs.declared.schedule.Schedule.{Schedule}
use Rattle.ft_model.proofs.Lists.{some_is}
use Rattle.ft_model.proofs.Outcomes.{Fronts, fronts}
use Rattle.ft_model.proofs.Outcomes.Fronts.{longer, shorter}
use Rattle.mark_laws.specs.MarkedNode.{Marker}
use Rattle.mark_laws.specs.MarkedWorld.{MarkedWorld, MarkedMoment, MarkedHappens, MarkedJoint, marked_after}
use Rattle.mark_laws.specs.MarkedLegal.{marked_start, marked_refusal, marked_events_of, IsMarkedAllowed, AllMarkedAllowed, IsMarkedLegalFor, marked_packets_sent}
use Rattle.mark_laws.specs.MarkedOutcome.{IsMarkedWhole, IsMarkedRefused, IsMarkedPastPackets}
use Rattle.mark_laws.proofs.OneTrace.{legal_once}
use Rattle.mark_laws.proofs.OneWorld.{marked_once, marked_proceeds}

-- an allowed event is done by scripted clients
record Goes {State : Type 0} (by : Marker State) (before : MarkedWorld) (event : Event) (after : MarkedWorld) : Type 0 where
  pub moment : MarkedMoment
  pub happens : MarkedHappens by before moment.event moment.sent moment.world
  pub allowed : IsMarkedAllowed before moment
  pub is : moment.event ≡ event
  pub ends : moment.world ≡ after

-- events, oldest first, lead from one world to another
abbrev Runs : {State : Type 0} → Marker State → MarkedWorld → List Event → MarkedWorld → Type 0
Runs by before [] after = after ≡ before
Runs by before (event ∷ events) after = (next : MarkedWorld) × Goes by before event next × Runs by next events after

module _ {State : Type 0} (by : Marker State) where
  goes_once : (event : Event) (before w x : MarkedWorld) → Goes by before event w → Goes by before event x → w ≡ x
  goes_once event before w x g h =
      let same : g.moment.event ≡ h.moment.event = g.is ∙ sym h.is in
      sym g.ends
      ∙ (marked_once by h.moment.event before g.moment.world h.moment.world g.moment.sent h.moment.sent
      (subst (λ e. MarkedHappens by before e g.moment.sent g.moment.world) same g.happens) h.happens
      (subst (λ e. IsMarkedAllowed before (record g.moment { event = e })) same g.allowed).scripted h.allowed.scripted
      ∙ h.ends)

  proceeds : (event : Event) (before w : MarkedWorld) → Goes by before event w → length before.parcels ≤ length w.parcels
  proceeds event before w g =
      let grown : w.parcels ≡ before.parcels ++ g.moment.sent = ap (λ v. v.parcels) (sym g.ends) ∙ marked_proceeds by g.moment.event before g.moment.world g.moment.sent g.happens in
      let long : length w.parcels ≡ length before.parcels + length g.moment.sent = ap length grown ∙ length-append before.parcels g.moment.sent in
      omega arith

  is_allowed : (event : Event) (before w : MarkedWorld) → Goes by before event w → marked_refusal before event ≡ None
  is_allowed event before w g = ap (marked_refusal before) (sym g.is) ∙ g.allowed.allowed

  runs_on : (events : List Event) (before w : MarkedWorld) → Runs by before events w → length before.parcels ≤ length w.parcels
  runs_on [] before w r = subst (λ v. length before.parcels ≤ length v.parcels) (sym r) (omega arith)
  runs_on (event ∷ events) before w r = omega (arith, proceeds event before r.0 r.1, runs_on events r.0 w r.2)

  -- the longer run begins with the shorter one
  runs_split : (events more : List Event) (before w x : MarkedWorld) → Runs by before events w → Runs by before (events ++ more) x → Runs by w more x
  runs_split [] more before w x r t = subst (λ v. Runs by v more x) (sym r) t
  runs_split (event ∷ events) more before w x r t =
      let same : t.0 ≡ r.0 = goes_once event before t.0 r.0 t.1 r.1 in
      runs_split events more r.0 w x r.2 (subst (λ v. Runs by v (events ++ more) x) same t.2)

  runs_last : (events : List Event) (event : Event) (before w x : MarkedWorld) → Runs by before events w → Goes by w event x → Runs by before (events ++ event ∷ []) x
  runs_last [] event before w x r g = (x, subst (λ v. Goes by v event x) r g, refl)
  runs_last (first ∷ events) event before w x r g = (r.0, r.1, runs_last events event r.0 w x r.2 g)

  runs_of : (start : MarkedWorld) (trace : List MarkedMoment) → MarkedJoint by start trace → AllMarkedAllowed start trace → Runs by start (marked_events_of trace) (marked_after start trace)
  runs_of start [] joint allowed = refl
  runs_of start (moment ∷ earlier) joint allowed =
      runs_last (marked_events_of earlier) moment.event start (marked_after start earlier) moment.world (runs_of start earlier joint.0 allowed.0)
      (record { moment = moment; happens = joint.1; allowed = allowed.1; is = refl; ends = refl })

-- with these first events more packets are sent than may be
record Passed {State : Type 0} (by : ℕ → Marker State) (schedule : Schedule) : Type 0 where
  pub played : List Event
  pub others : List Event
  pub trace : List MarkedMoment
  pub events : schedule.events ≡ played ++ others
  pub legal : IsMarkedLegalFor by schedule played trace
  pub over : 200000 < marked_packets_sent schedule trace

passed_with : {State : Type 0} (by : ℕ → Marker State) (schedule : Schedule) → IsMarkedPastPackets by schedule → Passed by schedule
passed_with by schedule p = record {
  played = p.played ++ p.event ∷ [];
  others = p.others;
  trace = p.moment ∷ p.earlier;
  events = p.events ∙ sym (append_assoc p.played (p.event ∷ []) p.others);
  legal = p.legal;
  over = p.over;
}

module _ {State : Type 0} (markers : ℕ → Marker State) (schedule : Schedule) where
  abbrev by : Marker State
  by = markers (kind_of schedule.service)

  abbrev start : MarkedWorld
  start = marked_start schedule

  runs_legal : (events : List Event) (trace : List MarkedMoment) → IsMarkedLegalFor markers schedule events trace → Runs by start events (marked_after start trace)
  runs_legal events trace l = subst (λ es. Runs by start es (marked_after start trace)) l.events_are (runs_of by start trace l.joint l.allowed)

  -- all events, played or not, in one run
  runs_whole : (played others : List Event) (trace : List MarkedMoment) → schedule.events ≡ played ++ others → IsMarkedLegalFor markers schedule schedule.events trace
      → Runs by start (played ++ others) (marked_after start trace)
  runs_whole played others trace e l = subst (λ es. Runs by start es (marked_after start trace)) e (runs_legal schedule.events trace l)

  pub whole_or_refused : IsMarkedWhole markers schedule → IsMarkedRefused markers schedule → ⊥
  whole_or_refused a b =
      let rest = runs_split by b.played (b.event ∷ b.others) start (marked_after start b.trace) (marked_after start a.trace) (runs_legal b.played b.trace b.legal)
      (runs_whole b.played (b.event ∷ b.others) a.trace b.events a.legal) in
      none-some b.why (sym (is_allowed by b.event (marked_after start b.trace) rest.0 rest.1) ∙ b.refused)

  pub whole_or_past : IsMarkedWhole markers schedule → IsMarkedPastPackets markers schedule → ⊥
  whole_or_past a p =
      let b : Passed markers schedule = passed_with markers schedule p in
      let rest = runs_split by b.played b.others start (marked_after start b.trace) (marked_after start a.trace) (runs_legal b.played b.trace b.legal)
      (runs_whole b.played b.others a.trace b.events a.legal) in
      let few : marked_packets_sent schedule b.trace ≤ marked_packets_sent schedule a.trace = runs_on by b.others (marked_after start b.trace) (marked_after start a.trace) rest in
      omega (arith, a.within, b.over, few)

  pub refused_or_past : IsMarkedRefused markers schedule → IsMarkedPastPackets markers schedule → ⊥
  refused_or_past a p = by_fronts (fronts a.played (a.event ∷ a.others) b.played b.others (sym a.events ∙ b.events))
    where
      b : Passed markers schedule
      b = passed_with markers schedule p

      refused : MarkedWorld
      refused = marked_after start a.trace

      passed : MarkedWorld
      passed = marked_after start b.trace

      one : Runs by start a.played refused
      one = runs_legal a.played a.trace a.legal

      other : Runs by start b.played passed
      other = runs_legal b.played b.trace b.legal

      over : length passed.parcels ≤ length refused.parcels → ⊥
      over h =
          let low : marked_packets_sent schedule a.trace ≤ 200000 = a.within in
          let high : 200000 < marked_packets_sent schedule b.trace = b.over in
          omega arith

      on_from : (middle : List Event) → a.event ∷ a.others ≡ middle ++ b.others → Runs by refused middle passed → ⊥
      on_from [] e r = over (subst (λ v. length passed.parcels ≤ length v.parcels) r (omega arith))
      on_from (event ∷ middle) e r =
          let same : event ≡ a.event = cc in
          none-some a.why (sym (subst (λ x. marked_refusal refused x ≡ None) same (is_allowed by event refused r.0 r.1)) ∙ a.refused)

      by_fronts : Fronts a.played (a.event ∷ a.others) b.played b.others → ⊥
      by_fronts (longer middle p q) = on_from middle q (runs_split by a.played middle start refused passed one (subst (λ es. Runs by start es passed) p other))
      by_fronts (shorter middle p q) = over (runs_on by middle passed refused (runs_split by b.played middle start passed refused other (subst (λ es. Runs by start es refused) p one)))

  -- a schedule is refused at one event, for one cause
  refused_on : (a b : IsMarkedRefused markers schedule) (middle : List Event) → b.played ≡ a.played ++ middle → a.event ∷ a.others ≡ middle ++ b.event ∷ b.others
      → (a.played ≡ b.played) × (a.event ≡ b.event) × (a.why ≡ b.why)
  refused_on a b [] p q =
      let played : b.played ≡ a.played = p ∙ append-nil a.played in
      let event : a.event ≡ b.event = cc in
      let trace : a.trace ≡ b.trace = legal_once markers schedule a.played a.trace b.trace a.legal (subst (λ es. IsMarkedLegalFor markers schedule es b.trace) played b.legal) in
      let same : Some a.why ≡ Some b.why = sym a.refused ∙ (ap₂ (λ t x. marked_refusal (marked_after start t) x) trace event ∙ b.refused) in
      (sym played, event, some_is a.why b.why same)
  refused_on a b (e ∷ middle) p q =
      let one = runs_legal a.played a.trace a.legal in
      let other = subst (λ es. Runs by start es (marked_after start b.trace)) p (runs_legal b.played b.trace b.legal) in
      let rest = runs_split by a.played (e ∷ middle) start (marked_after start a.trace) (marked_after start b.trace) one other in
      let same : e ≡ a.event = cc in
      absurd (none-some a.why (sym (subst (λ x. marked_refusal (marked_after start a.trace) x ≡ None) same (is_allowed by e (marked_after start a.trace) rest.0 rest.1)) ∙ a.refused))

  pub refused_once : (a b : IsMarkedRefused markers schedule) → (a.played ≡ b.played) × (a.event ≡ b.event) × (a.why ≡ b.why)
  refused_once a b = by_fronts (fronts a.played (a.event ∷ a.others) b.played (b.event ∷ b.others) (sym a.events ∙ b.events))
    where
      by_fronts : Fronts a.played (a.event ∷ a.others) b.played (b.event ∷ b.others) → (a.played ≡ b.played) × (a.event ≡ b.event) × (a.why ≡ b.why)
      by_fronts (longer middle p q) = refused_on a b middle p q
      by_fronts (shorter middle p q) = let back = refused_on b a middle p q in (sym back.0, sym back.1, sym back.2)

  -- .. and passes the limit with one
  runs_before : (b : IsMarkedPastPackets markers schedule) → Runs by start b.played (marked_after start b.earlier)
  runs_before b =
      let same : (marked_events_of b.earlier ≡ b.played) × (b.moment.event ≡ b.event) =
      same_from_push (marked_events_of b.earlier) b.played b.moment.event b.event b.legal.events_are in
      runs_legal b.played b.earlier (record { joint = b.legal.joint.0; events_are = same.0; allowed = b.legal.allowed.0 })

  past_on : (a b : IsMarkedPastPackets markers schedule) (middle : List Event) → b.played ≡ a.played ++ middle → a.event ∷ a.others ≡ middle ++ b.event ∷ b.others
      → (a.played ≡ b.played) × (a.event ≡ b.event)
  past_on a b [] p q = let event : a.event ≡ b.event = cc in (sym (p ∙ append-nil a.played), event)
  past_on a b (e ∷ middle) p q =
      let same : e ≡ a.event = cc in
      let played : b.played ≡ (a.played ++ a.event ∷ []) ++ middle = p ∙ (ap (λ x. a.played ++ x ∷ middle) same ∙ sym (append_assoc a.played (a.event ∷ []) middle)) in
      let one = runs_legal (a.played ++ a.event ∷ []) (a.moment ∷ a.earlier) a.legal in
      let other = subst (λ es. Runs by start es (marked_after start b.earlier)) played (runs_before b) in
      let rest = runs_split by (a.played ++ a.event ∷ []) middle start a.moment.world (marked_after start b.earlier) one other in
      let more : length a.moment.world.parcels ≤ length (marked_after start b.earlier).parcels = runs_on by middle a.moment.world (marked_after start b.earlier) rest in
      let low : marked_packets_sent schedule b.earlier ≤ 200000 = b.within in
      let high : 200000 < marked_packets_sent schedule (a.moment ∷ a.earlier) = a.over in
      absurd (omega (arith, more, low, high))

  pub past_once : (a b : IsMarkedPastPackets markers schedule) → (a.played ≡ b.played) × (a.event ≡ b.event)
  past_once a b = by_fronts (fronts a.played (a.event ∷ a.others) b.played (b.event ∷ b.others) (sym a.events ∙ b.events))
    where
      by_fronts : Fronts a.played (a.event ∷ a.others) b.played (b.event ∷ b.others) → (a.played ≡ b.played) × (a.event ≡ b.event)
      by_fronts (longer middle p q) = past_on a b middle p q
      by_fronts (shorter middle p q) = let back = past_on b a middle p q in (sym back.0, sym back.1)
