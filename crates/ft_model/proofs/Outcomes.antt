-- A schedule has one outcome: of two legal traces the longer begins with the shorter.
use Rattle.std.proofs.Common.{ap₂, Some, append-nil, append_assoc, ◌≡◌, ℕ, ◌+◌, ◌<◌, ◌≤◌, refl, sym, ap, ◌∙◌, subst, arith, None, List, [], ◌∷◌, ◌++◌, length, length-append}
use Rattle.std.proofs.lemmas.Option.{none-some}
use Rattle.server_trait.specs.Service.{Machine}
use Rattle.ft_model.specs.Network.{Packet}
use Rattle.ft_model.specs.Schedule.{kind_of}
use Rattle.ft_model.specs.World.{World, Moment, Happens, Joint, world_after, events_of}
use Rattle.ft_model.specs.Legal.{start_of, refusal, IsScripted, AllAllowed, IsLegalFor}
use Rattle.ft_model.specs.Outcome.{packets_sent, IsWhole, IsRefused, IsPastPackets}
use Rattle.ft_model.specs.declared.event.Event.{Event}
use Rattle.ft_model.specs.declared.schedule.Schedule.{Schedule}
use Rattle.std.proofs.lemmas.List.{same_from_push}
use Rattle.ft_model.proofs.Lists.{some_is}
use Rattle.ft_model.proofs.OneTrace.{happens_once, proceeds}

-- an allowed event is done by scripted clients
record Goes {State : Type 0} (service : Machine State) (before : World) (event : Event) (after : World) : Type 0 where
  pub sent : List Packet
  pub happens : Happens service before event sent after
  pub allowed : refusal before event ≡ None
  pub scripted : IsScripted before event sent after

-- events, oldest first, lead from one world to another
abbrev Runs : {State : Type 0} → Machine State → World → List Event → World → Type 0
Runs service before [] after = after ≡ before
Runs service before (event ∷ events) after = (next : World) × Goes service before event next × Runs service next events after

-- two ways to cut a list in two: one front begins with the other
pub data Fronts {A : Type 0} (xs ys zs us : List A) : Type 0 where
  longer : (middle : List A) → zs ≡ xs ++ middle → ys ≡ middle ++ us → Fronts xs ys zs us
  shorter : (middle : List A) → xs ≡ zs ++ middle → us ≡ middle ++ ys → Fronts xs ys zs us

pub fronts : {A : Type 0} (xs ys zs us : List A) → xs ++ ys ≡ zs ++ us → Fronts xs ys zs us
fronts [] ys zs us e = longer zs refl e
fronts (x ∷ xs) ys [] us e = shorter (x ∷ xs) refl (sym e)
fronts (x ∷ xs) ys (z ∷ zs) us e = further (fronts xs ys zs us (cc))
  where
    first : x ≡ z
    first = cc

    further : Fronts xs ys zs us → Fronts (x ∷ xs) ys (z ∷ zs) us
    further (longer middle p q) = longer middle (ap (λ w. w ∷ zs) (sym first) ∙ ap (λ ws. x ∷ ws) p) q
    further (shorter middle p q) = shorter middle (ap (λ w. w ∷ xs) first ∙ ap (λ ws. z ∷ ws) p) q

module _ {State : Type 0} (service : Machine State) where
  goes_once : (event : Event) (before w x : World) → Goes service before event w → Goes service before event x → w ≡ x
  goes_once event before w x g h = happens_once service event before w x g.sent h.sent g.happens h.happens g.scripted h.scripted

  runs_on : (events : List Event) (before w : World) → Runs service before events w → length before.packets ≤ length w.packets
  runs_on [] before w r = subst (λ v. length before.packets ≤ length v.packets) (sym r) (omega arith)
  runs_on (event ∷ events) before w r =
      let first : r.0.packets ≡ before.packets ++ r.1.sent = proceeds service event before r.0 r.1.sent r.1.happens in
      let long : length r.0.packets ≡ length before.packets + length r.1.sent = ap length first ∙ length-append before.packets r.1.sent in
      let later : length r.0.packets ≤ length w.packets = runs_on events r.0 w r.2 in
      omega arith

  -- the longer run begins with the shorter one
  runs_split : (events more : List Event) (before w x : World) → Runs service before events w → Runs service before (events ++ more) x → Runs service w more x
  runs_split [] more before w x r t = subst (λ v. Runs service v more x) (sym r) t
  runs_split (event ∷ events) more before w x r t =
      let same : t.0 ≡ r.0 = goes_once event before t.0 r.0 t.1 r.1 in
      runs_split events more r.0 w x r.2 (subst (λ v. Runs service v (events ++ more) x) same t.2)

  runs_last : (events : List Event) (event : Event) (before w x : World) → Runs service before events w → Goes service w event x → Runs service before (events ++ event ∷ []) x
  runs_last [] event before w x r g = (x, subst (λ v. Goes service v event x) r g, refl)
  runs_last (first ∷ events) event before w x r g = (r.0, r.1, runs_last events event r.0 w x r.2 g)

  runs_of : (start : World) (trace : List Moment) → Joint service start trace → AllAllowed start trace → Runs service start (events_of trace) (world_after start trace)
  runs_of start [] joint allowed = refl
  runs_of start (moment ∷ earlier) joint allowed =
      runs_last (events_of earlier) moment.event start (world_after start earlier) moment.world (runs_of start earlier joint.0 allowed.0)
      (record { sent = moment.sent; happens = joint.1; allowed = allowed.1.allowed; scripted = allowed.1.scripted })

-- with these first events more packets are sent than may be
record Passed {State : Type 0} (service : ℕ → Machine State) (schedule : Schedule) : Type 0 where
  pub played : List Event
  pub others : List Event
  pub trace : List Moment
  pub events : schedule.events ≡ played ++ others
  pub legal : IsLegalFor service schedule played trace
  pub over : 200000 < packets_sent schedule trace

passed_with : {State : Type 0} (service : ℕ → Machine State) (schedule : Schedule) → IsPastPackets service schedule → Passed service schedule
passed_with service schedule p = record {
  played = p.played ++ p.event ∷ [];
  others = p.others;
  trace = p.moment ∷ p.earlier;
  events = p.events ∙ sym (append_assoc p.played (p.event ∷ []) p.others);
  legal = p.legal;
  over = p.over;
}

module _ {State : Type 0} (service : ℕ → Machine State) where
  runs_legal : (schedule : Schedule) (events : List Event) (trace : List Moment) → IsLegalFor service schedule events trace
      → Runs (service (kind_of schedule.service)) (start_of schedule) events (world_after (start_of schedule) trace)
  runs_legal schedule events trace l = subst (λ es. Runs (service (kind_of schedule.service)) (start_of schedule) es (world_after (start_of schedule) trace)) l.events_are (runs_of (service (kind_of schedule.service)) (start_of schedule) trace l.joint l.allowed)

  pub whole_or_refused : (schedule : Schedule) → IsWhole service schedule → IsRefused service schedule → ⊥
  whole_or_refused schedule a b =
      let start : World = start_of schedule in
      let all : Runs (service (kind_of schedule.service)) start (b.played ++ b.event ∷ b.others) (world_after start a.trace) =
      subst (λ es. Runs (service (kind_of schedule.service)) start es (world_after start a.trace)) b.events (runs_legal schedule schedule.events a.trace a.legal) in
      let rest = runs_split (service (kind_of schedule.service)) b.played (b.event ∷ b.others) start (world_after start b.trace) (world_after start a.trace) (runs_legal schedule b.played b.trace b.legal) all in
      none-some b.why (sym rest.1.allowed ∙ b.refused)

  pub whole_or_past : (schedule : Schedule) → IsWhole service schedule → IsPastPackets service schedule → ⊥
  whole_or_past schedule a p =
      let b : Passed service schedule = passed_with service schedule p in
      let start : World = start_of schedule in
      let all : Runs (service (kind_of schedule.service)) start (b.played ++ b.others) (world_after start a.trace) =
      subst (λ es. Runs (service (kind_of schedule.service)) start es (world_after start a.trace)) b.events (runs_legal schedule schedule.events a.trace a.legal) in
      let rest = runs_split (service (kind_of schedule.service)) b.played b.others start (world_after start b.trace) (world_after start a.trace) (runs_legal schedule b.played b.trace b.legal) all in
      let few : packets_sent schedule b.trace ≤ packets_sent schedule a.trace = runs_on (service (kind_of schedule.service)) b.others (world_after start b.trace) (world_after start a.trace) rest in
      let low : packets_sent schedule a.trace ≤ 200000 = a.within in
      let high : 200000 < packets_sent schedule b.trace = b.over in
      omega arith

  refused_or_passed : (schedule : Schedule) → IsRefused service schedule → Passed service schedule → ⊥
  refused_or_passed schedule a b = by_fronts (fronts a.played (a.event ∷ a.others) b.played b.others (sym a.events ∙ b.events))
    where
      start : World
      start = start_of schedule

      refused : World
      refused = world_after start a.trace

      passed : World
      passed = world_after start b.trace

      one : Runs (service (kind_of schedule.service)) start a.played refused
      one = runs_legal schedule a.played a.trace a.legal

      other : Runs (service (kind_of schedule.service)) start b.played passed
      other = runs_legal schedule b.played b.trace b.legal

      over : length passed.packets ≤ length refused.packets → ⊥
      over h =
          let low : packets_sent schedule a.trace ≤ 200000 = a.within in
          let high : 200000 < packets_sent schedule b.trace = b.over in
          omega arith

      on_from : (middle : List Event) → a.event ∷ a.others ≡ middle ++ b.others → Runs (service (kind_of schedule.service)) refused middle passed → ⊥
      on_from [] e r = over (subst (λ v. length passed.packets ≤ length v.packets) r (omega arith))
      on_from (event ∷ middle) e r =
          let same : event ≡ a.event = cc in
          none-some a.why (sym (subst (λ x. refusal refused x ≡ None) same r.1.allowed) ∙ a.refused)

      by_fronts : Fronts a.played (a.event ∷ a.others) b.played b.others → ⊥
      by_fronts (longer middle p q) = on_from middle q (runs_split (service (kind_of schedule.service)) a.played middle start refused passed one (subst (λ es. Runs (service (kind_of schedule.service)) start es passed) p other))
      by_fronts (shorter middle p q) = over (runs_on (service (kind_of schedule.service)) middle passed refused (runs_split (service (kind_of schedule.service)) b.played middle start passed refused other (subst (λ es. Runs (service (kind_of schedule.service)) start es refused) p one)))

  pub refused_or_past : (schedule : Schedule) → IsRefused service schedule → IsPastPackets service schedule → ⊥
  refused_or_past schedule a p = refused_or_passed schedule a (passed_with service schedule p)

  -- a schedule is refused at one event, for one cause
  refused_first : (schedule : Schedule) (a b : IsRefused service schedule) → Fronts a.played (a.event ∷ a.others) b.played (b.event ∷ b.others)
      → (a.played ≡ b.played) × (a.event ≡ b.event) × (a.why ≡ b.why)
  refused_first schedule a b (longer [] p q) =
      let machine : Machine State = service (kind_of schedule.service) in
      let start : World = start_of schedule in
      let played : b.played ≡ a.played = p ∙ append-nil a.played in
      let event : a.event ≡ b.event = cc in
      let one = runs_legal schedule a.played a.trace a.legal in
      let other = subst (λ es. Runs machine start es (world_after start b.trace)) (played ∙ sym (append-nil a.played)) (runs_legal schedule b.played b.trace b.legal) in
      let world : world_after start b.trace ≡ world_after start a.trace = runs_split machine a.played [] start (world_after start a.trace) (world_after start b.trace) one other in
      let same : Some a.why ≡ Some b.why = sym a.refused ∙ (ap₂ refusal (sym world) event ∙ b.refused) in
      (sym played, event, some_is a.why b.why same)
  refused_first schedule a b (longer (e ∷ middle) p q) =
      let machine : Machine State = service (kind_of schedule.service) in
      let start : World = start_of schedule in
      let one = runs_legal schedule a.played a.trace a.legal in
      let other = subst (λ es. Runs machine start es (world_after start b.trace)) p (runs_legal schedule b.played b.trace b.legal) in
      let rest = runs_split machine a.played (e ∷ middle) start (world_after start a.trace) (world_after start b.trace) one other in
      let same : e ≡ a.event = cc in
      absurd (none-some a.why (sym (subst (λ x. refusal (world_after start a.trace) x ≡ None) same rest.1.allowed) ∙ a.refused))
  refused_first schedule a b (shorter [] p q) =
      let machine : Machine State = service (kind_of schedule.service) in
      let start : World = start_of schedule in
      let played : a.played ≡ b.played = p ∙ append-nil b.played in
      let event : a.event ≡ b.event = cc in
      let one = runs_legal schedule b.played b.trace b.legal in
      let other = subst (λ es. Runs machine start es (world_after start a.trace)) (played ∙ sym (append-nil b.played)) (runs_legal schedule a.played a.trace a.legal) in
      let world : world_after start a.trace ≡ world_after start b.trace = runs_split machine b.played [] start (world_after start b.trace) (world_after start a.trace) one other in
      let same : Some a.why ≡ Some b.why = sym a.refused ∙ (ap₂ refusal world event ∙ b.refused) in
      (played, event, some_is a.why b.why same)
  refused_first schedule a b (shorter (e ∷ middle) p q) =
      let machine : Machine State = service (kind_of schedule.service) in
      let start : World = start_of schedule in
      let one = runs_legal schedule b.played b.trace b.legal in
      let other = subst (λ es. Runs machine start es (world_after start a.trace)) p (runs_legal schedule a.played a.trace a.legal) in
      let rest = runs_split machine b.played (e ∷ middle) start (world_after start b.trace) (world_after start a.trace) one other in
      let same : e ≡ b.event = cc in
      absurd (none-some b.why (sym (subst (λ x. refusal (world_after start b.trace) x ≡ None) same rest.1.allowed) ∙ b.refused))

  pub refused_once : (schedule : Schedule) (a b : IsRefused service schedule) → (a.played ≡ b.played) × (a.event ≡ b.event) × (a.why ≡ b.why)
  refused_once schedule a b = refused_first schedule a b (fronts a.played (a.event ∷ a.others) b.played (b.event ∷ b.others) (sym a.events ∙ b.events))

  runs_before : (schedule : Schedule) (b : IsPastPackets service schedule) → Runs (service (kind_of schedule.service)) (start_of schedule) b.played (world_after (start_of schedule) b.earlier)
  runs_before schedule b =
      let same : (events_of b.earlier ≡ b.played) × (b.moment.event ≡ b.event) = same_from_push (events_of b.earlier) b.played b.moment.event b.event b.legal.events_are in
      runs_legal schedule b.played b.earlier (record { joint = b.legal.joint.0; events_are = same.0; allowed = b.legal.allowed.0 })

  -- .. and passes the limit with one
  not_before : (schedule : Schedule) (a b : IsPastPackets service schedule) (middle : List Event) → b.played ≡ (a.played ++ a.event ∷ []) ++ middle → ⊥
  not_before schedule a b middle p =
      let machine : Machine State = service (kind_of schedule.service) in
      let start : World = start_of schedule in
      let one = runs_legal schedule (a.played ++ a.event ∷ []) (a.moment ∷ a.earlier) a.legal in
      let other = subst (λ es. Runs machine start es (world_after start b.earlier)) p (runs_before schedule b) in
      let rest = runs_split machine (a.played ++ a.event ∷ []) middle start a.moment.world (world_after start b.earlier) one other in
      let more : length a.moment.world.packets ≤ length (world_after start b.earlier).packets = runs_on machine middle a.moment.world (world_after start b.earlier) rest in
      let low : packets_sent schedule b.earlier ≤ 200000 = b.within in
      let high : 200000 < packets_sent schedule (a.moment ∷ a.earlier) = a.over in
      omega (arith, more, low, high)

  past_first : (schedule : Schedule) (a b : IsPastPackets service schedule) → Fronts a.played (a.event ∷ a.others) b.played (b.event ∷ b.others)
      → (a.played ≡ b.played) × (a.event ≡ b.event)
  past_first schedule a b (longer [] p q) = let event : a.event ≡ b.event = cc in (sym (p ∙ append-nil a.played), event)
  past_first schedule a b (longer (e ∷ middle) p q) =
      let same : a.event ≡ e = cc in
      absurd (not_before schedule a b middle (p ∙ (ap (λ x. a.played ++ x ∷ middle) (sym same) ∙ sym (append_assoc a.played (a.event ∷ []) middle))))
  past_first schedule a b (shorter [] p q) = let event : a.event ≡ b.event = cc in (p ∙ append-nil b.played, event)
  past_first schedule a b (shorter (e ∷ middle) p q) =
      let same : b.event ≡ e = cc in
      absurd (not_before schedule b a middle (p ∙ (ap (λ x. b.played ++ x ∷ middle) (sym same) ∙ sym (append_assoc b.played (b.event ∷ []) middle))))

  pub past_once : (schedule : Schedule) (a b : IsPastPackets service schedule) → (a.played ≡ b.played) × (a.event ≡ b.event)
  past_once schedule a b = past_first schedule a b (fronts a.played (a.event ∷ a.others) b.played (b.event ∷ b.others) (sym a.events ∙ b.events))
