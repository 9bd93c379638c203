-- A legal trace with marks gives the premises of a step, and is extended by it.
use Rattle.std.proofs.Common.{◌≡◌, ◌∙◌, sym, ap, subst, ℕ, ◌+◌, ◌-◌, ◌<◌, ◌≤◌, Bool, true, Some, None, List, [], ◌∷◌, ◌++◌, length, Result, Ok, Err, arith, length-append}
use Rattle.std.specs.List.{AllByRecursion}
use Rattle.std.specs.Prelude.{IfOk, IfErr, OnOk}
use Rattle.seq_arith.specs.Mark.{MarkMessage}
use Rattle.server_trait.specs.declared.Service.{Ghosts}
use Rattle.tcp_rules.specs.Profile.{grammar_of}
use Rattle.tcp_rules.specs.Profiles.{profile_of}
use Rattle.ft_model.specs.Lawful.{IsNearInput, IsSoundInput, fence}
use Rattle.ft_model.specs.Node.{Input}
use Rattle.ft_model.specs.Schedule.{kind_of}
use Rattle.ft_model.specs.World.{MayCome}
use Rattle.ft_model.specs.declared.event.Event.{Event}
use Rattle.ft_model.specs.declared.event.EventWhy.{EventWhy}
use Rattle.ft_model.specs.declared.schedule.Schedule.{Schedule}
use Rattle.mark_laws.specs.MarkedLegal.{IsMarkedLegalFor, marked_start, marked_refusal}
use Rattle.mark_laws.specs.MarkedNode.{Marker, MarkedNode}
use Rattle.mark_laws.specs.MarkedWorld.{MarkedWorld, MarkedMoment, MarkedJoint, MarkedHappens, CanBeRead, seen, parcel_at, marked_after}
use Rattle.mark_laws.specs.MarkedWorld.Parcel.{Mark_answered}
use Rattle.mark_laws.specs.Premises.{IsSoundMark}
use Rattle.mark_laws.specs.TrueMarks.{HasTrueMark}
use Rattle.mark_laws.proofs.MarkSteps.{Kept as KeptMarks, of_parcel, up_plain}
use Rattle.mark_laws.proofs.MarksSent.{reports_truth}
use Rattle.mark_laws.proofs.Premises.{input_near, scripted_start, inputs_sound, no_fence, marks_sound}
use Rattle.mark_laws.proofs.Runs.{front_is, grows}
use Rattle.mark_laws.proofs.Traces.{start_of_joint, kept_of}
use Rattle.mark_laws.proofs.Truth.{MarkLaws}
use Rattle.mark_laws.proofs.Written.{all_written as marked_written}
use Rattle.server_trait.specs.Service.{WritesBytes}
use Rattle.server_trait.specs.Saved.{ReadsBack}
use Rattle.ft_model.proofs.Running.{HasSmallOutputs}
use Rattle.node_serving.specs.Markers.{Saving}
use Rattle.net_schedule.specs.WorldView.{kept, services_of}
use Rattle.schedule_network.specs.FullLog.{HasDistinctKeys}
use Rattle.net_schedule.specs.Refinement.{Kept}
use Rattle.net_schedule.specs.MarkedRefinement.{MarkedWorldStands, MarkedAdvances, MarkedPremises, marker_for}
use Rattle.net_schedule.specs.MarkedStep.{MarkedStandsAfter, MarkedExtends, MarkedSteps, MarkedEndsStep}
use Rattle.net_schedule.specs.Along.{MarkedEndsAlong}
use Rattle.net_schedule.specs.Turns.{Declines}
use Rattle.schedule_network.specs.declared.end.StepEnd.{StepEnd}
use Rattle.schedule_network.specs.declared.end.StepEnd.TheVariants.{NoMemory, BadEvent, PacketLimit}
use Rattle.schedule_network.specs.declared.step_out.StepOut.{StepOut}
use Rattle.net_schedule.specs.declared.world.World.{World}
use Rattle.net_schedule.proofs.MarkedParcels.{as_many_marked}
use Rattle.net_schedule.proofs.MarkedKeys.{marked_keys_after}

-- the laws of every trace with marks, for markers of these numbers
pub record AreMarkedLaws {State : Type 0} (by : ℕ → Marker State) : Type 0 where
  pub near : (schedule : Schedule) (events : List Event) (trace : List MarkedMoment) (node : MarkedNode) (input : Input) → IsMarkedLegalFor by schedule events trace
      → (marked_after (marked_start schedule) trace).node ≡ Some node → MayCome (seen (marked_after (marked_start schedule) trace)) input
      → IsNearInput node.plain.server input node.plain.stage
  pub sound : (schedule : Schedule) (events : List Event) (trace : List MarkedMoment) (node : MarkedNode) (input : Input) → IsMarkedLegalFor by schedule events trace
      → (marked_after (marked_start schedule) trace).node ≡ Some node → MayCome (seen (marked_after (marked_start schedule) trace)) input
      → IsSoundInput (by (kind_of schedule.service)).service node.plain input node.plain.stage
  pub unfenced : (schedule : Schedule) (events : List Event) (trace : List MarkedMoment) (node : MarkedNode) (input : Input) → IsMarkedLegalFor by schedule events trace
      → (marked_after (marked_start schedule) trace).node ≡ Some node → MayCome (seen (marked_after (marked_start schedule) trace)) input
      → fence node.plain input ≡ None
  pub marks : (number : ℕ) (schedule : Schedule) (events : List Event) (trace : List MarkedMoment) (node : MarkedNode) (message : MarkMessage) → IsMarkedLegalFor by schedule events trace
      → (marked_after (marked_start schedule) trace).node ≡ Some node → parcel_at (marked_after (marked_start schedule) trace).parcels number ≡ Some (Mark_answered message)
      → IsSoundMark (by (kind_of schedule.service)) (marked_after (marked_start schedule) trace).log.log node message node.plain.stage
  pub written : (kind : ℕ) (start : MarkedWorld) (trace : List MarkedMoment) → MarkedJoint (by kind) start trace → AllByRecursion (CanBeRead (grammar_of start.profile)) (marked_after start trace).parcels
  pub distinct : (kind : ℕ) (start : MarkedWorld) (trace : List MarkedMoment) → MarkedJoint (by kind) start trace → HasDistinctKeys (marked_after start trace).log

-- what they rest on: which marks are true
mark_truths : {State : Type 0} (by : Marker State) → MarkLaws by
mark_truths by = record {
  reports = λ news script m q e taken within fits enough front known held. reports_truth by.service by.writing by.every news script m q e taken within fits enough front known held;
  stays = λ before after m grew run. grows by.service by.writing before after m grew run;
}

-- the sound world of a trace with marks
kept_so : {State : Type 0} (by : Marker State) → HasSmallOutputs by.service → (first : MarkedWorld) (trace : List MarkedMoment) → MarkedJoint by first trace → KeptMarks by (seen first) (marked_after first trace)
kept_so by small first trace joint = kept_of by first trace small (mark_truths by) joint

pub marked_laws_hold : {State : Type 0} (by : ℕ → Marker State) → ((kind : ℕ) → HasSmallOutputs (by kind).service) → ((kind : ℕ) → WritesBytes (by kind).service)
    → ((kind : ℕ) → ReadsBack (by kind).service (by kind).writing) → AreMarkedLaws by
marked_laws_hold by small writes back = record {
  near = λ schedule events trace node input legal up comes.
      let b = by (kind_of schedule.service) in
      let first = marked_start schedule in
      input_near b.service (seen first) (seen (marked_after first trace)) node.plain input (kept_so b (small (kind_of schedule.service)) first trace legal.joint).sound
      (scripted_start schedule.server schedule.clients) (up_plain (marked_after first trace) node up) comes;
  sound = λ schedule events trace node input legal up comes.
      let b = by (kind_of schedule.service) in
      let first = marked_start schedule in
      (inputs_sound b.service (seen first) (seen (marked_after first trace)) node.plain input (kept_so b (small (kind_of schedule.service)) first trace legal.joint).sound
      (up_plain (marked_after first trace) node up) comes).0;
  unfenced = λ schedule events trace node input legal up comes.
      let b = by (kind_of schedule.service) in
      let first = marked_start schedule in
      no_fence b.service (seen first) (seen (marked_after first trace)) node.plain input (kept_so b (small (kind_of schedule.service)) first trace legal.joint).sound
      (up_plain (marked_after first trace) node up) comes;
  marks = λ number schedule events trace node message legal up at.
      let b = by (kind_of schedule.service) in
      let first = marked_start schedule in
      let k = kept_so b (small (kind_of schedule.service)) first trace legal.joint in
      marks_sound b (seen first) (marked_after first trace) node message
      (record { back = λ e m bytes run. front_is b.service b.writing e m (back (kind_of schedule.service)) bytes run })
      (start_of_joint b first trace legal.joint).start k up
      (of_parcel (HasTrueMark b (marked_after first trace).log.log) (marked_after first trace) number (Mark_answered message) k.marks.under_way at);
  written = λ kind start trace joint. marked_written (by kind) start trace (writes kind) (λ some. back kind)
      (record { small = small kind; laws = mark_truths (by kind); starts = (start_of_joint (by kind) start trace joint).start }) joint;
  distinct = λ kind start trace joint. (kept_so (by kind) (small kind) start trace joint).sound.joint.asked.distinct;
}

module _ {State : Type 0} (by : ℕ → Marker State) (laws : AreMarkedLaws by) where
  marked_premises_at : (schedule : Schedule) (events : List Event) (trace : List MarkedMoment) → IsMarkedLegalFor by schedule events trace
      → (marked_after (marked_start schedule) trace).profile ≡ (marked_start schedule).profile
      → MarkedPremises (by (kind_of schedule.service)) (marked_after (marked_start schedule) trace)
  marked_premises_at schedule events trace l as_first =
      record {
        readable = subst (λ profile. AllByRecursion (CanBeRead (grammar_of profile)) (marked_after (marked_start schedule) trace).parcels) (sym as_first)
            (laws.written (kind_of schedule.service) (marked_start schedule) trace l.joint);
        keys = (
          seen (marked_start schedule),
          (start_of_joint (by (kind_of schedule.service)) (marked_start schedule) trace l.joint).start,
          marked_keys_after (by (kind_of schedule.service)) (marked_start schedule) trace l.joint,
        );
        distinct = laws.distinct (kind_of schedule.service) (marked_start schedule) trace l.joint;
        near = λ node input up comes. laws.near schedule events trace node input l up comes;
        sound = λ node input up comes. laws.sound schedule events trace node input l up comes;
        unfenced = λ node input up comes. laws.unfenced schedule events trace node input l up comes;
        marks = λ number node up message at. laws.marks number schedule events trace node message l up at;
      }

  marked_premises : (schedule : Schedule) (events : List Event) (trace : List MarkedMoment) (w : Kept State) → MarkedStandsAfter by schedule events trace w
      → MarkedPremises (by w.kind) (marked_after (marked_start schedule) trace)
  marked_premises schedule events trace w s =
      subst (λ k. MarkedPremises (by k) (marked_after (marked_start schedule) trace)) (sym s.kind) (marked_premises_at schedule events trace s.legal (sym s.stands.actors.profile ∙ ap profile_of s.profile))

  -- what an event does extends the trace
  marked_extends : (schedule : Schedule) (events : List Event) (trace : List MarkedMoment) (event : Event) (w w' : Kept State) → MarkedStandsAfter by schedule events trace w
      → w'.kind ≡ w.kind → w'.profile ≡ w.profile → MarkedAdvances (by w.kind) (marked_after (marked_start schedule) trace) event w' → MarkedExtends by schedule events trace event w'
  marked_extends schedule events trace event w w' s same as_before a =
      let v : MarkedWorld = marked_after (marked_start schedule) trace in
      record {
        moment = record { event = event; sent = a.happens.sent; world = a.happens.world };
        stands = record {
          kind = same ∙ s.kind;
          profile = as_before ∙ s.profile;
          legal = record {
            joint = (s.legal.joint, subst (λ k. MarkedHappens (by k) v event a.happens.sent a.happens.world) s.kind a.happens.goes);
            events_are = ap (λ es. es ++ event ∷ []) s.legal.events_are;
            allowed = (s.legal.allowed, record { allowed = a.allowed; scripted = a.scripted });
          };
          stands = subst (λ k. MarkedWorldStands (by k) w' a.happens.world) (sym same) a.happens.stands;
        };
        grew = a.happens.grew;
      }

  -- a step is what an event does, with the count of its parcels
  pub marked_steps : (r : Result StepOut StepEnd) (w w' : Kept State) (event : Event) (before : ℕ) → before ≡ length w.packets.bytes → w'.kind ≡ w.kind → w'.profile ≡ w.profile
      → ((v : MarkedWorld) → MarkedWorldStands (by w.kind) w v → MarkedPremises (by w.kind) v → MarkedAdvances (by w.kind) v event w')
      → IfOk r (λ out. out.first ≡ before + 1) → IfOk r (λ out. out.count ≡ length w'.packets.bytes - before) → OnOk r (length w'.packets.bytes ≤ 200000)
      → IfOk r (λ answer. (schedule : Schedule) (events : List Event) (trace : List MarkedMoment) → MarkedStandsAfter by schedule events trace w
      → MarkedSteps by schedule events trace event answer w')
  marked_steps (Err e) w w' event before b same as_before advances f n l = tt
  marked_steps (Ok out) w w' event before b same as_before advances f n l = λ schedule events trace s.
      let v : MarkedWorld = marked_after (marked_start schedule) trace in
      let x : MarkedExtends by schedule events trace event w' =
      marked_extends schedule events trace event w w' s same as_before (advances v s.stands (marked_premises schedule events trace w s)) in
      let old : before ≡ length v.parcels = b ∙ as_many_marked (grammar_of v.profile) w.keys w.packets v.parcels s.stands.packets in
      let now : length w'.packets.bytes ≡ length x.moment.world.parcels = as_many_marked (grammar_of x.moment.world.profile) w'.keys w'.packets x.moment.world.parcels x.stands.stands.packets in
      let long : length x.moment.world.parcels ≡ length v.parcels + length x.moment.sent = ap length x.grew ∙ length-append v.parcels x.moment.sent in
      record { extends = x; first = f ∙ ap (λ k. k + 1) old; count = n ∙ omega arith; within = omega arith }

  pub marked_limits : (r : Result StepOut StepEnd) (w w' : Kept State) (event : Event) → w'.kind ≡ w.kind → w'.profile ≡ w.profile
      → ((v : MarkedWorld) → MarkedWorldStands (by w.kind) w v → MarkedPremises (by w.kind) v → MarkedAdvances (by w.kind) v event w')
      → IfErr r (λ end. (end ≡ PacketLimit) × (200000 < length w'.packets.bytes))
      → IfErr r (λ end. (schedule : Schedule) (events : List Event) (trace : List MarkedMoment) → MarkedStandsAfter by schedule events trace w
      → MarkedEndsStep by schedule events trace event w' end)
  marked_limits (Ok out) w w' event same as_before advances h = tt
  marked_limits (Err end) w w' event same as_before advances h =
      subst (λ e. (schedule : Schedule) (events : List Event) (trace : List MarkedMoment) → MarkedStandsAfter by schedule events trace w
      → MarkedEndsStep by schedule events trace event w' e) (sym h.0)
      (λ schedule events trace s.
      let v : MarkedWorld = marked_after (marked_start schedule) trace in
      let x : MarkedExtends by schedule events trace event w' =
      marked_extends schedule events trace event w w' s same as_before (advances v s.stands (marked_premises schedule events trace w s)) in
      (x, subst (λ n. 200000 < n) (as_many_marked (grammar_of x.moment.world.profile) w'.keys w'.packets x.moment.world.parcels x.stands.stands.packets) h.1))

  -- an event that is refused ends the step
  pub marked_refused : (w w' : Kept State) (event : Event) (why : EventWhy)
      → ((v : MarkedWorld) → MarkedWorldStands (by w.kind) w v → MarkedPremises (by w.kind) v → marked_refusal v event ≡ Some why)
      → (schedule : Schedule) (events : List Event) (trace : List MarkedMoment) → MarkedStandsAfter by schedule events trace w
      → MarkedEndsStep by schedule events trace event w' (BadEvent why)
  marked_refused w w' event why refuses schedule events trace s = refuses (marked_after (marked_start schedule) trace) s.stands (marked_premises schedule events trace w s)

-- what holds of each step that is done, or ends, whether or not states can be saved
pub done_marked : (r : Result StepOut StepEnd) (savable : Bool) (Q : (every : ℕ) → StepOut → Type 0) → (savable ≡ true → (every : ℕ) → IfOk r (Q every))
    → IfOk r (λ answer. savable ≡ true → (every : ℕ) → Q every answer)
done_marked (Ok out) savable Q h = h
done_marked (Err e) savable Q h = tt

pub ends_marked : (r : Result StepOut StepEnd) (savable : Bool) (Q : (every : ℕ) → StepEnd → Type 0) → (savable ≡ true → (every : ℕ) → IfErr r (Q every))
    → IfErr r (λ end. savable ≡ true → (every : ℕ) → Q every end)
ends_marked (Ok out) savable Q h = tt
ends_marked (Err e) savable Q h = h

-- an event that isn't done ends the step
pub marked_ends_so : {State : Type 0} {ghosts : Ghosts State} (saved : Saving State) (w w' : World State ghosts) (event : Event) (end : StepEnd)
    → (saved.savable ≡ true → (every : ℕ) → AreMarkedLaws (marker_for saved (services_of w) every)) → Declines saved event w w' end → MarkedEndsAlong saved event end w w'
marked_ends_so saved w w' event NoMemory laws ends = λ savable every schedule events trace s. tt
marked_ends_so saved w w' event (BadEvent why) laws ends = λ savable every.
    marked_refused (marker_for saved (services_of w) every) (laws savable every) (kept w) (kept w') event why (ends.0.marked savable every)
marked_ends_so saved w w' event PacketLimit laws ends = absurd ends
