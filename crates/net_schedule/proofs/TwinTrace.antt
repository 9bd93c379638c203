-- A legal trace with two loggers gives the premises of a step, and is extended by it.
use Rattle.std.proofs.Common.{◌≡◌, refl, ◌∙◌, sym, ap, subst, ℕ, ◌+◌, ◌-◌, ◌<◌, ◌≤◌, Some, List, [], ◌∷◌, ◌++◌, length, Result, Ok, Err, arith, length-append}
use Rattle.std.specs.List.{AllByRecursion}
use Rattle.std.specs.Prelude.{IfOk, IfErr, OnOk}
use Rattle.server_trait.specs.Service.{Machine}
use Rattle.server_trait.specs.declared.Service.{Ghosts}
use Rattle.tcp_rules.specs.Profile.{grammar_of}
use Rattle.tcp_rules.specs.Profiles.{profile_of}
use Rattle.ft_model.specs.Legal.{IsLegalFor, IsScripted, start_of}
use Rattle.ft_model.specs.Network.{Packet}
use Rattle.ft_model.specs.Schedule.{kind_of}
use Rattle.ft_model.specs.World.{WasSent, events_of, world_after}
use Rattle.ft_model.specs.declared.event.Event.{Event}
use Rattle.ft_model.specs.declared.schedule.Schedule.{Schedule}
use Rattle.twin_laws.specs.Flat.{flat, outside}
use Rattle.twin_laws.specs.Pair.{IsPaired}
use Rattle.twin_laws.specs.TwinLegal.{IsTwinLegalFor, event_of, twin_start, twin_refusal}
use Rattle.twin_laws.specs.TwinWorld.{TwinWorld, TwinMoment, TwinJoint, TwinHappens, seen, parcel_at, twin_after}
use Rattle.twin_laws.specs.TwinWorld.Parcel.{Outside}
use Rattle.twin_laws.specs.SentBytes.{IsWritten}
use Rattle.node_serving.specs.Markers.{Saving}
use Rattle.twin_laws.proofs.Allowed.{flat_allowed}
use Rattle.twin_laws.proofs.Flattening.{flattens}
use Rattle.twin_laws.proofs.TraceBytes.{is_sent, is_paired, all_written}
use Rattle.net_schedule.specs.WorldView.{kept, services_of}
use Rattle.net_schedule.specs.Premises.{Premises}
use Rattle.net_schedule.specs.Refinement.{Kept}
use Rattle.net_schedule.specs.TwinRefinement.{TwinWorldStands, TwinAdvances, TwinPremises}
use Rattle.net_schedule.specs.TwinStep.{TwinStandsAfter, TwinExtends, TwinSteps, TwinEndsStep}
use Rattle.net_schedule.specs.Along.{TwinEndsAlong}
use Rattle.net_schedule.specs.Turns.{Declines}
use Rattle.schedule_network.specs.declared.end.StepEnd.{StepEnd}
use Rattle.schedule_network.specs.declared.end.StepEnd.TheVariants.{NoMemory, BadEvent, PacketLimit}
use Rattle.schedule_network.specs.declared.step_out.StepOut.{StepOut}
use Rattle.net_schedule.specs.declared.world.World.{World}
use Rattle.net_schedule.proofs.Parcels.{as_many_parcels}
use Rattle.net_schedule.proofs.Trace.{AreLaws, premises_at}

-- the laws of every trace with two loggers, for the services of these numbers
pub record AreTwinLaws {State : Type 0} (services : ℕ → Machine State) : Type 0 where
  pub legal : (schedule : Schedule) (events : List Event) (trace : List TwinMoment) → IsTwinLegalFor services schedule events trace
      → IsLegalFor services schedule (events_of (flat (twin_start schedule) trace).trace) (flat (twin_start schedule) trace).trace
  pub world : (kind : ℕ) (start : TwinWorld) (trace : List TwinMoment) → TwinJoint (services kind) start trace
      → world_after (seen start []) (flat start trace).trace ≡ seen (twin_after start trace) (flat start trace).packets
  pub sent : (kind number : ℕ) (start : TwinWorld) (trace : List TwinMoment) (packet : Packet) → TwinJoint (services kind) start trace
      → parcel_at (twin_after start trace).parcels number ≡ Some (Outside packet) → WasSent (seen (twin_after start trace) (flat start trace).packets) packet
  pub pair : (kind : ℕ) (start : TwinWorld) (trace : List TwinMoment) → TwinJoint (services kind) start trace → IsPaired (twin_after start trace).pair
  pub written : (kind : ℕ) (start : TwinWorld) (trace : List TwinMoment) → TwinJoint (services kind) start trace
      → AllByRecursion (IsWritten (grammar_of start.profile)) (twin_after start trace).parcels

pub twin_laws_hold : {State : Type 0} (services : ℕ → Machine State) → AreLaws services → AreTwinLaws services
twin_laws_hold services laws = record {
  legal = λ schedule events trace is. record {
    joint = (flattens (services (kind_of schedule.service)) (twin_start schedule) trace is.joint).joint;
    events_are = refl;
    allowed = flat_allowed (services (kind_of schedule.service)) (twin_start schedule) trace is.joint is.allowed;
  };
  world = λ kind start trace is. (flattens (services kind) start trace is).world;
  sent = λ kind number start trace packet is at. is_sent (services kind) start trace number packet is at;
  pair = λ kind start trace is. is_paired (services kind) start trace is;
  written = λ kind start trace is. all_written (services kind) (laws.wires kind) start trace is;
}

module _ {State : Type 0} (services : ℕ → Machine State) (laws : AreLaws services) (twins : AreTwinLaws services) where
  twin_premises : (schedule : Schedule) (events : List Event) (trace : List TwinMoment) (w : Kept State) → TwinStandsAfter services schedule events trace w
      → TwinPremises (services w.kind) (twin_after (twin_start schedule) trace)
  twin_premises schedule events trace w s =
      let start : TwinWorld = twin_start schedule in
      let kind : ℕ = kind_of schedule.service in
      let at_end : Premises (services kind) (world_after (start_of schedule) (flat start trace).trace) =
      premises_at services laws schedule (events_of (flat start trace).trace) (flat start trace).trace (twins.legal schedule events trace s.legal) in
      record {
        packets = (flat (twin_start schedule) trace).packets;
        premises = subst (λ k. Premises (services k) (seen (twin_after start trace) (flat start trace).packets)) (sym s.kind)
            (subst (Premises (services kind)) (twins.world kind start trace s.legal.joint) at_end);
        sent = λ number packet at. twins.sent kind number start trace packet s.legal.joint at;
        written = subst (λ profile. AllByRecursion (IsWritten (grammar_of profile)) (twin_after start trace).parcels) (sym (sym s.stands.actors.profile ∙ ap profile_of s.profile))
            (twins.written kind start trace s.legal.joint);
        paired = twins.pair kind start trace s.legal.joint;
      }

  -- what an event does extends the trace
  twin_extends : (schedule : Schedule) (events : List Event) (trace : List TwinMoment) (event : Event) (w w' : Kept State) → TwinStandsAfter services schedule events trace w
      → w'.kind ≡ w.kind → w'.profile ≡ w.profile → TwinAdvances (services w.kind) (twin_after (twin_start schedule) trace) event w' → TwinExtends services schedule events trace event w'
  twin_extends schedule events trace event w w' s same as_before a =
      let v : TwinWorld = twin_after (twin_start schedule) trace in
      record {
        moment = record { event = a.turn; sent = a.happens.sent; world = a.happens.world };
        stands = record {
          kind = same ∙ s.kind;
          profile = as_before ∙ s.profile;
          legal = record {
            joint = (s.legal.joint, subst (λ k. TwinHappens (services k) v a.turn a.happens.sent a.happens.world) s.kind a.happens.goes);
            events_are = ap (λ es. es ++ event_of a.turn ∷ []) s.legal.events_are ∙ ap (λ e. events ++ e ∷ []) a.is;
            allowed = (
              s.legal.allowed,
              record {
                allowed = ap (twin_refusal v) a.is ∙ a.allowed;
                scripted = subst (λ e. IsScripted (seen v []) e (outside a.happens.sent) (seen a.happens.world [])) (sym a.is) a.scripted;
              },
            );
          };
          stands = subst (λ k. TwinWorldStands (services k) w' a.happens.world) (sym same) a.happens.stands;
        };
        grew = a.happens.grew;
      }

  -- a step is what an event does, with the count of its parcels
  pub twin_steps : (r : Result StepOut StepEnd) (w w' : Kept State) (event : Event) (before : ℕ) → before ≡ length w.packets.bytes → w'.kind ≡ w.kind → w'.profile ≡ w.profile
      → ((v : TwinWorld) → TwinWorldStands (services w.kind) w v → TwinPremises (services w.kind) v → TwinAdvances (services w.kind) v event w')
      → IfOk r (λ out. out.first ≡ before + 1) → IfOk r (λ out. out.count ≡ length w'.packets.bytes - before) → OnOk r (length w'.packets.bytes ≤ 200000)
      → IfOk r (λ answer. (schedule : Schedule) (events : List Event) (trace : List TwinMoment) → TwinStandsAfter services schedule events trace w
      → TwinSteps services schedule events trace event answer w')
  twin_steps (Err e) w w' event before b same as_before advances f n l = tt
  twin_steps (Ok out) w w' event before b same as_before advances f n l = λ schedule events trace s.
      let v : TwinWorld = twin_after (twin_start schedule) trace in
      let x : TwinExtends services schedule events trace event w' =
      twin_extends schedule events trace event w w' s same as_before (advances v s.stands (twin_premises schedule events trace w s)) in
      let old : before ≡ length v.parcels = b ∙ as_many_parcels (grammar_of v.profile) w.keys w.packets v.parcels s.stands.packets in
      let now : length w'.packets.bytes ≡ length x.moment.world.parcels = as_many_parcels (grammar_of x.moment.world.profile) w'.keys w'.packets x.moment.world.parcels x.stands.stands.packets in
      let long : length x.moment.world.parcels ≡ length v.parcels + length x.moment.sent = ap length x.grew ∙ length-append v.parcels x.moment.sent in
      record { extends = x; first = f ∙ ap (λ k. k + 1) old; count = n ∙ omega arith; within = omega arith }

  pub twin_limits : (r : Result StepOut StepEnd) (w w' : Kept State) (event : Event) → w'.kind ≡ w.kind → w'.profile ≡ w.profile
      → ((v : TwinWorld) → TwinWorldStands (services w.kind) w v → TwinPremises (services w.kind) v → TwinAdvances (services w.kind) v event w')
      → IfErr r (λ end. (end ≡ PacketLimit) × (200000 < length w'.packets.bytes))
      → IfErr r (λ end. (schedule : Schedule) (events : List Event) (trace : List TwinMoment) → TwinStandsAfter services schedule events trace w
      → TwinEndsStep services schedule events trace event w' end)
  twin_limits (Ok out) w w' event same as_before advances h = tt
  twin_limits (Err end) w w' event same as_before advances h =
      subst (λ e. (schedule : Schedule) (events : List Event) (trace : List TwinMoment) → TwinStandsAfter services schedule events trace w
      → TwinEndsStep services schedule events trace event w' e) (sym h.0)
      (λ schedule events trace s.
      let v : TwinWorld = twin_after (twin_start schedule) trace in
      let x : TwinExtends services schedule events trace event w' =
      twin_extends schedule events trace event w w' s same as_before (advances v s.stands (twin_premises schedule events trace w s)) in
      (x, subst (λ n. 200000 < n) (as_many_parcels (grammar_of x.moment.world.profile) w'.keys w'.packets x.moment.world.parcels x.stands.stands.packets) h.1))

-- an event that isn't done ends the step
pub twin_ends_so : {State : Type 0} {ghosts : Ghosts State} (saved : Saving State) (w w' : World State ghosts) (event : Event) (end : StepEnd) → AreLaws (services_of w)
    → AreTwinLaws (services_of w) → Declines saved event w w' end
    → TwinEndsAlong event end w w'
twin_ends_so saved w w' event NoMemory laws twins ends = λ schedule events trace s. tt
twin_ends_so saved w w' event (BadEvent why) laws twins ends =
    λ schedule events trace s. ends.0.two (twin_after (twin_start schedule) trace) s.stands (twin_premises (services_of w) laws twins schedule events trace (kept w) s)
twin_ends_so saved w w' event PacketLimit laws twins ends = absurd ends
