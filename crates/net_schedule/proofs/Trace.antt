-- A legal trace gives the premises of a step, and is extended by it.
use Rattle.std.proofs.Common.{◌≡◌, ◌∙◌, sym, ap, subst, refl, ℕ, ◌+◌, ◌-◌, ◌<◌, ◌≤◌, Some, None, List, [], ◌∷◌, ◌++◌, length, Result, Ok, Err, arith, length-append}
use Rattle.std.specs.List.{AllByRecursion}
use Rattle.std.specs.Prelude.{IfOk, IfErr, OnOk}
use Rattle.server_trait.specs.Service.{Machine, WritesBytes}
use Rattle.server_trait.specs.declared.Service.{Ghosts}
use Rattle.tcp_rules.specs.Profile.{grammar_of}
use Rattle.ft_model.specs.Client.{received}
use Rattle.ft_model.specs.Lawful.{IsNearInput, IsSoundInput, fence}
use Rattle.ft_model.specs.Legal.{Legal, IsLegalFor, start_of}
use Rattle.ft_model.specs.Schedule.{kind_of}
use Rattle.ft_model.specs.Network.{Packet, destination_of}
use Rattle.ft_model.specs.Node.{Node, Input}
use Rattle.ft_model.specs.Wire.{HasWireBy}
use Rattle.ft_model.specs.World.{World as Seen, Moment, MayCome, Joint, Happens, world_after}
use Rattle.ft_model.specs.declared.event.Event.{Event}
use Rattle.ft_model.specs.declared.schedule.Schedule.{Schedule}
use Rattle.ft_model.proofs.Acknowledged.{start_is}
use Rattle.ft_model.proofs.FaithfulKept.{received_same}
use Rattle.ft_model.proofs.FormedWorld.{wires_after}
use Rattle.ft_model.proofs.Happened.{Happened, holds_after}
use Rattle.ft_model.proofs.Happened.Happened.{log_received, client_received, client_moved, server_turned, server_booted, server_down}
use Rattle.ft_model.proofs.Lists.{same_key}
use Rattle.ft_model.proofs.Profiles.{profile_stays}
use Rattle.ft_model.proofs.ClientKeys.{keys_in, keys_stay}
use Rattle.ft_model.proofs.Running.{HasSmallOutputs}
use Rattle.ft_model.proofs.Unfenced.{no_fence}
use Rattle.trace_laws.proofs.Legal.{inputs_near}
use Rattle.trace_laws.proofs.Sound.{inputs_sound}
use Rattle.node_serving.specs.Markers.{Saving}
use Rattle.net_schedule.specs.WorldView.{kept, services_of}
use Rattle.net_schedule.specs.Premises.{Premises}
use Rattle.net_schedule.specs.Refinement.{Kept, WorldStands, Advances, KeepsAtRefusal}
use Rattle.net_schedule.specs.Step.{StandsAfter, Extends, Steps, EndsStep}
use Rattle.net_schedule.specs.Along.{EndsAlong}
use Rattle.net_schedule.specs.Turns.{Declines}
use Rattle.schedule_network.specs.declared.end.StepEnd.{StepEnd}
use Rattle.schedule_network.specs.declared.end.StepEnd.TheVariants.{NoMemory, BadEvent, PacketLimit}
use Rattle.schedule_network.specs.declared.step_out.StepOut.{StepOut}
use Rattle.net_schedule.specs.declared.world.World.{World}
use Rattle.net_schedule.proofs.PacketStore.{as_many}

-- the clients keep the keys with which they started
pub step_keeps : {State : Type 0} (service : Machine State) (start before : Seen) (sent : List Packet) (after : Seen) → keys_in before.clients ≡ keys_in start.clients → Happened service before sent after
    → keys_in after.clients ≡ keys_in start.clients
step_keeps service start before sent after k (log_received message under t e) = ap (λ w. keys_in w.clients) e ∙ k
step_keeps service start before sent after k (client_received segment under t e) =
    ap (λ w. keys_in w.clients) e ∙ keys_stay (destination_of segment) (λ c. received c segment) before.clients (λ c h. (received_same c segment).key) ∙ k
step_keeps service start before sent after k (client_moved number m) =
    let name : m.later.key ≡ m.client.key = ap (λ c. c.key) m.move.after_is in
    ap (λ w. keys_in w.clients) m.after_is ∙ keys_stay m.client.key (λ _. m.later) before.clients (λ c h. name ∙ sym (same_key c.key m.client.key h)) ∙ k
step_keeps service start before sent after k (server_turned input node later brought is turn e) = ap (λ w. keys_in w.clients) e ∙ k
step_keeps service start before sent after k (server_booted boot isn is_down larger t e) = ap (λ w. keys_in w.clients) e ∙ k
step_keeps service start before sent after k (server_down t e) = ap (λ w. keys_in w.clients) e ∙ k

pub keys_after : {State : Type 0} (service : Machine State) (start : Seen) (trace : List Moment) → Joint service start trace → keys_in (world_after start trace).clients ≡ keys_in start.clients
keys_after service start trace j = holds_after service (λ w. keys_in w.clients ≡ keys_in start.clients) start (λ s. refl) (step_keeps service start) trace j

-- the laws of every legal trace, for the services of these numbers
pub record AreLaws {State : Type 0} (services : ℕ → Machine State) : Type 0 where
  pub near : (schedule : Schedule) (trace : List Moment) (node : Node) (input : Input) → Legal services schedule trace
      → (world_after (start_of schedule) trace).node ≡ Some node → MayCome (world_after (start_of schedule) trace) input → IsNearInput node.server input node.stage
  pub sound : (schedule : Schedule) (trace : List Moment) (node : Node) (input : Input) → Legal services schedule trace
      → (world_after (start_of schedule) trace).node ≡ Some node → MayCome (world_after (start_of schedule) trace) input → IsSoundInput (services (kind_of schedule.service)) node input node.stage
  pub unfenced : (schedule : Schedule) (trace : List Moment) (node : Node) (input : Input) → Legal services schedule trace
      → (world_after (start_of schedule) trace).node ≡ Some node → MayCome (world_after (start_of schedule) trace) input → fence node input ≡ None
  pub wires : (kind : ℕ) (start : Seen) (trace : List Moment) → Joint (services kind) start trace → AllByRecursion (HasWireBy (grammar_of start.profile)) (world_after start trace).packets

pub laws_hold : {State : Type 0} (services : ℕ → Machine State) → ((kind : ℕ) → HasSmallOutputs (services kind)) → ((kind : ℕ) → WritesBytes (services kind)) → AreLaws services
laws_hold services small writes = record {
  near = λ schedule trace node input legal up comes. inputs_near services small schedule trace node input legal up comes;
  sound = λ schedule trace node input legal up comes.
      (inputs_sound (services (kind_of schedule.service)) (small (kind_of schedule.service)) (start_of schedule) trace node input legal.joint up comes).0;
  unfenced = λ schedule trace node input legal up comes. no_fence (services (kind_of schedule.service)) (start_of schedule) trace node input legal.joint up comes;
  wires = λ kind start trace joint. wires_after (services kind) (small kind) (writes kind) start trace joint;
}

module _ {State : Type 0} (services : ℕ → Machine State) where
  -- a trace of the first events is one of the schedule that ends there
  legal_so_far : (schedule : Schedule) (events : List Event) (trace : List Moment) → IsLegalFor services schedule events trace → Legal services (record schedule { events = events }) trace
  legal_so_far schedule events trace l = record { joint = l.joint; events_are = l.events_are; allowed = l.allowed }

  pub premises_at : AreLaws services → (schedule : Schedule) (events : List Event) (trace : List Moment) → IsLegalFor services schedule events trace
      → Premises (services (kind_of schedule.service)) (world_after (start_of schedule) trace)
  premises_at laws schedule events trace l =
      let legal : Legal services (record schedule { events = events }) trace = legal_so_far schedule events trace l in
      record {
        wires = subst (λ profile. AllByRecursion (HasWireBy (grammar_of profile)) (world_after (start_of schedule) trace).packets)
            (sym (profile_stays (services (kind_of schedule.service)) (start_of schedule) trace l.joint)) (laws.wires (kind_of schedule.service) (start_of schedule) trace l.joint);
        keys = (start_of schedule, start_is (services (kind_of schedule.service)) (start_of schedule) trace l.joint, keys_after (services (kind_of schedule.service)) (start_of schedule) trace l.joint);
        near = λ node input is comes. laws.near (record schedule { events = events }) trace node input legal is comes;
        sound = λ node input is comes. laws.sound (record schedule { events = events }) trace node input legal is comes;
        unfenced = λ node input is comes. laws.unfenced (record schedule { events = events }) trace node input legal is comes;
      }

  pub premises : AreLaws services → (schedule : Schedule) (events : List Event) (trace : List Moment) (w : Kept State) → StandsAfter services schedule events trace w
      → Premises (services w.kind) (world_after (start_of schedule) trace)
  premises laws schedule events trace w s =
      subst (λ k. Premises (services k) (world_after (start_of schedule) trace)) (sym s.kind) (premises_at laws schedule events trace s.legal)

  -- what an event does extends the trace
  pub extends : (schedule : Schedule) (events : List Event) (trace : List Moment) (event : Event) (w w' : Kept State) → StandsAfter services schedule events trace w → w'.kind ≡ w.kind
      → w'.profile ≡ w.profile → Advances (services w.kind) (world_after (start_of schedule) trace) event w' → Extends services schedule events trace event w'
  extends schedule events trace event w w' s same as_before a =
      let v : Seen = world_after (start_of schedule) trace in
      record {
        moment = record { event = event; sent = a.happens.sent; world = a.happens.world };
        stands = record {
          kind = same ∙ s.kind;
          profile = as_before ∙ s.profile;
          legal = record {
            joint = (s.legal.joint, subst (λ k. Happens (services k) (world_after (start_of schedule) trace) event a.happens.sent a.happens.world) s.kind a.happens.goes);
            events_are = ap (λ es. es ++ event ∷ []) s.legal.events_are;
            allowed = (s.legal.allowed, record { allowed = a.allowed; scripted = a.scripted });
          };
          stands = subst (λ k. WorldStands (services k) w' a.happens.world) (sym same) a.happens.stands;
        };
        grew = a.happens.grew;
      }

  -- a step is what an event does, with the count of its packets
  pub steps : AreLaws services → (r : Result StepOut StepEnd) (w w' : Kept State) (event : Event) (before : ℕ) → before ≡ length w.packets.bytes → w'.kind ≡ w.kind → w'.profile ≡ w.profile
      → ((v : Seen) → WorldStands (services w.kind) w v → Premises (services w.kind) v → Advances (services w.kind) v event w')
      → IfOk r (λ out. out.first ≡ before + 1) → IfOk r (λ out. out.count ≡ length w'.packets.bytes - before) → OnOk r (length w'.packets.bytes ≤ 200000)
      → IfOk r (λ answer. (schedule : Schedule) (events : List Event) (trace : List Moment) → StandsAfter services schedule events trace w → Steps services schedule events trace event answer w')
  steps laws (Err e) w w' event before b same as_before advances f n l = tt
  steps laws (Ok out) w w' event before b same as_before advances f n l = λ schedule events trace s.
      let v : Seen = world_after (start_of schedule) trace in
      let x : Extends services schedule events trace event w' = extends schedule events trace event w w' s same as_before (advances v s.stands (premises laws schedule events trace w s)) in
      let old : before ≡ length v.packets = b ∙ as_many (grammar_of v.profile) w.keys w.packets v.packets s.stands.packets in
      let now : length w'.packets.bytes ≡ length x.moment.world.packets = as_many (grammar_of x.moment.world.profile) w'.keys w'.packets x.moment.world.packets x.stands.stands.packets in
      let long : length x.moment.world.packets ≡ length v.packets + length x.moment.sent = ap length x.grew ∙ length-append v.packets x.moment.sent in
      record { extends = x; first = f ∙ ap (λ k. k + 1) old; count = n ∙ omega arith; within = omega arith }

  pub limits : AreLaws services → (r : Result StepOut StepEnd) (w w' : Kept State) (event : Event) → w'.kind ≡ w.kind → w'.profile ≡ w.profile
      → ((v : Seen) → WorldStands (services w.kind) w v → Premises (services w.kind) v → Advances (services w.kind) v event w')
      → IfErr r (λ end. (end ≡ PacketLimit) × (200000 < length w'.packets.bytes))
      → IfErr r (λ end. (schedule : Schedule) (events : List Event) (trace : List Moment) → StandsAfter services schedule events trace w → EndsStep services schedule events trace event w' end)
  limits laws (Ok out) w w' event same as_before advances h = tt
  limits laws (Err end) w w' event same as_before advances h =
      subst (λ e. (schedule : Schedule) (events : List Event) (trace : List Moment) → StandsAfter services schedule events trace w → EndsStep services schedule events trace event w' e) (sym h.0)
      (λ schedule events trace s.
      let v : Seen = world_after (start_of schedule) trace in
      let x : Extends services schedule events trace event w' = extends schedule events trace event w w' s same as_before (advances v s.stands (premises laws schedule events trace w s)) in
      (x, subst (λ n. 200000 < n) (as_many (grammar_of x.moment.world.profile) w'.keys w'.packets x.moment.world.packets x.stands.stands.packets) h.1))

-- an event that isn't done ends the step
pub ends_so : {State : Type 0} {ghosts : Ghosts State} (saved : Saving State) (w w' : World State ghosts) (event : Event) (end : StepEnd) → AreLaws (services_of w)
    → Declines saved event w w' end → EndsAlong event end w w'
ends_so saved w w' event NoMemory laws ends = λ schedule events trace s. tt
ends_so saved w w' event (BadEvent why) laws ends =
    λ schedule events trace s. ends.0.one (world_after (start_of schedule) trace) s.stands (premises (services_of w) laws schedule events trace (kept w) s)
ends_so saved w w' event PacketLimit laws ends = absurd ends

-- what is refused changes nothing
pub keeps_refused : {State : Type 0} {ghosts : Ghosts State} (saved : Saving State) (w w' : World State ghosts) (event : Event) (end : StepEnd) → Declines saved event w w' end
    → KeepsAtRefusal (kept w) (kept w') end
keeps_refused saved w w' event NoMemory ends = tt
keeps_refused saved w w' event (BadEvent why) ends = ends.1
keeps_refused saved w w' event PacketLimit ends = absurd ends
