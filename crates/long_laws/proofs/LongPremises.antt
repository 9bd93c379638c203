-- The premises of a server's contract hold in every long trace.
use Rattle.std.proofs.Common.{◌≡◌, ℕ, ◌==◌, ◌&&◌, false, true≢false, refl, sym, ap, ◌∙◌, subst, Option, Some, None, List, [], ◌∷◌}
use Rattle.std.specs.List.{AllByRecursion}
use Rattle.ft_io.specs.declared.Key.{Key}
use Rattle.ft_io.proofs.Booleans.{and_false}
use Rattle.ft_io.proofs.Choices.{by_cases, holds_if}
use Rattle.seq_arith.specs.Packet.{has_rst}
use Rattle.server_trait.specs.Service.{Machine}
use Rattle.ft_model.specs.Client.{Client}
use Rattle.ft_model.specs.Client.ClientKind.{Scripted}
use Rattle.ft_model.specs.Lawful.{IsNearInput, IsSoundInput, AreSound, fence, newer_than, fetched_then}
use Rattle.ft_model.specs.Network.{Packet, source_of}
use Rattle.ft_model.specs.Network.Packet.{To_server, From_logger}
use Rattle.ft_model.specs.Node.{Node, Stage, Input, place_at}
use Rattle.ft_model.specs.Node.Input.{Packet_comes, Message_comes, Noise_comes, Tick_comes}
use Rattle.ft_model.specs.Node.Place.{Lives}
use Rattle.ft_model.specs.Node.Stage.{Fetching}
use Rattle.ft_model.specs.Point.{Point}
use Rattle.ft_model.specs.Restart.{IsSoundEntry}
use Rattle.ft_model.specs.World.{World, MayCome}
use Rattle.ft_model.proofs.FaithfulOver.{script_of, isn_of}
use Rattle.ft_model.proofs.Happened.{all_sent}
use Rattle.ft_model.proofs.JointMasked.{JointInvariant}
use Rattle.ft_model.proofs.Running.{HasSmallOutputs}
use Rattle.ft_model.proofs.Unfenced.{NamesAtMost, StaleWithin, if_some, not_newer}
use Rattle.trace_laws.specs.Premises.{IsSoundFront, HasSoundFronts}
use Rattle.trace_laws.proofs.Near.{FirstNear, PacketNear, all_near, stage_near}
use Rattle.trace_laws.proofs.Sound.{Kept, entries_sound, answer_agrees, fronts_sound, wholes_sound}
use Rattle.long_laws.specs.LongTrace.{LongWorld, LongStep, LongMoment, LongJoint, MayPass, long_after, places_at, last_rst}
use Rattle.long_laws.specs.LongTrace.LongStep.{Joint_event, Recycles, Forgets, Arrives, Lets_go, Keeps_alive}
use Rattle.long_laws.specs.Refusals.{has_live, may_refuse}
use Rattle.long_laws.proofs.LiveClients.{none_live}
use Rattle.long_laws.proofs.PlainNear.{PlainNear}
use Rattle.long_laws.proofs.Premised.{Premised, joint_of, premised_at_start, event_premised}
use Rattle.long_laws.proofs.PremisedSteps.{let_go_first, premised_without, premised_forgotten, premised_with_new, premised_let_go, premised_kept_alive}

passed : {State : Type 0} (service : Machine State) → HasSmallOutputs service → (before after : LongWorld) (step : LongStep) (sent : List Packet) → Premised service before.now
    → MayPass service before step sent after → Premised service after.now
passed service small before after (Joint_event event) sent o h = event_premised service small before.now event sent after.now o h.0
passed service small before after (Recycles key) sent o h = subst (Premised service) (sym h.2) (premised_without service key before.now o h.0)
passed service small before after (Forgets key) sent o h = subst (Premised service) (sym h.2) (premised_forgotten service key before.now o h.0)
passed service small before after (Arrives c) sent o h = subst (Premised service) (sym h.2) (premised_with_new service c before.now o h.0)
passed service small before after (Lets_go key) sent o h = premised_let_go service small key before.now sent after.now o h.0
passed service small before after (Keeps_alive key) sent o h = premised_kept_alive service key before.now sent after.now o h.0

pub premised_after : {State : Type 0} (service : Machine State) → HasSmallOutputs service → (start : World) (trace : List LongMoment) → LongJoint service start trace
    → Premised service (long_after start trace).now
premised_after service small start [] j = premised_at_start service small start j
premised_after service small start (moment ∷ earlier) j =
    passed service small (long_after start earlier) moment.world moment.step moment.sent (premised_after service small start earlier j.0) j.1

-- near

pub input_near : {State : Type 0} (service : Machine State) (w : World) (node : Node) (input : Input) → Premised service w → w.node ≡ Some node → MayCome w input
    → may_refuse w.clients input ≡ false → IsNearInput node.server input node.stage
input_near service w node (Packet_comes segment) o up comes plain =
    let isn : Key → ℕ = isn_of o.roster in
    let first : FirstNear isn segment =
    by_cases (has_rst segment)
    (λ r. all_sent (PlainNear w.clients isn) w (To_server segment) o.plain.packets comes (subst (λ b. (b && has_live (source_of segment) w.clients) ≡ false) r plain))
    (λ r. (all_sent (PacketNear isn w.log) w (To_server segment) o.near.packets comes).0 r) in
    all_near service o.roster w node segment (joint_of service w o, o.near) up comes first
input_near service w node (Message_comes message) o up comes plain = tt
input_near service w node Noise_comes o up comes plain = tt
input_near service w node Tick_comes o up comes plain = tt

-- scripted clients don't refuse
nobody_refuses : (clients : List Client) (input : Input) → AllByRecursion (λ c. c.kind ≡ Scripted) clients → may_refuse clients input ≡ false
nobody_refuses clients (Packet_comes segment) a = ap (λ b. has_rst segment && b) (none_live (source_of segment) clients a) ∙ and_false (has_rst segment)
nobody_refuses clients (Message_comes message) a = refl
nobody_refuses clients Noise_comes a = refl
nobody_refuses clients Tick_comes a = refl

pub scripted_near : {State : Type 0} (service : Machine State) (w : World) (node : Node) (input : Input) → Premised service w → w.node ≡ Some node → MayCome w input
    → AllByRecursion (λ c. c.kind ≡ Scripted) w.clients → IsNearInput node.server input node.stage
scripted_near service w node input o up comes scripted = input_near service w node input o up comes (nobody_refuses w.clients input scripted)

pub let_go_near : {State : Type 0} (service : Machine State) (w : World) (node : Node) (key : Key) (p : Point) → Premised service w → w.node ≡ Some node
    → place_at key (places_at node.stage) ≡ Some (Lives p) → IsNearInput node.server (Packet_comes (last_rst node.server p)) node.stage
let_go_near service w node key p o up lives =
    let j : JointInvariant service o.roster w = joint_of service w o in
    stage_near node.server (script_of o.roster) (isn_of o.roster) w.log (last_rst node.server p) (let_go_first service w node key p o up lives) (λ a. absurd (true≢false (sym a))) node.stage (j.faithful.stage node up)

-- sound

pub kept_of : {State : Type 0} (service : Machine State) (w : World) → (o : Premised service w) → Kept service o.roster w
kept_of service w o = (joint_of service w o, o.below)

stage_sound : {State : Type 0} (service : Machine State) (w : World) (node : Node) (input : Input) (stage : Stage) → Premised service w → w.node ≡ Some node → node.stage ≡ stage → MayCome w input
    → IsSoundInput service node input stage × HasSoundFronts service node input stage
stage_sound service w node (Message_comes message) (Fetching count fetched) o up is comes =
    let entries : AllByRecursion (IsSoundEntry service) w.log.entries = entries_sound service o.roster w (kept_of service w o) in (
      if_some (AreSound service) (fetched_then node message count fetched)
          (λ more got. wholes_sound service w.log.entries more entries (answer_agrees service o.roster w node message count fetched more (kept_of service w o) up is comes got)),
      if_some (AllByRecursion (IsSoundFront service)) (fetched_then node message count fetched)
          (λ more got. fronts_sound service w.log.entries more entries (answer_agrees service o.roster w node message count fetched more (kept_of service w o) up is comes got)),
    )
stage_sound service w node input stage o up is comes = (tt, tt)

pub input_sound : {State : Type 0} (service : Machine State) (w : World) (node : Node) (input : Input) → Premised service w → w.node ≡ Some node → MayCome w input
    → IsSoundInput service node input node.stage × HasSoundFronts service node input node.stage
input_sound service w node input o up comes = stage_sound service w node input node.stage o up refl comes

-- not fenced

pub no_fence : {State : Type 0} (service : Machine State) (w : World) (node : Node) (input : Input) → Premised service w → w.node ≡ Some node → MayCome w input → fence node input ≡ None
no_fence service w node (Message_comes message) o up comes =
    let own : node.boot ≡ w.boot = (o.stands.fenced.node node up).boot in
    let names : NamesAtMost w.boot message.body = all_sent (StaleWithin w.boot) w (From_logger message) o.unfenced.packets comes in
    holds_if (λ (x : Option ℕ). x ≡ None) (message.boot == node.boot) (newer_than node.boot message.body) None
    (λ t. not_newer node.boot message.body (subst (λ n. NamesAtMost n message.body) (sym own) names)) (λ t. refl)
no_fence service w node (Packet_comes segment) o up comes = refl
no_fence service w node Noise_comes o up comes = refl
no_fence service w node Tick_comes o up comes = refl
