-- A legal trace is extended by an event.
use Rattle.std.proofs.Common.{◌≡◌, ◌∙◌, sym, ap, ap₂, subst, refl, ℕ, ◌+◌, ◌≤◌, max, arith, None, Some, Option, List, [], ◌∷◌, ◌++◌, map}
use Rattle.std.specs.List.{AllByRecursion}
use Rattle.std.proofs.lemmas.List.{map-append}
use Rattle.server_trait.specs.Service.{Machine}
use Rattle.tcp_rules.specs.Profile.{grammar_of}
use Rattle.tcp_rules.specs.Profiles.{profile_of}
use Rattle.ft_model.specs.Image.{HasWires}
use Rattle.ft_model.specs.Lawful.{fence}
use Rattle.ft_model.specs.Legal.{start_of, refusal, IsScripted}
use Rattle.ft_model.specs.Log.{empty_log}
use Rattle.ft_model.specs.Network.{Packet}
use Rattle.ft_model.specs.Node.{Node, Input}
use Rattle.ft_model.specs.Readable.{FitsEvent}
use Rattle.ft_model.specs.Schedule.{kind_of, clients_of}
use Rattle.ft_model.specs.Wire.{HasWireBy}
use Rattle.ft_model.specs.World.{World, Moment, MayCome, Happens, Joint, IsStart, world_after}
use Rattle.ft_model.specs.declared.event.Event.{Event}
use Rattle.ft_model.specs.declared.schedule.Schedule.{Schedule}
use Rattle.plain_packets.specs.Sent.{kept_wire, CanBeKept}
use Rattle.plain_packets.proofs.Kept.{all_kept}
use Rattle.plain_world.specs.Premises.{Premises}
use Rattle.plain_world.specs.Turns.{Does}
use Rattle.plain_world.specs.WorldState.{WorldState, world_of, Represents, OfKind, IsReady, IsServedUp, IsAt, Steps, opened_of}
use Rattle.plain_world.proofs.Distinct.{distinct_after}

-- the laws of every joint trace
pub record AreLaws {State : Type 0} (service : ℕ → Machine State) : Type 0 where
  pub sent : (kind : ℕ) (start : World) (trace : List Moment) → Joint (service kind) start trace → AllByRecursion (HasWires (grammar_of start.profile)) trace
  pub all : (kind : ℕ) (start : World) (trace : List Moment) → Joint (service kind) start trace
      → AllByRecursion (HasWireBy (grammar_of (world_after start trace).profile)) (world_after start trace).packets
  pub unfenced : (kind : ℕ) (start : World) (trace : List Moment) (node : Node) (input : Input) → Joint (service kind) start trace
      → (world_after start trace).node ≡ Some node → MayCome (world_after start trace) input → fence node input ≡ None

-- the world of the definitions is that of the plain one, with its packets
pub same_world : {State : Type 0} (state : WorldState State) (w : World) → Represents state w → world_of state w.packets ≡ w
same_world state w r =
    ap₂ (λ s b. let x : World = record { server = s; profile = state.profile; clients = state.clients; log = state.log; packets = w.packets; boot = b; node = (world_of state w.packets).node } in x) r.server r.boot
    ∙ ap₂ (λ c l. let x : World = record { server = w.server; profile = state.profile; clients = c; log = l; packets = w.packets; boot = w.boot; node = (world_of state w.packets).node } in x) r.clients r.log
    ∙ ap (λ n. let x : World = record { server = w.server; profile = state.profile; clients = w.clients; log = w.log; packets = w.packets; boot = w.boot; node = n } in x) r.node
    ∙ ap (λ p. let x : World = record { server = w.server; profile = p; clients = w.clients; log = w.log; packets = w.packets; boot = w.boot; node = w.node } in x) r.profile

module _ {State : Type 0} (service : ℕ → Machine State) where
  -- why an event may not happen is seen in the plain world
  pub refusal_seen : (state : WorldState State) (event : Event) (o : Option _) → ((packets : List Packet) → state.packets ≡ map kept_wire packets → o ≡ refusal (world_of state packets) event)
      → (schedule : Schedule) (trace : List Moment) → IsAt service schedule trace state → o ≡ refusal (world_after (start_of schedule) trace) event
  refusal_seen state event o seen schedule trace at =
      let w : World = world_after (start_of schedule) trace in
      seen w.packets at.represents.packets ∙ ap (λ x. refusal x event) (same_world state w at.represents)

  premises : AreLaws service → (kind : ℕ) (start : World) (trace : List Moment) → Joint (service kind) start trace → Premises (world_after start trace)
  premises laws kind start trace joint = record {
    wires = laws.all kind start trace joint;
    distinct = distinct_after (service kind) start trace joint;
    unfenced = λ node input up comes. laws.unfenced kind start trace node input joint up comes;
  }

  pub steps : AreLaws service → (before acted after : WorldState State) (event : Event) → Does service event before acted → after ≡ record acted { turns = acted.turns + 1 }
      → (schedule : Schedule) (trace : List Moment) → IsAt service schedule trace before → FitsEvent event → refusal (world_after (start_of schedule) trace) event ≡ None
      → Steps service schedule trace event before after
  steps laws before acted after event does now schedule trace at fits free =
      let w : World = world_after (start_of schedule) trace in
      let kind : ℕ = kind_of schedule.service in
      let same : world_of before w.packets ≡ w = same_world before w at.represents in
      let p : Premises w = premises laws kind (start_of schedule) trace at.legal.joint in
      let s = does.advances w.packets at.ready.same_kind at.represents.packets (subst Premises (sym same) p) (ap (λ x. refusal x event) same ∙ free) fits in
      let next : World = world_of acted (w.packets ++ s.sent) in
      let happens : Happens (service kind) w event s.sent next =
      subst (λ x. Happens (service kind) x event s.sent next) same (subst (λ k. Happens (service k) (world_of before w.packets) event s.sent next) at.kind s.lawful.happens) in
      let moment : Moment = record { event = event; sent = s.sent; world = next } in
      let joint : Joint (service kind) (start_of schedule) (moment ∷ trace) = (at.legal.joint, happens) in
      let wires : AllByRecursion CanBeKept s.sent = all_kept _ s.sent (laws.sent kind (start_of schedule) (moment ∷ trace) joint).0 in
      let grown : acted.packets ≡ before.packets ++ map kept_wire s.sent = s.packets.follow wires in
      let few : opened_of acted.node ≤ max 65535 (opened_of before.node + 1) = does.few in
      let low : opened_of before.node ≤ 65535 + before.turns = at.ready.few in
      let turns : acted.turns ≡ before.turns = does.turns in
      record {
        moment = moment;
        event = refl;
        at = record {
          legal = record {
            joint = joint;
            events_are = refl;
            allowed = (at.legal.allowed, record { allowed = free; scripted = subst (λ x. IsScripted x event s.sent next) same s.lawful.scripted });
          };
          represents = record {
            server = ap (λ x. x.server) now;
            profile = ap (λ x. x.profile) now;
            clients = ap (λ x. x.clients) now;
            log = ap (λ x. x.log) now;
            packets = ap (λ x. x.packets) now ∙ grown ∙ ap (λ ws. ws ++ map kept_wire s.sent) at.represents.packets ∙ sym (map-append kept_wire w.packets s.sent);
            boot = ap (λ x. x.boot) now;
            node = ap (λ x. (world_of x []).node) now;
          };
          turns = ap (λ x. x.turns) now ∙ omega (arith, turns, at.turns);
          kind = ap (λ x. x.kind) now ∙ does.kind ∙ at.kind;
          ready = subst (IsReady service) (sym now) (record {
            same_kind = subst (λ k. OfKind k acted.node) (sym does.kind) (does.same_kind at.ready.same_kind);
            served = does.served;
            few = omega (arith, few, low, turns);
          });
        };
        packets = ap (λ x. x.packets) now ∙ grown;
      }

  -- before the first event
  pub starts_there : (schedule : Schedule) (state : WorldState State) → IsStart (start_of schedule) → state.server ≡ schedule.server → state.profile ≡ profile_of schedule.profile
      → state.clients ≡ clients_of schedule.server schedule.clients → state.log ≡ empty_log → state.packets ≡ [] → state.boot ≡ 0 → state.node ≡ None → state.turns ≡ 0
      → state.kind ≡ kind_of schedule.service → IsAt service schedule [] state
  starts_there schedule state start server profile clients log packets boot node turns kind = record {
    legal = record { joint = start; events_are = refl; allowed = tt };
    represents = record { server = server; profile = profile; clients = clients; log = log; packets = packets; boot = boot; node = ap (λ n. (world_of (record state { node = n }) []).node) node };
    turns = turns;
    kind = kind;
    ready = record {
      same_kind = subst (OfKind state.kind) (sym node) tt;
      served = subst (IsServedUp service) (sym node) tt;
      few = subst (λ n. opened_of n ≤ 65535 + state.turns) (sym node) (omega arith);
    };
  }
