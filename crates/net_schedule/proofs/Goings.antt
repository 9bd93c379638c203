-- What the turn of server or client does to the code's world is what the definitions say of the world at which it stands, with one logger and with two.
use Rattle.std.proofs.Common.{◌≡◌, ◌∙◌, sym, ap, subst, refl, ℕ, is_some, Option, Some, None, option_map, List, [], ◌++◌, map}
use Rattle.std.specs.Option.{option_to_list}
use Rattle.ft_io.specs.declared.Key.{Key}
use Rattle.seq_arith.specs.Packet.{Segment}
use Rattle.seq_arith.specs.Message.{Message}
use Rattle.server_trait.specs.Service.{Machine}
use Rattle.tcp_rules.specs.Profile.{grammar_of}
use Rattle.tcp_rules.specs.Profiles.{profile_of}
use Rattle.tcp_rules.specs.declared.profile.Profile.{Profile}
use Rattle.ft_model.specs.Client.{Client, received}
use Rattle.ft_model.specs.Lawful.{IsNearInput, IsSoundInput, fence}
use Rattle.ft_model.specs.Log.{log_after, answer_to}
use Rattle.ft_model.specs.Network.{Packet}
use Rattle.ft_model.specs.Network.Packet.{From_logger}
use Rattle.ft_model.specs.Node.{Node, Stage, Input}
use Rattle.ft_model.specs.Wire.{Wire, wire_by}
use Rattle.ft_model.specs.World.{World as Seen, MayCome, ServerTurn, ServerMoves, ClientReceives, LogReceives, NothingHappens, Happens, with_client}
use Rattle.ft_model.specs.declared.event.Event.{Event}
use Rattle.ft_model.proofs.FaithfulKept.{received_same}
use Rattle.ft_model.proofs.Lists.{none_is_some}
use Rattle.ft_model.proofs.ClientKeys.{keys_stay}
use Rattle.logger_store.specs.StoreState.{answer_bytes_by}
use Rattle.node_serving.specs.Identity.{node_of}
use Rattle.server_node.specs.Stages.{StageStands, NodeGoes}
use Rattle.net_schedule.specs.Actors.{ActorsStand, ActorsProceed, ActorsAdvance}
use Rattle.schedule_network.specs.StoredPackets.{carried, with_wires, with_answer}
use Rattle.net_schedule.specs.Premises.{Premises}
use Rattle.net_schedule.specs.Refinement.{Kept, Server, IsAt, NodeStands, RunsWith, WorldStands, ReachesNext, Advances}
use Rattle.net_schedule.proofs.PacketStore.{sent_kept, none_sent, answer_kept}

-- the server is down in both worlds at once, ..
pub down : {State : Type 0} (service : Machine State) (kind : ℕ) (s : Option (Server State)) (n : Option Node) → NodeStands service kind s n → s ≡ None → n ≡ None
down service kind None None h e = refl
down service kind (Some s) n h e = none_is_some s (sym e)
down service kind None (Some n) h e = absurd h

-- .. and up
pub record IsUp {State : Type 0} (service : Machine State) (kind : ℕ) (s : Server State) (n : Option Node) : Type 0 where
  pub node : Node
  pub up : n ≡ Some node
  pub at : IsAt service kind s node

pub up : {State : Type 0} (service : Machine State) (kind : ℕ) (s : Server State) (n : Option Node) → NodeStands service kind (Some s) n → IsUp service kind s n
up service kind s None h = absurd h
up service kind s (Some node) h = record { node = node; up = refl; at = h }

pub both_up : {State : Type 0} (service : Machine State) (kind : ℕ) (s : Option (Server State)) (n : Option Node) → NodeStands service kind s n → is_some s ≡ is_some n
both_up service kind None None h = refl
both_up service kind None (Some n) h = absurd h
both_up service kind (Some s) None h = absurd h
both_up service kind (Some s) (Some n) h = refl

module _ {State : Type 0} (service : Machine State) where
  -- a lawful turn of the server
  pub server_goes : (w w' : Kept State) (v : Seen) (input : Input) (s s' : Server State) (sent : List Wire) → ActorsStand service w v → Premises service v → MayCome v input → w.node ≡ Some s
      → s'.who ≡ s.who
      → ((standing : Stage) → IsNearInput s.who.local input standing → IsSoundInput service (node_of s.who standing) input standing → StageStands service (node_of s.who standing) s.stage
      → NodeGoes service (node_of s.who standing) input s.who s'.stage sent)
      → w' ≡ record w { packets = with_wires w.keys w.packets sent; node = Some s' } → ActorsProceed service (ServerMoves service input v) v w w'
  server_goes w w' v input s s' sent st p comes is_up same turn e' =
      let u : IsUp service w.kind s v.node = up service w.kind s v.node (subst (λ o. NodeStands service w.kind o v.node) is_up st.node) in
      let node : Node = node_of s.who u.at.standing in
      let its_profile : s.who.profile ≡ w.profile = subst (RunsWith w.profile) is_up st.runs in
      let is : v.node ≡ Some (node_of s.who u.at.standing) = u.up ∙ ap Some u.at.is in
      let g : NodeGoes service (node_of s.who u.at.standing) input s.who s'.stage sent =
      turn u.at.standing (p.near (node_of s.who u.at.standing) input is comes) (p.sound (node_of s.who u.at.standing) input is comes) u.at.stands in
      subst (ActorsProceed service (ServerMoves service input v) v w) (sym e')
      (record {
        sent = g.packets;
        world = record v { node = Some (node_of s.who g.after); packets = v.packets ++ g.packets };
        goes = (subst (λ o. ServerTurn service input o g.packets (Some (node_of s.who g.after))) (sym is) (node_of s.who g.after, refl, g.turn), refl);
        stands = record {
          server = st.server;
          profile = st.profile;
          keys = st.keys;
          clients = st.clients;
          boot = st.boot;
          unmarked = st.unmarked;
          node = record {
            kind_is = ap (λ i. i.kind) same ∙ u.at.kind_is;
            standing = g.after;
            is = ap (λ i. node_of i g.after) (sym same);
            stands = subst (λ i. StageStands service (node_of i g.after) s'.stage) (sym same) g.stands;
          };
          runs = ap (λ i. i.profile) same ∙ its_profile;
        };
        grew = refl;
        quiet = refl;
        same_profile = refl;
        stored = ap (with_wires w.keys w.packets)
            (g.wires ∙ ap (λ p. map (wire_by (grammar_of p)) g.packets) (ap profile_of its_profile ∙ st.profile));
        same_keys = refl;
        same_log = refl;
        same_keepers = refl;
      })

  -- nothing that may come fences it
  pub never_fenced : {P : Type 0} (w : Kept State) (v : Seen) (input : Input) (s : Server State) (newer : ℕ) → ActorsStand service w v → Premises service v → MayCome v input → w.node ≡ Some s
      → ((standing : Stage) → fence (node_of s.who standing) input ≡ Some newer) → P
  never_fenced w v input s newer st p comes is_up fenced =
      let u : IsUp service w.kind s v.node = up service w.kind s v.node (subst (λ o. NodeStands service w.kind o v.node) is_up st.node) in
      none_is_some newer (sym (p.unfenced (node_of s.who u.at.standing) input (u.up ∙ ap Some u.at.is) comes) ∙ fenced u.at.standing)

  -- nothing changes but that nothing is sent
  rests : (Goes : List Packet → Seen → Type 0) (w : Kept State) (v : Seen) → ActorsStand service w v → Goes [] (record v { packets = v.packets ++ [] }) → ActorsProceed service Goes v w w
  rests Goes w v st goes = record {
    sent = [];
    world = record v { packets = v.packets ++ [] };
    goes = goes;
    stands = record { server = st.server; profile = st.profile; keys = st.keys; clients = st.clients; boot = st.boot; unmarked = st.unmarked; node = st.node; runs = st.runs };
    grew = refl;
    quiet = refl;
    same_profile = refl;
    stored = none_sent w.keys w.packets;
    same_keys = refl;
    same_log = refl;
    same_keepers = refl;
  }

  -- a server that is down has no turn
  pub server_rests : (w : Kept State) (v : Seen) (input : Input) → ActorsStand service w v → w.node ≡ None → ActorsProceed service (ServerMoves service input v) v w w
  server_rests w v input st is_down =
      let none : v.node ≡ None = down service w.kind w.node v.node st.node is_down in
      rests (ServerMoves service input v) w v st (subst (λ o. ServerTurn service input o [] o) (sym none) (refl, refl), refl)

  -- a client receives
  pub client_receives : (w w' : Kept State) (v : Seen) (key : Key) (segment : Segment) → ActorsStand service w v
      → w' ≡ record w { clients = with_client key (λ c. received c segment) w.clients } → ActorsProceed service (ClientReceives key segment v) v w w'
  client_receives w w' v key segment st e' =
      let change : Client → Client = λ c. received c segment in
      subst (ActorsProceed service (ClientReceives key segment v) v w) (sym e')
      (record {
        sent = [];
        world = record v { clients = with_client key (λ c. received c segment) v.clients; packets = v.packets ++ [] };
        goes = (refl, refl);
        stands = record {
          server = st.server;
          profile = st.profile;
          keys = st.keys ∙ sym (keys_stay key (λ c. received c segment) v.clients (λ c e. (received_same c segment).key));
          clients = ap (with_client key (λ c. received c segment)) st.clients;
          boot = st.boot;
          unmarked = st.unmarked;
          node = st.node;
          runs = st.runs;
        };
        grew = refl;
        quiet = refl;
        same_profile = refl;
        stored = none_sent w.keys w.packets;
        same_keys = refl;
        same_log = refl;
        same_keepers = refl;
      })

  -- noise comes to a client
  pub nothing_happens : (w w' : Kept State) (v : Seen) → ActorsStand service w v → w' ≡ w → ActorsProceed service (NothingHappens v) v w w'
  nothing_happens w w' v st e' = subst (ActorsProceed service (NothingHappens v) v w) (sym e') (rests (NothingHappens v) w v st (refl, refl))

  -- With one logger: what server and clients do is done in the whole world.
  pub actors_of : (w : Kept State) (v : Seen) → WorldStands service w v → ActorsStand service w v
  actors_of w v st = record { server = st.server; profile = st.profile; keys = st.keys; clients = st.clients; boot = st.boot; unmarked = st.unmarked; node = st.node; runs = st.runs }

  pub one_goes : (Goes : List Packet → Seen → Type 0) (w w' : Kept State) (v : Seen) → WorldStands service w v → ActorsProceed service Goes v w w' → ReachesNext service Goes v w'
  one_goes Goes w w' v st g = record {
    sent = g.sent;
    world = g.world;
    goes = g.goes;
    stands = record {
      server = g.stands.server;
      profile = g.stands.profile;
      keys = g.stands.keys;
      clients = g.stands.clients;
      single = g.same_keepers ∙ st.single;
      unmarked = g.stands.unmarked;
      log = g.same_log ∙ st.log ∙ sym g.quiet;
      packets = g.stored ∙ sent_kept (grammar_of v.profile) w.keys w.packets v.packets g.sent st.packets
          ∙ ap (λ ps. carried w.keys (map (wire_by (grammar_of v.profile)) ps)) (sym g.grew)
          ∙ ap (λ ks. carried ks (map (wire_by (grammar_of v.profile)) g.world.packets)) (sym g.same_keys)
          ∙ ap (λ p. carried w'.keys (map (wire_by (grammar_of p)) g.world.packets)) (sym g.same_profile);
      boot = g.stands.boot;
      node = g.stands.node;
      runs = g.stands.runs;
    };
    grew = g.grew;
  }

  pub one_advances : (event : Event) (w w' : Kept State) (v : Seen) → WorldStands service w v → ActorsAdvance service v event w w' → Advances service v event w'
  unfolding one_goes
  one_advances event w w' v st a =
      record { happens = one_goes (Happens service v event) w w' v st a.happens; allowed = a.allowed; scripted = a.scripted }

  -- the only logger takes a message and answers
  pub logger_receives : (w w' : Kept State) (v : Seen) (message : Message) → WorldStands service w v
      → w' ≡ record w { log = log_after w.log message; packets = with_answer w.packets (answer_bytes_by (grammar_of v.profile) (answer_to w.log message)) } → ReachesNext service (LogReceives message v) v w'
  logger_receives w w' v message st e' =
      let answer : Option Message = answer_to v.log message in
      let sent : List Packet = option_to_list (option_map From_logger (answer_to v.log message)) in
      subst (ReachesNext service (LogReceives message v) v) (sym e')
      (record {
        sent = option_to_list (option_map From_logger (answer_to v.log message));
        world = record v { log = log_after v.log message; packets = v.packets ++ option_to_list (option_map From_logger (answer_to v.log message)) };
        goes = (refl, refl);
        stands = record {
          server = st.server;
          profile = st.profile;
          keys = st.keys;
          clients = st.clients;
          single = st.single;
          unmarked = st.unmarked;
          log = ap (λ l. log_after l message) st.log;
          packets = ap (λ l. with_answer w.packets (answer_bytes_by (grammar_of v.profile) (answer_to l message))) st.log
              ∙ answer_kept (grammar_of v.profile) w.keys w.packets (answer_to v.log message)
              ∙ sent_kept (grammar_of v.profile) w.keys w.packets v.packets (option_to_list (option_map From_logger (answer_to v.log message))) st.packets;
          boot = st.boot;
          node = st.node;
          runs = st.runs;
        };
        grew = refl;
      })

-- so it is where the turn is by the service of the server's own kind, which is the world's
server_goes_at : {State : Type 0} (services : ℕ → Machine State) (w w' : Kept State) (v : Seen) (input : Input) (s s' : Server State) (sent : List Wire)
    → ActorsStand (services w.kind) w v → Premises (services w.kind) v → MayCome v input → w.node ≡ Some s → s'.who ≡ s.who
    → ((standing : Stage) → IsNearInput s.who.local input standing → IsSoundInput (services s.who.kind) (node_of s.who standing) input standing → StageStands (services s.who.kind) (node_of s.who standing) s.stage
    → NodeGoes (services s.who.kind) (node_of s.who standing) input s.who s'.stage sent)
    → w' ≡ record w { packets = with_wires w.keys w.packets sent; node = Some s' } → ActorsProceed (services w.kind) (ServerMoves (services w.kind) input v) v w w'
server_goes_at services w w' v input s s' sent st p comes is_up same turn e' =
    let u : IsUp (services w.kind) w.kind s v.node = up (services w.kind) w.kind s v.node (subst (λ o. NodeStands (services w.kind) w.kind o v.node) is_up st.node) in
    server_goes (services w.kind) w w' v input s s' sent st p comes is_up same
    (λ standing near sound stands.
    subst (λ k. NodeGoes (services k) (node_of s.who standing) input s.who s'.stage sent) u.at.kind_is
    (turn standing near
    (subst (λ k. IsSoundInput (services k) (node_of s.who standing) input standing) (sym u.at.kind_is) sound)
    (subst (λ k. StageStands (services k) (node_of s.who standing) s.stage) (sym u.at.kind_is) stands)))
    e'

-- .. on an input that depends on its profile, which is the world's
pub server_goes_by : {State : Type 0} (services : ℕ → Machine State) (w w' : Kept State) (v : Seen) (input : Profile → Input) (s s' : Server State) (sent : List Wire)
    → ActorsStand (services w.kind) w v → Premises (services w.kind) v → MayCome v (input w.profile) → w.node ≡ Some s → s'.who ≡ s.who
    → ((standing : Stage) → IsNearInput s.who.local (input s.who.profile) standing → IsSoundInput (services s.who.kind) (node_of s.who standing) (input s.who.profile) standing
    → StageStands (services s.who.kind) (node_of s.who standing) s.stage → NodeGoes (services s.who.kind) (node_of s.who standing) (input s.who.profile) s.who s'.stage sent)
    → w' ≡ record w { packets = with_wires w.keys w.packets sent; node = Some s' } → ActorsProceed (services w.kind) (ServerMoves (services w.kind) (input w.profile) v) v w w'
server_goes_by services w w' v input s s' sent st p comes is_up same turn e' =
    let runs : s.who.profile ≡ w.profile = subst (RunsWith w.profile) is_up st.runs in
    subst (λ q. ActorsProceed (services w.kind) (ServerMoves (services w.kind) (input q) v) v w w') runs
    (server_goes_at services w w' v (input s.who.profile) s s' sent st p (subst (λ q. MayCome v (input q)) (sym runs) comes) is_up same turn e')

pub never_fenced_by : {State : Type 0} {P : Type 0} (service : Machine State) (w : Kept State) (v : Seen) (input : Profile → Input) (s : Server State) (newer : ℕ) → ActorsStand service w v
    → Premises service v → MayCome v (input w.profile) → w.node ≡ Some s → ((standing : Stage) → fence (node_of s.who standing) (input s.who.profile) ≡ Some newer) → P
never_fenced_by service w v input s newer st p comes is_up fenced =
    never_fenced service w v (input s.who.profile) s newer st p (subst (λ q. MayCome v (input q)) (sym (subst (RunsWith w.profile) is_up st.runs)) comes) is_up fenced
