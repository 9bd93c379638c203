-- With marks: what only clients do is done in the whole world. They don't look at server and log, so it is first said of a world whose server is down.
use Rattle.std.proofs.Common.{◌≡◌, ◌∙◌, sym, ap, subst, subst₂, refl, ℕ, Bool, true, false, true≢false, Some, None, List, [], ◌∷◌, ◌++◌, map}
use Rattle.std.specs.List.{AllByRecursion}
use Rattle.seq_arith.specs.PacketGrammar as segments
use Rattle.seq_arith.specs.Packet.{Segment}
use Rattle.seq_arith.specs.declared.BadPacket.{BadPacket}
use Rattle.seq_arith.specs.declared.kinds.Grammar.{Grammar}
use Rattle.std.specs.Prelude.{Result, Ok, Err}
use Rattle.ft_io.specs.declared.Key.{Key}
use Rattle.tcp_rules.specs.Profile.{grammar_of}
use Rattle.ft_model.specs.Client.{mover_of}
use Rattle.ft_model.specs.Legal.{refusal, IsScripted}
use Rattle.ft_model.specs.Network.{Packet, destination_of}
use Rattle.ft_model.specs.Network.Packet.{To_server, To_client, To_logger, From_logger}
use Rattle.ft_model.specs.Wire.{HasWireBy}
use Rattle.ft_model.specs.World.{World as Seen, Moves, Happens, ClientReads}
use Rattle.ft_model.specs.declared.event.Event.{Event}
use Rattle.ft_model.specs.declared.event.Event.TheVariants.{Boot, Crash, Tick, Deliver, Flip, Begin, Send, Fin, Ack, Reset, Stop}
use Rattle.ft_model.specs.declared.event.EventWhy.{EventWhy}
use Rattle.ft_model.specs.declared.way.Way.{Way}
use Rattle.ft_model.specs.declared.way.Way.TheVariants.{ServerToClient}
use Rattle.ft_model.proofs.Lists.{none_is_some}
use Rattle.mark_laws.specs.MarkedLegal.{marked_refusal}
use Rattle.mark_laws.specs.MarkedNode.{Marker}
use Rattle.mark_laws.specs.MarkedWorld.{Parcel, MarkedWorld, MarkedHappens, CanBeRead, Elsewhere, ComesAs, usual, seen}
use Rattle.mark_laws.specs.MarkedWorld.Parcel.{Usual, Mark_sent, Mark_answered}
use Rattle.mark_laws.proofs.Strip.{usual_append, usual_of}
use Rattle.net_schedule.specs.Actors.{ActorsStand, ActorsProceed, ActorsAdvance}
use Rattle.net_schedule.specs.Delivery.{delivered_to}
use Rattle.net_schedule.specs.Premises.{Premises}
use Rattle.net_schedule.specs.Refinement.{Kept, RunsWith}
use Rattle.net_schedule.specs.MarkedRefinement.{MarkedWorldStands, MarkedProceeds, MarkedAdvances, MarkedPremises, MarkedNodeStands, way_of_parcel, stored_parcels}
use Rattle.net_schedule.proofs.Bringing.{brings_client}
use Rattle.net_schedule.proofs.MarkedParcels.{usual_after}

-- an event of a client
abbrev pub IsOfClients : Event → Type 0
IsOfClients (Begin client window) = Unit {0}
IsOfClients (Send client from len) = Unit {0}
IsOfClients (Fin client) = Unit {0}
IsOfClients (Ack client window) = Unit {0}
IsOfClients (Reset client) = Unit {0}
IsOfClients _ = ⊥

pub movers_are_clients : (event : Event) (number : ℕ) → mover_of event ≡ Some number → IsOfClients event
movers_are_clients (Boot boot isn) number e = none_is_some number e
movers_are_clients Crash number e = none_is_some number e
movers_are_clients Tick number e = none_is_some number e
movers_are_clients (Deliver n) number e = none_is_some number e
movers_are_clients (Flip n bit) number e = none_is_some number e
movers_are_clients (Stop part) number e = none_is_some number e
movers_are_clients (Begin client window) number e = tt
movers_are_clients (Send client from len) number e = tt
movers_are_clients (Fin client) number e = tt
movers_are_clients (Ack client window) number e = tt
movers_are_clients (Reset client) number e = tt

-- a way that leads to a client
abbrev is_to_client : Way → Bool
is_to_client (ServerToClient number) = true
is_to_client _ = false

-- the worlds without their servers
abbrev pub downed : {State : Type 0} → Kept State → Kept State
downed w = record w { every = 0; node = None }

abbrev pub seen_down : MarkedWorld → Seen
seen_down v = record (seen v) { node = None }

wires_seen : (grammar : Grammar) (parcels : List Parcel) → AllByRecursion (CanBeRead grammar) parcels → AllByRecursion (HasWireBy grammar) (usual parcels)
wires_seen grammar [] a = tt
wires_seen grammar (Usual packet ∷ parcels) a = (a.0, wires_seen grammar parcels a.1)
wires_seen grammar (Mark_sent message ∷ parcels) a = wires_seen grammar parcels a.1
wires_seen grammar (Mark_answered message ∷ parcels) a = wires_seen grammar parcels a.1

-- a client's event is tested alike
pub refused_down : (v : MarkedWorld) (event : Event) → IsOfClients event → marked_refusal v event ≡ refusal (seen_down v) event
refused_down v (Boot boot isn) a = absurd a
refused_down v Crash a = absurd a
refused_down v Tick a = absurd a
refused_down v (Deliver n) a = absurd a
refused_down v (Flip n bit) a = absurd a
refused_down v (Stop part) a = absurd a
refused_down v (Begin client window) a = refl
refused_down v (Send client from len) a = refl
refused_down v (Fin client) a = refl
refused_down v (Ack client window) a = refl
refused_down v (Reset client) a = refl

-- the seen world after what clients did
abbrev next_of : MarkedWorld → List Packet → Seen → MarkedWorld
next_of v sent world = record v { clients = world.clients; parcels = v.parcels ++ map Usual sent }

-- only clients have changed, and these packets are sent
abbrev IsClients : MarkedWorld → List Packet → Seen → Type 0
IsClients v sent world = world ≡ record (seen_down v) { clients = world.clients; packets = usual v.parcels ++ sent }

-- what clients do in the one seen world they do in the other
seen_next : (v : MarkedWorld) (sent : List Packet) (world : Seen) → IsClients v sent world
    → seen (next_of v sent world) ≡ record world { node = (seen v).node }
seen_next v sent world is =
    ap (λ (ps : List Packet). record (seen v) { clients = world.clients; packets = ps }) (usual_append v.parcels (map Usual sent) ∙ ap (λ ps. usual v.parcels ++ ps) (usual_of sent))
    ∙ sym (ap (λ (u : Seen). record u { node = (seen v).node }) is)

moves_up : (v : MarkedWorld) (number : ℕ) (sent : List Packet) (world : Seen) → Moves (seen_down v) number sent world → Moves (seen v) number sent (record world { node = (seen v).node })
moves_up v number sent world m = record {
  client = m.client;
  segment = m.segment;
  later = m.later;
  is_there = m.is_there;
  move = m.move;
  sent_is = m.sent_is;
  after_is = ap (λ (u : Seen). record u { node = (seen v).node }) m.after_is;
}

moved_is : (v : MarkedWorld) (number : ℕ) (sent : List Packet) (world : Seen) → Moves (seen_down v) number sent world → IsClients v sent world
moved_is v number sent world m =
    m.after_is ∙ ap (λ cs. record (seen_down v) { clients = cs; packets = usual v.parcels ++ sent }) (sym (ap (λ (u : Seen). u.clients) m.after_is))

goes_up : (v : MarkedWorld) (number : ℕ) (sent : List Packet) (world : Seen) → Moves (seen_down v) number sent world
    → Elsewhere (λ w. Moves w number) v (map Usual sent) (next_of v sent world)
goes_up v number sent world m =
    (sent, refl, subst (Moves (seen v) number sent) (sym (seen_next v sent world (moved_is v number sent world m))) (moves_up v number sent world m), refl)

reads_up : (v : MarkedWorld) (key : Key) (r : Result Segment BadPacket) (sent : List Packet) (world : Seen) → ClientReads key r (seen_down v) sent world
    → ClientReads key r (seen v) sent (record world { node = (seen v).node })
reads_up v key (Ok segment) sent world h = (h.0, ap (λ (u : Seen). record u { node = (seen v).node }) h.1)
reads_up v key (Err why) sent world h = (h.0, ap (λ (u : Seen). record u { node = (seen v).node }) h.1)

reads_is : (v : MarkedWorld) (key : Key) (r : Result Segment BadPacket) (sent : List Packet) (world : Seen) → ClientReads key r (seen_down v) sent world → IsClients v sent world
reads_is v key (Ok segment) sent world h =
    h.1 ∙ ap (λ cs. record (seen_down v) { clients = cs; packets = usual v.parcels ++ sent }) (sym (ap (λ (u : Seen). u.clients) h.1))
reads_is v key (Err why) sent world h =
    h.1 ∙ ap (λ cs. record (seen_down v) { clients = cs; packets = usual v.parcels ++ sent }) (sym (ap (λ (u : Seen). u.clients) h.1))

module _ {State : Type 0} (by : Marker State) where
  happened_is : (v : MarkedWorld) (event : Event) (sent : List Packet) (world : Seen) → IsOfClients event → Happens by.service (seen_down v) event sent world → IsClients v sent world
  happened_is v (Boot boot isn) sent world a h = absurd a
  happened_is v Crash sent world a h = absurd a
  happened_is v Tick sent world a h = absurd a
  happened_is v (Deliver n) sent world a h = absurd a
  happened_is v (Flip n bit) sent world a h = absurd a
  happened_is v (Stop part) sent world a h = absurd a
  happened_is v (Begin client window) sent world a h = moved_is v client sent world h
  happened_is v (Send client from len) sent world a h = moved_is v client sent world h
  happened_is v (Fin client) sent world a h = moved_is v client sent world h
  happened_is v (Ack client window) sent world a h = moved_is v client sent world h
  happened_is v (Reset client) sent world a h = moved_is v client sent world h

  client_happens : (v : MarkedWorld) (event : Event) (sent : List Packet) (world : Seen) → IsOfClients event → Happens by.service (seen_down v) event sent world
      → MarkedHappens by v event (map Usual sent) (next_of v sent world)
  client_happens v (Boot boot isn) sent world a h = absurd a
  client_happens v Crash sent world a h = absurd a
  client_happens v Tick sent world a h = absurd a
  client_happens v (Deliver n) sent world a h = absurd a
  client_happens v (Flip n bit) sent world a h = absurd a
  client_happens v (Stop part) sent world a h = absurd a
  client_happens v (Begin client window) sent world a h = goes_up v client sent world h
  client_happens v (Send client from len) sent world a h = goes_up v client sent world h
  client_happens v (Fin client) sent world a h = goes_up v client sent world h
  client_happens v (Ack client window) sent world a h = goes_up v client sent world h
  client_happens v (Reset client) sent world a h = goes_up v client sent world h

  pub down_stands : (w : Kept State) (v : MarkedWorld) → MarkedWorldStands by w v → ActorsStand by.service (downed w) (seen_down v)
  down_stands w v st = record { server = st.actors.server; profile = st.actors.profile; keys = st.actors.keys; clients = st.actors.clients; boot = st.actors.boot; unmarked = refl; node = tt; runs = tt }

  pub down_premises : (v : MarkedWorld) → MarkedPremises by v → Premises by.service (seen_down v)
  down_premises v p = record {
    wires = wires_seen (grammar_of v.profile) v.parcels p.readable;
    keys = p.keys;
    near = λ node input is comes. none_is_some node is;
    sound = λ node input is comes. none_is_some node is;
    unfenced = λ node input is comes. none_is_some node is;
  }

  -- the code's world is then at the next one
  client_stands : (Goes : List Packet → Seen → Type 0) (w w' : Kept State) (v : MarkedWorld) → MarkedWorldStands by w v → w'.node ≡ w.node → w'.every ≡ w.every → w'.kind ≡ w.kind → w'.profile ≡ w.profile
      → (g : ActorsProceed by.service Goes (seen_down v) (downed w) (downed w')) → IsClients v g.sent g.world → MarkedWorldStands by w' (next_of v g.sent g.world)
  client_stands Goes w w' v st same_node same_every same_kind same_run g is = record {
    actors = record {
      server = g.stands.server ∙ ap (λ (u : Seen). u.server) is;
      profile = g.stands.profile ∙ ap (λ (u : Seen). u.profile) is;
      keys = g.stands.keys;
      clients = g.stands.clients;
      boot = g.stands.boot ∙ ap (λ (u : Seen). u.boot) is;
      runs = subst₂ (λ profile o. RunsWith profile o) (sym same_run) (sym same_node) st.actors.runs;
    };
    node = subst (λ k. MarkedNodeStands by k w'.node v.node) (sym same_kind) (subst (λ o. MarkedNodeStands by w.kind o v.node) (sym same_node) st.node);
    both = st.both;
    keepers = g.same_keepers ∙ st.keepers;
    full_log = g.same_log ∙ st.full_log;
    log = g.same_log ∙ st.log;
    at = st.at;
    packets = g.stored ∙ (usual_after (grammar_of v.profile) w.keys w.packets v.parcels g.sent st.packets ∙ ap (λ ks. stored_parcels (grammar_of v.profile) ks (v.parcels ++ map Usual g.sent)) (sym g.same_keys));
    every = same_every ∙ st.every;
    marks = st.marks;
  }

  pub client_advances : (event : Event) (w w' : Kept State) (v : MarkedWorld) → IsOfClients event → MarkedWorldStands by w v → w'.node ≡ w.node → w'.every ≡ w.every → w'.kind ≡ w.kind → w'.profile ≡ w.profile
      → ActorsAdvance by.service (seen_down v) event (downed w) (downed w') → MarkedAdvances by v event w'
  client_advances event w w' v actors st same_node same_every same_kind same_run a =
      let is : IsClients v a.happens.sent a.happens.world = happened_is v event a.happens.sent a.happens.world actors a.happens.goes in
      record {
        happens = record {
          sent = map Usual a.happens.sent;
          world = next_of v a.happens.sent a.happens.world;
          goes = client_happens v event a.happens.sent a.happens.world actors a.happens.goes;
          stands = client_stands (Happens by.service (seen_down v) event) w w' v st same_node same_every same_kind same_run a.happens is;
          grew = refl;
        };
        allowed = refused_down v event actors ∙ a.allowed;
        scripted = subst (λ sent. IsScripted (seen v) event sent (seen (next_of v a.happens.sent a.happens.world))) (sym (usual_of a.happens.sent)) a.scripted;
      }

  -- bytes reach a client
  pub client_reads : (key : Key) (r : Result Segment BadPacket) (w w' : Kept State) (v : MarkedWorld) → MarkedWorldStands by w v → w'.node ≡ w.node → w'.every ≡ w.every → w'.kind ≡ w.kind → w'.profile ≡ w.profile
      → ActorsProceed by.service (ClientReads key r (seen_down v)) (seen_down v) (downed w) (downed w') → MarkedProceeds by (Elsewhere (ClientReads key r) v) v w'
  client_reads key r w w' v st same_node same_every same_kind same_run g =
      let is : IsClients v g.sent g.world = reads_is v key r g.sent g.world g.goes in
      record {
        sent = map Usual g.sent;
        world = next_of v g.sent g.world;
        goes = (g.sent, refl, subst (ClientReads key r (seen v) g.sent) (sym (seen_next v g.sent g.world is)) (reads_up v key r g.sent g.world g.goes), refl);
        stands = client_stands (ClientReads key r (seen_down v)) w w' v st same_node same_every same_kind same_run g is;
        grew = refl;
      }

  -- bytes reach the addressee of a parcel that goes to a client
  pub client_brought : (w w' : Kept State) (v : MarkedWorld) (parcel : Parcel) (bytes : List ℕ) (number : ℕ) → MarkedWorldStands by w v → MarkedPremises by v
      → ServerToClient number ≡ way_of_parcel w.keys parcel → w' ≡ record w { clients = delivered_to number bytes w.clients } → MarkedProceeds by (ComesAs by parcel bytes v) v w'
  client_brought w w' v (Usual (To_client segment)) bytes number st p way e =
      client_reads (destination_of segment) (segments.reading bytes) w w' v st (ap (λ k. k.node) e) (ap (λ k. k.every) e) (ap (λ k. k.kind) e) (ap (λ k. k.profile) e)
      (brings_client by.service (downed w) (downed w') (seen_down v) (To_client segment) bytes number (down_stands w v st) (down_premises v p) way (ap downed e))
  client_brought w w' v (Usual (To_server segment)) bytes number st p way e = absurd (true≢false (ap is_to_client way))
  client_brought w w' v (Usual (To_logger message)) bytes number st p way e = absurd (true≢false (ap is_to_client way))
  client_brought w w' v (Usual (From_logger message)) bytes number st p way e = absurd (true≢false (ap is_to_client way))
  client_brought w w' v (Mark_sent message) bytes number st p way e = absurd (true≢false (ap is_to_client way))
  client_brought w w' v (Mark_answered message) bytes number st p way e = absurd (true≢false (ap is_to_client way))

  -- what is refused where the server is down is refused where it is up
  pub client_refused : (w : Kept State) (v : MarkedWorld) (event : Event) (number : ℕ) (why : EventWhy) → mover_of event ≡ Some number → MarkedWorldStands by w v
      → (ActorsStand by.service (downed w) (seen_down v) → refusal (seen_down v) event ≡ Some why) → marked_refusal v event ≡ Some why
  client_refused w v event number why moves st refuses = refused_down v event (movers_are_clients event number moves) ∙ refuses (down_stands w v st)
