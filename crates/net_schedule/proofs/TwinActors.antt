-- With two loggers: what server and clients do is done in the whole world, since they don't look at the log.
use Rattle.std.proofs.Common.{◌≡◌, ◌∙◌, sym, ap₂, subst, refl, ◌≢◌, ℕ, Some, List, [], ◌++◌, map, Result}
use Rattle.std.specs.Prelude.{OnOk, IfErr}
use Rattle.std.proofs.lemmas.Result.{on_ok_weaker}
use Rattle.ft_io.proofs.Outcomes.{if_err}
use Rattle.server_trait.specs.Service.{Machine}
use Rattle.server_trait.specs.declared.Service.{Ghosts}
use Rattle.tcp_rules.specs.Profile.{grammar_of}
use Rattle.ft_model.specs.Client.{mover_of}
use Rattle.ft_model.specs.Legal.{refusal, IsScripted}
use Rattle.ft_model.specs.Network.{Packet, destination_of}
use Rattle.ft_model.specs.Network.Packet.{To_server, To_client, To_logger, From_logger}
use Rattle.ft_model.specs.Wire.{wire_of}
use Rattle.ft_model.specs.Wire.Party.{The_logger}
use Rattle.ft_model.specs.World.{World as Seen, Happens, DeliveredAs}
use Rattle.ft_model.specs.declared.event.Event.{Event}
use Rattle.ft_model.specs.declared.event.Event.TheVariants.{Boot, Crash, Tick, Deliver, Flip, Begin, Send, Fin, Ack, Reset, Stop}
use Rattle.ft_model.proofs.Lists.{none_is_some}
use Rattle.seq_arith.specs.PacketGrammar as segments
use Rattle.twin_laws.specs.TwinWorld.{Parcel, TwinWorld, TwinHappens, Elsewhere, seen}
use Rattle.twin_laws.specs.TwinWorld.Parcel.{Outside}
use Rattle.twin_laws.specs.TwinWorld.TwinEvent.{Usual}
use Rattle.twin_laws.specs.TwinLegal.{twin_refusal}
use Rattle.twin_laws.proofs.Elsewhere.{with_packets, happens_elsewhere, server_elsewhere, client_reads_elsewhere, NamesNone}
use Rattle.twin_laws.proofs.Numbering.{outside_of}
use Rattle.net_schedule.specs.Actors.{ActorsStand, ActorsProceed, ActorsAdvance}
use Rattle.node_serving.specs.Markers.{Saving}
use Rattle.net_schedule.specs.WorldView.{kept, service_of}
use Rattle.net_schedule.specs.Refinement.{Kept}
use Rattle.net_schedule.specs.Turns.{ActorsDo, ActorsDecline, Does, Declines}
use Rattle.net_schedule.specs.TwinRefinement.{LoggersStand, TwinWorldStands, TwinProceeds, TwinAdvances, ParcelComesAs, carried_parcels}
use Rattle.schedule_network.specs.declared.end.StepEnd.{StepEnd}
use Rattle.schedule_network.specs.declared.end.StepEnd.TheVariants.{NoMemory, BadEvent, PacketLimit}
use Rattle.net_schedule.specs.declared.world.World.{World}
use Rattle.net_schedule.proofs.Goings.{actors_of, one_advances}
use Rattle.net_schedule.proofs.Parcels.{packets_after}

-- an event of the server or of a client, which names no packet
abbrev pub IsOfActors : Event → Type 0
IsOfActors (Deliver number) = ⊥
IsOfActors (Flip number bit) = ⊥
IsOfActors (Stop part) = ⊥
IsOfActors _ = Unit {0}

pub movers_are_actors : (event : Event) (number : ℕ) → mover_of event ≡ Some number → IsOfActors event
movers_are_actors (Boot boot isn) number e = tt
movers_are_actors Crash number e = tt
movers_are_actors Tick number e = tt
movers_are_actors (Deliver n) number e = none_is_some number e
movers_are_actors (Flip n bit) number e = none_is_some number e
movers_are_actors (Stop part) number e = none_is_some number e
movers_are_actors (Begin client window) number e = tt
movers_are_actors (Send client from len) number e = tt
movers_are_actors (Fin client) number e = tt
movers_are_actors (Ack client window) number e = tt
movers_are_actors (Reset client) number e = tt

-- it is tested alike
refused_alike : (v : TwinWorld) (ps : List Packet) (event : Event) → IsOfActors event → twin_refusal v event ≡ refusal (seen v ps) event
refused_alike v ps (Boot boot isn) a = refl
refused_alike v ps Crash a = refl
refused_alike v ps Tick a = refl
refused_alike v ps (Deliver n) a = absurd a
refused_alike v ps (Flip n bit) a = absurd a
refused_alike v ps (Stop part) a = absurd a
refused_alike v ps (Begin client window) a = refl
refused_alike v ps (Send client from len) a = refl
refused_alike v ps (Fin client) a = refl
refused_alike v ps (Ack client window) a = refl
refused_alike v ps (Reset client) a = refl

names_none : (event : Event) → IsOfActors event → NamesNone event
names_none (Boot boot isn) a = tt
names_none Crash a = tt
names_none Tick a = tt
names_none (Deliver n) a = absurd a
names_none (Flip n bit) a = absurd a
names_none (Stop part) a = absurd a
names_none (Begin client window) a = tt
names_none (Send client from len) a = tt
names_none (Fin client) a = tt
names_none (Ack client window) a = tt
names_none (Reset client) a = tt

module _ {State : Type 0} (service : Machine State) where
  usual_turn : (v : TwinWorld) (event : Event) (sent : List Parcel) (after : TwinWorld) → IsOfActors event → Elsewhere (λ w. Happens service w event) v sent after
      → TwinHappens service v (Usual event) sent after
  usual_turn v (Boot boot isn) sent after a h = h
  usual_turn v Crash sent after a h = h
  usual_turn v Tick sent after a h = h
  usual_turn v (Deliver n) sent after a h = absurd a
  usual_turn v (Flip n bit) sent after a h = absurd a
  usual_turn v (Stop part) sent after a h = absurd a
  usual_turn v (Begin client window) sent after a h = h
  usual_turn v (Send client from len) sent after a h = h
  usual_turn v (Fin client) sent after a h = h
  usual_turn v (Ack client window) sent after a h = h
  usual_turn v (Reset client) sent after a h = h

  -- the world after a turn of theirs
  abbrev next_of : TwinWorld → List Packet → Seen → TwinWorld
  next_of v sent world =
      record { server = world.server; profile = world.profile; clients = world.clients; pair = v.pair; parcels = v.parcels ++ map Outside sent; boot = world.boot; node = world.node }

  -- what doesn't look at the packets before goes on alike whichever they are
  abbrev pub IsElsewhere : (Seen → List Packet → Seen → Type 0) → Type 0
  IsElsewhere Goes = (w : Seen) (ps sent : List Packet) (after : Seen) → Goes w sent after → Goes (with_packets w ps) sent (with_packets after (ps ++ sent))

  pub two_goes : (Goes : Seen → List Packet → Seen → Type 0) (w w' : Kept State) (v : TwinWorld) (ps : List Packet) → IsElsewhere Goes → TwinWorldStands service w v
      → ActorsProceed service (Goes (seen v ps)) (seen v ps) w w' → TwinProceeds service (Elsewhere Goes v) v w'
  two_goes Goes w w' v ps anywhere st g =
      let next : TwinWorld = next_of v g.sent g.world in
      let goes : Goes (seen v []) g.sent (with_packets g.world g.sent) = anywhere (seen v ps) [] g.sent g.world g.goes in
      let there : Goes (seen v []) g.sent (seen (next_of v g.sent g.world) g.sent) =
      subst (λ l. Goes (seen v []) g.sent (record { server = g.world.server; profile = g.world.profile; clients = g.world.clients; log = l; packets = g.sent; boot = g.world.boot; node = g.world.node })) g.quiet goes in
      record {
        sent = map Outside g.sent;
        world = next_of v g.sent g.world;
        goes = (g.sent, refl, there, refl, refl);
        stands = record {
          actors = record { server = g.stands.server; profile = g.stands.profile; keys = g.stands.keys; clients = g.stands.clients; boot = g.stands.boot; unmarked = g.stands.unmarked; node = g.stands.node; runs = g.stands.runs };
          loggers = st.loggers;
          double = g.same_keepers ∙ st.double;
          log = g.same_log ∙ st.log;
          pair = subst (λ p. LoggersStand (grammar_of p) st.loggers v.pair) (sym g.same_profile) st.pair;
          packets = g.stored ∙ packets_after (grammar_of v.profile) w.keys w.packets v.parcels g.sent st.packets
              ∙ ap₂ (λ p ks. carried_parcels (grammar_of p) ks (v.parcels ++ map Outside g.sent)) (sym g.same_profile) (sym g.same_keys);
        };
        grew = refl;
      }

  -- server and clients stand where they stood, whatever packets are taken for sent
  pub twin_actors_of : (w : Kept State) (v : TwinWorld) (ps : List Packet) → TwinWorldStands service w v → ActorsStand service w (seen v ps)
  twin_actors_of w v ps st =
      record { server = st.actors.server; profile = st.actors.profile; keys = st.actors.keys; clients = st.actors.clients; boot = st.actors.boot; unmarked = st.actors.unmarked; node = st.actors.node; runs = st.actors.runs }

  two_advances : (event : Event) (w w' : Kept State) (v : TwinWorld) (ps : List Packet) → IsOfActors event → TwinWorldStands service w v
      → ActorsAdvance service (seen v ps) event w w' → TwinAdvances service v event w'
  unfolding two_goes
  two_advances event w w' v ps actors st a =
      let g : TwinProceeds service (Elsewhere (λ u. Happens service u event) v) v w' =
      two_goes (λ u. Happens service u event) w w' v ps (λ u qs sent after h. happens_elsewhere service event u qs sent after (names_none event actors) h) st a.happens in
      record {
        turn = Usual event;
        is = refl;
        happens = record { sent = g.sent; world = g.world; goes = usual_turn v event g.sent g.world actors g.goes; stands = g.stands; grew = g.grew };
        allowed = refused_alike v ps event actors ∙ a.allowed;
        scripted = subst (λ sent. IsScripted (seen v []) event sent (seen (next_of v a.happens.sent a.happens.world) [])) (sym (outside_of a.happens.sent)) a.scripted;
      }

  -- a client or the server hears bytes
  delivered_elsewhere : (packet : Packet) (bytes : List ℕ) → (wire_of packet).to ≢ The_logger → IsElsewhere (λ u. DeliveredAs service u packet bytes)
  delivered_elsewhere (To_server segment) bytes n w ps sent after h = server_elsewhere service _ w ps sent after h
  delivered_elsewhere (To_client segment) bytes n w ps sent after h = client_reads_elsewhere (destination_of segment) (segments.reading bytes) w ps sent after h
  delivered_elsewhere (To_logger message) bytes n w ps sent after h = absurd (n refl)
  delivered_elsewhere (From_logger message) bytes n w ps sent after h = server_elsewhere service _ w ps sent after h

  pub two_brings : (w w' : Kept State) (v : TwinWorld) (ps : List Packet) (packet : Packet) (bytes : List ℕ) → (wire_of packet).to ≢ The_logger → TwinWorldStands service w v
      → ActorsProceed service (DeliveredAs service (seen v ps) packet bytes) (seen v ps) w w' → TwinProceeds service (ParcelComesAs service (Outside packet) bytes v) v w'
  two_brings w w' v ps packet bytes n st g = at packet n (two_goes (λ u. DeliveredAs service u packet bytes) w w' v ps (delivered_elsewhere packet bytes n) st g)
    where
      at : (packet : Packet) → (wire_of packet).to ≢ The_logger → TwinProceeds service (Elsewhere (λ u. DeliveredAs service u packet bytes) v) v w'
          → TwinProceeds service (ParcelComesAs service (Outside packet) bytes v) v w'
      at (To_server segment) n g = g
      at (To_client segment) n g = g
      at (To_logger message) n g = absurd (n refl)
      at (From_logger message) n g = g

-- An event of server or clients, with one logger, with two, and with marks.
module _ {State : Type 0} {ghosts : Ghosts State} (saved : Saving State) (w w' : World State ghosts) where
  acts : (event : Event) → IsOfActors event → ActorsDo saved event w w' → Does saved event w w'
  acts event actors done = record {
    continues = done.continues;
    one = λ v st p. one_advances (service_of w) event (kept w) (kept w') v st (done.advances v (actors_of (service_of w) (kept w) v st) p);
    two = λ v st p. two_advances (service_of w) event (kept w) (kept w') v p.packets actors st
        (done.advances (seen v p.packets) (twin_actors_of (service_of w) (kept w) v p.packets st) p.premises);
    marked = done.marked;
  }

  acts_not : (event : Event) (end : StepEnd) → IsOfActors event → ActorsDecline saved event w w' end → Declines saved event w w' end
  acts_not event NoMemory actors ends = tt
  acts_not event (BadEvent why) actors ends = (
    record {
      one = λ v st p. ends.0.usual v (actors_of (service_of w) (kept w) v st) p;
      two = λ v st p. refused_alike v p.packets event actors ∙ ends.0.usual (seen v p.packets) (twin_actors_of (service_of w) (kept w) v p.packets st) p.premises;
      marked = ends.0.marked;
    },
    ends.1,
  )
  acts_not event PacketLimit actors ends = ends

  -- .. where the event is named in another way
  pub acted : (r : Result (Unit {0}) StepEnd) (event named : Event) → event ≡ named → IsOfActors named → OnOk r (ActorsDo saved named w w') → OnOk r (Does saved event w w')
  acted r event named is actors h = on_ok_weaker r (λ done. subst (λ e. Does saved e w w') (sym is) (acts named actors done)) h

  pub acted_not : (r : Result (Unit {0}) StepEnd) (event named : Event) → event ≡ named → IsOfActors named → IfErr r (ActorsDecline saved named w w') → IfErr r (Declines saved event w w')
  acted_not r event named is actors h = if_err r (λ end ends. subst (λ e. Declines saved e w w' end) (sym is) (acts_not named end actors ends)) h
