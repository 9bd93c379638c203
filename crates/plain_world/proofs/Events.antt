-- What each event does to the plain world, in the world of the definitions.
use Rattle.std.proofs.Common.{◌≡◌, ◌∙◌, sym, ap, ap₂, subst, refl, ℕ, zero, suc, ◌+◌, ◌-◌, ◌<◌, ◌≤◌, max, nat_le, Bool, true, false, arith, Some, None, is_some, option_map, List, [], ◌∷◌, ◌++◌, map, slice_get, if◌then◌else◌}
use Rattle.std.proofs.Math.ListN.{set}
use Rattle.std.proofs.lemmas.Bool.{leb-false}
use Rattle.server_trait.specs.Service.{Machine}
use Rattle.tcp_rules.specs.Profile.{grammar_of}
use Rattle.ft_model.specs.Client.{Client, Move, move_asked, mover_of, move_of, window_of, refusal_of_move, segment_of, moved}
use Rattle.ft_model.specs.Client.{Move as moves}
use Rattle.ft_model.specs.Lawful.{hello}
use Rattle.ft_model.specs.Legal.{refusal, refusal_of_client, refusal_of_asked}
use Rattle.ft_model.specs.Network.{Packet, packet_at}
use Rattle.ft_model.specs.Network.Packet.{To_server, To_client, To_logger, From_logger}
use Rattle.ft_model.specs.Node.{booted}
use Rattle.ft_model.specs.Node.Input.{Packet_comes, Message_comes, Tick_comes}
use Rattle.ft_model.specs.Wire.{Wire, HasWireBy}
use Rattle.ft_model.specs.World.{World, Delivered, Flipped, Moves, Happens, client_at, with_client}
use Rattle.ft_model.specs.declared.event.Event.{Event}
use Rattle.ft_model.specs.declared.event.Event.TheVariants.{Boot, Crash, Tick, Deliver, Flip, Begin, Send, Fin, Ack, Reset, Stop}
use Rattle.ft_model.specs.declared.event.EventWhy.TheVariants as why
use Rattle.ft_model.proofs.AskedMoves.{quiet_event, scripted}
use Rattle.ft_model.proofs.Happened.{all_sent}
use Rattle.ft_model.proofs.Lists.{none_is_some, some_is}
use Rattle.ft_model.proofs.SomeOutcome.{move_may, is_none, asks, asks_for, is_up, mover_there, named, named_with_bit, window_fits}
use Rattle.plain_packets.specs.Sent.{Appends, wire_at, kept_wire}
use Rattle.plain_packets.proofs.Kept.{can_be_kept}
use Rattle.plain_packets.proofs.Sent.{wire_numbered, appends_same}
use Rattle.plain_world.specs.Served.{IsServedNode}
use Rattle.plain_world.specs.NodeTurns.{SendsBy}
use Rattle.plain_world.specs.Values.{NodeState, node_in, opened_in}
use Rattle.plain_world.specs.Premises.{Premises, PassesBy}
use Rattle.plain_world.specs.Turns.{Serves, MovesClient, Brings, BringsFlipped, Advances, Does}
use Rattle.plain_world.specs.WorldState.{WorldState, node_of, world_with, actors_of, world_of, OfKind, IsServedUp, opened_of}
use Rattle.plain_world.proofs.Distinct.{alone}

-- what an event leaves as it is in any case
pub record Keeps {State : Type 0} (before after : WorldState State) : Type 0 where
  pub kind : after.kind ≡ before.kind
  pub turns : after.turns ≡ before.turns
  pub server : after.server ≡ before.server
  pub profile : after.profile ≡ before.profile

pub keeps_all : {State : Type 0} (before after : WorldState State) → after ≡ before → Keeps before after
keeps_all before after same = record { kind = ap (λ w. w.kind) same; turns = ap (λ w. w.turns) same; server = ap (λ w. w.server) same; profile = ap (λ w. w.profile) same }

may_start : (a b : Bool) → (if a then Some why.Up else (if b then Some why.Boot else None)) ≡ None → (a ≡ false) × (b ≡ false)
may_start true b e = none_is_some why.Up (sym e)
may_start false true e = none_is_some why.Boot (sym e)
may_start false false e = (refl, refl)

-- the wire with a packet's number is the packet's
wire_named : (wires : List Wire) (packets : List Packet) (number : ℕ) (wire : Wire) (packet : Packet) → Some wire ≡ wire_at wires number → wires ≡ map kept_wire packets
    → packet_at packets number ≡ Some packet → wire ≡ kept_wire packet
wire_named wires packets number wire packet at is e =
    some_is wire (kept_wire packet) (at ∙ ap (λ ws. wire_at ws number) is ∙ wire_numbered packets number ∙ ap (option_map kept_wire) e)

none_named : (wires : List Wire) (packets : List Packet) (number : ℕ) (packet : Packet) → None ≡ wire_at wires number → wires ≡ map kept_wire packets
    → packet_at packets number ≡ Some packet → ⊥
none_named wires packets number packet at is e =
    none_is_some (kept_wire packet) (at ∙ ap (λ ws. wire_at ws number) is ∙ wire_numbered packets number ∙ ap (option_map kept_wire) e)

-- no packet that was sent fences
passes : (w : World) → Premises w → (number : ℕ) (packet : Packet) → packet_at w.packets number ≡ Some packet → PassesBy packet w.node
passes w p number (To_server segment) e = λ node up. p.unfenced node (Packet_comes segment) up (number, e)
passes w p number (To_client segment) e = tt
passes w p number (To_logger message) e = tt
passes w p number (From_logger message) e = λ node up. p.unfenced node (Message_comes message) up (number, e)

-- what is sent apart follows
follows : (Says : List Packet → Type 0) (before after sent : List Wire) → after ≡ before ++ sent → SendsBy Says [] sent → SendsBy Says before after
follows Says before after sent is s = record {
  sent = s.sent;
  lawful = s.lawful;
  packets = record { follow = λ wires. is ∙ ap (λ ws. before ++ ws) (s.packets.follow wires) };
}

module _ {State : Type 0} where
  -- the world after is that of the actors
  world_is : (before after : WorldState State) (ps : List Packet) → after.server ≡ before.server → after.profile ≡ before.profile → after.boot ≡ before.boot
      → world_with before.server before.profile before.boot ps (actors_of after) ≡ world_of after ps
  world_is before after ps server profile boot =
      ap₂ (λ s b. world_with s before.profile b ps (actors_of after)) (sym server) (sym boot)
      ∙ ap (λ p. world_with after.server p after.boot ps (actors_of after)) (sym profile)

  -- .. and where only the server's state changes
  only_node : (before after : WorldState State) (ps : List Packet) → after.server ≡ before.server → after.profile ≡ before.profile → after.boot ≡ before.boot → after.clients ≡ before.clients
      → after.log ≡ before.log → world_of after ps ≡ record (world_of before ps) { node = node_of after.node }
  only_node before after ps server profile boot clients log =
      ap (λ p. let w : World = record { server = after.server; profile = p; clients = after.clients; log = after.log; packets = ps; boot = after.boot; node = node_of after.node } in w) profile
      ∙ ap₂ (λ s b. let w : World = record { server = s; profile = before.profile; clients = after.clients; log = after.log; packets = ps; boot = b; node = node_of after.node } in w) server boot
      ∙ ap₂ (λ c l. let w : World = record { server = before.server; profile = before.profile; clients = c; log = l; packets = ps; boot = before.boot; node = node_of after.node } in w) clients log

module _ {State : Type 0} (service : ℕ → Machine State) (before after : WorldState State) where
  -- nothing changes where the event isn't allowed
  pub rests : (event : Event) → after ≡ before → IsServedUp service before.node
      → ((packets : List Packet) → before.packets ≡ map kept_wire packets → refusal (world_of before packets) event ≡ None → ⊥) → Does service event before after
  rests event same served never = record {
    kind = ap (λ w. w.kind) same;
    turns = ap (λ w. w.turns) same;
    same_kind = λ of. subst (λ w. OfKind before.kind w.node) (sym same) of;
    served = subst (λ w. IsServedUp service w.node) (sym same) served;
    few = subst (λ w. opened_of w.node ≤ max 65535 (opened_of before.node + 1)) (sym same) (omega arith);
    advances = λ packets of is premises free fits. absurd (never packets is free);
  }

  -- a stop is never allowed
  pub never_stops : (part : ℕ) → after ≡ before → IsServedUp service before.node → Does service (Stop part) before after
  never_stops part same served = rests (Stop part) same served (λ packets is free. none_is_some why.Stop (sym free))

  -- no packet has the number
  pub nothing_delivered : (number : ℕ) → after ≡ before → IsServedUp service before.node → None ≡ wire_at before.packets number → Does service (Deliver number) before after
  nothing_delivered number same served none =
      rests (Deliver number) same served
      (λ packets is free. let p = named (packet_at packets number) why.Packet free in none_named before.packets packets number p.0 none is p.1)

  pub nothing_flipped : (number bit : ℕ) → after ≡ before → IsServedUp service before.node → None ≡ wire_at before.packets number → Does service (Flip number bit) before after
  nothing_flipped number bit same served none =
      rests (Flip number bit) same served
      (λ packets is free. let p = named_with_bit (grammar_of before.profile) (packet_at packets number) bit free in none_named before.packets packets number p.0 none is p.1)

  -- a packet is delivered
  pub delivers : (number : ℕ) (wire : Wire) (sent : List Wire) → Some wire ≡ wire_at before.packets number → Keeps before after → after.boot ≡ before.boot
      → Brings service wire (actors_of before) (actors_of after) [] sent → after.packets ≡ before.packets ++ sent → Does service (Deliver number) before after
  delivers number wire sent at keeps boot brings follow = record {
    kind = keeps.kind;
    turns = keeps.turns;
    same_kind = λ of. brings.ready.same_kind before.kind of;
    served = brings.ready.served;
    few = brings.ready.few;
    advances = λ packets of is premises free fits.
        let w : World = world_of before packets in
        let p = named (packet_at packets number) why.Packet free in
        let s = brings.reaches before.kind before.server before.profile before.boot packets p.0 of (wire_named before.packets packets number wire p.0 at is p.1)
        (can_be_kept (grammar_of w.profile) p.0 (all_sent (HasWireBy (grammar_of w.profile)) w p.0 premises.wires (number, p.1))) (passes w premises number p.0 p.1) in
        follows (Advances (service before.kind) (Deliver number) w after) before.packets after.packets sent follow
        (record {
          sent = s.sent;
          lawful = record {
            happens = (p.0, p.1, subst (Delivered (service before.kind) w p.0 s.sent) (world_is before after (packets ++ s.sent) keeps.server keeps.profile boot) s.lawful);
            scripted = quiet_event w (Deliver number) s.sent (world_of after (packets ++ s.sent)) refl;
          };
          packets = s.packets;
        });
  }

  -- .. with a changed bit
  pub flips : (number bit : ℕ) (wire : Wire) (sent : List Wire) → Some wire ≡ wire_at before.packets number → Keeps before after → after.boot ≡ before.boot
      → BringsFlipped service wire (actors_of before) (actors_of after) [] sent → after.packets ≡ before.packets ++ sent → Does service (Flip number bit) before after
  flips number bit wire sent at keeps boot brings follow = record {
    kind = keeps.kind;
    turns = keeps.turns;
    same_kind = λ of. brings.ready.same_kind before.kind of;
    served = brings.ready.served;
    few = brings.ready.few;
    advances = λ packets of is premises free fits.
        let w : World = world_of before packets in
        let p = named_with_bit (grammar_of before.profile) (packet_at packets number) bit free in
        let s = brings.reaches before.kind before.server before.profile before.boot packets p.0 bit of (wire_named before.packets packets number wire p.0 at is p.1)
        (all_sent (HasWireBy (grammar_of w.profile)) w p.0 premises.wires (number, p.1)) p.2 in
        follows (Advances (service before.kind) (Flip number bit) w after) before.packets after.packets sent follow
        (record {
          sent = s.sent;
          lawful = record {
            happens = (p.0, p.1, subst (Flipped (service before.kind) w p.0 bit s.sent) (world_is before after (packets ++ s.sent) keeps.server keeps.profile boot) s.lawful);
            scripted = quiet_event w (Flip number bit) s.sent (world_of after (packets ++ s.sent)) refl;
          };
          packets = s.packets;
        });
  }

  -- a tick
  pub ticks : Keeps before after → after.boot ≡ before.boot → after.clients ≡ before.clients → after.log ≡ before.log
      → Serves service Tick_comes before.node after.node before.packets after.packets → Does service Tick before after
  ticks keeps boot clients log serves = record {
    kind = keeps.kind;
    turns = keeps.turns;
    same_kind = λ of. serves.ready.same_kind before.kind of;
    served = serves.ready.served;
    few = serves.ready.few;
    advances = λ packets of is premises free fits.
        let w : World = world_of before packets in
        let s = serves.turn before.kind of (λ node up. refl) in
        record {
          sent = s.sent;
          lawful = record {
            happens = (is_up (is_some w.node) free, (s.lawful, only_node before after (packets ++ s.sent) keeps.server keeps.profile boot clients log));
            scripted = quiet_event w Tick s.sent (world_of after (packets ++ s.sent)) refl;
          };
          packets = s.packets;
        };
  }

  -- the server goes down
  pub crashes : Keeps before after → after.boot ≡ before.boot → after.clients ≡ before.clients → after.log ≡ before.log → after.node ≡ None → after.packets ≡ before.packets
      → Does service Crash before after
  crashes keeps boot clients log down quiet = record {
    kind = keeps.kind;
    turns = keeps.turns;
    same_kind = λ of. subst (OfKind before.kind) (sym down) tt;
    served = subst (IsServedUp service) (sym down) tt;
    few = subst (λ n. opened_of n ≤ max 65535 (opened_of before.node + 1)) (sym down) (omega arith);
    advances = λ packets of is premises free fits.
        let w : World = world_of before packets in
        let none : node_of after.node ≡ None = ap node_of down in
        record {
          sent = [];
          lawful = record {
            happens = (
              is_up (is_some w.node) free,
              refl,
              only_node before after (packets ++ []) keeps.server keeps.profile boot clients log ∙ ap (λ n. let x : World = record w { node = n; packets = packets ++ [] } in x) none,
            );
            scripted = quiet_event w Crash [] (world_of after (packets ++ [])) refl;
          };
          packets = appends_same before.packets after.packets quiet;
        };
  }

  -- the server starts
  pub starts : (boot isn : ℕ) (n : NodeState State) → Keeps before after → after.boot ≡ boot → after.clients ≡ before.clients → after.log ≡ before.log → after.node ≡ Some n
      → n.kind ≡ before.kind → node_in n ≡ booted before.server before.profile boot isn → IsServedNode (service before.kind) n → opened_in n ≡ 0
      → Appends before.packets after.packets (hello (node_in n)) → Does service (Boot boot isn) before after
  starts boot isn n keeps now clients log up kind is served none sends = record {
    kind = keeps.kind;
    turns = keeps.turns;
    same_kind = λ of. subst (OfKind before.kind) (sym up) kind;
    served = subst (IsServedUp service) (sym up) (subst (λ k. IsServedNode (service k) n) (sym kind) served);
    few = subst (λ m. opened_of m ≤ max 65535 (opened_of before.node + 1)) (sym up) (omega (arith, none));
    advances = λ packets of same premises free fits.
        let w : World = world_of before packets in
        let may = may_start (is_some w.node) (nat_le boot before.boot) free in
        let sent : List Packet = hello (booted before.server before.profile boot isn) in
        record {
          sent = sent;
          lawful = record {
            happens = (
              is_none w.node may.0,
              (leb-false boot before.boot may.1, fits.0),
              refl,
              started packets sent,
            );
            scripted = quiet_event w (Boot boot isn) sent (world_of after (packets ++ sent)) refl;
          };
          packets = subst (λ m. Appends before.packets after.packets (hello m)) is sends;
        };
  }
    where
      started : (packets sent : List Packet) → world_of after (packets ++ sent) ≡ record (world_of before packets) { boot = boot; node = Some (booted before.server before.profile boot isn); packets = packets ++ sent }
      started packets sent =
          ap (λ p. let w : World = record { server = after.server; profile = p; clients = after.clients; log = after.log; packets = packets ++ sent; boot = after.boot; node = node_of after.node } in w) keeps.profile
          ∙ ap₂ (λ s b. let w : World = record { server = s; profile = before.profile; clients = after.clients; log = after.log; packets = packets ++ sent; boot = b; node = node_of after.node } in w) keeps.server now
          ∙ ap₂ (λ c l. let w : World = record { server = before.server; profile = before.profile; clients = c; log = l; packets = packets ++ sent; boot = boot; node = node_of after.node } in w) clients log
          ∙ ap (λ m. let w : World = record { server = before.server; profile = before.profile; clients = before.clients; log = before.log; packets = packets ++ sent; boot = boot; node = m } in w)
          (ap node_of up ∙ ap (λ m. Some m) is)

refusal_asked : (w : World) (event : Event) (number : ℕ) → mover_of event ≡ Some number → refusal w event ≡ refusal_of_asked w.clients (move_asked event)
refusal_asked w (Begin n window) number e = refl
refusal_asked w (Send n from len) number e = refl
refusal_asked w (Fin n) number e = refl
refusal_asked w (Ack n window) number e = refl
refusal_asked w (Reset n) number e = refl
refusal_asked w (Boot boot isn) number e = none_is_some number e
refusal_asked w Crash number e = none_is_some number e
refusal_asked w Tick number e = none_is_some number e
refusal_asked w (Deliver n) number e = none_is_some number e
refusal_asked w (Flip n bit) number e = none_is_some number e
refusal_asked w (Stop part) number e = none_is_some number e

pub asked_refusal : (clients : List Client) (event : Event) (number : ℕ) (client : Client) (m : Move) → mover_of event ≡ Some number → Some m ≡ move_of event
    → client_at clients number ≡ Some client → refusal_of_move client m ≡ refusal_of_asked clients (move_asked event)
asked_refusal clients event number client m mover moves there =
    let a = asks (move_asked event) number mover in
    let same : a.0 ≡ m = some_is a.0 m (sym (asks_for event number a.0 a.1) ∙ sym moves) in
    sym (ap (refusal_of_asked clients) a.1 ∙ ap₂ refusal_of_client there same)

-- a client by its number
pub client_there : (clients : List Client) (number : ℕ) (client : Client) → 0 < number → slice_get clients (number - 1) ≡ Some client → client_at clients number ≡ Some client
client_there clients zero client p e = absurd (omega arith)
client_there clients (suc n) client p e = let one : suc n - 1 ≡ n = omega arith in subst (λ k. slice_get clients k ≡ Some client) one e

pub place_of : (clients : List Client) (number : ℕ) (client : Client) → client_at clients number ≡ Some client → slice_get clients (number - 1) ≡ Some client
place_of clients zero client e = none_is_some client e
place_of clients (suc n) client e = let one : suc n - 1 ≡ n = omega arith in subst (λ k. slice_get clients k ≡ Some client) (sym one) e

happen : {State : Type 0} (service : Machine State) (w after : World) (event : Event) (number : ℕ) (sent : List Packet) → mover_of event ≡ Some number → Moves w number sent after → Happens service w event sent after
happen service w after (Begin n window) number sent e m = subst (λ k. Moves w k sent after) (sym (some_is n number e)) m
happen service w after (Send n from len) number sent e m = subst (λ k. Moves w k sent after) (sym (some_is n number e)) m
happen service w after (Fin n) number sent e m = subst (λ k. Moves w k sent after) (sym (some_is n number e)) m
happen service w after (Ack n window) number sent e m = subst (λ k. Moves w k sent after) (sym (some_is n number e)) m
happen service w after (Reset n) number sent e m = subst (λ k. Moves w k sent after) (sym (some_is n number e)) m
happen service w after (Boot boot isn) number sent e m = none_is_some number e
happen service w after Crash number sent e m = none_is_some number e
happen service w after Tick number sent e m = none_is_some number e
happen service w after (Deliver n) number sent e m = none_is_some number e
happen service w after (Flip n bit) number sent e m = none_is_some number e
happen service w after (Stop part) number sent e m = none_is_some number e

module _ {State : Type 0} (service : ℕ → Machine State) (before after : WorldState State) (event : Event) (number : ℕ) (mover : mover_of event ≡ Some number) where
  -- a client moves
  pub client_moves : MovesClient number event (actors_of before) (actors_of after) before.packets after.packets → Keeps before after → after.boot ≡ before.boot → IsServedUp service before.node
      → Does service event before after
  client_moves moves keeps boot served = record {
    kind = keeps.kind;
    turns = keeps.turns;
    same_kind = λ of. subst (OfKind before.kind) (sym moves.node) of;
    served = subst (IsServedUp service) (sym moves.node) served;
    few = subst (λ n. opened_of n ≤ max 65535 (opened_of before.node + 1)) (sym moves.node) (omega arith);
    advances = λ packets of is premises free fits.
        let w : World = world_of before packets in
        let a = asks (move_asked event) number mover in
        let alone_asked : move_of event ≡ Some a.0 = asks_for event number a.0 a.1 in
        let c = mover_there (client_at before.clients number) a.0
        (sym (ap (refusal_of_asked before.clients) a.1) ∙ sym (refusal_asked w event number mover) ∙ free) in
        let client : Client = c.0 in
        let moved_on = moves.moves client c.1 in
        let made = moved_on.1 a.0 alone_asked c.2 in
        let window : ℕ = window_of client event in
        let sent : List Packet = To_server (segment_of client a.0 window) ∷ [] in
        let one : after.clients ≡ with_client client.key (λ _. moved client a.0 window) before.clients =
        moved_on.2 ∙ ap (set before.clients (number - 1)) made.0 ∙ sym (alone before.clients (number - 1) client (moved client a.0 window) premises.distinct (place_of before.clients number client c.1)) in
        record {
          sent = sent;
          lawful = record {
            happens = happen (service before.kind) w (world_of after (packets ++ sent)) event number sent mover
                (record {
                  client = client;
                  segment = segment_of client a.0 window;
                  later = moved client a.0 window;
                  is_there = c.1;
                  move = record { move = a.0; window = window; may = move_may client event a.0 alone_asked c.2; fits = window_fits client event a.0 fits alone_asked; timestamps = None; carries = refl; segment_is = refl; after_is = refl };
                  sent_is = refl;
                  after_is = next (packets ++ sent) (with_client client.key (λ _. moved client a.0 window) before.clients) one;
                });
            scripted = scripted w event client a.0 number (world_of after (packets ++ sent)) a.1 c.1 one;
          };
          packets = made.1;
        };
  }
    where
      next : (ps : List Packet) (cs : List Client) → after.clients ≡ cs → world_of after ps ≡ record (world_of before ps) { clients = cs }
      next ps cs e =
          ap (λ p. let w : World = record { server = after.server; profile = p; clients = after.clients; log = after.log; packets = ps; boot = after.boot; node = node_of after.node } in w) keeps.profile
          ∙ ap₂ (λ s b. let w : World = record { server = s; profile = before.profile; clients = after.clients; log = after.log; packets = ps; boot = b; node = node_of after.node } in w) keeps.server boot
          ∙ ap₂ (λ xs l. let w : World = record { server = before.server; profile = before.profile; clients = xs; log = l; packets = ps; boot = before.boot; node = node_of after.node } in w) e moves.log
          ∙ ap (λ n. let w : World = record { server = before.server; profile = before.profile; clients = cs; log = before.log; packets = ps; boot = before.boot; node = n } in w) (ap node_of moves.node)
