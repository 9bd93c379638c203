-- What is done at an event is what may happen, and what is refused is refused by the events' tests.
use Rattle.std.proofs.Common.{◌≡◌, ◌∙◌, sym, ap, ap₂, subst, refl, ℕ, zero, suc, ◌<◌, ◌≤◌, ◌*◌, ◌^◌, nat_le, true, false, is_some, Some, None, List, [], ◌++◌, length, map, cond, arith}
use Rattle.std.specs.List.{AllByRecursion}
use Rattle.std.proofs.lemmas.Bool.Decides.{nat_tests}
use Rattle.seq_arith.specs.Damage.{flipped}
use Rattle.server_trait.specs.Service.{Machine}
use Rattle.tcp_rules.specs.Profile.{grammar_of}
use Rattle.tcp_rules.specs.Profiles.{profile_of}
use Rattle.ft_model.specs.Client.{move_asked}
use Rattle.ft_model.specs.Lawful.{hello}
use Rattle.ft_model.specs.Legal.{refusal, refusal_of_flip, IsScripted}
use Rattle.ft_model.specs.Network.{Packet, packet_at}
use Rattle.ft_model.specs.Node.{Node, booted}
use Rattle.ft_model.specs.Node.Stage.{Asking}
use Rattle.ft_model.specs.Node.Input.{Tick_comes}
use Rattle.ft_model.specs.Wire.{Wire, wire_by, wire_of, HasWireBy}
use Rattle.ft_model.specs.World.{World as Seen, ServerMoves, Delivered, DeliveredAs}
use Rattle.ft_model.specs.declared.event.Event.{Event}
use Rattle.ft_model.specs.declared.event.Event.TheVariants as events
use Rattle.ft_model.specs.declared.event.EventWhy.TheVariants as why
use Rattle.ft_model.specs.declared.way.Way.{Way}
use Rattle.ft_model.proofs.Lists.{all_slice_get, none_is_some}
use Rattle.node_serving.specs.Identity.{node_of}
use Rattle.server_node.specs.Stages.{StageStands}
use Rattle.net_schedule.specs.Actors.{ActorsStand, ActorsProceed, ActorsAdvance}
use Rattle.schedule_network.specs.AtNumber.{at_number}
use Rattle.schedule_network.specs.StoredPackets.{with_wires, way_along}
use Rattle.net_schedule.specs.Premises.{Premises, ComesAs}
use Rattle.net_schedule.specs.Refinement.{Kept, Server, WorldStands, ReachesNext, Advances}
use Rattle.net_schedule.proofs.PacketStore.{Found, found, none_sent}
use Rattle.net_schedule.proofs.Goings.{down, both_up}
use Rattle.net_schedule.proofs.Bringing.{comes_whole, comes_changed, goes_whole}

-- a packet of this number has its bytes
pub all_numbered : (P : Packet → Type 0) (ps : List Packet) (n : ℕ) (p : Packet) → AllByRecursion P ps → packet_at ps n ≡ Some p → P p
all_numbered P ps zero p a e = none_is_some p e
all_numbered P ps (suc n) p a e = all_slice_get P ps n p a e

-- one that starts, goes down, ticks or delivers asks no client for a move
pub no_move : (v : Seen) (event : Event) (sent : List Packet) (after : Seen) → move_asked event ≡ None → IsScripted v event sent after
no_move v event sent after none number move client k h = none_is_some (number, move) (sym none ∙ k)

module _ {State : Type 0} (service : Machine State) where
  -- the server starts
  pub boots : (w w' : Kept State) (v : Seen) (boot isn : ℕ) (s : Server State) (sent : List Wire) → ActorsStand service w v → w.node ≡ None → w.boot < boot → boot < 2 ^ 64
      → StageStands service (booted w.server (profile_of w.profile) boot isn) s.stage → sent ≡ map (wire_by (grammar_of (profile_of w.profile))) (hello (booted w.server (profile_of w.profile) boot isn))
      → s.who ≡ record { boot = boot; isn = isn; kind = w.kind; local = w.server; profile = w.profile }
      → w' ≡ record w { packets = with_wires w.keys w.packets sent; boot = boot; node = Some s } → ActorsAdvance service v (events.Boot boot isn) w w'
  boots w w' v boot isn s wires st is_down more fits stands hello_is who e' =
      let none : v.node ≡ None = down service w.kind w.node v.node st.node is_down in
      let node : Node = booted v.server v.profile boot isn in
      let low : v.boot < boot = subst (λ n. n < boot) st.boot more in
      let rises : nat_le boot v.boot ≡ false = grind (arith, nat_tests) in
      let said : wires ≡ map (wire_by (grammar_of v.profile)) (hello node) =
      subst (λ p. wires ≡ map (wire_by (grammar_of p)) (hello (booted v.server v.profile boot isn))) st.profile
      (subst (λ a. wires ≡ map (wire_by (grammar_of (profile_of w.profile))) (hello (booted a v.profile boot isn))) st.server hello_is) in
      subst (ActorsAdvance service v (events.Boot boot isn) w) (sym e')
      (record {
        happens = record {
          sent = hello (booted v.server v.profile boot isn);
          world = record v { boot = boot; node = Some (booted v.server v.profile boot isn); packets = v.packets ++ hello (booted v.server v.profile boot isn) };
          goes = (none, (low, fits), refl, refl);
          stands = record {
            server = st.server;
            profile = st.profile;
            keys = st.keys;
            clients = st.clients;
            boot = refl;
            unmarked = st.unmarked;
            node = record {
              kind_is = ap (λ i. i.kind) who;
              standing = Asking;
              is = ap₂ (λ a x. booted a x boot isn) (sym st.server) (sym st.profile) ∙ ap (λ i. node_of i Asking) (sym who);
              stands = subst (λ i. StageStands service (node_of i Asking) s.stage) (sym who) stands;
            };
            runs = ap (λ i. i.profile) who;
          };
          grew = refl;
          quiet = refl;
          same_profile = refl;
          stored = ap (with_wires w.keys w.packets) said;
          same_keys = refl;
          same_log = refl;
          same_keepers = refl;
        };
        allowed = rw none (rw rises refl);
        scripted = no_move v (events.Boot boot isn) (hello (booted v.server v.profile boot isn)) (record v { boot = boot; node = Some (booted v.server v.profile boot isn); packets = v.packets ++ hello (booted v.server v.profile boot isn) }) refl;
      })

  pub refuses_up : (w : Kept State) (v : Seen) (boot isn : ℕ) → ActorsStand service w v → is_some w.node ≡ true → refusal v (events.Boot boot isn) ≡ Some why.Up
  refuses_up w v boot isn st e = let is_up : is_some v.node ≡ true = sym (both_up service w.kind w.node v.node st.node) ∙ e in rw is_up refl

  pub refuses_boot : (w : Kept State) (v : Seen) (boot isn : ℕ) → ActorsStand service w v → is_some w.node ≡ false → boot ≤ w.boot → refusal v (events.Boot boot isn) ≡ Some why.Boot
  refuses_boot w v boot isn st e old =
      let is_down : is_some v.node ≡ false = sym (both_up service w.kind w.node v.node st.node) ∙ e in
      let low : boot ≤ v.boot = subst (λ n. boot ≤ n) st.boot old in
      let rises : nat_le boot v.boot ≡ true = grind (arith, nat_tests) in
      rw is_down (rw rises refl)

  -- the server goes down
  pub crashes : (w w' : Kept State) (v : Seen) → ActorsStand service w v → is_some w.node ≡ true → w' ≡ record w { node = None } → ActorsAdvance service v events.Crash w w'
  crashes w w' v st e e' =
      let is_up : is_some v.node ≡ true = sym (both_up service w.kind w.node v.node st.node) ∙ e in
      subst (ActorsAdvance service v events.Crash w) (sym e')
      (record {
        happens = record {
          sent = [];
          world = record v { node = None; packets = v.packets ++ [] };
          goes = (is_up, refl, refl);
          stands = record { server = st.server; profile = st.profile; keys = st.keys; clients = st.clients; boot = st.boot; unmarked = st.unmarked; node = tt; runs = tt };
          grew = refl;
          quiet = refl;
          same_profile = refl;
          stored = none_sent w.keys w.packets;
          same_keys = refl;
          same_log = refl;
          same_keepers = refl;
        };
        allowed = rw is_up refl;
        scripted = no_move v events.Crash [] (record v { node = None; packets = v.packets ++ [] }) refl;
      })

  pub refuses_down : (w : Kept State) (v : Seen) (event : Event) → ActorsStand service w v → is_some w.node ≡ false → refusal v event ≡ cond (is_some v.node) None (Some why.Down) → refusal v event ≡ Some why.Down
  refuses_down w v event st e r = let is_down : is_some v.node ≡ false = sym (both_up service w.kind w.node v.node st.node) ∙ e in r ∙ ap (λ b. cond b None (Some why.Down)) is_down

  -- a tick
  pub ticks : (w w' : Kept State) (v : Seen) → ActorsStand service w v → is_some w.node ≡ true → ActorsProceed service (ServerMoves service Tick_comes v) v w w' → ActorsAdvance service v events.Tick w w'
  ticks w w' v st e g =
      let is_up : is_some v.node ≡ true = sym (both_up service w.kind w.node v.node st.node) ∙ e in
      record {
        happens = record {
          sent = g.sent;
          world = g.world;
          goes = (is_up, g.goes);
          stands = g.stands;
          grew = g.grew;
          quiet = g.quiet;
          same_profile = g.same_profile;
          stored = g.stored;
          same_keys = g.same_keys;
          same_log = g.same_log;
          same_keepers = g.same_keepers;
        };
        allowed = rw is_up refl;
        scripted = no_move v events.Tick g.sent g.world refl;
      }

  -- a packet is delivered
  pub delivers : (w w' : Kept State) (v : Seen) (n : ℕ) (way : Way) (bytes : List ℕ) → WorldStands service w v → Premises service v
      → at_number w.packets.ways n ≡ Some way → at_number w.packets.bytes n ≡ Some bytes
      → ((packet : Packet) → way ≡ way_along w.keys (wire_of packet) → ComesAs v packet bytes → ReachesNext service (DeliveredAs service v packet bytes) v w') → Advances service v (events.Deliver n) w'
  delivers w w' v n way bytes st p e f brings =
      let x : Found (grammar_of v.profile) w.keys v.packets n way bytes = found (grammar_of v.profile) w.keys w.packets v.packets n way bytes st.packets e f in
      let wire : HasWireBy (grammar_of v.profile) x.packet = all_numbered (HasWireBy (grammar_of v.profile)) v.packets n x.packet p.wires x.is in
      let came : ComesAs v x.packet bytes = subst (ComesAs v x.packet) (sym x.spells) (comes_whole service v x.packet wire (n, x.is)) in
      let g : ReachesNext service (Delivered service v x.packet) v w' = goes_whole service v x.packet w' wire (subst (λ b. ReachesNext service (DeliveredAs service v x.packet b) v w') x.spells (brings x.packet x.goes came)) in
      record {
        happens = record { sent = g.sent; world = g.world; goes = (x.packet, x.is, g.goes); stands = g.stands; grew = g.grew };
        allowed = rw x.is refl;
        scripted = no_move v (events.Deliver n) g.sent g.world refl;
      }

  pub refuses_packet : (v : Seen) (n : ℕ) → packet_at v.packets n ≡ None → refusal v (events.Deliver n) ≡ Some why.Packet
  refuses_packet v n e = rw e refl

  -- .. or with a changed bit
  pub flips : (w w' : Kept State) (v : Seen) (n bit : ℕ) (way : Way) (bytes : List ℕ) → WorldStands service w v → Premises service v
      → at_number w.packets.ways n ≡ Some way → at_number w.packets.bytes n ≡ Some bytes → bit < 8 * length bytes
      → ((packet : Packet) → way ≡ way_along w.keys (wire_of packet) → ComesAs v packet (flipped bit bytes) → ReachesNext service (DeliveredAs service v packet (flipped bit bytes)) v w')
      → Advances service v (events.Flip n bit) w'
  flips w w' v n bit way bytes st p e f within brings =
      let x : Found (grammar_of v.profile) w.keys v.packets n way bytes = found (grammar_of v.profile) w.keys w.packets v.packets n way bytes st.packets e f in
      let wire : HasWireBy (grammar_of v.profile) x.packet = all_numbered (HasWireBy (grammar_of v.profile)) v.packets n x.packet p.wires x.is in
      let inside : bit < 8 * length (wire_by (grammar_of v.profile) x.packet).bytes = subst (λ b. bit < 8 * length b) x.spells within in
      let came : ComesAs v x.packet (flipped bit bytes) = subst (λ b. ComesAs v x.packet (flipped bit b)) (sym x.spells) (comes_changed service v x.packet bit wire inside) in
      let g : ReachesNext service (DeliveredAs service v x.packet (flipped bit (wire_by (grammar_of v.profile) x.packet).bytes)) v w' =
      subst (λ b. ReachesNext service (DeliveredAs service v x.packet (flipped bit b)) v w') x.spells (brings x.packet x.goes came) in
      let has : nat_le (8 * length (wire_by (grammar_of v.profile) x.packet).bytes) bit ≡ false = grind (arith, nat_tests) in
      record {
        happens = record { sent = g.sent; world = g.world; goes = (x.packet, x.is, record { wire = wire; within = inside; comes = g.goes }); stands = g.stands; grew = g.grew };
        allowed = ap (λ o. refusal_of_flip (grammar_of v.profile) o bit) x.is ∙ ap (λ b. cond b (Some why.Bit) None) has;
        scripted = no_move v (events.Flip n bit) g.sent g.world refl;
      }

  pub refuses_no_packet : (v : Seen) (n bit : ℕ) → packet_at v.packets n ≡ None → refusal v (events.Flip n bit) ≡ Some why.Packet
  refuses_no_packet v n bit e = ap (λ o. refusal_of_flip (grammar_of v.profile) o bit) e

  pub refuses_bit : (w : Kept State) (v : Seen) (n bit : ℕ) (way : Way) (bytes : List ℕ) → WorldStands service w v → at_number w.packets.ways n ≡ Some way → at_number w.packets.bytes n ≡ Some bytes
      → 8 * length bytes ≤ bit → refusal v (events.Flip n bit) ≡ Some why.Bit
  refuses_bit w v n bit way bytes st e f past =
      let x : Found (grammar_of v.profile) w.keys v.packets n way bytes = found (grammar_of v.profile) w.keys w.packets v.packets n way bytes st.packets e f in
      let outside : 8 * length (wire_by (grammar_of v.profile) x.packet).bytes ≤ bit = subst (λ b. 8 * length b ≤ bit) x.spells past in
      let has : nat_le (8 * length (wire_by (grammar_of v.profile) x.packet).bytes) bit ≡ true = grind (arith, nat_tests) in
      ap (λ o. refusal_of_flip (grammar_of v.profile) o bit) x.is ∙ ap (λ b. cond b (Some why.Bit) None) has
