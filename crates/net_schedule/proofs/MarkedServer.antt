-- With marks: what the server's start, its turns and its end do to the code's world is what the definitions say of the world at which it stands.
use Rattle.std.proofs.Common.{◌≡◌, ◌∙◌, sym, ap, ap₂, subst, subst₂, refl, ℕ, ◌<◌, ◌≤◌, ◌^◌, nat_le, Bool, true, false, true≢false, is_some, Option, Some, None, option_map, List, [], ◌∷◌, ◌++◌, map, cond, arith}
use Rattle.std.proofs.lemmas.Bool.Decides.{nat_tests}
use Rattle.std.specs.Prelude.{IfSome, Result, Ok, Err}
use Rattle.seq_arith.specs.Mark.{MarkMessage}
use Rattle.seq_arith.specs.Message.{Message}
use Rattle.seq_arith.specs.MarkGrammar as marks
use Rattle.seq_arith.specs.MessageGrammar as messages
use Rattle.seq_arith.specs.PacketGrammar as segments
use Rattle.seq_arith.specs.declared.kinds.BadMsg.{BadMsg}
use Rattle.seq_arith.specs.declared.kinds.Grammar.{Grammar}
use Rattle.seq_arith.specs.declared.mark.BadMark.{BadMark}
use Rattle.ft_io.specs.declared.Key.{Key}
use Rattle.tcp_rules.specs.Profile.{grammar_of}
use Rattle.tcp_rules.specs.Profiles.{profile_of}
use Rattle.tcp_rules.specs.declared.profile.Profile.{Profile}
use Rattle.ft_model.specs.Lawful.{hello, fence}
use Rattle.ft_model.specs.Network.Packet.{To_server, To_client, To_logger, From_logger}
use Rattle.ft_model.specs.Node.{Stage, Input, booted}
use Rattle.ft_model.specs.Node.Stage.{Asking, Fetching, Serving, Fenced}
use Rattle.ft_model.specs.Node.Input.{Message_comes, Tick_comes}
use Rattle.ft_model.specs.Wire.{Wire, wire_by}
use Rattle.ft_model.specs.World.{segment_or_noise, message_or_noise}
use Rattle.ft_model.specs.declared.event.Event.{Event}
use Rattle.ft_model.specs.declared.event.Event.TheVariants as events
use Rattle.ft_model.specs.declared.event.EventWhy.TheVariants as why
use Rattle.ft_model.specs.declared.way.Way.{Way}
use Rattle.ft_model.specs.declared.way.Way.TheVariants.{ClientToServer, LoggerToServer}
use Rattle.ft_model.proofs.Lists.{none_is_some}
use Rattle.mark_laws.specs.Marking.{Outgoing}
use Rattle.mark_laws.specs.Marking.Outgoing.{Plain, Mark_to_logger}
use Rattle.mark_laws.specs.Restart.{mark_reported}
use Rattle.mark_laws.specs.MarkedLegal.{marked_refusal}
use Rattle.mark_laws.specs.MarkedNode.{Marker, MarkedNode, MarkedInput, LawfulMarkedTurn, booted_to_mark, so_far}
use Rattle.mark_laws.specs.MarkedNode.MarkedInput.{Plain_comes, Mark_comes}
use Rattle.mark_laws.specs.MarkedWorld.{Parcel, MarkedWorld, MarkedHappens, ServerMoves, ServerTurn, parcel_of, bytes_of, bytes_reported, lengths_reported, either_said, said_by, input_of, seen, ComesAs}
use Rattle.mark_laws.specs.MarkedWorld.Parcel.{Usual, Mark_sent, Mark_answered}
use Rattle.mark_laws.specs.Premises.{IsSoundMark, LeadsToSound}
use Rattle.server_trait.specs.declared.Service.{Ghosts}
use Rattle.ft_model.specs.Legal.{machines}
use Rattle.conn_marks.specs.KeyMarks.{every_for}
use Rattle.node_serving.specs.declared.identity.Identity.{Identity}
use Rattle.node_serving.specs.Identity.{node_of}
use Rattle.node_serving.specs.Markers.{Saving, marker_of}
use Rattle.conn_marks.specs.MarkSends.{outgoing_wire}
use Rattle.server_node.specs.MarkedTurns.{NodeStandsAt, IsFairTo, IsSoundStart, IsSoundBelow, marked_input_of}
use Rattle.server_node.specs.Inputs.{input_of as received_of}
use Rattle.server_node.specs.declared.input.Input.{Input as Receipt}
use Rattle.server_node.specs.declared.input.Input.TheVariants as inputs
use Rattle.schedule_network.specs.StoredPackets.{Carried, with_wires, way_along}
use Rattle.net_schedule.specs.Refinement.{Kept, Server, RunsWith}
use Rattle.net_schedule.specs.MarkedRefinement.{IsMarkedAt, MarkedNodeStands, MarkedWorldStands, MarkedProceeds, MarkedAdvances, MarkedPremises, MayComeMarked, MarkedComesAs, marker_for, way_of_parcel, stored_parcels}
use Rattle.net_schedule.proofs.Events.{no_move}
use Rattle.net_schedule.proofs.PacketStore.{ways_alike}
use Rattle.net_schedule.proofs.MarkedParcels.{parcels_after, usual_after, none_after}

-- what the server sends is stored as the definitions' parcels
out_ways : (grammar : Grammar) (keys : List Key) (out : List Outgoing) → map (way_along keys) (map (outgoing_wire grammar) out) ≡ map (way_of_parcel keys) (map parcel_of out)
out_ways grammar keys [] = refl
out_ways grammar keys (Plain packet ∷ out) = ap₂ (λ w ws. w ∷ ws) (ways_alike grammar keys packet) (out_ways grammar keys out)
out_ways grammar keys (Mark_to_logger message ∷ out) = ap (λ ws. way_along keys (outgoing_wire grammar (Mark_to_logger message)) ∷ ws) (out_ways grammar keys out)

out_bytes : (grammar : Grammar) (out : List Outgoing) → map (λ w. w.bytes) (map (outgoing_wire grammar) out) ≡ map (bytes_of grammar) (map parcel_of out)
out_bytes grammar [] = refl
out_bytes grammar (Plain packet ∷ out) = ap (λ bs. (wire_by grammar packet).bytes ∷ bs) (out_bytes grammar out)
out_bytes grammar (Mark_to_logger message ∷ out) = ap (λ bs. (outgoing_wire grammar (Mark_to_logger message)).bytes ∷ bs) (out_bytes grammar out)

abbrev pack : List Way → List (List ℕ) → Carried
pack ways bytes = record { ways = ways; bytes = bytes }

out_after : (grammar : Grammar) (keys : List Key) (kept : Carried) (xs : List Parcel) (out : List Outgoing) → kept ≡ stored_parcels grammar keys xs
    → with_wires keys kept (map (outgoing_wire grammar) out) ≡ stored_parcels grammar keys (xs ++ map parcel_of out)
out_after grammar keys kept xs out e =
    parcels_after grammar keys kept (with_wires keys kept (map (outgoing_wire grammar) out)) xs (map parcel_of out) e
    (ap (λ ws. pack (kept.ways ++ ws) (kept.bytes ++ map (λ w. w.bytes) (map (outgoing_wire grammar) out))) (out_ways grammar keys out)
    ∙ ap (λ bs. pack (kept.ways ++ map (way_of_parcel keys) (map parcel_of out)) (kept.bytes ++ bs)) (out_bytes grammar out))

-- the server is down in both worlds at once, and up
marked_down : {State : Type 0} (by : Marker State) (kind : ℕ) (s : Option (Server State)) (n : Option MarkedNode) → MarkedNodeStands by kind s n → s ≡ None → n ≡ None
marked_down by kind None None h e = refl
marked_down by kind (Some s) n h e = none_is_some s (sym e)
marked_down by kind None (Some n) h e = absurd h

record IsMarkedUp {State : Type 0} (by : Marker State) (kind : ℕ) (s : Server State) (n : Option MarkedNode) : Type 0 where
  node : MarkedNode
  up : n ≡ Some node
  at : IsMarkedAt by kind s node

marked_up : {State : Type 0} (by : Marker State) (kind : ℕ) (s : Server State) (n : Option MarkedNode) → MarkedNodeStands by kind (Some s) n → IsMarkedUp by kind s n
marked_up by kind s None h = absurd h
marked_up by kind s (Some node) h = record { node = node; up = refl; at = h }

both_marked_up : {State : Type 0} (by : Marker State) (kind : ℕ) (s : Option (Server State)) (n : Option MarkedNode) → MarkedNodeStands by kind s n → is_some s ≡ is_some n
both_marked_up by kind None None h = refl
both_marked_up by kind None (Some n) h = absurd h
both_marked_up by kind (Some s) None h = absurd h
both_marked_up by kind (Some s) (Some n) h = refl

is_up_seen : (n : Option MarkedNode) → is_some (option_map (λ (x : MarkedNode). x.plain) n) ≡ is_some n
is_up_seen None = refl
is_up_seen (Some node) = refl

if_some_weaker : {A : Type 0} (P Q : A → Type 0) (o : Option A) → ((x : A) → P x → Q x) → IfSome o P → IfSome o Q
if_some_weaker P Q None f h = tt
if_some_weaker P Q (Some x) f h = f x h

-- The premises of a turn are those that a trace guarantees
below_sound : {State : Type 0} (by : Marker State) (v : MarkedWorld) (node : MarkedNode) (message : MarkMessage) (stage : Stage) → IsSoundMark by v.log.log node message stage
    → IsSoundBelow by (bytes_reported v.log.log (Mark_comes message)) (lengths_reported v.log.log (Mark_comes message)) node stage (Mark_comes message)
below_sound by v node message (Fetching count fetched) h =
    if_some_weaker (LeadsToSound by v.log.log message.body (so_far node fetched))
    (IsSoundStart by (bytes_reported v.log.log (Mark_comes message)) (lengths_reported v.log.log (Mark_comes message)) (so_far node fetched))
    (mark_reported by.writing node.plain.boot message (so_far node fetched)) (λ m x. record { front = x.front; bytes_are = x.bytes; whole = x.whole }) h
below_sound by v node message Asking h = tt
below_sound by v node message (Serving opened places) h = tt
below_sound by v node message (Fenced newer) h = tt

nothing_below : {State : Type 0} (by : Marker State) (node : MarkedNode) (stage : Stage) (input : Input) → IsSoundBelow by [] [] node stage (Plain_comes input)
nothing_below by node (Fetching count fetched) input = tt
nothing_below by node Asking input = tt
nothing_below by node (Serving opened places) input = tt
nothing_below by node (Fenced newer) input = tt

fair : {State : Type 0} (by : Marker State) (v : MarkedWorld) (node : MarkedNode) (input : MarkedInput) → MarkedPremises by v → v.node ≡ Some node → MayComeMarked v input
    → IsFairTo by (bytes_reported v.log.log input) (lengths_reported v.log.log input) node input
fair by v node (Plain_comes input) p up comes =
    record { near = p.near node input up comes; sound = p.sound node input up comes; mark = λ some. nothing_below by node node.plain.stage input }
fair by v node (Mark_comes message) p up comes =
    record { near = tt; sound = tt; mark = λ some. below_sound by v node message node.plain.stage (p.marks comes.0 node up message comes.1) }

-- a larger boot fences it
abbrev pub IsFencedBy : MarkedNode → MarkedInput → Type 0
IsFencedBy node (Plain_comes input) = (newer : ℕ) × (fence node.plain input ≡ Some newer)
IsFencedBy node (Mark_comes message) = ⊥

-- a turn from an incarnation to the next, with what is then sent
pub record TurnsTo {State : Type 0} (by : Marker State) (bytes lengths : List ℕ) (node : MarkedNode) (input : MarkedInput) (now : Server State) (lent : List Wire) : Type 0 where
  pub after : MarkedNode
  pub sent : List Outgoing
  pub is : after.plain ≡ node_of now.who after.plain.stage
  pub stands : NodeStandsAt by after now.stage
  pub turn : LawfulMarkedTurn by bytes lengths node input sent after
  pub wires : lent ≡ map (outgoing_wire (grammar_of (profile_of now.who.profile))) sent

module _ {State : Type 0} (by : Marker State) where
  -- a lawful turn of the server
  pub marked_goes : (w w' : Kept State) (v : MarkedWorld) (input : MarkedInput) (s s' : Server State) (sent : List Wire) → MarkedWorldStands by w v → MarkedPremises by v → MayComeMarked v input
      → w.node ≡ Some s → s'.who ≡ s.who
      → ((node : MarkedNode) (bytes lengths : List ℕ) → IsFairTo by bytes lengths node input → node.plain ≡ node_of s.who node.plain.stage → NodeStandsAt by node s.stage
      → TurnsTo by bytes lengths node input s' sent)
      → w' ≡ record w { packets = with_wires w.keys w.packets sent; node = Some s' } → MarkedProceeds by (ServerMoves by input v) v w'
  marked_goes w w' v input s s' sent st p comes is_up same turn e' =
      let u : IsMarkedUp by w.kind s v.node = marked_up by w.kind s v.node (subst (λ o. MarkedNodeStands by w.kind o v.node) is_up st.node) in
      let its_profile : s'.who.profile ≡ w.profile = ap (λ i. i.profile) same ∙ subst (RunsWith w.profile) is_up st.actors.runs in
      let g : TurnsTo by (bytes_reported v.log.log input) (lengths_reported v.log.log input) u.node input s' sent =
      turn u.node (bytes_reported v.log.log input) (lengths_reported v.log.log input) (fair by v u.node input p u.up comes) u.at.is u.at.stands in
      subst (MarkedProceeds by (ServerMoves by input v) v) (sym e')
      (record {
        sent = map parcel_of g.sent;
        world = record v { node = Some g.after; parcels = v.parcels ++ map parcel_of g.sent };
        goes = subst (λ o. ServerTurn by input o v (map parcel_of g.sent) (record v { node = Some g.after; parcels = v.parcels ++ map parcel_of g.sent })) (sym u.up)
            (g.after, g.sent, g.turn, refl, refl);
        stands = record {
          actors = record { server = st.actors.server; profile = st.actors.profile; keys = st.actors.keys; clients = st.actors.clients; boot = st.actors.boot; runs = its_profile };
          node = record { kind_is = ap (λ i. i.kind) same ∙ u.at.kind_is; is = g.is; stands = g.stands };
          both = st.both;
          keepers = st.keepers;
          full_log = st.full_log;
          log = st.log;
          at = st.at;
          packets = ap (with_wires w.keys w.packets)
              (g.wires ∙ ap (λ p. map (outgoing_wire (grammar_of p)) g.sent) (ap profile_of its_profile ∙ st.actors.profile))
              ∙ out_after (grammar_of v.profile) w.keys w.packets v.parcels g.sent st.packets;
          every = st.every;
          marks = st.marks;
        };
        grew = refl;
      })

  -- nothing is sent, and only the server changes
  rests : (Goes : List Parcel → MarkedWorld → Type 0) (w w' : Kept State) (v : MarkedWorld) (node : Option MarkedNode) → MarkedWorldStands by w v → MarkedNodeStands by w.kind w'.node node → RunsWith w.profile w'.node
      → w' ≡ record w { node = w'.node } → Goes [] (record v { node = node; parcels = v.parcels ++ [] }) → MarkedProceeds by Goes v w'
  rests Goes w w' v node st at runs e goes =
      let keys : w'.keys ≡ w.keys = ap (λ k. k.keys) e in
      record {
        sent = [];
        world = record v { node = node; parcels = v.parcels ++ [] };
        goes = goes;
        stands = subst (λ k. MarkedWorldStands by k (record v { node = node; parcels = v.parcels ++ [] })) (sym e)
            (record {
              actors = record { server = st.actors.server; profile = st.actors.profile; keys = st.actors.keys; clients = st.actors.clients; boot = st.actors.boot; runs = runs };
              node = at;
              both = st.both;
              keepers = st.keepers;
              full_log = st.full_log;
              log = st.log;
              at = st.at;
              packets = none_after (grammar_of v.profile) w.keys w.packets v.parcels st.packets;
              every = st.every;
              marks = st.marks;
            });
        grew = refl;
      }

  -- a server that is down has no turn
  pub marked_rests : (w : Kept State) (v : MarkedWorld) (input : MarkedInput) → MarkedWorldStands by w v → w.node ≡ None → MarkedProceeds by (ServerMoves by input v) v w
  marked_rests w v input st is_down =
      let none : v.node ≡ None = marked_down by w.kind w.node v.node st.node is_down in
      rests (ServerMoves by input v) w w v v.node st st.node st.actors.runs refl
      (subst (λ o. ServerTurn by input o v [] (record v { parcels = v.parcels ++ [] })) (sym none) (refl, refl))

  -- nothing that may come fences it
  never_marked_fenced : {P : Type 0} (w : Kept State) (v : MarkedWorld) (input : MarkedInput) (s : Server State) → MarkedWorldStands by w v → MarkedPremises by v → MayComeMarked v input
      → w.node ≡ Some s → ((node : MarkedNode) → node.plain ≡ node_of s.who node.plain.stage → IsFencedBy node input) → P
  never_marked_fenced w v (Plain_comes input) s st p comes is_up fenced =
      let u : IsMarkedUp by w.kind s v.node = marked_up by w.kind s v.node (subst (λ o. MarkedNodeStands by w.kind o v.node) is_up st.node) in
      let f : (newer : ℕ) × (fence u.node.plain input ≡ Some newer) = fenced u.node u.at.is in
      none_is_some f.0 (sym (p.unfenced u.node input u.up comes) ∙ f.1)
  never_marked_fenced w v (Mark_comes message) s st p comes is_up fenced =
      let u : IsMarkedUp by w.kind s v.node = marked_up by w.kind s v.node (subst (λ o. MarkedNodeStands by w.kind o v.node) is_up st.node) in
      absurd (fenced u.node u.at.is)

  -- .. where the input depends on its profile, which is the world's
  pub never_marked_fenced_by : {P : Type 0} (w : Kept State) (v : MarkedWorld) (input : Profile → MarkedInput) (s : Server State) → MarkedWorldStands by w v → MarkedPremises by v
      → MayComeMarked v (input w.profile) → w.node ≡ Some s → ((node : MarkedNode) → node.plain ≡ node_of s.who node.plain.stage → IsFencedBy node (input s.who.profile)) → P
  never_marked_fenced_by w v input s st p comes is_up fenced =
      never_marked_fenced w v (input s.who.profile) s st p (subst (λ q. MayComeMarked v (input q)) (sym (subst (RunsWith w.profile) is_up st.actors.runs)) comes) is_up fenced

  -- the server starts
  pub marked_boots : (w w' : Kept State) (v : MarkedWorld) (boot isn : ℕ) (s : Server State) (sent : List Wire) → MarkedWorldStands by w v → w.node ≡ None → w.boot < boot → boot < 2 ^ 64
      → s.who.kind ≡ w.kind → s.who.profile ≡ w.profile → booted w.server (profile_of w.profile) boot isn ≡ node_of s.who Asking → NodeStandsAt by (booted_to_mark w.server (profile_of w.profile) boot isn) s.stage
      → sent ≡ map (wire_by (grammar_of (profile_of w.profile))) (hello (booted w.server (profile_of w.profile) boot isn))
      → w' ≡ record w { packets = with_wires w.keys w.packets sent; boot = boot; node = Some s } → MarkedAdvances by v (events.Boot boot isn) w'
  marked_boots w w' v boot isn s wires st is_down more fits kind runs who stands hello_is e' =
      let none : v.node ≡ None = marked_down by w.kind w.node v.node st.node is_down in
      let low : v.boot < boot = subst (λ n. n < boot) st.actors.boot more in
      let rises : nat_le boot v.boot ≡ false = grind (arith, nat_tests) in
      let said : wires ≡ map (wire_by (grammar_of v.profile)) (hello (booted v.server v.profile boot isn)) =
      subst₂ (λ a p. wires ≡ map (wire_by (grammar_of p)) (hello (booted a p boot isn))) st.actors.server st.actors.profile hello_is in
      let world : MarkedWorld = record v { boot = boot; node = Some (booted_to_mark v.server v.profile boot isn); parcels = v.parcels ++ map Usual (hello (booted v.server v.profile boot isn)) } in
      subst (MarkedAdvances by v (events.Boot boot isn)) (sym e')
      (record {
        happens = record {
          sent = map Usual (hello (booted v.server v.profile boot isn));
          world = record v { boot = boot; node = Some (booted_to_mark v.server v.profile boot isn); parcels = v.parcels ++ map Usual (hello (booted v.server v.profile boot isn)) };
          goes = (none, (low, fits), refl, refl);
          stands = record {
            actors = record { server = st.actors.server; profile = st.actors.profile; keys = st.actors.keys; clients = st.actors.clients; boot = refl; runs = runs };
            node = record {
              kind_is = kind;
              is = ap₂ (λ a x. booted a x boot isn) (sym st.actors.server) (sym st.actors.profile) ∙ who;
              stands = subst₂ (λ a x. NodeStandsAt by (booted_to_mark a x boot isn) s.stage) st.actors.server st.actors.profile stands;
            };
            both = st.both;
            keepers = st.keepers;
            full_log = st.full_log;
            log = st.log;
            at = st.at;
            packets = ap (with_wires w.keys w.packets) said ∙ usual_after (grammar_of v.profile) w.keys w.packets v.parcels (hello (booted v.server v.profile boot isn)) st.packets;
            every = st.every;
            marks = st.marks;
          };
          grew = refl;
        };
        allowed = rw none (rw rises refl);
        scripted = no_move (seen v) (events.Boot boot isn) _ (seen world) refl;
      })

  pub marked_refuses_up : (w : Kept State) (v : MarkedWorld) (boot isn : ℕ) → MarkedWorldStands by w v → is_some w.node ≡ true → marked_refusal v (events.Boot boot isn) ≡ Some why.Up
  marked_refuses_up w v boot isn st e =
      let is_up : is_some (option_map (λ (x : MarkedNode). x.plain) v.node) ≡ true = is_up_seen v.node ∙ (sym (both_marked_up by w.kind w.node v.node st.node) ∙ e) in
      ap (λ b. cond b (Some why.Up) (cond (nat_le boot v.boot) (Some why.Boot) None)) is_up

  pub marked_refuses_boot : (w : Kept State) (v : MarkedWorld) (boot isn : ℕ) → MarkedWorldStands by w v → is_some w.node ≡ false → boot ≤ w.boot
      → marked_refusal v (events.Boot boot isn) ≡ Some why.Boot
  marked_refuses_boot w v boot isn st e old =
      let is_down : is_some (option_map (λ (x : MarkedNode). x.plain) v.node) ≡ false = is_up_seen v.node ∙ (sym (both_marked_up by w.kind w.node v.node st.node) ∙ e) in
      let low : boot ≤ v.boot = subst (λ n. boot ≤ n) st.actors.boot old in
      let rises : nat_le boot v.boot ≡ true = grind (arith, nat_tests) in
      ap (λ b. cond b (Some why.Up) (cond (nat_le boot v.boot) (Some why.Boot) None)) is_down ∙ ap (λ b. cond b (Some why.Boot) None) rises

  -- the server goes down
  pub marked_crashes : (w w' : Kept State) (v : MarkedWorld) → MarkedWorldStands by w v → is_some w.node ≡ true → w' ≡ record w { node = None } → MarkedAdvances by v events.Crash w'
  unfolding rests
  marked_crashes w w' v st e e' =
      let is_up : is_some v.node ≡ true = sym (both_marked_up by w.kind w.node v.node st.node) ∙ e in
      let none : w'.node ≡ None = ap (λ k. k.node) e' in
      let world : MarkedWorld = record v { node = None; parcels = v.parcels ++ [] } in
      record {
        happens = rests (MarkedHappens by v events.Crash) w w' v None st (subst (λ o. MarkedNodeStands by w.kind o None) (sym none) tt)
            (subst (RunsWith w.profile) (sym none) tt) (e' ∙ ap (λ o. record w { node = o }) (sym none)) (is_up, refl, refl);
        allowed = ap (λ b. cond b None (Some why.Down)) (is_up_seen v.node ∙ is_up);
        scripted = no_move (seen v) events.Crash _ (seen world) refl;
      }

  pub marked_refuses_down : (w : Kept State) (v : MarkedWorld) (event : Event) → MarkedWorldStands by w v → is_some w.node ≡ false
      → marked_refusal v event ≡ cond (is_some (option_map (λ (x : MarkedNode). x.plain) v.node)) None (Some why.Down) → marked_refusal v event ≡ Some why.Down
  marked_refuses_down w v event st e r =
      r ∙ ap (λ b. cond b None (Some why.Down)) (is_up_seen v.node ∙ (sym (both_marked_up by w.kind w.node v.node st.node) ∙ e))

  -- a tick
  pub marked_ticks : (w w' : Kept State) (v : MarkedWorld) → MarkedWorldStands by w v → is_some w.node ≡ true → MarkedProceeds by (ServerMoves by (Plain_comes Tick_comes) v) v w'
      → MarkedAdvances by v events.Tick w'
  marked_ticks w w' v st e g =
      let is_up : is_some v.node ≡ true = sym (both_marked_up by w.kind w.node v.node st.node) ∙ e in
      record {
        happens = record { sent = g.sent; world = g.world; goes = (is_up, g.goes); stands = g.stands; grew = g.grew };
        allowed = ap (λ b. cond b None (Some why.Down)) (is_up_seen v.node ∙ is_up);
        scripted = no_move (seen v) events.Tick _ (seen g.world) refl;
      }

-- Bytes reach the addressee of a parcel that goes to the server
abbrev is_from_client : Way → Bool
is_from_client (ClientToServer number) = true
is_from_client _ = false

abbrev is_from_logger : Way → Bool
is_from_logger LoggerToServer = true
is_from_logger _ = false

pub segment_brought : {State : Type 0} (by : Marker State) (keys : List Key) (w' : Kept State) (v : MarkedWorld) (parcel : Parcel) (bytes : List ℕ) (number : ℕ)
    → ClientToServer number ≡ way_of_parcel keys parcel → MarkedComesAs v parcel bytes
    → (MayComeMarked v (Plain_comes (segment_or_noise (segments.reading bytes))) → MarkedProceeds by (ServerMoves by (Plain_comes (segment_or_noise (segments.reading bytes))) v) v w')
    → MarkedProceeds by (ComesAs by parcel bytes v) v w'
segment_brought by keys w' v (Usual (To_server segment)) bytes number way comes goes = goes comes
segment_brought by keys w' v (Usual (To_client segment)) bytes number way comes goes = absurd (true≢false (ap is_from_client way))
segment_brought by keys w' v (Usual (To_logger message)) bytes number way comes goes = absurd (true≢false (ap is_from_client way))
segment_brought by keys w' v (Usual (From_logger message)) bytes number way comes goes = absurd (true≢false (ap is_from_client way))
segment_brought by keys w' v (Mark_sent message) bytes number way comes goes = absurd (true≢false (ap is_from_client way))
segment_brought by keys w' v (Mark_answered message) bytes number way comes goes = absurd (true≢false (ap is_from_client way))

pub answer_brought : {State : Type 0} (by : Marker State) (keys : List Key) (w' : Kept State) (v : MarkedWorld) (parcel : Parcel) (bytes : List ℕ)
    → LoggerToServer ≡ way_of_parcel keys parcel → MarkedComesAs v parcel bytes
    → (MayComeMarked v (input_of (said_by (grammar_of v.profile) bytes)) → MarkedProceeds by (ServerMoves by (input_of (said_by (grammar_of v.profile) bytes)) v) v w') → MarkedProceeds by (ComesAs by parcel bytes v) v w'
answer_brought by keys w' v (Usual (From_logger message)) bytes way comes goes = goes comes
answer_brought by keys w' v (Mark_answered message) bytes way comes goes = goes comes
answer_brought by keys w' v (Usual (To_server segment)) bytes way comes goes = absurd (true≢false (ap is_from_logger way))
answer_brought by keys w' v (Usual (To_client segment)) bytes way comes goes = absurd (true≢false (ap is_from_logger way))
answer_brought by keys w' v (Usual (To_logger message)) bytes way comes goes = absurd (true≢false (ap is_from_logger way))
answer_brought by keys w' v (Mark_sent message) bytes way comes goes = absurd (true≢false (ap is_from_logger way))

-- What fences a server as it hears without marks fences it as it hears with them
fenced_so : (who : Identity) (newer : ℕ) (r : Result Message BadMsg) (q : Result MarkMessage BadMark) (node : MarkedNode) → node.plain ≡ node_of who node.plain.stage
    → ((standing : Stage) → fence (node_of who standing) (message_or_noise r) ≡ Some newer) → IsFencedBy node (input_of (either_said r q))
fenced_so who newer (Ok message) q node is fenced = (newer, ap (λ n. fence n (Message_comes message)) is ∙ fenced node.plain.stage)
fenced_so who newer (Err bad) (Ok mark) node is fenced = none_is_some newer (fenced node.plain.stage)
fenced_so who newer (Err bad) (Err worse) node is fenced = none_is_some newer (fenced node.plain.stage)

pub fenced_by : (grammar : Grammar) (who : Identity) (newer : ℕ) (input : Receipt) (node : MarkedNode) → node.plain ≡ node_of who node.plain.stage
    → ((standing : Stage) → fence (node_of who standing) (received_of grammar input) ≡ Some newer) → IsFencedBy node (marked_input_of grammar input)
fenced_by grammar who newer (inputs.Packet bytes) node is fenced = (newer, ap (λ n. fence n (segment_or_noise (segments.reading bytes.now))) is ∙ fenced node.plain.stage)
fenced_by grammar who newer (inputs.Message bytes) node is fenced = fenced_so who newer (messages.reading_by grammar bytes.now) (marks.reading bytes.now) node is fenced
fenced_by grammar who newer inputs.Tick node is fenced = (newer, ap (λ n. fence n Tick_comes) is ∙ fenced node.plain.stage)

-- The marker of a world's server is that of its incarnation, which runs the world's service
pub marker_is : {State : Type 0} (ghosts : Ghosts State) (saved : Saving State) (who : Identity) (every kind : ℕ) → saved.savable ≡ true → who.kind ≡ kind
    → marker_of ghosts saved who every ≡ marker_for saved (machines ghosts.started ghosts.after ghosts.greeting) every kind
marker_is ghosts saved who every kind savable same =
    ap (λ n. record (marker_of ghosts saved who every) { every = n }) (ap (λ b. every_for b every) savable)
    ∙ ap (λ k. marker_for saved (machines ghosts.started ghosts.after ghosts.greeting) every k) same

pub marked_goes_at : {State : Type 0} (ghosts : Ghosts State) (saved : Saving State) (every : ℕ) (w w' : Kept State) (v : MarkedWorld) (input : MarkedInput) (s s' : Server State) (sent : List Wire)
    → saved.savable ≡ true → MarkedWorldStands (marker_for saved (machines ghosts.started ghosts.after ghosts.greeting) every w.kind) w v
    → MarkedPremises (marker_for saved (machines ghosts.started ghosts.after ghosts.greeting) every w.kind) v → MayComeMarked v input → w.node ≡ Some s → s'.who ≡ s.who
    → ((node : MarkedNode) (bytes lengths : List ℕ) → IsFairTo (marker_of ghosts saved s.who every) bytes lengths node input → node.plain ≡ node_of s.who node.plain.stage
    → NodeStandsAt (marker_of ghosts saved s.who every) node s.stage → TurnsTo (marker_of ghosts saved s.who every) bytes lengths node input s' sent)
    → w' ≡ record w { packets = with_wires w.keys w.packets sent; node = Some s' }
    → MarkedProceeds (marker_for saved (machines ghosts.started ghosts.after ghosts.greeting) every w.kind) (ServerMoves (marker_for saved (machines ghosts.started ghosts.after ghosts.greeting) every w.kind) input v) v w'
marked_goes_at ghosts saved every w w' v input s s' sent savable st p comes is_up same turn e' =
    let by = marker_for saved (machines ghosts.started ghosts.after ghosts.greeting) every w.kind in
    let u : IsMarkedUp (marker_for saved (machines ghosts.started ghosts.after ghosts.greeting) every w.kind) w.kind s v.node =
    marked_up by w.kind s v.node (subst (λ o. MarkedNodeStands by w.kind o v.node) is_up st.node) in
    marked_goes by w w' v input s s' sent st p comes is_up same
    (subst
    (λ b. (node : MarkedNode) (bytes lengths : List ℕ) → IsFairTo b bytes lengths node input → node.plain ≡ node_of s.who node.plain.stage → NodeStandsAt b node s.stage
    → TurnsTo b bytes lengths node input s' sent)
    (marker_is ghosts saved s.who every w.kind savable u.at.kind_is) turn) e'
