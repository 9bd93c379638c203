-- The server takes its turn, or boots: its new state corresponds to that of the definitions, and what it sends is stored.
use Rattle.std.proofs.Common.{◌≡◌, ◌∙◌, ℕ, sym, ap, subst, refl, Option, Some, None, List, [], ◌∷◌, ◌++◌, map, append-nil}
use Rattle.std.specs.List.{AllByRecursion}
use Rattle.seq_arith.specs.declared.kinds.Grammar.{Grammar}
use Rattle.server_trait.specs.Service.{Machine, machine}
use Rattle.server_trait.specs.declared.Service.{Ghosts}
use Rattle.tcp_rules.specs.Profile.{grammar_of}
use Rattle.tcp_rules.specs.Profiles.{profile_of}
use Rattle.ft_model.specs.Lawful.{fence}
use Rattle.ft_model.specs.Legal.{machines}
use Rattle.ft_model.specs.Network.{Packet}
use Rattle.ft_model.specs.Node.{Node}
use Rattle.ft_model.specs.Wire.{Wire, wire_by}
use Rattle.ft_model.proofs.Lists.{none_is_some}
use Rattle.long_laws.specs.Forgetting.{ForgetMessage}
use Rattle.lasting_laws.specs.LastingTurn as law
use Rattle.lasting_laws.specs.LastingTurn.{LastingInput, LastingTurn}
use Rattle.lasting_laws.specs.LastingTurn.LastingInput.{Usual_comes, Forget_comes}
use Rattle.lasting_laws.specs.LastingWorld.{Parcel, LastingWorld, ServerTurn, ServerMoves, grammar_in, parcels_of, with_sent}
use Rattle.lasting_laws.specs.LastingWorld.Parcel.{Usual, Forget_sent}
use Rattle.node_serving.specs.Identity.{service_of, grammar_in as grammar_of_node}
use Rattle.node_serving.specs.declared.identity.Identity.{Identity}
use Rattle.server_node.specs.Stages.{StageStands}
use Rattle.server_node.specs.declared.input.TurnEnd.TheVariants as ends
use Rattle.lasting_node.specs.Turns.{LastingStands, LastingTurns, LastingGoes, IsFairTo, IsFenceOfLasting, patience_of, sent_by, forget_wire, wires_of_sent}
use Rattle.lasting_node.specs.declared.node.LastingNode.{LastingNode as CodeNode}
use Rattle.lasting_unseen.specs.Written.{IsWritten}
use Rattle.lasting_world.specs.Around.{KeptAround, AroundStands}
use Rattle.lasting_world.specs.Sending.{wire_of_parcel, StoresAll, StoresWires}
use Rattle.lasting_world.specs.Stands.{ServerStands, NodeStands, WorldStands}
use Rattle.lasting_world.specs.Steps.{ReachesNext, KeepsSent, Serves}
use Rattle.lasting_world.specs.WorldView.{KeptServer, KeptWorld, server_of}

-- the surroundings don't see the server
pub around_another : (w : LastingWorld) (boot : ℕ) (node : Option law.LastingNode) (now : KeptAround) → AroundStands w now → AroundStands (record w { boot = boot; node = node }) now
around_another w boot up now s =
    record { profile = s.profile; guests = s.guests; turns = s.turns; log = s.log; ordered = s.ordered; gone = s.gone; network = s.network }

-- what is sent, as it is spelled
pub parcel_wires : (grammar : Grammar) (packets : List Packet) (messages : List ForgetMessage)
    → map (wire_by grammar) packets ++ map forget_wire messages ≡ map (wire_of_parcel grammar) (map Usual packets ++ map Forget_sent messages)
parcel_wires grammar [] [] = refl
parcel_wires grammar [] (m ∷ messages) = ap (λ l. forget_wire m ∷ l) (parcel_wires grammar [] messages)
parcel_wires grammar (p ∷ packets) messages = ap (λ l. wire_by grammar p ∷ l) (parcel_wires grammar packets messages)

-- the server has this state now, and what it sent is stored
pub stored_next : {S : Type 0} (service : Machine S) (Goes : List Parcel → LastingWorld → Type 0) (w : LastingWorld) (n : law.LastingNode) (boot : ℕ) (parcels : List Parcel) (now : KeptServer S)
    (before mid after : KeptWorld S) (wires : List Wire) → WorldStands service w before → ServerStands service before.kind before.around.profile before.patience n now
    → wires ≡ map (wire_of_parcel (grammar_in w)) parcels → AllByRecursion (IsWritten (grammar_in w)) parcels → mid ≡ record before { boot = boot; node = Some now } → KeepsSent wires mid after
    → Goes parcels (with_sent parcels (record w { boot = boot; node = Some n })) → ReachesNext service Goes before after
stored_next {S} service Goes w n boot parcels now before mid after wires st server spelled written mid_is keeps goes =
    let next : LastingWorld = record w { boot = boot; node = Some n } in
    let stores : StoresWires wires before.around after.around = subst (λ (m : KeptWorld S). StoresWires wires m.around after.around) mid_is keeps.stores in
    let a : StoresAll next parcels before.around after.around = stores next parcels (around_another w boot (Some n) before.around st.around) spelled written in
    let is : after ≡ record before { around = after.around; boot = boot; node = Some now } = keeps.rest ∙ ap (λ (m : KeptWorld S). record m { around = after.around }) mid_is in
    subst (ReachesNext service Goes before) (sym is) (record {
      parcels = parcels;
      world = with_sent parcels next;
      goes = goes;
      stands = record {
        server = st.server;
        patience = st.patience;
        around = a.stands;
        boot = refl;
        node = record {
          kind_is = server.kind_is;
          profile_is = server.profile_is ∙ sym a.profile;
          patience_is = server.patience_is;
          who = server.who;
          stage = server.stage;
          lives = server.lives;
          apart = server.apart;
        };
      };
      kind = refl;
      profile = a.profile;
      ways = a.ways;
    })

-- a server that is down does nothing
pub rests : {S : Type 0} (service : Machine S) (input : LastingInput) (before : KeptWorld S) → before.node ≡ None → Serves service input before before
rests {S} service input before down = λ w st fair written. by w st w.node refl (subst (NodeStands service before.kind before.around.profile before.patience w.node) down st.node)
  where
    by : (w : LastingWorld) → WorldStands service w before → (o : Option law.LastingNode) → w.node ≡ o → NodeStands service before.kind before.around.profile before.patience o None
        → ReachesNext service (ServerMoves service input w) before before
    by w st None e ns = record {
      parcels = [];
      world = w;
      goes = subst (λ o. ServerTurn service input o w [] w) (sym e) (refl, refl);
      stands = st;
      kind = refl;
      profile = refl;
      ways = sym (append-nil before.around.network.packets.ways);
    }
    by w st (Some n) e ns = absurd ns

-- a server that is up takes its turn
module _ {S : Type 0} (s : Ghosts S) (f : Grammar → LastingInput) (was : CodeNode S s) (before : KeptWorld S) (up : before.node ≡ Some (server_of was)) where
  abbrev service : Machine S
  service = machines s.started s.after s.greeting before.kind

  abbrev Stands : law.LastingNode → Type 0
  Stands n = ServerStands service before.kind before.around.profile before.patience n (server_of was)

  abbrev asked : LastingInput
  asked = f (grammar_of (profile_of before.around.profile))

  -- what is fair to it by the world's clocks and profile is so by its own
  fair_there : (w : LastingWorld) → WorldStands service w before → (n : law.LastingNode) → Stands n → IsFairTo service w.patience n asked
      → IsFairTo (service_of s was.node.who) (patience_of was.patience) n (f (grammar_of_node was.node.who))
  fair_there w st n server fair =
      subst (λ k. IsFairTo (machine (s.started k) s.after s.greeting) (patience_of was.patience) n (f (grammar_of_node was.node.who))) (sym server.kind_is)
      (subst (λ p. IsFairTo service (patience_of p) n (f (grammar_of_node was.node.who))) (sym server.patience_is)
      (subst (λ p. IsFairTo service p n (f (grammar_of_node was.node.who))) (sym st.patience)
      (subst (λ p. IsFairTo service w.patience n (f (grammar_of (profile_of p)))) (sym server.profile_is) fair)))

  turn_there : (w : LastingWorld) → WorldStands service w before → (n after : law.LastingNode) (sent : law.LastingSent) → Stands n
      → LastingTurn (service_of s was.node.who) (patience_of was.patience) n (f (grammar_of_node was.node.who)) sent after → LastingTurn service w.patience n asked sent after
  turn_there w st n after sent server turn =
      subst (λ p. LastingTurn service w.patience n (f (grammar_of (profile_of p))) sent after) server.profile_is
      (subst (λ p. LastingTurn service p n (f (grammar_of_node was.node.who)) sent after) st.patience
      (subst (λ p. LastingTurn service (patience_of p) n (f (grammar_of_node was.node.who)) sent after) server.patience_is
      (subst (λ k. LastingTurn (machine (s.started k) s.after s.greeting) (patience_of was.patience) n (f (grammar_of_node was.node.who)) sent after) server.kind_is turn)))

  stands_there : (n : law.LastingNode) → Stands n → LastingStands (service_of s was.node.who) n was
  stands_there n server = record {
    who = server.who;
    stage = subst (λ k. StageStands (machine (s.started k) s.after s.greeting) n.node was.node.stage) (sym server.kind_is) server.stage;
    lives = server.lives;
    apart = server.apart;
  }

  -- it is up in the definitions too
  when_up : (P : Type 0) (w : LastingWorld) → WorldStands service w before → ((n : law.LastingNode) → w.node ≡ Some n → Stands n → P) → P
  when_up P w st then_ = by w.node refl (subst (NodeStands service before.kind before.around.profile before.patience w.node) up st.node)
    where
      by : (o : Option law.LastingNode) → w.node ≡ o → NodeStands service before.kind before.around.profile before.patience o (Some (server_of was)) → P
      by None e ns = absurd ns
      by (Some n) e ns = then_ n e ns

  pub served : (now : CodeNode S s) (mid after : KeptWorld S) → mid ≡ record before { node = Some (server_of now) } → now.node.who ≡ was.node.who → now.patience ≡ was.patience
      → LastingTurns (f (grammar_of_node was.node.who)) was now (sent_by now) → KeepsSent (sent_by now) mid after → Serves service asked before after
  served now mid after mid_is who_is patience_is turns keeps = λ w st fair written.
      when_up (ReachesNext service (ServerMoves service asked w) before after) w st
      (λ n node_is server.
      let goes : LastingGoes (service_of s was.node.who) n (f (grammar_of_node was.node.who)) was now (sent_by now) =
      turns n (fair_there w st n server (fair n node_is)) (stands_there n server) in
      let parcels : List Parcel = parcels_of goes.packets in
      let moves : ServerMoves service asked w parcels (with_sent parcels (record w { node = Some goes.after })) =
      subst (λ o. ServerTurn service asked o w parcels (with_sent parcels (record w { node = Some goes.after }))) (sym node_is)
      (goes.after, goes.packets, turn_there w st n goes.after goes.packets server goes.turn, refl, refl) in
      let grammar_is : grammar_of n.node.profile ≡ grammar_in w = ap (λ (m : Node). grammar_of m.profile) server.who
      ∙ (ap (λ p. grammar_of (profile_of p)) server.profile_is ∙ ap grammar_of st.around.profile) in
      stored_next service (ServerMoves service asked w) w goes.after w.boot parcels (server_of now) before mid after (sent_by now) st
      (record {
        kind_is = ap (λ (x : Identity). x.kind) who_is ∙ server.kind_is;
        profile_is = ap (λ (x : Identity). x.profile) who_is ∙ server.profile_is;
        patience_is = patience_is ∙ server.patience_is;
        who = goes.stands.who;
        stage = subst (λ k. StageStands (machine (s.started k) s.after s.greeting) goes.after.node now.node.stage) server.kind_is goes.stands.stage;
        lives = goes.stands.lives;
        apart = goes.stands.apart;
      })
      (goes.wires ∙ (ap (λ g. wires_of_sent g goes.packets) grammar_is ∙ parcel_wires (grammar_in w) goes.packets.packets goes.packets.forgets))
      (written parcels (with_sent parcels (record w { node = Some goes.after })) moves)
      (mid_is ∙ ap (λ b. record before { boot = b; node = Some (server_of now) }) st.boot) keeps moves)

  -- nothing fences it
  pub never_fenced : (newer : ℕ) (after : KeptWorld S) → IsFenceOfLasting was.node.who (f (grammar_of_node was.node.who)) (ends.Fenced newer) → Serves service asked before after
  never_fenced newer after fenced = λ w st fair written.
      when_up (ReachesNext service (ServerMoves service asked w) before after) w st
      (λ n node_is server.
      absurd (against n server (service_of s was.node.who) (patience_of was.patience) (f (grammar_of_node was.node.who)) (fair_there w st n server (fair n node_is)) fenced))
    where
      against : (n : law.LastingNode) → Stands n → (m : Machine S) (p : law.Patience) (i : LastingInput) → IsFairTo m p n i → IsFenceOfLasting was.node.who i (ends.Fenced newer) → ⊥
      against n server m p (Usual_comes i) fair fenced = none_is_some newer (sym fair.unfenced ∙ (ap (λ (x : Node). fence x i) server.who ∙ fenced n.node.stage))
      against n server m p (Forget_comes message) fair fenced = fenced
