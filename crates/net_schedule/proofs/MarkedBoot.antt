-- With marks: the start and the turn of a node, as its contract has them, are those of the definitions' server.
use Rattle.std.proofs.Common.{◌≡◌, ◌∙◌, sym, ap, subst, ℕ, ◌<◌, ◌≤◌, ◌^◌, true, Some, None, List, map}
use Rattle.server_trait.specs.declared.Service.{Ghosts}
use Rattle.tcp_rules.specs.Profile.{grammar_of}
use Rattle.tcp_rules.specs.Profiles.{profile_of}
use Rattle.tcp_rules.specs.declared.profile.Profile.{Profile}
use Rattle.ft_model.specs.Lawful.{hello}
use Rattle.ft_model.specs.Legal.{machines}
use Rattle.ft_model.specs.Node.{booted}
use Rattle.ft_model.specs.Wire.{Wire, wire_by}
use Rattle.ft_model.specs.declared.event.Event.TheVariants as events
use Rattle.mark_laws.specs.MarkedNode.{MarkedInput, booted_to_mark}
use Rattle.mark_laws.specs.MarkedWorld.{MarkedWorld, ServerMoves}
use Rattle.server_node.specs.declared.node.Node.{Node}
use Rattle.node_serving.specs.Markers.{Saving, marker_of}
use Rattle.conn_marks.specs.MarkSends.{outgoing_wire}
use Rattle.server_node.specs.MarkedTurns.{MarkedNodeStands, MarkedNodeTurns, MarkedNodeGoes, NodeStandsAt}
use Rattle.schedule_network.specs.StoredPackets.{with_wires}
use Rattle.net_schedule.specs.WorldView.{server_of}
use Rattle.net_schedule.specs.Refinement.{Kept, RunsWith}
use Rattle.net_schedule.specs.MarkedRefinement.{MarkedWorldStands, MarkedProceeds, MarkedAdvances, MarkedPremises, MayComeMarked, marker_for}
use Rattle.net_schedule.proofs.MarkedServer.{marked_boots, marked_goes_at, marker_is}

module _ {State : Type 0} (ghosts : Ghosts State) (saved : Saving State) (every : ℕ) where
  -- the server starts
  pub boots_marked : (w w' : Kept State) (v : MarkedWorld) (boot isn : ℕ) (n : Node State ghosts) (sent : List Wire) → saved.savable ≡ true
      → MarkedWorldStands (marker_for saved (machines ghosts.started ghosts.after ghosts.greeting) every w.kind) w v → w.node ≡ None → w.boot < boot → boot < 2 ^ 64
      → (1 ≤ w.every → MarkedNodeStands (marker_of ghosts saved n.who w.every) (booted_to_mark w.server (profile_of w.profile) boot isn) n)
      → sent ≡ map (wire_by (grammar_of (profile_of w.profile))) (hello (booted w.server (profile_of w.profile) boot isn)) → n.who ≡ record { boot = boot; isn = isn; kind = w.kind; local = w.server; profile = w.profile }
      → w' ≡ record w { packets = with_wires w.keys w.packets sent; boot = boot; node = Some (server_of n) }
      → MarkedAdvances (marker_for saved (machines ghosts.started ghosts.after ghosts.greeting) every w.kind) v (events.Boot boot isn) w'
  boots_marked w w' v boot isn n sent savable st is_down more fits stands hello_is who e =
      let kind : n.who.kind ≡ w.kind = ap (λ i. i.kind) who in
      let some : 1 ≤ w.every = subst (λ k. 1 ≤ k) (sym st.every) st.marks in
      let at : MarkedNodeStands (marker_of ghosts saved n.who every) (booted_to_mark w.server (profile_of w.profile) boot isn) n =
      subst (λ k. MarkedNodeStands (marker_of ghosts saved n.who k) (booted_to_mark w.server (profile_of w.profile) boot isn) n) st.every (stands some) in
      marked_boots (marker_for saved (machines ghosts.started ghosts.after ghosts.greeting) every w.kind) w w' v boot isn (server_of n) sent st is_down more fits kind (ap (λ i. i.profile) who) at.who
      (subst (λ b. NodeStandsAt b (booted_to_mark w.server (profile_of w.profile) boot isn) n.stage) (marker_is ghosts saved n.who every w.kind savable kind) at.stage) hello_is e

  -- .. and takes a turn
  pub serves_marked : (w w' : Kept State) (v : MarkedWorld) (input : Profile → MarkedInput) (was now : Node State ghosts) (sent : List Wire) → saved.savable ≡ true
      → MarkedWorldStands (marker_for saved (machines ghosts.started ghosts.after ghosts.greeting) every w.kind) w v
      → MarkedPremises (marker_for saved (machines ghosts.started ghosts.after ghosts.greeting) every w.kind) v → MayComeMarked v (input w.profile) → w.node ≡ Some (server_of was) → now.who ≡ was.who
      → MarkedNodeTurns saved (input was.who.profile) was now sent → w' ≡ record w { packets = with_wires w.keys w.packets sent; node = Some (server_of now) }
      → MarkedProceeds (marker_for saved (machines ghosts.started ghosts.after ghosts.greeting) every w.kind) (ServerMoves (marker_for saved (machines ghosts.started ghosts.after ghosts.greeting) every w.kind) (input w.profile) v) v w'
  serves_marked w w' v input was now sent savable st p comes up same turns e =
      let runs : was.who.profile ≡ w.profile = subst (RunsWith w.profile) up st.actors.runs in
      let by = marker_for saved (machines ghosts.started ghosts.after ghosts.greeting) every w.kind in
      subst (λ q. MarkedProceeds by (ServerMoves by (input q) v) v w') runs
      (marked_goes_at ghosts saved every w w' v (input was.who.profile) (server_of was) (server_of now) sent savable st p (subst (λ q. MayComeMarked v (input q)) (sym runs) comes) up same
      (λ node bytes lengths fair is stands.
      let g : MarkedNodeGoes (marker_of ghosts saved was.who every) bytes lengths node (input was.who.profile) now sent = turns every node bytes lengths fair (record { who = is; stage = stands }) in
      record {
        after = g.after;
        sent = g.sent;
        is = g.stands.who;
        stands = g.stands.stage;
        turn = g.turn;
        wires = g.wires ∙ ap (λ n. map (outgoing_wire (grammar_of n.profile)) g.sent) is ∙ ap (λ i. map (outgoing_wire (grammar_of (profile_of i.profile))) g.sent) (sym same);
      }) e)
