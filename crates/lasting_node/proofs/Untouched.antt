-- What a turn by the law leaves as it is.
use Rattle.std.proofs.Common.{◌≡◌, ◌∙◌, true, refl, sym, ap, subst, true≢false, List, [], None, Some, MatchOption}
use Rattle.std.specs.Bool.{MatchBool}
use Rattle.server_trait.specs.Service.{Machine}
use Rattle.server_trait.specs.declared.Service.{Ghosts}
use Rattle.seq_arith.specs.Packet.{Segment}
use Rattle.ft_model.specs.Node.Input.{Packet_comes}
use Rattle.ft_model.specs.Wire.{Wire}
use Rattle.tcp_rules.specs.Profile.{grammar_of}
use Rattle.long_laws.specs.Forgetting.{ForgetMessage}
use Rattle.long_laws.specs.Quarantine.{is_dropped, taken_away}
use Rattle.lasting_laws.specs.Closing.{ended_by}
use Rattle.lasting_laws.specs.LastingTurn as law
use Rattle.lasting_laws.specs.LastingTurn.{GoesUsually, RestsLasting, EndsQuarantine, without_place}
use Rattle.lasting_laws.specs.LastingTurn.LastingInput.{Usual_comes, Forget_comes}
use Rattle.node_serving.specs.Identity.{service_of}
use Rattle.lasting_node.specs.declared.node.LastingNode.{LastingNode}
use Rattle.lasting_node.specs.Turns.{LastingStands, LastingTurns, LastingGoes, wires_of_sent}

module _ {S : Type 0} {s : Ghosts S} (was now : LastingNode S s) (n : law.LastingNode) (sent : List Wire) (st : LastingStands (service_of s was.node.who) n was) where
  abbrev service : Machine S
  service = service_of s was.node.who

  pub dropped_in_silence : (segment : Segment) → is_dropped was.patience.wait n.node.server (Packet_comes segment) n.quarantine ≡ true
      → LastingTurns (Usual_comes (Packet_comes segment)) was now sent → sent ≡ []
  dropped_in_silence segment drops turns =
      let g : LastingGoes service n (Usual_comes (Packet_comes segment)) was now sent =
      turns n (record { near = λ kept. absurd (true≢false (sym drops ∙ kept)); sound = tt; unfenced = refl }) st in
      let rests : RestsLasting n g.packets g.after =
      subst (λ b. MatchBool b (RestsLasting n g.packets g.after)
      (MatchOption (ended_by n.node.server n.ends (Packet_comes segment) n.quarantine) (GoesUsually service n (Packet_comes segment) g.packets g.after)
      (λ q. EndsQuarantine was.patience.wait n q g.packets g.after))) drops g.turn in
      g.wires ∙ ap (wires_of_sent (grammar_of n.node.profile)) rests.0

  pub untouched : (message : ForgetMessage) → taken_away (Some n.node) message n.quarantine ≡ None → LastingTurns (Forget_comes message) was now sent → LastingStands service n now
  untouched message none turns =
      let g : LastingGoes service n (Forget_comes message) was now sent = turns n tt st in
      subst (λ m. LastingStands service m now) (g.turn.1 ∙ ap (λ o. without_place o n) none) g.stands
