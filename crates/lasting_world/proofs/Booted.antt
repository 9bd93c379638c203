-- The server boots.
use Rattle.std.proofs.Common.{◌≡◌, ◌∙◌, ℕ, ◌<◌, nat_le, ap, subst, refl, arith, false, None, Some, List, [], ◌∷◌, map, is_some, if◌then◌else◌}
use Rattle.ft_io.proofs.Choices.{if_false}
use Rattle.seq_arith.specs.declared.kinds.Grammar.{Grammar}
use Rattle.server_trait.specs.Service.{Machine}
use Rattle.server_trait.specs.declared.Service.{Ghosts}
use Rattle.tcp_rules.specs.Profile.{grammar_of}
use Rattle.tcp_rules.specs.Profiles.{profile_of}
use Rattle.ft_model.specs.Lawful.{hello}
use Rattle.ft_model.specs.Legal.{machines}
use Rattle.ft_model.specs.Network.{Packet}
use Rattle.ft_model.specs.Node.{booted}
use Rattle.ft_model.specs.Wire.{wire_by}
use Rattle.ft_model.specs.declared.event.Event.TheVariants.{Boot}
use Rattle.ft_model.specs.declared.event.EventWhy.TheVariants as why
use Rattle.lasting_laws.specs.LastingLegal.{lasting_refusal}
use Rattle.lasting_laws.specs.LastingTurn as law
use Rattle.lasting_laws.specs.LastingTurn.{booted_to_last}
use Rattle.lasting_laws.specs.LastingWorld.{LastingHappens, grammar_in, with_sent}
use Rattle.lasting_laws.specs.LastingWorld.Parcel.{Usual}
use Rattle.node_serving.specs.Identity.{service_of, grammar_in as grammar_of_node}
use Rattle.node_serving.specs.declared.identity.Identity.{Identity}
use Rattle.lasting_node.specs.Turns.{LastingStands, sent_by}
use Rattle.lasting_node.specs.declared.node.LastingNode.{LastingNode as CodeNode}
use Rattle.lasting_world.specs.Sending.{wire_of_parcel}
use Rattle.lasting_world.specs.Steps.{KeepsSent, Does}
use Rattle.lasting_world.specs.WorldView.{KeptWorld, server_of}
use Rattle.lasting_world.proofs.Happenings.{node_there, is_high}
use Rattle.lasting_world.proofs.Served.{stored_next}

-- what the code boots with
abbrev pub identity_at : {S : Type 0} → KeptWorld S → (boot isn : ℕ) → Identity
identity_at before boot isn = record { boot = boot; isn = isn; kind = before.kind; local = before.server; profile = before.around.profile }

module _ {S : Type 0} (s : Ghosts S) (before mid after : KeptWorld S) (boot isn : ℕ) (now : CodeNode S s) where
  abbrev who : Identity
  who = identity_at before boot isn

  abbrev service : Machine S
  service = machines s.started s.after s.greeting before.kind

  pub boots : is_some before.node ≡ false → before.boot < boot → LastingStands (service_of s who) (booted_to_last before.server (profile_of before.around.profile) boot isn) now
      → sent_by now ≡ map (wire_by (grammar_of_node who)) (hello (booted before.server (profile_of before.around.profile) boot isn)) → (now.patience ≡ before.patience) × (now.node.who ≡ who)
      → mid ≡ record before { boot = boot; node = Some (server_of now) } → KeepsSent (sent_by now) mid after → Does service (Boot boot isn) before after
  boots down larger stands sent same mid_is keeps = λ w st fair.
      let up_is : is_some w.node ≡ false = node_there service before w st ∙ down in
      let high : nat_le boot w.boot ≡ false = is_high boot w.boot (omega (arith, larger, st.boot)) in
      let allowed : lasting_refusal w (Boot boot isn) ≡ None =
      if_false (is_some w.node) (Some why.Up) (if nat_le boot w.boot then Some why.Boot else None) up_is ∙ if_false (nat_le boot w.boot) (Some why.Boot) None high in
      let n : law.LastingNode = booted_to_last w.server w.profile boot isn in
      let n_is : booted_to_last before.server (profile_of before.around.profile) boot isn ≡ n = λ i. booted_to_last (st.server i) (st.around.profile i) boot isn in
      let packets : List Packet = hello (booted w.server w.profile boot isn) in
      let goes : LastingHappens service w (Boot boot isn) (map Usual packets) (with_sent (map Usual packets) (record w { boot = boot; node = Some n })) = (refl, refl) in
      let wires : sent_by now ≡ map (wire_of_parcel (grammar_in w)) (map Usual packets) =
      sent ∙ ((λ i. map (wire_by (grammar_of (st.around.profile i))) (hello (booted (st.server i) (st.around.profile i) boot isn))) ∙ usual_wires (grammar_in w) packets) in
      let there : LastingStands (service_of s who) n now = subst (λ m. LastingStands (service_of s who) m now) n_is stands in
      record {
        next = stored_next service (LastingHappens service w (Boot boot isn)) w n boot (map Usual packets) (server_of now) before mid after (sent_by now) st
            (record {
              kind_is = ap (λ (x : Identity). x.kind) same.1;
              profile_is = ap (λ (x : Identity). x.profile) same.1;
              patience_is = same.0;
              who = there.who;
              stage = there.stage;
              lives = there.lives;
              apart = there.apart;
            })
            wires ((fair allowed).written (map Usual packets) (with_sent (map Usual packets) (record w { boot = boot; node = Some n })) goes) mid_is keeps goes;
        allowed = allowed;
      }
    where
      usual_wires : (grammar : Grammar) (packets : List Packet) → map (wire_by grammar) packets ≡ map (wire_of_parcel grammar) (map Usual packets)
      usual_wires grammar [] = refl
      usual_wires grammar (p ∷ packets) = ap (λ l. wire_by grammar p ∷ l) (usual_wires grammar packets)
