-- The turns of a node, by its stage.
use Rattle.std.proofs.Common.{◌≡◌, ◌∙◌, ℕ, ◌+◌, Bool, true, false, ◌&&◌, ◌==◌, refl, sym, ap, subst, List, [], ◌∷◌, length, None, Option, if◌then◌else◌}
use Rattle.std.specs.Prelude.{MatchOption}
use Rattle.ft_io.specs.declared.Key.{Key}
use Rattle.server_trait.specs.Service.{Machine}
use Rattle.seq_arith.specs.Message.{Message}
use Rattle.ft_model.specs.Network.{Packet}
use Rattle.ft_model.specs.Restart.{Fetched, wanted, fetched_after}
use Rattle.ft_model.specs.Node as law
use Rattle.ft_model.specs.Node.{Stage as law_stage}
use Rattle.ft_model.specs.Node.Place.{Opens, Lives, Ended}
use Rattle.ft_model.specs.Node.Input.{Message_comes, Noise_comes}
use Rattle.ft_model.specs.Lawful.{fence, newer_than, summary_count, is_fenced, Fetches, Rests, NodeTurn, StageTurn}
use Rattle.ft_model.specs.ServingTurn.{newcomers, names}
use Rattle.ft_model.specs.Wire.{Wire}
use Rattle.reincarnate.specs.Questions.{FetchingState}
use Rattle.node_serving.specs.declared.identity.Identity.{Identity}
use Rattle.node_serving.specs.declared.serving.Serving.{Serving}
use Rattle.node_serving.specs.declared.slot.Slot.{Slot}
use Rattle.node_serving.specs.declared.slot.Slot.TheVariants as slot
use Rattle.server_node.specs.declared.stage.Stage.{Stage}
use Rattle.server_node.specs.declared.stage.Stage.TheVariants as stage
use Rattle.node_serving.specs.Identity.{node_of, grammar_in}
use Rattle.node_serving.specs.Openings.{ArePut, all_opens}
use Rattle.server_node.specs.FetchStage.{FetchingStands}
use Rattle.node_serving.specs.ServingStage.{ServingStands, ServingGoes}
use Rattle.node_serving.specs.Slots.{SlotStands, AllStand}
use Rattle.server_node.specs.RestartNumbers.{AreNumbered, fetched_by}
use Rattle.server_node.specs.Stages.{StageStands, NodeGoes}
use Rattle.node_serving.proofs.OneKey.{none_concerned}
use Rattle.node_serving.proofs.Opens.{put_none}
use Rattle.node_serving.proofs.Served.{known_goes, message_goes}

module _ {S : Type 0} (service : Machine S) (who : Identity) where
  -- a slot stands at its place in every stage of the node
  slot_again : (a b : law.Stage) (key : Key) (s : Slot S) (place : law.Place) → SlotStands service (node_of who a) key s place → SlotStands service (node_of who b) key s place
  slot_again a b key (slot.Pending o) (Opens n timestamping) st = st
  slot_again a b key (slot.Live c) (Lives p) st = st
  slot_again a b key slot.Done (Ended k) st = st
  slot_again a b key (slot.Pending o) (Lives p) st = absurd st
  slot_again a b key (slot.Pending o) (Ended k) st = absurd st
  slot_again a b key (slot.Live c) (Opens n timestamping) st = absurd st
  slot_again a b key (slot.Live c) (Ended k) st = absurd st
  slot_again a b key slot.Done (Opens n timestamping) st = absurd st
  slot_again a b key slot.Done (Lives p) st = absurd st

  pub stand_again : (a b : law.Stage) (es : List (Key × Slot S)) (places : List law.Place) → AllStand service (node_of who a) es places → AllStand service (node_of who b) es places
  stand_again a b [] [] st = st
  stand_again a b [] (q ∷ qs) st = absurd st
  stand_again a b (e ∷ es) [] st = absurd st
  stand_again a b (e ∷ es) (q ∷ qs) st = (slot_again a b e.0 e.1 q st.0, stand_again a b es qs st.1)

  -- a turn while it serves
  pub serves_on : (standing : law.Stage) (input : law.Input) (was now : Serving S) (reported : List Wire) → fence (node_of who standing) input ≡ None
      → StageStands service (node_of who standing) (stage.Serving was)
      → ((opened : ℕ) (places : List law.Place) → standing ≡ law_stage.Serving opened places → ServingStands service (node_of who standing) opened places was
      → ServingGoes service (node_of who standing) input opened places now [] reported)
      → NodeGoes service (node_of who standing) input who (stage.Serving now) reported
  serves_on standing input was now reported unfenced (opened, places, is, st) goes =
      let g = goes opened places is st in
      let next = opened + length (newcomers (node_of who standing) input opened places) in
      let after : law.Stage = law_stage.Serving next g.later in record {
        after = after;
        packets = g.packets;
        stands = (next, g.later, refl, record { number = g.stands.number; slots = stand_again standing after now.slots.entries g.later g.stands.slots });
        turn = record {
          server = refl;
          profile = refl;
          boot = refl;
          isn = refl;
          live = ap is_fenced is;
          stage = subst (λ o. NodeTurn service (node_of who standing) input o after g.packets) (sym unfenced)
              (subst (λ s. StageTurn service (node_of who standing) s input after g.packets) (sym is) (g.later, refl, g.turn));
        };
        numbers = subst (λ s. AreNumbered service who.isn (fetched_by (node_of who standing) s input) now.slots.entries) (sym is) tt;
        wires = g.wires;
        spelled = g.spelled;
      }

  -- one while it asks for the log
  pub asks_on : (standing : law.Stage) (input : law.Input) (packets : List Packet) (reported : List Wire) → standing ≡ law_stage.Asking → fence (node_of who standing) input ≡ None
      → StageTurn service (node_of who standing) law_stage.Asking input law_stage.Asking packets → ArePut (grammar_in who) packets [] reported
      → NodeGoes service (node_of who standing) input who stage.Asking reported
  asks_on standing input packets reported is unfenced turn put = record {
    after = law_stage.Asking;
    packets = packets;
    stands = refl;
    turn = record {
      server = refl;
      profile = refl;
      boot = refl;
      isn = refl;
      live = ap is_fenced is;
      stage = subst (λ o. NodeTurn service (node_of who standing) input o law_stage.Asking packets) (sym unfenced)
          (subst (λ s. StageTurn service (node_of who standing) s input law_stage.Asking packets) (sym is) turn);
    };
    numbers = tt;
    wires = put.wires;
    spelled = put.spelled;
  }

  -- one in which no more is fetched
  pub fetches_on : (standing : law.Stage) (input : law.Input) (count : ℕ) (fetched : List Fetched) (f : FetchingState S) (packets : List Packet) (reported : List Wire)
      → standing ≡ law_stage.Fetching count fetched → fence (node_of who standing) input ≡ None → FetchingStands service count fetched f
      → StageTurn service (node_of who standing) (law_stage.Fetching count fetched) input (law_stage.Fetching count fetched) packets → ArePut (grammar_in who) packets [] reported
      → NodeGoes service (node_of who standing) input who (stage.Fetching f) reported
  fetches_on standing input count fetched f packets reported is unfenced st turn put =
      let after : law.Stage = law_stage.Fetching count fetched in record {
        after = after;
        packets = packets;
        stands = (count, fetched, refl, st);
        turn = record {
          server = refl;
          profile = refl;
          boot = refl;
          isn = refl;
          live = ap is_fenced is;
          stage = subst (λ o. NodeTurn service (node_of who standing) input o after packets) (sym unfenced)
              (subst (λ s. StageTurn service (node_of who standing) s input after packets) (sym is) turn);
        };
        numbers = tt;
        wires = put.wires;
        spelled = put.spelled;
      }

  -- noise changes nothing
  pub noise_rests : (standing : law.Stage) (at : Stage S) → StageStands service (node_of who standing) at → NodeGoes service (node_of who standing) Noise_comes who at []
  noise_rests standing stage.Asking st = asks_on standing Noise_comes [] [] st refl (refl, refl) (put_none (grammar_in who) [])
  noise_rests standing (stage.Fetching f) (count, fetched, is, st) = fetches_on standing Noise_comes count fetched f [] [] is refl st (refl, refl) (put_none (grammar_in who) [])
  noise_rests standing (stage.Serving s) st = serves_on standing Noise_comes s s [] refl st
      (λ opened places is stands. known_goes service (node_of who standing) Noise_comes opened places s [] [] [] refl refl stands.number
      (none_concerned service (node_of who standing) Noise_comes s.slots.entries places [] (λ k. refl) stands.slots)
      (subst (λ ps. ArePut (grammar_in who) ps [] []) (sym (none_asked s.slots.entries)) (put_none (grammar_in who) [])))
    where
      none_asked : (es : List (Key × Slot S)) → all_opens (node_of who standing) Noise_comes es ≡ []
      none_asked [] = refl
      none_asked ((k, slot.Pending o) ∷ es) = none_asked es
      none_asked ((k, slot.Live c) ∷ es) = none_asked es
      none_asked ((k, slot.Done) ∷ es) = none_asked es
  noise_rests standing (stage.Marked m) st = absurd st
  noise_rests standing stage.Lost st = absurd st

  no_fence : (standing : law.Stage) (message : Message) → (message.boot == who.boot) ≡ false → fence (node_of who standing) (Message_comes message) ≡ None
  no_fence standing message other = ap (λ b. if b then newer_than who.boot message.body else None) other

  -- nor does a message of another boot
  pub others_message : (standing : law.Stage) (at : Stage S) (message : Message) → (message.boot == who.boot) ≡ false → StageStands service (node_of who standing) at
      → NodeGoes service (node_of who standing) (Message_comes message) who at []
  others_message standing stage.Asking message other st = asks_on standing (Message_comes message) [] [] st (no_fence standing message other)
      (subst (λ o. MatchOption o (Rests law_stage.Asking law_stage.Asking []) (λ count. Fetches service (node_of who standing) count [] law_stage.Asking []))
      (sym (ap (λ b. if b then summary_count message.body else None) other)) (refl, refl)) (put_none (grammar_in who) [])
  others_message standing (stage.Fetching f) message other (count, fetched, is, st) = fetches_on standing (Message_comes message) count fetched f [] [] is (no_fence standing message other) st
      (subst (λ o. MatchOption o (Rests (law_stage.Fetching count fetched) (law_stage.Fetching count fetched) []) (λ more. Fetches service (node_of who standing) count more (law_stage.Fetching count fetched) []))
      (sym (ap (λ b. if b then fetched_after (wanted count fetched) message.body fetched else None) other)) (refl, refl)) (put_none (grammar_in who) [])
  others_message standing (stage.Serving s) message other st = serves_on standing (Message_comes message) s s [] (no_fence standing message other) st
      (λ opened places is stands. message_goes service (node_of who standing) message opened places s [] [] stands.number
      (none_concerned service (node_of who standing) (Message_comes message) s.slots.entries places [] (λ k. ap (λ b. b && names message.body k) other) stands.slots))
  others_message standing (stage.Marked m) message other st = absurd st
  others_message standing stage.Lost message other st = absurd st

  -- nor does another message than a Summary, while it asks
  pub unanswered : (standing : law.Stage) (message : Message) → summary_count message.body ≡ None → standing ≡ law_stage.Asking → fence (node_of who standing) (Message_comes message) ≡ None
      → NodeGoes service (node_of who standing) (Message_comes message) who stage.Asking []
  unanswered standing message other is unfenced = asks_on standing (Message_comes message) [] [] is unfenced
      (subst (λ o. MatchOption o (Rests law_stage.Asking law_stage.Asking []) (λ count. Fetches service (node_of who standing) count [] law_stage.Asking []))
      (sym (ap (λ o. if message.boot == who.boot then o else None) other ∙ nothing (message.boot == who.boot))) (refl, refl)) (put_none (grammar_in who) [])
    where
      nothing : (b : Bool) → (let o : Option ℕ = if b then None else None in o) ≡ None
      nothing true = refl
      nothing false = refl
