-- A turn of a node in each stage, as those have it whom its input isn't about.
use Rattle.std.proofs.Common.{◌≡◌, ◌∙◌, ◌<◌, ◌^◌, ℕ, false, ◌&&◌, ◌==◌, refl, sym, ap, subst, Option, Some, None, MatchOption, List, [], ◌++◌, eq-eqb, if◌then◌else◌}
use Rattle.std.specs.List.{AllByRecursion}
use Rattle.std.proofs.lemmas.Bool.{and_parts}
use Rattle.ft_io.specs.declared.Key.{Key}
use Rattle.ft_io.specs.Key.{key_eq}
use Rattle.seq_arith.specs.Message.{Message}
use Rattle.seq_arith.specs.Packet.{Segment}
use Rattle.server_trait.specs.Service.{Machine}
use Rattle.seq_arith.specs.declared.kinds.Grammar.{Grammar}
use Rattle.tcp_rules.specs.Profile.{grammar_of}
use Rattle.ft_model.specs.Node as law
use Rattle.ft_model.specs.Lawful.{count_reported, summary_count, fetched_then}
use Rattle.ft_model.specs.Network.{source_of}
use Rattle.ft_model.specs.Node.{Node, is_for}
use Rattle.ft_model.specs.Restart.{wanted, fetched_after}
use Rattle.ft_model.specs.Node.Input.{Packet_comes, Message_comes, Noise_comes, Tick_comes}
use Rattle.ft_model.specs.ServingTurn.{concerns, names}
use Rattle.ft_model.specs.Wire.{Wire}
use Rattle.reincarnate.specs.Questions.{FetchingState}
use Rattle.node_serving.specs.declared.identity.Identity.{Identity}
use Rattle.node_serving.specs.declared.serving.Serving.{Serving}
use Rattle.server_node.specs.declared.stage.Stage.{Stage}
use Rattle.server_node.specs.declared.stage.Stage.TheVariants as stage
use Rattle.node_serving.specs.Alone.{IsForSubject, LeavesOthers, ServesAlone, GoAlone}
use Rattle.node_serving.specs.Clients.{Clients, known_after, Knows, KnowsOn}
use Rattle.server_node.specs.StageAlone.{HoldsOthers, Others, Alone, IsUntouched, KnowsTurn}
use Rattle.server_node.specs.Apart.{TurnsApart}
use Rattle.node_serving.specs.Identity.{node_of}
use Rattle.server_node.specs.Restarts.{Restarts, RestartGoes, MessageRestarts}
use Rattle.server_node.specs.Stages.{IsSoundStage}
use Rattle.node_serving.specs.Ownership.{IsFor, IsOnlyFor}
use Rattle.node_serving.proofs.MarkedApart.{rests_key}
use Rattle.node_serving.proofs.Knocking.{counted_by}
use Rattle.ft_model.proofs.Lists.{same_key, all_weaker}

module _ {S : Type 0} (service : Machine S) (node : Node) (input : law.Input) (was now : Serving S) (old new : List Wire) (first : old ≡ []) (s : ServesAlone service node input was now old new) where
  all_reported : new ≡ s.reported
  all_reported = s.put ∙ ap (λ o. o ++ s.reported) first

  pub serving_others : LeavesOthers node input was now new
  serving_others = subst (LeavesOthers node input was now) (sym all_reported) s.others

  pub serving_alone : GoAlone service node input was now new
  serving_alone = subst (GoAlone service node input was now) (sym all_reported) s.alone

pub only_for : (grammar : Grammar) (key : Key) (old new : List Wire) → old ≡ [] → IsOnlyFor grammar key old new → AllByRecursion (IsFor grammar key) new
only_for grammar key old new first put = subst (AllByRecursion (IsFor grammar key)) (sym (put.put ∙ ap (λ o. o ++ put.reported) first)) put.alone

-- a packet makes a node that serves send only what is its client's
pub only_its_senders : {S : Type 0} (node : Node) (segment : Segment) (was : Serving S) (now : Stage S) (sent : List Wire) → Others node (Packet_comes segment) (stage.Serving was) now sent
    → AllByRecursion (IsFor (grammar_of node.profile) (source_of segment)) sent
only_its_senders node segment was (stage.Serving now) sent others = all_weaker (IsForSubject node (Packet_comes segment)) (IsFor (grammar_of node.profile) (source_of segment)) sent one others.whose
  where
    one : (w : Wire) → IsForSubject node (Packet_comes segment) w → IsFor (grammar_of node.profile) (source_of segment) w
    one w (key, about, its) =
        subst (λ k. IsFor (grammar_of node.profile) k w) (sym (same_key (source_of segment) key (and_parts (is_for node.server segment) (key_eq (source_of segment) key) about).1)) its
only_its_senders node segment was (stage.Fetching f) sent others = absurd others
only_its_senders node segment was stage.Asking sent others = absurd others
only_its_senders node segment was (stage.Marked m) sent others = absurd others
only_its_senders node segment was stage.Lost sent others = absurd others

-- an input that is about no key changes nothing
noise_holds : {S : Type 0} (grammar : Grammar) (input : law.Input) (f : FetchingState S) → HoldsOthers grammar input f (stage.Fetching f) []
noise_holds grammar (Packet_comes segment) f = (refl, tt)
noise_holds grammar (Message_comes message) f = tt
noise_holds grammar Noise_comes f = tt
noise_holds grammar Tick_comes f = tt

pub rest_others : {S : Type 0} (node : Node) (input : law.Input) (at : Stage S) → Others node input at at []
rest_others node input (stage.Serving s) = record { slots = λ key e. refl; whose = tt }
rest_others node input (stage.Fetching f) = noise_holds (grammar_of node.profile) input f
rest_others node input stage.Asking = tt
rest_others node input (stage.Marked m) = tt
rest_others node input stage.Lost = tt

pub rest_alone : {S : Type 0} (service : Machine S) (who : Identity) (standing : law.Stage) (input : law.Input) (at : Stage S) → who.isn < 2 ^ 32 → IsSoundStage who at
    → ((key : Key) → concerns (node_of who standing) input key ≡ false) → Alone service (node_of who standing) input at at []
rest_alone service who standing input (stage.Serving s) low sound none = λ key place st near.
    let count = counted_by who.isn s.next.0 low sound.1 in
    rests_key service (node_of who standing) input key place s s [] count.0 count.1 (none key) st refl refl
rest_alone service who standing input (stage.Fetching f) low sound none = tt
rest_alone service who standing input stage.Asking low sound none = tt
rest_alone service who standing input (stage.Marked m) low sound none = tt
rest_alone service who standing input stage.Lost low sound none = tt

rest_untouched : {S : Type 0} (node : Node) (input : law.Input) (at : Stage S) → IsUntouched node input at at []
rest_untouched node input stage.Asking = λ nobody. (refl, refl)
rest_untouched node input (stage.Fetching f) = λ nobody. (refl, refl)
rest_untouched node input (stage.Serving s) = λ nobody. (refl, refl)
rest_untouched node input (stage.Marked m) = tt
rest_untouched node input stage.Lost = λ nobody. (refl, refl)

module _ {S : Type 0} (service : Machine S) (who : Identity) (input : law.Input) where
  -- a turn while it serves
  pub serving_apart : (was now : Serving S) (old new : List Wire) → old ≡ [] → ((standing : law.Stage) → ServesAlone service (node_of who standing) input was now old new)
      → ((standing : law.Stage) → IsUntouched (node_of who standing) input (stage.Serving was) (stage.Serving now) new)
      → ((standing : law.Stage) → Restarts service (node_of who standing) input (stage.Serving was) (stage.Serving now) new)
      → ((standing : law.Stage) → KnowsOn (node_of who standing) input was now)
      → TurnsApart service who input (stage.Serving was) (stage.Serving now) new
  serving_apart was now old new first alone untouched restarts known = record {
    others = λ standing. serving_others service (node_of who standing) input was now old new first (alone standing);
    untouched = untouched;
    alone = λ standing. serving_alone service (node_of who standing) input was now old new first (alone standing);
    restarts = restarts;
    known = known;
  }

  -- an input that is for no key leaves everything as it is
  pub rest_apart : (at : Stage S) → who.isn < 2 ^ 32 → IsSoundStage who at → ((standing : law.Stage) (key : Key) → concerns (node_of who standing) input key ≡ false)
      → ((standing : law.Stage) → Restarts service (node_of who standing) input at at []) → ((standing : law.Stage) → KnowsTurn (node_of who standing) input at at)
      → TurnsApart service who input at at []
  rest_apart at low sound none restarts known = record {
    others = λ standing. rest_others (node_of who standing) input at;
    untouched = λ standing. rest_untouched (node_of who standing) input at;
    alone = λ standing. rest_alone service who standing input at low sound (none standing);
    restarts = restarts;
    known = known;
  }

-- so does a message of another boot
pub other_boot : (node : Node) (message : Message) → (message.boot == node.boot) ≡ false → (key : Key) → concerns node (Message_comes message) key ≡ false
other_boot node message other key = ap (λ b. b && names message.body key) other

-- neither noise nor such a message opens anything, or ends an opening
pub noise_knows : {S : Type 0} (node : Node) (at : Stage S) → KnowsTurn node Noise_comes at at
noise_knows node (stage.Serving s) = λ clients k. k
noise_knows node (stage.Fetching f) = tt
noise_knows node stage.Asking = tt
noise_knows node (stage.Marked m) = tt
noise_knows node stage.Lost = tt

pub other_knows : {S : Type 0} (node : Node) (message : Message) (at : Stage S) → (message.boot == node.boot) ≡ false → KnowsTurn node (Message_comes message) at at
other_knows node message (stage.Serving s) other = λ clients k.
    let after : Clients = record { opened = clients.opened; known = known_after message.body clients.known } in
    subst (λ b. Knows node (if b then after else clients) s) (sym other) k
other_knows node message (stage.Fetching f) other = tt
other_knows node message stage.Asking other = tt
other_knows node message (stage.Marked m) other = tt
other_knows node message stage.Lost other = tt

-- where a message leads nothing on, nothing changes
rests_if_none : {X S : Type 0} (o : Option X) (was now : Stage S) (sent : List Wire) (Goes : X → Type 0) → o ≡ None → now ≡ was → sent ≡ []
    → MatchOption o ((now ≡ was) × (sent ≡ [])) Goes
rests_if_none o was now sent Goes none same silent = subst (λ x. MatchOption x ((now ≡ was) × (sent ≡ [])) Goes) (sym none) (same, silent)

module _ {S : Type 0} (service : Machine S) (node : Node) (message : Message) where
  -- a Summary begins a restart, ..
  pub begun_restarts : (count : ℕ) (now : Stage S) (sent : List Wire) → message.boot ≡ node.boot → summary_count message.body ≡ Some count → RestartGoes service node count [] now [] sent
      → MessageRestarts service node message stage.Asking now sent
  begun_restarts count now sent boot reported goes =
      subst (λ o. MatchOption o ((now ≡ stage.Asking) × (sent ≡ [])) (λ n. RestartGoes service node n [] now [] sent))
      (sym (ap (λ b. if b then summary_count message.body else None) (eq-eqb message.boot node.boot boot) ∙ reported)) goes

  -- .. any other message doesn't, ..
  pub unreported_restarts : (sent : List Wire) → message.boot ≡ node.boot → summary_count message.body ≡ None → sent ≡ [] → MessageRestarts service node message stage.Asking stage.Asking sent
  unreported_restarts sent boot unreported silent =
      rests_if_none (count_reported node message) stage.Asking stage.Asking sent (λ count. RestartGoes service node count [] stage.Asking [] sent)
      (ap (λ b. if b then summary_count message.body else None) (eq-eqb message.boot node.boot boot) ∙ unreported) refl silent

  -- .. and one of another boot leads no restart on
  pub other_restarts : (at : Stage S) → (message.boot == node.boot) ≡ false → MessageRestarts service node message at at []
  other_restarts stage.Asking other =
      rests_if_none (count_reported node message) stage.Asking stage.Asking [] (λ count. RestartGoes service node count [] stage.Asking [] [])
      (ap (λ b. if b then summary_count message.body else None) other) refl refl
  other_restarts (stage.Fetching f) other = λ count fetched st.
      rests_if_none (fetched_then node message count fetched) (stage.Fetching f) (stage.Fetching f) [] (λ more. RestartGoes service node count more (stage.Fetching f) [] [])
      (ap (λ b. if b then fetched_after (wanted count fetched) message.body fetched else None) other) refl refl
  other_restarts (stage.Serving s) other = tt
  other_restarts (stage.Marked m) other = tt
  other_restarts stage.Lost other = tt
