-- The turns of a server that fetches.
use Rattle.std.proofs.Common.{◌≡◌, refl, sym, ap, subst, ℕ, Option, Some, None, List, [], if◌then◌else◌}
use Rattle.std.specs.Prelude.{Result, Ok, Err, IfOk, MatchOption}
use Rattle.std.proofs.lemmas.Bool.{eq-eqb}
use Rattle.seq_arith.specs.Message.{Message}
use Rattle.server_trait.specs.Service.{Machine}
use Rattle.ft_model.specs.Lawful.{Continues, Fetches, Rests, StageTurn, count_reported, fetched_then}
use Rattle.ft_model.specs.Node.{Node, Stage}
use Rattle.ft_model.specs.Node.Input.{Message_comes}
use Rattle.ft_model.specs.Node.Stage.{Asking, Fetching, Serving}
use Rattle.ft_model.specs.Restart.{Fetched, wanted, fetched_after}
use Rattle.ft_model.specs.Wire.{Wire}
use Rattle.plain_world.specs.declared.incarnation.Incarnation.{Incarnation}
use Rattle.plain_world.specs.declared.serving.Serving.{Serving as serving_type}
use Rattle.plain_world.specs.Restored.{AreRestored, stage_then}
use Rattle.plain_world.specs.NodeTurns.{SendsBy}
use Rattle.plain_world.specs.Values.{node_of, places_in}
use Rattle.plain_world.proofs.Places.{sends_nothing, sends_as}

-- where nothing is wanted, the restored entries are the places
pub serves_now : {S : Type 0} (service : Machine S) (node : Node) (count : ℕ) (fetched : List Fetched) (now : serving_type S) (old new : List Wire) → wanted count fetched ≡ None
    → AreRestored service node fetched now old new → SendsBy (Fetches service node count fetched (Serving now.opened (places_in now.places.items))) old new
serves_now service node count fetched now old new none is = record {
  sent = is.go.sent;
  lawful = subst (λ w. Continues service node count fetched w (Serving now.opened (places_in now.places.items)) is.go.sent) (sym none)
      (places_in now.places.items, ap (λ n. Serving n (places_in now.places.items)) is.opened, is.go.lawful);
  packets = is.go.packets;
}

then_of : (node : Node) (message : Message) (count : ℕ) (fetched : List Fetched) (o : Option (List Fetched)) → message.boot ≡ node.boot
    → fetched_after (wanted count fetched) message.body fetched ≡ o → fetched_then node message count fetched ≡ o
then_of node message count fetched o e h =
    subst (λ b. (if b then fetched_after (wanted count fetched) message.body fetched else None) ≡ o) (sym (eq-eqb message.boot node.boot e)) h

-- an answer that doesn't fit is dropped
pub dropped : {S : Type 0} (service : Machine S) (node : Node) (message : Message) (count : ℕ) (fetched : List Fetched) (wires : List Wire) → message.boot ≡ node.boot
    → fetched_after (wanted count fetched) message.body fetched ≡ None
    → SendsBy (StageTurn service node (Fetching count fetched) (Message_comes message) (Fetching count fetched)) wires wires
dropped service node message count fetched wires e none =
    sends_nothing (StageTurn service node (Fetching count fetched) (Message_comes message) (Fetching count fetched)) wires
    (subst (λ o. MatchOption o (Rests (Fetching count fetched) (Fetching count fetched) []) (λ more. Fetches service node count more (Fetching count fetched) []))
    (sym (then_of node message count fetched None e none)) (refl, refl))

fits : {S : Type 0} (service : Machine S) (node : Node) (message : Message) (count : ℕ) (fetched more : List Fetched) (after : Stage) (old new : List Wire)
    → message.boot ≡ node.boot → fetched_after (wanted count fetched) message.body fetched ≡ Some more → SendsBy (Fetches service node count more after) old new
    → SendsBy (StageTurn service node (Fetching count fetched) (Message_comes message) after) old new
fits service node message count fetched more after old new e some h =
    sends_as (Fetches service node count more after) (StageTurn service node (Fetching count fetched) (Message_comes message) after) old new
    (λ sent l. subst (λ o. MatchOption o (Rests (Fetching count fetched) after sent) (λ now. Fetches service node count now after sent))
    (sym (then_of node message count fetched (Some more) e some)) l)
    h

-- one that fits is taken
pub fetched_turns : {S E : Type 0} (service : Machine S) (who : Incarnation) (message : Message) (count : ℕ) (fetched more now : List Fetched)
    (r : Result (Option (serving_type S)) E) (old new : List Wire) → message.boot ≡ who.boot → fetched_after (wanted count fetched) message.body fetched ≡ Some more
    → IfOk r (λ serving. (stage : Stage) → SendsBy (Fetches service (node_of who stage) count more (stage_then serving count now)) old new)
    → IfOk r (λ serving. (stage : Stage) → SendsBy (StageTurn service (node_of who stage) (Fetching count fetched) (Message_comes message) (stage_then serving count now)) old new)
fetched_turns service who message count fetched more now (Ok serving) old new e some h =
    λ stage. fits service (node_of who stage) message count fetched more (stage_then serving count now) old new e some (h stage)
fetched_turns service who message count fetched more now (Err end) old new e some h = tt

-- a Summary of this boot
pub count_is_reported : {S : Type 0} (service : Machine S) (node : Node) (message : Message) (count : ℕ) (after : Stage) (old new : List Wire) → Some count ≡ count_reported node message
    → SendsBy (Fetches service node count [] after) old new → SendsBy (StageTurn service node Asking (Message_comes message) after) old new
count_is_reported service node message count after old new reported h =
    sends_as (Fetches service node count [] after) (StageTurn service node Asking (Message_comes message) after) old new
    (λ sent l. subst (λ o. MatchOption o (Rests Asking after sent) (λ n. Fetches service node n [] after sent)) reported l) h

-- any other message
pub no_count_is_reported : {S : Type 0} (service : Machine S) (node : Node) (message : Message) (wires : List Wire) → None ≡ count_reported node message
    → SendsBy (StageTurn service node Asking (Message_comes message) Asking) wires wires
no_count_is_reported service node message wires reported =
    sends_nothing (StageTurn service node Asking (Message_comes message) Asking) wires
    (subst (λ o. MatchOption o (Rests Asking Asking []) (λ n. Fetches service node n [] Asking [])) reported (refl, refl))
