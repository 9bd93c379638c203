-- The turn of a node that marks, as those have it whom its input isn't about.
use Rattle.std.proofs.Common.{◌≡◌, ◌∙◌, ◌<◌, ◌^◌, ◌==◌, ℕ, true, false, true≢false, not, refl, sym, ap, subst, eq-eqb, List, []}
use Rattle.ft_io.specs.declared.Key.{Key}
use Rattle.seq_arith.specs.Packet.{Segment}
use Rattle.server_trait.specs.Service.{Machine}
use Rattle.seq_arith.specs.declared.kinds.Grammar.{Grammar}
use Rattle.tcp_rules.specs.Profile.{grammar_of}
use Rattle.ft_model.specs.Network.{source_of}
use Rattle.ft_model.specs.Node.{Node, Stage as law_stage, is_for}
use Rattle.ft_model.specs.Node.Input.{Packet_comes, Message_comes, Noise_comes, Tick_comes}
use Rattle.ft_model.specs.ServingTurn.{concerns}
use Rattle.ft_model.specs.Wire.{Wire}
use Rattle.ft_io.proofs.Booleans.{not_true}
use Rattle.mark_laws.specs.MarkedNode.{MarkedInput}
use Rattle.mark_laws.specs.MarkedNode.MarkedInput.{Plain_comes, Mark_comes}
use Rattle.reincarnate.specs.Questions.{FetchingState}
use Rattle.conn_marks.specs.KeyMarks.{KeyMarks}
use Rattle.node_serving.specs.declared.identity.Identity.{Identity}
use Rattle.node_serving.specs.declared.serving.Serving.{Serving}
use Rattle.server_node.specs.declared.marked.Marked.{Marked}
use Rattle.server_node.specs.declared.marked.MarkedStage.{MarkedStage}
use Rattle.server_node.specs.declared.marked.MarkedStage.TheVariants as marked
use Rattle.node_serving.specs.Identity.{node_of, grammar_in}
use Rattle.node_serving.specs.MarkedAlone.{GoesBesideMarks, plain_input}
use Rattle.node_serving.specs.Ownership.{IsOnlyFor}
use Rattle.server_node.specs.Marked.{IsSoundAt, IsSoundMarked}
use Rattle.server_node.specs.MarkedApart.{MarkedApart, OthersMarked, HoldsOthersMarked, is_for_nobody_marked}
use Rattle.node_serving.proofs.Among.{goes_unmarked, idle_alone}
use Rattle.node_serving.proofs.Knocking.{counted_by}
use Rattle.server_node.proofs.StagedApart.{only_for}

-- a message of this boot is for this node
pub heeded : {X : Type 0} (m n : ℕ) → m ≡ n → not (m == n) ≡ true → X
heeded m n same nobody = absurd (true≢false (sym nobody ∙ ap not (eq-eqb m n same)))

module _ {S : Type 0} (service : Machine S) (node : Node) (i : MarkedInput) where
  -- while it serves
  pub serving_beside : (was now : Serving S) (marks later : KeyMarks) (old sent : List Wire) → old ≡ [] → GoesBesideMarks service node i was now marks later old sent
      → (is_for_nobody_marked node i ≡ true → (now ≡ was) × (later ≡ marks) × (sent ≡ old))
      → MarkedApart service node i (record { stage = marked.Serving was; marks = marks }) (record { stage = marked.Serving now; marks = later }) sent
  serving_beside was now marks later old sent first g still = record {
    others = subst (λ l. GoesBesideMarks service node i was now marks later l sent) first g;
    untouched = λ nobody. let u = still nobody in ((λ j. record { stage = marked.Serving (u.0 j); marks = u.1 j }), u.2 ∙ first);
  }

  -- while it asks how many entries there are
  pub asking_beside : (marks : KeyMarks) (now : Marked S) (sent : List Wire)
      → (is_for_nobody_marked node i ≡ true → (now ≡ record { stage = marked.Asking; marks = marks }) × (sent ≡ []))
      → MarkedApart service node i (record { stage = marked.Asking; marks = marks }) now sent
  asking_beside marks now sent still = record { others = tt; untouched = still }

-- a message, a mark or a tick while it fetches
pub fetching_beside : {S : Type 0} (service : Machine S) (node : Node) (i : MarkedInput) (f : FetchingState S) (marks : KeyMarks) (now : Marked S) (sent : List Wire)
    → HoldsOthersMarked (grammar_of node.profile) i f marks now.stage now.marks sent → (is_for_nobody_marked node i ≡ false) → MarkedApart service node i (record { stage = marked.Fetching f; marks = marks }) now sent
fetching_beside service node i f marks now sent holds some = record { others = holds; untouched = λ nobody. absurd (true≢false (sym nobody ∙ some)) }

-- a packet then
pub held_beside : {S : Type 0} (service : Machine S) (node : Node) (segment : Segment) (f : FetchingState S) (marks : KeyMarks) (old sent : List Wire) → old ≡ [] → IsOnlyFor (grammar_of node.profile) (source_of segment) old sent
    → (is_for node.server segment ≡ false → sent ≡ old)
    → MarkedApart service node (Plain_comes (Packet_comes segment)) (record { stage = marked.Fetching f; marks = marks }) (record { stage = marked.Fetching f; marks = marks }) sent
held_beside service node segment f marks old sent first only silent =
    record { others = (refl, refl, only_for (grammar_of node.profile) (source_of segment) old sent first only); untouched = λ nobody. (refl, silent (not_true (is_for node.server segment) nobody) ∙ first) }

-- an input that is about no key leaves everything as it is
holds_still : {S : Type 0} (grammar : Grammar) (i : MarkedInput) (f : FetchingState S) (m : KeyMarks) → HoldsOthersMarked grammar i f m (marked.Fetching f) m []
holds_still grammar (Plain_comes (Packet_comes segment)) f m = (refl, refl, tt)
holds_still grammar (Plain_comes (Message_comes message)) f m = tt
holds_still grammar (Plain_comes Noise_comes) f m = tt
holds_still grammar (Plain_comes Tick_comes) f m = tt
holds_still grammar (Mark_comes message) f m = tt

others_still : {S : Type 0} (service : Machine S) (who : Identity) (standing : law_stage) (i : MarkedInput) (at : MarkedStage S) (m : KeyMarks) → who.isn < 2 ^ 32 → IsSoundAt who at
    → ((key : Key) → concerns (node_of who standing) (plain_input i) key ≡ false) → OthersMarked service (node_of who standing) i at m at m []
others_still service who standing i marked.Asking m low sound none = tt
others_still service who standing i (marked.Fetching f) m low sound none = holds_still (grammar_in who) i f m
others_still service who standing i (marked.Serving s) m low sound none =
    let count = counted_by who.isn s.next.0 low sound.1 in
    goes_unmarked service (node_of who standing) i s s m [] [] (idle_alone service (node_of who standing) (plain_input i) s count.0 count.1 none)

pub marked_still : {S : Type 0} (service : Machine S) (who : Identity) (standing : law_stage) (i : MarkedInput) (now : Marked S) (sent : List Wire) → sent ≡ [] → who.isn < 2 ^ 32 → IsSoundMarked who now
    → ((key : Key) → concerns (node_of who standing) (plain_input i) key ≡ false) → MarkedApart service (node_of who standing) i now now sent
marked_still service who standing i now sent silent low sound none =
    subst (MarkedApart service (node_of who standing) i now now) (sym silent)
    (record { others = others_still service who standing i now.stage now.marks low sound none; untouched = λ nobody. (refl, refl) })
