-- The numbers of the connections that a restart of a node that marks restores: those of a node without marks. Of an entry that begins at its mark, what is
-- below the mark counts as fetched.
use Rattle.std.specs.Prelude.{ℕ, nat_lt, Option, Some, None, option_map, List, []}
use Rattle.server_trait.specs.Service.{Machine}
use Rattle.ft_model.specs.Node.{Stage as law_stage}
use Rattle.ft_model.specs.Node.Input.{Message_comes}
use Rattle.ft_model.specs.Node.Stage.{Fetching}
use Rattle.ft_model.specs.Restart.{Fetched}
use Rattle.mark_laws.specs.MarkedNode.{Marker, MarkedNode, MarkedInput, so_far}
use Rattle.mark_laws.specs.MarkedNode.MarkedInput.{Plain_comes, Mark_comes}
use Rattle.mark_laws.specs.Restart.{FetchedSoFar, fetched_on, mark_reported, begun_on}
use Rattle.server_node.specs.declared.marked.MarkedStage.{MarkedStage}
use Rattle.server_node.specs.declared.marked.MarkedStage.TheVariants as marked
use Rattle.server_node.specs.declared.stage.Stage.{Stage}
use Rattle.server_node.specs.declared.stage.Stage.TheVariants as stage
use Rattle.server_node.specs.RestartNumbers.{AreNumbered}

abbrev pub entries_of : Option FetchedSoFar → List Fetched
entries_of (Some now) = now.entries
entries_of None = []

-- what is fetched once an input has come, while the log is fetched: by an answer of the log, or by a mark, below which there are these bytes and lengths
abbrev pub fetched_in_marked : {S : Type 0} → Marker S → (bytes lengths : List ℕ) → MarkedNode → (count : ℕ) → List Fetched → MarkedInput → List Fetched
fetched_in_marked by bytes lengths node count fetched (Plain_comes (Message_comes message)) =
    entries_of (fetched_on (nat_lt 0 by.every) node.plain.boot count message (so_far node fetched))
fetched_in_marked by bytes lengths node count fetched (Mark_comes message) =
    entries_of (option_map (λ m. begun_on bytes lengths (so_far node fetched)) (mark_reported by.writing node.plain.boot message (so_far node fetched)))
fetched_in_marked by bytes lengths node count fetched _ = []

abbrev pub fetched_by_marked : {S : Type 0} → Marker S → (bytes lengths : List ℕ) → MarkedNode → law_stage → MarkedInput → List Fetched
fetched_by_marked by bytes lengths node (Fetching count fetched) i = fetched_in_marked by bytes lengths node count fetched i
fetched_by_marked by bytes lengths node _ i = []

-- a node that serves has restored these entries under the numbers of a node without marks
abbrev pub AllNumberedAt : {S : Type 0} → Machine S → (isn : ℕ) → List Fetched → MarkedStage S → Type 0
AllNumberedAt service isn fetched (marked.Serving s) = AreNumbered service isn fetched s.slots.entries
AllNumberedAt service isn fetched _ = Unit {0}

abbrev pub AllNumberedMarked : {S : Type 0} → Machine S → (isn : ℕ) → List Fetched → Stage S → Type 0
AllNumberedMarked service isn fetched (stage.Marked node) = AllNumberedAt service isn fetched node.stage
AllNumberedMarked service isn fetched _ = Unit {0}
