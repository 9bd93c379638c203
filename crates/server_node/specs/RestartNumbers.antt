-- The numbers of the connections that a restart restores: each inner TCP has an initial sequence number of its own, of this incarnation.
use Rattle.std.specs.Prelude.{◌≡◌, ℕ, false, Option, Some, None, unwrap_or, List, [], ◌∷◌}
use Rattle.std.specs.Map.{lookup}
use Rattle.ft_io.specs.declared.Key.{Key}
use Rattle.ft_io.specs.Key.{key_eq}
use Rattle.server_trait.specs.Service.{Machine}
use Rattle.ft_model.specs.Lawful.{fetched_then, restored_count}
use Rattle.ft_model.specs.Log.{Entry}
use Rattle.ft_model.specs.Node.{Node, Stage as law_stage, Input}
use Rattle.ft_model.specs.Node.Stage.{Fetching}
use Rattle.ft_model.specs.Node.Input.{Message_comes}
use Rattle.ft_model.specs.Opening.{initial_number}
use Rattle.ft_model.specs.Restart.{Fetched, entry_in}
use Rattle.connection_laws.specs.Splice.{delta_from}
use Rattle.wrapped_conn.specs.ConnState.{ConnState}
use Rattle.node_serving.specs.declared.slot.Slot.{Slot}
use Rattle.server_node.specs.declared.stage.Stage.{Stage}
use Rattle.server_node.specs.declared.stage.Stage.TheVariants as stage
use Rattle.node_serving.specs.Loan.{conn_in}

-- the inner TCP has this initial sequence number i, and delta is the difference from it to the number that the client knows for the unit of output at which
-- the entry continues: sisn + u - i, modulo 2^32
pub record ProceedsUnder {S : Type 0} (service : Machine S) (e : Entry) (i : ℕ) (c : ConnState S) : Type 0 where
  pub number : c.endpoint.sending.iss ≡ i
  pub delta : c.south.delta ≡ delta_from service e i

-- there is a connection, and it continues so
abbrev pub IsNumbered : {S : Type 0} → Machine S → Entry → (i : ℕ) → Option (ConnState S) → Type 0
IsNumbered service e i (Some c) = ProceedsUnder service e i c
IsNumbered service e i None = ⊥

-- of these entries, the newest first, each that isn't done continues with the next initial sequence number after those of the earlier ones
abbrev pub AreNumbered : {S : Type 0} → Machine S → (isn : ℕ) → List Fetched → List (Key × Slot S) → Type 0
AreNumbered service isn [] es = Unit {0}
AreNumbered service isn (f ∷ earlier) es =
    (f.head.done ≡ false → IsNumbered service (entry_in f) (initial_number isn (restored_count earlier)) (conn_in (lookup (key_eq f.head.key) es)))
    × AreNumbered service isn earlier es

-- what is fetched once an input has come, while the log is fetched
abbrev pub fetched_in : Node → (count : ℕ) → List Fetched → Input → List Fetched
fetched_in node count fetched (Message_comes message) = unwrap_or (fetched_then node message count fetched) []
fetched_in node count fetched _ = []

abbrev pub fetched_by : Node → law_stage → Input → List Fetched
fetched_by node (Fetching count fetched) input = fetched_in node count fetched input
fetched_by node _ input = []

-- the same of a node that serves after it has restored these entries
abbrev pub AllNumbered : {S : Type 0} → Machine S → (isn : ℕ) → List Fetched → Stage S → Type 0
AllNumbered service isn fetched (stage.Serving s) = AreNumbered service isn fetched s.slots.entries
AllNumbered service isn fetched _ = Unit {0}
