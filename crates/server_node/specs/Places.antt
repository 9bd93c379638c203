-- What a node without marks has for its keys, one by one.
use Rattle.std.specs.Prelude.{◌≡◌, ℕ, Bool, true, false, find, option_map, Option, Some, None, List, []}
use Rattle.std.specs.Map.{remove_entry}
use Rattle.ft_io.specs.declared.Key.{Key}
use Rattle.ft_io.specs.Key.{key_eq}
use Rattle.seq_arith.specs.Message.{EntryHead}
use Rattle.server_trait.specs.declared.Service.{Ghosts}
use Rattle.server_trait.specs.Service.{machine}
use Rattle.ft_model.specs.Restart.{Fetched}
use Rattle.node_serving.specs.declared.serving.Serving.{Serving}
use Rattle.node_serving.specs.declared.slot.Slot.{Slot}
use Rattle.node_serving.specs.declared.slot.Slot.TheVariants as slot
use Rattle.server_node.specs.declared.stage.Stage.{Stage}
use Rattle.server_node.specs.declared.stage.Stage.TheVariants as stage
use Rattle.server_node.specs.FetchStage.{FetchingStands}

-- the slots of a node that serves, in the order of its places
abbrev pub slots_at : {S : Type 0} → Stage S → List (Key × Slot S)
slots_at (stage.Serving s) = s.slots.entries
slots_at _ = []

abbrev pub is_serving : {S : Type 0} → Stage S → Bool
is_serving (stage.Serving s) = true
is_serving _ = false

abbrev pub is_done : {S : Type 0} → Option (Slot S) → Bool
is_done (Some slot.Done) = true
is_done _ = false

-- the head of a key's entry, while the log is fetched
abbrev pub HasFetched : {S : Type 0} → Ghosts S → (kind : ℕ) → List Fetched → Stage S → Key → Option EntryHead → Type 0
HasFetched s kind fetched (stage.Fetching f) key head =
    f.kind ≡ kind → (count : ℕ) → FetchingStands (machine (s.started kind) s.after s.greeting) count fetched f
    → head ≡ option_map (λ x. x.head) (find (λ x. key_eq x.head.key key) fetched)
HasFetched s kind fetched _ key head = head ≡ None

-- the slot of a key is removed, and all else stays
pub record ForgetsSlot {S : Type 0} (key : Key) (was now : Serving S) : Type 0 where
  pub next : now.next ≡ was.next
  pub slots : now.slots.entries ≡ remove_entry (key_eq key) was.slots.entries

abbrev pub Forgets : {S : Type 0} → Key → (was now : Stage S) → Type 0
Forgets key (stage.Serving was) (stage.Serving now) = ForgetsSlot key was now
Forgets key (stage.Serving was) _ = ⊥
Forgets key was now = now ≡ was
