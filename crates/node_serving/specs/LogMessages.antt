-- What a message of the logger reports about a connection.
use Rattle.std.specs.Prelude.{◌≡◌, ℕ, Option, Some, None}
use Rattle.ft_io.specs.declared.Key.{Key}
use Rattle.seq_arith.specs.Message.{Body, Kept, Message}
use Rattle.seq_arith.specs.Message.Body.{StableMsg, ReadsMsg}
use Rattle.node_serving.specs.declared.slot.Slot.{Slot}
use Rattle.node_serving.specs.declared.slot.Slot.TheVariants as slot
use Rattle.node_serving.specs.declared.slot.Opening.{Opening}

-- how much of a connection is logged, if a body reports it
abbrev pub logged_in : Body → Option Kept
logged_in (StableMsg kept) = Some kept
logged_in (ReadsMsg kept) = Some kept
logged_in _ = None

-- a message of this boot reports `kept` of the connection of a key
pub record IsLogged (number : ℕ) (message : Message) (key : Key) (kept : Kept) : Type 0 where
  pub boot : message.boot ≡ number
  pub says : logged_in message.body ≡ Some kept
  pub client : kept.key ≡ key

abbrev pub opening_in : {S : Type 0} → Option (Slot S) → Option Opening
opening_in (Some (slot.Pending o)) = Some o
opening_in _ = None

-- a slot once a live connection has ended
abbrev pub ended : {S : Type 0} → Slot S → Slot S
ended (slot.Live c) = slot.Done
ended (slot.Pending o) = slot.Pending o
ended slot.Done = slot.Done
