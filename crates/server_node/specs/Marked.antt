-- What holds of a node that marks, whatever has arrived.
use Rattle.std.specs.Coded.{×_prop, Unit-prop, le_prop}
use Rattle.std.specs.Prelude.{◌≡◌, ◌%◌, []}
use Rattle.seq_arith.specs.MessageGrammar.{behind_of}
use Rattle.mark_laws.specs.MarkedLog.{AnyMessage}
use Rattle.mark_laws.specs.MarkedLog.AnyMessage.{About_mark, Of_log}
use Rattle.std.specs.List.{AllByRecursion-prop, IsDistinct}
use Rattle.std.specs.Map.{keys_of}
use Rattle.ft_io.specs.Key.{key_eq}
use Rattle.std.proofs.Math.Nat.{ℕ_set}
use Rattle.node_serving.specs.declared.identity.Identity.{Identity}
use Rattle.server_node.specs.declared.marked.Marked.{Marked}
use Rattle.server_node.specs.declared.marked.MarkedStage.{MarkedStage}
use Rattle.server_node.specs.declared.marked.MarkedStage.TheVariants as marked
use Rattle.server_node.specs.FetchStage.{IsOf, IsOf-prop}
use Rattle.node_serving.specs.Openings.{IsCounted}
use Rattle.node_serving.specs.Slots.{AllSound, IsSoundSlot, IsSoundSlot-prop}

-- a question that isn't about marks has no bytes after its fields
abbrev pub IsBareQuestion : AnyMessage → Type 0
IsBareQuestion (Of_log message) = behind_of message.body ≡ []
IsBareQuestion (About_mark message) = Unit {0}

-- no key has two slots
abbrev pub AreApart : {S : Type 0} → MarkedStage S → Type 0
AreApart (marked.Serving s) = IsDistinct key_eq (keys_of s.slots.entries)
AreApart _ = Unit {0}

-- what the calls at a stage require of it
abbrev pub IsSoundAt : {S : Type 0} → Identity → MarkedStage S → Type 0
IsSoundAt who marked.Asking = Unit {0}
IsSoundAt who (marked.Fetching f) = IsOf who f
IsSoundAt who (marked.Serving s) = AllSound who s.slots.entries × IsCounted who.isn s.next.0

abbrev pub IsSoundMarked : {S : Type 0} → Identity → Marked S → Type 0
IsSoundMarked who node = IsSoundAt who node.stage

sound-prop : {S : Type 0} (who : Identity) (at : MarkedStage S) → IsProp (IsSoundAt who at)
sound-prop who marked.Asking = Unit-prop
sound-prop who (marked.Fetching f) = IsOf-prop who f
sound-prop who (marked.Serving s) =
    ×_prop (AllByRecursion-prop (λ e. IsSoundSlot who e.0 e.1) (λ e. IsSoundSlot-prop who e.0 e.1) s.slots.entries)
    (×_prop (ℕ_set (s.next.0 % 65536) (who.isn % 65536)) le_prop)

pub IsSoundMarked-prop : {S : Type 0} (who : Identity) (node : Marked S) → IsProp (IsSoundMarked who node)
IsSoundMarked-prop who node = sound-prop who node.stage
