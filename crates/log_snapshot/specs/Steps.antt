-- The rest of what a snapshot says of an entry, from each step on.
use Rattle.std.specs.Prelude.{◌≡◌, ℕ, ◌+◌, ◌-◌, false, Option, Some, None, Ok, List, [], ◌∷◌, ◌++◌, length, take, drop, slice_index, if◌then◌else◌}
use Rattle.seq_arith.specs.Message.{Part, Body, Message}
use Rattle.seq_arith.specs.Message.Body.{DataMsg, ReadMsg, DoneMsg}
use Rattle.seq_arith.specs.MessageGrammar.{reading_by}
use Rattle.seq_arith.specs.declared.kinds.Grammar.{Grammar}
use Rattle.ft_model.specs.Log.{Entry}
use Rattle.long_laws.specs.Snapshot.{said, joined, data_of, last_data, reads_of, done_of, messages_of}
use Rattle.log_snapshot.specs.declared.writing_steps.Step.{Step}
use Rattle.log_snapshot.specs.declared.writing_steps.Step.TheVariants.{Open, Bytes, State, Reads, Done}

-- a part of an entry's bytes
abbrev pub part_at : Entry → (offset : ℕ) → Part
part_at e offset = record { key = e.key; offset = offset; acked = 0; fin = false; more = false; bytes = take 1024 (drop offset e.bytes) }

abbrev pub read_at : Entry → (index : ℕ) → Body
read_at e index = ReadMsg e.key index (slice_index e.lengths index)

abbrev pub done_at : (boot : ℕ) → Entry → Option Message
done_at boot e = if e.done then Some (said boot (DoneMsg e.key)) else None

-- what comes after the bytes
abbrev pub after_bytes : (boot : ℕ) → Entry → List Message
after_bytes boot e = said boot (DataMsg (last_data e)) ∷ (reads_of boot e.key 0 e.lengths ++ done_of boot e)

-- these bytes are one message in this grammar, or none
abbrev pub IsSaid : Grammar → Option Message → List ℕ → Type 0
IsSaid grammar None bytes = bytes ≡ []
IsSaid grammar (Some message) bytes = reading_by grammar bytes ≡ Ok message

-- these messages say the rest
abbrev pub IsRest : (boot : ℕ) → Entry → Option Step → List Message → Type 0
IsRest boot e (Some Open) messages = (pieces : List (List ℕ)) × (joined pieces ≡ e.bytes) × (messages ≡ messages_of boot e pieces)
IsRest boot e (Some (Bytes offset)) messages =
    (pieces : List (List ℕ)) × (joined pieces ≡ drop offset e.bytes) × (messages ≡ data_of boot e.key offset pieces ++ after_bytes boot e)
IsRest boot e (Some State) messages = messages ≡ after_bytes boot e
IsRest boot e (Some (Reads index)) messages = messages ≡ reads_of boot e.key index (drop index e.lengths) ++ done_of boot e
IsRest boot e (Some Done) messages = messages ≡ done_of boot e
IsRest boot e None messages = messages ≡ []

-- at most so many steps are left
abbrev pub steps_left : Entry → Option Step → ℕ
steps_left e (Some Open) = length e.bytes + (length e.lengths + 5)
steps_left e (Some (Bytes offset)) = (length e.bytes - offset) + (length e.lengths + 4)
steps_left e (Some State) = length e.lengths + 3
steps_left e (Some (Reads index)) = (length e.lengths - index) + 2
steps_left e (Some Done) = 1
steps_left e None = 0
