-- A log as messages: for each entry an Open, its bytes in pieces, one Data with its FIN and what is acknowledged, its reads, and a Done if it is done. A
-- journal may begin with them in place of all messages that made the log.
use Rattle.limits.specs.Limits.{most_entries}
use Rattle.std.specs.Prelude.{◌≡◌, ℕ, ◌+◌, ◌≤◌, true, false, map, if◌then◌else◌, List, [], ◌∷◌, ◌++◌, length}
use Rattle.std.specs.List.{AllByRecursion}
use Rattle.ft_io.specs.declared.Key.{Key}
use Rattle.seq_arith.specs.Message.{Part, Body, Message}
use Rattle.seq_arith.specs.Message.Body.{HelloMsg, OpenMsg, DataMsg, ReadMsg, DoneMsg}
use Rattle.ft_model.specs.Keys.{AreDistinct}
use Rattle.ft_model.specs.Log.{Log, Entry, numbers_of_entry}
use Rattle.ft_model.specs.Restart.{all_follow}

abbrev pub said : ℕ → Body → Message
said boot body = record { boot = boot; body = body }

abbrev pub joined : List (List ℕ) → List ℕ
joined [] = []
joined (piece ∷ pieces) = piece ++ joined pieces

-- bytes in pieces, one after the other
abbrev pub data_of : ℕ → Key → ℕ → List (List ℕ) → List Message
data_of boot key offset [] = []
data_of boot key offset (piece ∷ pieces) =
    said boot (DataMsg (record { key = key; offset = offset; acked = 0; fin = false; more = false; bytes = piece })) ∷ data_of boot key
    (offset + length piece) pieces

abbrev pub last_data : Entry → Part
last_data e = record { key = e.key; offset = length e.bytes; acked = e.acknowledged; fin = e.fin; more = false; bytes = [] }

abbrev pub reads_of : ℕ → Key → ℕ → List ℕ → List Message
reads_of boot key index [] = []
reads_of boot key index (n ∷ lengths) = said boot (ReadMsg key index n) ∷ reads_of boot key (index + 1) lengths

abbrev pub done_of : ℕ → Entry → List Message
done_of boot e = if e.done then said boot (DoneMsg e.key) ∷ [] else []

abbrev pub messages_of : ℕ → Entry → List (List ℕ) → List Message
messages_of boot e pieces =
    said boot (OpenMsg (numbers_of_entry e)) ∷ (data_of boot e.key 0 pieces
    ++ (said boot (DataMsg (last_data e)) ∷ (reads_of boot e.key 0 e.lengths ++ done_of boot e)))

-- in pieces of any lengths
abbrev pub AreSaid : ℕ → List Entry → List Message → Type 0
AreSaid boot [] messages = messages ≡ []
AreSaid boot (e ∷ entries) messages =
    (pieces : List (List ℕ)) × (rest : List Message) × (joined pieces ≡ e.bytes) × (messages ≡ messages_of boot e pieces ++ rest) × AreSaid boot entries rest

abbrev pub IsSnapshotOf : Log → List Message → Type 0
IsSnapshotOf log messages = (rest : List Message) × (messages ≡ said log.boot HelloMsg ∷ rest) × AreSaid log.boot log.entries rest

-- what the log keeps by its own rules
abbrev pub CanReplay : Entry → Type 0
CanReplay e = all_follow (length e.bytes) e.fin [] e.lengths ≡ true

pub record IsOrdered (log : Log) : Type 0 where
  pub distinct : AreDistinct (map (λ e. e.key) log.entries)
  pub few : length log.entries ≤ most_entries
  pub reads : AllByRecursion CanReplay log.entries
