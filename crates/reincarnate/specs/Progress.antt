-- An entry of the log as far as it is fetched. Its reads are replayed as soon as their bytes are there.
use Rattle.limits.specs.Limits.{longest_stream}
use Rattle.std.specs.Prelude.{◌≡◌, ◌⊎◌, ℕ, ◌+◌, ◌^◌, ◌<◌, ◌≤◌, ◌==◌, Bool, true, false, ◌&&◌, nat_lt, nat_le, Option, Some, None, List, [], ◌∷◌, ◌++◌}
use Rattle.std.specs.Prelude.{length, sum, if◌then◌else◌}
use Rattle.std.specs.List.{AllByRecursion}
use Rattle.ft_io.specs.declared.Key.{Key}
use Rattle.ft_io.specs.Key.{key_eq}
use Rattle.seq_arith.specs.Message.{EntryHead, Body}
use Rattle.seq_arith.specs.Message.Body.{BytesMsg, CutsMsg}
use Rattle.server_trait.specs.Service.{Served}
use Rattle.log_replay.specs.declared.cuts.Cuts.{Cuts}
use Rattle.reincarnate.specs.declared.lack.Lack.{Lack}
use Rattle.reincarnate.specs.declared.lack.Lack.TheVariants as lack
use Rattle.log_replay.specs.LoggedHead.{IsSegmentSize}
use Rattle.log_replay.specs.ReadLengths.{cuts_of, cuts_through, HaveBytes}
use Rattle.log_replay.specs.Replay.{ReplayState, begun_replay, fed_on}

pub record EntryState (S : Type 0) : Type 0 where
  pub head : EntryHead  -- the entry without its bytes and lengths
  pub bytes : ℕ  -- how many of its bytes are fetched
  pub cuts : Cuts  -- the counts of the reads whose lengths are fetched
  pub waiting : List ℕ  -- the lengths of those that aren't replayed
  pub replay : ReplayState S  -- the service, with what it still holds

-- an entry of which only the head is fetched: its service has made its greeting, and the client may have acknowledged a part of it
abbrev pub begun_entry : {S : Type 0} → S → (greeting : List ℕ) → EntryHead → EntryState S
begun_entry fresh greeting head = record {
  head = head;
  bytes = 0;
  cuts = cuts_of [];
  waiting = [];
  replay = begun_replay fresh greeting head.acked;
}

-- what of it is asked for next: the bytes of the reads whose lengths are there, then further lengths, then the bytes after all reads
abbrev pub lacks : {S : Type 0} → EntryState S → Lack
lacks e =
    if e.head.done then lack.Nothing
    else (if nat_lt e.bytes e.cuts.sum then lack.Bytes
    else (if nat_lt e.cuts.count e.head.reads then lack.Lengths
    else (if nat_lt e.bytes e.head.length then lack.Bytes else lack.Nothing)))

abbrev pub asked_for : {S : Type 0} → Lack → EntryState S → Option Body
asked_for lack.Bytes e = Some (BytesMsg e.head.key e.bytes)
asked_for lack.Lengths e = Some (CutsMsg e.head.key e.cuts.count)
asked_for lack.Nothing e = None

abbrev pub asks_bytes : Lack → Bool
asks_bytes lack.Bytes = true
asks_bytes _ = false

abbrev pub asks_lengths : Lack → Bool
asks_lengths lack.Lengths = true
asks_lengths _ = false

-- waiting lengths, and the service that waits for the bytes of the first
pub record Waiting (S : Type 0) : Type 0 where
  pub lengths : List ℕ
  pub replay : ReplayState S

-- each read whose bytes are there is replayed, in order
abbrev pub replayed_from : {S : Type 0} → (S → List ℕ → Served S) → List ℕ → ReplayState S → Waiting S
replayed_from after [] r = record { lengths = []; replay = r }
replayed_from after (n ∷ more) r =
    if nat_le n (length r.held) then replayed_from after more (fed_on after n r) else record { lengths = n ∷ more; replay = r }

abbrev pub waits_on : {S : Type 0} → EntryState S → Waiting S → EntryState S
waits_on e w = record e { waiting = w.lengths; replay = w.replay }

-- the length of the first waiting read, if its bytes are held
abbrev pub first_whole : List ℕ → (held : ℕ) → Option ℕ
first_whole [] held = None
first_whole (n ∷ more) held = if nat_le n held then Some n else None

-- these bytes answer what is asked for ..
abbrev pub part_fits : {S : Type 0} → Key → (offset count : ℕ) → EntryState S → Bool
part_fits key offset count e = asks_bytes (lacks e) && key_eq key e.head.key && offset == e.bytes && nat_le (e.bytes + count) e.head.length

-- .. and are replayed as far as reads are complete
abbrev pub with_bytes : {S : Type 0} → (S → List ℕ → Served S) → List ℕ → EntryState S → EntryState S
with_bytes after bytes e =
    record (waits_on e (replayed_from after e.waiting (record e.replay { held = e.replay.held ++ bytes }))) { bytes = e.bytes + length bytes }

-- these lengths answer what is asked for ..
abbrev pub lengths_fit : {S : Type 0} → Key → (first count : ℕ) → EntryState S → Bool
lengths_fit key first count e = asks_lengths (lacks e) && key_eq key e.head.key && first == e.cuts.count && nat_le (e.cuts.count + count) e.head.reads

-- .. if each of these reads may follow, and then the counts include them
abbrev pub cuts_with : {S : Type 0} → Key → (first : ℕ) → List ℕ → EntryState S → Option Cuts
cuts_with key first lens e = if lengths_fit key first (length lens) e then cuts_through e.head.length e.head.fin e.cuts lens else None

abbrev pub with_lengths : {S : Type 0} → (S → List ℕ → Served S) → Cuts → List ℕ → EntryState S → EntryState S
with_lengths after cuts lens e = record (waits_on e (replayed_from after (e.waiting ++ lens) e.replay)) { cuts = cuts }

-- the first of these reads isn't complete
abbrev pub IsShort : List ℕ → (held : ℕ) → Type 0
IsShort [] held = Unit {0}
IsShort (n ∷ more) held = held < n

-- how the counts of an entry are related
pub record IsSized {S : Type 0} (e : EntryState S) : Type 0 where
  pub stream : e.head.length ≤ longest_stream
  pub segments : IsSegmentSize e.head.mss
  pub bytes : e.bytes ≤ e.head.length
  pub cuts : e.cuts.sum ≤ e.head.length
  pub have : HaveBytes e.cuts
  pub balance : length e.replay.held + e.cuts.sum ≡ e.bytes + sum e.waiting
  pub most : AllByRecursion (λ n. n ≤ 2048) e.waiting
  pub next : IsShort e.waiting (length e.replay.held)
  -- while a read isn't replayed, or its length is missing, few bytes are held
  pub few : (0 < length e.waiting) ⊎ (e.cuts.count < e.head.reads) → length e.replay.held ≤ 2047

-- nothing is missing of these
abbrev pub AreReady : {S : Type 0} → List (EntryState S) → Type 0
AreReady entries = AllByRecursion (λ e. lacks e ≡ lack.Nothing) entries

-- a complete entry, with its service
pub record ReplayedState (S : Type 0) : Type 0 where
  pub head : EntryHead  -- the entry without its bytes and lengths
  pub cuts : Cuts  -- the counts of all its reads
  pub replay : ReplayState S  -- the service, with the bytes that no read took

abbrev pub replayed_state : {S : Type 0} → EntryState S → ReplayedState S
replayed_state e = record { head = e.head; cuts = e.cuts; replay = e.replay }

-- the next entry that isn't done, and what is after it
abbrev pub next_live : {S : Type 0} → List (EntryState S) → Option (ReplayedState S)
next_live [] = None
next_live (e ∷ entries) = if e.head.done then next_live entries else Some (replayed_state e)

abbrev pub behind_next : {S : Type 0} → List (EntryState S) → List (EntryState S)
behind_next [] = []
behind_next (e ∷ entries) = if e.head.done then behind_next entries else entries
